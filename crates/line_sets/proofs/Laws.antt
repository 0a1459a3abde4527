-- The laws of specs/Laws: what is true of the sets of OAM.
use Rattle.std.proofs.Common.{◌≡◌, ℕ, zero, suc, ◌*◌, ◌/◌, ◌%◌, ◌<◌, Bool, true, false, cond, ◌&&◌, ◌||◌, eqb, ltb, List, [], ◌∷◌, length, get_or, sym, refl, ap, ◌∙◌, arith, length-set, get_or-set_other, ltb-true, lt-ltb, eq-eqb, ne_eqb, eqb-true}
use borrow.Author.Tests.{eqb-false}
use Rattle.logic.proofs.Both.{both}
use Rattle.logic.proofs.Tests.{by_test, clash, by_number}
use Rattle.refusals.specs.Ladder.{lowest, own}
use Rattle.refusals.proofs.Given.{left_done, left_refused}
use Rattle.wrap.specs.Wrap.{bit_at}
use Rattle.hardware.specs.Screen.{height}
use Rattle.hardware.specs.Tables.{oam_bytes, oam_fits}
use Rattle.sprite.specs.Oam.{in_range}
use Rattle.sprite.specs.Pick.{up_to, those, touches, lowest_ten, is_tall, pick_of}
use Rattle.sprite.specs.Pick as sprite
use Rattle.sprite.proofs.Those.{those_append}
use Rattle.memory.specs.Writes.{oam_written}
use Rattle.oam_bug.specs.Kinds.{corrupted}
use Rattle.oam_bug.proofs.Rules.{length_corrupted}
use Rattle.line_sets.specs.Sets.{entries, set_of, is_set, members, put}
use Rattle.line_sets.specs.Lines.{AreOf, touching, built, moved_on, moved}
use Rattle.line_sets.specs.Numbers.{build_number, is_asked, line_number, pick_number}
use Rattle.line_sets.specs.Numbers.{entry_at, old_y, new_y, are_sets, write_number}
use Rattle.line_sets.specs.Calls.{Build, count_of, first_on, pick_from}
use Rattle.line_sets.specs.Laws.{BuiltAreTrue, TrueAreBuilt, Builds, KeepsTrue, TrueAreTaken, WritesAsBefore, OthersStay, NoYNoChange, OtherBytes}
use Rattle.line_sets.specs.Laws.{CountsTouching, FindsFirst, PicksAsBefore, TrueAfterWrite, TrueAfterBug}
use Rattle.line_sets.proofs.Bits.{bit_of, of_bits, bits_same}
use Rattle.line_sets.proofs.Lines.{per_line_law, per_line_at, per_line_length, are_sets_all}
use Rattle.line_sets.proofs.Moves.{set_of_law}
use Rattle.line_sets.proofs.Accepted.{picks, writes}

-- tests that agree on 0 to n - 1 keep the same of them
those_same : (t u : ℕ → Bool) (n : ℕ) → ((i : ℕ) → i < n → t i ≡ u i) → those t (up_to n) ≡ those u (up_to n)
unfolding up_to those
those_same t u zero h = refl
those_same t u (suc n) h =
    those_append t (up_to n) (n ∷ []) ∙ rw (those_same t u n (λ i l. h i (omega arith)), h n (omega arith)) (sym (those_append u (up_to n) (n ∷ [])))

-- the sets built afresh
module _ (oam : List ℕ) (tall : ℕ) where
  built_at : (line : ℕ) → line < height → get_or (built oam tall) line 0 ≡ touching oam tall line
  unfolding built
  built_at = per_line_at (touching oam tall)

  built_length : length (built oam tall) ≡ height
  unfolding built
  built_length = per_line_length (touching oam tall)

pub built_are_true : BuiltAreTrue
built_are_true oam tall =
    record {
      sized = built_length oam tall;
      bits = λ line i h l. rw (built_at oam tall line h) (bit_of (touches oam line tall) entries i l);
      no_more = λ line h. rw (built_at oam tall line h) (set_of_law (touches oam line tall));
    }

true_at : (oam : List ℕ) (tall : ℕ) (sets : List ℕ) → AreOf oam tall sets → (line : ℕ) → line < height
    → get_or sets line 0 ≡ touching oam tall line
true_at oam tall sets w line h =
    of_bits (touches oam line tall) entries (get_or sets line 0) (ltb-true _ _ (w.no_more line h)) (λ i l. w.bits line i h l)

-- sets that are each the one built are those built
built_from : (oam : List ℕ) (tall : ℕ) (sets : List ℕ) → length sets ≡ height
    → ((line : ℕ) → line < height → get_or sets line 0 ≡ touching oam tall line) → sets ≡ built oam tall
unfolding built
built_from oam tall sets l h = per_line_law (touching oam tall) sets l h

pub true_are_built : TrueAreBuilt
true_are_built oam tall sets w = built_from oam tall sets w.sized (true_at oam tall sets w)

built_true : (oam : List ℕ) (tall : ℕ) (sets : List ℕ) → sets ≡ built oam tall → AreOf oam tall sets
built_true oam tall sets e = rw e (built_are_true oam tall)

pub builds : Builds
builds oam sets tall r sets' c = (
  λ h. built_true oam tall sets' (left_done c.number (built oam tall) sets c.built h),
  λ h. left_refused c.number (built oam tall) sets c.built h,
)

-- sets whose tests agree but for entry i
module _ (t u : ℕ → Bool) (i : ℕ) (agree : (j : ℕ) → (j ≡ i → ⊥) → t j ≡ u j) where
  put_is : put i (u i) (set_of t) ≡ set_of u
  put_is =
      bits_same (λ j. cond (eqb j i) (u i) (bit_at (set_of t) j)) u entries
      (λ j l. ap (λ (b : Bool). cond (eqb j i) (u i) b) (bit_of t entries j l) ∙ each j (eqb j i) refl)
    where
      each : (j : ℕ) (v : Bool) → eqb j i ≡ v → cond v (u i) (t j) ≡ u j
      each j true e = ap u (sym (eqb-true j i e))
      each j false e = agree j (eqb-false j i e)

  same_is : t i ≡ u i → set_of t ≡ set_of u
  same_is h = bits_same t u entries (λ j l. each j (eqb j i) refl)
    where
      each : (j : ℕ) (v : Bool) → eqb j i ≡ v → t j ≡ u j
      each j true e = let same = eqb-true j i e in rw same h
      each j false e = agree j (eqb-false j i e)

-- the set of a line after a write
module _ (i tall old new : ℕ) (sets : List ℕ) where
  moved_none : old ≡ new → moved i tall old new sets ≡ sets
  unfolding moved
  moved_none e = rw (eq-eqb old new e)

  moved_at : (old ≡ new → ⊥) → (line : ℕ) → line < height
      → get_or (moved i tall old new sets) line 0 ≡ moved_on i tall old new sets line
  unfolding moved
  moved_at n line h = rw (ne_eqb old new n) (per_line_at (moved_on i tall old new sets) line h)

  moved_length : length sets ≡ height → length (moved i tall old new sets) ≡ height
  unfolding moved
  moved_length l =
      by_test (λ (x : List ℕ). length x ≡ height) (eqb old new) (λ e. l) (λ e. per_line_length (moved_on i tall old new sets))

-- a write to entry i leaves the y of the others
touches_other : (oam : List ℕ) (address value line tall j : ℕ) → (j ≡ entry_at address → ⊥)
    → touches oam line tall j ≡ touches (oam_written oam address value) line tall j
touches_other oam address value line tall j n =
    ap (λ (y : ℕ). in_range y line tall) (sym (get_or-set_other oam (address % 256) (4 * j) value 0 (λ z. n (omega (arith, z)))))

written_at : (oam : List ℕ) (tall address value : ℕ) (sets : List ℕ) → AreOf oam tall sets → (line : ℕ) → line < height
    → get_or (moved (entry_at address) tall (old_y oam address) (new_y oam address value) sets) line 0
    ≡ touching (oam_written oam address value) tall line
written_at oam tall address value sets w line h =
    by_number _ old new
    (λ e. rw (moved_none i tall old new sets e) (given ∙ same_is t u i other (ap (λ (y : ℕ). in_range y line tall) e)))
    (λ n. moved_at i tall old new sets n line h ∙ rw given (each (in_range old line tall) (in_range new line tall) refl refl))
  where
    i : ℕ
    i = entry_at address

    old : ℕ
    old = old_y oam address

    new : ℕ
    new = new_y oam address value

    t : ℕ → Bool
    t = touches oam line tall

    u : ℕ → Bool
    u = touches (oam_written oam address value) line tall

    given : get_or sets line 0 ≡ set_of t
    given = true_at oam tall sets w line h

    other : (j : ℕ) → (j ≡ i → ⊥) → t j ≡ u j
    other = touches_other oam address value line tall

    each : (a b : Bool) → t i ≡ a → u i ≡ b → cond (a || b) (put i b (set_of t)) (set_of t) ≡ set_of u
    each true b ea eb = rw eb at (put_is t u i other)
    each false true ea eb = rw eb at (put_is t u i other)
    each false false ea eb = same_is t u i other (ea ∙ sym eb)

whole : (oam : List ℕ) (tall : ℕ) (sets : List ℕ) → sets ≡ built oam tall → AreOf oam tall sets × (sets ≡ built oam tall)
whole oam tall sets e = (built_true oam tall sets e, e)

pub keeps_true : KeepsTrue
keeps_true oam sets tall address value r oam' sets' c w =
    by_number (AreOf oam' tall sets' × (sets' ≡ built oam' tall)) r 0
    (λ h.
    let o : oam' ≡ oam_written oam address value = left_done c.number _ _ c.written h in
    let s : sets' ≡ moved (entry_at address) tall (old_y oam address) (new_y oam address value) sets = left_done c.number _ _ c.renewed h in
    rw (o, s)
    (whole _ _ _ (built_from _ _ _ (moved_length (entry_at address) tall (old_y oam address) (new_y oam address value) sets w.sized)
    (written_at oam tall address value sets w))))
    (λ h.
    let o : oam' ≡ oam = left_refused c.number _ _ c.written h in
    let s : sets' ≡ sets = left_refused c.number _ _ c.renewed h in
    rw (o, s) (w, true_are_built oam tall sets w))

-- a number that is not given: the tests passed
none_given : (sized mine : Bool) → sized ≡ true → mine ≡ true → lowest sized true (own mine 4) ≡ 0
unfolding lowest
none_given sized mine s m = rw (s, m)

pub true_are_taken : TrueAreTaken
unfolding write_number
true_are_taken oam sets tall address value w whole t h =
    let sets_of : (y : ℕ) → are_sets sets y tall ≡ true = λ y. are_sets_all sets y tall (λ line l r. w.no_more line l) in
    none_given _ _ (both (eq-eqb _ _ whole) (eq-eqb _ _ w.sized))
    (both (both (both t (lt-ltb _ _ h)) (sets_of (old_y oam address))) (sets_of (new_y oam address value)))

pub writes_as_before : WritesAsBefore
writes_as_before oam sets tall address value r oam' sets' c w whole t =
    by_test (λ (o : List ℕ). oam' ≡ o) (ltb (address % 256) oam_bytes)
    (λ e.
    let done : r ≡ 0 = c.number ∙ true_are_taken oam sets tall address value w whole t (ltb-true _ _ e) in
    left_done c.number _ _ c.written done)
    (λ e.
    left_refused c.number _ _ c.written
    (λ z. clash (lt-ltb _ _ (writes oam sets tall address value (sym c.number ∙ z)).can.inside) e))

pub others_stay : OthersStay
others_stay oam sets tall address value r oam' sets' c line h a b =
    by_number (get_or sets' line 0 ≡ get_or sets line 0) r 0
    (λ d.
    let s : sets' ≡ moved (entry_at address) tall (old_y oam address) (new_y oam address value) sets = left_done c.number _ _ c.renewed d in
    rw s
    (by_number _ (old_y oam address) (new_y oam address value)
    (λ e. ap (λ (l : List ℕ). get_or l line 0) (moved_none (entry_at address) tall (old_y oam address) (new_y oam address value) sets e))
    (λ n. moved_at (entry_at address) tall (old_y oam address) (new_y oam address value) sets n line h ∙ rw (a, b) refl)))
    (λ d. ap (λ (l : List ℕ). get_or l line 0) (left_refused c.number _ _ c.renewed d))

pub no_y_no_change : NoYNoChange
no_y_no_change oam sets tall address value r oam' sets' c e =
    by_number (sets' ≡ sets) r 0
    (λ d. left_done c.number _ _ c.renewed d ∙ moved_none (entry_at address) tall (old_y oam address) (new_y oam address value) sets e)
    (λ d. left_refused c.number _ _ c.renewed d)

pub other_bytes : OtherBytes
other_bytes oam address value n =
    sym (get_or-set_other oam (address % 256) (4 * (address % 256 / 4)) value 0 (λ z. n (omega (arith, z))))

-- read off true sets
module _ (oam : List ℕ) (tall : ℕ) (sets : List ℕ) (w : AreOf oam tall sets) (line : ℕ) (h : line < height) where
  members_true : members (get_or sets line 0) ≡ those (touches oam line tall) (up_to entries)
  members_true = those_same (bit_at (get_or sets line 0)) (touches oam line tall) entries (λ i l. w.bits line i h l)

  line_taken : line_number sets line ≡ 0
  unfolding line_number
  line_taken = none_given _ _ (eq-eqb _ _ w.sized) (both (lt-ltb _ _ h) (w.no_more line h))

pub counts_touching : CountsTouching
unfolding count_of
counts_touching oam tall sets w line h = rw (line_taken oam tall sets w line h, members_true oam tall sets w line h)

pub finds_first : FindsFirst
unfolding first_on
finds_first oam tall sets w line h = rw (line_taken oam tall sets w line h, members_true oam tall sets w line h)

-- both selections are refused by the same number
module _ (oam : List ℕ) (tall : ℕ) (sets : List ℕ) (w : AreOf oam tall sets) (t : is_tall tall ≡ true) (line : ℕ) where
  same_terms : is_asked sets line ≡ sprite.pickable line tall
  same_terms = by (ltb line height) refl
    where
      by : (v : Bool) → ltb line height ≡ v → v && is_set (get_or sets line 0) ≡ v && is_tall tall
      by true e = w.no_more line (ltb-true line height e) ∙ sym t
      by false e = refl

  same_number : pick_number oam sets line ≡ sprite.pick_number oam line tall
  unfolding pick_number sprite.pick_number
  same_number = rw (same_terms, eq-eqb (length sets) height w.sized) (ap (λ (v : Bool). lowest v true (own (sprite.pickable line tall) 4)) (with_true (oam_fits oam)))
    where
      with_true : (v : Bool) → v && true ≡ v
      with_true true = refl
      with_true false = refl

pub picks_as_before : PicksAsBefore
unfolding pick_from pick_of lowest_ten
picks_as_before oam tall sets w t line =
    by_number (pick_from oam sets line ≡ pick_of oam line tall) (pick_number oam sets line) 0
    (λ e.
    let h = (picks oam sets line e).asked.in_picture in
    rw (← same_number oam tall sets w t line, e, members_true oam tall sets w line h))
    (λ n. rw (← same_number oam tall sets w t line, ne_eqb _ 0 n))

-- OAM changed behind the sets
taken_again : (oam sets : List ℕ) (tall r : ℕ) (sets' : List ℕ) → length oam ≡ oam_bytes → length sets ≡ height → is_tall tall ≡ true
    → Build oam sets tall r sets' → (r ≡ 0) × AreOf oam tall sets'
unfolding build_number
taken_again oam sets tall r sets' whole sized t c =
    let done : r ≡ 0 = c.number ∙ none_given _ _ (both (eq-eqb _ _ whole) (eq-eqb _ _ sized)) t in
    (done, (builds oam sets tall r sets' c).0 done)

pub true_after_write : TrueAfterWrite
true_after_write oam sets tall address value r sets' whole sized t c =
    taken_again (oam_written oam address value) sets tall r sets' (length-set oam (address % 256) value ∙ whole) sized t c

pub true_after_bug : TrueAfterBug
true_after_bug oam sets tall kind row r sets' whole sized t c =
    taken_again (corrupted kind oam row) sets tall r sets' (length_corrupted kind oam row ∙ whole) sized t c
