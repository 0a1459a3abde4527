-- The entries of a set, read off its number: their count is the count of ones, the first is the count of trailing zeros, and
-- the others are the entries of the number less that bit.
use Rattle.std.proofs.Common.{◌≡◌, ℕ, zero, suc, ◌+◌, ◌-◌, ◌*◌, ◌/◌, ◌%◌, ◌^◌, ◌<◌, ◌≤◌, Bool, true, false, cond, eqb, ◌⊎◌, List, [], ◌∷◌, ◌++◌, length, sym, refl, ap, ◌∙◌, inl, inr, ⊎_elim, le_of_suc-le-suc, add-zero, add-suc, mod-lt, suc-add, pow-suc, zero-add, div-one, add-one, one-add, arith, lit<, lit≤, shr-shr, shr_lt, ltb-true}
use lib.Arith.{lt-one}
use lib.Count.{ones, ones_step, count_trailing_zeros}
use Rattle.wrap.specs.Wrap.{bit_at}
use Rattle.sprite.specs.Pick.{up_to, those}
use Rattle.std.specs.Prelude.{Option, Some, None}
use borrow.Author.Tests.{eqb-false, eqb-true}
use Rattle.line_sets.specs.Sets.{entries, is_set, members, first_of}
use Rattle.line_sets.proofs.Bits.{Digit, off, on, digit, digit_is}

-- n numbers from i on
span : ℕ → ℕ → List ℕ
span zero i = []
span (suc n) i = i ∷ span n (suc i)

span_end : (n i : ℕ) → span (suc n) i ≡ span n i ++ (n + i) ∷ []
unfolding span
span_end zero i = rw zero-add
span_end (suc n) i = rw (suc-add, ← add-suc n i) (ap (λ (l : List ℕ). i ∷ l) (span_end n (suc i)))

up_to_span : (n : ℕ) → up_to n ≡ span n 0
unfolding up_to span
up_to_span zero = refl
up_to_span (suc n) = rw (up_to_span n) (sym (rw add-zero at (span_end n 0)))

-- the places of the set bits among the n low ones, counted from i: lowest first
found : ℕ → ℕ → ℕ → List ℕ
found zero i s = []
found (suc n) i s = cond (eqb (s % 2) 1) (i ∷ found n (suc i) (s / 2)) (found n (suc i) (s / 2))

found_those : (n i s : ℕ) → those (bit_at s) (span n i) ≡ found n i (s / 2 ^ i)
unfolding those span found
found_those zero i s = refl
found_those (suc n) i s =
    let half : s / 2 ^ suc i ≡ s / 2 ^ i / 2 = sym (shr-shr s i 1 ∙ ap (λ (k : ℕ). s / 2 ^ k) (add-one i)) in
    ap (λ (l : List ℕ). cond (bit_at s i) (i ∷ l) l) (found_those n (suc i) s ∙ ap (found n (suc i)) half)

found_members : (s : ℕ) → members s ≡ found entries 0 s
found_members s = rw (up_to_span entries) (found_those entries 0 s ∙ ap (found entries 0) (div-one s))

-- the lowest bit, 0 or 1
parity : {d : ℕ} → Digit d → (d ≡ 0) ⊎ (d ≡ 1)
parity off = inl refl
parity on = inr refl

lowest : (s : ℕ) → Digit (s % 2)
lowest s = digit (s % 2) (mod-lt s (lit< tt))

half_lt : {s : ℕ} (n : ℕ) → s < 2 ^ suc n → s / 2 < 2 ^ n
half_lt n h = shr_lt n 1 (rw (add-one n) h)

-- their count
longer : (v : Bool) (i : ℕ) (l : List ℕ) → length (cond v (i ∷ l) l) ≡ cond v 1 0 + length l
longer true i l = sym (one-add (length l))
longer false i l = sym (zero-add (length l))

found_count : (n i s : ℕ) → s < 2 ^ n → length (found n i s) ≡ ones s
unfolding found ones
found_count zero i s h = rw (lt-one h)
found_count (suc n) i s h =
    longer (eqb (s % 2) 1) i (found n (suc i) (s / 2)) ∙ rw (found_count n (suc i) (s / 2) (half_lt n h), ← digit_is (lowest s))
    (sym (ones_step s))

module _ (n i s : ℕ) where
  found_even : s % 2 ≡ 0 → found (suc n) i s ≡ found n (suc i) (s / 2)
  unfolding found
  found_even e = rw e

  found_odd : s % 2 ≡ 1 → found (suc n) i s ≡ i ∷ found n (suc i) (s / 2)
  unfolding found
  found_odd e = rw e

module _ (k s : ℕ) where
  zeros_even : s % 2 ≡ 0 → count_trailing_zeros (suc k) s ≡ suc (count_trailing_zeros k (s / 2))
  unfolding count_trailing_zeros
  zeros_even e = rw e

  zeros_odd : s % 2 ≡ 1 → count_trailing_zeros (suc k) s ≡ 0
  unfolding count_trailing_zeros
  zeros_odd e = rw e

-- the lowest set bit taken out of a number of n bits, the zeros below it counted in k bits
record Taken (k n i s : ℕ) : Type 0 where
  pub place : count_trailing_zeros k s < n
  pub fits : 2 ^ count_trailing_zeros k s ≤ s
  pub rest : found n i s ≡ (i + count_trailing_zeros k s) ∷ found n i (s - 2 ^ count_trailing_zeros k s)

taken_odd : (k n i s : ℕ) → s % 2 ≡ 1 → Taken (suc k) (suc n) i s
taken_odd k n i s e =
    let z = zeros_odd k s e in
    let one_less : (s - 1) / 2 ≡ s / 2 = omega arith in
    let even : (s - 1) % 2 ≡ 0 = omega arith in
    record {
      place = rw z (omega arith);
      fits = rw z (omega arith);
      rest = rw (z, add-zero) (found_odd n i s e ∙ ap (λ (l : List ℕ). i ∷ l) (sym (found_even n i (s - 1) even ∙ ap (found n (suc i)) one_less)));
    }

taken_even : (k n i s : ℕ) → s % 2 ≡ 0 → Taken k n (suc i) (s / 2) → Taken (suc k) (suc n) i s
taken_even k n i s e w =
    let t : ℕ = count_trailing_zeros k (s / 2) in
    let z = zeros_even k s e in
    let f : 2 ^ t ≤ s / 2 = w.fits in
    let half : (s - 2 ^ t * 2) / 2 ≡ s / 2 - 2 ^ t = omega (arith, f) in
    let even : (s - 2 ^ t * 2) % 2 ≡ 0 = omega (arith, f) in
    record {
      place = rw z (omega (arith, w.place));
      fits = rw (z, pow-suc) (omega (arith, f));
      rest =
          rw (z, pow-suc, add-suc)
          (found_even n i s e ∙ w.rest ∙ rw (suc-add, ← half) (ap (λ (l : List ℕ). suc (i + t) ∷ l) (sym (found_even n i (s - 2 ^ t * 2) even))));
    }

take_lowest : (k n i s : ℕ) → n ≤ k → s < 2 ^ n → (s ≡ 0 → ⊥) → Taken k n i s
take_lowest k zero i s l h p = absurd (p (lt-one h))
take_lowest zero (suc n) i s l h p = absurd (omega arith)
take_lowest (suc k) (suc n) i s l h p =
    ⊎_elim
    (λ e. taken_even k n i s e (take_lowest k n (suc i) (s / 2) (le_of_suc-le-suc l) (half_lt n h) (λ z. p (omega arith))))
    (λ e. taken_odd k n i s e)
    (parity (lowest s))

found_none : (n i : ℕ) → found n i 0 ≡ []
unfolding found
found_none zero i = refl
found_none (suc n) i = found_none n (suc i)

-- the same of sets
pub members_none : members 0 ≡ []
members_none = found_members 0 ∙ found_none entries 0

pub members_count : (s : ℕ) → is_set s ≡ true → length (members s) ≡ ones s
members_count s h = rw (found_members s) (found_count entries 0 s (ltb-true _ _ h))

-- the lowest entry of a set, and the others
pub record Lowered (s : ℕ) : Type 0 where
  pub entry : count_trailing_zeros 64 s < entries
  pub fits : 2 ^ count_trailing_zeros 64 s ≤ s
  pub rest : members s ≡ count_trailing_zeros 64 s ∷ members (s - 2 ^ count_trailing_zeros 64 s)

pub lowered : (s : ℕ) → is_set s ≡ true → (s ≡ 0 → ⊥) → Lowered s
lowered s h p =
    let w = take_lowest 64 entries 0 s (lit≤ tt) (ltb-true _ _ h) p in
    record {
      entry = w.place;
      fits = w.fits;
      rest = rw (found_members s, found_members (s - 2 ^ count_trailing_zeros 64 s)) (w.rest ∙ rw zero-add refl);
    }

-- by the entry that comes first
pub record Lowest (s i : ℕ) : Type 0 where
  pub entry : i < entries
  pub fits : 2 ^ i ≤ s
  pub rest : members s ≡ i ∷ members (s - 2 ^ i)

pub lowest_of : (s i : ℕ) → is_set s ≡ true → Some i ≡ first_of (members s) → Lowest s i
lowest_of s i h e = by (eqb s 0) refl
  where
    some_is : {j : ℕ} → ◌≡◌ {A = Option ℕ} (Some i) (Some j) → i ≡ j
    some_is f = cc

    by : (v : Bool) → eqb s 0 ≡ v → Lowest s i
    by true z =
        let none : ◌≡◌ {A = Option ℕ} (Some i) None = e ∙ ap first_of (ap members (eqb-true s 0 z) ∙ members_none) in
        cc
    by false z =
        let w = lowered s h (eqb-false s 0 z) in
        let same : i ≡ count_trailing_zeros 64 s = some_is (e ∙ ap first_of w.rest) in
        rw same (record { entry = w.entry; fits = w.fits; rest = w.rest })
