-- The words of a text, byte by byte.
use mathlib.Core.Logic.{◌⊎◌, inl, inr}
use mathlib.Core.Path.{◌≡◌, refl, sym, ◌∙◌}
use mathlib.Core.Bool.{Bool, true, false, cond, not, true≢false}
use mathlib.Core.List.{List, [], ◌∷◌, ◌++◌, append_assoc, append-nil}
use Prim.Native.Nat.{ℕ, ◌+◌, ◌≤◌, ◌<◌}
use native.Mathlib.Omega.{arith}
use native.Mathlib.Numerals.{add-one, one-add}
use lib.Dec.{eqb, ltb}
use lib.ListN.{length, get_or, take, drop, drop_of_length-le}
use lib.Seq.{drop-cons}
use borrow.Author.Tests.{ne_eqb, eqb-true, ltb-true, ltb-false}
use Rattle.std.specs.Prelude.{Option, Some, None}
use Rattle.std.specs.Option.{unwrap_or}
use Rattle.std.specs.List.{position, position_or_len}
use Rattle.std.specs.Cmp.Lexicographic.{pointwise}
use Rattle.std.proofs.lemmas.List.Sums.{prefix_len-le-length, passes_at_first}
use Rattle.logic.proofs.Both.{first, second}
use Rattle.logic.proofs.Tests.{isnt}
use Rattle.captures.specs.Words.{is_hash, is_blank, text, closed, words_from, words, is_same}

-- one element more of a list, from a place on
pub from : (l : List ℕ) (i : ℕ) → i < length l → drop i l ≡ get_or l i 0 ∷ drop (i + 1) l
from l i h = rw add-one (drop-cons l i 0 h)

-- where a test first passes, or the end
pub place_or_end : (test : ℕ → Bool) (l : List ℕ) → unwrap_or (position test l) (length l) ≡ position_or_len test l
place_or_end test l = by (ltb (position_or_len test l) (length l)) refl
  where
    most : position_or_len test l ≤ length l
    most = prefix_len-le-length (λ b. not (test b)) l

    by : (v : Bool) → ltb (position_or_len test l) (length l) ≡ v → unwrap_or (cond v (Some (position_or_len test l)) None) (length l) ≡ position_or_len test l
    by true e = refl
    by false e = omega (arith, ltb-false (position_or_len test l) (length l) e, most)

-- where a test first passes, if it does
pub place : (test : ℕ → Bool) (l : List ℕ) (n : ℕ) → Some n ≡ position test l → (n ≡ position_or_len test l) × (n < length l)
place test l n = by (ltb (position_or_len test l) (length l)) refl
  where
    by : (v : Bool) → ltb (position_or_len test l) (length l) ≡ v → Some n ≡ cond v (Some (position_or_len test l)) None → (n ≡ position_or_len test l) × (n < length l)
    by true e q =
        let same : n ≡ position_or_len test l = cc in
        (same, omega (arith, ltb-true (position_or_len test l) (length l) e))
    by false e q = absurd (cc)

pub no_place : (test : ℕ → Bool) (l : List ℕ) → None ≡ position test l → length l ≤ position_or_len test l
no_place test l = by (ltb (position_or_len test l) (length l)) refl
  where
    by : (v : Bool) → ltb (position_or_len test l) (length l) ≡ v → None ≡ cond v (Some (position_or_len test l)) None → length l ≤ position_or_len test l
    by true e q = absurd (cc)
    by false e q = ltb-false (position_or_len test l) (length l) e

-- the text of a line ends at its first `#`
pub text_cut : (l : List ℕ) → take (position_or_len is_hash l) l ≡ text l
unfolding text
text_cut [] = refl
text_cut (b ∷ l) = by (is_hash b) (text_cut l)
  where
    by : (v : Bool) → take (position_or_len is_hash l) l ≡ text l → take (cond (not v) (1 + position_or_len is_hash l) 0) (b ∷ l) ≡ cond v [] (b ∷ text l)
    by true e = refl
    by false e = rw (one-add, e) refl

-- any bytes are a word
pub closes : (w : List ℕ) (ws : List (List ℕ)) → 0 < length w → closed w ws ≡ w ∷ ws
unfolding closed
closes [] ws h = absurd (omega arith)
closes (b ∷ w) ws h = refl

-- the blanks, and the bytes that are none
pub blank : (b : ℕ) → (b ≡ 9) ⊎ ((b ≡ 13) ⊎ (b ≡ 32)) → is_blank b ≡ true
unfolding is_blank
blank b h = elim h [ inl e ↦ rw e refl | inr k ↦ elim k [ inl e ↦ rw e refl | inr e ↦ rw e refl ] ]

pub no_blank : (b : ℕ) → ((b ≡ 9) ⊎ ((b ≡ 13) ⊎ (b ≡ 32)) → ⊥) → is_blank b ≡ false
unfolding is_blank
no_blank b h = rw (ne_eqb b 9 (λ e. h (inl e)), ne_eqb b 13 (λ e. h (inr (inl e))), ne_eqb b 32 (λ e. h (inr (inr e)))) refl

-- a byte of a word
abbrev in_word : ℕ → Bool
in_word b = not (is_blank b)

-- blanks before words say nothing
words_unblank : (t : List ℕ) → words (drop (position_or_len in_word t) t) ≡ words t
unfolding words_from closed
words_unblank [] = refl
words_unblank (b ∷ t) = by (is_blank b) refl (words_unblank t)
  where
    by : (v : Bool) → is_blank b ≡ v → words (drop (position_or_len in_word t) t) ≡ words t
        → words (drop (cond (not (not v)) (1 + position_or_len in_word t) 0) (b ∷ t)) ≡ cond v (closed [] (words t)) (words_from (b ∷ []) t)
    by true e q = rw one-add q
    by false e q = rw e refl

-- up to a blank all bytes are a word's
words_head : (w t : List ℕ) → words_from w t ≡ closed (w ++ take (position_or_len is_blank t) t) (words (drop (position_or_len is_blank t) t))
unfolding words_from closed
words_head w [] = rw (append-nil w) refl
words_head w (b ∷ t) = by (is_blank b) refl (words_head (w ++ (b ∷ [])) t)
  where
    by : (v : Bool) → is_blank b ≡ v
        → words_from (w ++ (b ∷ [])) t ≡ closed ((w ++ (b ∷ [])) ++ take (position_or_len is_blank t) t) (words (drop (position_or_len is_blank t) t))
        → cond v (closed w (words t)) (words_from (w ++ (b ∷ [])) t)
        ≡ closed (w ++ take (cond (not v) (1 + position_or_len is_blank t) 0) (b ∷ t)) (words (drop (cond (not v) (1 + position_or_len is_blank t) 0) (b ∷ t)))
    by true e q = rw (append-nil w, e) refl
    by false e q = rw one-add (q ∙ rw (append_assoc w (b ∷ []) (take (position_or_len is_blank t) t)) refl)

-- the words of a text in which no byte is a word's
pub words_none : (t : List ℕ) → None ≡ position in_word t → words t ≡ []
unfolding words_from closed
words_none t e = sym (words_unblank t) ∙ rw (drop_of_length-le t (no_place in_word t e)) refl

-- the first of the words, and those behind it: the word is `w` and starts the bytes `u`, and `r` stands behind it
pub words_first : (t : List ℕ) (n : ℕ) {u w r : List ℕ} {o : Option ℕ} {k : ℕ} → Some n ≡ position in_word t → u ≡ drop n t
    → o ≡ position is_blank u → k ≡ unwrap_or o (length u) → w ≡ take k u → r ≡ drop k u → words t ≡ w ∷ words r
words_first t n {u = u} {k = k} e d is at front back =
    let found = place in_word t n e in
    let stop : k ≡ position_or_len is_blank u = at ∙ rw is (place_or_end is_blank u) in
    let same : words u ≡ words t = rw (d, found.0) (words_unblank t) in
    rw (front, back, stop) (sym same ∙ words_head [] u ∙ closes _ _ (some found.0 found.1 d))
  where
    some : n ≡ position_or_len in_word t → n < length t → u ≡ drop n t → 0 < length (take (position_or_len is_blank u) u)
    some p h d =
        let most : position_or_len in_word t < length t = rw (sym p) h in
        let byte : is_blank (get_or t n 0) ≡ false = rw p (isnt (passes_at_first in_word t 0 most)) in
        rw (d, from t n h, byte, one-add) (omega arith)

-- two words are the same where `==` says so
same_is : (a b : List ℕ) → pointwise eqb a b ≡ is_same a b
unfolding is_same
same_is [] [] = refl
same_is [] (y ∷ b) = refl
same_is (x ∷ a) [] = refl
same_is (x ∷ a) (y ∷ b) = rw (same_is a b) refl

pub same_by : (a b : List ℕ) {r v : Bool} → r ≡ pointwise eqb a b → r ≡ v → is_same a b ≡ v
same_by a b e q = sym (same_is a b) ∙ sym e ∙ q

pub same_word : (a b : List ℕ) {w : List ℕ} {r v : Bool} → b ≡ w → r ≡ pointwise eqb a b → r ≡ v → is_same a w ≡ v
same_word a b n e q = rw (sym n) (same_by a b e q)

-- words that are the same are equal
pub same_equal : (a b : List ℕ) → is_same a b ≡ true → a ≡ b
unfolding is_same
same_equal [] [] e = refl
same_equal [] (y ∷ b) e = absurd (true≢false (sym e))
same_equal (x ∷ a) [] e = absurd (true≢false (sym e))
same_equal (x ∷ a) (y ∷ b) e =
    let p = first (eqb x y) (is_same a b) e in
    rw (eqb-true x y p, same_equal a b (second (eqb x y) (is_same a b) e)) refl
