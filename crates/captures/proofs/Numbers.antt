-- A number read from its digits: how large it gets.
use mathlib.Core.Path.{◌≡◌, refl, sym, ◌∙◌}
use mathlib.Core.Bool.{Bool, true, false, cond, ◌&&◌}
use mathlib.Core.List.{List}
use Prim.Native.Nat.{ℕ, suc, ◌+◌, ◌*◌, ◌%◌, ◌^◌, ◌≤◌, ◌<◌}
use native.Mathlib.Omega.{arith}
use native.Mathlib.Nat.{mul-le-mul_left, mul-le-mul_right, pow-suc, pow-le-pow_right, suc-mul}
use native.Mathlib.Numerals.{add-one}
use lib.Dec.{eqb, leb, ltb}
use lib.ListN.{length, get_or, drop, drop_of_length-le}
use borrow.Author.Tests.{eq-eqb, eqb-true, le-leb, leb-true, lt-ltb, le-ltb, ltb-true, ltb-false}
use Rattle.std.specs.Prelude.{Option, Some, None}
use Rattle.std.specs.Char.{digit_value}
use Rattle.std.specs.Option.{SomeIff}
use Rattle.std.proofs.lemmas.Bool.Decides.{nat_tests}
use Rattle.captures.specs.Numbers.{digit_of, digit_in, number_from}
use Rattle.captures.specs.Reading.{bytes_of, within, decimal}
use Rattle.captures.proofs.Texts.{from}

-- what the library says of a hexadecimal digit
digit_law : (b : ℕ) → cond (ltb (digit_value b) 16) (digit_value b) 16 ≡ digit_of b
unfolding digit_of
digit_law b = grind (arith, nat_tests)

pub digit_given : (b : ℕ) (r : Option ℕ) → SomeIff r (digit_value b < 16) (digit_value b) → r ≡ digit_in 16 b
unfolding digit_in
digit_given b None h =
    let none : digit_of b ≡ 16 = sym (digit_law b) ∙ rw (le-ltb (digit_value b) 16 (omega arith)) refl in
    rw none refl
digit_given b (Some d) h =
    let some : digit_of b ≡ d = sym (digit_law b) ∙ rw (lt-ltb (digit_value b) 16 h.0) (sym h.1) in
    rw (some, lt-ltb d 16 (omega arith)) refl

-- a digit, and a byte that is none
pub digit_some : (base b d : ℕ) → Some d ≡ digit_in base b → (d ≡ digit_of b) × (d < base)
unfolding digit_in
digit_some base b d = by (ltb (digit_of b) base) refl
  where
    by : (v : Bool) → ltb (digit_of b) base ≡ v → Some d ≡ cond v (Some (digit_of b)) None → (d ≡ digit_of b) × (d < base)
    by true e q =
        let same : d ≡ digit_of b = cc in
        (same, omega (arith, ltb-true (digit_of b) base e))
    by false e q = absurd (cc)

pub digit_none : (base b : ℕ) → None ≡ digit_in base b → base ≤ digit_of b
unfolding digit_in
digit_none base b = by (ltb (digit_of b) base) refl
  where
    by : (v : Bool) → ltb (digit_of b) base ≡ v → None ≡ cond v (Some (digit_of b)) None → base ≤ digit_of b
    by true e q = absurd (cc)
    by false e q = ltb-false (digit_of b) base e

-- one digit more, a byte that is none, and the end
pub number_more : (base n : ℕ) (l : List ℕ) (i : ℕ) → i < length l → digit_of (get_or l i 0) < base
    → number_from base (n * base + digit_of (get_or l i 0)) (drop (i + 1) l) ≡ number_from base n (drop i l)
unfolding number_from
number_more base n l i h e = rw (from l i h, lt-ltb (digit_of (get_or l i 0)) base e) refl

pub number_bad : (base n : ℕ) (l : List ℕ) (i : ℕ) → i < length l → base ≤ digit_of (get_or l i 0) → number_from base n (drop i l) ≡ None
unfolding number_from
number_bad base n l i h e = rw (from l i h, le-ltb (digit_of (get_or l i 0)) base e) refl

pub number_none : (base n : ℕ) (l : List ℕ) (i : ℕ) → length l ≤ i → number_from base n (drop i l) ≡ Some n
unfolding number_from
number_none base n l i h = rw (drop_of_length-le l h) refl

-- a number of i digits, and one more
pub grows : (top base n d i : ℕ) → base ≤ top → n < top ^ i → d < base → n * base + d < top ^ (i + 1)
grows top base n d i b h e =
    let more : suc n * top ≤ top ^ i * top = mul-le-mul_right top (omega arith) in
    rw (add-one i, pow-suc top i) (omega (arith, mul-le-mul_left n b, more, suc-mul n top))

-- sixteen digits fit 64 bits
pub fits : (i : ℕ) → i ≤ 16 → 16 ^ i ≤ 18446744073709551616
fits i h = pow-le-pow_right {n = 16} (omega arith) h

-- a word of so many bytes, and any other
pub bytes_sized : (w : List ℕ) → 2 ≤ length w → length w ≤ 16 → length w % 2 ≡ 0 → bytes_of w ≡ number_from 16 0 w
unfolding bytes_of
bytes_sized w l h e = rw (eq-eqb _ _ e, le-leb 2 (length w) l, le-leb (length w) 16 h) refl

pub no_bytes : (w : List ℕ) → (2 ≤ length w → length w ≤ 16 → length w % 2 ≡ 0 → ⊥) → bytes_of w ≡ None
unfolding bytes_of
no_bytes w f = by (eqb (length w % 2) 0) refl (leb 2 (length w)) refl (leb (length w) 16) refl
  where
    by : (a : Bool) → eqb (length w % 2) 0 ≡ a → (b : Bool) → leb 2 (length w) ≡ b → (c : Bool) → leb (length w) 16 ≡ c
        → cond (a && b && c) (number_from 16 0 w) None ≡ None
    by true p true q true r = absurd (f (leb-true 2 (length w) q) (leb-true (length w) 16 r) (eqb-true (length w % 2) 0 p))
    by true p true q false r = refl
    by true p false q c r = refl
    by false p b q c r = refl

pub decimal_sized : (low high : ℕ) (w : List ℕ) → 1 ≤ length w → length w ≤ 10 → decimal low high w ≡ within low high (number_from 10 0 w)
unfolding decimal
decimal_sized low high w l h = rw (le-leb 1 (length w) l, le-leb (length w) 10 h) refl

pub no_decimal : (low high : ℕ) (w : List ℕ) → (1 ≤ length w → length w ≤ 10 → ⊥) → decimal low high w ≡ None
unfolding decimal
no_decimal low high w f = by (leb 1 (length w)) refl (leb (length w) 10) refl
  where
    by : (a : Bool) → leb 1 (length w) ≡ a → (b : Bool) → leb (length w) 10 ≡ b → cond (a && b) (within low high (number_from 10 0 w)) None ≡ None
    by true p true q = absurd (f (leb-true 1 (length w) p) (leb-true (length w) 10 q))
    by true p false q = refl
    by false p b q = refl
