-- How many digits there are.
use mathlib.Core.Path.{◌≡◌, refl, ◌∙◌}
use mathlib.Core.List.{[], ◌∷◌, ◌++◌}
use Prim.Native.Nat.{ℕ, zero, suc, ◌+◌, ◌-◌, ◌/◌, ◌%◌, ◌≤◌, ◌<◌}
use native.Mathlib.Omega.{arith}
use native.Mathlib.Numerals.{add-one}
use lib.Dec.{ltb}
use lib.ListN.{length, length-append}
use borrow.Author.Tests.{lt-ltb, le-ltb}
use Rattle.logic.proofs.Tests.{by_test}
use Rattle.texts.specs.Numbers.{letter, digits, places, decimal}

-- as many digits as were asked for
pub digits_length : (base k n : ℕ) → length (digits base k n) ≡ k
unfolding digits
digits_length base zero n = refl
digits_length base (suc k) n = length-append (digits base k (n / base)) (letter (n % base) ∷ []) ∙ rw (digits_length base k (n / base)) (add-one k)

-- how many places a number has
pub places_none : (more n : ℕ) → more ≡ 0 → places more n ≡ 1
unfolding places
places_none more n e = rw e refl

pub places_one : (more n : ℕ) → (more ≡ 0 → ⊥) → n < 10 → places more n ≡ 1
unfolding places
places_one zero n e h = refl
places_one (suc more) n e h = rw (lt-ltb n 10 h) refl

pub places_more : (more n : ℕ) → (more ≡ 0 → ⊥) → 10 ≤ n → places more n ≡ 1 + places (more - 1) (n / 10)
unfolding places
places_more zero n e h = absurd (e refl)
places_more (suc more) n e h =
    let before : suc more - 1 ≡ more = omega arith in
    rw (le-ltb n 10 h, before) (omega arith)

pub places_most : (more n : ℕ) → places more n ≤ 1 + more
unfolding places
places_most zero n = omega arith
places_most (suc more) n = by_test (λ (k : ℕ). k ≤ 1 + suc more) (ltb n 10) (λ _. omega arith) (λ _. omega (arith, places_most more (n / 10)))

-- no digits
pub no_digits : (base k n : ℕ) → k ≡ 0 → digits base k n ≡ []
unfolding digits
no_digits base k n e = rw e refl

-- the last digit, behind the others
pub digits_more : (base k n : ℕ) → (k ≡ 0 → ⊥) → digits base k n ≡ digits base (k - 1) (n / base) ++ (letter (n % base) ∷ [])
unfolding digits
digits_more base zero n e = absurd (e refl)
digits_more base (suc k) n e = let before : suc k - 1 ≡ k = omega arith in rw before refl

-- ten digits at most
pub decimal_most : (n : ℕ) → length (decimal n) ≤ 10
unfolding decimal
decimal_most n = rw (digits_length 10 (places 9 n) n) (omega (arith, places_most 9 n))
