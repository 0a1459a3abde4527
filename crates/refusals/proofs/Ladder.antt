-- What a number says of the tests, and which numbers are never given.
use mathlib.Core.Path.{◌≡◌, refl}
use mathlib.Core.Bool.{Bool, true, false, cond}
use Prim.Native.Nat.{ℕ, ◌<◌}
use native.Mathlib.Omega.{arith}
use borrow.Author.Tests.{eqb-true, eq-eqb}
use Rattle.refusals.specs.Ladder.{lowest, own, done, first}
use Rattle.logic.proofs.Tests.{by_test, clash}

-- another number
abbrev pub Isnt : ℕ → ℕ → Type 0
Isnt k n = n ≡ k → ⊥

-- no number: every test passed
pub record Passed (s o : Bool) (n : ℕ) : Type 0 where
  pub sized : s ≡ true
  pub ordered : o ≡ true
  pub own : n ≡ 0

pub lowest_none : (sized ordered : Bool) {n : ℕ} → lowest sized ordered n ≡ 0 → Passed sized ordered n
unfolding lowest
lowest_none true true e = record { sized = refl; ordered = refl; own = e }
lowest_none true false e = absurd (omega arith)
lowest_none false ordered e = absurd (omega arith)

-- lent buffers of their lengths are never refused by 1, a state in order never by 2
pub lowest_not_1 : (sized ordered : Bool) {n : ℕ} → sized ≡ true → Isnt 1 n → Isnt 1 (lowest sized ordered n)
unfolding lowest
lowest_not_1 sized ordered s h = by_test (Isnt 1) sized (λ t. by_test (Isnt 1) ordered (λ o. h) (λ o e. omega arith)) (λ t. absurd (clash s t))

pub lowest_not_2 : (sized ordered : Bool) {n : ℕ} → ordered ≡ true → Isnt 2 n → Isnt 2 (lowest sized ordered n)
unfolding lowest
lowest_not_2 sized ordered o h =
    by_test (Isnt 2) sized (λ t. by_test (Isnt 2) ordered (λ u. h) (λ u. absurd (clash o u))) (λ t e. omega arith)

-- a call's own number
pub own_none : (passed : Bool) {n : ℕ} → 0 < n → own passed n ≡ 0 → passed ≡ true
own_none true h e = refl
own_none false h e = absurd (omega arith)

pub own_isnt : (k : ℕ) (passed : Bool) {n : ℕ} → 0 < k → Isnt k n → Isnt k (own passed n)
own_isnt k true h i e = omega arith
own_isnt k false h i e = i e

-- two own numbers: none is given where neither is
pub first_none : (lower higher : ℕ) → first lower higher ≡ 0 → (lower ≡ 0) × (higher ≡ 0)
first_none lower higher = by (done lower) refl
  where
    by : (t : Bool) → done lower ≡ t → cond t higher lower ≡ 0 → (lower ≡ 0) × (higher ≡ 0)
    by true t e = (eqb-true lower 0 t, e)
    by false t e = absurd (clash (eq-eqb lower 0 e) t)

pub first_isnt : (k lower higher : ℕ) → Isnt k lower → Isnt k higher → Isnt k (first lower higher)
first_isnt k lower higher l h = by_test (Isnt k) (done lower) (λ t. h) (λ t. l)
