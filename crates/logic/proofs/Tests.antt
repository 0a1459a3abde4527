-- A branch by its test, and what a test that was taken or left shows.
use mathlib.Core.Path.{◌≡◌, refl, sym, ◌∙◌}
use mathlib.Core.Bool.{Bool, true, false, true≢false, not, cond}
use Prim.Native.Nat.{ℕ}
use lib.Dec.{eqb}
use borrow.Author.Tests.{not-true, not-false, eqb-true, eqb-false}

-- what holds of either branch holds of the choice
pub by_test {ℓ} : {A : Type ℓ} (P : A → Type 0) (v : Bool) {x y : A} → (v ≡ true → P x) → (v ≡ false → P y) → P (cond v x y)
by_test P true f g = f refl
by_test P false f g = g refl

-- `if !f(..)`, taken or left, where f's promise names its answer
pub failed : {r a : Bool} → r ≡ a → not r ≡ true → a ≡ false
failed {r} e t = sym e ∙ not-true r t

pub passed : {r a : Bool} → r ≡ a → not r ≡ false → a ≡ true
passed {r} e t = sym e ∙ not-false r t

-- a test cannot have passed and failed
pub clash : {b : Bool} → b ≡ true → b ≡ false → ⊥
clash t f = true≢false (sym t ∙ f)

-- what is not so is false
pub isnt : {b : Bool} → not b ≡ true → b ≡ false
isnt {b} e = not-true b e

-- two numbers are equal, or they are not
pub by_number : (P : Type 0) (a b : ℕ) → (a ≡ b → P) → ((a ≡ b → ⊥) → P) → P
by_number P a b f g = by (eqb a b) refl
  where
    by : (v : Bool) → eqb a b ≡ v → P
    by true e = f (eqb-true a b e)
    by false e = g (eqb-false a b e)
