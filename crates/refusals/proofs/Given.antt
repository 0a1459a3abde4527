-- What a call leaves: as it was where its number is not 0, what its work leaves where it is 0.
use mathlib.Core.Path.{◌≡◌, refl, sym, ◌∙◌}
use mathlib.Core.Bool.{cond}
use Prim.Native.Nat.{ℕ}
use borrow.Author.Tests.{eq-eqb, ne_eqb}
use Rattle.refusals.specs.Ladder.{done}

-- the number that was given is the one that the table says
module _ {ℓ} {A : Type ℓ} {given number : ℕ} (e : given ≡ number) (x y : A) where
  pub refused : (given ≡ 0 → ⊥) → y ≡ cond (done number) x y
  refused h = rw (ne_eqb number 0 (λ z. h (e ∙ z))) refl

  pub accepted : {z : A} → given ≡ 0 → z ≡ x → z ≡ cond (done number) x y
  accepted h p = rw (eq-eqb number 0 (sym e ∙ h)) p

-- and what it left: read off the equation of a promise
module _ {ℓ} {A : Type ℓ} {given number : ℕ} (e : given ≡ number) (x y : A) {z : A} (left : z ≡ cond (done number) x y) where
  pub left_done : given ≡ 0 → z ≡ x
  left_done h = left ∙ rw (eq-eqb number 0 (sym e ∙ h)) refl

  pub left_refused : (given ≡ 0 → ⊥) → z ≡ y
  left_refused h = left ∙ rw (ne_eqb number 0 (λ k. h (e ∙ k))) refl
