-- Laws of the choice between two pictures.
use mathlib.Core.Path.{◌≡◌, refl}
use Prim.Native.Nat.{ℕ, zero, suc}
use Rattle.lcd.specs.Pictures.{chosen}

pub chosen_b {ℓ} : {P : Type ℓ} (n : ℕ) (a b : P) → (n ≡ 0 → ⊥) → chosen n a b ≡ b
chosen_b zero a b h = absurd (h refl)
chosen_b (suc n) a b h = refl
