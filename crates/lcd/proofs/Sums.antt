-- The sums of shifts that `mixed` makes, each equal to the sum of products that `mix` has.
use mathlib.Core.Path.{◌≡◌, ◌∙◌}
use Prim.Native.Nat.{ℕ, ◌+◌, ◌*◌, ◌<◌}
use native.Mathlib.Omega.{arith}
use Rattle.lcd.proofs.Shifts.{Shifts, ◌≪◌, ◌⊕◌, computed, shifts_are_products}

-- the three sums of the code; the largest number shifted is three bytes, which 10 bits hold
abbrev pub red : (r g b : ℕ) → Shifts
red r g b = r ≪ 4 ⊕ (r + (r + g)) ≪ 2 ⊕ (r + b) ≪ 1

abbrev pub green : (g b : ℕ) → Shifts
green g b = g ≪ 4 ⊕ (g + b) ≪ 3

abbrev pub blue : (r g b : ℕ) → Shifts
blue r g b = b ≪ 4 ⊕ (r + b) ≪ 2 ⊕ (g + b) ≪ 1 ⊕ (r + g) ≪ 1

-- each is the sum of `mix`
pub red_sum : {r g b : ℕ} → r < 256 → g < 256 → b < 256 → computed 16 (red r g b) ≡ 26 * r + 4 * g + 2 * b
red_sum {r} {g} {b} hr hg hb = shifts_are_products 10 16 (red r g b) (omega arith) ∙ omega arith

pub green_sum : {g b : ℕ} → g < 256 → b < 256 → computed 16 (green g b) ≡ 24 * g + 8 * b
green_sum {g} {b} hg hb = shifts_are_products 10 16 (green g b) (omega arith) ∙ omega arith

pub blue_sum : {r g b : ℕ} → r < 256 → g < 256 → b < 256 → computed 16 (blue r g b) ≡ 6 * r + 4 * g + 22 * b
blue_sum {r} {g} {b} hr hg hb = shifts_are_products 10 16 (blue r g b) (omega arith) ∙ omega arith
