-- A sum of shifts is the sum of the products, whatever the widths: why `mixed` need not multiply.
use mathlib.Core.Path.{◌≡◌, ap₂}
use Prim.Native.Nat.{ℕ, ◌+◌, ◌*◌, ◌%◌, ◌^◌, ◌<◌, ◌≤◌}
use lib.Pow.{shl_exact}

infixl 50 ◌⊕◌
infix 60 ◌≪◌
-- a sum of shifts: a number shifted left by so many places, or two sums added
pub data Shifts : Type 0 where
  ◌≪◌ : ℕ → ℕ → Shifts
  ◌⊕◌ : Shifts → Shifts → Shifts

-- what a machine of w bits makes of it: a shift loses what goes beyond them
abbrev pub computed : ℕ → Shifts → ℕ
computed w (x ≪ k) = x * 2 ^ k % 2 ^ w
computed w (s ⊕ t) = computed w s + computed w t

-- the sum of the products
abbrev pub products : Shifts → ℕ
products (x ≪ k) = x * 2 ^ k
products (s ⊕ t) = products s + products t

-- numbers of j bits, of which no shift goes beyond w
abbrev pub Within : ℕ → ℕ → Shifts → Type 0
Within j w (x ≪ k) = (x < 2 ^ j) × (j + k ≤ w)
Within j w (s ⊕ t) = Within j w s × Within j w t

pub shifts_are_products : (j w : ℕ) (s : Shifts) → Within j w s → computed w s ≡ products s
shifts_are_products j w (x ≪ k) h = shl_exact j k w h.0 h.1
shifts_are_products j w (s ⊕ t) h = ap₂ ◌+◌ (shifts_are_products j w s h.0) (shifts_are_products j w t h.1)
