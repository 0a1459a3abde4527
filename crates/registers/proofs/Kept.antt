-- What a write keeps: one bit of VBK, and of STAT bits 3 to 6.
use mathlib.Core.Path.{◌≡◌}
use Prim.Native.Nat.{ℕ, ◌*◌, ◌/◌, ◌%◌, ◌≤◌}
use lib.Bits.{and_le_r, and_high}
use Rattle.registers.specs.Registers.{kept_in, writable}
use Rattle.registers.specs.Write.{kept}

module _ (address value : ℕ) where
  pub bank_kept : address ≡ 0xFF4F → kept address value ≤ 1
  unfolding kept_in writable
  bank_kept e = rw e (and_le_r value 1)

  pub stat_kept : address ≡ 0xFF41 → kept address value ≡ value / 8 % 16 * 8
  unfolding kept_in writable
  stat_kept e = rw e (and_high value 4 3)
