-- Laws of where a row stands.
use mathlib.Core.Path.{◌≡◌}
use mathlib.Core.List.{List}
use Prim.Native.Nat.{ℕ, ◌+◌, ◌%◌, ◌≤◌, ◌<◌}
use native.Mathlib.Omega.{arith}
use Rattle.wrap.specs.Wrap.{digit_at}
use Rattle.hardware.specs.Tables.{bank_bytes}
use Rattle.tiles.specs.declared.Address.{Address}
use Rattle.tiles.specs.Tile.{byte_at, row_of, in_bank, row_at}

-- by its bit an attribute or a sprite names a bank that there is, and the offset lies in it
pub in_bank_law : {a : Address} (bits address : ℕ) → a ≡ in_bank (digit_at bits 3) address → (a.bank ≤ 1) × (a.offset < bank_bytes)
in_bank_law bits address e = rw e (omega arith, omega arith)

-- the row that stands at an address has the byte there and the one after it, each modulo the bank's bytes
pub row_reduced : (vram : List ℕ) (bank address : ℕ)
    → row_at vram (in_bank bank address) ≡ row_of (byte_at vram bank address) (byte_at vram bank (address + 1))
row_reduced vram bank address =
    let once : address % bank_bytes % bank_bytes ≡ address % bank_bytes = omega arith in
    let after : (address % bank_bytes + 1) % bank_bytes ≡ (address + 1) % bank_bytes = omega arith in
    rw (once, after)
