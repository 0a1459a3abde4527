-- 01, "Registers": writes to VRAM and OAM.
use Rattle.std.specs.Prelude.{ℕ, ◌+◌, ◌*◌, ◌%◌, List, set}
use Rattle.hardware.specs.Tables.{bank_bytes}

-- a VRAM write uses the address modulo a bank's 8,192 bytes, and the present bank
abbrev pub vram_written : List ℕ → ℕ → ℕ → ℕ → List ℕ
vram_written vram bank address value = set vram (bank_bytes * bank + address % bank_bytes) value

-- an OAM write uses the low byte of the address
abbrev pub oam_written : List ℕ → ℕ → ℕ → List ℕ
oam_written oam address value = set oam (address % 256) value
