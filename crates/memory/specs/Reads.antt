-- Request 12: reads of OAM. The byte of VRAM at an address is `byte_at` (`tiles` specs/Tile).
use Rattle.std.specs.Prelude.{ℕ, ◌%◌, List, get_or}

-- an OAM read uses the low byte of the address, as a write does
abbrev pub oam_read : List ℕ → ℕ → ℕ
oam_read oam address = get_or oam (address % 256) 0
