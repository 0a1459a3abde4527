-- What the locked calls are good for, of their definitions alone: what an open write stored is what an open read gives
-- (theorem `reads_back`). What they have to do with the old calls in a run stands in `history` specs/Locks.
use Rattle.std.specs.Prelude.{ℕ, ◌≤◌, ◌<◌, ◌%◌, ◌≡◌, List, length}
use Rattle.hardware.specs.Tables.{vram_bytes, oam_bytes}
use Rattle.tiles.specs.Tile.{byte_at}
use Rattle.memory.specs.Writes.{vram_written, oam_written}
use Rattle.memory.specs.Reads.{oam_read}

pub record ReadsBack : Type 0 where
  pub vram : (vram : List ℕ) (bank address value : ℕ) → length vram ≡ vram_bytes → bank ≤ 1
      → byte_at (vram_written vram bank address value) bank address ≡ value
  pub oam : (oam : List ℕ) (address value : ℕ) → length oam ≡ oam_bytes → address % 256 < oam_bytes
      → oam_read (oam_written oam address value) address ≡ value
