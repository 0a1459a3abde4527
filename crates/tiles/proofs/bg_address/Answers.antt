-- `tiles::bg_address` meets its contract.
use Prim.Native.Nat.{ℕ, ◌<◌}
use native.Mathlib.Omega.{arith}
use borrow.Author.Tests.{ltb-true}
use lib.Dec.{ltb}
use Rattle.logic.proofs.Tests.{by_test}
use Rattle.wrap.specs.Wrap.{bit_at}
use Rattle.tiles.specs.Tile.{tile_address}
use Rattle.tiles.proofs.bg_address.Goals as goal

-- a tile begins below the end of VRAM
tile_below : (lcdc tile : ℕ) → tile < 256 → tile_address lcdc tile < 0xA000
unfolding tile_address
tile_below lcdc tile h =
    by_test (λ n. n < 0xA000) (bit_at lcdc 4) (λ unsigned. omega arith)
    (λ signed. by_test (λ n. n < 0xA000) (ltb tile 128) (λ low. omega (arith, ltb-true tile 128 low)) (λ high. omega arith))

pub overflow_add-at : goal.overflow_add-at
overflow_add-at c =
    let a = c.args in
    let t = tile_below a.lcdc a.tile (omega arith) in
    omega (arith, c.tile_address.ensures)
