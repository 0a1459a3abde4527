-- Pan Docs, "Object Attribute Memory (OAM)": the row of a sprite that a line meets, and where it starts.
use Rattle.std.specs.Prelude.{ℕ, ◌+◌, ◌-◌, ◌*◌, ◌/◌, ◌%◌, Bool, cond, ◌&&◌, ◌||◌, List, eqb, ltb}
use Rattle.wrap.specs.Wrap.{minus}
use Rattle.sprite.specs.Oam.{screen_x, screen_y, bank_of, x_flip, y_flip, moved_left}
use Rattle.sprite.specs.declared.Sprite.{Sprite}
use Rattle.tiles.specs.Tile.{in_bank, row_at, mirrored}
use Rattle.tiles.specs.declared.Address.{Address}

-- the row of a sprite at y, so many rows tall: lines below its top, modulo 256 and not reduced by its height; a y flip counts
-- from the lowest row, modulo 256, and is reduced
abbrev pub sprite_line : ℕ → ℕ → ℕ → Bool → ℕ
sprite_line y line tall flip = cond flip (minus (tall - 1) (minus line (screen_y y)) % tall) (minus line (screen_y y))

-- the tile of the first row: 16 rows tall, bit 0 of the number is ignored
abbrev pub first_tile : ℕ → ℕ → ℕ
first_tile tile tall = cond (eqb tall 16) (tile / 2 * 2) tile

-- where the row of a sprite in a line stands: always "8000 addressing", the bank by its flags, two bytes a row
abbrev pub sprite_address : Sprite → ℕ → ℕ → Address
sprite_address s line tall =
    in_bank (bank_of s.flags) (0x8000 + 16 * first_tile s.tile tall + 2 * sprite_line s.y line tall (y_flip s.flags))

-- its eight colours, with the x flip of its flags
unfoldable pub sprite_row : List ℕ → Sprite → ℕ → ℕ → List ℕ
sprite_row vram s line tall = mirrored (x_flip s.flags) (row_at vram (sprite_address s line tall))

-- a sprite whose x is below 8 starts at column 0
abbrev pub starts_left : Sprite → ℕ → Bool
starts_left s x = eqb x 0 && ltb s.x 8

-- whether a sprite starts at column x
abbrev pub starts_at : Sprite → ℕ → Bool
starts_at s x = eqb x (screen_x s.x) || starts_left s x

-- the colours of a sprite that starts at column x: those left of column 0 are gone
unfoldable pub sprite_colours : List ℕ → Sprite → ℕ → ℕ → ℕ → List ℕ
sprite_colours vram s line tall x =
    cond (starts_left s x) (moved_left (sprite_row vram s line tall) s.x) (sprite_row vram s line tall)
