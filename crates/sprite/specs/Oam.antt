-- Pan Docs, "Object Attribute Memory (OAM)": four bytes an entry, forty entries.
use Rattle.std.specs.Prelude.{ℕ, ◌+◌, ◌-◌, ◌*◌, ◌%◌, Bool, List, [], ◌∷◌, ◌++◌, ltb, get_or, drop, replicate}
use Rattle.wrap.specs.Wrap.{minus, digit_at, bit_at}
use Rattle.sprite.specs.declared.Sprite.{Sprite}

-- entry i of OAM: y, x, tile, flags
abbrev pub entry : List ℕ → ℕ → Sprite
entry oam i =
    record {
      y = get_or oam (4 * i) 0;
      x = get_or oam (4 * i + 1) 0;
      tile = get_or oam (4 * i + 2) 0;
      flags = get_or oam (4 * i + 3) 0;
    }

-- byte 0: the line of the sprite's top row, plus 16
abbrev pub screen_y : ℕ → ℕ
screen_y y = minus y 16

-- byte 1: the column of its left edge, plus 8
abbrev pub screen_x : ℕ → ℕ
screen_x x = minus x 8

-- a line is in range of a sprite at y, so many rows tall, if it meets one of them: modulo 256
abbrev pub in_range : ℕ → ℕ → ℕ → Bool
in_range y line tall = ltb (minus line (screen_y y)) tall

-- byte 3, bits 0 to 2: the palette in colour mode
abbrev pub colour_palette : ℕ → ℕ
colour_palette flags = flags % 8

-- bit 3: the bank of its tile
abbrev pub bank_of : ℕ → ℕ
bank_of flags = digit_at flags 3

-- bit 4: OBP0 or OBP1 outside colour mode
abbrev pub grey_palette : ℕ → ℕ
grey_palette flags = digit_at flags 4

-- bit 5, bit 6: mirrored left to right, top to bottom
abbrev pub x_flip : ℕ → Bool
x_flip flags = bit_at flags 5

abbrev pub y_flip : ℕ → Bool
y_flip flags = bit_at flags 6

-- bit 7: background colours 1 to 3 stand above it
abbrev pub behind : ℕ → Bool
behind flags = bit_at flags 7

-- the four bytes of an entry, in OAM's order, and an entry of four bytes
abbrev pub entry_bytes : Sprite → List ℕ
entry_bytes s = s.y ∷ s.x ∷ s.tile ∷ s.flags ∷ []

-- a sprite whose x is below 8 starts left of column 0: its colours move left by 8 - x, and 0s follow
abbrev pub moved_left : List ℕ → ℕ → List ℕ
moved_left colours x = drop (8 - x) colours ++ replicate (8 - x) 0
