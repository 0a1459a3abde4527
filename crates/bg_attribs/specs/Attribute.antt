-- Pan Docs, "BG Map Attributes": the byte at a tile's place in the map of bank 1.
use Rattle.std.specs.Prelude.{ℕ, ◌%◌, Bool}
use Rattle.wrap.specs.Wrap.{digit_at, bit_at}

-- bits 0 to 2: which of the eight background palettes
abbrev pub palette_number : ℕ → ℕ
palette_number b = b % 8

-- bit 3: the bank that the tile's rows are read from
abbrev pub bank_of : ℕ → ℕ
bank_of b = digit_at b 3

-- bit 5: the tile's rows are mirrored left to right
abbrev pub x_flip : ℕ → Bool
x_flip b = bit_at b 5

-- bit 6: the tile is mirrored top to bottom
abbrev pub y_flip : ℕ → Bool
y_flip b = bit_at b 6

-- bit 7: colours 1 to 3 stand above sprites
abbrev pub priority_of : ℕ → Bool
priority_of b = bit_at b 7
