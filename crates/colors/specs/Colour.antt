-- Pan Docs, "LCD Color Palettes": a colour is 15 bits of a word, five each of red, green and blue from the lowest.
use Rattle.std.specs.Prelude.{ℕ, ◌+◌, ◌*◌, ◌/◌, ◌%◌}
use Rattle.colors.specs.declared.Color.{Color}

-- a word as a colour; bit 15 says nothing
abbrev pub colour_of : ℕ → Color
colour_of raw = record { r = raw % 32; g = raw / 32 % 32; b = raw / 1024 % 32 }

-- a colour as a word, of each channel the lowest five bits
abbrev pub raw_of : Color → ℕ
raw_of c = c.r % 32 + c.g % 32 * 32 + c.b % 32 * 1024
