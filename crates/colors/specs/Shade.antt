-- Pan Docs, "Monochrome Palettes": BGP, OBP0 and OBP1 give two bits to each colour number.
use Rattle.std.specs.Prelude.{ℕ, ◌*◌, ◌/◌, ◌%◌, ◌^◌}

-- the shade that a palette byte gives a colour number
abbrev pub shade : ℕ → ℕ → ℕ
shade palette colour = palette / 2 ^ (2 * colour) % 4
