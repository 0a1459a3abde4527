-- Pan Docs, "LCD Color Palettes": eight palettes of four colours as 64 bytes, low byte first, behind an index port.
use Rattle.std.specs.Prelude.{ℕ, ◌+◌, ◌*◌, ◌/◌, ◌%◌, Bool, true, false, cond, List, [], ◌∷◌, get_or, set, replicate}
use Rattle.std.proofs.lemmas.List.Edits.{sets}
use Rattle.wrap.specs.Wrap.{bit_at}
use Rattle.colors.specs.Colour.{colour_of, raw_of}
use Rattle.colors.specs.declared.Color.{Color}
use Rattle.colors.specs.declared.ColorPalette.{ColorPalette}
use Rattle.colors.specs.declared.PaletteSet.{PaletteSet}

-- colour number i of a palette, i modulo 4
abbrev pub word_at : ColorPalette → ℕ → ℕ
word_at p i = get_or (p.c0 ∷ p.c1 ∷ p.c2 ∷ p.c3 ∷ []) (i % 4) 0

abbrev pub colour_at : ColorPalette → ℕ → Color
colour_at p i = colour_of (word_at p i)

-- the four colours of a list
abbrev pub palette_of : List Color → ColorPalette
palette_of cs =
    record {
      c0 = raw_of (get_or cs 0 (colour_of 0));
      c1 = raw_of (get_or cs 1 (colour_of 0));
      c2 = raw_of (get_or cs 2 (colour_of 0));
      c3 = raw_of (get_or cs 3 (colour_of 0));
    }

-- the word at byte i, low byte first
abbrev pub word : List ℕ → ℕ → ℕ
word bytes i = get_or bytes i 0 + get_or bytes (i + 1) 0 * 256

-- palette p of the eight, p modulo 8
abbrev pub palette : List ℕ → ℕ → ColorPalette
palette bytes p =
    record {
      c0 = word bytes (p % 8 * 8);
      c1 = word bytes (p % 8 * 8 + 2);
      c2 = word bytes (p % 8 * 8 + 4);
      c3 = word bytes (p % 8 * 8 + 6);
    }

-- the eight bytes of a palette
abbrev pub palette_bytes : ColorPalette → List ℕ
palette_bytes p =
    p.c0 % 256 ∷ p.c0 / 256 ∷ p.c1 % 256 ∷ p.c1 / 256 ∷ p.c2 % 256 ∷ p.c2 / 256 ∷ p.c3 % 256 ∷ p.c3 / 256 ∷ []

-- at the start: all 0, the index 0, counting on after each data write
abbrev pub fresh_set : PaletteSet
fresh_set = record { bytes = replicate 64 0; index = 0; auto = true }

-- an index write: bits 0 to 5 are the index, bit 7 says whether data writes count on
abbrev pub index_written : PaletteSet → ℕ → PaletteSet
index_written s v = record { bytes = s.bytes; index = v % 64; auto = bit_at v 7 }

-- the index after a data write
abbrev pub next : Bool → ℕ → ℕ
next true i = (i + 1) % 64
next false i = i

-- a data write: the byte at the index
abbrev pub data_written : PaletteSet → ℕ → PaletteSet
data_written s v = record { bytes = set s.bytes s.index v; index = next s.auto s.index; auto = s.auto }

-- a write to the data port, or else to the index port
abbrev pub after_write : PaletteSet → Bool → ℕ → PaletteSet
after_write s to-data v = cond to-data (data_written s v) (index_written s v)

-- what the index port reads as: bit 6 is always set
abbrev pub index_read : PaletteSet → ℕ
index_read s = port_of s.auto s.index
  where
    port_of : Bool → ℕ → ℕ
    port_of true i = 192 + i
    port_of false i = 64 + i

-- what the data port reads as
abbrev pub data_read : PaletteSet → ℕ
data_read s = get_or s.bytes s.index 0

-- a palette put in place of palette p
abbrev pub palette_set : PaletteSet → ℕ → ColorPalette → PaletteSet
palette_set s p q = record { bytes = sets s.bytes (p % 8 * 8) (palette_bytes q); index = s.index; auto = s.auto }

-- a colour of equal parts, and the four greys of the start, from white to black
abbrev pub grey : ℕ → Color
grey v = record { r = v; g = v; b = v }

abbrev pub greys : ColorPalette
greys = palette_of (grey 31 ∷ grey 21 ∷ grey 10 ∷ grey 0 ∷ [])
