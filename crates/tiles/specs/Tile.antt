-- Pan Docs, "VRAM Tile Data": eight rows of two bytes a tile, in two banks.
use Rattle.std.specs.Prelude.{ℕ, ◌+◌, ◌-◌, ◌*◌, ◌%◌, Bool, cond, List, [], ◌∷◌, map, reverse, ltb, get_or}
use Rattle.wrap.specs.Wrap.{digit_at, bit_at}
use Rattle.hardware.specs.Tables.{bank_bytes}
use Rattle.tiles.specs.declared.Address.{Address}

-- the byte of a bank at an address; VRAM stands at 0x8000, a multiple of a bank's bytes, and repeats
abbrev pub byte_at : List ℕ → ℕ → ℕ → ℕ
byte_at vram bank address = get_or vram (bank_bytes * bank + address % bank_bytes) 0

-- the colour in bit n of a row: the first byte has its low bit, the second its high bit
abbrev pub colour_in : ℕ → ℕ → ℕ → ℕ
colour_in low high n = digit_at low n + 2 * digit_at high n

-- the eight colours of a row: bit 7 is the leftmost
unfoldable pub row_of : ℕ → ℕ → List ℕ
row_of low high = map (colour_in low high) (7 ∷ 6 ∷ 5 ∷ 4 ∷ 3 ∷ 2 ∷ 1 ∷ 0 ∷ [])

-- where a row stands: its bank, and in it the offset of the address of its first byte
abbrev pub in_bank : ℕ → ℕ → Address
in_bank bank address = record { bank = bank; offset = address % bank_bytes }

-- the row that stands there: its first byte, and the one after it
abbrev pub row_at : List ℕ → Address → List ℕ
row_at vram a = row_of (byte_at vram a.bank a.offset) (byte_at vram a.bank (a.offset + 1))

-- an x flip mirrors a row left to right
abbrev pub mirrored : Bool → List ℕ → List ℕ
mirrored flip row = cond flip (reverse row) row

-- where a background tile begins: by LCDC bit 4 at 0x8000 + 16 x number ("8000 addressing"), or at 0x9000 + 16 x number
-- with the number signed ("8800 addressing"): 128 and more stand for themselves less 256, so 16 x 256 below
unfoldable pub tile_address : ℕ → ℕ → ℕ
tile_address lcdc tile =
    cond (bit_at lcdc 4) (0x8000 + 16 * tile) (cond (ltb tile 128) (0x9000 + 16 * tile) (0x9000 + 16 * tile - 16 * 256))
