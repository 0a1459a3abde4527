-- Pan Docs, "VRAM Tile Maps", "BG Map Attributes" and "Pixel FIFO": the tile row that a fetch gives.
use Rattle.std.specs.Prelude.{ℕ, ◌+◌, ◌-◌, ◌*◌, ◌/◌, ◌%◌, Bool, not, cond, ◌&&◌, List, replicate}
use Rattle.wrap.specs.Wrap.{bit_at}
use Rattle.bg_attribs.specs.Attribute.{bank_of, x_flip, y_flip}
use Rattle.tiles.specs.Tile.{byte_at, in_bank, row_at, tile_address, mirrored}
use Rattle.tiles.specs.declared.Address.{Address}
use Rattle.tiles.specs.declared.Fetch.{Fetch}
use Rattle.tiles.specs.declared.Fetched.{Fetched}

-- where a map holds the tile of a row of places and a column of tiles: 32 tiles a line, eight rows a tile
abbrev pub map_address : Bool → ℕ → ℕ → ℕ
map_address high row column = cond high 0x9C00 0x9800 + 32 * (row / 8) + column

-- which of a tile's eight rows a row of the map meets; a y flip counts from the lowest
abbrev pub tile_line : Bool → ℕ → ℕ
tile_line flip row = cond flip (7 - row % 8) (row % 8)

-- where the row of a tile stands, by its number, its attribute and the row of the map: two bytes a row
abbrev pub bg_address : ℕ → ℕ → ℕ → ℕ → Address
bg_address lcdc tile attribute row =
    in_bank (bank_of attribute) (tile_address lcdc tile + 2 * tile_line (y_flip attribute) row)

-- its colours, with the x flip of the attribute
unfoldable pub pattern : List ℕ → ℕ → ℕ → ℕ → ℕ → List ℕ
pattern vram lcdc tile attribute row = mirrored (x_flip attribute) (row_at vram (bg_address lcdc tile attribute row))

-- a fetch at an address of the map: the number is in bank 0, the attribute in bank 1
abbrev pub fetch_at : List ℕ → ℕ → ℕ → ℕ → Fetched
fetch_at vram lcdc address row =
    record {
      row = pattern vram lcdc (byte_at vram 0 address) (byte_at vram 1 address) row;
      attribute = record { bits = byte_at vram 1 address };
    }

-- a fetch at a row of places and a column of tiles of a map
abbrev pub fetch_tile : List ℕ → ℕ → Bool → ℕ → ℕ → Fetched
fetch_tile vram lcdc high row column = fetch_at vram lcdc (map_address high row column) row

-- outside colour mode LCDC bit 0 clear takes the background away
abbrev pub bg_off : Bool → ℕ → Bool
bg_off cgb lcdc = not cgb && not (bit_at lcdc 0)

-- then: eight 0s with attribute 0
abbrev pub no_tile : Fetched
no_tile = record { row = replicate 8 0; attribute = record { bits = 0 } }

-- in the window: its row and the fetch column, map by LCDC bit 6
abbrev pub fetch_window : List ℕ → Fetch → Fetched
fetch_window vram f = fetch_tile vram f.lcdc (bit_at f.lcdc 6) f.wrow f.column

-- outside it: scrolled by SCY and SCX, map by LCDC bit 3
abbrev pub fetch_scrolled : List ℕ → Fetch → Fetched
fetch_scrolled vram f =
    fetch_tile vram f.lcdc (bit_at f.lcdc 3) ((f.line + f.scy) % 256) ((f.scx / 8 + f.column) % 32)

-- a fetch of the background or the window
unfoldable pub fetch_bg : List ℕ → Fetch → Fetched
fetch_bg vram f =
    cond (bg_off f.cgb f.lcdc) no_tile (cond f.window (fetch_window vram f) (fetch_scrolled vram f))
