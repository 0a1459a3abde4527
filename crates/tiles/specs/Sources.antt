-- Where a row was read: what Tile, Map and Objects say of a row, and beside it the place in VRAM of the row's first byte. The pictures
-- go by those definitions; dropping the source gives them back (Laws `Dropped`).
use Rattle.std.specs.Prelude.{ℕ, ◌+◌, ◌/◌, ◌%◌, Bool, cond, List, Some, None}
use Rattle.wrap.specs.Wrap.{bit_at}
use Rattle.sprite.specs.declared.Sprite.{Sprite}
use Rattle.tiles.specs.Tile.{byte_at, row_at, mirrored}
use Rattle.tiles.specs.Map.{map_address, bg_address, pattern, fetch_at, bg_off, no_tile}
use Rattle.tiles.specs.Objects.{sprite_address, sprite_row, sprite_colours}
use Rattle.tiles.specs.declared.Address.{Address}
use Rattle.tiles.specs.declared.TileRow.{TileRow}
use Rattle.tiles.specs.declared.Fetch.{Fetch}
use Rattle.tiles.specs.declared.FetchedRow.{FetchedRow}

-- colours that come from the row at an address
abbrev pub read_at : Address → List ℕ → TileRow
read_at a colours = record { colors = colours; source = Some a }

-- the row at an address as it is read
abbrev pub tile_row : List ℕ → Address → TileRow
tile_row vram a = read_at a (row_at vram a)

-- an x flip mirrors the colours; the row was read where it was read
abbrev pub flipped : Bool → TileRow → TileRow
flipped flip t = record { colors = mirrored flip t.colors; source = t.source }

-- the row of a tile, by its number, its attribute and the row of the map
unfoldable pub pattern_row : List ℕ → ℕ → ℕ → ℕ → ℕ → TileRow
pattern_row vram lcdc tile attribute row = read_at (bg_address lcdc tile attribute row) (pattern vram lcdc tile attribute row)

-- a fetch at an address of the map, with the source of its tile's row: the number is in bank 0, the attribute in bank 1
abbrev pub fetched_at : List ℕ → ℕ → ℕ → ℕ → FetchedRow
fetched_at vram lcdc address row =
    record {
      tile = fetch_at vram lcdc address row;
      source = (pattern_row vram lcdc (byte_at vram 0 address) (byte_at vram 1 address) row).source;
    }

-- a fetch at a row of places and a column of tiles of a map
abbrev pub fetched_tile : List ℕ → ℕ → Bool → ℕ → ℕ → FetchedRow
fetched_tile vram lcdc high row column = fetched_at vram lcdc (map_address high row column) row

-- with the background taken away no row is read
abbrev pub nothing_fetched : FetchedRow
nothing_fetched = record { tile = no_tile; source = None }

-- a fetch of the background or the window, at the place of the map that Map's `fetch_window` and `fetch_scrolled` look at
unfoldable pub fetched_row : List ℕ → Fetch → FetchedRow
fetched_row vram f =
    cond (bg_off f.cgb f.lcdc) nothing_fetched
    (cond f.window
    (fetched_tile vram f.lcdc (bit_at f.lcdc 6) f.wrow f.column)
    (fetched_tile vram f.lcdc (bit_at f.lcdc 3) ((f.line + f.scy) % 256) ((f.scx / 8 + f.column) % 32)))

-- the row of a sprite in a line, and of one that starts at a column: some of its colours may be gone, but it was read whole
unfoldable pub sprite_tile_row : List ℕ → Sprite → ℕ → ℕ → TileRow
sprite_tile_row vram s line tall = read_at (sprite_address s line tall) (sprite_row vram s line tall)

unfoldable pub started_row : List ℕ → Sprite → ℕ → ℕ → ℕ → TileRow
started_row vram s line tall x = read_at (sprite_address s line tall) (sprite_colours vram s line tall x)
