-- What a source is good for, of the definitions alone.
use Rattle.std.specs.Prelude.{ℕ, ◌+◌, ◌*◌, ◌≤◌, ◌<◌, ◌≡◌, Bool, true, false, not, cond, List, get_or, replicate, Option, Some, None}
use Rattle.hardware.specs.Tables.{bank_bytes}
use Rattle.bg_attribs.specs.Attribute as attribute
use Rattle.sprite.specs.Oam as oam
use Rattle.sprite.specs.declared.Sprite.{Sprite}
use Rattle.tiles.specs.Tile.{row_of, row_at, mirrored}
use Rattle.tiles.specs.Map.{pattern, bg_off, fetch_bg}
use Rattle.tiles.specs.Objects.{sprite_row, starts_left, sprite_colours}
use Rattle.tiles.specs.Sources.{tile_row, pattern_row, fetched_row, sprite_tile_row, started_row}
use Rattle.tiles.specs.declared.Address.{Address}
use Rattle.tiles.specs.declared.TileRow.{TileRow}
use Rattle.tiles.specs.declared.Fetch.{Fetch}
use Rattle.tiles.specs.declared.FetchedRow.{FetchedRow}

-- Dropping the source gives the definitions that stood before it, which stay word for word (theorem `dropped`).
pub record Dropped : Type 0 where
  pub read : (vram : List ℕ) (a : Address) → (tile_row vram a).colors ≡ row_at vram a
  pub tile : (vram : List ℕ) (lcdc number bits row : ℕ)
      → (pattern_row vram lcdc number bits row).colors ≡ pattern vram lcdc number bits row
  pub fetch : (vram : List ℕ) (f : Fetch) → (fetched_row vram f).tile ≡ fetch_bg vram f
  pub sprite : (vram : List ℕ) (s : Sprite) (line tall : ℕ)
      → (sprite_tile_row vram s line tall).colors ≡ sprite_row vram s line tall
  pub start : (vram : List ℕ) (s : Sprite) (line tall x : ℕ)
      → (started_row vram s line tall x).colors ≡ sprite_colours vram s line tall x

-- the row of two bytes that stand side by side in VRAM, where a bank begins at a multiple of its bytes
abbrev pub side_by_side : List ℕ → Address → List ℕ
side_by_side vram a =
    row_of (get_or vram (bank_bytes * a.bank + a.offset) 0) (get_or vram (bank_bytes * a.bank + a.offset + 1) 0)

-- both bytes lie in the bank that is named, and it is one that there is
pub record Inside (a : Address) : Type 0 where
  pub bank : a.bank ≤ 1
  pub offset : a.offset + 1 < bank_bytes

-- What a source says of colours that flips and moves made of a row: the row is that of the two bytes there; where nothing was
-- read there is none, and they are eight 0s.
abbrev pub Told : List ℕ → (List ℕ → List ℕ) → List ℕ → Option Address → Type 0
Told vram made colours (Some a) = Inside a × (colours ≡ made (side_by_side vram a))
Told vram made colours None = colours ≡ replicate 8 0

-- of a fetch: mirrored by the attribute that it gives
abbrev pub TrueFetch : List ℕ → FetchedRow → Type 0
TrueFetch vram t = Told vram (mirrored (attribute.x_flip t.tile.attribute.bits)) t.tile.row t.source

-- of a sprite's start at column x: mirrored by its flags, then moved left
abbrev pub made_by : Sprite → ℕ → List ℕ → List ℕ
made_by s x row =
    let seen = mirrored (oam.x_flip s.flags) row in
    cond (starts_left s x) (oam.moved_left seen s.x) seen

abbrev pub TrueStart : List ℕ → Sprite → ℕ → TileRow → Type 0
TrueStart vram s x t = Told vram (made_by s x) t.colors t.source

abbrev pub was_read : Option Address → Bool
was_read (Some a) = true
was_read None = false

-- The sources of fetches and of sprites' starts are true, in any VRAM; a fetch reads nothing exactly where the background is taken
-- away, and a sprite always reads (theorem `sources_true`).
pub record SourcesTrue : Type 0 where
  pub fetch : (vram : List ℕ) (f : Fetch) → TrueFetch vram (fetched_row vram f)
  pub fetch_reads : (vram : List ℕ) (f : Fetch) → was_read (fetched_row vram f).source ≡ not (bg_off f.cgb f.lcdc)
  pub start : (vram : List ℕ) (s : Sprite) (line tall x : ℕ) → TrueStart vram s x (started_row vram s line tall x)
  pub start_reads : (vram : List ℕ) (s : Sprite) (line tall x : ℕ) → was_read (started_row vram s line tall x).source ≡ true
