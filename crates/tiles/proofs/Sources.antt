-- Without its source a row is what it was before, and a source is true (specs/Laws).
use Rattle.std.proofs.Common.{Some}
use mathlib.Core.Path.{◌≡◌, refl}
use mathlib.Core.Bool.{Bool, true, false, not, cond}
use mathlib.Core.List.{List}
use Prim.Native.Nat.{ℕ, ◌+◌, ◌*◌, ◌%◌}
use native.Mathlib.Omega.{arith}
use lib.Dec.{ltb}
use Rattle.logic.proofs.Tests.{by_test}
use Rattle.wrap.specs.Wrap.{bit_at, digit_at}
use Rattle.hardware.specs.Tables.{bank_bytes}
use Rattle.bg_attribs.specs.Attribute.{x_flip}
use Rattle.sprite.specs.declared.Sprite.{Sprite}
use Rattle.tiles.specs.Tile.{byte_at, in_bank, row_at, mirrored, tile_address}
use Rattle.tiles.specs.Map.{pattern, bg_off, fetch_bg}
use Rattle.tiles.specs.Objects.{sprite_row, sprite_colours}
use Rattle.tiles.specs.Sources.{pattern_row, fetched_at, nothing_fetched, fetched_row, sprite_tile_row, started_row}
use Rattle.tiles.specs.Laws.{Dropped, Inside, side_by_side, Told, TrueFetch, made_by, TrueStart, was_read, SourcesTrue}
use Rattle.tiles.specs.declared.Address.{Address}
use Rattle.tiles.specs.declared.Fetch.{Fetch}
use Rattle.tiles.specs.declared.FetchedRow.{FetchedRow}

-- without its source a choice of fetches is the choice without
tile_of : (v : Bool) (x y : FetchedRow) → (cond v x y).tile ≡ cond v x.tile y.tile
tile_of true x y = refl
tile_of false x y = refl

drop_tile : (vram : List ℕ) (lcdc number bits row : ℕ) → (pattern_row vram lcdc number bits row).colors ≡ pattern vram lcdc number bits row
unfolding pattern_row
drop_tile vram lcdc number bits row = refl

drop_fetch : (vram : List ℕ) (f : Fetch) → (fetched_row vram f).tile ≡ fetch_bg vram f
unfolding fetched_row fetch_bg
drop_fetch vram f = simp tile_of

drop_sprite : (vram : List ℕ) (s : Sprite) (line tall : ℕ) → (sprite_tile_row vram s line tall).colors ≡ sprite_row vram s line tall
unfolding sprite_tile_row
drop_sprite vram s line tall = refl

drop_start : (vram : List ℕ) (s : Sprite) (line tall x : ℕ) → (started_row vram s line tall x).colors ≡ sprite_colours vram s line tall x
unfolding started_row
drop_start vram s line tall x = refl

pub dropped : Dropped
dropped =
    record {
      read = λ vram a. refl;
      tile = drop_tile;
      fetch = drop_fetch;
      sprite = drop_sprite;
      start = drop_start;
    }

-- in a bank that is there, rows begin at even addresses: the second byte is in it too
inside : (bits address : ℕ) → address % 2 ≡ 0 → Inside (in_bank (digit_at bits 3) address)
inside bits address even = record { bank = omega arith; offset = omega arith }

-- so they stand side by side
together : (vram : List ℕ) (a : Address) → Inside a → row_at vram a ≡ side_by_side vram a
together vram a i =
    let first : a.offset % bank_bytes ≡ a.offset = omega (arith, i.offset) in
    let second : (a.offset + 1) % bank_bytes ≡ a.offset + 1 = omega (arith, i.offset) in
    let after : bank_bytes * a.bank + (a.offset + 1) ≡ bank_bytes * a.bank + a.offset + 1 = omega arith in
    rw (first, second, after)

-- what was made of the row at an address was made of the two bytes there
told : (vram : List ℕ) (made : List ℕ → List ℕ) (bits address : ℕ) → address % 2 ≡ 0
    → Told vram made (made (row_at vram (in_bank (digit_at bits 3) address))) (Some (in_bank (digit_at bits 3) address))
told vram made bits address even =
    let i = inside bits address even in
    (i, rw (together vram (in_bank (digit_at bits 3) address) i))

tile_even : (lcdc tile line : ℕ) → (tile_address lcdc tile + 2 * line) % 2 ≡ 0
unfolding tile_address
tile_even lcdc tile line =
    by_test (λ n. (n + 2 * line) % 2 ≡ 0) (bit_at lcdc 4) (λ unsigned. omega arith)
    (λ signed. by_test (λ n. (n + 2 * line) % 2 ≡ 0) (ltb tile 128) (λ low. omega arith) (λ high. omega arith))

true_at : (vram : List ℕ) (lcdc address row : ℕ) → TrueFetch vram (fetched_at vram lcdc address row)
unfolding pattern_row pattern
true_at vram lcdc address row =
    told vram (mirrored (x_flip (byte_at vram 1 address))) (byte_at vram 1 address) _ (tile_even lcdc (byte_at vram 0 address) _)

true_fetch : (vram : List ℕ) (f : Fetch) → TrueFetch vram (fetched_row vram f)
unfolding fetched_row
true_fetch vram f =
    by_test (TrueFetch vram) (bg_off f.cgb f.lcdc) (λ off. refl)
    (λ on. by_test (TrueFetch vram) f.window (λ w. true_at vram _ _ _) (λ w. true_at vram _ _ _))

-- a fetch reads where the background is there
reads_of : (off window : Bool) (x y : FetchedRow) → was_read x.source ≡ true → was_read y.source ≡ true
    → was_read (cond off nothing_fetched (cond window x y)).source ≡ not off
reads_of true window x y h k = refl
reads_of false true x y h k = h
reads_of false false x y h k = k

fetch_reads_law : (vram : List ℕ) (f : Fetch) → was_read (fetched_row vram f).source ≡ not (bg_off f.cgb f.lcdc)
unfolding fetched_row pattern_row
fetch_reads_law vram f = reads_of (bg_off f.cgb f.lcdc) f.window _ _ refl refl

true_start : (vram : List ℕ) (s : Sprite) (line tall x : ℕ) → TrueStart vram s x (started_row vram s line tall x)
unfolding started_row sprite_colours sprite_row
true_start vram s line tall x = told vram (made_by s x) s.flags _ (omega arith)

start_reads_law : (vram : List ℕ) (s : Sprite) (line tall x : ℕ) → was_read (started_row vram s line tall x).source ≡ true
unfolding started_row
start_reads_law vram s line tall x = refl

pub sources_true : SourcesTrue
sources_true = record { fetch = true_fetch; fetch_reads = fetch_reads_law; start = true_start; start_reads = start_reads_law }
