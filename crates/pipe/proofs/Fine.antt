-- The window, the fetcher and the row that goes in keep a pipe in order.
use mathlib.Core.Path.{◌≡◌, refl, ◌∙◌}
use mathlib.Core.Bool.{Bool, true}
use mathlib.Core.List.{List}
use Prim.Native.Nat.{ℕ, ◌≤◌}
use native.Mathlib.Omega.{arith}
use borrow.Author.Tests.{le-leb}
use lib.ListN.{get_or}
use Rattle.logic.proofs.Every.{every_all, every_map}
use Rattle.bg_attribs.specs.Attribute.{palette_number, priority_of}
use Rattle.bg_attribs.specs.declared.BgAttribute.{BgAttribute}
use Rattle.colors.specs.Palettes.{palette}
use Rattle.fifo.specs.Background.{bg_cleared, bg_row, bg_inked}
use Rattle.fifo.specs.Sprites.{sprite_cleared}
use Rattle.fifo.specs.Background.{BgFifo}
use Rattle.fifo.specs.Sprites.{SpriteFifo}
use Rattle.fifo.proofs.Background.{bg_cleared_every, bg_pushed_every, bg_pushed_slots, bg_pushed_len, bg_row_length}
use Rattle.fifo.proofs.Sprites.{sprite_cleared_every}
use Rattle.tiles.proofs.Colours.{Colours, fetched_colours}
use Rattle.state.specs.declared.Registers.{Registers}
use Rattle.state.specs.declared.Pipe.{Pipe}
use Rattle.order.specs.Order.{colour_order, row_order, bg_pixel_order, sprite_pixel_order}
use Rattle.order.specs.Fine.{BgFine, SpriteFine, PipeFine}
use Rattle.pipe.specs.Window.{emptied, windowed}
use Rattle.pipe.specs.Fetching.{fetch_of, fetched_pipe, row_pushed, fed}
use Rattle.pipe.proofs.Ways.{windowed_cases, fetched_cases, fed_cases}

-- emptied queues
bg_cleared_fine : {q : BgFifo} → BgFine q → BgFine (bg_cleared q)
bg_cleared_fine {q} h = record { size = h.size; len = omega arith; pixels = bg_cleared_every bg_pixel_order q }

sprite_cleared_fine : {q : SpriteFifo} → SpriteFine q → SpriteFine (sprite_cleared q)
sprite_cleared_fine {q} h = record { size = h.size; len = omega arith; pixels = sprite_cleared_every sprite_pixel_order q }

pub emptied_fine : {p : Pipe} → PipeFine p → PipeFine (emptied p)
emptied_fine h =
    let f = h.fetcher in
    record {
      fetcher = record { size = f.size; delay = f.delay; colours = f.colours };
      bg = bg_cleared_fine h.bg;
      obj = sprite_cleared_fine h.obj;
    }

pub windowed_fine : (allowed : Bool) (x wx : ℕ) {p : Pipe} → PipeFine p → PipeFine (windowed allowed x wx p)
windowed_fine allowed x wx {p} h =
    let e = emptied_fine h in
    windowed_cases allowed x wx p PipeFine (λ o. h) (λ i. record { fetcher = e.fetcher; bg = e.bg; obj = e.obj })

-- eight colours are a row in order
row_order_law : {row : List ℕ} → Colours row → row_order row ≡ true
row_order_law {row} c = every_all colour_order row 0 (λ k h. le-leb (get_or row k 0) 3 (c.small k))

pub fetched_fine : (vram : List ℕ) (r : Registers) (line : ℕ) {p : Pipe} → PipeFine p → PipeFine (fetched_pipe vram r line p)
fetched_fine vram r line {p} h =
    let f = h.fetcher in
    let c = fetched_colours vram (fetch_of r line p) in
    fetched_cases vram r line p PipeFine
    (λ late. record { fetcher = record { size = f.size; delay = omega (arith, f.delay); colours = f.colours }; bg = h.bg; obj = h.obj })
    (λ soon. record { fetcher = record { size = c.count; delay = omega arith; colours = row_order_law c }; bg = h.bg; obj = h.obj })

-- a row in order goes into a queue of at most eight
module _ (palettes : List ℕ) (t : BgAttribute) {p : Pipe} (few : p.bg.len ≤ 8) (h : PipeFine p) where
  pushed_fine : row_order p.fetcher.row ≡ true → PipeFine (row_pushed palettes t p)
  pushed_fine e =
      let ink = palette palettes (palette_number t.bits) in
      let priority = priority_of t.bits in
      let row = bg_row ink priority p.fetcher.row in
      let eight = bg_row_length ink priority p.fetcher.row ∙ h.fetcher.size in
      let inked = every_map bg_pixel_order (bg_inked ink priority) p.fetcher.row ∙ e in
      record {
        fetcher = record { size = h.fetcher.size; delay = h.fetcher.delay; colours = refl };
        bg =
            record {
              size = bg_pushed_slots p.bg row ∙ h.bg.size;
              len = bg_pushed_len p.bg row few;
              pixels = bg_pushed_every bg_pixel_order p.bg row h.bg.size eight few h.bg.pixels inked;
            };
        obj = h.obj;
      }

pub fed_fine : (palettes : List ℕ) {p : Pipe} → PipeFine p → PipeFine (fed palettes p)
fed_fine palettes {p} h =
    fed_cases palettes p PipeFine (λ full. h) (λ few none. h)
    (λ few t e. pushed_fine palettes t few h (rw e at h.fetcher.colours))
