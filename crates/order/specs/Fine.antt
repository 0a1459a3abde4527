-- 01, "Lent memory and the state": a state in order, group by group, each with the sizes of its arrays. A rule that changes one
-- group keeps the others, and shows one part of this.
use Rattle.std.specs.Prelude.{◌%◌, ◌≤◌, ◌<◌, ◌≡◌, true, length, take}
use Rattle.logic.specs.Every.{every}
use Rattle.hardware.specs.Screen.{width, height, line_cycles, frame_lines}
use Rattle.colors.specs.declared.PaletteSet.{PaletteSet}
use Rattle.sprite.specs.declared.Selection.{Selection}
use Rattle.fifo.specs.Background.{bg_queued}
use Rattle.fifo.specs.Sprites.{sprite_queued}
use Rattle.fifo.specs.Background.{BgFifo}
use Rattle.fifo.specs.Sprites.{SpriteFifo}
use Rattle.state.specs.With.{mode_of}
use Rattle.state.specs.declared.Registers.{Registers}
use Rattle.state.specs.declared.Palettes.{Palettes}
use Rattle.state.specs.declared.Fetcher.{Fetcher}
use Rattle.state.specs.declared.Pipe.{Pipe}
use Rattle.state.specs.declared.Beam.{Beam}
use Rattle.state.specs.declared.State.{State}
use Rattle.order.specs.Order.{slot_order, waiting_order, bg_pixel_order, sprite_pixel_order}

-- cycle even and below 456; line below 154; LCD x below 160; shown picture 0 or 1
pub record BeamFine (b : Beam) : Type 0 where
  pub even : b.cycle % 2 ≡ 0
  pub cycle : b.cycle < line_cycles
  pub line : b.line < frame_lines
  pub x : b.x < width
  pub shown : b.shown ≤ 1

-- LY below 154; bank 0 or 1; STAT below 128
pub record RegistersFine (r : Registers) : Type 0 where
  pub ly : r.ly < frame_lines
  pub bank : r.vbk ≤ 1
  pub stat : r.stat < 128

-- palette indexes at most 63
pub record SetFine (p : PaletteSet) : Type 0 where
  pub bytes : length p.bytes ≡ 64
  pub index : p.index ≤ 63

pub record PalettesFine (p : Palettes) : Type 0 where
  pub bg : SetFine p.bg
  pub obj : SetFine p.obj

-- at most 10 selected; selected indexes at most 39
pub record SelectionFine (l : Selection) : Type 0 where
  pub slots : length l.slots ≡ 10
  pub count : l.count ≤ 10
  pub indexes : every slot_order (take l.count l.slots) ≡ true

-- fetch delay at most 8; fetched colours at most 3
pub record FetcherFine (f : Fetcher) : Type 0 where
  pub size : length f.row ≡ 8
  pub delay : f.delay ≤ 8
  pub colours : waiting_order f.waiting f.row ≡ true

-- queue length at most 16; queued colours at most 3
pub record BgFine (q : BgFifo) : Type 0 where
  pub size : length q.pixels ≡ 16
  pub len : q.len ≤ 16
  pub pixels : every bg_pixel_order (bg_queued q) ≡ true

-- queue length at most 8; queued colours at most 3, sprite palette selectors 0 or 1, queued indexes at most 39
pub record SpriteFine (q : SpriteFifo) : Type 0 where
  pub size : length q.pixels ≡ 8
  pub len : q.len ≤ 8
  pub pixels : every sprite_pixel_order (sprite_queued q) ≡ true

pub record PipeFine (p : Pipe) : Type 0 where
  pub fetcher : FetcherFine p.fetcher
  pub bg : BgFine p.bg
  pub obj : SpriteFine p.obj

-- all of it; mode 3 only on lines below 144
pub record Fine (s : State) : Type 0 where
  pub beam : BeamFine s.beam
  pub regs : RegistersFine s.regs
  pub mode3 : mode_of s.regs.stat ≡ 3 → s.beam.line < height
  pub palettes : PalettesFine s.palettes
  pub selection : SelectionFine s.selection
  pub pipe : PipeFine s.pipe
