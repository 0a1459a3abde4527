-- 01, "Lent memory and the state": when a state is in order, clause by clause. Only what is live counts: what is selected,
-- queued or fetched; slots past a count and outside a queue may hold anything. Here as a test; Fine says the same as facts.
use Rattle.std.specs.Prelude.{ℕ, ◌%◌, Bool, true, not, ◌&&◌, ◌||◌, ◌≡◌, List, eqb, ltb, leb, take, Option, Some, None}
use Rattle.hardware.specs.Screen.{width, height, line_cycles, frame_lines}
use Rattle.sprite.specs.declared.Selection.{Selection}
use Rattle.sprite.specs.declared.SelectedSprite.{SelectedSprite}
use Rattle.logic.specs.Every.{every}
use Rattle.fifo.specs.Background.{bg_queued}
use Rattle.fifo.specs.Sprites.{sprite_queued}
use Rattle.fifo.specs.Background.{BgFifo}
use Rattle.fifo.specs.declared.BgFifoPixel.{BgFifoPixel}
use Rattle.fifo.specs.Sprites.{SpriteFifo}
use Rattle.fifo.specs.declared.SpriteFifoPixel.{SpriteFifoPixel}
use Rattle.state.specs.declared.Registers.{Registers}
use Rattle.state.specs.declared.Palettes.{Palettes}
use Rattle.state.specs.declared.Fetcher.{Fetcher}
use Rattle.state.specs.declared.Beam.{Beam}
use Rattle.state.specs.Shape.{Shaped}
use Rattle.state.specs.declared.State.{State}

-- cycle even and below 456; line below 154; LCD x below 160; shown picture 0 or 1
abbrev pub beam_order : Beam → Bool
beam_order b =
    eqb (b.cycle % 2) 0 && (ltb b.cycle line_cycles && (ltb b.line frame_lines && (ltb b.x width && leb b.shown 1)))

-- LY below 154; bank 0 or 1; STAT below 128
abbrev pub registers_order : Registers → Bool
registers_order r = ltb r.ly frame_lines && (leb r.vbk 1 && ltb r.stat 128)

-- mode 3 only on lines below 144; the mode is the lowest two bits of STAT
abbrev pub mode_order : ℕ → ℕ → Bool
mode_order stat line = not (eqb (stat % 4) 3) || ltb line height

-- palette indexes at most 63
abbrev pub palettes_order : Palettes → Bool
palettes_order p = leb p.bg.index 63 && leb p.obj.index 63

-- at most 10 selected; selected indexes at most 39
abbrev pub slot_order : SelectedSprite → Bool
slot_order slot = leb slot.index 39

abbrev pub selection_order : Selection → Bool
selection_order s = leb s.count 10 && every slot_order (take s.count s.slots)

-- fetch delay at most 8; fetched colours at most 3
abbrev pub colour_order : ℕ → Bool
colour_order colour = leb colour 3

abbrev pub row_order : List ℕ → Bool
row_order row = every colour_order row

abbrev pub waiting_order : {A : Type 0} → Option A → List ℕ → Bool
waiting_order (Some attribute) row = row_order row
waiting_order None row = true

abbrev pub fetcher_order : Fetcher → Bool
fetcher_order f = leb f.delay 8 && waiting_order f.waiting f.row

-- queue length at most 16; queued colours at most 3
abbrev pub bg_pixel_order : BgFifoPixel → Bool
bg_pixel_order p = colour_order p.color

abbrev pub bg_order : BgFifo → Bool
bg_order q = leb q.len 16 && every bg_pixel_order (bg_queued q)

-- queue length at most 8; queued colours at most 3, sprite palette selectors 0 or 1, queued indexes at most 39
abbrev pub sprite_pixel_order : SpriteFifoPixel → Bool
sprite_pixel_order p = colour_order p.color && (leb p.obp 1 && leb p.index 39)

abbrev pub sprite_order : SpriteFifo → Bool
sprite_order q = leb q.len 8 && every sprite_pixel_order (sprite_queued q)

-- a state is in order
unfoldable pub in_order : State → Bool
in_order s =
    beam_order s.beam
    && (registers_order s.regs
    && (mode_order s.regs.stat s.beam.line
    && (palettes_order s.palettes
    && (selection_order s.selection
    && (fetcher_order s.pipe.fetcher && (bg_order s.pipe.bg && sprite_order s.pipe.obj))))))

-- the answer of the test, and the sizes that the type of a state gives
pub record Judged (s : State) (b : Bool) : Type 0 where
  pub answer : b ≡ in_order s
  pub shape : Shaped s
