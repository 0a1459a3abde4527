-- A mode that begins, a search and a comparison keep a state in order.
use mathlib.Core.Path.{◌≡◌, sym, ◌∙◌}
use mathlib.Core.Bool.{Bool, true, false}
use mathlib.Core.List.{List}
use Prim.Native.Nat.{ℕ, ◌<◌}
use native.Mathlib.Omega.{arith}
use Rattle.logic.proofs.Tests.{by_test}
use Rattle.hardware.specs.Screen.{height, frame_lines, last_line}
use Rattle.pixel.specs.Sprites.{tall_of}
use Rattle.state.specs.With.{with_coincidence, mode_of}
use Rattle.state.specs.declared.Pipe.{Pipe}
use Rattle.state.specs.declared.State.{State}
use Rattle.order.specs.Fine.{PipeFine, Fine}
use Rattle.modes.specs.Modes.{stands, coincides, in_mode, rendering, resting, entered, searched, compared}
use Rattle.modes.proofs.Ways.{entered_cases, searched_cases}
use Rattle.modes.proofs.Selected.{selection_fine}

-- the pipe where mode 3 and mode 1 begin
rendering_fine : (scx : ℕ) {p : Pipe} → PipeFine p → PipeFine (rendering scx p)
rendering_fine scx h =
    record { fetcher = record { size = h.fetcher.size; delay = omega arith; colours = h.fetcher.colours }; bg = h.bg; obj = h.obj }

resting_fine : {p : Pipe} → PipeFine p → PipeFine (resting p)
resting_fine h = record { fetcher = h.fetcher; bg = h.bg; obj = h.obj }

-- a mode, a pipe in order and a mode 3 end
in_mode_fine : {s : State} {p : Pipe} (mode end : ℕ) → mode < 4 → (mode ≡ 3 → s.beam.line < height) → Fine s → PipeFine p
    → Fine (in_mode s mode p end)
in_mode_fine {s} mode end m line f p =
    let b = f.beam in
    let r = f.regs in
    let low : s.regs.stat < 128 = r.stat in
    record {
      beam = record { even = b.even; cycle = b.cycle; line = b.line; x = b.x; shown = b.shown };
      regs = record { ly = r.ly; bank = r.bank; stat = omega arith };
      mode3 = λ e. line (omega arith);
      palettes = f.palettes;
      selection = f.selection;
      pipe = p;
    }

pub entered_fine : (s : State) → Fine s → Fine (entered s)
entered_fine s f =
    entered_cases Fine s
    (λ l c. in_mode_fine 2 0 (omega arith) (λ e. absurd (omega arith)) f f.pipe)
    (λ l c. in_mode_fine 3 s.beam.end (omega arith) (λ e. l) f (rendering_fine s.regs.scx f.pipe))
    (λ l c. in_mode_fine 1 0 (omega arith) (λ e. absurd (omega arith)) f (resting_fine f.pipe))
    (λ a b. f)

pub searched_fine : (oam : List ℕ) (s : State) → Fine s → Fine (searched oam s)
searched_fine oam s f =
    searched_cases Fine oam s
    (record {
      beam = f.beam;
      regs = f.regs;
      mode3 = f.mode3;
      palettes = f.palettes;
      selection = selection_fine oam s.beam.line (tall_of s.regs.lcdc) f.selection;
      pipe = f.pipe;
    })
    f

-- the coincidence bit changes neither the mode nor the bound
module _ (stat : ℕ) where
  coincidence_fits : (set : Bool) → stat < 128 → with_coincidence stat set < 128
  coincidence_fits true h = omega arith
  coincidence_fits false h = omega arith

  pub coincidence_mode : (set : Bool) → mode_of (with_coincidence stat set) ≡ mode_of stat
  coincidence_mode true = omega arith
  coincidence_mode false = omega arith

pub compared_fine : (level : Bool) (s : State) → Fine s → Fine (compared level s)
unfolding compared
compared_fine level s f =
    let b = f.beam in
    let r = f.regs in
    record {
      beam = record { even = b.even; cycle = b.cycle; line = b.line; x = b.x; shown = b.shown };
      regs =
          record {
            ly = by_test (λ (ly : ℕ). ly < frame_lines) (stands s.beam last_line 4) (λ e. omega arith) (λ e. r.ly);
            bank = r.bank;
            stat = coincidence_fits s.regs.stat (coincides s) r.stat;
          };
      mode3 = λ e. f.mode3 (sym (coincidence_mode s.regs.stat (coincides s)) ∙ e);
      palettes = f.palettes;
      selection = f.selection;
      pipe = f.pipe;
    }

-- the comparison keeps the mode
pub compared_mode : (level : Bool) (s : State) → mode_of (compared level s).regs.stat ≡ mode_of s.regs.stat
unfolding compared
compared_mode level s = coincidence_mode s.regs.stat (coincides s)
