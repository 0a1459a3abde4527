-- 01, "One step", 5: the cycle advances; at 456 the next line; after line 153 the pictures swap.
use Rattle.std.specs.Prelude.{ℕ, ◌+◌, Bool, false, cond, ◌&&◌, eqb}
use Rattle.hardware.specs.Screen.{line_cycles, frame_lines, places}
use Rattle.lcd.specs.Pictures.{other}
use Rattle.state.specs.With.{with_registers, with_beam, with_ly, with_place, with_x, with_shown, with_count, with_turned, with_blanked}
use Rattle.state.specs.declared.Registers.{Registers}
use Rattle.state.specs.declared.Beam.{Beam}
use Rattle.state.specs.declared.State.{State}

-- the step ends the line, and with line 153 the frame
abbrev pub ends : ℕ → Beam → Bool
ends n b = eqb (b.cycle + n) line_cycles

abbrev pub swaps : ℕ → Beam → Bool
swaps n b = ends n b && eqb (b.line + 1) frame_lines

-- cycle advances; `lcd_turned_on` falls
abbrev pub onward : ℕ → Beam → Beam
onward n b = with_turned (with_place b b.line (b.cycle + n)) false

-- the next line
abbrev pub next_line : Beam → Beam
next_line b = with_turned (with_place b (b.line + 1) 0) false

-- after 153 the pictures swap: line 0, LCD x 0, no place stored; request 5: no blanking since
abbrev pub next_frame : Beam → Beam
next_frame b =
    with_blanked (with_shown (with_count (with_x (with_turned (with_place b 0 0) false) 0) 0) (other b.shown)) false

-- a new line sets LY
abbrev pub at_line : State → Beam → State
at_line s b = with_beam (with_registers s (with_ly s.regs b.line)) b

-- the state further in its line, in the next line, in the next frame
abbrev pub in_line : ℕ → State → State
in_line n s = with_beam s (onward n s.beam)

abbrev pub in_next_line : State → State
in_next_line s = at_line s (next_line s.beam)

abbrev pub in_next_frame : State → State
in_next_frame s = at_line s (next_frame s.beam)

-- at 456 the next line
unfoldable pub advanced : ℕ → State → State
advanced n s =
    cond (ends n s.beam) (cond (eqb (s.beam.line + 1) frame_lines) (in_next_frame s) (in_next_line s)) (in_line n s)

-- the whole mark: yes at a swap with every place stored
unfoldable pub whole : ℕ → Beam → Bool
whole n b = swaps n b && eqb b.count places

-- what the advance leaves in the beam, and in the registers
unfoldable pub advanced_beam : ℕ → Beam → Beam
advanced_beam n b = cond (ends n b) (cond (eqb (b.line + 1) frame_lines) (next_frame b) (next_line b)) (onward n b)

abbrev pub advanced_registers : ℕ → Registers → Beam → Registers
advanced_registers n r b = cond (ends n b) (with_ly r (advanced_beam n b).line) r
