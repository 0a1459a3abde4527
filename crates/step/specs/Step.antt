-- 01, "One step": the whole of it, and what it answers.
use Rattle.std.specs.Prelude.{ℕ, ◌+◌, ◌≡◌, Bool, false, not, cond, ◌&&◌, List, [], Option}
use Rattle.wrap.specs.Wrap.{bit_at}
use Rattle.hardware.specs.Tables.{Tables}
use Rattle.lcd.specs.Pictures.{Pictures}
use Rattle.state.specs.With.{mode_of}
use Rattle.state.specs.declared.State.{State}
use Rattle.modes.specs.Modes.{entered, mode_level, searched, level_of, compared, rests}
use Rattle.burst.specs.Burst.{Burst, burst, drawn_into}
use Rattle.beam.specs.Advance.{swaps, advanced}
use Rattle.beam.specs.Marks.{mark_of}
use Rattle.beam.specs.declared.Mark.TheVariants.{No}
use Rattle.step.specs.declared.Report.{Report}
use Rattle.draw.specs.declared.Place.{Place}

-- LCDC bit 7: the display is on
abbrev pub lit : State → Bool
lit s = bit_at s.regs.lcdc 7

-- 1 and 2: the mode that begins, the sprites that a line selects, and the draws of the step, none outside mode 3
unfoldable pub working : ℕ → Tables → State → Burst
working n t s = burst n t.vram (searched t.oam (entered s))

-- 2 to 4: the level by the mode held, and what joins it
unfoldable pub new_level : ℕ → Tables → State → Bool
new_level n t s = level_of (mode_level (entered s)) (working n t s).state

-- the state before the cycle advances
unfoldable pub settled : ℕ → Tables → State → State
settled n t s = compared (new_level n t s) (working n t s).state

-- 5: the state after a step; while off a step changes nothing
unfoldable pub stepped : ℕ → Tables → State → State
stepped n t s = cond (lit s) (advanced n (settled n t s)) s

-- what the draws of a step answered, in order
unfoldable pub shots_of : ℕ → Tables → State → List (Option Place)
shots_of n t s = cond (lit s) (working n t s).shots []

-- they are stored in the picture that is not shown
abbrev pub pictures_after : ℕ → Tables → State → Pictures → Pictures
pictures_after n t s p = drawn_into s.beam.shown (shots_of n t s) p

-- request bits: 1 VBlank at (144,4), 2 STAT if the level rose
abbrev pub requests : State → State → ℕ
requests s t = cond (rests s.beam) 1 0 + cond (t.beam.level && not s.beam.level) 2 0

-- what a step answers, from the states before it, before the cycle advances, and after it: the count is that before a swap
abbrev pub report_of : ℕ → State → State → State → Report
report_of n s t u =
    record {
      requests = requests s t;
      mode = mode_of u.regs.stat;
      coincidence = bit_at u.regs.stat 2;
      ly = u.regs.ly;
      swapped = swaps n t.beam;
      mark = mark_of n t.beam;
      count = t.beam.count;
    }

abbrev pub off_report : State → Report
off_report s =
    record {
      requests = 0;
      mode = mode_of s.regs.stat;
      coincidence = bit_at s.regs.stat 2;
      ly = s.regs.ly;
      swapped = false;
      mark = No;
      count = s.beam.count;
    }

unfoldable pub report : ℕ → Tables → State → Report
report n t s = cond (lit s) (report_of n s (settled n t s) (advanced n (settled n t s))) (off_report s)

-- a step: its answer, the state, and both pictures
pub record StepTaken (n : ℕ) (t : Tables) (s : State) (p : Pictures) (r : Report) (u : State) (p' : Pictures) : Type 0 where
  pub answer : r ≡ report n t s
  pub state : u ≡ stepped n t s
  pub pictures : p' ≡ pictures_after n t s p
