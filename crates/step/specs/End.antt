-- 01, "One step", 3 to 5, on the groups that they change: the registers and the beam.
use Rattle.std.specs.Prelude.{ℕ, ◌+◌, Bool, not, cond, ◌&&◌, eqb}
use Rattle.wrap.specs.Wrap.{bit_at}
use Rattle.state.specs.With.{mode_of, with_level}
use Rattle.state.specs.declared.Registers.{Registers}
use Rattle.state.specs.declared.Beam.{Beam}
use Rattle.state.specs.declared.State.{State}
use Rattle.modes.specs.Modes.{begins, rests, level_of, compared_registers}
use Rattle.beam.specs.Advance.{swaps, advanced_beam, advanced_registers}
use Rattle.beam.specs.Marks.{mark_of}
use Rattle.step.specs.Step.{lit}
use Rattle.step.specs.declared.Report.{Report}
use Rattle.step.specs.declared.Ended.{Ended}

-- a mode may begin, or a line be searched: the display is on, and the cycle is one of theirs
unfoldable pub starting : State → Bool
starting s = lit s && begins s.beam

-- a step draws: the display is on, in mode 3
unfoldable pub drawing : State → Bool
drawing s = lit s && eqb (mode_of s.regs.stat) 3

-- the request bits, from the beam before the step and the settled one
abbrev pub requests_by : Beam → Beam → ℕ
requests_by b t = cond (rests b) 1 0 + cond (t.level && not b.level) 2 0

-- the answer, from the beam before the step, the settled one, and the registers after it
abbrev pub report_by : ℕ → Beam → Beam → Registers → Report
report_by n b t r =
    record {
      requests = requests_by b t;
      mode = mode_of r.stat;
      coincidence = bit_at r.stat 2;
      ly = r.ly;
      swapped = swaps n t;
      mark = mark_of n t;
      count = t.count;
    }

-- the beam that knows the level
abbrev pub levelled : Bool → State → Beam
levelled held w = with_level w.beam (level_of held w)

-- the registers after the step
abbrev pub registers_after : ℕ → Bool → State → Registers
registers_after n held w = advanced_registers n (compared_registers w.regs w.beam) (levelled held w)

-- the end of a step: from the beam before it, the level by the mode held and the worked state
abbrev pub ended : ℕ → Beam → Bool → State → Ended
ended n b held w =
    record {
      report = report_by n b (levelled held w) (registers_after n held w);
      regs = registers_after n held w;
      beam = advanced_beam n (levelled held w);
    }
