-- The public calls that touch the pictures: what each answers and leaves, done or refused; the others stand in `ports`. A refusal
-- gives its number, the state as given (a start: the fresh one), 0 or no for all else, and writes nothing.
use Rattle.std.specs.Prelude.{ℕ, ◌≡◌, false, cond}
use Rattle.refusals.specs.Ladder.{done}
use Rattle.hardware.specs.Tables.{Tables}
use Rattle.hardware.specs.declared.Machine.{Machine}
use Rattle.lcd.specs.Pictures.{Pictures, filled_with}
use Rattle.state.specs.declared.State.{State}
use Rattle.memory.specs.Fresh.{fresh_state, cleared}
use Rattle.registers.specs.Write.{kept, state_written, pictures_written}
use Rattle.beam.specs.declared.Mark.TheVariants.{No}
use Rattle.step.specs.Step.{report, stepped, pictures_after}
use Rattle.step.specs.declared.Report.{Report}
use Rattle.terms.specs.Numbers.{start_number, step_number, write_number}
use Rattle.ports.specs.Answers.{Answer}
use Rattle.ppu.specs.Answers.{StepAnswer}

-- 0 or no
abbrev pub no_report : Report
no_report =
    record { requests = 0; mode = 0; coincidence = false; ly = 0; swapped = false; mark = No; count = 0 }

pub record Start (m : Machine) (t : Tables) (p : Pictures) (r : Answer) (t' : Tables) (p' : Pictures) : Type 0 where
  pub number : r.number ≡ start_number t p
  pub state : r.state ≡ fresh_state m
  pub tables : t' ≡ cond (done (start_number t p)) (cleared t) t
  pub pictures : p' ≡ cond (done (start_number t p)) (filled_with 255 p) p

pub record Step (s : State) (t : Tables) (p : Pictures) (n : ℕ) (r : StepAnswer) (p' : Pictures) : Type 0 where
  pub number : r.number ≡ step_number s t p n
  pub answer : r.report ≡ cond (done (step_number s t p n)) (report n t s) no_report
  pub state : r.state ≡ cond (done (step_number s t p n)) (stepped n t s) s
  pub pictures : p' ≡ cond (done (step_number s t p n)) (pictures_after n t s p) p

pub record RegisterWrite (s : State) (p : Pictures) (address value : ℕ) (r : Answer) (p' : Pictures) : Type 0 where
  pub number : r.number ≡ write_number s p address
  pub state : r.state ≡ cond (done (write_number s p address)) (state_written s address (kept address value)) s
  pub pictures : p' ≡ cond (done (write_number s p address)) (pictures_written s address (kept address value) p) p
