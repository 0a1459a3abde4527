-- How the answers of the code are read as those that the promises speak of.
use Rattle.std.specs.Prelude.{Result, Ok, Err}
use Rattle.refusals.specs.Refused.{refusal_number, number_of}
use Rattle.refusals.specs.declared.Refusal.{Refusal}
use Rattle.state.specs.declared.State.{State}
use Rattle.step.specs.declared.Report.{Report}
use Rattle.ports.specs.Answers.{Answer}
use Rattle.ppu.specs.declared.Refused.{Refused}
use Rattle.ppu.specs.Answers.{StepAnswer}
use Rattle.ppu.specs.Calls.{no_report}

-- a start gives a state either way
abbrev pub started : Result State Refused → Answer
started (Ok state) = record { number = 0; state = state }
started (Err refused) = record { number = refusal_number refused.why; state = refused.state }

-- a step that leaves this state; 0 or no where it is refused
abbrev pub reported : Result Report Refusal → Report
reported (Ok report) = report
reported (Err why) = no_report

abbrev pub step_answered : Result Report Refusal → State → StepAnswer
step_answered r s = record { number = number_of r; report = reported r; state = s }
