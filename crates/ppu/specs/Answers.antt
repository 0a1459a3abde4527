-- The answer to a step that its promise speaks of.
use Rattle.std.specs.Prelude.{ℕ}
use Rattle.state.specs.declared.State.{State}
use Rattle.step.specs.declared.Report.{Report}

pub record StepAnswer : Type 0 where
  pub number : ℕ
  pub report : Report
  pub state : State
