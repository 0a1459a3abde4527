-- The answers that the promises speak of, with the state beside them, and how those of the code are read as them.
use Rattle.std.specs.Prelude.{ℕ, Result, Ok, Err}
use Rattle.refusals.specs.Refused.{number_of}
use Rattle.refusals.specs.declared.Refusal.{Refusal}
use Rattle.state.specs.declared.State.{State}

-- a number of the table of refusals, 0 for done, and the state
pub record Answer : Type 0 where
  pub number : ℕ
  pub state : State

-- what a read answers
pub record ReadAnswer : Type 0 where
  pub number : ℕ
  pub value : ℕ
  pub state : State

-- a call that leaves this state
abbrev pub answered : {A : Type 0} → Result A Refusal → State → Answer
answered r s = record { number = number_of r; state = s }

-- a read at this state, which it does not change; 0 where it is refused
abbrev pub value_of : Result ℕ Refusal → ℕ
value_of (Ok value) = value
value_of (Err why) = 0

abbrev pub read_answered : Result ℕ Refusal → State → ReadAnswer
read_answered r s = record { number = number_of r; value = value_of r; state = s }
