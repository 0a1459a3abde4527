-- The numbers of the table of refusals, as the answer of a call has them: 0 for done.
use Rattle.std.specs.Prelude.{ℕ, Result, Ok, Err}
use Rattle.refusals.specs.declared.Refusal.{Refusal}
use Rattle.refusals.specs.declared.Refusal.TheVariants.{Length, State, Pace, Argument, Time}

abbrev pub refusal_number : Refusal → ℕ
refusal_number Length = 1
refusal_number State = 2
refusal_number Pace = 3
refusal_number Argument = 4
refusal_number Time = 5

abbrev pub number_of : {A : Type 0} → Result A Refusal → ℕ
number_of (Ok done) = 0
number_of (Err why) = refusal_number why
