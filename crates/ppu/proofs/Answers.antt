-- The answers of a step are equal by their parts.
use mathlib.Core.Path.{◌≡◌}
use Rattle.ppu.specs.Answers.{StepAnswer}

pub same_step : {r q : StepAnswer} → r.number ≡ q.number → r.report ≡ q.report → r.state ≡ q.state → r ≡ q
same_step n a s = λ i. record { number = n i; report = a i; state = s i }
