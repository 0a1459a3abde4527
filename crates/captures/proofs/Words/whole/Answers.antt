-- `captures::Words::whole` meets its contract. By whether a word is left.
use mathlib.Core.Path.{refl}
use Rattle.captures.specs.Reading.{whole}
use Rattle.captures.proofs.Words.whole.Goals as goal

pub returns-in-Some : goal.returns-in-Some
unfolding whole
returns-in-Some c = rw c.in-Some.ensures.steps refl

pub returns-in-None : goal.returns-in-None
unfolding whole
returns-in-None c = rw c.in-None.ensures.steps.0 refl
