-- `captures::read_words` meets its contract. The next word is the first of the words.
use mathlib.Core.Path.{refl}
use Rattle.captures.specs.Reading.{said}
use Rattle.captures.proofs.read_words.Goals as goal

pub returns-in-Some : goal.returns-in-Some
unfolding said
returns-in-Some c = rw c.in-Some.ensures.steps c.read_call.ensures

pub returns-in-None : goal.returns-in-None
unfolding said
returns-in-None c = rw c.in-None.ensures.steps.0 refl
