-- `captures::hexadecimal` meets its contract. The length is tested first.
use mathlib.Core.Path.{refl}
use borrow.Author.Tests.{eq-eqb, ne_eqb}
use Rattle.captures.specs.Reading.{hexadecimal}
use Rattle.captures.proofs.hexadecimal.Goals as goal

pub returns-then-word-size : goal.returns-then-word-size
unfolding hexadecimal
returns-then-word-size c = rw (eq-eqb _ _ c.if-word-size.true) c.number_of.ensures

pub returns-else-word-size : goal.returns-else-word-size
unfolding hexadecimal
returns-else-word-size c = rw (ne_eqb _ _ c.if-word-size.false) refl
