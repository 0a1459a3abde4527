-- `captures::either` meets its contract. Each end has the tests on the way there.
use mathlib.Core.Path.{refl}
use Rattle.captures.specs.Reading.{either}
use Rattle.captures.proofs.Texts.{same_by}
use Rattle.captures.proofs.either.Goals as goal

pub returns-then-eq : goal.returns-then-eq
unfolding either
returns-then-eq c = rw (same_by c.args.word.now _ c.eq.ensures c.if-eq.true) refl

pub returns-then-eq-2 : goal.returns-then-eq-2
unfolding either
returns-then-eq-2 c = rw (same_by c.args.word.now _ c.eq.ensures c.if-eq.false, same_by c.args.word.now _ c.eq-else-eq.ensures c.if-eq-2.true) refl

pub returns-else-eq-2 : goal.returns-else-eq-2
unfolding either
returns-else-eq-2 c = rw (same_by c.args.word.now _ c.eq.ensures c.if-eq.false, same_by c.args.word.now _ c.eq-else-eq.ensures c.if-eq-2.false) refl
