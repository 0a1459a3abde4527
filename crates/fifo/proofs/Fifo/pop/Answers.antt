-- `fifo::Fifo::pop` meets its contract.
use mathlib.Core.Path.{ap, sym, ◌∙◌}
use native.Mathlib.Omega.{arith}
use Rattle.std.proofs.Common.{Some}
use Rattle.fifo.proofs.Ring.{popped_none, popped_some}
use Rattle.fifo.proofs.Fifo.pop.Goals as goal

pub returns-then-self-eq0-clause-answer : goal.returns-then-self-eq0-clause-answer
returns-then-self-eq0-clause-answer g c = sym (ap (λ r. r.answer) (popped_none g.P.Pixel.BLANK _ c.if-self-eq0.true))

pub returns-then-self-eq0-clause-rest : goal.returns-then-self-eq0-clause-rest
returns-then-self-eq0-clause-rest g c = sym (ap (λ r. r.fifo) (popped_none g.P.Pixel.BLANK _ c.if-self-eq0.true))

pub returns-else-self-eq0-clause-answer : goal.returns-else-self-eq0-clause-answer
returns-else-self-eq0-clause-answer g c =
    ap Some c.take_front.ensures.answer ∙ sym (ap (λ r. r.answer) (popped_some g.P.Pixel.BLANK _ (omega (arith, c.if-self-eq0.false))))

pub returns-else-self-eq0-clause-rest : goal.returns-else-self-eq0-clause-rest
returns-else-self-eq0-clause-rest g c =
    c.take_front.ensures.rest ∙ sym (ap (λ r. r.fifo) (popped_some g.P.Pixel.BLANK _ (omega (arith, c.if-self-eq0.false))))
