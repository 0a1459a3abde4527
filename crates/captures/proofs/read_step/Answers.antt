-- `captures::read_step` meets its contract. Each argument goes on with the words behind it.
use mathlib.Core.Path.{sym, ◌∙◌}
use Rattle.std.proofs.lemmas.Result.{err_from_is_err_and}
use Rattle.captures.specs.Reading.{read_step}
use Rattle.captures.proofs.read_step.Goals as goal

pub returns-in_err-cycles : goal.returns-in_err-cycles
unfolding read_step
returns-in_err-cycles c =
    let p = err_from_is_err_and c.from_residual.result c.from_residual.ensures.1 in
    rw (p.1, p.2) (sym (c.in_err-cycles.ensures _))

pub returns-in_err-times : goal.returns-in_err-times
unfolding read_step
returns-in_err-times c =
    let p = err_from_is_err_and c.from_residual-in_err-times.result c.from_residual-in_err-times.ensures.1 in
    rw (p.1, p.2) (sym (c.in_err-times.ensures _) ∙ sym (c.in_ok-cycles.ensures.goes _))

pub returns : goal.returns
unfolding read_step
returns c = c.whole.ensures ∙ sym (c.in_ok-times.ensures.goes _) ∙ sym (c.in_ok-cycles.ensures.goes _)
