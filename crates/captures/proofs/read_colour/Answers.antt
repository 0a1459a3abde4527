-- `captures::read_colour` meets its contract. Each argument goes on with the words behind it.
use mathlib.Core.Path.{sym, ◌∙◌}
use Rattle.std.proofs.lemmas.Result.{err_from_is_err_and}
use Rattle.captures.specs.Reading.{read_colour}
use Rattle.captures.proofs.read_colour.Goals as goal

pub returns-in_err-switch : goal.returns-in_err-switch
unfolding read_colour
returns-in_err-switch c =
    let p = err_from_is_err_and c.from_residual.result c.from_residual.ensures.1 in
    rw (p.1, p.2) (sym (c.in_err-switch.ensures _))

pub returns : goal.returns
unfolding read_colour
returns c = c.whole.ensures ∙ sym (c.in_ok-switch.ensures.goes _)
