-- `captures::read_start` meets its contract. Each argument goes on with the words behind it.
use mathlib.Core.Path.{sym, ◌∙◌}
use Rattle.std.proofs.lemmas.Result.{err_from_is_err_and}
use Rattle.captures.specs.Reading.{read_start}
use Rattle.captures.proofs.read_start.Goals as goal

pub returns-in_err-device : goal.returns-in_err-device
unfolding read_start
returns-in_err-device c =
    let p = err_from_is_err_and c.from_residual.result c.from_residual.ensures.1 in
    rw (p.1, p.2) (sym (c.in_err-device.ensures _))

pub returns-in_err-colour : goal.returns-in_err-colour
unfolding read_start
returns-in_err-colour c =
    let p = err_from_is_err_and c.from_residual-in_err-colour.result c.from_residual-in_err-colour.ensures.1 in
    rw (p.1, p.2) (sym (c.in_err-colour.ensures _) ∙ sym (c.in_ok-device.ensures.goes _))

pub returns : goal.returns
unfolding read_start
returns c = c.whole.ensures ∙ sym (c.in_ok-colour.ensures.goes _) ∙ sym (c.in_ok-device.ensures.goes _)
