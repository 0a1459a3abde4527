-- `captures::read_write` meets its contract. Each argument goes on with the words behind it.
use mathlib.Core.Path.{sym, ◌∙◌}
use Rattle.std.proofs.lemmas.Result.{err_from_is_err_and}
use Rattle.captures.specs.Reading.{read_write}
use Rattle.captures.proofs.read_write.Goals as goal

pub returns-in_err-address : goal.returns-in_err-address
unfolding read_write
returns-in_err-address c =
    let p = err_from_is_err_and c.from_residual.result c.from_residual.ensures.1 in
    rw (p.1, p.2) (sym (c.in_err-address.ensures _))

pub returns-in_err-value : goal.returns-in_err-value
unfolding read_write
returns-in_err-value c =
    let p = err_from_is_err_and c.from_residual-in_err-value.result c.from_residual-in_err-value.ensures.1 in
    rw (p.1, p.2) (sym (c.in_err-value.ensures _) ∙ sym (c.in_ok-address.ensures.goes _))

pub returns : goal.returns
unfolding read_write
returns c = c.whole.ensures ∙ sym (c.in_ok-value.ensures.goes _) ∙ sym (c.in_ok-address.ensures.goes _)
