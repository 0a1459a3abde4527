-- `captures::read_corrupt` meets its contract. Each argument goes on with the words behind it.
use mathlib.Core.Path.{sym, ◌∙◌}
use Rattle.std.proofs.lemmas.Result.{err_from_is_err_and}
use Rattle.captures.specs.Reading.{read_corrupt}
use Rattle.captures.proofs.read_corrupt.Goals as goal

pub returns-in_err-kind : goal.returns-in_err-kind
unfolding read_corrupt
returns-in_err-kind c =
    let p = err_from_is_err_and c.from_residual.result c.from_residual.ensures.1 in
    rw (p.1, p.2) (sym (c.in_err-kind.ensures _))

pub returns : goal.returns
unfolding read_corrupt
returns c = c.whole.ensures ∙ sym (c.in_ok-kind.ensures.goes _)
