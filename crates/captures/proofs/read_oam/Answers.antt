-- `captures::read_oam` meets its contract. The call goes on with the bytes that were taken.
use mathlib.Core.Path.{sym, ◌∙◌}
use Rattle.std.proofs.lemmas.Result.{err_from_is_err_and}
use Rattle.captures.proofs.read_oam.Goals as goal

pub returns-in_err-bytes : goal.returns-in_err-bytes
returns-in_err-bytes c =
    let p = err_from_is_err_and c.from_residual.result c.from_residual.ensures.1 in
    rw (p.1, p.2) (sym (c.in_err-bytes.ensures _))

pub returns : goal.returns
returns c = c.whole.ensures ∙ sym (c.in_ok-bytes.ensures _)
