-- `captures::Words::bytes` meets its contract. Each argument goes on with the words behind it.
use mathlib.Core.Path.{◌∙◌}
use Rattle.std.proofs.lemmas.Result.{err_from_is_err_and}
use Rattle.captures.specs.Reading.{read_bytes}
use Rattle.captures.proofs.Words.bytes.Goals as goal

pub returns-in_err-address : goal.returns-in_err-address
unfolding read_bytes
returns-in_err-address c =
    let p = err_from_is_err_and c.from_residual.result c.from_residual.ensures.1 in
    rw (p.1, p.2) (λ oam. c.in_err-address.ensures _)

pub returns-in_err-bytes : goal.returns-in_err-bytes
unfolding read_bytes
returns-in_err-bytes c =
    let p = err_from_is_err_and c.from_residual-in_err-bytes.result c.from_residual-in_err-bytes.ensures.1 in
    rw (p.1, p.2) (λ oam. c.in_ok-address.ensures.goes _ ∙ c.in_err-bytes.ensures _)

pub returns-in_err-times : goal.returns-in_err-times
unfolding read_bytes
returns-in_err-times c =
    let p = err_from_is_err_and c.from_residual-in_err-times.result c.from_residual-in_err-times.ensures.1 in
    rw (p.1, p.2) (λ oam. c.in_ok-address.ensures.goes _ ∙ c.in_ok-bytes.ensures.goes _ ∙ c.in_err-times.ensures _)

pub returns : goal.returns
unfolding read_bytes
returns c oam = c.in_ok-address.ensures.goes _ ∙ c.in_ok-bytes.ensures.goes _ ∙ c.in_ok-times.ensures.goes _
