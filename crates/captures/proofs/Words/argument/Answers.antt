-- `captures::Words::argument` meets its contract. By the next word and its meaning.
use mathlib.Core.Path.{sym, ◌∙◌}
use Rattle.std.proofs.lemmas.Result.{err_from_is_err_and}
use Rattle.captures.proofs.Arguments.{meant, not_meant, left_out, missing}
use Rattle.captures.proofs.Words.argument.Goals as goal

pub returns-in_err-value-in-Some : goal.returns-in_err-value-in-Some
returns-in_err-value-in-Some c =
    let p = err_from_is_err_and c.from_residual.result c.from_residual.ensures.1 in
    rw (p.1, p.2, c.in-Some.ensures.steps) (not_meant _ _ _ c.meant.ensures _ c.wrong.ensures (sym c.ok_or.ensures.value ∙ c.in_err-value-in-Some.was))

pub returns-in_ok-value-in-Some : goal.returns-in_ok-value-in-Some
returns-in_ok-value-in-Some c = rw c.in-Some.ensures.steps (meant _ _ _ c.meant.ensures _ c.in_ok-value-in-Some.ensures.ok_part)

pub returns-in-None : goal.returns-in-None
returns-in-None c = rw (c.in-None.ensures.steps.0, c.in-None.ensures.steps.1) (left_out _ (sym c.is_optional.ensures ∙ c.if-is_optional.true))

pub returns-in-None-2 : goal.returns-in-None-2
returns-in-None-2 c = rw c.in-None.ensures.steps.0 (missing _ (sym c.is_optional.ensures ∙ c.if-is_optional.false))
