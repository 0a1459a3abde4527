-- `line_sets::count` meets its contract.
use Rattle.std.proofs.Common.{refl}
use Rattle.refusals.proofs.Rungs.{handed, undone}
use Rattle.line_sets.specs.Calls.{count_of}
use Rattle.line_sets.proofs.count.Goals as goal

pub returns-in_err-set_of : goal.returns-in_err-set_of
unfolding count_of
returns-in_err-set_of c = rw (handed _ c.from_residual.ensures, ← c.in_err-set_of.ensures.number, undone) refl

pub returns : goal.returns
unfolding count_of
returns c = rw (← c.in_ok-set_of.ensures.number, ← c.in_ok-set_of.ensures.set, c.count.ensures) refl
