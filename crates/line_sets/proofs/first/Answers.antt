-- `line_sets::first` meets its contract.
use Rattle.std.proofs.Common.{refl}
use Rattle.refusals.proofs.Rungs.{handed, undone}
use Rattle.line_sets.specs.Calls.{first_on}
use Rattle.line_sets.proofs.first.Goals as goal

pub returns-in_err-set_of : goal.returns-in_err-set_of
unfolding first_on
returns-in_err-set_of c = rw (handed _ c.from_residual.ensures, ← c.in_err-set_of.ensures.number, undone) refl

pub returns : goal.returns
unfolding first_on
returns c = rw (← c.in_ok-set_of.ensures.number, ← c.in_ok-set_of.ensures.set, c.lowest.ensures) refl
