-- `lowest` meets its contract.
use mathlib.Core.Path.{refl}
use Rattle.refusals.proofs.Rungs.{passed, stopped, at_length, at_state, at_own}
use Rattle.refusals.proofs.lowest.Goals as goal

pub returns-in_err-need : goal.returns-in_err-need
returns-in_err-need c =
    at_length _ _ _ (stopped _ refl c.need.ensures _ c.in_err-need.was c.from_residual.ensures)

pub returns-in_err-need-2 : goal.returns-in_err-need-2
returns-in_err-need-2 c =
    at_state _ _ _ (passed _ refl c.need.ensures c.in_ok-need.was) (stopped _ refl c.need-2.ensures _ c.in_err-need-2.was c.from_residual-in_err-need-2.ensures)

pub returns : goal.returns
returns c =
    at_own _ _ _ (passed _ refl c.need.ensures c.in_ok-need.was) (passed _ refl c.need-2.ensures c.in_ok-need-2.was) refl
