-- `sprite::allow_pick` meets its contract.
use mathlib.Core.Path.{◌∙◌, ap}
use Rattle.refusals.specs.Ladder.{lowest}
use Rattle.refusals.proofs.Rungs.{last}
use Rattle.sprite.specs.Pick.{pick_number}
use Rattle.sprite.proofs.allow_pick.Goals as goal

pub returns : goal.returns
unfolding pick_number
returns c =
    c.lowest.ensures ∙ ap (lowest _ _) (last _ c.is_pickable.ensures c.need.ensures)
