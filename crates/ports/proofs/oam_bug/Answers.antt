-- `ports::oam_bug` meets its contract.
use mathlib.Core.Path.{refl}
use borrow.Author.Tests.{eqb-true}
use Rattle.ports.proofs.Bug.{corruptible}
use Rattle.ports.proofs.oam_bug.Goals as goal

pub corrupted_row-row-requires : goal.corrupted_row-row-requires
corrupted_row-row-requires c = (corruptible c.args.kind c.in_ok-kind.ensures.number refl).moment

pub corrupt-requires : goal.corrupt-requires
corrupt-requires c =
    let f = corruptible c.args.kind c.in_ok-kind.ensures.number refl in
    (eqb-true _ _ f.sized, rw c.corrupted_row-row.ensures f.row)
