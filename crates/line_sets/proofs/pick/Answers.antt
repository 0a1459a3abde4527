-- `line_sets::pick` meets its contract.
use Rattle.std.proofs.Common.{◌≡◌, ℕ, List, length, refl, eq-eqb}
use Rattle.refusals.proofs.Rungs.{handed, undone}
use Rattle.hardware.specs.Tables.{oam_bytes}
use Rattle.line_sets.specs.Numbers.{pick_number, line_number}
use Rattle.line_sets.specs.Calls.{pick_from}
use Rattle.line_sets.proofs.Lengths.{oam_of_another}
use Rattle.line_sets.proofs.pick.Goals as goal

-- where OAM has its length, the number is that of a question about the line
of_line : (oam sets : List ℕ) (line : ℕ) → length oam ≡ oam_bytes → pick_number oam sets line ≡ line_number sets line
unfolding pick_number line_number
of_line oam sets line h = rw (eq-eqb _ _ h) refl

pub returns-in_err-oam : goal.returns-in_err-oam
unfolding pick_from pick_number
returns-in_err-oam c =
    let w = c.in_err-oam.ensures in
    rw (handed _ c.from_residual.ensures, w.1, oam_of_another c.args.oam.now c.args.sets.now _ w.0) refl

pub returns-in_err-set : goal.returns-in_err-set
unfolding pick_from
returns-in_err-set c =
    let w = c.in_ok-oam.ensures in
    rw (of_line c.args.oam.now c.args.sets.now c.args.line w.0, handed _ c.from_residual-in_err-set.ensures, ← c.in_err-set.ensures.number, undone) refl

pub returns : goal.returns
unfolding pick_from
returns c =
    let w = c.in_ok-oam.ensures in
    rw (of_line c.args.oam.now c.args.sets.now c.args.line w.0, c.select.ensures, c.blank.ensures, ← c.in_ok-set.ensures.number, ← c.in_ok-set.ensures.set, w.1) refl
