-- `line_sets::build` meets its contract.
use Rattle.std.proofs.Common.{refl, ◌∙◌}
use Rattle.refusals.proofs.Rungs.{passed, stopped, handed}
use Rattle.line_sets.specs.Numbers.{build_number}
use Rattle.line_sets.proofs.Lengths.{oam_of_another, sets_of_another, both_whole, build_refused, build_done}
use Rattle.line_sets.proofs.build.Goals as goal

pub returns-in_default : goal.returns-in_default
unfolding build_number
returns-in_default c = build_refused (sets_of_another c.args.oam.now c.args.sets.now _ c.in_default.ensures.cases) refl

pub returns-in_err-oam : goal.returns-in_err-oam
unfolding build_number
returns-in_err-oam c =
    let w = c.in_err-oam.ensures in
    rw (handed _ c.from_residual.ensures, w.1, c.in-Some.ensures.cases.same)
    (build_refused (oam_of_another c.args.oam.now c.args.sets.now _ w.0) refl)

pub returns-in_err-need : goal.returns-in_err-need
unfolding build_number
returns-in_err-need c =
    let sets = c.in-Some.ensures.cases in
    let stop = stopped _ c.is_tall.ensures c.need.ensures _ c.in_err-need.was c.from_residual-in_err-need.ensures in
    rw (stop.1, sets.same) (build_refused (both_whole c.args.oam.now c.args.sets.now _ c.in_ok-oam.ensures.0 sets.long ∙ rw stop.0 refl) refl)

pub returns : goal.returns
unfolding build_number
returns c =
    let oam = c.in_ok-oam.ensures in
    let tall = passed _ c.is_tall.ensures c.need.ensures c.in_ok-need.was in
    build_done (both_whole c.args.oam.now c.args.sets.now _ oam.0 c.in-Some.ensures.cases.long ∙ rw tall refl) (rw (c.put_all.ensures, oam.1) refl)
