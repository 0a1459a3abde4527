-- `line_sets::write_oam` meets its contract.
use Rattle.std.proofs.Common.{refl, ◌∙◌, arith}
use Rattle.refusals.proofs.Rungs.{passed, stopped}
use Rattle.line_sets.specs.Numbers.{write_number}
use Rattle.line_sets.proofs.Accepted.{writable}
use Rattle.line_sets.proofs.Lengths.{oam_of_another, sets_of_another, both_whole, write_refused, write_done}
use Rattle.line_sets.proofs.write_oam.Goals as goal

pub returns-in_default : goal.returns-in_default
unfolding write_number
returns-in_default c = write_refused (oam_of_another c.args.oam.now c.args.sets.now _ c.in_default.ensures.cases) refl

pub returns-in_default-as_mut_array : goal.returns-in_default-as_mut_array
unfolding write_number
returns-in_default-as_mut_array c =
    rw c.in-Some.ensures.cases.same (write_refused (sets_of_another c.args.oam.now c.args.sets.now _ c.in_default-as_mut_array.ensures.cases) refl)

pub returns-in_err-need : goal.returns-in_err-need
unfolding write_number
returns-in_err-need c =
    let oam = c.in-Some.ensures.cases in
    let sets = c.in-Some-as_mut_array.ensures.cases in
    let stop = stopped _ c.is_writable.ensures c.need.ensures _ c.in_err-need.was c.from_residual.ensures in
    let why = rw (oam.same, sets.same) at stop.0 in
    rw (stop.1, oam.same, sets.same) (write_refused (both_whole c.args.oam.now c.args.sets.now _ oam.long sets.long ∙ rw why refl) refl)

pub old_y-old-requires : goal.old_y-old-requires
old_y-old-requires c =
    (writable c.in-Some.oam.now c.in-Some-as_mut_array.sets.now c.args.tall c.args.address c.args.value (passed _ c.is_writable.ensures c.need.ensures c.in_ok-need.was)).inside

pub new_y-new-requires : goal.new_y-new-requires
new_y-new-requires c =
    (writable c.in-Some.oam.now c.in-Some-as_mut_array.sets.now c.args.tall c.args.address c.args.value (passed _ c.is_writable.ensures c.need.ensures c.in_ok-need.was)).inside

pub move_entry-requires : goal.move_entry-requires
move_entry-requires c =
    let w = writable c.in-Some.oam.now c.in-Some-as_mut_array.sets.now c.args.tall c.args.address c.args.value (passed _ c.is_writable.ensures c.need.ensures c.in_ok-need.was) in
    (omega (arith, w.inside), rw c.old_y-old.ensures w.old_sets, rw c.new_y-new.ensures w.new_sets)

pub write_oam-requires : goal.write_oam-requires
write_oam-requires c =
    let w = writable c.in-Some.oam.now c.in-Some-as_mut_array.sets.now c.args.tall c.args.address c.args.value (passed _ c.is_writable.ensures c.need.ensures c.in_ok-need.was) in
    (omega arith, w.inside)

pub returns : goal.returns
unfolding write_number
returns c =
    let oam = c.in-Some.ensures.cases in
    let sets = c.in-Some-as_mut_array.ensures.cases in
    let can = rw (oam.same, sets.same) at (passed _ c.is_writable.ensures c.need.ensures c.in_ok-need.was) in
    write_done (both_whole c.args.oam.now c.args.sets.now _ oam.long sets.long ∙ rw can refl)
    (rw (c.write_oam.ensures, oam.same) refl) (rw (c.move_entry.ensures, c.old_y-old.ensures, c.new_y-new.ensures, c.oam_place.ensures, oam.same, sets.same) refl)
