-- The sets are OAM's, by the build; what the build refuses is refused.
use Rattle.std.proofs.Common.{◌≡◌, refl, ap, sym, ◌∙◌, arith, ℕ, List, length}
use Rattle.hardware.specs.Screen.{height}
use Rattle.hardware.specs.Tables.{oam_bytes}
use Rattle.refusals.specs.Ladder.{own}
use Rattle.refusals.specs.Refused.{number_of}
use Rattle.refusals.proofs.Rungs.{handed}
use Rattle.sprite.specs.Pick.{is_tall}
use Rattle.line_sets.specs.Calls.{Build}
use Rattle.line_sets.specs.Numbers.{build_number}
use Rattle.line_sets.proofs.Accepted as accepted
use Rattle.line_sets.proofs.Lengths.{both_whole}
use Rattle.line_sets.proofs.Laws.{builds}
use Rattle.sprite_lists.proofs.Lists.of.Goals as goal

pub invariant_of-result : goal.invariant_of-result
invariant_of-result c =
    let b = c.build.ensures in
    let none : number_of c.build.result ≡ 0 = ap number_of c.in_ok-build.was in
    record { is_tall = (accepted.builds _ _ _ (sym b.number ∙ none)).2; are_true = (builds _ _ _ _ _ b).0 none }

-- both slices have their length, so that the height alone is a reason
by_height : {oam sets after : List ℕ} {tall r : ℕ} → Build oam sets tall r after → length oam ≡ oam_bytes → length sets ≡ height
    → r ≡ own (is_tall tall) 4
unfolding build_number
by_height {oam} {sets} b h g = b.number ∙ both_whole oam sets _ h g

pub returns-in_err-build-clause-number : goal.returns-in_err-build-clause-number
returns-in_err-build-clause-number c =
    rw (handed _ c.from_residual.ensures)
    (sym (ap number_of c.in_err-build.was) ∙ by_height c.build.ensures (omega (arith, c.well_formed)) (omega (arith, c.well_formed)))
