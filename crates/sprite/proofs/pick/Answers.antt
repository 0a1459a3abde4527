-- `sprite::pick` meets its contract.
use Prim.Native.Nat.{ℕ}
use mathlib.Core.Path.{◌≡◌, refl, sym}
use mathlib.Core.Bool.{true}
use mathlib.Core.List.{List}
use lib.ListN.{length}
use borrow.Author.Tests.{eqb-true}
use Rattle.hardware.specs.Tables.{oam_bytes, oam_fits}
use Rattle.refusals.proofs.Ladder.{lowest_none}
use Rattle.refusals.proofs.Rungs.{handed, undone}
use Rattle.sprite.specs.Pick.{pick_number, pick_of}
use Rattle.sprite.proofs.pick.Goals as goal

-- a pick that is not refused has the whole of OAM
whole : (oam : List ℕ) (line tall : ℕ) → pick_number oam line tall ≡ 0 → length oam ≡ oam_bytes
unfolding pick_number
whole oam line tall e = eqb-true _ _ (lowest_none (oam_fits oam) true e).sized

pub returns-in_err-allow_pick : goal.returns-in_err-allow_pick
unfolding pick_of
returns-in_err-allow_pick c =
    rw (handed _ c.from_residual.ensures, ← c.in_err-allow_pick.ensures, undone) refl

pub select-requires : goal.select-requires
select-requires c = whole _ _ _ (sym c.in_ok-allow_pick.ensures)

pub returns : goal.returns
unfolding pick_of
returns c = rw (c.select.ensures, c.blank.ensures, ← c.in_ok-allow_pick.ensures) refl
