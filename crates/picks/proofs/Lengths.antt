-- Laws of the request's length: OAM has its bytes exactly if the request has two more.
use mathlib.Core.Path.{◌≡◌, refl}
use mathlib.Core.List.{List}
use Prim.Native.Nat.{ℕ, ◌+◌, ◌-◌, ◌≤◌}
use native.Mathlib.Omega.{arith}
use borrow.Author.Tests.{eqb-true, eqb-false, ne_eqb}
use lib.Dec.{eqb}
use lib.ListN.{length, take, get_or}
use lib.Seq.{length-take-le}
use Rattle.logic.proofs.Tests.{by_test}
use Rattle.refusals.specs.Ladder.{lowest}
use Rattle.hardware.specs.Tables.{oam_bytes}
use Rattle.sprite.specs.Pick.{pick_number, pick_of, refused_pick, Picked}
use Rattle.picks.specs.Request.{request_bytes, answer_to}

-- another length of OAM is refused, whatever the line and the height
refused : (oam : List ℕ) (line tall : ℕ) → (length oam ≡ oam_bytes → ⊥) → pick_of oam line tall ≡ refused_pick 1
unfolding pick_of pick_number lowest
refused oam line tall h = rw (ne_eqb _ _ h) refl

-- so is another length of the request
pub short : (s : List ℕ) → (length s ≡ request_bytes → ⊥) → answer_to s ≡ refused_pick 1
unfolding answer_to
short s h = rw (ne_eqb _ _ h) refl

-- the pick of a request that is taken apart at its end
abbrev split : List ℕ → Picked
split s = pick_of (take (length s - 2) s) (get_or s (length s - 2) 0) (get_or s (length s - 1) 0)

pub apart : (s : List ℕ) → 2 ≤ length s → split s ≡ answer_to s
unfolding answer_to
apart s h =
    by_test (λ r. split s ≡ r) (eqb (length s) request_bytes) (λ e. whole (eqb-true _ _ e)) (λ e. other (eqb-false _ _ e))
  where
    whole : length s ≡ request_bytes → split s ≡ pick_of (take oam_bytes s) (get_or s oam_bytes 0) (get_or s (oam_bytes + 1) 0)
    whole e = rw e

    other : (length s ≡ request_bytes → ⊥) → split s ≡ refused_pick 1
    other g = refused _ _ _ (λ e. g (omega (arith, e, length-take-le (length s - 2) s (omega arith))))
