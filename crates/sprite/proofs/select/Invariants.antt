-- `sprite::select` meets its contract. The invariant: below i fewer than ten are in range, and the slots hold them.
use mathlib.Core.Path.{◌≡◌}
use mathlib.Core.List.{List}
use Prim.Native.Nat.{ℕ, ◌≤◌, ◌<◌, ◌-◌}
use lib.ListN.{length}
use Rattle.sprite.specs.Pick.{up_to, those, touches, slots_of}
use Rattle.sprite.specs.declared.SelectedSprite.{SelectedSprite}
use Rattle.sprite.proofs.select.Given as goal

-- below i: how many are in range, and the slots that hold them
pub record Holds (oam : List ℕ) (line tall : ℕ) (former : List SelectedSprite) (i count : ℕ) (slots : List SelectedSprite) : Type 0 where
  pub counted : count ≡ length (those (touches oam line tall) (up_to i))
  pub held : slots ≡ slots_of oam (those (touches oam line tall) (up_to i)) former

abbrev pub invariant-search : goal.invariant-search
invariant-search l =
    (l.i ≤ 40) × (l.count < 10) × Holds l.oam l.line l.tall l.initial.slots l.i l.count l.slots

abbrev pub decreases-search : goal.decreases-search
decreases-search l = 40 - l.i
