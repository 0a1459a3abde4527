-- The invariant: the slots hold the entries taken so far, and the set that is left has the others.
use Rattle.std.proofs.Common.{◌≡◌, ℕ, List, length, take, drop}
use Rattle.sprite.specs.Pick.{slots_of}
use Rattle.sprite.specs.declared.SelectedSprite.{SelectedSprite}
use Rattle.line_sets.specs.Sets.{members}
use Rattle.line_sets.proofs.fill.Given as goal

pub record Holds (oam : List ℕ) (s : ℕ) (former : List SelectedSprite) (count rest : ℕ) (slots : List SelectedSprite) : Type 0 where
  pub left : drop count (members s) ≡ members rest
  pub counted : length (take count (members s)) ≡ count
  pub held : slots ≡ slots_of oam (take count (members s)) former

abbrev pub invariant-loop-slot : goal.invariant-loop-slot
invariant-loop-slot l = Holds l.oam l.fn.set.number l.initial.slots l.slot-index l.rest.number l.slots
