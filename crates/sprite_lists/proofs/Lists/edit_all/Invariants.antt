-- OAM is as the edits so far leave it, and the height stays.
use Rattle.std.proofs.Common.{◌≡◌}
use Rattle.sprite_lists.specs.Edits.{edited}
use Rattle.sprite_lists.proofs.Lists.edit_all.Given as goal

abbrev pub invariant-loop-edit : goal.invariant-loop-edit
invariant-loop-edit g l =
    record { height : l.self.tall ≡ l.initial.self.tall; edited_so : l.self.oam ≡ edited l.initial.self.oam l.edits l.edit }
