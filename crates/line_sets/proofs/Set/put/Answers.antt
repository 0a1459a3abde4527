-- `line_sets::Set::put` meets its contract.
use Rattle.std.proofs.Common.{◌≡◌}
use Rattle.line_sets.specs.Sets.{put}
use Rattle.line_sets.proofs.InOut.{put_in, put_out}
use Rattle.line_sets.proofs.Moves.{put_is_set}
use Rattle.line_sets.proofs.Set.put.Goals.{then-on, else-on}
use Rattle.line_sets.proofs.Set.put.Goals as goal

pub returns : goal.returns
returns c =
    let a = c.args in
    let own = c.bit-own.ensures in
    let h = c.requires in
    elim c.if-on.branch [
      | then-on w ↦ rw (w.result-is, own, w.if-on.true) (put_in a.i a.self.number h a.self.of_entries)
      | else-on w ↦ rw (w.result-is, own, w.if-on.false) (put_out a.i a.self.number h a.self.of_entries)
    ]

pub invariant_of-result : goal.invariant_of-result
invariant_of-result c =
    let a = c.args in
    let own = c.bit-own.ensures in
    let h = c.requires in
    let is : c.if-on.result ≡ put a.i a.on a.self.number = elim c.if-on.branch [
      | then-on w ↦ rw (w.result-is, own, w.if-on.true) (put_in a.i a.self.number h a.self.of_entries)
      | else-on w ↦ rw (w.result-is, own, w.if-on.false) (put_out a.i a.self.number h a.self.of_entries)
    ] in
    record { of_entries = rw is (put_is_set a.i a.on a.self.number) }
