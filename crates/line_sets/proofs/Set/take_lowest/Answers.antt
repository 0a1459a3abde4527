-- `line_sets::Set::take_lowest` meets its contract.
use Rattle.std.proofs.Common.{sym, ◌∙◌}
use Rattle.line_sets.proofs.Members.{lowest_of}
use Rattle.line_sets.proofs.Set.take_lowest.Goals as goal

pub bit-requires : goal.bit-requires
bit-requires c = (lowest_of _ _ c.args.self.now.of_entries (sym c.in_ok-index.was ∙ c.lowest.ensures)).entry

pub overflow_sub-self : goal.overflow_sub-self
overflow_sub-self c = rw c.bit.ensures (lowest_of _ _ c.args.self.now.of_entries (sym c.in_ok-index.was ∙ c.lowest.ensures)).fits

pub returns : goal.returns
returns c =
    let w = lowest_of _ _ c.args.self.now.of_entries (sym c.in_ok-index.was ∙ c.lowest.ensures) in
    (w.entry, rw c.bit.ensures w.rest)
