-- `line_sets::Set::lowest` meets its contract.
use Rattle.std.proofs.Common.{sym, ap}
use Rattle.line_sets.specs.Sets.{first_of}
use Rattle.line_sets.proofs.Members.{members_none, lowered}
use Rattle.line_sets.proofs.Set.lowest.Goals as goal

pub returns-then-self-eq0 : goal.returns-then-self-eq0
returns-then-self-eq0 c = rw (c.if-self-eq0.true, members_none)

pub returns-else-self-eq0 : goal.returns-else-self-eq0
returns-else-self-eq0 c = sym (ap first_of (lowered _ c.args.self.of_entries c.if-self-eq0.false).rest)
