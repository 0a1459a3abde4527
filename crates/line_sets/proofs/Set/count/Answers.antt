-- `line_sets::Set::count` meets its contract.
use Rattle.std.proofs.Common.{sym}
use Rattle.line_sets.proofs.Members.{members_count}
use Rattle.line_sets.proofs.Set.count.Goals as goal

pub returns : goal.returns
returns c = sym (members_count _ c.args.self.of_entries)
