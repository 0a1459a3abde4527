-- `terms::is_listed` meets its contract.
use mathlib.Core.Path.{sym}
use Rattle.registers.proofs.Table.{listed_kept}
use Rattle.terms.proofs.is_listed.Goals as goal

pub returns : goal.returns
returns c = rw c.kept_bits.ensures (sym (listed_kept _))
