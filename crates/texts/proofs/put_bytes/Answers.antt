-- `texts::put_bytes` meets its contract.
use Rattle.texts.proofs.Appends.{copied}
use Rattle.texts.proofs.put_bytes.Goals as goal

pub returns : goal.returns
returns c = copied c.args.out.now _ c.args.at c.args.bytes.now c.requires c.copy_from_slice.ensures.after
