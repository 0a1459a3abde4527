-- `captures::put_word` meets its contract. A space, and behind it what is put.
use Rattle.texts.proofs.Appends.{then}
use Rattle.captures.proofs.put_word.Goals as goal

pub returns-clause-put : goal.returns-clause-put
returns-clause-put c = then c.put_byte-at.ensures c.put_bytes.ensures
