-- `captures::put_bytes` meets its contract. The address, the bytes and TIMES are put one behind the other.
use Rattle.captures.specs.Printing.{bytes_words}
use Rattle.captures.proofs.Buffer.{last, more}
use Rattle.captures.proofs.put_bytes.Goals as goal

pub returns : goal.returns
unfolding bytes_words
returns c =
    rw (← c.min.ensures, ← c.from-count.ensures, ← c.from.ensures)
    (more _ c.put_hexadecimal-at.ensures.put (more _ c.put_hexadecimal-at-2.ensures.put (last c.put_decimal.ensures.put)))
