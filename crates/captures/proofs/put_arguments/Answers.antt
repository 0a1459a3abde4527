-- `captures::put_arguments` meets its contract. Each arm puts its arguments one behind the other.
use mathlib.Core.Logic.{inl, inr}
use Rattle.captures.specs.Printing.{arguments_of}
use Rattle.captures.proofs.Buffer.{last, more}
use Rattle.captures.proofs.put_arguments.Goals as goal

pub returns-in-Start : goal.returns-in-Start
unfolding arguments_of
returns-in-Start c = rw c.in-Start.is (more _ c.put_either-at.ensures.put (last c.put_either.ensures.put))

pub returns-in-Write : goal.returns-in-Write
unfolding arguments_of
returns-in-Write c = rw (c.in-Write.is, ← c.from-in-Write.ensures, ← c.from.ensures) (more _ c.put_hexadecimal-at.ensures.put (last c.put_hexadecimal.ensures.put))

pub returns-in-Vram : goal.returns-in-Vram
unfolding arguments_of
returns-in-Vram c = elim c.in-Vram.is [ inl e ↦ rw e c.put_bytes.ensures | inr e ↦ rw e c.put_bytes.ensures ]

pub returns-in-Step : goal.returns-in-Step
unfolding arguments_of
returns-in-Step c = rw (c.in-Step.is, ← c.from-in-Step.ensures) (more _ c.put_decimal-at.ensures.put (last c.put_decimal.ensures.put))

pub returns-in-Corrupt : goal.returns-in-Corrupt
unfolding arguments_of
returns-in-Corrupt c = rw (c.in-Corrupt.is, ← c.kind_word.ensures.word) (last c.put_word.ensures.put)

pub returns-in-Colour : goal.returns-in-Colour
unfolding arguments_of
returns-in-Colour c = rw c.in-Colour.is (last c.put_either-in-Colour.ensures.put)
