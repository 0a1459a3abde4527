-- `captures::meant` meets its contract. By cases on what is wanted.
use Rattle.captures.specs.Reading.{meaning}
use Rattle.captures.proofs.meant.Goals as goal

pub returns-in-Device : goal.returns-in-Device
unfolding meaning
returns-in-Device c = rw c.in-Device.is c.either.ensures

pub returns-in-Colour : goal.returns-in-Colour
unfolding meaning
returns-in-Colour c = rw c.in-Colour.is c.either-in-Colour.ensures

pub returns-in-Address : goal.returns-in-Address
unfolding meaning
returns-in-Address c = rw c.in-Address.is c.hexadecimal.ensures

pub returns-in-Value : goal.returns-in-Value
unfolding meaning
returns-in-Value c = rw c.in-Value.is c.hexadecimal-in-Value.ensures

pub returns-in-Bytes : goal.returns-in-Bytes
unfolding meaning
returns-in-Bytes c = rw c.in-Bytes.is c.bytes_of.ensures

pub returns-in-Cycles : goal.returns-in-Cycles
unfolding meaning
returns-in-Cycles c = rw c.in-Cycles.is c.decimal.ensures

pub returns-in-Times : goal.returns-in-Times
unfolding meaning
returns-in-Times c = rw c.in-Times.is c.decimal-in-Times.ensures

pub returns-in-Kind : goal.returns-in-Kind
unfolding meaning
returns-in-Kind c = rw c.in-Kind.is c.kind.ensures

pub returns-in-Switch : goal.returns-in-Switch
unfolding meaning
returns-in-Switch c = rw c.in-Switch.is c.either-in-Switch.ensures
