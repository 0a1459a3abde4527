-- `captures::name_of` meets its contract.
use mathlib.Core.Path.{refl}
use Rattle.captures.specs.Printing.{name_of}
use Rattle.captures.proofs.name_of.Goals as goal

pub returns-in-Start-clause-name : goal.returns-in-Start-clause-name
unfolding name_of
returns-in-Start-clause-name c = rw c.in-Start.is refl

pub returns-in-Write-clause-name : goal.returns-in-Write-clause-name
unfolding name_of
returns-in-Write-clause-name c = rw c.in-Write.is refl

pub returns-in-Vram-clause-name : goal.returns-in-Vram-clause-name
unfolding name_of
returns-in-Vram-clause-name c = rw c.in-Vram.is refl

pub returns-in-Oam-clause-name : goal.returns-in-Oam-clause-name
unfolding name_of
returns-in-Oam-clause-name c = rw c.in-Oam.is refl

pub returns-in-Step-clause-name : goal.returns-in-Step-clause-name
unfolding name_of
returns-in-Step-clause-name c = rw c.in-Step.is refl

pub returns-in-Corrupt-clause-name : goal.returns-in-Corrupt-clause-name
unfolding name_of
returns-in-Corrupt-clause-name c = rw c.in-Corrupt.is refl

pub returns-in-Colour-clause-name : goal.returns-in-Colour-clause-name
unfolding name_of
returns-in-Colour-clause-name c = rw c.in-Colour.is refl
