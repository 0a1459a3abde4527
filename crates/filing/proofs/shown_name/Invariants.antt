-- `filing::shown_name` meets its contract. The invariant: the bytes so far are put as they are shown.
use mathlib.Core.Path.{◌≡◌}
use mathlib.Core.List.{map}
use lib.ListN.{length, take}
use Rattle.filing.specs.Names.{shown}
use Rattle.filing.proofs.shown_name.Given as goal

abbrev pub invariant-loop-byte : goal.invariant-loop-byte
invariant-loop-byte l = (length l.name ≡ l.byte-index) × (l.name ≡ map shown (take l.byte-index l.part))
