-- `fifo::SpriteFifo::push` meets its contract. The invariant: the first k pixels of the mix are laid from the head on.
use mathlib.Core.Path.{◌≡◌}
use lib.ListN.{take}
use Rattle.fifo.specs.Ring.{laid}
use Rattle.fifo.specs.Sprites.{sprite_queued, inked_row, merged}
use Rattle.fifo.proofs.SpriteFifo.push.Given as goal

abbrev pub invariant-loop-k : goal.invariant-loop-k
invariant-loop-k l =
    let q = l.fn.self in
    record {
      head : l.self.head ≡ q.head;
      len : l.self.len ≡ q.len;
      pixels : l.self.pixels ≡ laid 8 q.pixels q.head (take l.k (merged l.coord (sprite_queued q) (inked_row l.ink l.fn.colors)));
    }
