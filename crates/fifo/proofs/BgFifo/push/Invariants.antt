-- `fifo::BgFifo::push` meets its contract. The invariant: the first k pixels of the row are laid behind the last.
use mathlib.Core.Path.{◌≡◌}
use Prim.Native.Nat.{◌+◌}
use lib.ListN.{take}
use Rattle.fifo.specs.Ring.{laid}
use Rattle.fifo.specs.Background.{bg_row}
use Rattle.fifo.proofs.BgFifo.push.Given as goal

abbrev pub invariant-loop-k : goal.invariant-loop-k
invariant-loop-k l =
    let q = l.fn.self in
    record {
      head : l.self.head ≡ q.head;
      len : l.self.len ≡ q.len;
      pixels : l.self.pixels ≡ laid 16 q.pixels (q.head + q.len) (take l.k (bg_row l.palette l.priority l.fn.colors));
    }
