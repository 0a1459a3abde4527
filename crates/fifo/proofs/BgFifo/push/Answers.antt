-- `fifo::BgFifo::push` meets its contract. The invariant: the first k pixels of the row are laid behind the last.
use mathlib.Core.Path.{◌≡◌, refl}
use mathlib.Core.Bool.{Bool}
use mathlib.Core.List.{List}
use Prim.Native.Nat.{ℕ, ◌+◌, ◌%◌, ◌≤◌, ◌<◌}
use native.Mathlib.Omega.{arith}
use lib.ListN.{length, take, get_or, set}
use lib.Seq.{take_all}
use Rattle.colors.specs.declared.ColorPalette.{ColorPalette}
use Rattle.fifo.specs.declared.BgFifoPixel.{BgFifoPixel}
use Rattle.fifo.specs.Ring.{laid}
use Rattle.fifo.specs.Background.{BgFifo, bg_blank, bg_inked, bg_row, bg_pushed}
use Rattle.logic.proofs.Mapped.{map_at}
use Rattle.fifo.proofs.Ring.{laid_more}
use Rattle.fifo.proofs.Background.{bg_row_length}
use Rattle.fifo.proofs.BgFifo.push.Goals as goal

-- the slots while a row is pushed: after k pixels, and after all
module _ (q : BgFifo) (palette : ColorPalette) (priority : Bool) (colours : List ℕ) (eight : length colours ≡ 8) where
  pushing_more : {pixels : List BgFifoPixel} {head at : ℕ} (k : ℕ) → k < 8 → head ≡ q.head → at ≡ (head + (q.len + k)) % 16
      → pixels ≡ laid 16 q.pixels (q.head + q.len) (take k (bg_row palette priority colours))
      → set pixels at (bg_inked palette priority (get_or colours k 0))
      ≡ laid 16 q.pixels (q.head + q.len) (take (k + 1) (bg_row palette priority colours))
  pushing_more k h front slot e =
      let row = bg_row palette priority colours in
      let in_row : k < length row = rw (bg_row_length palette priority colours, eight) h in
      let place : q.head + (q.len + k) ≡ q.head + q.len + k = omega arith in
      let at-k = map_at (bg_inked palette priority) colours k 0 bg_blank (rw eight h) in
      rw (slot, front, place, e, ← at-k) (laid_more 16 bg_blank q.pixels (q.head + q.len) row k in_row)

  pushing_all : {pixels : List BgFifoPixel} (k : ℕ) → k ≡ 8
      → pixels ≡ laid 16 q.pixels (q.head + q.len) (take k (bg_row palette priority colours))
      → ◌≡◌ {A = BgFifo} (record { pixels = pixels; head = q.head; len = q.len + 8 }) (bg_pushed q (bg_row palette priority colours))
  pushing_all k e w =
      let row = bg_row palette priority colours in
      let through : length row ≤ k = rw (bg_row_length palette priority colours, eight, e) (omega arith) in
      rw (w, take_all k row through)

pub loop-k-init : goal.loop-k-init
unfolding laid
loop-k-init c = record { head = refl; len = refl; pixels = refl }

pub loop-k-preserved : goal.loop-k-preserved
loop-k-preserved c =
    let a = c.args in
    let v = c.loop-k.invariant in
    record {
      head = v.head;
      len = v.len;
      pixels = pushing_more a.self.now a.palette a.priority a.colors (omega (arith, c.well_formed)) c.loop-k.k (omega (arith, c.well_formed)) v.head (rw c.from-len.ensures at c.slot-at.ensures) v.pixels;
    }
