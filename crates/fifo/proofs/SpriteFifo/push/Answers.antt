-- `fifo::SpriteFifo::push` meets its contract. The invariant: the first k pixels of the mix are laid from the head on.
use mathlib.Core.Path.{◌≡◌, refl, sym, ◌∙◌}
use mathlib.Core.Bool.{Bool}
use mathlib.Core.List.{List, [], ◌∷◌}
use Prim.Native.Nat.{ℕ, zero, suc, ◌+◌, ◌%◌, ◌≤◌, ◌<◌}
use native.Mathlib.Omega.{arith}
use lib.ListN.{length, take, get_or, set}
use lib.Seq.{take_all, length-take-le}
use Rattle.fifo.specs.declared.SpriteFifoPixel.{SpriteFifoPixel}
use Rattle.fifo.specs.Ring.{laid}
use Rattle.fifo.specs.Sprites.{SpriteFifo, sprite_blank, sprite_queued, inked, inked_row, over, merged, sprite_pushed}
use Rattle.logic.proofs.Mapped.{map_at}
use Rattle.fifo.proofs.Ring.{live_at, laid_more, laid_past}
use Rattle.fifo.proofs.Sprites.{sprite_length, inked_row_length, mix_length}
use Rattle.fifo.proofs.SpriteFifo.push.Goals.{then-k-from, else-k-from}
use Rattle.fifo.proofs.SpriteFifo.push.Goals as goal

-- the mix: pixel by pixel the older or the newer, and the row's own past the older ones
module _ (coord : Bool) where
  merged_over : (old row : List SpriteFifoPixel) (k : ℕ) (d : SpriteFifoPixel) → k < length old → k < length row
      → get_or (merged coord old row) k d ≡ over coord (get_or old k d) (get_or row k d)
  unfolding merged
  merged_over [] row k d h l = absurd (omega arith)
  merged_over (o ∷ old) [] k d h l = absurd (omega arith)
  merged_over (o ∷ old) (n ∷ row) zero d h l = refl
  merged_over (o ∷ old) (n ∷ row) (suc k) d h l = merged_over old row k d (omega arith) (omega arith)

  merged_new : (old row : List SpriteFifoPixel) (k : ℕ) (d : SpriteFifoPixel) → length old ≤ k → k < length row
      → get_or (merged coord old row) k d ≡ get_or row k d
  unfolding merged
  merged_new [] row k d h l = refl
  merged_new (o ∷ old) [] k d h l = absurd (omega arith)
  merged_new (o ∷ old) (n ∷ row) zero d h l = absurd (omega arith)
  merged_new (o ∷ old) (n ∷ row) (suc k) d h l = merged_new old row k d (omega arith) (omega arith)

-- the slots while a row is pushed: after k pixels, and after all
module _ (coord : Bool) (q : SpriteFifo) (ink : SpriteFifoPixel) (colours : List ℕ) (eight : length colours ≡ 8) (fits : q.len ≤ 8) where
  abbrev mix : List SpriteFifoPixel
  mix = merged coord (sprite_queued q) (inked_row ink colours)

  mix_eight : length mix ≡ 8
  mix_eight = mix_length coord q (inked_row ink colours) (inked_row_length ink colours ∙ eight) fits

  -- pixel k of the mix, where one waits and where none does
  mix_over : (k : ℕ) → k < q.len
      → get_or mix k sprite_blank ≡ over coord (get_or (laid 8 q.pixels q.head (take k mix)) ((q.head + k) % 8) sprite_blank) (inked ink (get_or colours k 0))
  mix_over k h =
      let row = inked_row ink colours in
      let both-there = merged_over coord (sprite_queued q) row k sprite_blank (rw (sprite_length q) h) (rw (inked_row_length ink colours, eight) (omega arith)) in
      let taken : length (take k mix) ≤ k = rw (length-take-le k mix (rw mix_eight (omega arith))) (omega arith) in
      let waits = live_at 8 sprite_blank q.pixels q.head q.len k h ∙ sym (laid_past 8 sprite_blank q.pixels q.head (take k mix) k taken (omega arith)) in
      both-there ∙ rw (waits, map_at (inked ink) colours k 0 sprite_blank (rw eight (omega arith)))

  mix_new : (k : ℕ) → q.len ≤ k → k < 8 → get_or mix k sprite_blank ≡ inked ink (get_or colours k 0)
  mix_new k h l =
      merged_new coord (sprite_queued q) (inked_row ink colours) k sprite_blank (rw (sprite_length q) h) (rw (inked_row_length ink colours, eight) l)
      ∙ map_at (inked ink) colours k 0 sprite_blank (rw eight l)

  module _ {pixels : List SpriteFifoPixel} {new : SpriteFifoPixel} {head at : ℕ} (k : ℕ) (less : k < 8) (front : head ≡ q.head)
      (slot : at ≡ (head + k) % 8) (w : pixels ≡ laid 8 q.pixels q.head (take k mix)) (colour : new ≡ inked ink (get_or colours k 0)) where
    mixing_over : {kept : SpriteFifoPixel} → k < q.len → kept ≡ over coord (get_or pixels at sprite_blank) new
        → set pixels at kept ≡ laid 8 q.pixels q.head (take (k + 1) mix)
    mixing_over h e =
        rw (e, slot, front, w, colour, ← mix_over k h) (laid_more 8 sprite_blank q.pixels q.head mix k (rw mix_eight less))

    mixing_new : q.len ≤ k → set pixels at new ≡ laid 8 q.pixels q.head (take (k + 1) mix)
    mixing_new h =
        rw (slot, front, w, colour, ← mix_new k h less) (laid_more 8 sprite_blank q.pixels q.head mix k (rw mix_eight less))

  mixing_all : {pixels : List SpriteFifoPixel} {head : ℕ} (k : ℕ) → k ≡ 8 → head ≡ q.head → pixels ≡ laid 8 q.pixels q.head (take k mix)
      → ◌≡◌ {A = SpriteFifo} (record { pixels = pixels; head = head; len = 8 }) (sprite_pushed coord q (inked_row ink colours))
  mixing_all k e front w = rw (front, w, take_all k mix (rw (mix_eight, e) (omega arith)))

pub loop-k-init : goal.loop-k-init
unfolding laid
loop-k-init c = record { head = refl; len = refl; pixels = refl }

pub loop-k-preserved : goal.loop-k-preserved
loop-k-preserved c =
    let a = c.args in
    let l = c.loop-k in
    let v = l.invariant in
    let eight : length a.colors ≡ 8 = omega (arith, c.well_formed) in
    let less : l.k < 8 = omega (arith, c.well_formed) in
    let laid_law : set l.self.pixels c.slot-at.result c.if-k-from.self
    ≡ laid 8 a.self.now.pixels a.self.now.head (take (l.k + 1) (merged a.coord (sprite_queued a.self.now) (inked_row a.ink a.colors))) =
    elim c.if-k-from.branch [
      | then-k-from w ↦
          rw w.self-is (mixing_over a.coord a.self.now a.ink a.colors eight c.requires l.k less v.head c.slot-at.ensures v.pixels c.inked-new.ensures (rw (c.from.ensures, v.len) at w.if-k-from.true) w.over.ensures)
      | else-k-from w ↦
          rw w.self-is (mixing_new a.coord a.self.now a.ink a.colors eight c.requires l.k less v.head c.slot-at.ensures v.pixels c.inked-new.ensures (rw (c.from.ensures, v.len) at w.if-k-from.false))
    ]
    in
    record { head = v.head; len = v.len; pixels = laid_law }

pub returns : goal.returns
returns c =
    let a = c.args in
    mixing_all a.coord a.self.now a.ink a.colors (omega (arith, c.well_formed)) c.requires c.loop-k.k (omega (arith, c.well_formed)) c.loop-k.invariant.head c.loop-k.invariant.pixels
