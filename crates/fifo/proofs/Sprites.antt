-- The sprite queue: specs/Laws is so, and what the mix of a row with the pixels that wait has of either.
use Rattle.std.proofs.Common.{Some, None}
use mathlib.Core.Path.{◌≡◌, refl, ap, sym, ◌∙◌}
use mathlib.Core.Bool.{Bool, true, ◌&&◌}
use mathlib.Core.List.{List, [], ◌∷◌}
use mathlib.Core.Logic.{⊎_elim}
use Prim.Native.Nat.{ℕ, suc, ◌-◌, ◌≤◌, ◌<◌}
use native.Mathlib.Nat.{add-zero, eq-zero-or-pos}
use native.Mathlib.Omega.{arith}
use lib.ListN.{length, length-map}
use Rattle.logic.specs.Every.{every}
use Rattle.logic.proofs.Tests.{by_test}
use Rattle.logic.proofs.Both.{both, first, second}
use Rattle.logic.proofs.Every.{every_cons}
use Rattle.fifo.specs.declared.SpriteFifoPixel.{SpriteFifoPixel}
use Rattle.fifo.specs.Ring.{Popped, live}
use Rattle.fifo.specs.Sprites.{SpriteFifo, sprite_blank, sprite_queued, inked, inked_row, covers, over, merged, sprite_front, sprite_rest, sprite_popped}
use Rattle.fifo.specs.Laws.{SpriteStarts, SpriteClears, SpriteCounts, SpritePushes, SpritePops, SpriteGives, SpriteGivesNothing, SpritePushSlots, SpritePushEvery, SpritePopSlots, SpritePopLen, SpritePopEvery, SpritePixelEvery, SpriteClearEvery}
use Rattle.fifo.proofs.Ring.{live_length, live_pop, laid_length, laid_live, popped_none, popped_some}

-- nothing is queued at the start, nor after a clear
pub sprite_fresh_law : SpriteStarts
unfolding live
sprite_fresh_law = refl

pub sprite_cleared_law : SpriteClears
unfolding live
sprite_cleared_law q = refl

pub sprite_cleared_every : SpriteClearEvery
unfolding every live
sprite_cleared_every test q = refl

-- as many as the length says
pub sprite_length : SpriteCounts
sprite_length q = live_length 8 sprite_blank q.pixels q.head q.len

pub inked_row_length : (ink : SpriteFifoPixel) (colours : List ℕ) → length (inked_row ink colours) ≡ length colours
inked_row_length ink colours = length-map colours (inked ink)

-- the mix is as long as the row, and what holds of the older and of the newer holds of it
module _ (coord : Bool) where
  pub merged_length : (old row : List SpriteFifoPixel) → length old ≤ length row → length (merged coord old row) ≡ length row
  unfolding merged
  merged_length [] row h = refl
  merged_length (o ∷ old) [] h = absurd (omega arith)
  merged_length (o ∷ old) (n ∷ row) h = ap suc (merged_length old row (omega arith))

  over_test : (test : SpriteFifoPixel → Bool) (o n : SpriteFifoPixel) → test o ≡ true → test n ≡ true → test (over coord o n) ≡ true
  over_test test o n a b = by_test (λ p. test p ≡ true) (covers coord o n) (λ t. b) (λ t. a)

  pub merged_every : (test : SpriteFifoPixel → Bool) (old row : List SpriteFifoPixel) → every test old ≡ true → every test row ≡ true
      → every test (merged coord old row) ≡ true
  unfolding merged every
  merged_every test [] row a b = b
  merged_every test (o ∷ old) [] a b = a
  merged_every test (o ∷ old) (n ∷ row) a b =
      both (over_test test o n (first _ (every test old) a) (first _ (every test row) b)) (merged_every test old row (second (test o) _ a) (second (test n) _ b))

-- a push: eight slots stay eight, and the queue is the mix
pub sprite_pushed_slots : SpritePushSlots
sprite_pushed_slots coord q row = laid_length 8 sprite_blank q.pixels q.head (merged coord (sprite_queued q) row)

pub mix_length : (coord : Bool) (q : SpriteFifo) (row : List SpriteFifoPixel) → length row ≡ 8 → q.len ≤ 8
    → length (merged coord (sprite_queued q) row) ≡ 8
mix_length coord q row eight h =
    merged_length coord (sprite_queued q) row (rw (sprite_length q, eight) h) ∙ eight

pub sprite_pushed_law : SpritePushes
unfolding live
sprite_pushed_law coord q row slots eight h =
    let mix = mix_length coord q row eight h in
    rw (add-zero, mix) at (laid_live 8 sprite_blank q.pixels q.head 0 (merged coord (sprite_queued q) row) slots (rw mix (omega arith)))

pub sprite_pushed_every : SpritePushEvery
sprite_pushed_every coord q row test slots eight h a b =
    rw (sprite_pushed_law coord q row slots eight h) (merged_every coord test (sprite_queued q) row a b)

-- a pop: the front leaves
pub sprite_popped_law : SpritePops
sprite_popped_law q h = live_pop 8 sprite_blank q.pixels q.head q.len h

pub sprite_popped_none : (q : SpriteFifo) → q.len ≡ 0 → sprite_popped q ≡ record { answer = None; fifo = q }
sprite_popped_none = popped_none sprite_blank

pub sprite_popped_some : SpriteGives
sprite_popped_some = popped_some sprite_blank

-- the same with no case apart: an empty queue stays as it is
module _ (q : SpriteFifo) where
  none_or_some : (P : Popped SpriteFifoPixel 8 → Type 0) → (q.len ≡ 0 → P (record { answer = None; fifo = q }))
      → (0 < q.len → P (record { answer = Some (sprite_front q); fifo = sprite_rest q })) → P (sprite_popped q)
  none_or_some P none some = ⊎_elim (λ e. rw (sprite_popped_none q e) (none e)) (λ h. rw (sprite_popped_some q h) (some h)) (eq-zero-or-pos q.len)

  front_and_rest : (test : SpriteFifoPixel → Bool) → 0 < q.len → every test (sprite_queued q) ≡ true
      → test (sprite_front q) && every test (sprite_queued (sprite_rest q)) ≡ true
  front_and_rest test h e = sym (ap (every test) (sprite_popped_law q h) ∙ every_cons test (sprite_front q) (sprite_queued (sprite_rest q))) ∙ e

pub sprite_nothing : SpriteGivesNothing
unfolding live
sprite_nothing q = (given, left)
  where
    given : (sprite_popped q).answer ≡ None → sprite_queued q ≡ []
    given =
        none_or_some q (λ r. r.answer ≡ None → sprite_queued q ≡ []) (λ e n. rw e) (λ h n. let z : ◌≡◌ {A = ℕ} 0 1 = cc in absurd (omega arith))

    left : sprite_queued q ≡ [] → sprite_popped q ≡ record { answer = None; fifo = q }
    left e = sprite_popped_none q (sym (sprite_length q) ∙ ap length e)

pub sprite_popped_len : SpritePopLen
sprite_popped_len q = none_or_some q (λ r. r.fifo.len ≡ q.len - 1) (λ e. omega arith) (λ h. refl)

pub sprite_popped_slots : SpritePopSlots
sprite_popped_slots q = none_or_some q (λ r. r.fifo.pixels ≡ q.pixels) (λ e. refl) (λ h. refl)

pub sprite_popped_every : SpritePopEvery
sprite_popped_every q test e =
    none_or_some q (λ r. every test (sprite_queued r.fifo) ≡ true) (λ z. e) (λ h. second (test (sprite_front q)) _ (front_and_rest q test h e))

-- the pixel popped was queued
pub sprite_pixel_every : SpritePixelEvery
sprite_pixel_every q test p e =
    none_or_some q (λ r. r.answer ≡ Some p → test p ≡ true)
    (λ z n. let z : ◌≡◌ {A = ℕ} 0 1 = cc in absurd (omega arith))
    (λ h n. let same : sprite_front q ≡ p = cc in rw (← same) (first _ (every test (sprite_queued (sprite_rest q))) (front_and_rest q test h e)))
