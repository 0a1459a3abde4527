-- The background queue: specs/Laws is so, and a row has as many pixels as colours.
use mathlib.Core.Path.{◌≡◌, refl, ap, sym, ◌∙◌}
use mathlib.Core.Bool.{Bool}
use mathlib.Core.List.{List}
use Prim.Native.Nat.{ℕ, ◌+◌}
use native.Mathlib.Omega.{arith}
use lib.ListN.{length, length-map}
use Rattle.logic.specs.Every.{every}
use Rattle.logic.proofs.Both.{both, split}
use Rattle.logic.proofs.Every.{every_append, every_cons}
use Rattle.colors.specs.declared.ColorPalette.{ColorPalette}
use Rattle.fifo.specs.Ring.{live}
use Rattle.fifo.specs.Background.{bg_blank, bg_queued, bg_inked, bg_row, bg_front, bg_rest}
use Rattle.fifo.specs.Laws.{BgStarts, BgClears, BgCounts, BgPushes, BgPops, BgGives, BgPushSlots, BgPushLen, BgPushEvery, BgPopLen, BgPopEvery, BgClearEvery}
use Rattle.fifo.proofs.Ring.{live_length, live_pop, laid_length, laid_live, popped_some}

-- nothing is queued at the start, nor after a clear
pub bg_fresh_law : BgStarts
unfolding live
bg_fresh_law = refl

pub bg_cleared_law : BgClears
unfolding live
bg_cleared_law q = refl

pub bg_cleared_every : BgClearEvery
unfolding every live
bg_cleared_every test q = refl

-- as many as the length says
pub bg_length : BgCounts
bg_length q = live_length 16 bg_blank q.pixels q.head q.len

pub bg_row_length : (palette : ColorPalette) (priority : Bool) (colours : List ℕ) → length (bg_row palette priority colours) ≡ length colours
bg_row_length palette priority colours = length-map colours (bg_inked palette priority)

-- a push: sixteen slots stay sixteen, and the row joins at the back
pub bg_pushed_slots : BgPushSlots
bg_pushed_slots q row = laid_length 16 bg_blank q.pixels (q.head + q.len) row

pub bg_pushed_len : BgPushLen
bg_pushed_len q row h = omega arith

pub bg_pushed_law : BgPushes
bg_pushed_law q row slots eight h =
    rw eight at (laid_live 16 bg_blank q.pixels q.head q.len row slots (rw eight (omega arith)))

pub bg_pushed_every : BgPushEvery
bg_pushed_every test q row slots eight h a b =
    rw (bg_pushed_law q row slots eight h, every_append test (bg_queued q) row) (both a b)

-- a pop: the front leaves
pub bg_popped_law : BgPops
bg_popped_law q h = live_pop 16 bg_blank q.pixels q.head q.len h

pub bg_popped_some : BgGives
bg_popped_some = popped_some bg_blank

pub bg_popped_len : BgPopLen
bg_popped_len q h = omega arith

pub bg_popped_every : BgPopEvery
bg_popped_every test q h e =
    split _ _ (sym (ap (every test) (bg_popped_law q h) ∙ every_cons test (bg_front q) (bg_queued (bg_rest q))) ∙ e)
