-- The two halves of a draw are the draw, and the second changes no slot. Where nothing joins, the first is one cycle of the delay.
use Rattle.std.proofs.Common.{Option, Some, None}
use Rattle.std.proofs.Common.{◌≡◌, ℕ, ◌+◌, ◌-◌, ◌<◌, Bool, true, false, cond, not, ◌||◌, eqb, leb, List, sym, refl, ap, ◌∙◌, true≢false, arith, ne_eqb, leb-false}
use borrow.Author.Tests.{not-false}
use Rattle.logic.proofs.Tests.{by_test}
use Rattle.logic.proofs.Both.{neither}
use Rattle.hardware.specs.Screen.{width}
use Rattle.fifo.specs.Background.{bg_rest}
use Rattle.fifo.specs.Sprites.{sprite_popped}
use Rattle.fifo.specs.Sprites.{SpriteFifo}
use Rattle.fifo.proofs.Sprites.{sprite_popped_slots}
use Rattle.pixel.proofs.Added.{sprites_none}
use Rattle.pixel.specs.Sprites.{none_starts}
use Rattle.state.specs.With.{with_pipe, with_fetcher, with_queues, with_discard}
use Rattle.state.specs.declared.Pipe.{Pipe}
use Rattle.state.specs.declared.State.{State}
use Rattle.pipe.specs.Window.{opened, enters, windowed}
use Rattle.pipe.specs.Fetching.{waited, fetched_pipe, fed_by, fed}
use Rattle.order.specs.Fine.{SelectionFine, PipeFine}
use Rattle.draw.specs.Draw.{spot, fed_pipe, discarded, ready, pixel_bytes, after_pixel, next_state, end_state, idle_drawn, discard_drawn, shifted, drawn}
use Rattle.draw.specs.Halves.{gives, joined, prepared, waits, joins, both_popped, front_drawn, leaves, taken_over}
use Rattle.draw.specs.declared.Drawn.{Drawn}
use Rattle.draw.proofs.Fine.{fed_pipe_fine, queue_ready_fine}
use Rattle.bg_attribs.specs.declared.BgAttribute.{BgAttribute}

-- the halves are the draw
module _ (vram : List ℕ) (s : State) (p : Pipe) where
  given : gives p ≡ true → joined vram s p ≡ with_queues p p.bg (ready vram s p)
  given e = ap (λ (b : Bool). cond b (with_queues p p.bg (ready vram s p)) p) e

  not_given : gives p ≡ false → joined vram s p ≡ p
  not_given e = ap (λ (b : Bool). cond b (with_queues p p.bg (ready vram s p)) p) e

  of_pipe : {q : Pipe} → joined vram s p ≡ q → leaves (with_pipe s q) ≡ shifted vram s p → leaves (with_pipe s (joined vram s p)) ≡ shifted vram s p
  of_pipe e f = ap (λ (q : Pipe). leaves (with_pipe s q)) e ∙ f

  joined_shifted : leaves (with_pipe s (joined vram s p)) ≡ shifted vram s p
  unfolding leaves shifted after_pixel pixel_bytes
  joined_shifted = of (leb p.bg.len 8) refl (eqb p.discard 0) refl
    where
      of : (few : Bool) → leb p.bg.len 8 ≡ few → (none : Bool) → eqb p.discard 0 ≡ none
          → leaves (with_pipe s (joined vram s p)) ≡ shifted vram s p
      of true e none f = of_pipe (not_given (rw e refl)) (rw e)
      of false e true f = of_pipe (given (rw (e, f) refl)) (rw (e, f))
      of false e false f = of_pipe (not_given (rw (e, f) refl)) (rw (e, f))

pub halves_drawn : (vram : List ℕ) (s : State) → leaves (with_pipe s (prepared vram s)) ≡ drawn vram s
unfolding prepared
halves_drawn vram s = joined_shifted vram s (fed_pipe (opened s.regs s.beam.line) vram s)

-- a queue that pops keeps its slots
slots_stay : (q : SpriteFifo)
    → ◌≡◌ {A = SpriteFifo} (record { pixels = q.pixels; head = (sprite_popped q).fifo.head; len = (sprite_popped q).fifo.len }) (sprite_popped q).fifo
slots_stay q =
    ap (λ (x : List _). record { pixels = x; head = (sprite_popped q).fifo.head; len = (sprite_popped q).fifo.len }) (sym (sprite_popped_slots q))

-- the second half: nothing leaves, a pixel is discarded, or one is given, the last of its line or not
abbrev front_with : State → State → Drawn
front_with s u = record { state = u; shot = (front_drawn s).shot }

leaves_cases : (P : Drawn → Type 0) (s : State)
    → P (idle_drawn s s.pipe)
    → P (discard_drawn s s.pipe)
    → P (front_with s (end_state s (both_popped s.pipe)))
    → P (front_with s (next_state s (both_popped s.pipe)))
    → P (leaves s)
unfolding leaves after_pixel
leaves_cases P s idle drop last next =
    by_test P (leb s.pipe.bg.len 8) (λ e. idle)
    (λ e. by_test P (eqb s.pipe.discard 0)
    (λ z. by_test (λ (u : State). P (front_with s u)) (eqb (s.beam.x + 1) width) (λ l. last) (λ l. next)) (λ z. drop))

-- it changes no slot
module _ (s : State) where
  abbrev Stays : State → Type 0
  Stays u = taken_over s u ≡ u

  abbrev with_obj : SpriteFifo → Pipe
  with_obj o = with_queues s.pipe (bg_rest s.pipe.bg) o

  discard_stays : Stays (with_pipe s (discarded s.pipe))
  discard_stays = ap (λ (o : SpriteFifo). with_pipe s (with_discard (with_obj o) (s.pipe.discard - 1))) (slots_stay s.pipe.obj)

  end_stays : Stays (end_state s (both_popped s.pipe))
  end_stays = ap (λ (o : SpriteFifo). end_state s (with_obj o)) (slots_stay s.pipe.obj)

  next_stays : Stays (next_state s (both_popped s.pipe))
  next_stays = ap (λ (o : SpriteFifo). next_state s (with_obj o)) (slots_stay s.pipe.obj)

  pub taken_over_law : taken_over s (leaves s).state ≡ (leaves s).state
  taken_over_law = leaves_cases (λ (d : Drawn). Stays d.state) s refl discard_stays end_stays next_stays

-- where nothing joins, the first half is one cycle of the fetch delay
fed_none : (palettes : List ℕ) (w : Option BgAttribute) (p : Pipe) → waits w ≡ false → fed_by palettes w p ≡ p
fed_none palettes (Some t) p e = absurd (true≢false e)
fed_none palettes None p e = refl

module _ (vram : List ℕ) (s : State) (none : joins s ≡ false) where
  abbrev entering : Bool
  entering = enters (opened s.regs s.beam.line) s.pipe.window s.beam.x s.regs.wx

  abbrev coming : Bool
  coming = cond (leb s.pipe.bg.len 8) (waits s.pipe.fetcher.waiting) (not (none_starts s.selection s.beam.x))

  all_none : (entering ≡ false) × (leb s.pipe.fetcher.delay 1 || coming ≡ false)
  unfolding joins
  all_none = neither entering (leb s.pipe.fetcher.delay 1 || coming) none

  outside : entering ≡ false
  outside = all_none.0

  delayed : leb s.pipe.fetcher.delay 1 ≡ false
  delayed = (neither (leb s.pipe.fetcher.delay 1) coming all_none.1).0

  nothing_new : coming ≡ false
  nothing_new = (neither (leb s.pipe.fetcher.delay 1) coming all_none.1).1

  -- a cycle of the delay is left
  pub delay_left : 1 < s.pipe.fetcher.delay
  delay_left = leb-false _ _ delayed

  abbrev later : Pipe
  later = with_fetcher s.pipe (waited s.pipe.fetcher)

  window_none : windowed (opened s.regs s.beam.line) s.beam.x s.regs.wx s.pipe ≡ s.pipe
  unfolding windowed
  window_none = rw outside

  fetch_none : fetched_pipe vram s.regs s.beam.line s.pipe ≡ later
  unfolding fetched_pipe
  fetch_none = rw (ne_eqb (s.pipe.fetcher.delay - 1) 0 (λ e. omega (arith, delay_left)))

  -- no row goes in, and no sprite
  fed_few : leb s.pipe.bg.len 8 ≡ true → waits s.pipe.fetcher.waiting ≡ false → fed s.palettes.bg.bytes later ≡ later
  unfolding fed
  fed_few e n = rw e (fed_none s.palettes.bg.bytes s.pipe.fetcher.waiting later n)

  fed_many : leb s.pipe.bg.len 8 ≡ false → fed s.palettes.bg.bytes later ≡ later
  unfolding fed
  fed_many e = rw e

  queue_none : none_starts s.selection s.beam.x ≡ true → ready vram s later ≡ later.obj
  unfolding ready
  queue_none n = sprites_none vram s.regs s.palettes.obj.bytes (spot s) s.selection s.pipe.obj n

  rest_none : (few : Bool) → leb s.pipe.bg.len 8 ≡ few → joined vram s (fed s.palettes.bg.bytes later) ≡ later
  rest_none true e = ap (joined vram s) (fed_few e (rw e at nothing_new)) ∙ not_given vram s later (rw e refl)
  rest_none false e =
      let starts = not-false (none_starts s.selection s.beam.x) (rw e at nothing_new) in
      ap (joined vram s) (fed_many e)
      ∙ by_test (λ (p : Pipe). p ≡ later) (gives later) (λ g. ap (with_queues later later.bg) (queue_none starts)) (λ g. refl)

  pub prepared_none : prepared vram s ≡ later
  unfolding prepared fed_pipe
  prepared_none =
      ap (λ (p : Pipe). joined vram s (fed s.palettes.bg.bytes (fetched_pipe vram s.regs s.beam.line p))) window_none
      ∙ (ap (λ (p : Pipe). joined vram s (fed s.palettes.bg.bytes p)) fetch_none ∙ rest_none (leb s.pipe.bg.len 8) refl)

-- a pipe made ready is in order
pub prepared_fine : (vram : List ℕ) (s : State) → SelectionFine s.selection → PipeFine s.pipe → PipeFine (prepared vram s)
unfolding prepared
prepared_fine vram s l h =
    let p = fed_pipe_fine (opened s.regs s.beam.line) vram s h in
    by_test PipeFine (gives (fed_pipe (opened s.regs s.beam.line) vram s))
    (λ e. record { fetcher = p.fetcher; bg = p.bg; obj = queue_ready_fine vram s _ l p.obj })
    (λ e. p)
