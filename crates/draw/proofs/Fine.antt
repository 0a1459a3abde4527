-- The parts of a draw keep a state in order, and what is popped has colour numbers.
use Rattle.std.proofs.Common.{◌≡◌, ℕ, ◌+◌, ◌<◌, ◌≤◌, Bool, List, arith, leb-true}
use Rattle.hardware.specs.Screen.{width}
use Rattle.fifo.specs.Background.{bg_front, bg_rest}
use Rattle.fifo.specs.Sprites.{sprite_popped}
use Rattle.fifo.specs.Background.{BgFifo}
use Rattle.fifo.specs.Sprites.{SpriteFifo}
use Rattle.fifo.proofs.Background.{bg_popped_every}
use Rattle.fifo.proofs.Sprites.{sprite_popped_every, sprite_popped_len, sprite_popped_slots}
use Rattle.pixel.proofs.Added.{sprites_fine}
use Rattle.pipe.proofs.Fine.{emptied_fine, windowed_fine, fetched_fine, fed_fine}
use Rattle.state.specs.With.{with_pipe}
use Rattle.state.specs.declared.Pipe.{Pipe}
use Rattle.state.specs.declared.State.{State}
use Rattle.order.specs.Order.{bg_pixel_order, sprite_pixel_order}
use Rattle.order.specs.Fine.{SelectionFine, BgFine, SpriteFine, PipeFine, Fine}
use Rattle.draw.specs.Draw.{spot, fed_pipe, discarded, ready, popped, ended_pipe, next_state, end_state, drawn_if}
use Rattle.draw.specs.declared.Drawn.{Drawn}
use Rattle.draw.proofs.Ways.{drawn_cases}

pub fed_pipe_fine : (allowed : Bool) (vram : List ℕ) (s : State) → PipeFine s.pipe → PipeFine (fed_pipe allowed vram s)
unfolding fed_pipe
fed_pipe_fine allowed vram s h =
    fed_fine s.palettes.bg.bytes (fetched_fine vram s.regs s.beam.line (windowed_fine allowed s.beam.x s.regs.wx h))

-- the pixel at the front has a colour number
pub front_coloured : {q : BgFifo} → BgFine q → 0 < q.len → (bg_front q).color < 4
front_coloured {q} h some =
    let low : (bg_front q).color ≤ 3 = leb-true _ _ (bg_popped_every bg_pixel_order q some h.pixels).0 in omega arith

-- a queue that pops
rest_fine : {q : BgFifo} → BgFine q → 0 < q.len → BgFine (bg_rest q)
rest_fine {q} h some =
    record { size = h.size; len = omega (arith, h.len); pixels = (bg_popped_every bg_pixel_order q some h.pixels).1 }

popped_sprite_fine : {q : SpriteFifo} → SpriteFine q → SpriteFine (sprite_popped q).fifo
popped_sprite_fine {q} h =
    record {
      size = rw (sprite_popped_slots q) h.size;
      len = rw (sprite_popped_len q) (omega (arith, h.len));
      pixels = sprite_popped_every q sprite_pixel_order h.pixels;
    }

-- the queue with the sprites that start here
pub queue_ready_fine : (vram : List ℕ) (s : State) (p : Pipe) → SelectionFine s.selection → SpriteFine p.obj → SpriteFine (ready vram s p)
unfolding ready
queue_ready_fine vram s p l h = sprites_fine vram s.regs s.palettes.obj.bytes (spot s) l h

discarded_fine : {p : Pipe} → 0 < p.bg.len → PipeFine p → PipeFine (discarded p)
discarded_fine some h =
    record { fetcher = h.fetcher; bg = rest_fine h.bg some; obj = popped_sprite_fine h.obj }

popped_fine : (vram : List ℕ) (s : State) {p : Pipe} → SelectionFine s.selection → 0 < p.bg.len → PipeFine p → PipeFine (popped vram s p)
popped_fine vram s {p} l some h =
    record { fetcher = h.fetcher; bg = rest_fine h.bg some; obj = popped_sprite_fine (queue_ready_fine vram s p l h.obj) }

ended_fine : {p : Pipe} → PipeFine p → PipeFine (ended_pipe p)
ended_fine h = let e = emptied_fine h in record { fetcher = e.fetcher; bg = e.bg; obj = e.obj }

-- another pipe that is in order
piped : {s : State} {p : Pipe} → Fine s → PipeFine p → Fine (with_pipe s p)
piped f h = record { beam = f.beam; regs = f.regs; mode3 = f.mode3; palettes = f.palettes; selection = f.selection; pipe = h }

-- after a pixel: in the line, and at its end
next_fine : {s : State} {p : Pipe} → (s.beam.x + 1 ≡ width → ⊥) → Fine s → PipeFine p → Fine (next_state s p)
next_fine {s} other f h =
    let b = f.beam in
    record {
      beam = record { even = b.even; cycle = b.cycle; line = b.line; x = omega (arith, b.x); shown = b.shown };
      regs = f.regs;
      mode3 = f.mode3;
      palettes = f.palettes;
      selection = f.selection;
      pipe = h;
    }

end_fine : {s : State} {p : Pipe} → Fine s → PipeFine p → Fine (end_state s p)
end_fine {s} f h =
    let b = f.beam in
    let r = f.regs in
    let low : s.regs.stat < 128 = r.stat in
    record {
      beam = record { even = b.even; cycle = b.cycle; line = b.line; x = omega arith; shown = b.shown };
      regs = record { ly = r.ly; bank = r.bank; stat = omega arith };
      mode3 = λ m. absurd (omega arith);
      palettes = f.palettes;
      selection = f.selection;
      pipe = ended_fine h;
    }

-- a draw, where the window is open or not
pub drawn_fine : (allowed : Bool) (vram : List ℕ) (s : State) → Fine s → Fine (drawn_if allowed vram s).state
drawn_fine allowed vram s f =
    drawn_cases allowed vram s (λ (d : Drawn). Fine d.state)
    (λ h. piped f p)
    (λ h d. piped f (discarded_fine (omega arith) p))
    (λ h d o. next_fine o f (popped_fine vram s f.selection (omega arith) p))
    (λ h d e. end_fine f (popped_fine vram s f.selection (omega arith) p))
  where
    p : PipeFine (fed_pipe allowed vram s)
    p = fed_pipe_fine allowed vram s f.pipe
