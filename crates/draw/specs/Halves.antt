-- A draw in two halves: the queues are made ready, and the front leaves. Together they are `drawn`.
use Rattle.std.specs.Prelude.{ℕ, Bool, cond, not, ◌&&◌, ◌||◌, List, ◌==◌, nat_le, Option, is_some}
use Rattle.fifo.specs.Background.{bg_front, bg_rest}
use Rattle.fifo.specs.Sprites.{sprite_popped}
use Rattle.lcd.specs.Mix.{mix}
use Rattle.lcd.specs.declared.Rgb.{Rgb}
use Rattle.pixel.specs.Sprites.{none_starts}
use Rattle.pixel.specs.Mixer.{seen}
use Rattle.state.specs.With.{with_registers, with_pipe, with_beam, with_stat, with_column, with_queues}
use Rattle.state.specs.declared.Pipe.{Pipe}
use Rattle.state.specs.declared.State.{State}
use Rattle.pipe.specs.Window.{opened, enters}
use Rattle.draw.specs.Draw.{fed_pipe, ready, after_pixel, idle_drawn, discard_drawn, shot_at}
use Rattle.draw.specs.declared.Drawn.{Drawn}
use Rattle.bg_attribs.specs.declared.BgAttribute.{BgAttribute}

-- a pixel is given: more than 8 queued, and none to discard
abbrev pub gives : Pipe → Bool
gives p = not (nat_le p.bg.len 8) && p.discard == 0

-- the first half: the window, the fetch and the row, and where a pixel is given the sprites that start here
abbrev pub joined : List ℕ → State → Pipe → Pipe
joined vram s p = cond (gives p) (with_queues p p.bg (ready vram s p)) p

unfoldable pub prepared : List ℕ → State → Pipe
prepared vram s = joined vram s (fed_pipe (opened s.regs s.beam.line) vram s)

-- a row waits
abbrev pub waits : Option BgAttribute → Bool
waits t = is_some t

-- something may join the pipe: the window is entered, a row is fetched, a row goes in, or a sprite starts. Else the first half
-- is one cycle of the fetch delay
unfoldable pub joins : State → Bool
joins s =
    enters (opened s.regs s.beam.line) s.pipe.window s.beam.x s.regs.wx
    || (nat_le s.pipe.fetcher.delay 1
    || cond (nat_le s.pipe.bg.len 8) (waits s.pipe.fetcher.waiting) (not (none_starts s.selection s.beam.x)))

-- the second half, of a pipe that is ready: nothing leaves, one pixel is discarded, or one is given
abbrev pub both_popped : Pipe → Pipe
both_popped p = with_queues p (bg_rest p.bg) (sprite_popped p.obj).fifo

abbrev pub front_bytes : State → Rgb
front_bytes s = mix (seen s.regs (bg_front s.pipe.bg) (sprite_popped s.pipe.obj).answer)

abbrev pub front_drawn : State → Drawn
front_drawn s =
    record { state = after_pixel s (both_popped s.pipe); shot = shot_at s.beam.x s.beam.line (front_bytes s) }

unfoldable pub leaves : State → Drawn
leaves s =
    cond (nat_le s.pipe.bg.len 8) (idle_drawn s s.pipe)
    (cond (s.pipe.discard == 0) (front_drawn s) (discard_drawn s s.pipe))

-- what the second half can change, taken over from another pipe and another state: the slots of the queues stay where they are
abbrev pub pipe_taken_over : Pipe → Pipe → Pipe
pipe_taken_over p q =
    record {
      fetcher = with_column p.fetcher q.fetcher.column;
      bg = record { pixels = p.bg.pixels; head = q.bg.head; len = q.bg.len };
      obj = record { pixels = p.obj.pixels; head = q.obj.head; len = q.obj.len };
      window = q.window;
      wrow = q.wrow;
      discard = q.discard;
    }

abbrev pub taken_over : State → State → State
taken_over s t =
    with_beam (with_pipe (with_registers s (with_stat s.regs t.regs.stat)) (pipe_taken_over s.pipe t.pipe)) t.beam
