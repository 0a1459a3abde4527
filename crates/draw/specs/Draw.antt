-- 01, "One draw": the window, the fetch, the row that goes in, and then a discard or a pixel; and the end of a line.
use Rattle.std.specs.Prelude.{◌≡◌, ℕ, ◌+◌, ◌-◌, ◌%◌, ◌<◌, Bool, false, cond, List, length, ◌==◌, nat_le, Option, Some, None}
use Rattle.wrap.specs.Wrap.{up}
use Rattle.hardware.specs.Screen.{width}
use Rattle.hardware.specs.Tables.{vram_bytes}
use Rattle.fifo.specs.Background.{bg_front, bg_rest}
use Rattle.fifo.specs.Sprites.{sprite_popped}
use Rattle.fifo.specs.Sprites.{SpriteFifo}
use Rattle.lcd.specs.Mix.{mix}
use Rattle.lcd.specs.declared.Rgb.{Rgb}
use Rattle.pixel.specs.Sprites.{sprites_added}
use Rattle.pixel.specs.Mixer.{seen}
use Rattle.state.specs.With.{with_mode, with_registers, with_pipe, with_beam, with_stat, with_x, with_count, with_end}
use Rattle.state.specs.With.{with_queues, with_window, with_window_row, with_discard}
use Rattle.state.specs.declared.Spot.{Spot}
use Rattle.state.specs.declared.Registers.{Registers}
use Rattle.state.specs.declared.Pipe.{Pipe}
use Rattle.state.specs.declared.Beam.{Beam}
use Rattle.state.specs.declared.State.{State}
use Rattle.order.specs.Fine.{SelectionFine, PipeFine}
use Rattle.pipe.specs.Window.{opened, emptied, windowed}
use Rattle.pipe.specs.Fetching.{fetched_pipe, fed}
use Rattle.draw.specs.declared.Drawn.{Drawn}
use Rattle.draw.specs.declared.Place.{Place}

-- what a pixel needs: VRAM of its length, a column of the screen, a selection and a pipe in order
pub record Drawable (vram : List ℕ) (s : State) (p : Pipe) : Type 0 where
  pub size : length vram ≡ vram_bytes
  pub x : s.beam.x < width
  pub selection : SelectionFine s.selection
  pub pipe : PipeFine p

-- the place that is drawn next
abbrev pub spot : State → Spot
spot s = record { line = s.beam.line; x = s.beam.x }

-- the pipe once the window was tried, open or not, the fetcher went on and a waiting row went in
unfoldable pub fed_pipe : Bool → List ℕ → State → Pipe
fed_pipe allowed vram s =
    fed s.palettes.bg.bytes
    (fetched_pipe vram s.regs s.beam.line (windowed allowed s.beam.x s.regs.wx s.pipe))

-- one pixel is discarded: both queues pop
abbrev pub discarded : Pipe → Pipe
discarded p = with_discard (with_queues p (bg_rest p.bg) (sprite_popped p.obj).fifo) (p.discard - 1)

-- the sprite queue with the sprites that start here
unfoldable pub ready : List ℕ → State → Pipe → SpriteFifo
ready vram s p = sprites_added vram s.regs s.palettes.obj.bytes s.selection (spot s) p.obj

-- the three bytes of the pixel
unfoldable pub pixel_bytes : List ℕ → State → Pipe → Rgb
pixel_bytes vram s p = mix (seen s.regs (bg_front p.bg) (sprite_popped (ready vram s p)).answer)

-- the pipe after it: both queues popped
abbrev pub popped : List ℕ → State → Pipe → Pipe
popped vram s p = with_queues p (bg_rest p.bg) (sprite_popped (ready vram s p)).fifo

-- a place more is stored, modulo 65,536
abbrev pub counted : Beam → Beam
counted b = with_count b ((b.count + 1) % 65536)

-- the next column
abbrev pub moved : Beam → Beam
moved b = with_x (counted b) (b.x + 1)

-- the line ends: mode 0, mode 3 end = cycle, x 0
abbrev pub ended_beam : Beam → Beam
ended_beam b = with_end (with_x (counted b) 0) b.cycle

abbrev pub ended_registers : Registers → Registers
ended_registers r = with_stat r (with_mode r.stat 0)

-- queues empty, column 0, and if in the window, its row up by one, modulo 256, and out
abbrev pub ended_pipe : Pipe → Pipe
ended_pipe p = with_window_row (with_window (emptied p) false) (cond p.window (up p.wrow) p.wrow)

-- the state after a pixel: in the line, and where the line ends
abbrev pub next_state : State → Pipe → State
next_state s p = with_beam (with_pipe s p) (moved s.beam)

abbrev pub end_state : State → Pipe → State
end_state s p = with_beam (with_pipe (with_registers s (ended_registers s.regs)) (ended_pipe p)) (ended_beam s.beam)

-- at x 160 the line ends
unfoldable pub after_pixel : State → Pipe → State
after_pixel s p = cond (s.beam.x + 1 == width) (end_state s p) (next_state s p)

-- the ways of a draw: nothing, a discard, a pixel: the place with its three bytes
abbrev pub idle_drawn : State → Pipe → Drawn
idle_drawn s p = record { state = with_pipe s p; shot = None }

abbrev pub discard_drawn : State → Pipe → Drawn
discard_drawn s p = record { state = with_pipe s (discarded p); shot = None }

abbrev pub shot_at : ℕ → ℕ → Rgb → Option Place
shot_at x y p = Some (record { x = x; y = y; rgb = p })

abbrev pub place_at : List ℕ → State → Pipe → Option Place
place_at vram s p = shot_at s.beam.x s.beam.line (pixel_bytes vram s p)

abbrev pub pixel_drawn : List ℕ → State → Pipe → Drawn
pixel_drawn vram s p = record { state = after_pixel s (popped vram s p); shot = place_at vram s p }

-- more than 8 queued: a discard or a pixel; else nothing
unfoldable pub shifted : List ℕ → State → Pipe → Drawn
shifted vram s p =
    cond (nat_le p.bg.len 8) (idle_drawn s p) (cond (p.discard == 0) (pixel_drawn vram s p) (discard_drawn s p))

-- one draw, where the window is open or not
abbrev pub drawn_if : Bool → List ℕ → State → Drawn
drawn_if allowed vram s = shifted vram s (fed_pipe allowed vram s)

-- one draw
abbrev pub drawn : List ℕ → State → Drawn
drawn vram s = drawn_if (opened s.regs s.beam.line) vram s
