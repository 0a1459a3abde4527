-- 01, "One draw", and Pan Docs, "Window": when the window is entered, and what that changes.
use Rattle.std.specs.Prelude.{ℕ, Bool, true, not, cond, ◌&&◌, ◌||◌, eqb, ltb, leb}
use Rattle.wrap.specs.Wrap.{minus, bit_at}
use Rattle.fifo.specs.Background.{bg_cleared}
use Rattle.fifo.specs.Sprites.{sprite_cleared}
use Rattle.state.specs.With.{with_column, with_fetcher, with_queues, with_window, with_discard}
use Rattle.state.specs.declared.Registers.{Registers}
use Rattle.state.specs.declared.Pipe.{Pipe}

-- the window is open on a line: LCDC bit 5, and line >= WY
abbrev pub opened : Registers → ℕ → Bool
opened r line = bit_at r.lcdc 5 && leb r.wy line

-- its column is reached: LCD x = WX - 7 modulo 256, or x 0 and WX below 7
abbrev pub reached : ℕ → ℕ → Bool
reached x wx = eqb x (minus wx 7) || (eqb x 0 && ltb wx 7)

-- it is entered where it is open, not yet in, and its column is reached
unfoldable pub enters : Bool → Bool → ℕ → ℕ → Bool
enters allowed inside x wx = allowed && (not inside && reached x wx)

-- if WX is below 7 or discard is not 0, discard becomes 7 - WX, on purpose modulo 256
abbrev pub discard_at : ℕ → ℕ → ℕ
discard_at wx discard = cond (ltb wx 7 || not (eqb discard 0)) (minus 7 wx) discard

-- both queues empty, fetch column 0
abbrev pub emptied : Pipe → Pipe
emptied p = with_queues (with_fetcher p (with_column p.fetcher 0)) (bg_cleared p.bg) (sprite_cleared p.obj)

-- the pipe where the window is entered
abbrev pub window_entered : ℕ → Pipe → Pipe
window_entered wx p = with_discard (with_window (emptied p) true) (discard_at wx p.discard)

unfoldable pub windowed : Bool → ℕ → ℕ → Pipe → Pipe
windowed allowed x wx p = cond (enters allowed p.window x wx) (window_entered wx p) p
