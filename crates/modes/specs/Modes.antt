-- 01, "One step", 1 to 4, and Pan Docs, "PPU modes" and "STAT modes": modes, the STAT level and the requests.
use Rattle.std.specs.Prelude.{ℕ, ◌%◌, Bool, false, not, cond, ◌&&◌, ◌||◌, List, eqb, ltb}
use Rattle.wrap.specs.Wrap.{bit_at}
use Rattle.hardware.specs.Screen.{height, last_line}
use Rattle.sprite.specs.Pick.{selection}
use Rattle.pixel.specs.Sprites.{tall_of}
use Rattle.state.specs.With.{mode_of, with_mode, with_coincidence, with_registers, with_selection, with_pipe, with_beam, with_stat}
use Rattle.state.specs.With.{with_ly, with_delay, with_fetcher, with_window_row, with_discard, with_end, with_level}
use Rattle.state.specs.declared.Registers.{Registers}
use Rattle.state.specs.declared.Pipe.{Pipe}
use Rattle.state.specs.declared.Beam.{Beam}
use Rattle.state.specs.declared.State.{State}

-- at a line and a cycle
abbrev pub stands : Beam → ℕ → ℕ → Bool
stands b line cycle = eqb b.line line && eqb b.cycle cycle

-- (0,0) and (1..143, 0) mode 2; (0,4) mode 2 unless just turned on
unfoldable pub scans : Beam → Bool
scans b = (ltb b.line height && eqb b.cycle 0) || (stands b 0 4 && not b.turned)

-- (0..143, 80) mode 3
unfoldable pub renders : Beam → Bool
renders b = ltb b.line height && eqb b.cycle 80

-- (144,4) mode 1
abbrev pub rests : Beam → Bool
rests b = stands b height 4

-- at no other cycle does a mode begin, nor is a line searched
abbrev pub begins : Beam → Bool
begins b = eqb b.cycle 80 || (eqb b.cycle 4 || eqb b.cycle 0)

-- mode 2 begins: the pipe stays
abbrev pub scanning : Pipe → Pipe
scanning p = p

-- mode 3 begins: discard = SCX modulo 8, fetch delay 8
abbrev pub rendering : ℕ → Pipe → Pipe
rendering scx p = with_discard (with_fetcher p (with_delay p.fetcher 8)) (scx % 8)

-- mode 1 begins: window row 0
abbrev pub resting : Pipe → Pipe
resting p = with_window_row p 0

-- the state with a mode, a pipe and a mode 3 end
abbrev pub in_mode : State → ℕ → Pipe → ℕ → State
in_mode s mode p end =
    with_beam (with_pipe (with_registers s (with_stat s.regs (with_mode s.regs.stat mode))) p) (with_end s.beam end)

-- each entry to mode 2 or 1 sets the mode 3 end to 0
abbrev pub scanned : State → State
scanned s = in_mode s 2 (scanning s.pipe) 0

abbrev pub rendered : State → State
rendered s = in_mode s 3 (rendering s.regs.scx s.pipe) s.beam.end

abbrev pub rested : State → State
rested s = in_mode s 1 (resting s.pipe) 0

unfoldable pub entered : State → State
entered s =
    cond (scans s.beam) (scanned s) (cond (renders s.beam) (rendered s) (cond (rests s.beam) (rested s) s))

-- the STAT level by the mode held: mode 0, bit 3; mode 1, bit 4, and on DMG at (144,4) also bit 5; mode 2, bit 5 at cycle 0 if
-- not DMG, at cycle 4 if DMG or line 0; mode 3, none
abbrev pub rest_level : State → Bool
rest_level s = bit_at s.regs.stat 4 || ((s.machine.dmg && rests s.beam) && bit_at s.regs.stat 5)

abbrev pub scan_asks : State → Bool
scan_asks s =
    (eqb s.beam.cycle 0 && not s.machine.dmg)
    || (eqb s.beam.cycle 4 && (s.machine.dmg || eqb s.beam.line 0))

abbrev pub scan_level : State → Bool
scan_level s = scan_asks s && bit_at s.regs.stat 5

unfoldable pub mode_level : State → Bool
mode_level s =
    cond (eqb (mode_of s.regs.stat) 0) (bit_at s.regs.stat 3)
    (cond (eqb (mode_of s.regs.stat) 1) (rest_level s) (cond (eqb (mode_of s.regs.stat) 2) (scan_level s) false))

-- mode 2 at cycle 4 selects sprites
abbrev pub selected : List ℕ → State → State
selected oam s = with_selection s (selection oam s.beam.line (tall_of s.regs.lcdc) s.selection.slots)

unfoldable pub searched : List ℕ → State → State
searched oam s = cond (eqb (mode_of s.regs.stat) 2 && eqb s.beam.cycle 4) (selected oam s) s

-- not DMG at (144,0): bits 4 and 5 join
abbrev pub early_level : State → Bool
early_level s = (not s.machine.dmg && stands s.beam height 0) && (bit_at s.regs.stat 4 || bit_at s.regs.stat 5)

-- LY = LYC sets coincidence and, with bit 6, joins
abbrev pub coincides : State → Bool
coincides s = eqb s.regs.ly s.regs.lyc

unfoldable pub level_of : Bool → State → Bool
level_of held s = (held || early_level s) || (coincides s && bit_at s.regs.stat 6)

-- at (153,4) LY becomes 0
abbrev pub ly_after : State → ℕ
ly_after s = cond (stands s.beam last_line 4) 0 s.regs.ly

-- the state that knows coincidence and level
unfoldable pub compared : Bool → State → State
compared level s =
    with_beam (with_registers s (with_ly (with_stat s.regs (with_coincidence s.regs.stat (coincides s))) (ly_after s)))
    (with_level s.beam level)

-- what the comparison leaves in the registers
abbrev pub compared_registers : Registers → Beam → Registers
compared_registers r b =
    with_ly (with_stat r (with_coincidence r.stat (eqb r.ly r.lyc))) (cond (stands b last_line 4) 0 r.ly)
