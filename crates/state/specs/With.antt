-- A state with one group put in place of what it had, a group with one field, and the mode that STAT holds. Every rule that
-- changes a part of the state is said with these.
use Rattle.std.specs.Prelude.{ℕ, ◌+◌, ◌*◌, ◌/◌, ◌%◌, Bool, cond, Option}
use Rattle.sprite.specs.declared.Selection.{Selection}
use Rattle.fifo.specs.Background.{BgFifo}
use Rattle.fifo.specs.Sprites.{SpriteFifo}
use Rattle.state.specs.declared.Registers.{Registers}
use Rattle.state.specs.declared.Palettes.{Palettes}
use Rattle.state.specs.declared.Fetcher.{Fetcher}
use Rattle.state.specs.declared.Pipe.{Pipe}
use Rattle.state.specs.declared.Beam.{Beam}
use Rattle.state.specs.declared.State.{State}
use Rattle.bg_attribs.specs.declared.BgAttribute.{BgAttribute}

-- the groups of the state; the machine stays as the start fixed it
abbrev pub with_registers : State → Registers → State
with_registers s r =
    record { machine = s.machine; regs = r; palettes = s.palettes; selection = s.selection; pipe = s.pipe; beam = s.beam }

abbrev pub with_palettes : State → Palettes → State
with_palettes s p =
    record { machine = s.machine; regs = s.regs; palettes = p; selection = s.selection; pipe = s.pipe; beam = s.beam }

abbrev pub with_selection : State → Selection → State
with_selection s l =
    record { machine = s.machine; regs = s.regs; palettes = s.palettes; selection = l; pipe = s.pipe; beam = s.beam }

abbrev pub with_pipe : State → Pipe → State
with_pipe s p =
    record { machine = s.machine; regs = s.regs; palettes = s.palettes; selection = s.selection; pipe = p; beam = s.beam }

abbrev pub with_beam : State → Beam → State
with_beam s b =
    record { machine = s.machine; regs = s.regs; palettes = s.palettes; selection = s.selection; pipe = s.pipe; beam = b }

-- STAT's lowest two bits are the mode, bit 2 the coincidence
abbrev pub mode_of : ℕ → ℕ
mode_of stat = stat % 4

abbrev pub with_mode : ℕ → ℕ → ℕ
with_mode stat mode = stat / 4 * 4 + mode

abbrev pub with_coincidence : ℕ → Bool → ℕ
with_coincidence stat set = stat / 8 * 8 + cond set 4 0 + stat % 4

-- the registers: STAT, LY and colour mode
abbrev pub with_stat : Registers → ℕ → Registers
with_stat r stat =
    record {
      lcdc = r.lcdc;
      stat = stat;
      scy = r.scy;
      scx = r.scx;
      ly = r.ly;
      lyc = r.lyc;
      bgp = r.bgp;
      obp0 = r.obp0;
      obp1 = r.obp1;
      wy = r.wy;
      wx = r.wx;
      vbk = r.vbk;
      coord = r.coord;
      cgb = r.cgb;
    }

abbrev pub with_ly : Registers → ℕ → Registers
with_ly r ly =
    record {
      lcdc = r.lcdc;
      stat = r.stat;
      scy = r.scy;
      scx = r.scx;
      ly = ly;
      lyc = r.lyc;
      bgp = r.bgp;
      obp0 = r.obp0;
      obp1 = r.obp1;
      wy = r.wy;
      wx = r.wx;
      vbk = r.vbk;
      coord = r.coord;
      cgb = r.cgb;
    }

abbrev pub with_cgb : Registers → Bool → Registers
with_cgb r cgb =
    record {
      lcdc = r.lcdc;
      stat = r.stat;
      scy = r.scy;
      scx = r.scx;
      ly = r.ly;
      lyc = r.lyc;
      bgp = r.bgp;
      obp0 = r.obp0;
      obp1 = r.obp1;
      wy = r.wy;
      wx = r.wx;
      vbk = r.vbk;
      coord = r.coord;
      cgb = cgb;
    }

-- the fetcher: its delay, its column, and what waits
abbrev pub with_delay : Fetcher → ℕ → Fetcher
with_delay f delay = record { delay = delay; column = f.column; row = f.row; waiting = f.waiting }

abbrev pub with_column : Fetcher → ℕ → Fetcher
with_column f column = record { delay = f.delay; column = column; row = f.row; waiting = f.waiting }

abbrev pub with_waiting : Fetcher → Option BgAttribute → Fetcher
with_waiting f waiting = record { delay = f.delay; column = f.column; row = f.row; waiting = waiting }

-- the pipe: the fetcher, both queues, in the window or out, the window's row, and what is to be discarded
abbrev pub with_fetcher : Pipe → Fetcher → Pipe
with_fetcher p f = record { fetcher = f; bg = p.bg; obj = p.obj; window = p.window; wrow = p.wrow; discard = p.discard }

abbrev pub with_queues : Pipe → BgFifo → SpriteFifo → Pipe
with_queues p bg obj =
    record { fetcher = p.fetcher; bg = bg; obj = obj; window = p.window; wrow = p.wrow; discard = p.discard }

abbrev pub with_window : Pipe → Bool → Pipe
with_window p inside =
    record { fetcher = p.fetcher; bg = p.bg; obj = p.obj; window = inside; wrow = p.wrow; discard = p.discard }

abbrev pub with_window_row : Pipe → ℕ → Pipe
with_window_row p row =
    record { fetcher = p.fetcher; bg = p.bg; obj = p.obj; window = p.window; wrow = row; discard = p.discard }

abbrev pub with_discard : Pipe → ℕ → Pipe
with_discard p discard =
    record { fetcher = p.fetcher; bg = p.bg; obj = p.obj; window = p.window; wrow = p.wrow; discard = discard }

-- the beam: line and cycle, LCD x, the picture shown, the count, the mode 3 end, the STAT level, just turned on or not,
-- blanked since the last swap or not
abbrev pub with_place : Beam → ℕ → ℕ → Beam
with_place b line cycle =
    record {
      line = line;
      cycle = cycle;
      x = b.x;
      shown = b.shown;
      count = b.count;
      end = b.end;
      level = b.level;
      turned = b.turned;
      blanked = b.blanked;
    }

abbrev pub with_x : Beam → ℕ → Beam
with_x b x =
    record {
      line = b.line;
      cycle = b.cycle;
      x = x;
      shown = b.shown;
      count = b.count;
      end = b.end;
      level = b.level;
      turned = b.turned;
      blanked = b.blanked;
    }

abbrev pub with_shown : Beam → ℕ → Beam
with_shown b shown =
    record {
      line = b.line;
      cycle = b.cycle;
      x = b.x;
      shown = shown;
      count = b.count;
      end = b.end;
      level = b.level;
      turned = b.turned;
      blanked = b.blanked;
    }

abbrev pub with_count : Beam → ℕ → Beam
with_count b count =
    record {
      line = b.line;
      cycle = b.cycle;
      x = b.x;
      shown = b.shown;
      count = count;
      end = b.end;
      level = b.level;
      turned = b.turned;
      blanked = b.blanked;
    }

abbrev pub with_end : Beam → ℕ → Beam
with_end b end =
    record {
      line = b.line;
      cycle = b.cycle;
      x = b.x;
      shown = b.shown;
      count = b.count;
      end = end;
      level = b.level;
      turned = b.turned;
      blanked = b.blanked;
    }

abbrev pub with_level : Beam → Bool → Beam
with_level b level =
    record {
      line = b.line;
      cycle = b.cycle;
      x = b.x;
      shown = b.shown;
      count = b.count;
      end = b.end;
      level = level;
      turned = b.turned;
      blanked = b.blanked;
    }

abbrev pub with_turned : Beam → Bool → Beam
with_turned b turned =
    record {
      line = b.line;
      cycle = b.cycle;
      x = b.x;
      shown = b.shown;
      count = b.count;
      end = b.end;
      level = b.level;
      turned = turned;
      blanked = b.blanked;
    }

abbrev pub with_blanked : Beam → Bool → Beam
with_blanked b blanked =
    record {
      line = b.line;
      cycle = b.cycle;
      x = b.x;
      shown = b.shown;
      count = b.count;
      end = b.end;
      level = b.level;
      turned = b.turned;
      blanked = blanked;
    }
