-- 01, "Start and switching off": the fresh state of a machine, and the lent memory after a start.
use Rattle.std.specs.Prelude.{◌≡◌, Bool, false, not, cond, ◌&&◌, length, replicate, None}
use Rattle.hardware.specs.Screen.{last_line}
use Rattle.hardware.specs.Tables.{Tables, tables}
use Rattle.hardware.specs.declared.Machine.{Machine}
use Rattle.colors.specs.Palettes.{fresh_set, palette_set, greys}
use Rattle.sprite.specs.Pick.{blank_slots}
use Rattle.lcd.specs.Pictures.{Pictures, filled_with}
use Rattle.fifo.specs.Background.{bg_fresh}
use Rattle.fifo.specs.Sprites.{sprite_fresh}
use Rattle.state.specs.declared.Registers.{Registers}
use Rattle.state.specs.declared.Palettes.{Palettes}
use Rattle.state.specs.declared.Pipe.{Pipe}
use Rattle.state.specs.declared.Beam.{Beam}
use Rattle.state.specs.declared.State.{State}

-- colour mode holds only if the device is not DMG
abbrev pub in_colour : Machine → Bool
in_colour m = not m.dmg && m.cgb

-- LCDC 91, BGP FC, OBP0 and OBP1 FF, mode 1; priority by coordinate outside colour mode, else by index
abbrev pub fresh_registers : Bool → Registers
fresh_registers cgb =
    record {
      lcdc = 0x91;
      stat = 1;
      scy = 0;
      scx = 0;
      ly = 0;
      lyc = 0;
      bgp = 0xFC;
      obp0 = 0xFF;
      obp1 = 0xFF;
      wy = 0;
      wx = 0;
      vbk = 0;
      coord = not cgb;
      cgb = cgb;
    }

-- outside colour mode background palette 0 and sprite palettes 0 and 1 hold the greys
abbrev pub fresh_palettes : Bool → Palettes
fresh_palettes cgb =
    record {
      bg = cond cgb fresh_set (palette_set fresh_set 0 greys);
      obj = cond cgb fresh_set (palette_set (palette_set fresh_set 0 greys) 1 greys);
    }

-- nothing fetched, nothing queued, out of the window
abbrev pub fresh_pipe : Pipe
fresh_pipe =
    record {
      fetcher = record { delay = 0; column = 0; row = replicate 8 0; waiting = None };
      bg = bg_fresh;
      obj = sprite_fresh;
      window = false;
      wrow = 0;
      discard = 0;
    }

-- line 153, cycle 400; picture A shown; a start is no blanking
abbrev pub fresh_beam : Beam
fresh_beam =
    record {
      line = last_line;
      cycle = 400;
      x = 0;
      shown = 0;
      count = 0;
      end = 0;
      level = false;
      turned = false;
      blanked = false;
    }

-- the fresh state of a machine
unfoldable pub fresh_state : Machine → State
fresh_state m =
    record {
      machine = m;
      regs = fresh_registers (in_colour m);
      palettes = fresh_palettes (in_colour m);
      selection = record { count = 0; slots = blank_slots };
      pipe = fresh_pipe;
      beam = fresh_beam;
    }

-- both tables 0
abbrev pub cleared : Tables → Tables
cleared t = tables (replicate (length t.vram) 0) (replicate (length t.oam) 0)

-- a start: the fresh state, VRAM and OAM 0, both pictures 255
pub record Started (m : Machine) (t : Tables) (p : Pictures) (n : State) (t' : Tables) (p' : Pictures) : Type 0 where
  pub state : n ≡ fresh_state m
  pub tables : t' ≡ cleared t
  pub pictures : p' ≡ filled_with 255 p
