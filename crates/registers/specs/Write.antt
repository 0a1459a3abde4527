-- 01, "Registers" and "Start and switching off": what a register write, a read and the colour flag do.
use Rattle.std.specs.Prelude.{ℕ, ◌+◌, ◌%◌, Bool, true, not, cond, ◌&&◌, ◌≡◌, eqb, leb}
use Rattle.std.specs.Int.Bits.{bit_and}
use Rattle.wrap.specs.Wrap.{bit_at}
use Rattle.colors.specs.Palettes.{index_written, data_written, index_read, data_read}
use Rattle.colors.specs.declared.PaletteSet.{PaletteSet}
use Rattle.lcd.specs.Pictures.{Pictures, filled_with}
use Rattle.state.specs.With.{with_registers, with_palettes, with_beam, with_place, with_count, with_turned, with_blanked}
use Rattle.state.specs.With.{with_mode, with_stat, with_ly, with_cgb}
use Rattle.state.specs.declared.Registers.{Registers}
use Rattle.state.specs.declared.Palettes.{Palettes}
use Rattle.state.specs.declared.Beam.{Beam}
use Rattle.state.specs.declared.State.{State}
use Rattle.registers.specs.Registers.{kept_bits}

-- the bits of a value that a write to an address keeps
abbrev pub kept : ℕ → ℕ → ℕ
kept address value = bit_and value (kept_bits address)

-- the registers after a write of kept bits v: only the one addressed changes; STAT's lower three bits stay
unfoldable pub registers_written : Registers → ℕ → ℕ → Registers
registers_written r address v =
    record {
      lcdc = cond (eqb address 0xFF40) v r.lcdc;
      stat = cond (eqb address 0xFF41) (r.stat % 8 + v) r.stat;
      scy = cond (eqb address 0xFF42) v r.scy;
      scx = cond (eqb address 0xFF43) v r.scx;
      ly = r.ly;
      lyc = cond (eqb address 0xFF45) v r.lyc;
      bgp = cond (eqb address 0xFF47) v r.bgp;
      obp0 = cond (eqb address 0xFF48) v r.obp0;
      obp1 = cond (eqb address 0xFF49) v r.obp1;
      wy = cond (eqb address 0xFF4A) v r.wy;
      wx = cond (eqb address 0xFF4B) v r.wx;
      vbk = cond (eqb address 0xFF4F) v r.vbk;
      coord = cond (eqb address 0xFF6C) (eqb v 1) r.coord;
      cgb = r.cgb;
    }

-- a palette set behind an index port and the data port after it
unfoldable pub port_written : PaletteSet → ℕ → ℕ → ℕ → PaletteSet
port_written p port address v =
    cond (eqb address port) (index_written p v) (cond (eqb address (port + 1)) (data_written p v) p)

abbrev pub palettes_written : Palettes → ℕ → ℕ → Palettes
palettes_written p address v =
    record { bg = port_written p.bg 0xFF68 address v; obj = port_written p.obj 0xFF6A address v }

-- a blanking: LCDC bit 7 clear while it was set
abbrev pub blanks : Registers → ℕ → ℕ → Bool
blanks r address v = eqb address 0xFF40 && (bit_at r.lcdc 7 && not (bit_at v 7))

-- it sets LY 0 and mode 0
abbrev pub blanked_registers : Registers → Registers
blanked_registers r = with_ly (with_stat r (with_mode r.stat 0)) 0

-- line 0, cycle 4, just turned on, no place stored; LCD x stays. Request 5: that it was blanked is kept until a swap
abbrev pub blanked_beam : Beam → Beam
blanked_beam b = with_blanked (with_turned (with_count (with_place b 0 4) 0) true) true

abbrev pub blanked_state : State → State
blanked_state s = with_beam (with_registers s (blanked_registers s.regs)) (blanked_beam s.beam)

-- the state with kept bits v in its registers and palettes
abbrev pub value_written : State → ℕ → ℕ → State
value_written s address v =
    with_palettes (with_registers s (registers_written s.regs address v)) (palettes_written s.palettes address v)

-- the state after a write of kept bits v, and both pictures after it: 255 at a blanking
unfoldable pub state_written : State → ℕ → ℕ → State
state_written s address v =
    cond (blanks s.regs address v) (blanked_state (value_written s address v)) (value_written s address v)

abbrev pub pictures_written : State → ℕ → ℕ → Pictures → Pictures
pictures_written s address v p = cond (blanks s.regs address v) (filled_with 255 p) p

-- what a register write leaves
pub record Written (s : State) (p : Pictures) (address value : ℕ) (n : State) (p' : Pictures) : Type 0 where
  pub state : n ≡ state_written s address (kept address value)
  pub pictures : p' ≡ pictures_written s address (kept address value) p

-- the registers that can be read, and what each reads as
abbrev pub readable : ℕ → Bool
readable address = leb 0xFF68 address && leb address 0xFF6B

unfoldable pub register_read : Palettes → ℕ → ℕ
register_read p address =
    cond (eqb address 0xFF68) (index_read p.bg)
    (cond (eqb address 0xFF69) (data_read p.bg) (cond (eqb address 0xFF6A) (index_read p.obj) (data_read p.obj)))

-- the colour flag holds only if the device is not DMG
abbrev pub colour_set : State → Bool → State
colour_set s flag = with_registers s (with_cgb s.regs (not s.machine.dmg && flag))
