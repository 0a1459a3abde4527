-- A register write and the colour flag keep a state in order; a write keeps the mode.
use mathlib.Core.Path.{◌≡◌, refl, sym, ◌∙◌}
use mathlib.Core.Bool.{Bool, true, false}
use Prim.Native.Nat.{ℕ, ◌+◌, ◌≤◌, ◌<◌}
use native.Mathlib.Omega.{arith}
use borrow.Author.Tests.{eqb-true}
use lib.Dec.{eqb}
use lib.ListN.{length-set}
use Rattle.logic.proofs.Tests.{by_test}
use Rattle.colors.specs.Palettes.{next}
use Rattle.colors.specs.declared.PaletteSet.{PaletteSet}
use Rattle.state.specs.With.{mode_of}
use Rattle.state.specs.declared.Registers.{Registers}
use Rattle.state.specs.declared.Palettes.{Palettes}
use Rattle.state.specs.declared.State.{State}
use Rattle.order.specs.Fine.{RegistersFine, SetFine, PalettesFine, Fine}
use Rattle.registers.specs.Write.{kept, registers_written, port_written, palettes_written, blanks, blanked_state, value_written, state_written, colour_set}
use Rattle.registers.proofs.Kept.{bank_kept, stat_kept}

-- the registers: STAT below 128, the mode as it was
module _ (r : Registers) (address value : ℕ) where
  registers_written_law : RegistersFine r → RegistersFine (registers_written r address (kept address value))
  unfolding registers_written
  registers_written_law h =
      record {
        ly = h.ly;
        bank = by_test (λ (b : ℕ). b ≤ 1) (eqb address 0xFF4F) (λ e. bank_kept address value (eqb-true _ _ e)) (λ e. h.bank);
        stat = by_test (λ (x : ℕ). x < 128) (eqb address 0xFF41)
            (λ e. omega (arith, stat_kept address value (eqb-true _ _ e))) (λ e. h.stat);
      }

  pub mode_written : mode_of (registers_written r address (kept address value)).stat ≡ mode_of r.stat
  unfolding registers_written
  mode_written =
      by_test (λ (x : ℕ). mode_of x ≡ mode_of r.stat) (eqb address 0xFF41)
      (λ e. omega (arith, stat_kept address value (eqb-true _ _ e))) (λ e. refl)

-- a palette set behind its two ports
next_fits : (auto : Bool) (i : ℕ) → i ≤ 63 → next auto i ≤ 63
next_fits true i h = omega arith
next_fits false i h = h

port_written_law : (p : PaletteSet) (port address v : ℕ) → SetFine p → SetFine (port_written p port address v)
unfolding port_written
port_written_law p port address v h =
    by_test SetFine (eqb address port) (λ e. record { bytes = h.bytes; index = omega arith })
    (λ e. by_test SetFine (eqb address (port + 1))
    (λ d. record { bytes = length-set p.bytes p.index v ∙ h.bytes; index = next_fits p.auto p.index h.index })
    (λ d. h))

palettes_written_law : {p : Palettes} (address v : ℕ) → PalettesFine p → PalettesFine (palettes_written p address v)
palettes_written_law {p} address v h =
    record { bg = port_written_law p.bg 0xFF68 address v h.bg; obj = port_written_law p.obj 0xFF6A address v h.obj }

-- the registers and the palettes; then the beam and the registers of a blanking
value_fine : {s : State} (address value : ℕ) → Fine s → Fine (value_written s address (kept address value))
value_fine {s} address value f =
    record {
      beam = f.beam;
      regs = registers_written_law s.regs address value f.regs;
      mode3 = λ e. f.mode3 (sym (mode_written s.regs address value) ∙ e);
      palettes = palettes_written_law address (kept address value) f.palettes;
      selection = f.selection;
      pipe = f.pipe;
    }

blanked_fine : {s : State} → Fine s → Fine (blanked_state s)
blanked_fine {s} f =
    let low : s.regs.stat < 128 = f.regs.stat in
    record {
      beam = record { even = refl; cycle = omega arith; line = omega arith; x = f.beam.x; shown = f.beam.shown };
      regs = record { ly = omega arith; bank = f.regs.bank; stat = omega arith };
      mode3 = λ e. omega arith;
      palettes = f.palettes;
      selection = f.selection;
      pipe = f.pipe;
    }

-- a register write
pub write_fine : {s : State} (address value : ℕ) → Fine s → Fine (state_written s address (kept address value))
unfolding state_written
write_fine {s} address value f =
    let after = value_fine address value f in
    by_test Fine (blanks s.regs address (kept address value)) (λ e. blanked_fine after) (λ e. after)

-- the colour flag
pub colour_fine : {s : State} (flag : Bool) → Fine s → Fine (colour_set s flag)
colour_fine flag f =
    record {
      beam = f.beam;
      regs = record { ly = f.regs.ly; bank = f.regs.bank; stat = f.regs.stat };
      mode3 = f.mode3;
      palettes = f.palettes;
      selection = f.selection;
      pipe = f.pipe;
    }
