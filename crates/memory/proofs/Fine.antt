-- The fresh state of a machine is in order.
use mathlib.Core.Path.{refl, ◌∙◌}
use mathlib.Core.Bool.{Bool, true, false}
use Prim.Native.Nat.{ℕ, ◌*◌, ◌%◌}
use native.Mathlib.Omega.{arith}
use lib.ListN.{length-replicate}
use lib.Seq.{length-sets}
use Rattle.logic.specs.Every.{every}
use Rattle.hardware.specs.declared.Machine.{Machine}
use Rattle.colors.specs.Palettes.{fresh_set, palette_set, palette_bytes, greys}
use Rattle.colors.specs.declared.ColorPalette.{ColorPalette}
use Rattle.colors.specs.declared.PaletteSet.{PaletteSet}
use Rattle.fifo.specs.Ring.{live}
use Rattle.order.specs.Fine.{SetFine, PalettesFine, Fine}
use Rattle.memory.specs.Fresh.{in_colour, fresh_palettes, fresh_state}

-- the palettes of the start, outside colour mode with the greys put in
none_fine : SetFine fresh_set
none_fine = record { bytes = length-replicate {A = ℕ} 64 0; index = omega arith }

put_fine : {s : PaletteSet} (p : ℕ) (q : ColorPalette) → SetFine s → SetFine (palette_set s p q)
put_fine {s} p q h = record { bytes = length-sets s.bytes (p % 8 * 8) (palette_bytes q) ∙ h.bytes; index = h.index }

palettes_fine : (cgb : Bool) → PalettesFine (fresh_palettes cgb)
palettes_fine true = record { bg = none_fine; obj = none_fine }
palettes_fine false = let one = put_fine 0 greys none_fine in record { bg = one; obj = put_fine 1 greys one }

pub fresh_fine : (m : Machine) → Fine (fresh_state m)
unfolding fresh_state live every
fresh_fine m =
    record {
      beam = record { even = refl; cycle = omega arith; line = omega arith; x = omega arith; shown = omega arith };
      regs = record { ly = omega arith; bank = omega arith; stat = omega arith };
      mode3 = λ e. absurd (omega arith);
      palettes = palettes_fine (in_colour m);
      selection = record { slots = refl; count = omega arith; indexes = refl };
      pipe =
          record {
            fetcher = record { size = refl; delay = omega arith; colours = refl };
            bg = record { size = refl; len = omega arith; pixels = refl };
            obj = record { size = refl; len = omega arith; pixels = refl };
          };
    }
