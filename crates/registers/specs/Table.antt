-- The table of registers and the rules of a write name the same addresses, each once.
use Rattle.std.specs.Prelude.{ℕ, ◌+◌, ◌≡◌, Bool, true, false, not, cond, ◌&&◌, List, [], ◌∷◌, ◌++◌, eqb, replicate}
use Rattle.logic.specs.Every.{every}
use Rattle.colors.specs.declared.PaletteSet.{PaletteSet}
use Rattle.state.specs.declared.Registers.{Registers}
use Rattle.state.specs.declared.Palettes.{Palettes}
use Rattle.registers.specs.declared.Writable.{Writable}
use Rattle.registers.specs.Registers.{writable, listed_in, listed}
use Rattle.registers.specs.Write.{registers_written, palettes_written}

-- no address stands twice
unfoldable pub distinct : List Writable → Bool
distinct [] = true
distinct (w ∷ rest) = not (listed_in rest w.0) && distinct rest

-- everything that the registers and the palettes hold, added up
unfoldable pub total : List ℕ → ℕ
total [] = 0
total (x ∷ rest) = x + total rest

abbrev pub bit : Bool → ℕ
bit b = cond b 1 0

abbrev pub held_by : PaletteSet → List ℕ
held_by p = p.index ∷ bit p.auto ∷ p.bytes

abbrev pub held : Registers → Palettes → ℕ
held r p =
    total
    ((r.lcdc ∷ r.stat ∷ r.scy ∷ r.scx ∷ r.ly ∷ r.lyc ∷ r.bgp ∷ r.obp0 ∷ r.obp1 ∷ r.wy ∷ r.wx ∷ r.vbk
    ∷ bit r.coord ∷ bit r.cgb ∷ [])
    ++ held_by p.bg ++ held_by p.obj)

-- registers and palettes of 0s
abbrev pub no_registers : Registers
no_registers =
    record {
      lcdc = 0;
      stat = 0;
      scy = 0;
      scx = 0;
      ly = 0;
      lyc = 0;
      bgp = 0;
      obp0 = 0;
      obp1 = 0;
      wy = 0;
      wx = 0;
      vbk = 0;
      coord = false;
      cgb = false;
    }

abbrev pub no_colours : PaletteSet
no_colours = record { bytes = replicate 64 0; index = 0; auto = false }

abbrev pub no_palettes : Palettes
no_palettes = record { bg = no_colours; obj = no_colours }

-- an entry reaches a register: a write of its kept bits is seen
abbrev pub reaches : Writable → Bool
reaches w = not (eqb (held (registers_written no_registers w.0 w.1) (palettes_written no_palettes w.0 w.1)) 0)

-- each address once, each with a register behind it, and no register behind any other address
pub record OneTable : Type 0 where
  pub once : distinct writable ≡ true
  pub reached : every reaches writable ≡ true
  pub registers : (r : Registers) (address v : ℕ) → listed address ≡ false → registers_written r address v ≡ r
  pub palettes : (p : Palettes) (address v : ℕ) → listed address ≡ false → palettes_written p address v ≡ p
