-- The table of registers: `OneTable` of specs/Table; and an address is listed exactly if bits of a write to it are kept.
use Prim.Native.Nat.{ℕ}
use mathlib.Core.Path.{◌≡◌, refl, sym}
use mathlib.Core.Bool.{Bool, true, false, true≢false, not, cond, ◌||◌}
use mathlib.Core.List.{List, [], ◌∷◌}
use borrow.Author.Tests.{eqb-false, ne_eqb}
use lib.Dec.{eqb}
use Rattle.logic.specs.Every.{every}
use Rattle.logic.proofs.Both.{first, second}
use Rattle.state.specs.declared.Registers.{Registers}
use Rattle.state.specs.declared.Palettes.{Palettes}
use Rattle.registers.specs.declared.Writable.{Writable}
use Rattle.registers.specs.Registers.{writable, kept_in, kept_bits, listed_in, listed}
use Rattle.registers.specs.Write.{registers_written, port_written, palettes_written}
use Rattle.registers.specs.Table.{distinct, total, OneTable}

-- an entry keeps some bits
abbrev keeps : Writable → Bool
keeps w = not (eqb w.1 0)

-- in a table whose entries all keep bits
listed_in_law : (l : List Writable) (address : ℕ) → every keeps l ≡ true → listed_in l address ≡ not (eqb (kept_in l address) 0)
unfolding every listed_in kept_in
listed_in_law [] address e = refl
listed_in_law (w ∷ rest) address e = by (eqb w.0 address) (first (keeps w) _ e) (listed_in_law rest address (second (keeps w) _ e))
  where
    by : (b : Bool) → keeps w ≡ true → listed_in rest address ≡ not (eqb (kept_in rest address) 0)
        → (b || listed_in rest address) ≡ not (eqb (cond b w.1 (kept_in rest address)) 0)
    by true k h = sym k
    by false k h = h

pub listed_kept : (address : ℕ) → listed address ≡ not (eqb (kept_bits address) 0)
unfolding every writable
listed_kept address = listed_in_law writable address refl

-- an address that is none of a table is not its first, nor among the others
record Misses (k address : ℕ) (rest : Bool) : Type 0 where
  here : eqb address k ≡ false
  later : rest ≡ false

misses : (k address : ℕ) (rest : Bool) → (eqb k address || rest) ≡ false → Misses k address rest
misses k address rest = by (eqb k address) refl
  where
    by : (b : Bool) → eqb k address ≡ b → (b || rest) ≡ false → Misses k address rest
    by true e z = absurd (true≢false z)
    by false e z = record { here = ne_eqb address k (λ q. eqb-false k address e (sym q)); later = z }

-- an address outside the table meets none of the tests of a write
record Outside (address : ℕ) : Type 0 where
  lcdc : eqb address 0xFF40 ≡ false
  stat : eqb address 0xFF41 ≡ false
  scy : eqb address 0xFF42 ≡ false
  scx : eqb address 0xFF43 ≡ false
  lyc : eqb address 0xFF45 ≡ false
  bgp : eqb address 0xFF47 ≡ false
  obp0 : eqb address 0xFF48 ≡ false
  obp1 : eqb address 0xFF49 ≡ false
  wy : eqb address 0xFF4A ≡ false
  wx : eqb address 0xFF4B ≡ false
  vbk : eqb address 0xFF4F ≡ false
  bcps : eqb address 0xFF68 ≡ false
  bcpd : eqb address 0xFF69 ≡ false
  ocps : eqb address 0xFF6A ≡ false
  ocpd : eqb address 0xFF6B ≡ false
  opri : eqb address 0xFF6C ≡ false

outside : (address : ℕ) → listed address ≡ false → Outside address
unfolding writable listed_in
outside address e =
    let m0 = misses 0xFF40 address _ e in
    let m1 = misses 0xFF41 address _ m0.later in
    let m2 = misses 0xFF42 address _ m1.later in
    let m3 = misses 0xFF43 address _ m2.later in
    let m4 = misses 0xFF45 address _ m3.later in
    let m5 = misses 0xFF47 address _ m4.later in
    let m6 = misses 0xFF48 address _ m5.later in
    let m7 = misses 0xFF49 address _ m6.later in
    let m8 = misses 0xFF4A address _ m7.later in
    let m9 = misses 0xFF4B address _ m8.later in
    let mA = misses 0xFF4F address _ m9.later in
    let mB = misses 0xFF68 address _ mA.later in
    let mC = misses 0xFF69 address _ mB.later in
    let mD = misses 0xFF6A address _ mC.later in
    let mE = misses 0xFF6B address _ mD.later in
    let mF = misses 0xFF6C address _ mE.later in
    record {
      lcdc = m0.here;
      stat = m1.here;
      scy = m2.here;
      scx = m3.here;
      lyc = m4.here;
      bgp = m5.here;
      obp0 = m6.here;
      obp1 = m7.here;
      wy = m8.here;
      wx = m9.here;
      vbk = mA.here;
      bcps = mB.here;
      bcpd = mC.here;
      ocps = mD.here;
      ocpd = mE.here;
      opri = mF.here;
    }

registers_stay : (r : Registers) (address v : ℕ) → listed address ≡ false → registers_written r address v ≡ r
unfolding registers_written
registers_stay r address v e =
    let o = outside address e in
    rw (o.lcdc, o.stat, o.scy, o.scx, o.lyc, o.bgp, o.obp0, o.obp1, o.wy, o.wx, o.vbk, o.opri) refl

palettes_stay : (p : Palettes) (address v : ℕ) → listed address ≡ false → palettes_written p address v ≡ p
unfolding port_written
palettes_stay p address v e = let o = outside address e in rw (o.bcps, o.bcpd, o.ocps, o.ocpd) refl

pub one_table : OneTable
unfolding writable listed_in distinct every total registers_written port_written
one_table = record { once = refl; reached = refl; registers = registers_stay; palettes = palettes_stay }
