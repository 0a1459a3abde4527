-- The clauses of a state in order, each as a fact, and back.
use mathlib.Core.Path.{◌≡◌, refl}
use mathlib.Core.Bool.{Bool, true, false, not, ◌||◌}
use Prim.Native.Nat.{ℕ, ◌%◌, ◌<◌}
use borrow.Author.Tests.{eqb-true, ltb-true, leb-true, eq-eqb, lt-ltb, le-leb}
use lib.Dec.{eqb, ltb}
use Rattle.logic.proofs.Both.{both, split}
use Rattle.hardware.specs.Screen.{height}
use Rattle.state.specs.With.{mode_of}
use Rattle.state.specs.Shape.{Shaped}
use Rattle.state.specs.declared.State.{State}
use Rattle.order.specs.Order.{mode_order, in_order}
use Rattle.order.specs.Fine.{Fine}

-- the mode's clause: what follows if it is 3
module _ (stat line : ℕ) where
  mode_clause : mode_order stat line ≡ true → mode_of stat ≡ 3 → line < height
  mode_clause e three = ltb-true line height (rw (eq-eqb _ _ three) at e)

  clause_mode : (mode_of stat ≡ 3 → line < height) → mode_order stat line ≡ true
  clause_mode f = go (eqb (stat % 4) 3) (λ t. lt-ltb line height (f (eqb-true (stat % 4) 3 t)))
    where
      go : (v : Bool) → (v ≡ true → ltb line height ≡ true) → not v || ltb line height ≡ true
      go true g = g refl
      go false g = refl

-- a state of its sizes that passes the test is in order, group by group
pub fine : {s : State} → Shaped s → in_order s ≡ true → Fine s
unfolding in_order
fine h e =
    let beam = split _ _ e in
    let regs = split _ _ beam.1 in
    let mode = split _ _ regs.1 in
    let palettes = split _ _ mode.1 in
    let selection = split _ _ palettes.1 in
    let fetcher = split _ _ selection.1 in
    let queues = split _ _ fetcher.1 in
    let cycle = split _ _ beam.0 in
    let below = split _ _ cycle.1 in
    let line = split _ _ below.1 in
    let x = split _ _ line.1 in
    let ly = split _ _ regs.0 in
    let bank = split _ _ ly.1 in
    let index = split _ _ palettes.0 in
    let slots = split _ _ selection.0 in
    let row = split _ _ fetcher.0 in
    let bg = split _ _ queues.0 in
    let obj = split _ _ queues.1 in
    record {
      beam =
          record {
            even = eqb-true _ _ cycle.0;
            cycle = ltb-true _ _ below.0;
            line = ltb-true _ _ line.0;
            x = ltb-true _ _ x.0;
            shown = leb-true _ _ x.1;
          };
      regs = record { ly = ltb-true _ _ ly.0; bank = leb-true _ _ bank.0; stat = ltb-true _ _ bank.1 };
      mode3 = mode_clause _ _ mode.0;
      palettes =
          record {
            bg = record { bytes = h.bg_bytes; index = leb-true _ _ index.0 };
            obj = record { bytes = h.obj_bytes; index = leb-true _ _ index.1 };
          };
      selection = record { slots = h.slots; count = leb-true _ _ slots.0; indexes = slots.1 };
      pipe =
          record {
            fetcher = record { size = h.row; delay = leb-true _ _ row.0; colours = row.1 };
            bg = record { size = h.bg; len = leb-true _ _ bg.0; pixels = bg.1 };
            obj = record { size = h.obj; len = leb-true _ _ obj.0; pixels = obj.1 };
          };
    }

-- and passes it
pub ordered : {s : State} → Fine s → in_order s ≡ true
unfolding in_order
ordered {s} f =
    let b = f.beam in
    let r = f.regs in
    let l = f.selection in
    let p = f.pipe in
    both
    (both (eq-eqb _ _ b.even) (both (lt-ltb _ _ b.cycle) (both (lt-ltb _ _ b.line) (both (lt-ltb _ _ b.x) (le-leb _ _ b.shown)))))
    (both (both (lt-ltb _ _ r.ly) (both (le-leb _ _ r.bank) (lt-ltb _ _ r.stat)))
    (both (clause_mode s.regs.stat s.beam.line f.mode3)
    (both (both (le-leb _ _ f.palettes.bg.index) (le-leb _ _ f.palettes.obj.index))
    (both (both (le-leb _ _ l.count) l.indexes)
    (both (both (le-leb _ _ p.fetcher.delay) p.fetcher.colours)
    (both (both (le-leb _ _ p.bg.len) p.bg.pixels) (both (le-leb _ _ p.obj.len) p.obj.pixels)))))))
