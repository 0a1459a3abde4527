-- `order::every_clause` meets its contract, from what each part's test ensures.
use mathlib.Core.Path.{◌≡◌, refl, ◌∙◌}
use mathlib.Core.Bool.{Bool, true, false, ◌&&◌}
use Rattle.std.proofs.Math.Bool.{and_assoc}
use Rattle.state.specs.declared.State.{State}
use Rattle.order.specs.Order.{registers_order, palettes_order, fetcher_order, bg_order, sprite_order, selection_order, beam_order, mode_order, in_order}
use Rattle.order.proofs.every_clause.Goals.{Joined-fetcher_in_order}
use Rattle.order.proofs.every_clause.Goals.{then-beam_in_order, else-beam_in_order, then-registers_in_order, else-registers_in_order, then-mode_in_order, else-mode_in_order, then-palettes_in_order, else-palettes_in_order, then-selection_in_order, else-selection_in_order, then-fetcher_in_order, else-fetcher_in_order}
use Rattle.order.proofs.every_clause.Goals as goal

-- one part more, after parts that passed and after parts that did not
module _ {v p a : Bool} (e : p ≡ a) where
  passed : {r b : Bool} → v ≡ r → p ≡ true → r ≡ b → v ≡ a && b
  passed f t g = rw (f, g, ← e, t)

  stopped : (b : Bool) → v ≡ false → p ≡ false → v ≡ a && b
  stopped b f t = rw (f, ← e, t)

-- `&&` groups to the left in the code and to the right in the definition
regroup : (b r m p s f g o : Bool) → b && r && m && p && s && f && g && o ≡ b && (r && (m && (p && (s && (f && (g && o))))))
regroup b r m p s f g o = simp and_assoc

grouped : (s : State)
    → beam_order s.beam && registers_order s.regs && mode_order s.regs.stat s.beam.line && palettes_order s.palettes && selection_order s.selection
    && fetcher_order s.pipe.fetcher && bg_order s.pipe.bg && sprite_order s.pipe.obj
    ≡ in_order s
unfolding in_order
grouped s =
    regroup (beam_order s.beam) (registers_order s.regs) (mode_order s.regs.stat s.beam.line) (palettes_order s.palettes) (selection_order s.selection)
    (fetcher_order s.pipe.fetcher) (bg_order s.pipe.bg) (sprite_order s.pipe.obj)

-- the parts but the last
seven : (c : Joined-fetcher_in_order) → let s = c.args.s in
    c.if-fetcher_in_order.value ≡ beam_order s.beam && registers_order s.regs && mode_order s.regs.stat s.beam.line && palettes_order s.palettes
    && selection_order s.selection && fetcher_order s.pipe.fetcher && bg_order s.pipe.bg
seven c =
    let s = c.args.s in
    let v0 : c.if-beam_in_order.value ≡ beam_order s.beam && registers_order s.regs =
    elim c.if-beam_in_order.branch [
      | then-beam_in_order w ↦ passed c.beam_in_order.ensures w.value-is w.if-beam_in_order.true w.registers_in_order.ensures
      | else-beam_in_order w ↦ let none : c.if-beam_in_order.value ≡ false = cc in stopped c.beam_in_order.ensures (registers_order s.regs) none w.if-beam_in_order.false
    ]
    in
    let v1 : c.if-registers_in_order.value ≡ beam_order s.beam && registers_order s.regs && mode_order s.regs.stat s.beam.line =
    elim c.if-registers_in_order.branch [
      | then-registers_in_order w ↦ passed v0 w.value-is w.if-registers_in_order.true w.mode_in_order.ensures
      | else-registers_in_order w ↦ let none : c.if-registers_in_order.value ≡ false = cc in stopped v0 (mode_order s.regs.stat s.beam.line) none w.if-registers_in_order.false
    ]
    in
    let v2 : c.if-mode_in_order.value ≡ beam_order s.beam && registers_order s.regs && mode_order s.regs.stat s.beam.line && palettes_order s.palettes =
    elim c.if-mode_in_order.branch [
      | then-mode_in_order w ↦ passed v1 w.value-is w.if-mode_in_order.true w.palettes_in_order.ensures
      | else-mode_in_order w ↦ let none : c.if-mode_in_order.value ≡ false = cc in stopped v1 (palettes_order s.palettes) none w.if-mode_in_order.false
    ]
    in
    let v3 : c.if-palettes_in_order.value ≡ beam_order s.beam && registers_order s.regs && mode_order s.regs.stat s.beam.line && palettes_order s.palettes && selection_order s.selection =
    elim c.if-palettes_in_order.branch [
      | then-palettes_in_order w ↦ passed v2 w.value-is w.if-palettes_in_order.true w.selection_in_order.ensures
      | else-palettes_in_order w ↦ let none : c.if-palettes_in_order.value ≡ false = cc in stopped v2 (selection_order s.selection) none w.if-palettes_in_order.false
    ]
    in
    let v4 : c.if-selection_in_order.value ≡ beam_order s.beam && registers_order s.regs && mode_order s.regs.stat s.beam.line && palettes_order s.palettes && selection_order s.selection && fetcher_order s.pipe.fetcher =
    elim c.if-selection_in_order.branch [
      | then-selection_in_order w ↦ passed v3 w.value-is w.if-selection_in_order.true w.fetcher_in_order.ensures
      | else-selection_in_order w ↦ let none : c.if-selection_in_order.value ≡ false = cc in stopped v3 (fetcher_order s.pipe.fetcher) none w.if-selection_in_order.false
    ]
    in
    let v5 : c.if-fetcher_in_order.value ≡ beam_order s.beam && registers_order s.regs && mode_order s.regs.stat s.beam.line && palettes_order s.palettes && selection_order s.selection && fetcher_order s.pipe.fetcher && bg_order s.pipe.bg =
    elim c.if-fetcher_in_order.branch [
      | then-fetcher_in_order w ↦ passed v4 w.value-is w.if-fetcher_in_order.true w.bg_in_order.ensures
      | else-fetcher_in_order w ↦ let none : c.if-fetcher_in_order.value ≡ false = cc in stopped v4 (bg_order s.pipe.bg) none w.if-fetcher_in_order.false
    ]
    in
    v5

pub returns-then-bg_in_order : goal.returns-then-bg_in_order
returns-then-bg_in_order c =
    passed (seven (goal.at.returns-then-bg_in_order c).Joined-fetcher_in_order) refl c.if-bg_in_order.true c.sprite_in_order.ensures ∙ grouped c.args.s

pub returns-else-bg_in_order : goal.returns-else-bg_in_order
returns-else-bg_in_order c =
    stopped (seven (goal.at.returns-else-bg_in_order c).Joined-fetcher_in_order) (sprite_order c.args.s.pipe.obj) c.if-bg_in_order.false c.if-bg_in_order.false
    ∙ grouped c.args.s
