-- `burst::draw_all` meets its contract. The loop's invariant: what is left of the run goes on from the state and the picture reached.
use mathlib.Core.Path.{◌≡◌, refl, sym, ap, ◌∙◌}
use mathlib.Core.Bool.{Bool, true, false, not}
use mathlib.Core.List.{List}
use denote.Enum.Bare.{sameb}
use borrow.Author.Tests.{eqb-true, not-false}
use Rattle.std.proofs.Common.{nat_eq, eq-eqb}
use Rattle.hardware.specs.Modes.{mode_number}
use Rattle.hardware.specs.contracts.Mode.{the_type}
use Rattle.hardware.specs.declared.Mode.{Mode}
use Rattle.hardware.specs.declared.Mode.TheVariants.{HBlank, VBlank, Search, Draw}
use Prim.Native.Nat.{ℕ, suc, ◌+◌, ◌-◌, ◌≤◌, ◌<◌}
use native.Mathlib.Omega.{arith}
use Rattle.state.specs.With.{mode_of, with_pipe}
use Rattle.state.specs.declared.State.{State}
use Rattle.pipe.specs.Window.{opened}
use Rattle.draw.specs.Draw.{drawn}
use Rattle.draw.specs.Halves.{prepared}
use Rattle.draw.proofs.Fine.{drawn_fine}
use Rattle.draw.proofs.Halves.{halves_drawn, delay_left, prepared_none, prepared_fine}
use Rattle.burst.specs.Burst.{Burst, burst, shot_stored, all_stored, Drew}
use Rattle.burst.proofs.Ways.{drawn_on_screen, shot_length, burst_in, burst_out, burst_none}
use Rattle.burst.proofs.draw_all.Invariants.{Underway}
use Rattle.burst.proofs.draw_all.Goals.{Joined-does_join, then-does_join, else-does_join}
use Rattle.burst.proofs.draw_all.Goals as goal

module _ {n : ℕ} {vram : List ℕ} {s₀ s : State} {p₀ p : List ℕ} {k : ℕ} where
  -- one draw more
  under_more : k < n → mode_of s.regs.stat ≡ 3 → Underway n vram s₀ p₀ k s p
      → Underway n vram s₀ p₀ (k + 1) (drawn vram s).state (shot_stored p (drawn vram s).shot)
  unfolding all_stored
  under_more h m l =
      let e : n - k ≡ suc (n - (k + 1)) = omega arith in
      let b = ap (λ (j : ℕ). burst j vram s) e ∙ burst_in (n - (k + 1)) vram s m in
      record {
        within = omega arith;
        fine = drawn_fine (opened s.regs s.beam.line) vram s l.fine;
        size = shot_length p (drawn vram s).shot ∙ l.size;
        state = l.state ∙ ap (λ (z : Burst). z.state) b;
        picture = l.picture ∙ ap (λ (z : Burst). all_stored p z.shots) b;
      }

  -- mode 3 is over
  under_out : (mode_of s.regs.stat ≡ 3 → ⊥) → Underway n vram s₀ p₀ k s p → Drew n vram s₀ p₀ s p
  unfolding all_stored
  under_out m l =
      let b = burst_out (n - k) vram s m in
      record { state = sym (l.state ∙ ap (λ (z : Burst). z.state) b); picture = sym (l.picture ∙ ap (λ (z : Burst). all_stored p z.shots) b) }

  -- the cycles are through
  under_end : n ≤ k → Underway n vram s₀ p₀ k s p → Drew n vram s₀ p₀ s p
  unfolding all_stored
  under_end h l =
      let z : n - k ≡ 0 = omega arith in
      let b = ap (λ (j : ℕ). burst j vram s) z ∙ burst_none vram s in
      record { state = sym (l.state ∙ ap (λ (y : Burst). y.state) b); picture = sym (l.picture ∙ ap (λ (y : Burst). all_stored p y.shots) b) }

-- the state whose pipe is ready
abbrev ready_state : List ℕ → State → State
ready_state vram s = with_pipe s (prepared vram s)

-- either way the pipe is ready
made : (c : Joined-does_join)
    → c.if-does_join.state
    ≡ ready_state c.args.vram.now c.loop.state
made c =
    let v = c.args.vram.now in
    let s = c.loop.state in
    elim c.if-does_join.branch [
      | then-does_join w ↦ w.state-is ∙ ap (with_pipe s) w.prepare-state.ensures
      | else-does_join w ↦
          w.state-is ∙ ap (with_pipe s) (w.wait-state.ensures ∙ sym (prepared_none v s (sym c.does_join.ensures ∙ w.if-does_join.false)))
    ]

-- what the test of the mode says of its number
drawing : (m : Mode) → nat_eq (mode_number m) 3 ≡ sameb the_type m Draw
drawing HBlank = refl
drawing VBlank = refl
drawing Search = refl
drawing Draw = refl

module _ (m : Mode) {n : ℕ} {b : Bool} (other : b ≡ not (sameb the_type m Draw)) (number : mode_number m ≡ n) where
  is_other : b ≡ true → n ≡ 3 → ⊥
  is_other t e = let d = drawing m in let a = eq-eqb (mode_number m) 3 (number ∙ e) in cc

  is_draw : b ≡ false → n ≡ 3
  is_draw f = sym number ∙ eqb-true (mode_number m) 3 (drawing m ∙ not-false _ (sym other ∙ f))

pub returns-then-ne : goal.returns-then-ne
returns-then-ne c = under_out (is_other _ c.ne.ensures c.of.ensures c.if-ne.true) c.loop.invariant

pub wait-state-requires : goal.wait-state-requires
wait-state-requires c =
    let left = delay_left c.args.vram.now c.loop.state (sym c.does_join.ensures ∙ c.if-does_join.false) in
    omega (arith, left)

pub draw-drawn-requires : goal.draw-drawn-requires
draw-drawn-requires c =
    let f = c.loop.invariant.fine in
    rw (made (goal.at.draw-drawn-requires c).Joined-does_join) (f.beam.x, prepared_fine c.args.vram.now c.loop.state f.selection f.pipe)

pub store_shot-requires : goal.store_shot-requires
store_shot-requires c =
    let l = c.loop in
    (l.invariant.size, rw (c.draw-drawn.ensures, made (goal.at.store_shot-requires c).Joined-does_join, halves_drawn) (drawn_on_screen _ l.state l.invariant.fine (is_draw _ c.ne.ensures c.of.ensures c.if-ne.false)))

pub loop-preserved : goal.loop-preserved
loop-preserved c =
    let l = c.loop in
    rw (c.store_shot.ensures, c.draw-drawn.ensures, made (goal.at.loop-preserved c).Joined-does_join, halves_drawn)
    (under_more c.loop-test.true (is_draw _ c.ne.ensures c.of.ensures c.if-ne.false) l.invariant)

pub returns : goal.returns
returns c = under_end c.loop-test.false c.loop.invariant
