-- What holds after any calls from a start: order, sizes, the count, and where the beam stands.
use mathlib.Core.Path.{◌≡◌, refl, sym, ap, subst, ◌∙◌}
use mathlib.Core.Bool.{Bool, true, false, true≢false, not, cond, ◌&&◌, ◌||◌, or-false}
use mathlib.Core.List.{List, [], ◌∷◌, ◌++◌, append-nil, map-append}
use Prim.Native.Nat.{ℕ, ◌+◌, ◌≤◌, ◌<◌}
use native.Mathlib.Omega.{arith}
use borrow.Author.Tests.{eqb-true}
use lib.Dec.{eqb}
use lib.ListN.{length, length-append, length-map}
use Rattle.logic.proofs.Tests.{isnt}
use Rattle.logic.proofs.Both.{first, second}
use Rattle.hardware.specs.Tables.{Tables}
use Rattle.hardware.specs.Screen.{height, place, places, line_cycles}
use Rattle.state.specs.With.{mode_of}
use Rattle.hardware.specs.declared.Machine.{Machine}
use Rattle.state.specs.declared.State.{State}
use Rattle.memory.specs.Fresh.{fresh_state}
use Rattle.registers.specs.Write.{kept, blanks, blanked_state, value_written, state_written}
use Rattle.order.specs.Fine.{Fine}
use Rattle.beam.specs.Advance.{swaps, advanced}
use Rattle.step.specs.Step.{lit, working, settled, stepped, shots_of}
use Rattle.step.proofs.Keeps.{settled_fine, settled_same}
use Rattle.history.specs.Run.{World, Turn, Deed, steps, writes, colours, stores, nothing, does, shots_by, swaps_by, blanks_by}
use Rattle.history.specs.Run.{deed_of, fresh_world, swapped, blanked}
use Rattle.history.specs.Stored.{Stored, stored_by, Trace, go, trace, begun, numbers}
use Rattle.history.specs.Demand.{AtOrigin, stays_on, stays_hidden, ran, EveryRun}
use Rattle.history.proofs.Rising.{Rising, none, rising_zero, rising_most}
use Rattle.history.proofs.Places.{stored_none}
use Rattle.history.proofs.Deeds.{Lawful, lawful}
use Rattle.history.proofs.Kept.{WorldSized, fresh_sized, sized_kept}
use Rattle.memory.proofs.Fine.{fresh_fine}
use Rattle.registers.proofs.Fine.{mode_written, write_fine, colour_fine}
use Rattle.history.proofs.Phase.{Base, start_base, swap_base, blank_base, Entry, at0, first', Phase, PhaseOf, MidOf, mid_rising, phase_rising}
use Rattle.terms.proofs.Pace.{Pace}
use Rattle.history.proofs.Steps.{stepped_fine, mid_ends, advanced_count, advanced_origin, settled_count, settled_swaps, step_mid, step_phase}

-- of the state and the places stored since
pub record Stands (base : Base) (s : State) (since : List Stored) : Type 0 where
  pub count : s.beam.count ≡ length since
  pub phase : PhaseOf base s (numbers since)
  pub origin : s.beam.line ≡ 0 → s.beam.cycle ≡ 0 → (base.full ≡ true) × (since ≡ [])

-- of a run
pub record Inv (base : Base) (t : Trace) : Type 0 where
  pub fine : Fine t.world.state
  pub sizes : WorldSized t.world
  pub stands : Stands base t.world.state t.since

-- what a run is counted from after a turn
abbrev pub base_after : Turn → World → Base → Base
base_after c w base = cond (swapped c w) swap_base (cond (blanked c w) (blank_base w.state.beam.x) base)

-- a write: a blanking forgets
write_stands : {base : Base} {s : State} {l : List Stored} (address value : ℕ) → Stands base s l
    → Stands (cond (blanks s.regs address (kept address value)) (blank_base s.beam.x) base) (state_written s address (kept address value))
    (cond (blanks s.regs address (kept address value)) [] l)
unfolding state_written
write_stands {base} {s} {l} address value i = by (blanks s.regs address (kept address value))
  where
    u : State
    u = value_written s address (kept address value)

    -- line 0 is entered with LCD x as it stands
    entry : (b : Bool) → eqb s.beam.x 0 ≡ b → Entry (blank_base s.beam.x) 0 s.beam.x s.pipe
    entry true e = at0 (eqb-true s.beam.x 0 e)
    entry false e = first' e refl

    by : (b : Bool) → Stands (cond b (blank_base s.beam.x) base) (cond b (blanked_state u) u) (cond b [] l)
    by true =
        let z : s.beam.x ≤ place s.beam.x 0 = omega arith in
        record {
          count = refl;
          phase =
              Phase.before (λ k. absurd (omega arith)) (omega arith) (omega arith) (entry (eqb s.beam.x 0) refl)
              (record { rises = none z; fills = λ e. omega (arith, eqb-true s.beam.x 0 e) });
          origin = λ line cycle. absurd (omega arith);
        }
    by false = record { count = i.count; phase = rw (mode_written s.regs address value) i.phase; origin = i.origin }

-- the fresh state
fresh_stands : (machine : Machine) → Stands start_base (fresh_state machine) []
unfolding fresh_state
fresh_stands machine =
    let z : 0 ≤ places = omega arith in
    record {
      count = refl;
      phase = Phase.rest (λ m. absurd (omega arith)) (omega arith) refl (record { rises = none z; fills = λ e. absurd (true≢false (sym e)) });
      origin = λ line. absurd (omega arith);
    }

module _ {base : Base} (n : ℕ) (lent : Tables) {s : State} {l : List Stored} (f : Fine s) (i : Stands base s l) where
  low : s.beam.count < 65536
  low = let k = rising_most (rising_zero (phase_rising f.beam.x i.phase)) in omega (arith, i.count, length-map l (λ (t : Stored). t.place))

  -- a step, before the cycle advances: the places, their number, and the phase
  module _ (pace : Pace s.beam.cycle n) where
    pub lit_mid : MidOf base n (settled n lent s) (numbers (l ++ stored_by (working n lent s).shots))
    lit_mid = rw (map-append (λ (t : Stored). t.place) l (stored_by (working n lent s).shots)) (step_mid n lent s f low pace i.phase)

    pub lit_rising : Rising base.low places (numbers (l ++ stored_by (working n lent s).shots))
    lit_rising = mid_rising (settled_fine n lent s f).beam.x lit_mid

    pub lit_count : (settled n lent s).beam.count ≡ length (l ++ stored_by (working n lent s).shots)
    lit_count =
        let k = rising_most (rising_zero lit_rising) in
        let e = settled_count n lent s f low in
        omega (arith, i.count, length-append l (stored_by (working n lent s).shots), length-map (l ++ stored_by (working n lent s).shots) (λ (t : Stored). t.place))

    -- a lit step
    lit_stands : Stands (cond (swaps n s.beam) swap_base base) (advanced n (settled n lent s)) (cond (swaps n s.beam) [] (l ++ stored_by (working n lent s).shots))
    lit_stands =
        record {
          count = counted (swaps n s.beam) refl;
          phase = phased (swaps n s.beam) (rw (map-append (λ (t : Stored). t.place) l (stored_by (working n lent s).shots)) (step_phase n lent s f low pace i.phase));
          origin = λ line cycle.
              let e = sym (settled_swaps n lent s) ∙ advanced_origin n (settled n lent s) pace.some line cycle in
              (ap (λ (b : Bool). (cond b swap_base base).full) e, ap (λ (b : Bool). cond b [] (l ++ stored_by (working n lent s).shots)) e);
        }
      where
        counted : (b : Bool) → swaps n s.beam ≡ b
            → (advanced n (settled n lent s)).beam.count ≡ length (cond b [] (l ++ stored_by (working n lent s).shots))
        counted true e = advanced_count n (settled n lent s) ∙ ap (λ (b : Bool). cond b 0 (settled n lent s).beam.count) (settled_swaps n lent s ∙ e)
        counted false e = advanced_count n (settled n lent s) ∙ ap (λ (b : Bool). cond b 0 (settled n lent s).beam.count) (settled_swaps n lent s ∙ e) ∙ lit_count

        phased : (b : Bool) → PhaseOf (cond b swap_base base) (advanced n (settled n lent s)) (cond b [] (numbers (l ++ stored_by (working n lent s).shots)))
            → PhaseOf (cond b swap_base base) (advanced n (settled n lent s)) (numbers (cond b [] (l ++ stored_by (working n lent s).shots)))
        phased true p = p
        phased false p = p

    -- any step
    step_stands : Stands (cond (lit s && swaps n s.beam) swap_base base) (stepped n lent s) (cond (lit s && swaps n s.beam) [] (l ++ stored_by (shots_of n lent s)))
    unfolding stepped shots_of
    step_stands = by (lit s)
      where
        by : (b : Bool) → Stands (cond (b && swaps n s.beam) swap_base base) (cond b (advanced n (settled n lent s)) s)
            (cond (b && swaps n s.beam) [] (l ++ stored_by (cond b (working n lent s).shots [])))
        by true = lit_stands
        by false = rw (stored_none, append-nil l) i

    -- no step carries mode 3 out of line 143
    step_ends : s.beam.line + 1 ≡ height → s.beam.cycle + n ≡ line_cycles → mode_of (settled n lent s).regs.stat ≡ 3 → ⊥
    step_ends line e =
        let same = settled_same n lent s in
        mid_ends (settled_fine n lent s f) lit_mid (omega (arith, same.line)) (omega (arith, same.cycle))

-- what a deed leaves
module _ {base : Base} (w : World) {l : List Stored} (f : Fine w.state) (i : Stands base w.state l) where
  does_fine : (d : Deed) → Lawful d w.state → Fine (does d w).state
  does_fine (steps n) pace =
      stepped_fine n w.tables w.state pace f (step_ends n w.tables f i pace)
  does_fine (writes address value) o = write_fine address value f
  does_fine (colours flag) o = colour_fine flag f
  does_fine (stores t) o = f
  does_fine nothing o = f

  does_stands : (d : Deed) → Lawful d w.state
      → Stands (cond (swaps_by d w.state) swap_base (cond (blanks_by d w.state) (blank_base w.state.beam.x) base)) (does d w).state
      (cond (swaps_by d w.state || blanks_by d w.state) [] (l ++ stored_by (shots_by d w.state w.tables)))
  does_stands (steps n) pace = rw or-false (step_stands n w.tables f i pace)
  does_stands (writes address value) o = rw (stored_none, append-nil l) (write_stands address value i)
  does_stands (colours flag) o = rw (stored_none, append-nil l) (record { count = i.count; phase = i.phase; origin = i.origin })
  does_stands (stores t) o = rw (stored_none, append-nil l) i
  does_stands nothing o = rw (stored_none, append-nil l) i

-- any turn, accepted or refused
pub go_inv : (c : Turn) {base : Base} {t : Trace} → Inv base t → Inv (base_after c t.world base) (go c t)
go_inv c {t = t} i =
    let w = t.world in
    let known = lawful w i.sizes.tables i.fine c in
    record {
      fine = does_fine w i.fine i.stands (deed_of c w) known;
      sizes = sized_kept c w i.fine i.sizes;
      stands = does_stands w i.fine i.stands (deed_of c w) known;
    }

pub begun_inv : (machine : Machine) → Inv start_base (begun (fresh_world machine))
begun_inv machine = record { fine = fresh_fine machine; sizes = fresh_sized machine; stands = fresh_stands machine }

-- what a run is counted from after turns
unfoldable pub base_at : List Turn → Trace → Base → Base
base_at [] t base = base
base_at (c ∷ rest) t base = base_at rest (go c t) (base_after c t.world base)

pub trace_inv : (turns : List Turn) {base : Base} {t : Trace} → Inv base t → Inv (base_at turns t base) (trace turns t)
unfolding trace base_at
trace_inv [] i = i
trace_inv (c ∷ rest) {base} {t} i = trace_inv rest (go_inv c i)

-- what holds of a run from a start, and what follows from it
pub ran_inv : (machine : Machine) (turns : List Turn) → Inv (base_at turns (begun (fresh_world machine)) start_base) (ran machine turns)
ran_inv machine turns = trace_inv turns (begun_inv machine)

pub of_runs : (P : Trace → Type 0) → ((base : Base) (t : Trace) → Inv base t → P t) → EveryRun P
of_runs P f machine before = f _ _ (ran_inv machine before)

-- of a run that is counted from a full base: it goes on full while the display stays on
pub record Full (t : Trace) : Type 0 where
  pub base : Base
  pub inv : Inv base t
  pub full : base.full ≡ true

module _ {t : Trace} where
  pub origin_full : {base : Base} → Inv base t → AtOrigin t.world → Full t
  origin_full {base} i o = record { base = base; inv = i; full = (i.stands.origin o.line o.cycle).0 }

  full_on : (c : Turn) → Full t → blanked c t.world ≡ false → Full (go c t)
  full_on c k off =
      record {
        base = base_after c t.world k.base;
        inv = go_inv c k.inv;
        full = rw off (by (swapped c t.world));
      }
    where
      by : (b : Bool) → (cond b swap_base k.base).full ≡ true
      by true = refl
      by false = k.full

pub on_full : (turns : List Turn) {t : Trace} → Full t → stays_on turns t ≡ true → Full (trace turns t)
unfolding trace stays_on
on_full [] k e = k
on_full (c ∷ rest) {t} k e =
    let off : blanked c t.world ≡ false = isnt (first (not (blanked c t.world)) _ e) in
    on_full rest (full_on c k off) (second (not (blanked c t.world)) _ e)

-- and one that neither blanks nor swaps is counted from the same
pub on_same : (turns : List Turn) {base : Base} {t : Trace} → Inv base t → stays_on turns t ≡ true → stays_hidden turns t ≡ true
    → Inv base (trace turns t)
unfolding trace stays_on stays_hidden
on_same [] i e h = i
on_same (c ∷ rest) {base} {t} i e h =
    let w = t.world in
    let off : blanked c w ≡ false = isnt (first (not (blanked c w)) _ e) in
    let no : swapped c w ≡ false = isnt (first (not (swapped c w)) _ h) in
    let next : Inv base (go c t) = (subst (λ (b : Base). Inv b (go c t)) (rw (no, off) refl) (go_inv c i)) in
    on_same rest next (second (not (blanked c w)) _ e) (second (not (swapped c w)) _ h)
