-- What the state keeps of a blanking, turn by turn: it is set exactly where the turns have a blanking with no swap behind it.
use mathlib.Core.Path.{◌≡◌, refl, sym, ap, ◌∙◌}
use mathlib.Core.Bool.{Bool, true, false, not, cond, ◌&&◌}
use mathlib.Core.Logic.{◌⊎◌, inl, inr}
use mathlib.Core.List.{List, [], ◌∷◌, ◌++◌}
use Prim.Native.Nat.{ℕ}
use Rattle.logic.proofs.Tests.{clash, isnt}
use Rattle.logic.proofs.Both.{first, second}
use Rattle.hardware.specs.Tables.{Tables}
use Rattle.hardware.specs.declared.Machine.{Machine}
use Rattle.state.specs.declared.Beam.{Beam}
use Rattle.state.specs.declared.State.{State}
use Rattle.memory.specs.Fresh.{fresh_state}
use Rattle.registers.specs.Write.{kept, blanks, blanked_state, value_written, state_written}
use Rattle.beam.specs.Advance.{swaps}
use Rattle.step.specs.Step.{lit, stepped}
use Rattle.step.proofs.Keeps.{settled_same}
use Rattle.history.specs.Run.{World, Deed, steps, writes, colours, stores, nothing, does, swaps_by, blanks_by}
use Rattle.history.specs.Run.{Turn, deed_of, fresh_world, swapped, blanked}
use Rattle.history.specs.Stored.{Trace, go, trace, begun}
use Rattle.history.specs.Demand.{ran, stays_hidden, BlankedIn}
use Rattle.history.proofs.Steps.{stepped_part}
use Rattle.history.proofs.Torn.{blanks_alone}

-- what the state keeps of a blanking, after a turn: a swap forgets it
abbrev pub bit : Trace → Bool
bit t = t.world.state.beam.blanked

stepped_bit : (n : ℕ) (lent : Tables) (s : State) → (stepped n lent s).beam.blanked ≡ cond (lit s && swaps n s.beam) false s.beam.blanked
stepped_bit n lent s =
    stepped_part (λ (b : Beam). b.blanked) (λ k. false) n lent s (λ b. refl) (λ b. refl) (λ b. refl) (settled_same n lent s).blanked

written_bit : (address value : ℕ) (s : State) → (state_written s address (kept address value)).beam.blanked
    ≡ cond (blanks s.regs address (kept address value)) true s.beam.blanked
unfolding state_written
written_bit address value s = by (blanks s.regs address (kept address value))
  where
    u : State
    u = value_written s address (kept address value)

    by : (b : Bool) → (cond b (blanked_state u) u).beam.blanked ≡ cond b true s.beam.blanked
    by true = refl
    by false = refl

does_bit : (d : Deed) (w : World)
    → (does d w).state.beam.blanked ≡ cond (swaps_by d w.state) false (cond (blanks_by d w.state) true w.state.beam.blanked)
does_bit (steps n) w = stepped_bit n w.tables w.state
does_bit (writes address value) w = written_bit address value w.state
does_bit (colours flag) w = refl
does_bit (stores t) w = refl
does_bit nothing w = refl

go_bit : (c : Turn) (t : Trace) → bit (go c t) ≡ cond (swapped c t.world) false (cond (blanked c t.world) true (bit t))
go_bit c t = does_bit (deed_of c t.world) t.world

-- a blanking sets it
pub blank_bit : (c : Turn) (t : Trace) → blanked c t.world ≡ true → bit (go c t) ≡ true
blank_bit c t e = rw (blanks_alone (deed_of c t.world) t.world.state e, e) at (go_bit c t)

-- it stays until a swap
pub hidden_bit : (turns : List Turn) (t : Trace) → bit t ≡ true → stays_hidden turns t ≡ true → bit (trace turns t) ≡ true
unfolding trace stays_hidden
hidden_bit [] t e h = e
hidden_bit (c ∷ rest) t e h =
    let no : swapped c t.world ≡ false = isnt (first (not (swapped c t.world)) _ h) in
    hidden_bit rest (go c t) (go_bit c t ∙ by (swapped c t.world) no (blanked c t.world) (bit t) e)
    (second (not (swapped c t.world)) _ h)
  where
    by : (s : Bool) → s ≡ false → (b k : Bool) → k ≡ true → cond s false (cond b true k) ≡ true
    by s z true k e = rw z refl
    by s z false k e = rw (z, e) refl

trace_append : (l r : List Turn) (t : Trace) → trace (l ++ r) t ≡ trace r (trace l t)
unfolding trace
trace_append [] r t = refl
trace_append (c ∷ l) r t = trace_append l r (go c t)

-- so it is set after a blanking with no swap behind it
behind_bit : (c : Turn) (after : List Turn) (t : Trace) → blanked c t.world ≡ true → stays_hidden after (go c t) ≡ true
    → bit (trace (c ∷ after) t) ≡ true
unfolding trace
behind_bit c after t e h = hidden_bit after (go c t) (blank_bit c t e) h

pub blanked_bit : (turns : List Turn) (t : Trace) → BlankedIn turns t → bit (trace turns t) ≡ true
blanked_bit turns t k =
    rw (k.split, trace_append k.before (k.blanking ∷ k.after) t)
    (behind_bit k.blanking k.after (trace k.before t) k.blanks k.hidden)

-- and where it is set there is one, or it was set before and no swap came
bit_blanked : (turns : List Turn) (t : Trace) → bit (trace turns t) ≡ true
    → ((bit t ≡ true) × (stays_hidden turns t ≡ true)) ⊎ BlankedIn turns t
unfolding trace stays_hidden
bit_blanked [] t e = inl (e, refl)
bit_blanked (c ∷ rest) t e = later (bit_blanked rest (go c t) e)
  where
    here : (s b : Bool) → blanked c t.world ≡ b → cond s false (cond b true (bit t)) ≡ true → stays_hidden rest (go c t) ≡ true
        → ((bit t ≡ true) × (not s && stays_hidden rest (go c t) ≡ true)) ⊎ BlankedIn (c ∷ rest) t
    here true b off e h = absurd (clash refl (sym e))
    here false true off e h = inr (record { before = []; blanking = c; after = rest; split = refl; blanks = off; hidden = h })
    here false false off e h = inl (e, h)

    later : ((bit (go c t) ≡ true) × (stays_hidden rest (go c t) ≡ true)) ⊎ BlankedIn rest (go c t)
        → ((bit t ≡ true) × (not (swapped c t.world) && stays_hidden rest (go c t) ≡ true)) ⊎ BlankedIn (c ∷ rest) t
    later (inl k) = here (swapped c t.world) (blanked c t.world) refl (sym (go_bit c t) ∙ k.0) k.1
    later (inr k) =
        inr (record {
          before = c ∷ k.before;
          blanking = k.blanking;
          after = k.after;
          split = ap (λ (l : List Turn). c ∷ l) k.split;
          blanks = k.blanks;
          hidden = k.hidden;
        })

-- from a start, which is no blanking
start_bit : (machine : Machine) → bit (begun (fresh_world machine)) ≡ false
unfolding fresh_state
start_bit machine = refl

pub ran_bit : (machine : Machine) (turns : List Turn) → bit (ran machine turns) ≡ true → BlankedIn turns (begun (fresh_world machine))
ran_bit machine turns e = by (bit_blanked turns (begun (fresh_world machine)) e)
  where
    by : ((bit (begun (fresh_world machine)) ≡ true) × (stays_hidden turns (begun (fresh_world machine)) ≡ true)) ⊎ BlankedIn turns (begun (fresh_world machine))
        → BlankedIn turns (begun (fresh_world machine))
    by (inl k) = absurd (clash k.0 (start_bit machine))
    by (inr k) = k
