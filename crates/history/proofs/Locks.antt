-- The statements of specs/Locks: a locked write is the unlocked one or none, by the state alone.
use mathlib.Core.Path.{◌≡◌, refl, sym}
use mathlib.Core.Bool.{Bool, true, false, not, cond, ◌&&◌, ◌||◌}
use mathlib.Core.List.{[], ◌++◌, append-nil}
use Prim.Native.Nat.{ℕ}
use borrow.Author.Tests.{ne_eqb}
use Rattle.logic.proofs.Tests.{clash}
use Rattle.refusals.specs.Ladder.{done}
use Rattle.refusals.proofs.Ladder.{lowest_none}
use Rattle.hardware.specs.Tables.{Tables, vram_fits, oam_fits}
use Rattle.state.specs.declared.State.{State}
use Rattle.order.specs.Order.{in_order}
use Rattle.order.proofs.Clauses.{ordered}
use Rattle.locks.specs.Closed.{closed}
use Rattle.locks.specs.declared.Memory.{Memory}
use Rattle.locks.specs.declared.Memory.TheVariants.{Vram, Oam}
use Rattle.history.specs.Run as run
use Rattle.history.specs.Run.{World, Call, locked_vram, locked_oam, read_vram, read_oam, number}
use Rattle.history.specs.Run.{Deed, nothing, deed, does, shots_by, swaps_by, blanks_by}
use Rattle.history.specs.Stored.{stored_by, Trace}
use Rattle.history.specs.Locks.{InRun, OldOrNone, LocksHold}
use Rattle.history.proofs.Places.{stored_none}
use Rattle.history.proofs.Public.{idle, rests}
use Rattle.history.proofs.Phase.{Base}
use Rattle.history.proofs.Invariant.{Inv, of_runs}

-- a run after a deed
abbrev goes : Deed → Trace → Trace
goes d t =
    let w = t.world in
    record {
      world = does d w;
      since = cond (swaps_by d w.state || blanks_by d w.state) [] (t.since ++ stored_by (shots_by d w.state w.tables));
    }

still : (t : Trace) → goes nothing t ≡ t
still t =
    let e : t.since ++ stored_by [] ≡ t.since = (rw (stored_none, append-nil t.since) refl) in
    λ i. record { world = t.world; since = e i }

-- the deed of a locked write, where it has the number of the old one
through_lock : (shut : Bool) {n m : ℕ} (d : Deed) (t : Trace) → n ≡ m
    → goes (cond (done n) (cond shut nothing d) nothing) t ≡ cond shut t (goes (cond (done m) d nothing) t)
through_lock true {n} d t e = by (done n)
  where
    by : (v : Bool) → goes (cond v nothing nothing) t ≡ t
    by true = still t
    by false = still t
through_lock false d t e = rw e refl

-- and on any world: where the state is out of order it is refused
let_through : (fit shut : Bool) {n m : ℕ} (d : Deed) (w : World) → (fit ≡ true → n ≡ m) → (n ≡ 0 → fit ≡ true)
    → does (cond (done n) (cond shut nothing d) nothing) w ≡ cond (fit && not shut) (does (cond (done m) d nothing) w) w
let_through true shut {n} {m} d w e o = on shut
  where
    on : (b : Bool) → does (cond (done n) (cond b nothing d) nothing) w ≡ cond (not b) (does (cond (done m) d nothing) w) w
    on true = sym (idle (done n) w)
    on false = rw (e refl) refl
let_through false shut {n} d w e o = rw (ne_eqb n 0 (λ z. clash (o z) refl)) refl

-- a locked write: the deed is the old one's unless the memory is closed; the number is the old one's where the state is in order, and not
-- 0 where it is not
module _ (memory : Memory) (locked old : Call)
    (d : (s : State) (t : Tables) → deed locked s t ≡ cond (closed memory s) nothing (deed old s t))
    (n : (w : World) → in_order w.state ≡ true → number locked w ≡ number old w)
    (o : (w : World) → number locked w ≡ 0 → in_order w.state ≡ true) where
  in_run : {base : Base} {t : Trace} → Inv base t → InRun memory locked old t
  in_run {t = t} i =
      let w = t.world in
      let e = n w (ordered i.fine) in
      record { number = e; goes = rw (d w.state w.tables) (through_lock (closed memory w.state) (deed old w.state w.tables) t e) }

  old_or_none : OldOrNone memory locked old
  old_or_none =
      record {
        performs = λ w.
            rw (d w.state w.tables)
            (let_through (in_order w.state) (closed memory w.state) (deed old w.state w.tables) w (n w) (o w));
        number = n;
        in_runs = of_runs (InRun memory locked old) (λ base t. in_run);
      }

pub locks_hold : LocksHold
locks_hold =
    record {
      writes_vram = λ address value.
          old_or_none Vram (locked_vram address value) (run.vram address value) (λ s t. refl) (λ w f. refl)
          (λ w z. (lowest_none (vram_fits w.tables.vram) (in_order w.state) z).ordered);
      writes_oam = λ address value.
          old_or_none Oam (locked_oam address value) (run.oam address value) (λ s t. refl) (λ w f. rw f refl)
          (λ w z. (lowest_none (oam_fits w.tables.oam) (in_order w.state) z).ordered);
      reads_vram = λ address w. sym (rests (read_vram address) w refl);
      reads_oam = λ address w. sym (rests (read_oam address) w refl);
    }
