-- What is known of any call and of its deed, accepted or refused: the one proof of runs that goes call by call.
use mathlib.Core.Path.{◌≡◌, refl, ◌∙◌}
use mathlib.Core.Bool.{Bool, true, cond}
use mathlib.Core.List.{List}
use Prim.Native.Nat.{ℕ, ◌<◌}
use native.Mathlib.Omega.{arith}
use borrow.Author.Tests.{eqb-true}
use lib.ListN.{length, length-set}
use Rattle.logic.proofs.Tests.{by_test, clash}
use Rattle.refusals.specs.Ladder.{own, done}
use Rattle.refusals.proofs.Ladder.{Isnt, lowest_none, lowest_not_2, own_none, own_isnt, first_isnt}
use Rattle.hardware.specs.Tables.{Tables, TablesSized, with_vram, with_oam}
use Rattle.sprite.specs.Pick.{pickable, pick_number}
use Rattle.state.specs.declared.State.{State}
use Rattle.memory.specs.Writes.{vram_written}
use Rattle.order.specs.Fine.{Fine}
use Rattle.order.proofs.Clauses.{ordered}
use Rattle.registers.specs.Registers.{listed}
use Rattle.registers.specs.Write.{readable}
use Rattle.oam_bug.specs.Kinds.{is_kind}
use Rattle.oam_bug.proofs.Rules.{length_corrupted}
use Rattle.terms.specs.Numbers.{paced, in_oam, timely}
use Rattle.ports.specs.Calls.{bug_row}
use Rattle.locks.specs.Closed.{closed}
use Rattle.locks.specs.declared.Memory.TheVariants.{Vram, Oam}
use Rattle.terms.proofs.Pace.{Pace, pace}
use Rattle.history.specs.Run as run
use Rattle.history.specs.Run.{World, Call, step, write, read, colour, bug, shown, pick, number}
use Rattle.history.specs.Run.{locked_vram, locked_oam, read_vram, read_oam}
use Rattle.history.specs.Run.{Deed, steps, writes, colours, stores, nothing, deed, Turn, ours, astray, deed_of, swaps_by, swapped, stepping}

-- a step is paced, and tables put in place have their sizes
abbrev pub Lawful : Deed → State → Type 0
Lawful (steps n) s = Pace s.beam.cycle n
Lawful (writes address value) s = Unit {0}
Lawful (colours flag) s = Unit {0}
Lawful (stores t) s = TablesSized t
Lawful nothing s = Unit {0}

-- of a call: its deed is lawful where it is accepted, and it is not refused as out of order
record Known (c : Call) (w : World) : Type 0 where
  accepted : number c w ≡ 0 → Lawful (deed c w.state w.tables) w.state
  never2 : number c w ≡ 2 → ⊥

pub step_paced : (n : ℕ) (w : World) → number (step n) w ≡ 0 → Pace w.state.beam.cycle n
step_paced n w e = pace _ n (own_none (paced w.state.beam.cycle n) (omega arith) (lowest_none _ _ e).own)

-- an own number over 2 is not 2
other : (passed : Bool) {n : ℕ} → 2 < n → Isnt 2 (own passed n)
other passed h = own_isnt 2 passed (omega arith) (λ e. omega arith)

module _ (w : World) (h : TablesSized w.tables) (f : Fine w.state) where
  -- a call that changes OAM alone, at its own test
  on_oam : (oam : List ℕ) → length oam ≡ length w.tables.oam → TablesSized (with_oam w.tables oam)
  on_oam oam e = record { vram = h.vram; oam = e ∙ h.oam }

  on_vram : (address value : ℕ) → TablesSized (with_vram w.tables (vram_written w.tables.vram w.state.regs.vbk address value))
  on_vram address value = record { vram = length-set w.tables.vram _ value ∙ h.vram; oam = h.oam }

  -- tables that are put in place unless a memory is closed
  unless : (b : Bool) {t : Tables} → TablesSized t → Lawful (cond b nothing (stores t)) w.state
  unless b sized = by_test (λ (d : Deed). Lawful d w.state) b (λ e. tt) (λ e. sized)

  known : (c : Call) → Known c w
  unfolding pick_number
  known (step n) =
      record { accepted = step_paced n w; never2 = lowest_not_2 _ _ (ordered f) (other (paced w.state.beam.cycle n) (omega arith)) }
  known (write address value) = record { accepted = λ e. tt; never2 = lowest_not_2 _ _ (ordered f) (other (listed address) (omega arith)) }
  known (read address) = record { accepted = λ e. tt; never2 = lowest_not_2 _ _ (ordered f) (other (readable address) (omega arith)) }
  known (run.vram address value) =
      record {
        accepted = λ e. on_vram address value;
        never2 = lowest_not_2 _ _ (ordered f) (λ e. omega arith);
      }
  known (run.oam address value) =
      record {
        accepted = λ e. on_oam _ (length-set w.tables.oam _ value);
        never2 = lowest_not_2 _ _ refl (other (in_oam address) (omega arith));
      }
  known (colour flag) = record { accepted = λ e. tt; never2 = lowest_not_2 _ _ (ordered f) (λ e. omega arith) }
  known (bug kind) =
      record {
        accepted = λ e. on_oam _ (length_corrupted kind w.tables.oam (bug_row w.state));
        never2 = lowest_not_2 _ _ (ordered f)
            (first_isnt 2 (own (is_kind kind) 4) (own (timely w.state) 5) (other (is_kind kind) (omega arith)) (other (timely w.state) (omega arith)));
      }
  known shown = record { accepted = λ e. tt; never2 = lowest_not_2 _ _ (ordered f) (λ e. omega arith) }
  known (pick line tall) = record { accepted = λ e. tt; never2 = lowest_not_2 _ _ refl (other (pickable line tall) (omega arith)) }
  known (locked_vram address value) =
      record {
        accepted = λ e. unless (closed Vram w.state) (on_vram address value);
        never2 = lowest_not_2 _ _ (ordered f) (λ e. omega arith);
      }
  known (locked_oam address value) =
      record {
        accepted = λ e. unless (closed Oam w.state) (on_oam _ (length-set w.tables.oam _ value));
        never2 = lowest_not_2 _ _ (ordered f) (other (in_oam address) (omega arith));
      }
  known (read_vram address) = record { accepted = λ e. tt; never2 = lowest_not_2 _ _ (ordered f) (λ e. omega arith) }
  known (read_oam address) = record { accepted = λ e. tt; never2 = lowest_not_2 _ _ (ordered f) (other (in_oam address) (omega arith)) }

  pub lawful : (c : Turn) → Lawful (deed_of c w) w.state
  lawful (ours c) = by_test (λ (d : Deed). Lawful d w.state) (done (number c w)) (λ e. (known c).accepted (eqb-true _ _ e)) (λ e. tt)
  lawful (astray c lent e) = tt

  pub not_2 : (c : Call) → number c w ≡ 2 → ⊥
  not_2 c = (known c).never2

-- a step that swaps was accepted
pub swap_accepted : (n : ℕ) (w : World) → swapped (stepping n) w ≡ true → number (step n) w ≡ 0
swap_accepted n w =
    by_test (λ (d : Deed). swaps_by d w.state ≡ true → number (step n) w ≡ 0) (done (number (step n) w)) (λ e s. eqb-true _ _ e)
    (λ e s. absurd (clash s refl))
