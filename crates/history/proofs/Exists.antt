-- Frames exist: steps of 4 move the beam by 4 until the swap. So do unseen pictures.
use mathlib.Core.Path.{◌≡◌, refl, sym, ap, ap₂, ◌∙◌}
use mathlib.Core.Bool.{Bool, true, false, true≢false, not, ◌&&◌}
use mathlib.Core.List.{[], ◌∷◌}
use Prim.Native.Nat.{ℕ, zero, suc, ◌+◌, ◌*◌, ◌%◌, ◌≤◌, ◌<◌}
use native.Mathlib.Omega.{arith}
use borrow.Author.Tests.{eqb-true, eq-eqb}
use lib.Dec.{eqb}
use lib.ListN.{replicate}
use Rattle.refusals.specs.Ladder.{lowest}
use Rattle.logic.proofs.Both.{second}
use Rattle.hardware.specs.declared.Machine.{Machine}
use Rattle.hardware.specs.Tables.{tables, tables_fit, vram_fits, oam_fits}
use Rattle.hardware.proofs.Tables.{tables_fit_law}
use Rattle.lcd.specs.Pictures.{pictures, pictures_fit}
use Rattle.lcd.proofs.Pictures.{pictures_fit_law}
use Rattle.state.specs.With.{with_registers, with_stat, with_beam, with_place}
use Rattle.hardware.specs.Screen.{line_cycles, frame_lines}
use Rattle.wrap.specs.Wrap.{bit_at}
use Rattle.state.specs.declared.Beam.{Beam}
use Rattle.state.specs.declared.State.{State}
use Rattle.order.specs.Order.{in_order}
use Rattle.order.specs.Fine.{Fine}
use Rattle.memory.specs.Fresh.{fresh_state}
use Rattle.registers.specs.Registers.{writable, kept_in, listed_in}
use Rattle.registers.specs.Write.{registers_written, state_written}
use Rattle.order.proofs.Clauses.{ordered}
use Rattle.beam.specs.Advance.{ends, swaps, advanced}
use Rattle.beam.proofs.Ways.{advanced_cases}
use Rattle.step.specs.Step.{lit, settled, stepped}
use Rattle.step.proofs.Keeps.{settled_fine, settled_same}
use Rattle.history.specs.Run.{World, step, write, oam, shown, bug, number, ours, astray, stepping, fresh_world, swapped, blanked}
use Rattle.history.specs.Stored.{Trace, go, trace, begun}
use Rattle.history.specs.Demand.{AtOrigin, stays_on, stays_hidden, Occurs, EveryNumber, Reaches, Reached, Begins, Begun, switch_off, switch_on, Unshown}
use Rattle.history.proofs.Kept.{lent_fits}
use Rattle.history.proofs.Phase.{Base, start_base}
use Rattle.history.proofs.Steps.{settled_swaps}
use Rattle.history.proofs.Invariant.{Inv, of_runs, base_after, begun_inv, go_inv}
use Rattle.history.proofs.Answered.{told_swap}
use Rattle.history.proofs.Demand.{swaps_now}
use Rattle.history.proofs.Unseen.{first_picture_law}

-- where the beam stands, in cycles from line 0, cycle 0
abbrev position : State → ℕ
position s = 456 * s.beam.line + s.beam.cycle

-- an advance by 4 that does not swap
advanced_position : (s : State) → Fine s → position s + 4 < 70224
    → (position (advanced 4 s) ≡ position s + 4) × ((advanced 4 s).regs.lcdc ≡ s.regs.lcdc)
advanced_position s f h =
    advanced_cases 4 s (λ (b : Bool) (u : State). (position u ≡ position s + 4) × (u.regs.lcdc ≡ s.regs.lcdc))
    (λ e. (omega arith, refl)) (λ e g. (omega arith, refl)) (λ e g. absurd (omega arith))

-- a step of 4 at a multiple of 4 is accepted
accepts : {base : Base} {t : Trace} → Inv base t → t.world.state.beam.cycle % 4 ≡ 0 → number (step 4) t.world ≡ 0
unfolding lowest
accepts {t = t} i quarter =
    rw (lent_fits t.world i.sizes, ordered i.fine, eq-eqb (t.world.state.beam.cycle % 4) 0 quarter) refl

-- a run that stands at a multiple of 4, on
record At (p : ℕ) (t : Trace) : Type 0 where
  base : Base
  inv : Inv base t
  on : lit t.world.state ≡ true
  at : position t.world.state ≡ p

module _ {p : ℕ} {t : Trace} (k : At p t) (quarter : p % 4 ≡ 0) where
  accepted_4 : number (step 4) t.world ≡ 0
  accepted_4 = accepts k.inv (omega (arith, k.at))

  -- it swaps where the frame ends, and not before
  swaps_at : p ≡ 70220 → swapped (stepping 4) t.world ≡ true
  swaps_at e =
      let f = k.inv.fine.beam in
      let line : t.world.state.beam.line ≡ 153 = omega (arith, k.at, f.line, f.cycle) in
      let cycle : t.world.state.beam.cycle ≡ 452 = omega (arith, k.at) in
      rw (accepted_4, k.on, line, cycle) refl

  never_blanks : blanked (stepping 4) t.world ≡ false
  never_blanks = rw accepted_4 refl

  swaps_not : p + 4 < 70224 → swapped (stepping 4) t.world ≡ false
  swaps_not h = rw (accepted_4, k.on) (by (ends 4 b) refl (eqb (b.line + 1) frame_lines) refl)
    where
      b : Beam
      b = t.world.state.beam

      by : (x : Bool) → ends 4 b ≡ x → (y : Bool) → eqb (b.line + 1) frame_lines ≡ y → (x && y) ≡ false
      by true e true g =
          let c = eqb-true (b.cycle + 4) line_cycles e in
          let d = eqb-true (b.line + 1) frame_lines g in
          absurd (omega (arith, k.at))
      by true e false g = refl
      by false e y g = refl

  moves : p + 4 < 70224 → At (p + 4) (go (stepping 4) t)
  unfolding stepped
  moves h =
      let w = t.world in
      let same = settled_same 4 w.tables w.state in
      let fine = settled_fine 4 w.tables w.state k.inv.fine in
      let a = advanced_position _ fine (omega (arith, k.at, same.line, same.cycle)) in
      record {
        base = base_after (stepping 4) w k.base;
        inv = go_inv (stepping 4) k.inv;
        on = rw (accepted_4, k.on) (ap (λ (x : ℕ). bit_at x 7) (a.1 ∙ same.lcdc) ∙ k.on);
        at = rw (accepted_4, k.on) (omega (arith, a.0, k.at, same.line, same.cycle));
      }

at_same : {p q : ℕ} {t : Trace} → p ≡ q → At p t → At q t
at_same e k = record { base = k.base; inv = k.inv; on = k.on; at = k.at ∙ e }

-- many steps
record Many (n p : ℕ) (t : Trace) : Type 0 where
  stays : stays_on (replicate n (stepping 4)) t ≡ true
  hides : stays_hidden (replicate n (stepping 4)) t ≡ true
  then : At (p + 4 * n) (trace (replicate n (stepping 4)) t)

many : (n : ℕ) {p : ℕ} {t : Trace} → At p t → p % 4 ≡ 0 → p + 4 * n < 70224 → Many n p t
unfolding stays_on stays_hidden trace
many zero k quarter h = record { stays = refl; hides = refl; then = at_same (omega arith) k }
many (suc n) {p} {t} k quarter h =
    let m = many n (moves k quarter (omega arith)) (omega arith) (omega arith) in
    record {
      stays = ap₂ (λ (x y : Bool). not x && y) (never_blanks k quarter) m.stays;
      hides = ap₂ (λ (x y : Bool). not x && y) (swaps_not k quarter (omega arith)) m.hides;
      then = at_same (omega arith) m.then;
    }

-- 17,556 steps of 4 from line 0, cycle 0
reaches : {base : Base} {t : Trace} → Inv base t → AtOrigin t.world → lit t.world.state ≡ true → Reaches t
reaches {base} {t} i o on =
    let k : At 0 t = record { base = base; inv = i; on = on; at = omega (arith, o.line, o.cycle) } in
    let m = many 17555 k refl (omega arith) in
    record { on = m.stays; hidden = m.hides; swap = swaps_at m.then refl refl }

pub reached : Reached
reached = of_runs _ (λ base t. reaches)

-- the advance that swaps
record Swapped (s u : State) : Type 0 where
  line : u.beam.line ≡ 0
  cycle : u.beam.cycle ≡ 0
  lcdc : u.regs.lcdc ≡ s.regs.lcdc

advanced_swap : (s : State) → swaps 4 s.beam ≡ true → Swapped s (advanced 4 s)
advanced_swap s =
    advanced_cases 4 s (λ (b : Bool) (u : State). b ≡ true → Swapped s u)
    (λ e z. absurd (true≢false (sym z))) (λ e g z. absurd (true≢false (sym z))) (λ e g z. record { line = refl; cycle = refl; lcdc = refl })

begins : {t : Trace} → At 70220 t → Begins (go (stepping 4) t)
unfolding stepped
begins {t} k =
    let w = t.world in
    let same = settled_same 4 w.tables w.state in
    let e = settled_swaps 4 w.tables w.state ∙ swaps_now k.inv 4 (swaps_at k refl refl) in
    let u = advanced_swap (settled 4 w.tables w.state) e in
    record {
      origin = record { line = rw (accepted_4 k refl, k.on) u.line; cycle = rw (accepted_4 k refl, k.on) u.cycle };
      on = rw (accepted_4 k refl, k.on) (ap (λ (x : ℕ). bit_at x 7) (u.lcdc ∙ same.lcdc) ∙ k.on);
    }

fresh_at : (machine : Machine) → At 70168 (begun (fresh_world machine))
unfolding fresh_state
fresh_at machine = record { base = start_base; inv = begun_inv machine; on = refl; at = refl }

-- 14 steps of 4 from a start
pub begun_frame : Begun
begun_frame machine = begins (many 13 (fresh_at machine) refl (omega arith)).then

-- a write to LCDC is accepted
writes_lcdc : {base : Base} {t : Trace} → Inv base t → (value : ℕ) → number (write 0xFF40 value) t.world ≡ 0
unfolding lowest listed_in writable
writes_lcdc i value = rw (pictures_fit_law i.sizes.pictures, ordered i.fine) refl

-- the display switched off and on after a start: line 0, cycle 4
module _ (machine : Machine) where
  abbrev fresh : Trace
  fresh = begun (fresh_world machine)

  off_accepted : number (write 0xFF40 0x11) fresh.world ≡ 0
  off_accepted = writes_lcdc (begun_inv machine) 0x11

  off_blanks : blanked switch_off fresh.world ≡ true
  unfolding fresh_state kept_in writable
  off_blanks = rw off_accepted refl

  off_inv : Inv (base_after switch_off fresh.world start_base) (go switch_off fresh)
  off_inv = go_inv switch_off (begun_inv machine)

  on_accepted : number (write 0xFF40 0x91) (go switch_off fresh).world ≡ 0
  on_accepted = writes_lcdc off_inv 0x91

  on_blanks_not : blanked switch_on (go switch_off fresh).world ≡ false
  unfolding fresh_state state_written registers_written kept_in writable
  on_blanks_not = rw (on_accepted, off_accepted) refl

  on_swaps_not : swapped switch_on (go switch_off fresh).world ≡ false
  on_swaps_not = rw on_accepted refl

  switched_at : At 4 (go switch_on (go switch_off fresh))
  unfolding fresh_state state_written registers_written kept_in writable
  switched_at =
      record {
        base = base_after switch_on (go switch_off fresh).world (base_after switch_off fresh.world start_base);
        inv = go_inv switch_on off_inv;
        on = rw (on_accepted, off_accepted) refl;
        at = rw (on_accepted, off_accepted) refl;
      }

-- 16: 17,555 steps of 4 from there
pub unshown : Unshown
unfolding trace stays_on stays_hidden fresh_state
unshown machine r left d =
    let m = many 17554 (switched_at machine) refl (omega arith) in
    let z = told_swap d ∙ swaps_at m.then refl refl in (
      z,
      first_picture_law machine [] switch_off (off_blanks machine) (switch_on ∷ replicate 17554 (stepping 4))
          (ap₂ (λ (x y : Bool). not x && y) (on_blanks_not machine) m.stays)
          (ap₂ (λ (x y : Bool). not x && y) (on_swaps_not machine) m.hides)
          4 r left d z,
    )

-- a world that is refused by 1, whatever is asked: nothing is lent
abbrev nothing_lent : State → World
nothing_lent s = record { state = s; tables = tables [] []; pictures = pictures [] [] }

-- a state out of order; one at the start of mode 2
abbrev disordered : State → State
disordered s = with_beam s (with_place s.beam 154 0)

abbrev scanning : State → State
scanning s = with_beam (with_registers s (with_stat s.regs 2)) (with_place s.beam 0 0)

-- the numbers 0, 3 and 4 of calls on what the run handed back; 1, 2 and 5 of calls with something else
module _ {base : Base} {t : Trace} (i : Inv base t) where
  abbrev here : World
  here = t.world

  abbrev with' : State → World
  with' s = record { state = s; tables = here.tables; pictures = here.pictures }

  fits : tables_fit here.tables && pictures_fit here.pictures ≡ true
  fits = lent_fits here i.sizes

  oam_there : oam_fits here.tables.oam ≡ true
  oam_there = second (vram_fits here.tables.vram) _ (tables_fit_law i.sizes.tables)

  zero_there : number (oam 0 0) here ≡ 0
  unfolding lowest
  zero_there = rw oam_there refl

  one_there : number shown (nothing_lent here.state) ≡ 1
  unfolding lowest
  one_there = refl

  two_there : number shown (with' (disordered here.state)) ≡ 2
  unfolding lowest in_order
  two_there = rw (pictures_fit_law i.sizes.pictures) refl

  three_there : number (step 3) here ≡ 3
  unfolding lowest
  three_there = rw (fits, ordered i.fine) refl

  four_there : number (oam 160 0) here ≡ 4
  unfolding lowest
  four_there = rw oam_there refl

  scanning_fine : Fine (scanning here.state)
  scanning_fine =
      let f = i.fine in
      record {
        beam = record { even = refl; cycle = omega arith; line = omega arith; x = f.beam.x; shown = f.beam.shown };
        regs = record { ly = f.regs.ly; bank = f.regs.bank; stat = omega arith };
        mode3 = λ z. omega arith;
        palettes = f.palettes;
        selection = f.selection;
        pipe = f.pipe;
      }

  five_there : number (bug 0) (with' (scanning here.state)) ≡ 5
  unfolding lowest
  five_there = rw (oam_there, ordered scanning_fine) refl

  occurs : (n : ℕ) → n ≤ 5 → Occurs n here
  occurs zero h = record { turn = ours (oam 0 0); number = zero_there }
  occurs (suc zero) h = record { turn = astray shown (nothing_lent here.state) (λ e. absurd (omega (arith, one_there))); number = one_there }
  occurs (suc (suc zero)) h = record { turn = astray shown (with' (disordered here.state)) (λ e. absurd (omega (arith, two_there))); number = two_there }
  occurs (suc (suc (suc zero))) h = record { turn = stepping 3; number = three_there }
  occurs (suc (suc (suc (suc zero)))) h = record { turn = ours (oam 160 0); number = four_there }
  occurs (suc (suc (suc (suc (suc zero))))) h = record { turn = astray (bug 0) (with' (scanning here.state)) (λ e. absurd (omega (arith, five_there))); number = five_there }
  occurs (suc (suc (suc (suc (suc (suc n)))))) h = absurd (omega arith)

pub every_number_law : EveryNumber
every_number_law = of_runs _ (λ base t. occurs)
