-- Statement 6 of specs/Demand: from line 0, cycle 0 to the swap each place is stored once, and the picture holds the bytes.
use Rattle.std.proofs.Common.{Option}
use mathlib.Core.Path.{◌≡◌, refl, sym, ap, ◌∙◌}
use mathlib.Core.Bool.{Bool, true, false, not, cond, ◌&&◌}
use mathlib.Core.List.{List, [], ◌∷◌}
use Prim.Native.Nat.{ℕ, zero, suc, ◌+◌, ◌≤◌}
use native.Mathlib.Omega.{arith}
use borrow.Author.Tests.{eqb-true}
use lib.ListN.{length}
use Rattle.logic.proofs.Tests.{isnt}
use Rattle.logic.proofs.Both.{first, second}
use Rattle.hardware.specs.Screen.{places, picture_bytes, frame_lines}
use Rattle.hardware.specs.Tables.{Tables}
use Rattle.lcd.specs.Pictures.{Pictures, PicturesSized, other, shown_of, hidden_of}
use Rattle.state.specs.declared.Beam.{Beam}
use Rattle.state.specs.declared.Pipe.{Pipe}
use Rattle.state.specs.declared.State.{State}
use Rattle.burst.specs.Burst.{drawn_into}
use Rattle.beam.specs.Advance.{ends, swaps}
use Rattle.registers.specs.Write.{kept, blanks, state_written}
use Rattle.step.specs.Step.{lit, stepped, shots_of}
use Rattle.step.proofs.Keeps.{settled_same}
use Rattle.history.specs.Run.{World, Turn, stepping, Deed, steps, writes, colours, stores, nothing, does, shots_by, swaps_by, blanks_by}
use Rattle.history.specs.Run.{deed_of, perform, shots_from, swapped, blanked}
use Rattle.history.specs.Stored.{Stored, stored_by, Trace, through, go, trace, numbers, from}
use Rattle.history.specs.Public.{shown_picture}
use Rattle.history.specs.Demand.{repainted, AtOrigin, stays_on, stays_hidden, Once, EachOnce}
use Rattle.history.proofs.Rising.{rising_zero, rising_whole}
use Rattle.history.proofs.Places.{stored_none}
use Rattle.history.proofs.Picture.{put, all_stored_law, put_append, put_whole}
use Rattle.history.proofs.Phase.{Base, Mid}
use Rattle.history.proofs.Steps.{stepped_part}
use Rattle.history.proofs.Invariant.{Inv, Full, of_runs, origin_full, on_full, lit_mid}
use Rattle.history.proofs.Demand.{accepted_now, swaps_now, through_now, pace_now}
use Rattle.draw.specs.declared.Place.{Place}

-- at a swap the beam is below the picture, and a full run has stored every place
whole_mid : {base : Base} {n mode line cycle x : ℕ} {p : Pipe} {l : List ℕ} → base.full ≡ true → Mid base n mode line cycle x p l
    → line + 1 ≡ frame_lines → l ≡ from 0 places
whole_mid on (Mid.before m low line e up) at = absurd (omega arith)
whole_mid on (Mid.tight m low line t h up) at = absurd (omega arith)
whole_mid on (Mid.loose z m low line q h up) at = absurd (omega arith)
whole_mid on (Mid.ended m low line x up) at = absurd (omega arith)
whole_mid on (Mid.rest m line x up) at = rising_whole (rising_zero up.rises) (up.fills on)

pub once_all : {t : Trace} (n : ℕ) → Full t → swapped (stepping n) t.world ≡ true → numbers (through (stepping n) t) ≡ from 0 places
once_all {t} n k e =
    let w = t.world in
    let i = k.inv in
    let line : w.state.beam.line + 1 ≡ frame_lines
    = eqb-true (w.state.beam.line + 1) frame_lines (second (ends n w.state.beam) _ (swaps_now i n e)) in
    let same = settled_same n w.tables w.state in
    rw (through_now i n e)
    (whole_mid k.full (lit_mid n w.tables i.fine i.stands (pace_now i n e)) (omega (arith, same.line)))

-- the picture that is drawn
abbrev hidden : World → List ℕ
hidden w = hidden_of w.state.beam.shown w.pictures

-- a picture that draws store in
draws : (k : ℕ) (p : Pictures) (shots : List (Option Place)) → hidden_of k (drawn_into k shots p) ≡ put (hidden_of k p) (stored_by shots)
draws zero p shots = all_stored_law p.b shots
draws (suc k) p shots = all_stored_law p.a shots

-- shown after a swap
appears : (k : ℕ) (p : Pictures) (shots : List (Option Place)) → k ≤ 1 → shown_of (other k) (drawn_into k shots p) ≡ put (hidden_of k p) (stored_by shots)
appears zero p shots h = all_stored_law p.b shots
appears (suc k) p shots h = let z : k ≡ 0 = omega arith in rw z (all_stored_law p.a shots)

put_none : (p : List ℕ) → put p (stored_by []) ≡ p
unfolding put
put_none p = rw stored_none refl

-- which picture is shown changes at a swap alone
stepped_shown : (n : ℕ) (lent : Tables) (s : State)
    → (stepped n lent s).beam.shown ≡ cond (lit s && swaps n s.beam) (other s.beam.shown) s.beam.shown
stepped_shown n lent s =
    stepped_part (λ (b : Beam). b.shown) other n lent s (λ b. refl) (λ b. refl) (λ b. refl) (settled_same n lent s).shown

written_hidden : (address value : ℕ) (w : World) → blanks w.state.regs address (kept address value) ≡ false
    → hidden (does (writes address value) w) ≡ put (hidden w) (stored_by [])
unfolding state_written
written_hidden address value w f = rw f (sym (put_none (hidden w)))

-- what a deed that neither swaps nor blanks does to it
does_hidden : (d : Deed) (w : World) → swaps_by d w.state ≡ false → blanks_by d w.state ≡ false
    → hidden (does d w) ≡ put (hidden w) (stored_by (shots_by d w.state w.tables))
does_hidden (steps n) w e f =
    let k = w.state.beam.shown in
    rw (stepped_shown n w.tables w.state ∙ ap (λ (b : Bool). cond b (other k) k) e)
    (draws k w.pictures (shots_of n w.tables w.state))
does_hidden (writes address value) w e f = written_hidden address value w f
does_hidden (colours flag) w e f = sym (put_none (hidden w))
does_hidden (stores t) w e f = sym (put_none (hidden w))
does_hidden nothing w e f = sym (put_none (hidden w))

-- the places since are kept by a call that neither swaps nor blanks
go_since : (c : Turn) (t : Trace) → swapped c t.world ≡ false → blanked c t.world ≡ false → (go c t).since ≡ through c t
go_since c t e f = rw (e, f) refl

-- the picture that is drawn is the one at line 0, cycle 0 with the places since stored in it
pub drawing : (turns : List Turn) (t : Trace) (p : List ℕ) → hidden t.world ≡ put p t.since → stays_on turns t ≡ true → stays_hidden turns t ≡ true
    → hidden (trace turns t).world ≡ put p (trace turns t).since
unfolding trace stays_on stays_hidden
drawing [] t p h on e = h
drawing (c ∷ rest) t p h on e =
    let w = t.world in
    let off : blanked c w ≡ false = isnt (first (not (blanked c w)) _ on) in
    let no : swapped c w ≡ false = isnt (first (not (swapped c w)) _ e) in
    let new = stored_by (shots_from c w) in
    drawing rest (go c t) p
    (does_hidden (deed_of c w) w no off ∙ ap (λ (q : List ℕ). put q new) h ∙ sym (put_append p t.since new)
    ∙ ap (put p) (sym (go_since c t no off)))
    (second (not (blanked c w)) _ on) (second (not (swapped c w)) _ e)

-- the swap shows it
swap_shows : {base : Base} {t : Trace} (n : ℕ) → Inv base t → swapped (stepping n) t.world ≡ true
    → shown_picture (perform (stepping n) t.world) ≡ put (hidden t.world) (stored_by (shots_from (stepping n) t.world))
swap_shows {t = t} n i e =
    let w = t.world in
    let k = w.state.beam.shown in
    rw (accepted_now i n e)
    (rw (stepped_shown n w.tables w.state ∙ ap (λ (b : Bool). cond b (other k) k) (rw (accepted_now i n e) at e))
    (appears k w.pictures (shots_of n w.tables w.state) i.fine.beam.shown))

hidden_length : (k : ℕ) {p : Pictures} → PicturesSized p → length (hidden_of k p) ≡ picture_bytes
hidden_length zero h = h.b
hidden_length (suc k) h = h.a

empty : (p : List ℕ) {l : List Stored} → l ≡ [] → p ≡ put p l
unfolding put
empty p z = rw z refl

-- other pictures change nothing of the rest
repaint_inv : {base : Base} {t : Trace} {p : Pictures} → PicturesSized p → Inv base t → Inv base (repainted t p)
repaint_inv h i = record { fine = i.fine; sizes = record { tables = i.sizes.tables; pictures = h }; stands = i.stands }

-- 6
once : {base : Base} {t : Trace} → Inv base t → AtOrigin t.world → Once t
once {t = t} start o after n on stays e =
    let p = hidden t.world in
    let k = on_full after (origin_full start o) on in
    let i = k.inv in
    let all = once_all n k e in
    let u = trace after t in
    let new = stored_by (shots_from (stepping n) u.world) in
    record {
      once = all;
      shown =
          swap_shows n i e
          ∙ ap (λ (q : List ℕ). put q new) (drawing after t p (empty p (start.stands.origin o.line o.cycle).1) on stays)
          ∙ sym (put_append p u.since new)
          ∙ put_whole p (through (stepping n) u) (hidden_length t.world.state.beam.shown start.sizes.pictures) all;
    }

repainted_once : {base : Base} {t : Trace} → Inv base t → (p : Pictures) → PicturesSized p → AtOrigin t.world → Once (repainted t p)
repainted_once i p h o = once (repaint_inv h i) (record { line = o.line; cycle = o.cycle })

pub each_once_law : EachOnce
each_once_law = of_runs _ (λ base t. repainted_once)
