-- The end of a step: what the work before it leaves, done or not, and that the end on the groups is the rule's.
use mathlib.Core.Path.{◌≡◌, refl, sym, ap, ◌∙◌}
use mathlib.Core.Bool.{Bool, true, false}
use mathlib.Core.List.{List, []}
use Prim.Native.Nat.{ℕ, zero, suc}
use borrow.Author.Tests.{eqb-false}
use lib.Dec.{eqb}
use Rattle.logic.proofs.Tests.{clash}
use Rattle.logic.proofs.Both.{first}
use Rattle.wrap.specs.Wrap.{bit_at}
use Rattle.hardware.specs.Tables.{Tables}
use Rattle.lcd.specs.Pictures.{Pictures}
use Rattle.state.specs.With.{mode_of, with_registers, with_beam}
use Rattle.state.specs.declared.State.{State}
use Rattle.order.specs.Fine.{Fine}
use Rattle.modes.specs.Modes.{begins, entered, searched, mode_level, level_of, compared}
use Rattle.modes.proofs.Ways.{entered_none, searched_none}
use Rattle.burst.specs.Burst.{Burst, still, burst, all_stored, drawn_into}
use Rattle.burst.proofs.Keep.{Same, same_refl, same_then, burst_same, burst_fine}
use Rattle.burst.proofs.Ways.{burst_out}
use Rattle.beam.specs.Advance.{advanced}
use Rattle.beam.proofs.Ways.{advanced_groups}
use Rattle.step.specs.Step.{lit, working, new_level, settled, stepped, shots_of, report_of, off_report, report, StepTaken}
use Rattle.step.specs.Work.{Worked, Settled}
use Rattle.step.specs.End.{starting, drawing, ended}
use Rattle.step.specs.declared.Report.{Report}
use Rattle.step.specs.declared.Ended.{Ended}
use Rattle.step.proofs.Keeps.{ready_fine, ready_same}

-- no draw changes no picture
none_into : (shown : ℕ) (p : Pictures) → p ≡ drawn_into shown [] p
unfolding all_stored
none_into zero p = refl
none_into (suc k) p = refl

-- what stands before the end of a step: the level by the mode held, the state, and both pictures
pub record Before (n : ℕ) (t : Tables) (s : State) (p : Pictures) (held : Bool) (u : State) (p' : Pictures) : Type 0 where
  pub fine : Fine u
  pub same : Same s u
  pub on : lit s ≡ true → (held ≡ mode_level (entered s)) × (u ≡ (working n t s).state) × (p' ≡ drawn_into s.beam.shown (working n t s).shots p)
  pub off : lit s ≡ false → (u ≡ s) × (p' ≡ p)

-- the same LCDC, the same display
abbrev lit_of : ℕ → Bool
lit_of lcdc = bit_at lcdc 7

lit_same : {s u : State} {v : Bool} → Same s u → lit u ≡ v → lit s ≡ v
lit_same h e = sym (ap lit_of h.lcdc) ∙ e

-- what stands once a mode that begins here has begun: the level by the mode held, and the state
pub record Begun (oam : List ℕ) (s : State) (held : Bool) (u : State) : Type 0 where
  pub fine : Fine u
  pub same : Same s u
  pub on : lit s ≡ true → (held ≡ mode_level (entered s)) × (u ≡ searched oam (entered s))
  pub off : lit s ≡ false → u ≡ s

module _ (oam : List ℕ) (s : State) (f : Fine s) where
  -- it was tried
  pub begun_tried : starting s ≡ true → Begun oam s (mode_level (entered s)) (searched oam (entered s))
  unfolding starting
  begun_tried e =
      record {
        fine = ready_fine oam s f;
        same = ready_same oam s;
        on = λ o. (refl, refl);
        off = λ o. absurd (clash (first (lit s) (begins s.beam) e) o);
      }

  -- it was not, since none can begin
  pub begun_none : starting s ≡ false → Begun oam s (mode_level s) s
  unfolding starting
  begun_none e =
      record {
        fine = f;
        same = same_refl;
        on = λ o.
            let none : begins s.beam ≡ false = rw o at e in
            (ap mode_level (sym (entered_none s none)), sym (ap (searched oam) (entered_none s none) ∙ searched_none s none oam));
        off = λ o. refl;
      }

module _ (n : ℕ) (t : Tables) (p : Pictures) {s : State} {held : Bool} {r : State} (b : Begun t.oam s held r) where
  -- the step draws
  pub before_drawn : {u : State} {p' : Pictures} → drawing r ≡ true → Worked n t.vram r p u p' → Before n t s p held u p'
  unfolding drawing working
  before_drawn {u} {p'} e w =
      record {
        fine = rw w.state (burst_fine n t.vram r b.fine);
        same = rw w.state (same_then b.same (burst_same n t.vram r));
        on = λ o.
            let q = b.on o in (
              q.0,
              w.state ∙ ap (λ (x : State). (burst n t.vram x).state) q.1,
              w.pictures
                  ∙ (ap (λ (shown : ℕ). drawn_into shown (burst n t.vram r).shots p) b.same.shown
                  ∙ ap (λ (x : State). drawn_into s.beam.shown (burst n t.vram x).shots p) q.1),
            );
        off = λ o. absurd (clash (lit_same b.same (first (lit r) (eqb (mode_of r.regs.stat) 3) e)) o);
      }

  -- it does not
  pub before_still : drawing r ≡ false → Before n t s p held r p
  unfolding drawing working
  before_still e =
      record {
        fine = b.fine;
        same = b.same;
        on = λ o.
            let q = b.on o in
            let on : lit r ≡ true = ap lit_of b.same.lcdc ∙ o in
            let idle : burst n t.vram r ≡ still r = burst_out n t.vram r (eqb-false _ _ (rw on at e)) in
            let worked : working n t s ≡ still r = sym (ap (burst n t.vram) q.1) ∙ idle in (
              q.0,
              sym (ap (λ (x : Burst). x.state) worked),
              none_into s.beam.shown p ∙ sym (ap (λ (x : Burst). drawn_into s.beam.shown x.shots p) worked),
            );
        off = λ o. (b.off o, refl);
      }

-- the state with the groups that the end of a step changes
abbrev pub put : State → Ended → State
put u e = with_beam (with_registers u e.regs) e.beam

-- the end on the groups is the end of the rule
module _ (n : ℕ) (s : State) (held : Bool) (u : State) where
  abbrev settled_from : State
  settled_from = compared (level_of held u) u

  put_ended : put u (ended n s.beam held u) ≡ advanced n settled_from
  unfolding compared
  put_ended = sym (advanced_groups n settled_from)

  report_ended : (ended n s.beam held u).report ≡ report_of n s settled_from (advanced n settled_from)
  unfolding compared
  report_ended = ap (report_of n s settled_from) (sym (advanced_groups n settled_from))

module _ {n : ℕ} {t : Tables} {s : State} {p : Pictures} {held : Bool} {u : State} {p' : Pictures} (b : Before n t s p held u p') where
  settles : lit s ≡ true → Settled n t s p (compared (level_of held u) u) p'
  unfolding settled new_level
  settles on = let w = b.on on in record { state = rw (← w.1, ← w.0); pictures = w.2 }

  pub taken_on : {r : Ended} → lit u ≡ true → r ≡ ended n s.beam held u → StepTaken n t s p r.report (put u r) p'
  unfolding report stepped shots_of
  taken_on {r} e f =
      let on = lit_same b.same e in
      let d = settles on in
      record {
        answer = rw (on, f, ← d.state) (report_ended n s held u);
        state = rw (on, f, ← d.state) (put_ended n s held u);
        pictures = rw on d.pictures;
      }

  pub taken_off : {r : Report} → lit u ≡ false → r ≡ off_report u → StepTaken n t s p r u p'
  unfolding report stepped shots_of
  taken_off e f =
      let off = lit_same b.same e in
      let w = b.off off in
      record {
        answer = rw off (f ∙ ap off_report w.0);
        state = rw off w.0;
        pictures = rw off (w.1 ∙ none_into s.beam.shown p);
      }
