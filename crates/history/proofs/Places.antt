-- The places that draws store in mode 3 follow one another along the line, and each is counted.
use Rattle.std.proofs.Common.{Option, None}
use mathlib.Core.Path.{◌≡◌, refl, sym, ap, ◌∙◌}
use mathlib.Core.List.{List, [], ◌∷◌}
use Prim.Native.Nat.{ℕ, zero, suc, ◌+◌, ◌%◌, ◌≤◌, ◌<◌}
use native.Mathlib.Omega.{arith}
use borrow.Author.Tests.{eq-eqb}
use lib.ListN.{length}
use Rattle.hardware.specs.Screen.{width, place}
use Rattle.lcd.specs.declared.Rgb.{Rgb}
use Rattle.state.specs.With.{mode_of}
use Rattle.state.specs.declared.State.{State}
use Rattle.order.specs.Fine.{Fine}
use Rattle.pipe.specs.Window.{opened}
use Rattle.draw.specs.Draw.{drawn, shot_at}
use Rattle.draw.specs.declared.Drawn.{Drawn}
use Rattle.draw.proofs.Ways.{drawn_cases}
use Rattle.draw.proofs.Fine.{drawn_fine}
use Rattle.burst.specs.Burst.{Burst, burst}
use Rattle.burst.proofs.Ways.{burst_out}
use Rattle.history.specs.Stored.{Stored, stored_by, from, numbers}
use Rattle.history.proofs.Rising.{Rising, from_none, from_more, from_rising}
use Rattle.draw.specs.declared.Place.{Place}

-- the number of the place that is drawn next
abbrev pub spot_number : State → ℕ
spot_number s = place s.beam.x s.beam.line

-- one draw of mode 3: nothing is stored; or the place is, and the next is at its right; or it was the last of the line
data OneDraw (s : State) (d : Drawn) : Type 0 where
  nothing : d.shot ≡ None → d.state.beam.line ≡ s.beam.line → d.state.beam.x ≡ s.beam.x
      → d.state.beam.count ≡ s.beam.count → mode_of d.state.regs.stat ≡ 3 → OneDraw s d
  along : (p : Rgb) → d.shot ≡ shot_at s.beam.x s.beam.line p → d.state.beam.line ≡ s.beam.line
      → s.beam.x + 1 < width → d.state.beam.x ≡ s.beam.x + 1
      → d.state.beam.count ≡ (s.beam.count + 1) % 65536 → mode_of d.state.regs.stat ≡ 3 → OneDraw s d
  last : (p : Rgb) → d.shot ≡ shot_at s.beam.x s.beam.line p → d.state.beam.line ≡ s.beam.line
      → s.beam.x + 1 ≡ width → d.state.beam.x ≡ 0
      → d.state.beam.count ≡ (s.beam.count + 1) % 65536 → mode_of d.state.regs.stat ≡ 0 → OneDraw s d

one_draw : (vram : List ℕ) (s : State) → Fine s → mode_of s.regs.stat ≡ 3 → OneDraw s (drawn vram s)
one_draw vram s f m =
    let low : s.beam.x < width = f.beam.x in
    drawn_cases (opened s.regs s.beam.line) vram s (OneDraw s)
    (λ h. nothing refl refl refl refl m)
    (λ h d. nothing refl refl refl refl m)
    (λ h d o. along _ refl refl (omega arith) refl refl m)
    (λ h d e. last _ refl refl e refl refl (omega arith))

-- k places along a line from x: mode 3 goes on behind them, or they were the last
pub data Came (x k : ℕ) (u : State) : Type 0 where
  on : x + k < width → u.beam.x ≡ x + k → mode_of u.regs.stat ≡ 3 → Came x k u
  over : x + k ≡ width → u.beam.x ≡ 0 → mode_of u.regs.stat ≡ 0 → Came x k u

-- a run of at most n draws from mode 3 left u and stored l
pub record Ran (n : ℕ) (s u : State) (l : List Stored) : Type 0 where
  pub places : numbers l ≡ from (spot_number s) (length l)
  pub within : length l ≤ n
  pub count : u.beam.count ≡ (s.beam.count + length l) % 65536
  pub line : u.beam.line ≡ s.beam.line
  pub came : Came s.beam.x (length l) u

pub stored_none : stored_by [] ≡ []
unfolding stored_by
stored_none = refl

pub stored_nothing : {shot : Option Place} (rest : List (Option Place)) → shot ≡ None → stored_by (shot ∷ rest) ≡ stored_by rest
unfolding stored_by
stored_nothing rest e = rw e

pub stored_place : {shot : Option Place} {x y : ℕ} {p : Rgb} (rest : List (Option Place)) → shot ≡ shot_at x y p
    → stored_by (shot ∷ rest) ≡ record { place = place x y; bytes = p } ∷ stored_by rest
unfolding stored_by
stored_place rest e = rw e

-- nothing was drawn
still : (n : ℕ) (s : State) → s.beam.x < width → mode_of s.regs.stat ≡ 3 → s.beam.count < 65536 → Ran n s s []
still n s low m c =
    record {
      places = sym (from_none (spot_number s));
      within = omega arith;
      count = omega arith;
      line = refl;
      came = on (omega arith) (omega arith) m;
    }

came_by : {x x' k k' : ℕ} {u : State} → x' + k' ≡ x + k → Came x' k' u → Came x k u
came_by e (on low at m) = on (omega arith) (omega arith) m
came_by e (over end at m) = over (omega arith) at m

module _ {n : ℕ} {s t u : State} {l : List Stored} (line : t.beam.line ≡ s.beam.line) where
  -- a draw that stored nothing in front
  ran_nothing : t.beam.x ≡ s.beam.x → t.beam.count ≡ s.beam.count → Ran n t u l → Ran (suc n) s u l
  ran_nothing at count r =
      let e : spot_number t ≡ spot_number s = omega arith in
      record {
        places = r.places ∙ ap (λ (k : ℕ). from k (length l)) e;
        within = omega arith;
        count = omega arith;
        line = r.line ∙ line;
        came = came_by (omega arith) r.came;
      }

  -- a place in front
  ran_along : (p : Rgb) → t.beam.x ≡ s.beam.x + 1 → t.beam.count ≡ (s.beam.count + 1) % 65536 → Ran n t u l
      → Ran (suc n) s u (record { place = spot_number s; bytes = p } ∷ l)
  ran_along p at count r =
      let e : spot_number t ≡ suc (spot_number s) = omega arith in
      record {
        places =
            ap (λ (q : List ℕ). spot_number s ∷ q) (r.places ∙ ap (λ (k : ℕ). from k (length l)) e)
            ∙ sym (from_more (spot_number s) (length l));
        within = omega arith;
        count = omega arith;
        line = r.line ∙ line;
        came = came_by (omega arith) r.came;
      }

-- the last place of the line
ran_last : {n : ℕ} {s t : State} (p : Rgb) → t.beam.line ≡ s.beam.line → s.beam.x + 1 ≡ width → t.beam.x ≡ 0
    → t.beam.count ≡ (s.beam.count + 1) % 65536 → mode_of t.regs.stat ≡ 0
    → Ran (suc n) s t (record { place = spot_number s; bytes = p } ∷ [])
ran_last {s = s} p line end at count m =
    record {
      places = ap (λ (q : List ℕ). spot_number s ∷ q) (sym (from_none (suc (spot_number s)))) ∙ sym (from_more (spot_number s) 0);
      within = omega arith;
      count = omega arith;
      line = line;
      came = over (omega arith) at m;
    }

pub burst_ran : (n : ℕ) (vram : List ℕ) (s : State) → Fine s → mode_of s.regs.stat ≡ 3 → s.beam.count < 65536
    → Ran n s (burst n vram s).state (stored_by (burst n vram s).shots)
unfolding burst
burst_ran zero vram s f m c = rw stored_none (still 0 s f.beam.x m c)
burst_ran (suc n) vram s f m c =
    rw (eq-eqb _ _ m) (by (one_draw vram s f m) (λ m' c'. burst_ran n vram t (drawn_fine (opened s.regs s.beam.line) vram s f) m' c'))
  where
    t : State
    t = (drawn vram s).state

    rest : Burst
    rest = burst n vram t

    by : OneDraw s (drawn vram s) → (mode_of t.regs.stat ≡ 3 → t.beam.count < 65536 → Ran n t rest.state (stored_by rest.shots))
        → Ran (suc n) s rest.state (stored_by ((drawn vram s).shot ∷ rest.shots))
    by (nothing e line x count m') r = rw (stored_nothing rest.shots e) (ran_nothing line x count (r m' (omega arith)))
    by (along p e line low x count m') r = rw (stored_place rest.shots e) (ran_along line p x count (r m' (omega arith)))
    by (last p e line end x count m') r =
        let o : rest ≡ record { state = t; shots = [] } = burst_out n vram t (λ z. absurd (omega arith)) in
        rw o (rw (stored_place [] e) (rw stored_none (ran_last p line end x count m')))

-- the places of a run rise
pub ran_rising : {n : ℕ} {s u : State} {l : List Stored} → Ran n s u l → Rising (spot_number s) (spot_number s + length l) (numbers l)
ran_rising {s = s} {l = l} r = rw r.places (from_rising (spot_number s) (length l))

-- out of mode 3 nothing is drawn
pub burst_idle : (n : ℕ) (vram : List ℕ) (s : State) → (mode_of s.regs.stat ≡ 3 → ⊥)
    → ((burst n vram s).state ≡ s) × (stored_by (burst n vram s).shots ≡ [])
burst_idle n vram s m =
    let o = burst_out n vram s m in
    (ap (λ (b : Burst). b.state) o, ap (λ (b : Burst). stored_by b.shots) o ∙ stored_none)
