-- Where a run can stand: before the draws of a line, in them, behind them, or below the picture; and that the places stored rise.
use mathlib.Core.Path.{◌≡◌, refl, sym, ◌∙◌}
use mathlib.Core.Bool.{Bool, true, false, true≢false}
use mathlib.Core.Logic.{◌⊎◌, inl, inr, ⊎_elim}
use mathlib.Core.List.{List, ◌++◌, append-nil}
use Prim.Native.Nat.{ℕ, ◌+◌, ◌*◌, ◌≤◌, ◌<◌}
use native.Mathlib.Omega.{arith}
use native.Mathlib.Decide.{dec_lt}
use lib.Dec.{eqb}
use lib.ListN.{length, length-append, length-map}
use Rattle.hardware.specs.Screen.{width, height, places, place}
use Rattle.state.specs.With.{mode_of}
use Rattle.state.specs.declared.Pipe.{Pipe}
use Rattle.state.specs.declared.State.{State}
use Rattle.hardware.specs.Tables.{Tables}
use Rattle.order.specs.Fine.{Fine}
use Rattle.burst.specs.Burst.{burst}
use Rattle.modes.specs.Modes.{entered, searched, rendering}
use Rattle.burst.proofs.Keep.{burst_same}
use Rattle.step.specs.Step.{working}
use Rattle.step.proofs.Keeps.{ready_fine}
use Rattle.bound.specs.Potential.{left_at, left, Paced, Steady}
use Rattle.bound.proofs.Potential.{left_any, paced_start, steady_inside, steady_start}
use Rattle.bound.proofs.Bursts.{burst_falls, burst_loose, burst_paced, burst_window}
use Rattle.history.specs.Stored.{Stored, stored_by, numbers}
use Rattle.history.proofs.Rising.{Rising, rising_upper, rising_append}
use Rattle.terms.proofs.Pace.{Pace}
use Rattle.history.proofs.Places.{spot_number, Came, on, over, Ran, burst_ran, ran_rising, burst_idle}
use Rattle.history.proofs.Views.{View, view_scan, view_early, view_render, view_late, view_below}

-- what a run is counted from, the latest of start, swap and blanking: whether it is followed by every place (a swap is, and a
-- blanking at LCD x 0), and a bound below which nothing is stored since: LCD x at a blanking, else 0
pub record Base : Type 0 where
  pub full : Bool
  pub low : ℕ

-- a start comes below the picture; a swap forgets everything; so does a blanking, and LCD x stays
abbrev pub start_base : Base
start_base = record { full = false; low = 0 }

abbrev pub swap_base : Base
swap_base = record { full = true; low = 0 }

abbrev pub blank_base : ℕ → Base
blank_base x = record { full = eqb x 0; low = x }

-- places that rise from the bound below hi; from a full base they are all the places below hi
pub record Up (base : Base) (hi : ℕ) (l : List ℕ) : Type 0 where
  pub rises : Rising base.low hi l
  pub fills : base.full ≡ true → length l ≡ hi

pub up_same : {base : Base} {hi hi' : ℕ} {l : List ℕ} → hi ≡ hi' → Up base hi l → Up base hi' l
up_same e u = record { rises = rising_upper (omega arith) u.rises; fills = λ z. omega (arith, u.fills z) }

pub up_less : {base : Base} {hi hi' : ℕ} {l : List ℕ} → base.full ≡ false → hi ≤ hi' → Up base hi l → Up base hi' l
up_less o e u = record { rises = rising_upper e u.rises; fills = λ z. absurd (true≢false (sym z ∙ o)) }

up_more : {base : Base} {n : ℕ} {s t : State} {l : List ℕ} {r : List Stored} → Ran n s t r → Up base (spot_number s) l
    → Up base (spot_number s + length r) (l ++ numbers r)
up_more {l = l} {r} q u =
    record {
      rises = rising_append u.rises (ran_rising q);
      fills = λ z. omega (arith, u.fills z, length-append l (numbers r), length-map r (λ (t : Stored). t.place));
    }

-- a line is entered with x 0, or in the window, or it is line 0
pub data Entry (base : Base) (line x : ℕ) (p : Pipe) : Type 0 where
  at0 : x ≡ 0 → Entry base line x p
  inside : p.window ≡ true → Entry base line x p
  first' : base.full ≡ false → line ≡ 0 → Entry base line x p

-- where a run stands by mode, line, cycle, column and pipe, with the numbers of the places stored: 204 draws behind cycle 80 end at 284
pub data Phase (base : Base) (mode line cycle x : ℕ) (p : Pipe) (l : List ℕ) : Type 0 where
  before : (mode ≡ 3 → ⊥) → cycle ≤ 80 → line < height → Entry base line x p → Up base (place x line) l → Phase base mode line cycle x p l
  tight : mode ≡ 3 → 80 < cycle → line < height → Steady x p → left_at x p + cycle ≤ 284 → Up base (place x line) l
      → Phase base mode line cycle x p l
  loose : base.full ≡ false → mode ≡ 3 → 80 < cycle → line ≡ 0 → Paced p → (p.window ≡ true) ⊎ (left_at x p + cycle ≤ 284)
      → Up base (place x line) l → Phase base mode line cycle x p l
  carried : base.full ≡ false → line ≡ 1 → cycle ≡ 0 → p.window ≡ true → Up base (place x line) l → Phase base mode line cycle x p l
  ended : (mode ≡ 3 → ⊥) → 80 < cycle → line < height → x ≡ 0 → Up base (width * (line + 1)) l → Phase base mode line cycle x p l
  rest : (mode ≡ 3 → ⊥) → height ≤ line → x ≡ 0 → Up base places l → Phase base mode line cycle x p l

-- the same before the cycle advances by n
pub data Mid (base : Base) (n mode line cycle x : ℕ) (p : Pipe) (l : List ℕ) : Type 0 where
  before : (mode ≡ 3 → ⊥) → cycle + n ≤ 80 → line < height → Entry base line x p → Up base (place x line) l → Mid base n mode line cycle x p l
  tight : mode ≡ 3 → 80 ≤ cycle → line < height → Steady x p → left_at x p + (cycle + n) ≤ 284 → Up base (place x line) l
      → Mid base n mode line cycle x p l
  loose : base.full ≡ false → mode ≡ 3 → 80 ≤ cycle → line ≡ 0 → Paced p → (p.window ≡ true) ⊎ (left_at x p + (cycle + n) ≤ 284)
      → Up base (place x line) l → Mid base n mode line cycle x p l
  ended : (mode ≡ 3 → ⊥) → 80 ≤ cycle → line < height → x ≡ 0 → Up base (width * (line + 1)) l → Mid base n mode line cycle x p l
  rest : (mode ≡ 3 → ⊥) → height ≤ line → x ≡ 0 → Up base places l → Mid base n mode line cycle x p l

-- where a state stands
abbrev pub PhaseOf : Base → State → List ℕ → Type 0
PhaseOf base s l = Phase base (mode_of s.regs.stat) s.beam.line s.beam.cycle s.beam.x s.pipe l

abbrev pub MidOf : Base → ℕ → State → List ℕ → Type 0
MidOf base n s l = Mid base n (mode_of s.regs.stat) s.beam.line s.beam.cycle s.beam.x s.pipe l

-- in every phase the places are places of the picture
pub mid_rising : {base : Base} {n mode line cycle x : ℕ} {p : Pipe} {l : List ℕ} → x < width → Mid base n mode line cycle x p l → Rising base.low places l
mid_rising h (Mid.before m low line e up) = rising_upper (omega arith) up.rises
mid_rising h (Mid.tight m low line t g up) = rising_upper (omega arith) up.rises
mid_rising h (Mid.loose z m low line q g up) = rising_upper (omega arith) up.rises
mid_rising h (Mid.ended m low line x up) = rising_upper (omega arith) up.rises
mid_rising h (Mid.rest m line x up) = up.rises

pub phase_rising : {base : Base} {mode line cycle x : ℕ} {p : Pipe} {l : List ℕ} → x < width → Phase base mode line cycle x p l → Rising base.low places l
phase_rising h (Phase.before m low line e up) = rising_upper (omega arith) up.rises
phase_rising h (Phase.tight m low line t g up) = rising_upper (omega arith) up.rises
phase_rising h (Phase.loose z m low line q g up) = rising_upper (omega arith) up.rises
phase_rising h (Phase.carried z line cycle w up) = rising_upper (omega arith) up.rises
phase_rising h (Phase.ended m low line x up) = rising_upper (omega arith) up.rises
phase_rising h (Phase.rest m line x up) = up.rises

-- the pipe and the column are what a view shows
steady_view : {s r : State} → View s 3 s.pipe r → Steady s.beam.x s.pipe → Steady r.beam.x r.pipe
steady_view v t = rw (v.pipe, v.x) t

left_view : {s r : State} → View s 3 s.pipe r → left r ≡ left s
left_view v = rw (v.pipe, v.x)

less_or : (cycle : ℕ) → cycle ≤ 80 → (cycle < 80) ⊎ (cycle ≡ 80)
less_or cycle h = by (dec_lt cycle 80)
  where
    by : Dec (cycle < 80) → (cycle < 80) ⊎ (cycle ≡ 80)
    by (yes k) = inl k
    by (no k) = inr (omega arith)

-- a run of draws from r: it goes on along the line, or the line ended; the places rise
data Drawing (base : Base) (r b : State) (l : List ℕ) : Type 0 where
  goes : mode_of b.regs.stat ≡ 3 → Up base (spot_number b) l → Drawing base r b l
  stops : (mode_of b.regs.stat ≡ 3 → ⊥) → b.beam.x ≡ 0 → Up base (width * (r.beam.line + 1)) l → Drawing base r b l

drawing : {base : Base} (n : ℕ) (vram : List ℕ) (r : State) (l : List ℕ) → Fine r → mode_of r.regs.stat ≡ 3 → r.beam.count < 65536
    → Up base (spot_number r) l → Drawing base r (burst n vram r).state (l ++ numbers (stored_by (burst n vram r).shots))
drawing {base} n vram r l f m c up = by ran ran.came
  where
    ran : Ran n r (burst n vram r).state (stored_by (burst n vram r).shots)
    ran = burst_ran n vram r f m c

    by : Ran n r (burst n vram r).state (stored_by (burst n vram r).shots)
        → Came r.beam.x (length (stored_by (burst n vram r).shots)) (burst n vram r).state
        → Drawing base r (burst n vram r).state (l ++ numbers (stored_by (burst n vram r).shots))
    by q (on low at k) = goes k (up_same (omega (arith, q.line)) (up_more q up))
    by q (over end at k) = stops (λ z. absurd (omega arith)) at (up_same (omega arith) (up_more q up))

module _ (base : Base) (n : ℕ) (lent : Tables) (s : State) (f : Fine s) (pace : Pace s.beam.cycle n) (c : s.beam.count < 65536) where
  ready : State
  ready = searched lent.oam (entered s)

  fine : Fine ready
  unfolding ready
  fine = ready_fine lent.oam s f

  -- nothing is drawn: the state and the list stay
  idle : {l : List ℕ} → (mode_of ready.regs.stat ≡ 3 → ⊥) → MidOf base n ready l
      → MidOf base n (working n lent s).state (l ++ numbers (stored_by (working n lent s).shots))
  unfolding working ready
  idle {l} m k =
      let o = burst_idle n lent.vram (searched lent.oam (entered s)) m in
      rw (o.0, o.1, append-nil) k

  same_line : (burst n lent.vram ready).state.beam.line ≡ ready.beam.line
  same_line = (burst_same n lent.vram ready).line

  same_cycle : (burst n lent.vram ready).state.beam.cycle ≡ ready.beam.cycle
  same_cycle = (burst_same n lent.vram ready).cycle

  -- draws from a steady state
  from_steady : {l : List ℕ} → mode_of ready.regs.stat ≡ 3 → 80 ≤ ready.beam.cycle → ready.beam.line < height → Steady ready.beam.x ready.pipe
      → left ready + ready.beam.cycle ≤ 284 → ready.beam.count < 65536 → Up base (spot_number ready) l
      → MidOf base n (burst n lent.vram ready).state (l ++ numbers (stored_by (burst n lent.vram ready).shots))
  from_steady {l} m low line t h k up = by (drawing n lent.vram ready l fine m k up)
    where
      by : Drawing base ready (burst n lent.vram ready).state (l ++ numbers (stored_by (burst n lent.vram ready).shots))
          → MidOf base n (burst n lent.vram ready).state (l ++ numbers (stored_by (burst n lent.vram ready).shots))
      by (goes g u) =
          let d = burst_falls n lent.vram ready fine t g in
          tight g (omega (arith, same_cycle)) (omega (arith, same_line)) d.1 (omega (arith, d.0, same_cycle)) u
      by (stops g x u) = ended g (omega (arith, same_cycle)) (omega (arith, same_line)) x (up_same (omega (arith, same_line)) u)

  -- draws of line 0 after a blanking
  from_loose : {l : List ℕ} → base.full ≡ false → mode_of ready.regs.stat ≡ 3 → 80 ≤ ready.beam.cycle → ready.beam.line ≡ 0 → Paced ready.pipe
      → (ready.pipe.window ≡ true) ⊎ (left ready + ready.beam.cycle ≤ 284) → ready.beam.count < 65536 → Up base (spot_number ready) l
      → MidOf base n (burst n lent.vram ready).state (l ++ numbers (stored_by (burst n lent.vram ready).shots))
  from_loose {l} z m low line o h k up = by (drawing n lent.vram ready l fine m k up)
    where
      by : Drawing base ready (burst n lent.vram ready).state (l ++ numbers (stored_by (burst n lent.vram ready).shots))
          → MidOf base n (burst n lent.vram ready).state (l ++ numbers (stored_by (burst n lent.vram ready).shots))
      by (goes g u) =
          loose z g (omega (arith, same_cycle)) (same_line ∙ line) (burst_paced n lent.vram ready o g)
          (⊎_elim (λ w. inl (burst_window n lent.vram ready w g))
          (λ e. ⊎_elim (λ w. inl w) (λ d. inr (omega (arith, same_cycle))) (burst_loose n lent.vram ready fine o g)) h)
          u
      by (stops g x u) = ended g (omega (arith, same_cycle)) (omega (arith, same_line)) x (up_same (omega (arith, same_line)) u)

  -- the draws of the step, from wherever it stands
  pub worked : {l : List ℕ} → PhaseOf base s l → MidOf base n (working n lent s).state (l ++ numbers (stored_by (working n lent s).shots))
  unfolding working ready
  worked {l} (before m low line e up) = ⊎_elim early starts (less_or s.beam.cycle low)
    where
      early : s.beam.cycle < 80 → MidOf base n (burst n lent.vram ready).state (l ++ numbers (stored_by (burst n lent.vram ready).shots))
      early h =
          let v = view_early lent.oam s line h in
          let other : mode_of ready.regs.stat ≡ 3 → ⊥ = λ z. v.1 m (sym v.2.mode ∙ z) in
          idle {l = l} other (before other (rw v.2.cycle (pace.upto 20 f.beam.even h)) (rw v.2.line line)
          (rw (v.2.line, v.2.x, v.2.pipe) e) (rw (v.2.line, v.2.x) up))

      starts : s.beam.cycle ≡ 80 → MidOf base n (burst n lent.vram ready).state (l ++ numbers (stored_by (burst n lent.vram ready).shots))
      starts h =
          let v = view_render lent.oam s line h in
          let o : Paced ready.pipe = paced_start ready.pipe (rw v.pipe refl) in
          let d : ready.pipe.discard ≤ 7 = rw v.pipe (omega arith) in
          let most : left ready ≤ 204 = left_any ready d in
          let at : 80 ≤ ready.beam.cycle = omega (arith, v.cycle) in
          let here : left ready + ready.beam.cycle ≤ 284 = omega (arith, v.cycle) in
          let u : Up base (spot_number ready) l = rw (v.line, v.x) up in
          by v o d at here u e
        where
          by : View s 3 (rendering s.regs.scx s.pipe) ready → Paced ready.pipe → ready.pipe.discard ≤ 7 → 80 ≤ ready.beam.cycle
              → left ready + ready.beam.cycle ≤ 284 → Up base (spot_number ready) l → Entry base s.beam.line s.beam.x s.pipe
              → MidOf base n (burst n lent.vram ready).state (l ++ numbers (stored_by (burst n lent.vram ready).shots))
          by v o d at here u (at0 x) = from_steady {l = l} v.mode at (rw v.line line) (steady_start o d (v.x ∙ x)) here (rw v.count c) u
          by v o d at here u (inside w) =
              from_steady {l = l} v.mode at (rw v.line line) (steady_inside o (rw v.pipe w)) here (rw v.count c) u
          by v o d at here u (first' b z) = from_loose {l = l} b v.mode at (v.line ∙ z) o (inr here) (rw v.count c) u
  worked {l} (tight m low line t h up) =
      let v = rw m at (view_late lent.oam s line low) in
      from_steady {l = l} v.mode (omega (arith, v.cycle)) (rw v.line line) (steady_view v t) (rw (left_view v, v.cycle) h) (rw v.count c)
      (rw (v.line, v.x) up)
  worked {l} (loose z m low line o h up) =
      let v = rw m at (view_late lent.oam s (omega arith) low) in
      from_loose {l = l} z v.mode (omega (arith, v.cycle)) (v.line ∙ line) (rw v.pipe o)
      (⊎_elim (λ w. inl (rw v.pipe w)) (λ k. inr (rw (left_view v, v.cycle) k)) h) (rw v.count c) (rw (v.line, v.x) up)
  worked {l} (carried z line cycle w up) =
      let v = view_scan lent.oam s (omega arith) cycle in
      let other : mode_of ready.regs.stat ≡ 3 → ⊥ = λ z. absurd (omega (arith, v.mode)) in
      idle {l = l} other (before other (omega (arith, v.cycle, pace.most)) (omega (arith, v.line)) (inside (rw v.pipe w))
      (rw (v.line, v.x) up))
  worked {l} (ended m low line x up) =
      let v = view_late lent.oam s line low in
      let other : mode_of ready.regs.stat ≡ 3 → ⊥ = λ z. m (sym v.mode ∙ z) in
      idle {l = l} other (ended other (omega (arith, v.cycle)) (rw v.line line) (v.x ∙ x) (rw v.line up))
  worked {l} (rest m line x up) =
      let v = view_below lent.oam s line in
      let other : mode_of ready.regs.stat ≡ 3 → ⊥ = v.mode m in
      idle {l = l} other (rest other (rw v.line line) (v.x ∙ x) up)
