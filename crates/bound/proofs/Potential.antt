-- Each draw that does not end the line lowers the number of draws left, and keeps what that needs.
use mathlib.Core.Path.{◌≡◌, refl, sym, ap, ◌∙◌}
use mathlib.Core.Bool.{Bool, true, false}
use mathlib.Core.Logic.{◌⊎◌, inl, inr, ⊎_elim}
use mathlib.Core.List.{List}
use Prim.Native.Nat.{ℕ, ◌+◌, ◌-◌, ◌≤◌, ◌<◌}
use native.Mathlib.Omega.{arith}
use Rattle.hardware.specs.Screen.{width}
use Rattle.state.specs.With.{mode_of, with_pipe}
use Rattle.state.specs.declared.Registers.{Registers}
use Rattle.state.specs.declared.Pipe.{Pipe}
use Rattle.state.specs.declared.State.{State}
use Rattle.order.specs.Fine.{Fine}
use Rattle.pipe.specs.Window.{window_entered, windowed, discard_at}
use Rattle.pipe.proofs.Ways.{Enters, windowed_cases}
use Rattle.draw.specs.Draw.{fed_pipe, drawn_if}
use Rattle.draw.specs.declared.Drawn.{Drawn}
use Rattle.draw.proofs.Ways.{drawn_cases}
use Rattle.bound.specs.Potential.{waits, filled, entry_cost, left_at, left, Paced, Steady, Goes, Ended}
use Rattle.bound.proofs.Filling.{waits_most, entry_short, Fed, fed_pipe_law}

-- the bounds of the number itself
pub left_any : (s : State) → s.pipe.discard ≤ 7 → left s ≤ 204
left_any s h = by s.pipe.window
  where
    by : (b : Bool) → (width - s.beam.x) + s.pipe.discard + (15 - filled s.pipe) + entry_cost b ≤ 204
    by true = omega arith
    by false = omega arith

pub left_positive : (s : State) → s.beam.x < width → 0 < left s
left_positive s h = omega arith

-- mode 3 starts with a delay of 8, and at x 0 or in the window
pub paced_start : (p : Pipe) → p.fetcher.delay ≡ 8 → Paced p
paced_start p e = record { running = omega arith; behind = λ d. absurd (omega arith) }

pub steady_inside : {x : ℕ} {p : Pipe} → Paced p → p.window ≡ true → Steady x p
steady_inside {p = q} p i = record { paced = p; short = λ o. absurd (outside o); still = λ o h. absurd (outside o) }
  where
    outside : q.window ≡ false → ⊥
    outside o = let z : ◌≡◌ {A = ℕ} 0 1 = cc in omega arith

pub steady_start : {x : ℕ} {p : Pipe} → Paced p → p.discard ≤ 7 → x ≡ 0 → Steady x p
steady_start p d e = record { paced = p; short = λ o. d; still = λ o h. absurd (omega arith) }

-- the window is entered, or nothing changes
module _ (allowed : Bool) (x wx : ℕ) (p : Pipe) where
  way : (windowed allowed x wx p ≡ p) ⊎ (Enters allowed p.window x wx × (windowed allowed x wx p ≡ window_entered wx p))
  way =
      windowed_cases allowed x wx p (λ w. (w ≡ p) ⊎ (Enters allowed p.window x wx × (w ≡ window_entered wx p)))
      (λ e. inl refl) (λ e. inr (e, refl))

  windowed_inside : p.window ≡ true → (windowed allowed x wx p).window ≡ true
  windowed_inside i = windowed_cases allowed x wx p (λ w. w.window ≡ true) (λ e. i) (λ e. refl)

  -- not entered: unchanged
  windowed_same : (windowed allowed x wx p).window ≡ p.window → windowed allowed x wx p ≡ p
  windowed_same =
      windowed_cases allowed x wx p (λ w. w.window ≡ p.window → w ≡ p) (λ e k. refl)
      (λ e k. let o = e.outside in let z : ◌≡◌ {A = ℕ} 0 1 = cc in absurd (omega arith))

  -- still outside: unchanged
  windowed_outside : (windowed allowed x wx p).window ≡ false → windowed allowed x wx p ≡ p
  windowed_outside =
      windowed_cases allowed x wx p (λ w. w.window ≡ false → w ≡ p) (λ e k. refl)
      (λ e k. let z : ◌≡◌ {A = ℕ} 0 1 = cc in absurd (omega arith))

-- one part of a sum falls, and the others do not rise
sum_falls : (a d g e a' d' g' e' : ℕ) → a' + d' + 1 ≤ a + d → g' ≤ g → e' ≡ e → a' + d' + g' + e' + 1 ≤ a + d + g + e
sum_falls a d g e a' d' g' e' h k l = omega arith

-- a pixel leaves the queue
rest_filled : (len w e g : ℕ) → 8 < len → 16 - (len + w + e) ≤ g → 15 - ((len - 1) + w + e) ≤ g
rest_filled len w e g h k = omega arith

module _ (allowed : Bool) (vram : List ℕ) (s : State) (f : Fine s) where
  -- from the pipe after the window on, the number falls
  falls_from : (p : Pipe) → p.fetcher.delay ≤ 8 → Paced p → Fed p (fed_pipe allowed vram s)
      → mode_of (drawn_if allowed vram s).state.regs.stat ≡ 3 → left (drawn_if allowed vram s).state + 1 ≤ left_at s.beam.x p
  falls_from p low o fed =
      drawn_cases allowed vram s (λ (d : Drawn). mode_of d.state.regs.stat ≡ 3 → left d.state + 1 ≤ left_at s.beam.x p)
      (λ h m. let n = fed.clear h in let run = fed.running in let r = rises in let k = same in let d = fed.discard in omega arith)
      (λ h d m. sum_falls _ _ _ _ (width - s.beam.x) (q.discard - 1) _ _ (let e = fed.discard in omega arith) (pops h) same)
      (λ h d l m. sum_falls _ _ _ _ (width - (s.beam.x + 1)) q.discard _ _ (let e = fed.discard in let x = f.beam.x in omega arith) (pops h) same)
      (λ h d l m. absurd (omega arith))
    where
      q : Pipe
      q = fed_pipe allowed vram s

      rises : 16 - filled q ≤ 15 - filled p
      rises = fed.rises o low

      same : entry_cost q.window ≡ entry_cost p.window
      same = ap entry_cost fed.window

      pops : 8 < q.bg.len → 15 - ((q.bg.len - 1) + waits q.fetcher.waiting + (8 - q.fetcher.delay)) ≤ 15 - filled p
      pops h = rest_filled q.bg.len (waits q.fetcher.waiting) (8 - q.fetcher.delay) (15 - filled p) h rises

  -- the window is not entered
  pub falls_outside : Paced s.pipe → (windowed allowed s.beam.x s.regs.wx s.pipe).window ≡ s.pipe.window
      → mode_of (drawn_if allowed vram s).state.regs.stat ≡ 3 → left (drawn_if allowed vram s).state + 1 ≤ left s
  falls_outside o e = falls_from s.pipe f.pipe.fetcher.delay o (rw (windowed_same allowed s.beam.x s.regs.wx s.pipe e) at (fed_pipe_law allowed vram s))

  -- it is entered in this draw, and at most seven are to be discarded
  falls_entering : discard_at s.regs.wx s.pipe.discard ≤ 7 → s.pipe.window ≡ false → Fed (window_entered s.regs.wx s.pipe) (fed_pipe allowed vram s)
      → mode_of (drawn_if allowed vram s).state.regs.stat ≡ 3 → left (drawn_if allowed vram s).state + 1 ≤ left s
  falls_entering short o fed =
      let few : (fed_pipe allowed vram s).bg.len ≤ 8 = fed.empty refl in
      drawn_cases allowed vram s (λ (d : Drawn). mode_of d.state.regs.stat ≡ 3 → left d.state + 1 ≤ left s)
      (λ h m. rests (fed.some f.pipe.fetcher.delay))
      (λ h d m. absurd (omega arith))
      (λ h d l m. absurd (omega arith))
      (λ h d l m. absurd (omega arith))
    where
      q : Pipe
      q = fed_pipe allowed vram s

      costs : (a d g e d' g' e' : ℕ) → d' ≤ 7 → 0 < g' → e' ≡ 0 → e ≡ 22 → a + d' + (15 - g') + e' + 1 ≤ a + d + g + e
      costs a d g e d' g' e' h k l m = omega arith

      few_discards : (d d' : ℕ) → d' ≡ d → d ≤ 7 → d' ≤ 7
      few_discards d d' e h = omega arith

      rests : 0 < filled q → left (with_pipe s q) + 1 ≤ left s
      rests some =
          costs (width - s.beam.x) _ _ _ q.discard (filled q) _ (few_discards _ q.discard fed.discard short) some
          (ap entry_cost fed.window) (ap entry_cost o)

  -- a draw that does not end the line lowers the number
  pub falls : Steady s.beam.x s.pipe → mode_of (drawn_if allowed vram s).state.regs.stat ≡ 3 → left (drawn_if allowed vram s).state + 1 ≤ left s
  falls t m =
      ⊎_elim
      (λ e. falls_from s.pipe f.pipe.fetcher.delay t.paced (rw e at (fed_pipe_law allowed vram s)) m)
      (λ e.
      let o = e.0.outside in
      falls_entering (entry_short s.beam.x s.regs.wx s.pipe.discard e.0.here (t.still o)) o (rw e.1 at (fed_pipe_law allowed vram s)) m)
      (way allowed s.beam.x s.regs.wx s.pipe)

module _ (allowed : Bool) (vram : List ℕ) (s : State) where
  -- once in the window, the line goes on in it
  into_kept : (windowed allowed s.beam.x s.regs.wx s.pipe).window ≡ true → mode_of (drawn_if allowed vram s).state.regs.stat ≡ 3 → (drawn_if allowed vram s).state.pipe.window ≡ true
  into_kept i =
      let inside = (fed_pipe_law allowed vram s).window ∙ i in
      drawn_cases allowed vram s (λ (d : Drawn). mode_of d.state.regs.stat ≡ 3 → d.state.pipe.window ≡ true)
      (λ h m. inside) (λ h d m. inside) (λ h d l m. inside) (λ h d l m. absurd (omega arith))

  pub window_kept : s.pipe.window ≡ true → mode_of (drawn_if allowed vram s).state.regs.stat ≡ 3 → (drawn_if allowed vram s).state.pipe.window ≡ true
  window_kept i = into_kept (windowed_inside allowed s.beam.x s.regs.wx s.pipe i)

  -- a draw leaves the pace that the next needs, from any state
  pub paced_kept : mode_of (drawn_if allowed vram s).state.regs.stat ≡ 3 → Paced (drawn_if allowed vram s).state.pipe
  paced_kept =
      let run = (fed_pipe_law allowed vram s).running in
      let most = waits_most (fed_pipe allowed vram s).fetcher.waiting in
      drawn_cases allowed vram s (λ (d : Drawn). mode_of d.state.regs.stat ≡ 3 → Paced d.state.pipe)
      (λ h m. let n = (fed_pipe_law allowed vram s).clear h in record { running = run; behind = λ e. omega arith })
      (λ h d m. record { running = run; behind = λ e. omega arith })
      (λ h d l m. record { running = run; behind = λ e. omega arith })
      (λ h d l m. absurd (omega arith))

  -- a pipe still outside the window was outside, and discards what it did
  outside_still : (fed_pipe allowed vram s).window ≡ false → (s.pipe.window ≡ false) × ((fed_pipe allowed vram s).discard ≡ s.pipe.discard)
  outside_still o =
      let e = windowed_outside allowed s.beam.x s.regs.wx s.pipe (sym (fed_pipe_law allowed vram s).window ∙ o) in
      (sym (ap (λ (p : Pipe). p.window) e) ∙ sym (fed_pipe_law allowed vram s).window ∙ o, (fed_pipe_law allowed vram s).discard ∙ ap (λ (p : Pipe). p.discard) e)

  pub steady_kept : Steady s.beam.x s.pipe → mode_of (drawn_if allowed vram s).state.regs.stat ≡ 3
      → Steady (drawn_if allowed vram s).state.beam.x (drawn_if allowed vram s).state.pipe
  steady_kept t m = record { paced = paced_kept m; short = short m; still = still m }
    where
      short : mode_of (drawn_if allowed vram s).state.regs.stat ≡ 3 → (drawn_if allowed vram s).state.pipe.window ≡ false → (drawn_if allowed vram s).state.pipe.discard ≤ 7
      short =
          drawn_cases allowed vram s (λ (d : Drawn). mode_of d.state.regs.stat ≡ 3 → d.state.pipe.window ≡ false → d.state.pipe.discard ≤ 7)
          (λ h m o. let e = outside_still o in let k = t.short e.0 in omega arith)
          (λ h d m o. let e = outside_still o in let k = t.short e.0 in omega arith)
          (λ h d l m o. omega arith)
          (λ h d l m o. omega arith)

      still : mode_of (drawn_if allowed vram s).state.regs.stat ≡ 3 → (drawn_if allowed vram s).state.pipe.window ≡ false → 0 < (drawn_if allowed vram s).state.beam.x
          → (drawn_if allowed vram s).state.pipe.discard ≡ 0
      still =
          drawn_cases allowed vram s (λ (d : Drawn). mode_of d.state.regs.stat ≡ 3 → d.state.pipe.window ≡ false → 0 < d.state.beam.x → d.state.pipe.discard ≡ 0)
          (λ h m o x. let e = outside_still o in e.1 ∙ t.still e.0 x)
          (λ h d m o x. let e = outside_still o in let k = t.still e.0 x in omega arith)
          (λ h d l m o x. d)
          (λ h d l m o x. d)

module _ (allowed : Bool) (vram : List ℕ) (s : State) (f : Fine s) where
  -- the window is in, or the number falls
  pub entered_or_falls : Paced s.pipe → mode_of (drawn_if allowed vram s).state.regs.stat ≡ 3
      → ((drawn_if allowed vram s).state.pipe.window ≡ true) ⊎ (left (drawn_if allowed vram s).state + 1 ≤ left s)
  entered_or_falls o m =
      ⊎_elim
      (λ e. inr (falls_outside allowed vram s f o (ap (λ (p : Pipe). p.window) e) m))
      (λ e. inl (into_kept allowed vram s (ap (λ (p : Pipe). p.window) e.1) m))
      (way allowed s.beam.x s.regs.wx s.pipe)

  -- the line goes on, or ended
  pub goes_or_ends : Goes s (drawn_if allowed vram s).state ⊎ Ended (drawn_if allowed vram s).state
  goes_or_ends =
      let x : s.beam.x < width = f.beam.x in
      drawn_cases allowed vram s (λ (d : Drawn). Goes s d.state ⊎ Ended d.state)
      (λ h. inl (record { regs = refl; x = inl refl; within = x }))
      (λ h d. inl (record { regs = refl; x = inl refl; within = x }))
      (λ h d l. inl (record { regs = refl; x = inr refl; within = omega arith }))
      (λ h d l. inr (record { mode = omega arith; x = refl; window = refl }))

  -- out of mode 3 it ended
  pub ends_at_zero : mode_of s.regs.stat ≡ 3 → (mode_of (drawn_if allowed vram s).state.regs.stat ≡ 3 → ⊥) → Ended (drawn_if allowed vram s).state
  ends_at_zero m n = ⊎_elim (λ g. absurd (n (ap (λ (r : Registers). mode_of r.stat) g.regs ∙ m))) (λ e. e) goes_or_ends
