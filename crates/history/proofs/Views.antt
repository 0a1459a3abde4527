-- What the start of a step does to mode, pipe and beam, place by place.
use mathlib.Core.Path.{◌≡◌, refl}
use mathlib.Core.List.{List}
use Prim.Native.Nat.{ℕ, ◌≤◌, ◌<◌}
use native.Mathlib.Omega.{arith}
use Rattle.hardware.specs.Screen.{height}
use Rattle.state.specs.With.{mode_of}
use Rattle.state.specs.declared.Pipe.{Pipe}
use Rattle.state.specs.declared.State.{State}
use Rattle.modes.specs.Modes.{in_mode, rendering, entered, searched}
use Rattle.modes.proofs.Ways.{entered_cases, searched_cases}

-- mode and pipe of a state, and where its beam stands
pub record View (s : State) (m : ℕ) (p : Pipe) (u : State) : Type 0 where
  pub mode : mode_of u.regs.stat ≡ m
  pub pipe : u.pipe ≡ p
  pub line : u.beam.line ≡ s.beam.line
  pub cycle : u.beam.cycle ≡ s.beam.cycle
  pub x : u.beam.x ≡ s.beam.x
  pub count : u.beam.count ≡ s.beam.count

in_mode_law : (s : State) (mode : ℕ) (p : Pipe) (end : ℕ) → mode < 4 → View s mode p (in_mode s mode p end)
in_mode_law s mode p end h = record { mode = omega arith; pipe = refl; line = refl; cycle = refl; x = refl; count = refl }

stays : (s : State) → View s (mode_of s.regs.stat) s.pipe s
stays s = record { mode = refl; pipe = refl; line = refl; cycle = refl; x = refl; count = refl }

-- the search changes the selection alone
searches : (oam : List ℕ) (s u : State) {mode : ℕ} {p : Pipe} → View s mode p u → View s mode p (searched oam u)
searches oam s u {mode} {p} v =
    searched_cases (View s mode p) oam u
    (record { mode = v.mode; pipe = v.pipe; line = v.line; cycle = v.cycle; x = v.x; count = v.count }) v

-- the places where a mode begins
module _ (oam : List ℕ) (s : State) where
  -- mode 2 begins at cycle 0 of a line of the picture
  pub view_scan : s.beam.line < height → s.beam.cycle ≡ 0 → View s 2 s.pipe (searched oam (entered s))
  view_scan l c =
      searches oam s _ (entered_cases (View s 2 s.pipe) s
      (λ a b. in_mode_law s 2 s.pipe 0 (omega arith)) (λ a b. absurd (omega arith)) (λ a b. absurd (omega arith)) (λ a b. absurd (a l c)))

  -- before cycle 80 of a line of the picture: mode 2, or the mode held
  pub view_early : s.beam.line < height → s.beam.cycle < 80
      → (mode : ℕ) × ((mode_of s.regs.stat ≡ 3 → ⊥) → mode ≡ 3 → ⊥) × View s mode s.pipe (searched oam (entered s))
  view_early l c =
      let held = entered_cases (λ (u : State). (mode : ℕ) × ((mode_of s.regs.stat ≡ 3 → ⊥) → mode ≡ 3 → ⊥) × View s mode s.pipe u) s
      (λ a b. (2, λ n e. omega arith, in_mode_law s 2 s.pipe 0 (omega arith))) (λ a b. absurd (omega arith)) (λ a b. absurd (omega arith))
      (λ a b. (mode_of s.regs.stat, λ n e. n e, stays s))
      in
      (held.0, held.1, searches oam s _ held.2)

  -- mode 3 begins at cycle 80
  pub view_render : s.beam.line < height → s.beam.cycle ≡ 80 → View s 3 (rendering s.regs.scx s.pipe) (searched oam (entered s))
  view_render l c =
      let p = rendering s.regs.scx s.pipe in
      searches oam s _ (entered_cases (View s 3 p) s
      (λ a b. absurd (omega arith)) (λ a b. in_mode_law s 3 p s.beam.end (omega arith)) (λ a b. absurd (omega arith)) (λ a b. absurd (b l c)))

  -- past cycle 80 of a line of the picture nothing begins
  pub view_late : s.beam.line < height → 80 < s.beam.cycle → View s (mode_of s.regs.stat) s.pipe (searched oam (entered s))
  view_late l c =
      searches oam s _ (entered_cases (View s (mode_of s.regs.stat) s.pipe) s
      (λ a b. absurd (omega arith)) (λ a b. absurd (omega arith)) (λ a b. absurd (omega arith)) (λ a b. stays s))

-- below the picture mode 3 never begins
pub record Rested (s u : State) : Type 0 where
  pub mode : (mode_of s.regs.stat ≡ 3 → ⊥) → mode_of u.regs.stat ≡ 3 → ⊥
  pub line : u.beam.line ≡ s.beam.line
  pub cycle : u.beam.cycle ≡ s.beam.cycle
  pub x : u.beam.x ≡ s.beam.x
  pub count : u.beam.count ≡ s.beam.count

pub view_below : (oam : List ℕ) (s : State) → height ≤ s.beam.line → Rested s (searched oam (entered s))
view_below oam s l =
    let held = entered_cases (Rested s) s
    (λ a b. absurd (omega arith)) (λ a b. absurd (omega arith))
    (λ a b. record { mode = λ n e. omega arith; line = refl; cycle = refl; x = refl; count = refl })
    (λ a b. record { mode = λ n e. n e; line = refl; cycle = refl; x = refl; count = refl })
    in
    searched_cases (Rested s) oam (entered s)
    (record { mode = held.mode; line = held.line; cycle = held.cycle; x = held.x; count = held.count }) held

-- the count of the state that draws
pub ready_count : (oam : List ℕ) (s : State) → (searched oam (entered s)).beam.count ≡ s.beam.count
ready_count oam s =
    let same : (entered s).beam.count ≡ s.beam.count =
    entered_cases (λ (u : State). u.beam.count ≡ s.beam.count) s (λ a b. refl) (λ a b. refl) (λ a b. refl) (λ a b. refl)
    in
    searched_cases (λ (u : State). u.beam.count ≡ s.beam.count) oam (entered s) same same
