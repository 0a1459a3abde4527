-- `burst::draw_all` meets its contract. The loop's invariant: what is left of the run goes on from the state and the picture reached.
use mathlib.Core.Path.{◌≡◌}
use mathlib.Core.List.{List}
use Prim.Native.Nat.{ℕ, ◌-◌, ◌≤◌}
use lib.ListN.{length}
use Rattle.hardware.specs.Screen.{picture_bytes}
use Rattle.state.specs.declared.State.{State}
use Rattle.order.specs.Fine.{Fine}
use Rattle.burst.specs.Burst.{burst, all_stored}
use Rattle.burst.proofs.draw_all.Given as goal

-- after k draws of n: the state and the picture, from which the others go on
pub record Underway (n : ℕ) (vram : List ℕ) (s₀ : State) (p₀ : List ℕ) (k : ℕ) (s : State) (p : List ℕ) : Type 0 where
  pub within : k ≤ n
  pub fine : Fine s
  pub size : length p ≡ picture_bytes
  pub state : (burst n vram s₀).state ≡ (burst (n - k) vram s).state
  pub picture : all_stored p₀ (burst n vram s₀).shots ≡ all_stored p (burst (n - k) vram s).shots

abbrev pub invariant-loop : goal.invariant-loop
invariant-loop l = Underway l.cycles l.vram l.initial.state l.initial.picture l.counter l.state l.picture
