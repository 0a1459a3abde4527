-- The ways of the parts of a draw: what holds of each result holds of the part.
use Rattle.std.proofs.Common.{Option, Some, None}
use mathlib.Core.Path.{◌≡◌, refl}
use mathlib.Core.Bool.{Bool, true, false}
use mathlib.Core.List.{List}
use Prim.Native.Nat.{ℕ, ◌-◌, ◌≤◌, ◌<◌}
use native.Mathlib.Omega.{arith}
use borrow.Author.Tests.{eqb-true, eqb-false, leb-true, leb-false, not-true}
use lib.Dec.{eqb, leb}
use Rattle.logic.proofs.Tests.{by_test}
use Rattle.logic.proofs.Both.{split}
use Rattle.bg_attribs.specs.declared.BgAttribute.{BgAttribute}
use Rattle.tiles.specs.Map.{fetch_bg}
use Rattle.state.specs.With.{with_fetcher}
use Rattle.state.specs.declared.Registers.{Registers}
use Rattle.state.specs.declared.Pipe.{Pipe}
use Rattle.pipe.specs.Window.{reached, enters, window_entered, windowed}
use Rattle.pipe.specs.Fetching.{fetch_of, fetched_pipe, took_row, waited, row_pushed, fed_by, fed}

-- the window is entered from outside, where it is open and its column is reached
pub record Enters (allowed inside : Bool) (x wx : ℕ) : Type 0 where
  pub opened : allowed ≡ true
  pub outside : inside ≡ false
  pub here : reached x wx ≡ true

pub enters_by : (allowed inside : Bool) (x wx : ℕ) → enters allowed inside x wx ≡ true → Enters allowed inside x wx
unfolding enters
enters_by allowed inside x wx e =
    let parts = split allowed _ e in
    let rest = split _ _ parts.1 in
    record { opened = parts.0; outside = not-true inside rest.0; here = rest.1 }

-- the window is not entered and nothing changes, or it is entered
pub windowed_cases : (allowed : Bool) (x wx : ℕ) (p : Pipe) (P : Pipe → Type 0)
    → (enters allowed p.window x wx ≡ false → P p)
    → (Enters allowed p.window x wx → P (window_entered wx p))
    → P (windowed allowed x wx p)
unfolding windowed
windowed_cases allowed x wx p P stays comes =
    by_test P (enters allowed p.window x wx) (λ e. comes (enters_by allowed p.window x wx e)) stays

-- the fetcher waits, or takes a row
pub fetched_cases : (vram : List ℕ) (r : Registers) (line : ℕ) (p : Pipe) (P : Pipe → Type 0)
    → (1 < p.fetcher.delay → P (with_fetcher p (waited p.fetcher)))
    → (p.fetcher.delay ≤ 1 → P (with_fetcher p (took_row p.fetcher (fetch_bg vram (fetch_of r line p)))))
    → P (fetched_pipe vram r line p)
unfolding fetched_pipe
fetched_cases vram r line p P later took =
    by_test P (eqb (p.fetcher.delay - 1) 0)
    (λ e. let z : p.fetcher.delay - 1 ≡ 0 = eqb-true _ _ e in took (omega arith))
    (λ e. let z : p.fetcher.delay - 1 ≡ 0 → ⊥ = eqb-false _ _ e in later (omega arith))

-- more than eight are queued, nothing waits, or a row goes in
pub fed_cases : (palettes : List ℕ) (p : Pipe) (P : Pipe → Type 0)
    → (8 < p.bg.len → P p)
    → (p.bg.len ≤ 8 → p.fetcher.waiting ≡ None → P p)
    → (p.bg.len ≤ 8 → (t : BgAttribute) → p.fetcher.waiting ≡ Some t → P (row_pushed palettes t p))
    → P (fed palettes p)
unfolding fed
fed_cases palettes p P full none row =
    by_test P (leb p.bg.len 8) (λ e. waits (leb-true _ _ e) p.fetcher.waiting refl) (λ e. full (leb-false _ _ e))
  where
    waits : p.bg.len ≤ 8 → (w : Option BgAttribute) → p.fetcher.waiting ≡ w → P (fed_by palettes w p)
    waits h (Some t) e = row h t e
    waits h None e = none h e
