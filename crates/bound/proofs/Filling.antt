-- What the window, the fetcher and the row that goes in mean for the numbers of the pipe.
use Rattle.std.proofs.Common.{Option, Some, None}
use mathlib.Core.Path.{◌≡◌, refl}
use mathlib.Core.Bool.{Bool, true, false, not, cond, ◌&&◌, ◌||◌}
use mathlib.Core.List.{List}
use Prim.Native.Nat.{ℕ, ◌+◌, ◌-◌, ◌≤◌, ◌<◌}
use native.Mathlib.Omega.{arith}
use borrow.Author.Tests.{eqb-true, eqb-false, ltb-true, ltb-false}
use lib.Dec.{eqb, ltb}
use Rattle.wrap.specs.Wrap.{minus}
use Rattle.tiles.specs.Map.{fetch_bg}
use Rattle.state.specs.With.{with_fetcher}
use Rattle.state.specs.declared.Registers.{Registers}
use Rattle.state.specs.declared.Pipe.{Pipe}
use Rattle.state.specs.declared.State.{State}
use Rattle.pipe.specs.Window.{reached, discard_at, windowed}
use Rattle.pipe.specs.Fetching.{fetch_of, took_row, waited, fed}
use Rattle.pipe.proofs.Ways.{fetched_cases, fed_cases}
use Rattle.draw.specs.Draw.{fed_pipe}
use Rattle.bound.specs.Potential.{waits, filled, Paced}
use Rattle.bg_attribs.specs.declared.BgAttribute.{BgAttribute}

pub waits_most : (w : Option BgAttribute) → waits w ≤ 8
waits_most (Some t) = omega arith
waits_most None = omega arith

-- an entry discards at most seven, where nothing was to be discarded after the first place
pub entry_short : (x wx discard : ℕ) → reached x wx ≡ true → (0 < x → discard ≡ 0) → discard_at wx discard ≤ 7
entry_short x wx discard reach still = by (ltb wx 7) (eqb discard 0) (eqb x (minus wx 7)) (eqb x 0) refl refl refl refl reach
  where
    by : (low none here zero : Bool) → ltb wx 7 ≡ low → eqb discard 0 ≡ none → eqb x (minus wx 7) ≡ here → eqb x 0 ≡ zero
        → here || (zero && low) ≡ true → cond (low || not none) (minus 7 wx) discard ≤ 7
    by true none here zero l n h z e = let f = ltb-true wx 7 l in omega arith
    by false true here zero l n h z e = let f = eqb-true discard 0 n in omega arith
    by false false true true l n h z e =
        let f = eqb-true x (minus wx 7) h in let g = eqb-true x 0 z in let k = ltb-false wx 7 l in omega arith
    by false false true false l n h z e =
        let f = eqb-false x 0 z in let g = still (omega arith) in absurd (eqb-false discard 0 n g)
    by false false false true l n h z e = let w : ◌≡◌ {A = ℕ} 0 1 = cc in omega arith
    by false false false false l n h z e = let w : ◌≡◌ {A = ℕ} 0 1 = cc in omega arith

-- from the pipe after the window to the pipe that gives pixels
pub record Fed (p q : Pipe) : Type 0 where
  pub window : q.window ≡ p.window
  pub discard : q.discard ≡ p.discard
  pub running : 0 < q.fetcher.delay
  -- what still waits, waits behind more than eight
  pub clear : q.bg.len ≤ 8 → waits q.fetcher.waiting ≡ 0
  pub empty : p.bg.len ≡ 0 → q.bg.len ≤ 8
  pub some : p.fetcher.delay ≤ 8 → 0 < filled q
  -- one more is there, or sixteen
  pub rises : Paced p → p.fetcher.delay ≤ 8 → 16 - filled q ≤ 15 - filled p

module _ (palettes : List ℕ) (p : Pipe) where
  waited_fed : 1 < p.fetcher.delay → Fed p (fed palettes (with_fetcher p (waited p.fetcher)))
  waited_fed late =
      fed_cases palettes (with_fetcher p (waited p.fetcher)) (Fed p)
      (λ h. record {
        window = refl;
        discard = refl;
        running = omega arith;
        clear = λ k. absurd (omega arith);
        empty = λ k. omega arith;
        some = λ d. omega arith;
        rises = λ o d. omega arith;
      })
      (λ h n. record {
        window = refl;
        discard = refl;
        running = omega arith;
        clear = λ k. rw n refl;
        empty = λ k. omega arith;
        some = λ d. omega arith;
        rises = λ o d. omega arith;
      })
      (λ h t n.
      let row : waits p.fetcher.waiting ≡ 8 = rw n refl in
      record {
        window = refl;
        discard = refl;
        running = omega arith;
        clear = λ k. refl;
        empty = λ k. omega arith;
        some = λ d. omega arith;
        rises = λ o d. omega arith;
      })

  took_fed : (vram : List ℕ) (r : Registers) (line : ℕ) → p.fetcher.delay ≤ 1
      → Fed p (fed palettes (with_fetcher p (took_row p.fetcher (fetch_bg vram (fetch_of r line p)))))
  took_fed vram r line soon =
      fed_cases palettes (with_fetcher p (took_row p.fetcher (fetch_bg vram (fetch_of r line p)))) (Fed p)
      (λ h. record {
        window = refl;
        discard = refl;
        running = omega arith;
        clear = λ k. absurd (omega arith);
        empty = λ k. omega arith;
        some = λ d. omega arith;
        rises = λ o d. replaced o.running o.behind h;
      })
      (λ h n. let z : ◌≡◌ {A = ℕ} 0 1 = cc in absurd (omega arith))
      (λ h t n. record {
        window = refl;
        discard = refl;
        running = omega arith;
        clear = λ k. refl;
        empty = λ k. omega arith;
        some = λ d. omega arith;
        rises = λ o d. pushed o.running o.behind;
      })
    where
      replaced : 0 < p.fetcher.delay → (p.fetcher.delay ≡ 1 → waits p.fetcher.waiting ≤ p.bg.len) → 8 < p.bg.len
          → 16 - (p.bg.len + 8 + (8 - 8)) ≤ 15 - filled p
      replaced run behind h = let b = behind (omega arith) in omega arith

      pushed : 0 < p.fetcher.delay → (p.fetcher.delay ≡ 1 → waits p.fetcher.waiting ≤ p.bg.len)
          → 16 - (p.bg.len + 8 + 0 + (8 - 8)) ≤ 15 - filled p
      pushed run behind = by p.fetcher.waiting refl (behind (omega arith))
        where
          by : (w : Option BgAttribute) → p.fetcher.waiting ≡ w → waits p.fetcher.waiting ≤ p.bg.len
              → 16 - (p.bg.len + 8 + 0 + (8 - 8)) ≤ 15 - filled p
          by (Some t) e b = let f : waits p.fetcher.waiting ≡ 8 = rw e refl in omega arith
          by None e b = let f : waits p.fetcher.waiting ≡ 0 = rw e refl in omega arith

pub fed_pipe_law : (allowed : Bool) (vram : List ℕ) (s : State) → Fed (windowed allowed s.beam.x s.regs.wx s.pipe) (fed_pipe allowed vram s)
unfolding fed_pipe
fed_pipe_law allowed vram s =
    fetched_cases vram s.regs s.beam.line p (λ f. Fed p (fed palettes f)) (waited_fed palettes p)
    (took_fed palettes p vram s.regs s.beam.line)
  where
    p : Pipe
    p = windowed allowed s.beam.x s.regs.wx s.pipe

    palettes : List ℕ
    palettes = s.palettes.bg.bytes
