-- `ppu::start` meets its contract.
use mathlib.Core.Path.{refl, sym, ◌∙◌}
use Rattle.refusals.proofs.Rungs.{at_length, at_own}
use Rattle.ppu.proofs.start.Goals as goal

pub returns-then-not-all_fit : goal.returns-then-not-all_fit
returns-then-not-all_fit c =
    let e = at_length _ _ _ (sym c.all_fit.ensures ∙ c.if-not-all_fit.true, refl) in
    record { number = e; state = c.fresh_state.ensures; tables = rw (← e) refl; pictures = rw (← e) refl }

pub returns : goal.returns
returns c =
    let e = at_own _ _ _ (sym c.all_fit.ensures ∙ c.if-not-all_fit.false) refl refl in
    let s = c.start.ensures in
    record { number = e; state = s.state; tables = rw (← e) s.tables; pictures = rw (← e) s.pictures }
