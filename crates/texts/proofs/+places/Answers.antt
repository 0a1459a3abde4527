-- `texts::places` meets its contract.
use Rattle.std.proofs.Common.{arith, sym}
use Rattle.texts.proofs.Numbers.{places_none, places_one, places_more}
use Rattle.texts.proofs.+places.Goals.{then-more-eq0-via-then-more-eq0, then-more-eq0-via-else-more-eq0+then-n-lt10}
use Rattle.texts.proofs.+places.Goals as goal

pub returns-then-more-eq0 : goal.returns-then-more-eq0
returns-then-more-eq0 t c =
    elim c.then-more-eq0.branch [
      | then-more-eq0-via-then-more-eq0 w ↦ (sym (places_none _ _ w.if-more-eq0.true), omega arith)
      | then-more-eq0-via-else-more-eq0+then-n-lt10 w ↦ (sym (places_one _ _ w.if-more-eq0.false w.if-n-lt10.true), omega arith)
    ]

pub returns : goal.returns
returns t c = (rw c.places.ensures.0 (sym (places_more _ _ c.if-more-eq0.false c.if-n-lt10.false)), omega arith)
