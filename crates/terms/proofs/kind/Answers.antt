-- `terms::kind` meets its contract.
use Rattle.std.proofs.Common.{arith}
use mathlib.Core.Path.{refl, sym, ap, ◌∙◌}
use Rattle.oam_bug.specs.Kinds.{is_kind}
use Rattle.refusals.specs.Ladder.{own}
use Rattle.refusals.specs.Refused.{number_of}
use Rattle.refusals.proofs.Ladder.{lowest_none, first_none, own_none}
use Rattle.refusals.proofs.Rungs.{last, at_own}
use Rattle.terms.specs.Numbers.{timely}
use Rattle.terms.proofs.kind.Goals as goal

pub returns-clause-number : goal.returns-clause-number
returns-clause-number c =
    let passed = lowest_none _ _ (sym c.lowest.ensures ∙ ap number_of c.in_ok-lowest.was) in
    let lower = last _ c.is_kind.ensures c.need-lower.ensures in
    let higher = last _ c.is_timely.ensures c.need-higher.ensures in
    let neither = first_none (own (is_kind c.args.number) 4) (own (timely c.args.s) 5) (sym (c.first.ensures ∙ rw (lower, higher) refl) ∙ passed.own) in
    let known = own_none _ {n = 4} (omega arith) neither.0 in
    let timely = own_none _ {n = 5} (omega arith) neither.1 in
    record {
      number = at_own _ _ _ passed.sized (sym c.in_order.ensures.answer ∙ passed.ordered) (rw (c.known_kind.ensures.number, known, timely) refl);
      shape = c.in_order.ensures.shape;
    }
