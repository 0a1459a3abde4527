-- `captures::kind` meets its contract. Each end has the tests on the way there.
use mathlib.Core.Path.{refl}
use Rattle.captures.specs.Reading.{kind_of}
use Rattle.captures.proofs.Texts.{same_word}
use Rattle.captures.proofs.kind.Goals as goal

pub returns-then-eq : goal.returns-then-eq
unfolding kind_of
returns-then-eq c =
    rw (same_word c.args.word.now _ c.as_slice.ensures c.eq.ensures c.if-eq.true) refl

pub returns-then-eq-2 : goal.returns-then-eq-2
unfolding kind_of
returns-then-eq-2 c =
    rw (
      same_word c.args.word.now _ c.as_slice.ensures c.eq.ensures c.if-eq.false,
      same_word c.args.word.now _ c.as_slice-else-eq.ensures c.eq-else-eq.ensures c.if-eq-2.true,
    ) refl

pub returns-then-eq-3 : goal.returns-then-eq-3
unfolding kind_of
returns-then-eq-3 c =
    rw (
      same_word c.args.word.now _ c.as_slice.ensures c.eq.ensures c.if-eq.false,
      same_word c.args.word.now _ c.as_slice-else-eq.ensures c.eq-else-eq.ensures c.if-eq-2.false,
      same_word c.args.word.now _ c.as_slice-else-eq-2.ensures c.eq-else-eq-2.ensures c.if-eq-3.true,
    ) refl

pub returns-else-eq-3 : goal.returns-else-eq-3
unfolding kind_of
returns-else-eq-3 c =
    rw (
      same_word c.args.word.now _ c.as_slice.ensures c.eq.ensures c.if-eq.false,
      same_word c.args.word.now _ c.as_slice-else-eq.ensures c.eq-else-eq.ensures c.if-eq-2.false,
      same_word c.args.word.now _ c.as_slice-else-eq-2.ensures c.eq-else-eq-2.ensures c.if-eq-3.false,
    ) refl
