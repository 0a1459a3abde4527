-- `captures::read_call` meets its contract. Each end has the tests on the way there.
use mathlib.Core.Path.{refl}
use Rattle.captures.specs.Reading.{read_call}
use Rattle.captures.proofs.Texts.{same_word}
use Rattle.captures.proofs.read_call.Goals as goal

pub returns-then-eq : goal.returns-then-eq
unfolding read_call
returns-then-eq c =
    rw (same_word c.args.name.now _ c.as_slice.ensures c.eq.ensures c.if-eq.true) c.read_start.ensures

pub returns-then-eq-2 : goal.returns-then-eq-2
unfolding read_call
returns-then-eq-2 c =
    rw (
      same_word c.args.name.now _ c.as_slice.ensures c.eq.ensures c.if-eq.false,
      same_word c.args.name.now _ c.as_slice-else-eq.ensures c.eq-else-eq.ensures c.if-eq-2.true,
    ) c.read_write.ensures

pub returns-then-eq-3 : goal.returns-then-eq-3
unfolding read_call
returns-then-eq-3 c =
    rw (
      same_word c.args.name.now _ c.as_slice.ensures c.eq.ensures c.if-eq.false,
      same_word c.args.name.now _ c.as_slice-else-eq.ensures c.eq-else-eq.ensures c.if-eq-2.false,
      same_word c.args.name.now _ c.as_slice-else-eq-2.ensures c.eq-else-eq-2.ensures c.if-eq-3.true,
    ) c.read_vram.ensures

pub returns-then-eq-4 : goal.returns-then-eq-4
unfolding read_call
returns-then-eq-4 c =
    rw (
      same_word c.args.name.now _ c.as_slice.ensures c.eq.ensures c.if-eq.false,
      same_word c.args.name.now _ c.as_slice-else-eq.ensures c.eq-else-eq.ensures c.if-eq-2.false,
      same_word c.args.name.now _ c.as_slice-else-eq-2.ensures c.eq-else-eq-2.ensures c.if-eq-3.false,
      same_word c.args.name.now _ c.as_slice-else-eq-3.ensures c.eq-else-eq-3.ensures c.if-eq-4.true,
    ) c.read_oam.ensures

pub returns-then-eq-5 : goal.returns-then-eq-5
unfolding read_call
returns-then-eq-5 c =
    rw (
      same_word c.args.name.now _ c.as_slice.ensures c.eq.ensures c.if-eq.false,
      same_word c.args.name.now _ c.as_slice-else-eq.ensures c.eq-else-eq.ensures c.if-eq-2.false,
      same_word c.args.name.now _ c.as_slice-else-eq-2.ensures c.eq-else-eq-2.ensures c.if-eq-3.false,
      same_word c.args.name.now _ c.as_slice-else-eq-3.ensures c.eq-else-eq-3.ensures c.if-eq-4.false,
      same_word c.args.name.now _ c.as_slice-else-eq-4.ensures c.eq-else-eq-4.ensures c.if-eq-5.true,
    ) c.read_step.ensures

pub returns-then-eq-6 : goal.returns-then-eq-6
unfolding read_call
returns-then-eq-6 c =
    rw (
      same_word c.args.name.now _ c.as_slice.ensures c.eq.ensures c.if-eq.false,
      same_word c.args.name.now _ c.as_slice-else-eq.ensures c.eq-else-eq.ensures c.if-eq-2.false,
      same_word c.args.name.now _ c.as_slice-else-eq-2.ensures c.eq-else-eq-2.ensures c.if-eq-3.false,
      same_word c.args.name.now _ c.as_slice-else-eq-3.ensures c.eq-else-eq-3.ensures c.if-eq-4.false,
      same_word c.args.name.now _ c.as_slice-else-eq-4.ensures c.eq-else-eq-4.ensures c.if-eq-5.false,
      same_word c.args.name.now _ c.as_slice-else-eq-5.ensures c.eq-else-eq-5.ensures c.if-eq-6.true,
    ) c.read_corrupt.ensures

pub returns-then-eq-7 : goal.returns-then-eq-7
unfolding read_call
returns-then-eq-7 c =
    rw (
      same_word c.args.name.now _ c.as_slice.ensures c.eq.ensures c.if-eq.false,
      same_word c.args.name.now _ c.as_slice-else-eq.ensures c.eq-else-eq.ensures c.if-eq-2.false,
      same_word c.args.name.now _ c.as_slice-else-eq-2.ensures c.eq-else-eq-2.ensures c.if-eq-3.false,
      same_word c.args.name.now _ c.as_slice-else-eq-3.ensures c.eq-else-eq-3.ensures c.if-eq-4.false,
      same_word c.args.name.now _ c.as_slice-else-eq-4.ensures c.eq-else-eq-4.ensures c.if-eq-5.false,
      same_word c.args.name.now _ c.as_slice-else-eq-5.ensures c.eq-else-eq-5.ensures c.if-eq-6.false,
      same_word c.args.name.now _ c.as_slice-else-eq-6.ensures c.eq-else-eq-6.ensures c.if-eq-7.true,
    ) c.read_colour.ensures

pub returns-else-eq-7 : goal.returns-else-eq-7
unfolding read_call
returns-else-eq-7 c =
    rw (
      same_word c.args.name.now _ c.as_slice.ensures c.eq.ensures c.if-eq.false,
      same_word c.args.name.now _ c.as_slice-else-eq.ensures c.eq-else-eq.ensures c.if-eq-2.false,
      same_word c.args.name.now _ c.as_slice-else-eq-2.ensures c.eq-else-eq-2.ensures c.if-eq-3.false,
      same_word c.args.name.now _ c.as_slice-else-eq-3.ensures c.eq-else-eq-3.ensures c.if-eq-4.false,
      same_word c.args.name.now _ c.as_slice-else-eq-4.ensures c.eq-else-eq-4.ensures c.if-eq-5.false,
      same_word c.args.name.now _ c.as_slice-else-eq-5.ensures c.eq-else-eq-5.ensures c.if-eq-6.false,
      same_word c.args.name.now _ c.as_slice-else-eq-6.ensures c.eq-else-eq-6.ensures c.if-eq-7.false,
    ) refl
