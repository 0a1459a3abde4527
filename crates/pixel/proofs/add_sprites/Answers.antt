-- `pixel::add_sprites` meets its contract. The invariant: so many of the selected sprites are laid in, the others are left.
use mathlib.Core.Path.{refl}
use native.Mathlib.Omega.{arith}
use borrow.Author.Tests.{not-true, not-false}
use Rattle.pixel.specs.Sprites.{sprites_added}
use Rattle.pixel.proofs.add_sprites.Invariants.{left_all, left_more}
use Rattle.pixel.proofs.add_sprites.Goals as goal

pub returns-then-not-bit : goal.returns-then-not-bit
unfolding sprites_added
returns-then-not-bit c = rw (← c.bit.ensures, not-true c.bit.result c.if-not-bit.true-raw)

pub loop-slot-init : goal.loop-slot-init
loop-slot-init c = record { few = omega arith; left = refl }

pub add_sprite-queue-requires : goal.add_sprite-queue-requires
add_sprite-queue-requires c = (c.requires.0, c.loop-slot.invariant.few)

pub loop-slot-preserved : goal.loop-slot-preserved
loop-slot-preserved c =
    let a = c.args in
    left_more a.vram.now a.r a.palettes.bytes a.at _ (omega arith) c.add_sprite-queue.ensures c.loop-slot.invariant

pub returns : goal.returns
unfolding sprites_added
returns c =
    let a = c.args in
    let all = left_all a.vram.now a.r a.palettes.bytes a.at (omega arith) c.loop-slot.invariant in
    rw (← c.bit.ensures, not-false c.bit.result c.if-not-bit.false-raw, ← c.entries-slot-items.ensures) all
