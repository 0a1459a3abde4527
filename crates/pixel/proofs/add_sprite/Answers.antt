-- `pixel::add_sprite` meets its contract.
use borrow.Author.Tests.{not-true, not-false}
use Rattle.tiles.proofs.Sources.{dropped}
use Rattle.pixel.specs.Sprites.{sprite_added}
use Rattle.pixel.proofs.add_sprite.Goals as goal

pub returns-then-not-starts_at : goal.returns-then-not-starts_at
unfolding sprite_added
returns-then-not-starts_at c = rw (← c.starts_at.ensures, not-true c.starts_at.result c.if-not-starts_at.true-raw)

pub returns : goal.returns
unfolding sprite_added
returns c =
    let started = c.starts_at in
    rw
    (c.push.ensures, c.ink_of.ensures, c.sprite_colors-row.ensures, dropped.start, c.tall_of.ensures, ← started.ensures, not-false started.result c.if-not-starts_at.false-raw)
