-- `pixel::add_sprites` meets its contract. The invariant: so many of the selected sprites are laid in, the others are left.
use mathlib.Core.Path.{◌≡◌, sym, ◌∙◌}
use mathlib.Core.List.{List}
use Prim.Native.Nat.{ℕ, ◌+◌, ◌≤◌, ◌<◌}
use native.Mathlib.Numerals.{add-one}
use lib.ListN.{length, get_or, drop, drop_of_length-le}
use lib.Seq.{drop-cons}
use Rattle.sprite.specs.declared.SelectedSprite.{SelectedSprite}
use Rattle.fifo.specs.Sprites.{SpriteFifo}
use Rattle.state.specs.declared.Registers.{Registers}
use Rattle.state.specs.declared.Spot.{Spot}
use Rattle.pixel.specs.Sprites.{sprite_added, all_added}
use Rattle.pixel.proofs.Added.{added_len}
use Rattle.pixel.proofs.add_sprites.Given as goal

module _ (vram : List ℕ) (r : Registers) (palettes : List ℕ) (at : Spot) where
  -- the queue while the selected sprites are laid in: at most eight, k are through and the others are left
  pub record Laying (start : SpriteFifo) (selected : List SelectedSprite) (q : SpriteFifo) (k : ℕ) : Type 0 where
    pub few : q.len ≤ 8
    pub left : all_added vram r palettes at start selected ≡ all_added vram r palettes at q (drop k selected)

  module _ {start q : SpriteFifo} {selected : List SelectedSprite} {k : ℕ} where
    pub left_more : {next : SpriteFifo} (d : SelectedSprite) → k < length selected → next ≡ sprite_added vram r palettes at q (get_or selected k d)
        → Laying start selected q k → Laying start selected next (k + 1)
    unfolding all_added
    left_more d h e w =
        record {
          few = rw e (added_len vram r palettes at q (get_or selected k d) w.few);
          left = w.left ∙ rw (drop-cons selected k d h, e, add-one);
        }

    pub left_all : length selected ≤ k → Laying start selected q k → q ≡ all_added vram r palettes at start selected
    unfolding all_added
    left_all h w = sym (w.left ∙ rw (drop_of_length-le selected h))

abbrev pub invariant-loop-slot : goal.invariant-loop-slot
invariant-loop-slot l = Laying l.vram l.r l.palettes.bytes l.at l.initial.queue l.slot-items l.queue l.slot-index
