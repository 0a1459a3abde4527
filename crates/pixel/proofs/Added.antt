-- Laws of the sprites laid into the queue: its length, its slots and the order of its pixels. What is popped off such a queue, and
-- what is seen of it, has a colour number.
use Rattle.std.proofs.Common.{Option, Some, None}
use mathlib.Core.Path.{◌≡◌, refl, ◌∙◌}
use mathlib.Core.Bool.{Bool, true, ◌&&◌}
use mathlib.Core.List.{List, [], ◌∷◌}
use Prim.Native.Nat.{ℕ, ◌≤◌}
use native.Mathlib.Omega.{arith}
use borrow.Author.Tests.{le-leb, leb-true, not-true}
use lib.Dec.{leb}
use lib.ListN.{length, take}
use Rattle.logic.specs.Every.{every}
use Rattle.logic.proofs.Tests.{by_test}
use Rattle.logic.proofs.Both.{both, first, second}
use Rattle.logic.proofs.Every.{every_map, every_all}
use Rattle.wrap.specs.Wrap.{bit_at}
use Rattle.sprite.specs.declared.SelectedSprite.{SelectedSprite}
use Rattle.sprite.specs.declared.Selection.{Selection}
use Rattle.fifo.specs.Sprites.{sprite_queued, inked, inked_row, sprite_pushed, sprite_popped}
use Rattle.fifo.specs.declared.BgFifoPixel.{BgFifoPixel}
use Rattle.fifo.specs.Sprites.{SpriteFifo}
use Rattle.fifo.specs.declared.SpriteFifoPixel.{SpriteFifoPixel}
use Rattle.fifo.proofs.Sprites.{inked_row_length, sprite_pushed_slots, sprite_pushed_every, sprite_pixel_every}
use Rattle.tiles.specs.Objects.{starts_at, sprite_colours}
use Rattle.tiles.proofs.Colours.{Small, sprite_colours_law}
use Rattle.state.specs.declared.Registers.{Registers}
use Rattle.state.specs.declared.Spot.{Spot}
use Rattle.order.specs.Order.{slot_order, sprite_pixel_order}
use Rattle.order.specs.Fine.{SelectionFine, SpriteFine}
use Rattle.pixel.specs.Mixer.{wins, winner, Coloured}
use Rattle.pixel.specs.Sprites.{tall_of, ink_of, pixels_of, sprite_added, all_added, sprites_added, elsewhere, none_starts}

-- a pixel popped off a queue in order has a colour number
pub popped_coloured : (q : SpriteFifo) → every sprite_pixel_order (sprite_queued q) ≡ true → Coloured (sprite_popped q).answer
popped_coloured q e = of (sprite_popped q).answer refl
  where
    of : (a : Option SpriteFifoPixel) → (sprite_popped q).answer ≡ a → Coloured a
    of (Some p) same =
        let small : p.color ≤ 3 = leb-true _ _ (first _ (leb p.obp 1 && leb p.index 39) (sprite_pixel_every q sprite_pixel_order p e same)) in
        omega arith
    of None same = tt

-- and so has what is seen
pub winner_coloured : (r : Registers) (b : BgFifoPixel) (pop : Option SpriteFifoPixel) → Coloured pop → Coloured (winner r b pop)
unfolding winner
winner_coloured r b (Some s) h = by_test Coloured (wins r b s) (λ e. h) (λ e. tt)
winner_coloured r b None h = tt

-- a row of a sprite in order is in order
row_order_law : (ink : SpriteFifoPixel) (colours : List ℕ) → Small colours → ink.obp ≤ 1 → ink.index ≤ 39
    → every sprite_pixel_order (inked_row ink colours) ≡ true
row_order_law ink colours small obp index =
    every_map sprite_pixel_order (inked ink) colours
    ∙ every_all (λ (c : ℕ). sprite_pixel_order (inked ink c)) colours 0
    (λ k h. both (le-leb _ _ (small k)) (both (le-leb _ _ obp) (le-leb _ _ index)))

module _ (vram : List ℕ) (r : Registers) (palettes : List ℕ) (at : Spot) where
  -- a sprite is laid in or not
  laid_or_not : (P : SpriteFifo → Type 0) (q : SpriteFifo) (s : SelectedSprite)
      → P (sprite_pushed r.coord q (pixels_of vram r palettes at s)) → P q → P (sprite_added vram r palettes at q s)
  unfolding sprite_added
  laid_or_not P q s a b = by_test P (starts_at s.sprite at.x) (λ e. a) (λ e. b)

  -- what each sprite keeps, the selected sprites keep
  all_keep : (P : SpriteFifo → Type 0) (test : SelectedSprite → Bool)
      → ((q : SpriteFifo) (s : SelectedSprite) → test s ≡ true → P q → P (sprite_added vram r palettes at q s))
      → (q : SpriteFifo) (l : List SelectedSprite) → every test l ≡ true → P q → P (all_added vram r palettes at q l)
  unfolding all_added every
  all_keep P test step q [] e p = p
  all_keep P test step q (s ∷ l) e p =
      all_keep P test step (sprite_added vram r palettes at q s) l (second (test s) _ e) (step q s (first _ (every test l) e) p)

  sprites_keep : (P : SpriteFifo → Type 0) (test : SelectedSprite → Bool)
      → ((q : SpriteFifo) (s : SelectedSprite) → test s ≡ true → P q → P (sprite_added vram r palettes at q s))
      → (l : Selection) (q : SpriteFifo) → every test (take l.count l.slots) ≡ true → P q → P (sprites_added vram r palettes l at q)
  unfolding sprites_added
  sprites_keep P test step l q e p =
      by_test P (bit_at r.lcdc 1) (λ on. all_keep P test step q (take l.count l.slots) e p) (λ off. p)

  -- one sprite: at most eight stay at most eight, the slots stay as many, and pixels in order stay in order
  pub added_len : (q : SpriteFifo) (s : SelectedSprite) → q.len ≤ 8 → (sprite_added vram r palettes at q s).len ≤ 8
  added_len q s h = laid_or_not (λ n. n.len ≤ 8) q s (omega arith) h

  added_slots : (q : SpriteFifo) (s : SelectedSprite) → length (sprite_added vram r palettes at q s).pixels ≡ length q.pixels
  added_slots q s = laid_or_not (λ n. length n.pixels ≡ length q.pixels) q s (sprite_pushed_slots r.coord q _) refl

  added_fine : (q : SpriteFifo) (s : SelectedSprite) → slot_order s ≡ true → SpriteFine q → SpriteFine (sprite_added vram r palettes at q s)
  added_fine q s index f =
      let ink = ink_of r palettes s in
      let row = sprite_colours vram s.sprite at.line (tall_of r.lcdc) at.x in
      let colours = sprite_colours_law vram s.sprite at.line (tall_of r.lcdc) at.x in
      let eight = inked_row_length ink row ∙ colours.count in
      let ordered = row_order_law ink row colours.small (omega arith) (leb-true _ _ index) in
      record {
        size = added_slots q s ∙ f.size;
        len = added_len q s f.len;
        pixels =
            laid_or_not (λ n. every sprite_pixel_order (sprite_queued n) ≡ true) q s
            (sprite_pushed_every r.coord q _ sprite_pixel_order f.size eight f.len f.pixels ordered)
            f.pixels;
      }

  -- the selected sprites: a queue in order stays in order
  pub sprites_fine : {l : Selection} {q : SpriteFifo} → SelectionFine l → SpriteFine q → SpriteFine (sprites_added vram r palettes l at q)
  sprites_fine {l} {q} selected f = sprites_keep SpriteFine slot_order added_fine l q selected.indexes f

-- where no selected sprite starts the queue stays
module _ (vram : List ℕ) (r : Registers) (palettes : List ℕ) (at : Spot) where
  none_added : (l : List SelectedSprite) (q : SpriteFifo) → every (elsewhere at.x) l ≡ true → all_added vram r palettes at q l ≡ q
  unfolding every all_added sprite_added
  none_added [] q e = refl
  none_added (s ∷ rest) q e =
      let away = not-true (starts_at s.sprite at.x) (first (elsewhere at.x s) _ e) in rw away (none_added rest q (second (elsewhere at.x s) _ e))

  pub sprites_none : (l : Selection) (q : SpriteFifo) → none_starts l at.x ≡ true → sprites_added vram r palettes l at q ≡ q
  unfolding sprites_added
  sprites_none l q e = by_test (λ (n : SpriteFifo). n ≡ q) (bit_at r.lcdc 1) (λ on. none_added (take l.count l.slots) q e) (λ off. refl)
