-- Laws of colours: a row has eight, each at most 3, and flips and moves keep that.
use mathlib.Core.Path.{◌≡◌, refl, ◌∙◌}
use mathlib.Core.Bool.{Bool, true, false}
use mathlib.Core.List.{List, [], ◌∷◌, ◌++◌, map, reverse, reverse_aux}
use Prim.Native.Nat.{ℕ, zero, suc, ◌+◌, ◌-◌, ◌≤◌}
use native.Mathlib.Omega.{arith}
use lib.ListN.{length, get_or, drop, replicate, length-append, length-drop, length-replicate, length-reverse}
use lib.Seq.{get_or-drop}
use Rattle.logic.proofs.Tests.{by_test}
use Rattle.bg_attribs.specs.Attribute as attribute
use Rattle.sprite.specs.Oam as oam
use Rattle.sprite.specs.declared.Sprite.{Sprite}
use Rattle.tiles.specs.Tile.{colour_in, row_of, mirrored}
use Rattle.tiles.specs.Map.{pattern, bg_off, fetch_bg}
use Rattle.tiles.specs.Objects.{sprite_row, starts_left, sprite_colours}
use Rattle.tiles.specs.declared.Fetch.{Fetch}
use Rattle.tiles.specs.declared.Fetched.{Fetched}

-- each at most 3
abbrev pub Small : List ℕ → Type 0
Small row = (k : ℕ) → get_or row k 0 ≤ 3

-- eight colours, each at most 3
pub record Colours (row : List ℕ) : Type 0 where
  pub count : length row ≡ 8
  pub small : Small row

small_map : (f : ℕ → ℕ) (l : List ℕ) → ((n : ℕ) → f n ≤ 3) → Small (map f l)
small_map f [] h k = omega arith
small_map f (x ∷ l) h zero = h x
small_map f (x ∷ l) h (suc k) = small_map f l h k

small_append : (a b : List ℕ) → Small a → Small b → Small (a ++ b)
small_append [] b s t k = t k
small_append (x ∷ a) b s t zero = s 0
small_append (x ∷ a) b s t (suc k) = small_append a b (λ j. s (suc j)) t k

small_zeros : (n : ℕ) → Small (replicate n 0)
small_zeros zero k = omega arith
small_zeros (suc n) zero = omega arith
small_zeros (suc n) (suc k) = small_zeros n k

small_drop : (n : ℕ) (row : List ℕ) → Small row → Small (drop n row)
small_drop n row s k = rw get_or-drop (s (n + k))

small_onto : (a b : List ℕ) → Small a → Small b → Small (reverse_aux a b)
small_onto [] b s t = t
small_onto (x ∷ a) b s t = small_onto a (x ∷ b) (λ j. s (suc j)) first
  where
    first : Small (x ∷ b)
    first zero = s 0
    first (suc k) = t k

-- a row of two bytes
pub row_colours : (low high : ℕ) → Colours (row_of low high)
unfolding row_of
row_colours low high = record { count = refl; small = small_map (colour_in low high) (7 ∷ 6 ∷ 5 ∷ 4 ∷ 3 ∷ 2 ∷ 1 ∷ 0 ∷ []) (λ n. omega arith) }

-- no colours
pub zero_colours : Colours (replicate 8 0)
zero_colours = record { count = refl; small = small_zeros 8 }

module _ {row : List ℕ} (s : Colours row) where
  -- from right to left
  pub reverse_colours : Colours (reverse row)
  reverse_colours = record { count = length-reverse row ∙ s.count; small = small_onto row [] s.small (λ k. omega arith) }

  pub mirrored_colours : (flip : Bool) → Colours (mirrored flip row)
  mirrored_colours true = reverse_colours
  mirrored_colours false = s

  -- moved left
  pub moved_colours : (x : ℕ) → Colours (oam.moved_left row x)
  moved_colours x =
      let e = s.count in
      record {
        count = simp (length-append, length-drop, length-replicate) (omega arith);
        small = small_append (drop (8 - x) row) (replicate (8 - x) 0) (small_drop (8 - x) row s.small) (small_zeros (8 - x));
      }

-- what a fetch gives
pub pattern_colours : (vram : List ℕ) (lcdc tile bits row : ℕ) → Colours (pattern vram lcdc tile bits row)
unfolding pattern
pattern_colours vram lcdc tile bits row = mirrored_colours (row_colours _ _) (attribute.x_flip bits)

pub fetched_colours : (vram : List ℕ) (f : Fetch) → Colours (fetch_bg vram f).row
unfolding fetch_bg
fetched_colours vram f =
    by_test (λ (t : Fetched). Colours t.row) (bg_off f.cgb f.lcdc) (λ off. zero_colours)
    (λ on. by_test (λ (t : Fetched). Colours t.row) f.window (λ w. pattern_colours _ _ _ _ _) (λ w. pattern_colours _ _ _ _ _))

-- what a sprite gives
pub sprite_row_colours : (vram : List ℕ) (s : Sprite) (line tall : ℕ) → Colours (sprite_row vram s line tall)
unfolding sprite_row
sprite_row_colours vram s line tall = mirrored_colours (row_colours _ _) (oam.x_flip s.flags)

pub sprite_colours_law : (vram : List ℕ) (s : Sprite) (line tall x : ℕ) → Colours (sprite_colours vram s line tall x)
unfolding sprite_colours
sprite_colours_law vram s line tall x =
    let row = sprite_row_colours vram s line tall in
    by_test Colours (starts_left s x) (λ left. moved_colours row s.x) (λ within. row)
