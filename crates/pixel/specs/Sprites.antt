-- 01, "One draw": the selected sprites that start at a place, laid into the sprite queue one after the other.
use Rattle.std.specs.Prelude.{ℕ, Bool, not, cond, List, [], ◌∷◌, take}
use Rattle.logic.specs.Every.{every}
use Rattle.wrap.specs.Wrap.{bit_at}
use Rattle.colors.specs.Palettes.{palette}
use Rattle.sprite.specs.Oam.{grey_palette, colour_palette, behind}
use Rattle.sprite.specs.declared.SelectedSprite.{SelectedSprite}
use Rattle.sprite.specs.declared.Selection.{Selection}
use Rattle.fifo.specs.Sprites.{inked_row, sprite_pushed}
use Rattle.fifo.specs.Sprites.{SpriteFifo}
use Rattle.fifo.specs.declared.SpriteFifoPixel.{SpriteFifoPixel}
use Rattle.tiles.specs.Objects.{starts_at, sprite_colours}
use Rattle.state.specs.declared.Registers.{Registers}
use Rattle.state.specs.declared.Spot.{Spot}

-- LCDC bit 2: sprites are 16 lines high, else 8
abbrev pub tall_of : ℕ → ℕ
tall_of lcdc = cond (bit_at lcdc 2) 16 8

-- which of the eight sprite palettes: by flag bits 0 to 2, outside colour mode by bit 4
abbrev pub selector : Bool → ℕ → ℕ
selector cgb flags = cond cgb (colour_palette flags) (grey_palette flags)

-- what every pixel of a sprite has but its colour; the palette is that of the moment
abbrev pub ink_of : Registers → List ℕ → SelectedSprite → SpriteFifoPixel
ink_of r palettes s =
    record {
      color = 0;
      palette = palette palettes (selector r.cgb s.sprite.flags);
      obp = grey_palette s.sprite.flags;
      index = s.index;
      priority = behind s.sprite.flags;
    }

-- the eight pixels of a selected sprite at a place
abbrev pub pixels_of : List ℕ → Registers → List ℕ → Spot → SelectedSprite → List SpriteFifoPixel
pixels_of vram r palettes at s =
    inked_row (ink_of r palettes s) (sprite_colours vram s.sprite at.line (tall_of r.lcdc) at.x)

-- a selected sprite that starts at the place is laid into the queue
unfoldable pub sprite_added : List ℕ → Registers → List ℕ → Spot → SpriteFifo → SelectedSprite → SpriteFifo
sprite_added vram r palettes at q s =
    cond (starts_at s.sprite at.x) (sprite_pushed r.coord q (pixels_of vram r palettes at s)) q

-- the selected sprites in order
unfoldable pub all_added : List ℕ → Registers → List ℕ → Spot → SpriteFifo → List SelectedSprite → SpriteFifo
all_added vram r palettes at q [] = q
all_added vram r palettes at q (s ∷ rest) = all_added vram r palettes at (sprite_added vram r palettes at q s) rest

-- LCDC bit 1: sprites are drawn
unfoldable pub sprites_added : List ℕ → Registers → List ℕ → Selection → Spot → SpriteFifo → SpriteFifo
sprites_added vram r palettes l at q =
    cond (bit_at r.lcdc 1) (all_added vram r palettes at q (take l.count l.slots)) q

-- no selected sprite starts at a column
abbrev pub elsewhere : ℕ → SelectedSprite → Bool
elsewhere x s = not (starts_at s.sprite x)

abbrev pub none_starts : Selection → ℕ → Bool
none_starts l x = every (elsewhere x) (take l.count l.slots)
