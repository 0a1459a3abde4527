-- 01, "One draw", and Pan Docs, "Pixel FIFO": which of two pixels is seen, and then its colour.
use Rattle.std.specs.Prelude.{ℕ, ◌<◌, Bool, not, cond, ◌&&◌, ◌||◌, eqb, Option, Some, None}
use Rattle.wrap.specs.Wrap.{bit_at}
use Rattle.colors.specs.Palettes.{colour_at}
use Rattle.colors.specs.Shade.{shade}
use Rattle.colors.specs.declared.Color.{Color}
use Rattle.fifo.specs.declared.BgFifoPixel.{BgFifoPixel}
use Rattle.fifo.specs.declared.SpriteFifoPixel.{SpriteFifoPixel}
use Rattle.state.specs.declared.Registers.{Registers}

-- the sprite pixel wins exactly if its colour is not 0 and: colour mode with LCDC bit 0 clear, or background 0, or neither
-- priority bit set
unfoldable pub wins : Registers → BgFifoPixel → SpriteFifoPixel → Bool
wins r b s =
    not (eqb s.color 0)
    && ((r.cgb && not (bit_at r.lcdc 0)) || (eqb b.color 0 || (not b.priority && not s.priority)))

-- the sprite pixel that is seen: a popped one that wins; else the background is
unfoldable pub winner : Registers → BgFifoPixel → Option SpriteFifoPixel → Option SpriteFifoPixel
winner r b (Some s) = cond (wins r b s) (Some s) None
winner r b None = None

-- outside colour mode a colour passes a palette byte
abbrev pub passed : Registers → ℕ → ℕ → ℕ
passed r byte colour = cond r.cgb colour (shade byte colour)

-- the background's colour passes BGP, a sprite's OBP0 or OBP1
abbrev pub bg_colour : Registers → BgFifoPixel → Color
bg_colour r b = colour_at b.palette (passed r r.bgp b.color)

abbrev pub sprite_colour : Registers → SpriteFifoPixel → Color
sprite_colour r s = colour_at s.palette (passed r (cond (eqb s.obp 0) r.obp0 r.obp1) s.color)

-- the colour of what is seen
abbrev pub winner_colour : Registers → BgFifoPixel → Option SpriteFifoPixel → Color
winner_colour r b (Some s) = sprite_colour r s
winner_colour r b None = bg_colour r b

-- the colour seen of a background pixel and a pop of the sprite queue
unfoldable pub seen : Registers → BgFifoPixel → Option SpriteFifoPixel → Color
seen r b pop = winner_colour r b (winner r b pop)

-- a sprite pixel that was popped, or is seen, has a colour number
abbrev pub Coloured : Option SpriteFifoPixel → Type 0
Coloured (Some s) = s.color < 4
Coloured None = Unit {0}
