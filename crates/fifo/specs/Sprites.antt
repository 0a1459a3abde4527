-- Pan Docs, "Pixel FIFO" and "Drawing priority": the sprite queue. A sprite's eight pixels are mixed with those that wait.
use Rattle.std.specs.Prelude.{ℕ, Bool, false, not, cond, ◌&&◌, ◌||◌, List, [], ◌∷◌, map, eqb, ltb}
use Rattle.fifo.specs.declared.SpriteFifoPixel.{SpriteFifoPixel}
use Rattle.fifo.specs.declared.Fifo.{Fifo}
use Rattle.fifo.specs.Ring.{Popped, laid, queued, fresh, front, rest, popped, cleared}

-- the queue: eight slots
abbrev pub SpriteFifo : Type 0
SpriteFifo = Fifo SpriteFifoPixel 8

-- a pixel of nothing
abbrev pub sprite_blank : SpriteFifoPixel
sprite_blank = record { color = 0; palette = record { c0 = 0; c1 = 0; c2 = 0; c3 = 0 }; obp = 0; index = 0; priority = false }

-- the queued pixels, front to back: pixel k stands in slot head + k, modulo 8
abbrev pub sprite_queued : SpriteFifo → List SpriteFifoPixel
sprite_queued q = queued sprite_blank q

-- at the start: blank slots, nothing queued
abbrev pub sprite_fresh : SpriteFifo
sprite_fresh = fresh sprite_blank

-- a sprite's row: its pixel in each of the colours
abbrev pub inked : SpriteFifoPixel → ℕ → SpriteFifoPixel
inked ink colour =
    record { color = colour; palette = ink.palette; obp = ink.obp; index = ink.index; priority = ink.priority }

abbrev pub inked_row : SpriteFifoPixel → List ℕ → List SpriteFifoPixel
inked_row ink colours = map (inked ink) colours

-- a new pixel covers an old one if its colour is not 0 and one of two holds: the old colour is 0; or priority goes by index,
-- not by coordinate, and the new index is lower
unfoldable pub covers : Bool → SpriteFifoPixel → SpriteFifoPixel → Bool
covers coord old new =
    not (eqb new.color 0) && (eqb old.color 0 || (not coord && ltb new.index old.index))

abbrev pub over : Bool → SpriteFifoPixel → SpriteFifoPixel → SpriteFifoPixel
over coord old new = cond (covers coord old new) new old

-- a row laid over the pixels that wait, one by one from the front; past the last that waits it joins at the back
unfoldable pub merged : Bool → List SpriteFifoPixel → List SpriteFifoPixel → List SpriteFifoPixel
merged coord [] row = row
merged coord (o ∷ old) [] = o ∷ old
merged coord (o ∷ old) (n ∷ row) = over coord o n ∷ merged coord old row

-- a row of eight is pushed: the mix is laid into the slots from the head on
abbrev pub sprite_pushed : Bool → SpriteFifo → List SpriteFifoPixel → SpriteFifo
sprite_pushed coord q row =
    record { pixels = laid 8 q.pixels q.head (merged coord (sprite_queued q) row); head = q.head; len = 8 }

-- a pop gives the pixel at the head, and the head moves on; or nothing when the queue is empty
abbrev pub sprite_front : SpriteFifo → SpriteFifoPixel
sprite_front q = front sprite_blank q

abbrev pub sprite_rest : SpriteFifo → SpriteFifo
sprite_rest q = rest q

abbrev pub sprite_popped : SpriteFifo → Popped SpriteFifoPixel 8
sprite_popped q = popped sprite_blank q

-- emptied, the slots stay
abbrev pub sprite_cleared : SpriteFifo → SpriteFifo
sprite_cleared q = cleared q
