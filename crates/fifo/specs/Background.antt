-- Pan Docs, "Pixel FIFO": the background queue. A row of eight joins at the back, a pixel at a time leaves at the front.
use Rattle.std.specs.Prelude.{ℕ, ◌+◌, Bool, false, List, map, Some}
use Rattle.colors.specs.declared.ColorPalette.{ColorPalette}
use Rattle.fifo.specs.declared.BgFifoPixel.{BgFifoPixel}
use Rattle.fifo.specs.declared.Fifo.{Fifo}
use Rattle.fifo.specs.Ring.{Popped, laid, queued, fresh, front, rest, cleared}

-- the queue: sixteen slots
abbrev pub BgFifo : Type 0
BgFifo = Fifo BgFifoPixel 16

-- a pixel of nothing
abbrev pub bg_blank : BgFifoPixel
bg_blank = record { color = 0; palette = record { c0 = 0; c1 = 0; c2 = 0; c3 = 0 }; priority = false }

-- the queued pixels, front to back: pixel k stands in slot head + k, modulo 16
abbrev pub bg_queued : BgFifo → List BgFifoPixel
bg_queued q = queued bg_blank q

-- at the start: blank slots, nothing queued
abbrev pub bg_fresh : BgFifo
bg_fresh = fresh bg_blank

-- a fetched row: each colour with the palette and the priority of its tile
abbrev pub bg_inked : ColorPalette → Bool → ℕ → BgFifoPixel
bg_inked palette priority colour = record { color = colour; palette = palette; priority = priority }

abbrev pub bg_row : ColorPalette → Bool → List ℕ → List BgFifoPixel
bg_row palette priority colours = map (bg_inked palette priority) colours

-- a row of eight is pushed: it is laid into the slots behind the last
abbrev pub bg_pushed : BgFifo → List BgFifoPixel → BgFifo
bg_pushed q row = record { pixels = laid 16 q.pixels (q.head + q.len) row; head = q.head; len = q.len + 8 }

-- a pop of a queue with pixels gives the pixel at the head; the head moves on, the slots stay
abbrev pub bg_front : BgFifo → BgFifoPixel
bg_front q = front bg_blank q

abbrev pub bg_rest : BgFifo → BgFifo
bg_rest q = rest q

abbrev pub bg_popped : BgFifo → Popped BgFifoPixel 16
bg_popped q = record { answer = Some (bg_front q); fifo = bg_rest q }

-- emptied, the slots stay
abbrev pub bg_cleared : BgFifo → BgFifo
bg_cleared q = cleared q
