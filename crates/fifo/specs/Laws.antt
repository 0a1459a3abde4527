-- What the queues do, said of the queued pixels as a list, front to back (`bg_queued`, `sprite_queued`). A reader can follow a
-- draw by these statements and never has to think of a ring's slots, of its head, or of what a dead slot still holds.
-- Each is proved, of any queue and any row: those of the background in proofs/Background, those of sprites in proofs/Sprites.
use Rattle.std.specs.Prelude.{◌+◌, ◌-◌, ◌≤◌, ◌<◌, ◌≡◌, Bool, true, List, [], ◌∷◌, ◌++◌, length, Some, None}
use Rattle.logic.specs.Every.{every}
use Rattle.fifo.specs.declared.BgFifoPixel.{BgFifoPixel}
use Rattle.fifo.specs.declared.SpriteFifoPixel.{SpriteFifoPixel}
use Rattle.fifo.specs.Ring.{popped}
use Rattle.fifo.specs.Background.{BgFifo, bg_blank, bg_queued, bg_fresh, bg_pushed, bg_front, bg_rest, bg_popped, bg_cleared}
use Rattle.fifo.specs.Sprites.{SpriteFifo, sprite_queued, sprite_fresh, merged, sprite_pushed, sprite_cleared}
use Rattle.fifo.specs.Sprites.{sprite_front, sprite_rest, sprite_popped}

-- the background queue. Nothing is queued at the start, nor after a clear
abbrev pub BgStarts : Type 0
BgStarts = bg_queued bg_fresh ≡ []

abbrev pub BgClears : Type 0
BgClears = (q : BgFifo) → bg_queued (bg_cleared q) ≡ []

-- as many are queued as its length says
abbrev pub BgCounts : Type 0
BgCounts = (q : BgFifo) → length (bg_queued q) ≡ q.len

-- a row of eight pushed where at most eight are queued joins them at the back
abbrev pub BgPushes : Type 0
BgPushes =
    (q : BgFifo) (row : List BgFifoPixel) → length q.pixels ≡ 16 → length row ≡ 8 → q.len ≤ 8
    → bg_queued (bg_pushed q row) ≡ bg_queued q ++ row

-- a pop takes the pixel at the front, and the others stay
abbrev pub BgPops : Type 0
BgPops = (q : BgFifo) → 0 < q.len → bg_queued q ≡ bg_front q ∷ bg_queued (bg_rest q)

abbrev pub BgGives : Type 0
BgGives = (q : BgFifo) → 0 < q.len → popped bg_blank q ≡ bg_popped q

-- the sprite queue. Nothing is queued at the start, nor after a clear
abbrev pub SpriteStarts : Type 0
SpriteStarts = sprite_queued sprite_fresh ≡ []

abbrev pub SpriteClears : Type 0
SpriteClears = (q : SpriteFifo) → sprite_queued (sprite_cleared q) ≡ []

-- as many are queued as its length says
abbrev pub SpriteCounts : Type 0
SpriteCounts = (q : SpriteFifo) → length (sprite_queued q) ≡ q.len

-- a row of eight pushed is mixed with those that wait
abbrev pub SpritePushes : Type 0
SpritePushes =
    (coord : Bool) (q : SpriteFifo) (row : List SpriteFifoPixel) → length q.pixels ≡ 8 → length row ≡ 8 → q.len ≤ 8
    → sprite_queued (sprite_pushed coord q row) ≡ merged coord (sprite_queued q) row

-- a pop takes the pixel at the front, and the others stay
abbrev pub SpritePops : Type 0
SpritePops = (q : SpriteFifo) → 0 < q.len → sprite_queued q ≡ sprite_front q ∷ sprite_queued (sprite_rest q)

abbrev pub SpriteGives : Type 0
SpriteGives = (q : SpriteFifo) → 0 < q.len → sprite_popped q ≡ record { answer = Some (sprite_front q); fifo = sprite_rest q }

-- it gives nothing exactly if nothing is queued, and then the queue stays as it is
abbrev pub SpriteGivesNothing : Type 0
SpriteGivesNothing =
    (q : SpriteFifo)
    → ((sprite_popped q).answer ≡ None → sprite_queued q ≡ [])
    × (sprite_queued q ≡ [] → sprite_popped q ≡ record { answer = None; fifo = q })

-- What the crates above use of a queue that changed: how many slots it has, how many pixels are queued, and that a test which
-- every queued pixel passed, and every pixel that joined, is passed by every queued pixel.
abbrev pub BgPushSlots : Type 0
BgPushSlots = (q : BgFifo) (row : List BgFifoPixel) → length (bg_pushed q row).pixels ≡ length q.pixels

abbrev pub BgPushLen : Type 0
BgPushLen = (q : BgFifo) (row : List BgFifoPixel) → q.len ≤ 8 → (bg_pushed q row).len ≤ 16

abbrev pub BgPushEvery : Type 0
BgPushEvery =
    (test : BgFifoPixel → Bool) (q : BgFifo) (row : List BgFifoPixel) → length q.pixels ≡ 16 → length row ≡ 8 → q.len ≤ 8
    → every test (bg_queued q) ≡ true → every test row ≡ true → every test (bg_queued (bg_pushed q row)) ≡ true

abbrev pub BgPopLen : Type 0
BgPopLen = (q : BgFifo) → 0 < q.len → (bg_rest q).len + 1 ≡ q.len

abbrev pub BgPopEvery : Type 0
BgPopEvery =
    (test : BgFifoPixel → Bool) (q : BgFifo) → 0 < q.len → every test (bg_queued q) ≡ true
    → (test (bg_front q) ≡ true) × (every test (bg_queued (bg_rest q)) ≡ true)

abbrev pub BgClearEvery : Type 0
BgClearEvery = (test : BgFifoPixel → Bool) (q : BgFifo) → every test (bg_queued (bg_cleared q)) ≡ true

abbrev pub SpritePushSlots : Type 0
SpritePushSlots =
    (coord : Bool) (q : SpriteFifo) (row : List SpriteFifoPixel) → length (sprite_pushed coord q row).pixels ≡ length q.pixels

abbrev pub SpritePushEvery : Type 0
SpritePushEvery =
    (coord : Bool) (q : SpriteFifo) (row : List SpriteFifoPixel) (test : SpriteFifoPixel → Bool)
    → length q.pixels ≡ 8 → length row ≡ 8 → q.len ≤ 8
    → every test (sprite_queued q) ≡ true → every test row ≡ true → every test (sprite_queued (sprite_pushed coord q row)) ≡ true

abbrev pub SpritePopSlots : Type 0
SpritePopSlots = (q : SpriteFifo) → (sprite_popped q).fifo.pixels ≡ q.pixels

abbrev pub SpritePopLen : Type 0
SpritePopLen = (q : SpriteFifo) → (sprite_popped q).fifo.len ≡ q.len - 1

abbrev pub SpritePopEvery : Type 0
SpritePopEvery =
    (q : SpriteFifo) (test : SpriteFifoPixel → Bool) → every test (sprite_queued q) ≡ true
    → every test (sprite_queued (sprite_popped q).fifo) ≡ true

abbrev pub SpritePixelEvery : Type 0
SpritePixelEvery =
    (q : SpriteFifo) (test : SpriteFifoPixel → Bool) (p : SpriteFifoPixel) → every test (sprite_queued q) ≡ true
    → (sprite_popped q).answer ≡ Some p → test p ≡ true

abbrev pub SpriteClearEvery : Type 0
SpriteClearEvery = (test : SpriteFifoPixel → Bool) (q : SpriteFifo) → every test (sprite_queued (sprite_cleared q)) ≡ true
