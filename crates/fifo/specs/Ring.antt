-- A queue in a ring of slots. Pan Docs, "Pixel FIFO", has two of them: sixteen slots for the background, eight for sprites.
use Rattle.std.specs.Prelude.{ℕ, zero, suc, ◌+◌, ◌-◌, ◌%◌, List, [], ◌∷◌, get_or, set, replicate, cond, eqb, Option, Some, None}
use Rattle.fifo.specs.declared.Fifo.{Fifo}

-- what stands in the n slots from one on, front to back; slots are counted modulo the size
unfoldable pub live : {A : Type 0} → ℕ → A → List A → ℕ → ℕ → List A
live size blank slots at zero = []
live size blank slots at (suc n) = get_or slots (at % size) blank ∷ live size blank slots (suc at) n

-- the slots after a list is laid into them, from one on
unfoldable pub laid : {A : Type 0} → ℕ → List A → ℕ → List A → List A
laid size slots at [] = slots
laid size slots at (v ∷ vs) = laid size (set slots (at % size) v) (suc at) vs

-- What a pop gives: a pixel, or nothing when the queue is empty; and the queue afterwards.
pub record Popped (P : Type 0) (N : ℕ) : Type 0 where
  pub answer : Option P
  pub fifo : Fifo P N

module _ {P : Type 0} {N : ℕ} where
  -- the queued pixels, front to back: pixel k stands in slot head + k, modulo the size
  abbrev pub queued : P → Fifo P N → List P
  queued blank q = live N blank q.pixels q.head q.len

  -- at the start: blank slots, nothing queued
  abbrev pub fresh : P → Fifo P N
  fresh blank = record { pixels = replicate N blank; head = 0; len = 0 }

  -- a pop gives the pixel at the head; the head moves on, the slots stay
  abbrev pub front : P → Fifo P N → P
  front blank q = get_or q.pixels (q.head % N) blank

  abbrev pub rest : Fifo P N → Fifo P N
  rest q = record { pixels = q.pixels; head = (q.head % N + 1) % N; len = q.len - 1 }

  unfoldable pub popped : P → Fifo P N → Popped P N
  popped blank q =
      cond
      (eqb q.len 0)
      (record { answer = None; fifo = q })
      (record { answer = Some (front blank q); fifo = rest q })

  -- emptied, the slots stay
  abbrev pub cleared : Fifo P N → Fifo P N
  cleared q = record { pixels = q.pixels; head = 0; len = 0 }
