-- What is counted: pictures by their marks, and requests. The largest number stays.
use Rattle.std.specs.Prelude.{ℕ, ◌+◌, ◌-◌, ◌/◌, ◌%◌, ◌^◌, min}
use Rattle.beam.specs.declared.Mark.{Mark}
use Rattle.beam.specs.declared.Mark.TheVariants.{No, Whole, Unseen}
use Rattle.bench.specs.declared.tally.Tally.{Tally}
use Rattle.bench.specs.declared.tally.Requests.{Requests}

-- one more picture of 32 bits
abbrev pub more : ℕ → ℕ
more n = min (n + 1) (2 ^ 32 - 1)

-- one more where a bit is set, of 64 bits
abbrev pub with_bit : ℕ → ℕ → ℕ
with_bit n bit = min (n + bit) (2 ^ 64 - 1)

-- a picture more, by its mark
abbrev pub counted : Mark → Tally → Tally
counted No t = record t { pictures = more t.pictures; torn = more t.torn }
counted Whole t = record t { pictures = more t.pictures; whole = more t.whole }
counted Unseen t = record t { pictures = more t.pictures; unseen = more t.unseen }

-- a step's requests more: bit 0 VBlank, bit 1 STAT
abbrev pub seen : ℕ → Requests → Requests
seen requests r =
    record { vblanks = with_bit r.vblanks (requests % 2); stats = with_bit r.stats (requests / 2 % 2) }
