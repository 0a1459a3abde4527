-- What the parts of the reader promise: what is taken from the words, and what is left of them.
use Rattle.std.specs.Prelude.{◌≡◌, Bool, cond, List, ℕ, ◌≤◌, ◌<◌, Result, Ok, Err}
use Rattle.captures.specs.declared.Wanted.{Wanted}
use Rattle.captures.specs.declared.Wanted.TheVariants as wanted
use Rattle.captures.specs.declared.Argument.{Argument}
use Rattle.captures.specs.declared.Reason.{Reason}
use Rattle.captures.specs.declared.Bytes.{Bytes}
use Rattle.captures.specs.declared.Call.TheVariants.{Vram, Oam}
use Rattle.captures.specs.Reading.{Then, whole, read_bytes}
use Rattle.captures.specs.Reading.{argument as argumentOf}

-- numbers below this are all that an argument can mean
abbrev pub limit : Wanted → ℕ
limit wanted.Device = 2
limit wanted.Colour = 2
limit wanted.Address = 65536
limit wanted.Value = 256
limit wanted.Bytes = 18446744073709551616
limit wanted.Cycles = 256
limit wanted.Times = 4294967296
limit wanted.Kind = 3
limit wanted.Switch = 2

-- an argument was taken from words: a call goes on with its number, its size and the words that are left
pub record Went (ws : List (List ℕ)) (k : Wanted) (value size : ℕ) (rest : List (List ℕ)) : Type 0 where
  pub small : value < limit k
  pub short : size ≤ 16
  pub goes : (then : Then) → argumentOf k ws then ≡ then value size rest

-- what the next argument is
abbrev pub Took : List (List ℕ) → Wanted → Result Argument Reason → List (List ℕ) → Type 0
Took ws k (Ok a) rest = Went ws k a.value a.size rest
Took ws k (Err reason) rest = (then : Then) → argumentOf k ws then ≡ Err reason

-- what the arguments of bytes are, for OAM and for VRAM
abbrev pub TookBytes : List (List ℕ) → Result Bytes Reason → List (List ℕ) → Type 0
TookBytes ws (Ok b) rest = (oam : Bool) → read_bytes oam ws ≡ whole (cond oam Oam Vram b) rest
TookBytes ws (Err reason) rest = (oam : Bool) → read_bytes oam ws ≡ Err reason
