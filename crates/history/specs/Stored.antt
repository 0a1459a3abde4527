-- The places that a run stores since the latest of its start, the last swap and the last blanking.
use Rattle.std.specs.Prelude.{ℕ, zero, suc, cond, ◌||◌, List, [], ◌∷◌, ◌++◌, map, Option, Some, None}
use Rattle.hardware.specs.Screen.{place}
use Rattle.lcd.specs.Mix.{rgb_bytes}
use Rattle.lcd.specs.declared.Rgb.{Rgb}
use Rattle.history.specs.Run.{World, Turn, perform, shots_from, swapped, blanked}
use Rattle.draw.specs.declared.Place.{Place}

-- a stored place: its number, 160 y + x, and its three bytes
pub record Stored : Type 0 where
  pub place : ℕ
  pub bytes : Rgb

-- the places among what draws answered, in order
unfoldable pub stored_by : List (Option Place) → List Stored
stored_by [] = []
stored_by (Some t ∷ rest) = record { place = place t.x t.y; bytes = t.rgb } ∷ stored_by rest
stored_by (None ∷ rest) = stored_by rest

-- the numbers of stored places
abbrev pub numbers : List Stored → List ℕ
numbers = map (λ (t : Stored). t.place)

-- n numbers from a, each one more than the one before
unfoldable pub from : ℕ → ℕ → List ℕ
from a zero = []
from a (suc n) = a ∷ from (suc a) n

-- the bytes of stored places, three each, in order
unfoldable pub all_bytes : List Stored → List ℕ
all_bytes [] = []
all_bytes (t ∷ rest) = rgb_bytes t.bytes ++ all_bytes rest

-- a run with what it stored since the latest of the start, the last swap and the last blanking
pub record Trace : Type 0 where
  pub world : World
  pub since : List Stored

-- what is stored before a turn is through: a swap and a blanking forget
abbrev pub through : Turn → Trace → List Stored
through c t = t.since ++ stored_by (shots_from c t.world)

abbrev pub go : Turn → Trace → Trace
go c t =
    record {
      world = perform c t.world;
      since = cond (swapped c t.world || blanked c t.world) [] (through c t);
    }

unfoldable pub trace : List Turn → Trace → Trace
trace [] t = t
trace (c ∷ rest) t = trace rest (go c t)

-- from a start
abbrev pub begun : World → Trace
begun w = record { world = w; since = [] }
