-- What each call answers, and what it leaves of the lent memory.
use Rattle.std.specs.Prelude.{◌≡◌, ℕ, ◌%◌, cond, List, length, nat_lt, slice_index, Option, None, Result, Ok, Err}
use Rattle.refusals.specs.Ladder.{done}
use Rattle.refusals.specs.Refused.{refusal_number}
use Rattle.refusals.specs.declared.Refusal.{Refusal}
use Rattle.hardware.specs.Tables.{oam_bytes}
use Rattle.sprite.specs.Pick.{blank_slots, nothing_picked, Picked}
use Rattle.memory.specs.Writes.{oam_written}
use Rattle.line_sets.specs.Sets.{members, first_of, selection_from}
use Rattle.line_sets.specs.Lines.{built, moved}
use Rattle.line_sets.specs.Numbers.{build_number, line_number, pick_number, write_number, entry_at, old_y, new_y}

-- the sets built afresh; refused, they stay
pub record Build (oam sets : List ℕ) (tall r : ℕ) (sets' : List ℕ) : Type 0 where
  pub number : r ≡ build_number oam sets tall
  pub built : sets' ≡ cond (done (build_number oam sets tall)) (built oam tall) sets

-- OAM after a write without sets: written where the address is in OAM, and else as it was
abbrev pub oam_after : List ℕ → ℕ → ℕ → List ℕ
oam_after oam address value = cond (nat_lt (address % 256) oam_bytes) (oam_written oam address value) oam

-- an OAM write through the sets: OAM as the write without them leaves it, and the sets as the entry that moves does; refused,
-- both stay
pub record Write (oam sets : List ℕ) (tall address value r : ℕ) (oam' sets' : List ℕ) : Type 0 where
  pub number : r ≡ write_number oam sets tall address value
  pub written : oam' ≡ cond (done (write_number oam sets tall address value)) (oam_written oam address value) oam
  pub renewed : sets' ≡
      cond (done (write_number oam sets tall address value))
      (moved (entry_at address) tall (old_y oam address) (new_y oam address value) sets) sets

-- the answers by their numbers: how many entries touch a line, 0 where the call is refused; and the first of them, nothing where it is refused
pub record Counted : Type 0 where
  pub number : ℕ
  pub count : ℕ

abbrev pub counted : Result ℕ Refusal → Counted
counted (Ok n) = record { number = 0; count = n }
counted (Err why) = record { number = refusal_number why; count = 0 }

pub record Found : Type 0 where
  pub number : ℕ
  pub first : Option ℕ

abbrev pub found : Result (Option ℕ) Refusal → Found
found (Ok entry) = record { number = 0; first = entry }
found (Err why) = record { number = refusal_number why; first = None }

-- how many entries a line's set has
unfoldable pub count_of : List ℕ → ℕ → Counted
count_of sets line =
    record {
      number = line_number sets line;
      count = cond (done (line_number sets line)) (length (members (slice_index sets line))) 0;
    }

-- the first of them, or nothing
unfoldable pub first_on : List ℕ → ℕ → Found
first_on sets line =
    record {
      number = line_number sets line;
      first = cond (done (line_number sets line)) (first_of (members (slice_index sets line))) None;
    }

-- the selection from a line's set, in slots that are 0 past the count
unfoldable pub pick_from : List ℕ → List ℕ → ℕ → Picked
pick_from oam sets line =
    record {
      number = pick_number oam sets line;
      selection = cond (done (pick_number oam sets line)) (selection_from oam (slice_index sets line) blank_slots) nothing_picked;
    }
