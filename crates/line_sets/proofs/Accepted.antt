-- A call that is not refused: what its number says of the slices, the line, the height, the address and the sets.
use Rattle.std.proofs.Common.{◌≡◌, ℕ, ◌%◌, ◌<◌, Bool, true, ◌&&◌, ltb, List, length, get_or, arith, ltb-true, eqb-true}
use Rattle.logic.proofs.Both.{first, second}
use Rattle.refusals.specs.Ladder.{own}
use Rattle.refusals.proofs.Ladder.{lowest_none, own_none}
use Rattle.hardware.specs.Screen.{height}
use Rattle.hardware.specs.Tables.{oam_bytes, oam_fits}
use Rattle.sprite.specs.Pick.{is_tall}
use Rattle.line_sets.specs.Sets.{is_set}
use Rattle.line_sets.specs.Numbers.{sets_fit, both_fit, build_number, is_asked, line_number, pick_number}
use Rattle.line_sets.specs.Numbers.{old_y, new_y, are_sets, is_writable, write_number}

-- both slices have their length
pub both_sized : (oam sets : List ℕ) → both_fit oam sets ≡ true → (length oam ≡ oam_bytes) × (length sets ≡ height)
both_sized oam sets e = (eqb-true _ _ (first (oam_fits oam) _ e), eqb-true _ _ (second (oam_fits oam) _ e))

pub record Asked (sets : List ℕ) (line : ℕ) : Type 0 where
  pub sized : length sets ≡ height
  pub in_picture : line < height
  pub is_set_law : is_set (get_or sets line 0) ≡ true

asks : (sets : List ℕ) (line : ℕ) → sets_fit sets ≡ true → own (is_asked sets line) 4 ≡ 0 → Asked sets line
asks sets line s o =
    let a = own_none (is_asked sets line) (omega arith) o in
    record { sized = eqb-true _ _ s; in_picture = ltb-true _ _ (first (ltb line height) _ a); is_set_law = second (ltb line height) _ a }

pub asked : (sets : List ℕ) (line : ℕ) → line_number sets line ≡ 0 → Asked sets line
unfolding line_number
asked sets line e = let p = lowest_none (sets_fit sets) true e in asks sets line p.sized p.own

pub record Picks (oam sets : List ℕ) (line : ℕ) : Type 0 where
  pub whole : length oam ≡ oam_bytes
  pub asked : Asked sets line

pub picks : (oam sets : List ℕ) (line : ℕ) → pick_number oam sets line ≡ 0 → Picks oam sets line
unfolding pick_number
picks oam sets line e =
    let p = lowest_none (both_fit oam sets) true e in
    record { whole = (both_sized oam sets p.sized).0; asked = asks sets line (second (oam_fits oam) _ p.sized) p.own }

pub builds : (oam sets : List ℕ) (tall : ℕ) → build_number oam sets tall ≡ 0
    → (length oam ≡ oam_bytes) × (length sets ≡ height) × (is_tall tall ≡ true)
unfolding build_number
builds oam sets tall e =
    let p = lowest_none (both_fit oam sets) true e in
    let b = both_sized oam sets p.sized in
    (b.0, b.1, own_none (is_tall tall) (omega arith) p.own)

-- a write that passes its own test
pub record Writable (oam sets : List ℕ) (rows address value : ℕ) : Type 0 where
  pub tall : is_tall rows ≡ true
  pub inside : address % 256 < oam_bytes
  pub old_sets : are_sets sets (old_y oam address) rows ≡ true
  pub new_sets : are_sets sets (new_y oam address value) rows ≡ true

pub writable : (oam sets : List ℕ) (tall address value : ℕ) → is_writable oam sets tall address value ≡ true → Writable oam sets tall address value
writable oam sets tall address value all =
    let at : Bool = is_tall tall && ltb (address % 256) oam_bytes in
    let old : Bool = are_sets sets (old_y oam address) tall in
    let three = first (at && old) _ all in
    record {
      tall = first (is_tall tall) _ (first at old three);
      inside = ltb-true _ _ (second (is_tall tall) _ (first at old three));
      old_sets = second at old three;
      new_sets = second (at && old) _ all;
    }

-- and one that is not refused
pub record Writes (oam sets : List ℕ) (rows address value : ℕ) : Type 0 where
  pub whole : length oam ≡ oam_bytes
  pub sized : length sets ≡ height
  pub can : Writable oam sets rows address value

pub writes : (oam sets : List ℕ) (tall address value : ℕ) → write_number oam sets tall address value ≡ 0 → Writes oam sets tall address value
unfolding write_number
writes oam sets tall address value e =
    let p = lowest_none (both_fit oam sets) true e in
    let b = both_sized oam sets p.sized in
    record { whole = b.0; sized = b.1; can = writable _ _ _ _ _ (own_none (is_writable oam sets tall address value) (omega arith) p.own) }
