-- A call's number by the lengths of its slices: 1 where one has another, and else its own number; and what a refused call leaves.
use Rattle.std.proofs.Common.{◌≡◌, ℕ, Bool, true, false, ◌&&◌, List, length, refl, sym, ◌≢◌, eq-eqb, ne_eqb}
use Rattle.refusals.specs.Ladder.{lowest, done}
use Rattle.hardware.specs.Screen.{height}
use Rattle.hardware.specs.Tables.{oam_bytes, oam_fits}
use Rattle.memory.specs.Writes.{oam_written}
use Rattle.line_sets.specs.Lines.{built, moved}
use Rattle.line_sets.specs.Numbers.{sets_fit, both_fit, build_number, write_number, entry_at, old_y, new_y}
use Rattle.line_sets.specs.Calls.{Build, Write}

module _ (sets : List ℕ) (own : ℕ) where
  pub other_length : length sets ≢ height → lowest (sets_fit sets) true own ≡ 1
  unfolding lowest
  other_length h = rw (ne_eqb _ _ h) refl

  pub own_length : length sets ≡ height → lowest (sets_fit sets) true own ≡ own
  unfolding lowest
  own_length h = rw (eq-eqb _ _ h) refl

module _ (oam sets : List ℕ) (own : ℕ) where
  pub oam_of_another : length oam ≢ oam_bytes → lowest (both_fit oam sets) true own ≡ 1
  unfolding lowest
  oam_of_another h = rw (ne_eqb _ _ h) refl

  pub sets_of_another : length sets ≢ height → lowest (both_fit oam sets) true own ≡ 1
  unfolding lowest
  sets_of_another h = rw (ne_eqb _ _ h) (either (oam_fits oam))
    where
      either : (v : Bool) → lowest (v && false) true own ≡ 1
      either true = refl
      either false = refl

  pub both_whole : length oam ≡ oam_bytes → length sets ≡ height → lowest (both_fit oam sets) true own ≡ own
  unfolding lowest
  both_whole h g = rw (eq-eqb _ _ h, eq-eqb _ _ g) refl

pub build_refused : {oam sets : List ℕ} {tall r : ℕ} → build_number oam sets tall ≡ r → done r ≡ false → Build oam sets tall r sets
build_refused e d = record { number = sym e; built = rw (e, d) refl }

pub build_done : {oam sets sets' : List ℕ} {tall : ℕ} → build_number oam sets tall ≡ 0 → sets' ≡ built oam tall → Build oam sets tall 0 sets'
build_done e b = record { number = sym e; built = rw e b }

pub write_refused : {oam sets : List ℕ} {tall address value r : ℕ} → write_number oam sets tall address value ≡ r → done r ≡ false
    → Write oam sets tall address value r oam sets
write_refused e d = record { number = sym e; written = rw (e, d) refl; renewed = rw (e, d) refl }

pub write_done : {oam sets oam' sets' : List ℕ} {tall address value : ℕ} → write_number oam sets tall address value ≡ 0
    → oam' ≡ oam_written oam address value → sets' ≡ moved (entry_at address) tall (old_y oam address) (new_y oam address value) sets
    → Write oam sets tall address value 0 oam' sets'
write_done e w m = record { number = sym e; written = rw e w; renewed = rw e m }
