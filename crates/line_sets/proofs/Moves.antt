-- An entry put in and taken out on the lines of a sprite, one after the other: an entry that moves.
use Rattle.std.proofs.Common.{◌≡◌, ℕ, ◌^◌, ◌<◌, Bool, true, false, cond, ◌||◌, eqb, List, length, get_or, refl, ap, ◌∙◌, lt-ltb, ne_eqb}
use Rattle.logic.proofs.Tests.{by_test}
use Rattle.wrap.specs.Wrap.{bit_at}
use Rattle.hardware.specs.Screen.{height}
use Rattle.sprite.specs.Oam.{in_range}
use Rattle.line_sets.specs.Sets.{entries, set_of, is_set, put}
use Rattle.line_sets.specs.Lines.{put_on, put_lines, moved_on, moved}
use Rattle.line_sets.specs.Numbers.{are_sets}
use Rattle.line_sets.proofs.Bits.{bits_lt, bit_of, bits_same}
use Rattle.line_sets.proofs.Lines.{per_line_law, per_line_at, per_line_length, are_sets_all, are_sets_at}

-- a number of bits below that of entry 40 is a set
pub set_of_law : (t : ℕ → Bool) → is_set (set_of t) ≡ true
set_of_law t = lt-ltb (set_of t) (2 ^ entries) (bits_lt t entries)

pub put_is_set : (i : ℕ) (on : Bool) (s : ℕ) → is_set (put i on s) ≡ true
put_is_set i on s = set_of_law (λ j. cond (eqb j i) on (bit_at s j))

-- what was put last counts
put_twice : (i s : ℕ) (v w : Bool) → put i v (put i w s) ≡ put i v s
put_twice i s v w =
    bits_same (λ j. cond (eqb j i) v (bit_at (put i w s) j)) (λ j. cond (eqb j i) v (bit_at s j)) entries
    (λ j l. ap (λ (b : Bool). cond (eqb j i) v b) (bit_of (λ k. cond (eqb k i) w (bit_at s k)) entries j l) ∙ last (eqb j i) (bit_at s j))
  where
    last : (t b : Bool) → cond t v (cond t w b) ≡ cond t v b
    last true b = refl
    last false b = refl

module _ (i : ℕ) (on : Bool) (y tall : ℕ) (sets : List ℕ) where
  pub put_lines_length : length (put_lines i on y tall sets) ≡ height
  unfolding put_lines
  put_lines_length = per_line_length (put_on i on y tall sets)

  pub put_lines_at : (line : ℕ) → line < height → get_or (put_lines i on y tall sets) line 0 ≡ put_on i on y tall sets line
  unfolding put_lines
  put_lines_at = per_line_at (put_on i on y tall sets)

  -- the sets of any other sprite's lines stay sets
  pub put_lines_sets : (other : ℕ) → are_sets sets other tall ≡ true → are_sets (put_lines i on y tall sets) other tall ≡ true
  put_lines_sets other e =
      are_sets_all (put_lines i on y tall sets) other tall
      (λ line h r. rw (put_lines_at line h) (by_test (λ (s : ℕ). is_set s ≡ true) (in_range y line tall) (λ t. put_is_set i on (get_or sets line 0)) (λ t. are_sets_at sets other tall line h e r)))

-- out on the old lines, in on the new ones
pub moves : (i tall old new : ℕ) (sets : List ℕ) → (old ≡ new → ⊥)
    → put_lines i true new tall (put_lines i false old tall sets) ≡ moved i tall old new sets
unfolding moved
moves i tall old new sets n =
    rw (ne_eqb old new n)
    (per_line_law (moved_on i tall old new sets) (put_lines i true new tall (put_lines i false old tall sets)) (put_lines_length i true new tall (put_lines i false old tall sets))
    (λ line h.
    put_lines_at i true new tall (put_lines i false old tall sets) line h
    ∙ rw (put_lines_at i false old tall sets line h) (each (in_range old line tall) (in_range new line tall) (get_or sets line 0))))
  where
    each : (a b : Bool) (s : ℕ)
        → cond b (put i true (cond a (put i false s) s)) (cond a (put i false s) s) ≡ cond (a || b) (put i b s) s
    each true true s = put_twice i s true false
    each true false s = refl
    each false true s = refl
    each false false s = refl
