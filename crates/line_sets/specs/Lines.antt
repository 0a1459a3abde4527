-- The sets of the 144 lines, for sprites so tall, and what an entry that moves does to them.
use Rattle.std.specs.Prelude.{◌≡◌, ℕ, ◌+◌, ◌%◌, ◌<◌, Bool, true, cond, ◌||◌, List, map, length, ◌==◌, slice_index}
use Rattle.wrap.specs.Wrap.{bit_at}
use Rattle.hardware.specs.Screen.{height}
use Rattle.sprite.specs.Oam.{screen_y, in_range}
use Rattle.sprite.specs.Pick.{up_to, those, touches}
use Rattle.line_sets.specs.Sets.{entries, set_of, is_set, put}

-- the sets are OAM's: one a line, bit i set exactly if entry i touches the line, and no bit above that of entry 39
pub record AreOf (oam : List ℕ) (tall : ℕ) (sets : List ℕ) : Type 0 where
  pub sized : length sets ≡ height
  pub bits : (line i : ℕ) → line < height → i < entries → bit_at (slice_index sets line) i ≡ touches oam line tall i
  pub no_more : (line : ℕ) → line < height → is_set (slice_index sets line) ≡ true

-- one number a line, from the top
abbrev pub per_line : (ℕ → ℕ) → List ℕ
per_line f = map f (up_to height)

-- the set of the entries that touch a line, and the sets built afresh: that of each line
abbrev pub touching : List ℕ → ℕ → ℕ → ℕ
touching oam tall line = set_of (touches oam line tall)

unfoldable pub built : List ℕ → ℕ → List ℕ
built oam tall = per_line (touching oam tall)

-- the line of a row of a sprite at y, modulo 256, and the lines of the picture that it touches
abbrev pub row_line : ℕ → ℕ → ℕ
row_line y row = (screen_y y + row) % 256

unfoldable pub lines_of : ℕ → ℕ → List ℕ
lines_of y tall = those (λ line. in_range y line tall) (up_to height)

-- entry i put in, or taken out, on a line if a sprite at y touches it, and so on all lines
abbrev pub put_on : ℕ → Bool → ℕ → ℕ → List ℕ → ℕ → ℕ
put_on i on y tall sets line = cond (in_range y line tall) (put i on (slice_index sets line)) (slice_index sets line)

unfoldable pub put_lines : ℕ → Bool → ℕ → ℕ → List ℕ → List ℕ
put_lines i on y tall sets = per_line (put_on i on y tall sets)

-- the set of a line after entry i went from one y to another: where the old or the new one touches the line, its bit says
-- whether the new one does; every other set stays as it was, true or not
abbrev pub moved_on : ℕ → ℕ → ℕ → ℕ → List ℕ → ℕ → ℕ
moved_on i tall old new sets line =
    cond (in_range old line tall || in_range new line tall) (put i (in_range new line tall) (slice_index sets line)) (slice_index sets line)

-- so the sets of all lines; where y stays, all do
unfoldable pub moved : ℕ → ℕ → ℕ → ℕ → List ℕ → List ℕ
moved i tall old new sets = cond (old == new) sets (per_line (moved_on i tall old new sets))
