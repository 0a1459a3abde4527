-- The colour mix of the given Rust: what a 15-bit colour looks like on the screen of a colour hand-held.
use Rattle.std.specs.Prelude.{ℕ, ◌+◌, ◌*◌, ◌/◌, min, List, [], ◌∷◌}
use Rattle.colors.specs.declared.Color.{Color}
use Rattle.lcd.specs.declared.Rgb.{Rgb}

-- a sum, at most 960, divided by 4 downward
abbrev pub quarter : ℕ → ℕ
quarter sum = min sum 960 / 4

-- the three bytes of a colour
unfoldable pub mix : Color → Rgb
mix c =
    record {
      red = quarter (26 * c.r + 4 * c.g + 2 * c.b);
      green = quarter (24 * c.g + 8 * c.b);
      blue = quarter (6 * c.r + 4 * c.g + 22 * c.b);
    }

-- the bytes in the order in which they are stored
abbrev pub rgb_bytes : Rgb → List ℕ
rgb_bytes p = p.red ∷ p.green ∷ p.blue ∷ []
