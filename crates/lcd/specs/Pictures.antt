-- Two pictures: one is shown, the other, hidden, is drawn.
use Rattle.std.specs.Prelude.{ℕ, zero, suc, ◌-◌, ◌≡◌, Bool, ◌&&◌, List, eqb, length, replicate}
use Rattle.std.proofs.lemmas.List.Edits.{sets}
use Rattle.hardware.specs.Screen.{picture_bytes, offset}
use Rattle.lcd.specs.Mix.{rgb_bytes}
use Rattle.lcd.specs.declared.Rgb.{Rgb}

-- a picture with three bytes stored at a place
abbrev pub stored : List ℕ → ℕ → ℕ → Rgb → List ℕ
stored picture x y p = sets picture (offset x y) (rgb_bytes p)

-- picture A at 0, picture B at any other number
abbrev pub chosen {ℓ} : {P : Type ℓ} → ℕ → P → P → P
chosen zero a b = a
chosen (suc n) a b = b

-- the number of the picture that is not shown
abbrev pub other : ℕ → ℕ
other n = 1 - n

-- both, as they are lent
pub record Pictures : Type 0 where
  pub a : List ℕ
  pub b : List ℕ

abbrev pub pictures : List ℕ → List ℕ → Pictures
pictures a b = record { a = a; b = b }

-- both have their length: as a test, and as a fact
abbrev pub pictures_fit : Pictures → Bool
pictures_fit p = eqb (length p.a) picture_bytes && eqb (length p.b) picture_bytes

pub record PicturesSized (p : Pictures) : Type 0 where
  pub a : length p.a ≡ picture_bytes
  pub b : length p.b ≡ picture_bytes

-- two pairs are of the same lengths, whatever they hold
pub record SameLengths (p q : Pictures) : Type 0 where
  pub a : length p.a ≡ length q.a
  pub b : length p.b ≡ length q.b

-- both filled with one byte
abbrev pub filled_with : ℕ → Pictures → Pictures
filled_with v p = pictures (replicate (length p.a) v) (replicate (length p.b) v)

-- the one that is shown, and the hidden one
abbrev pub shown_of : ℕ → Pictures → List ℕ
shown_of shown p = chosen shown p.a p.b

abbrev pub hidden_of : ℕ → Pictures → List ℕ
hidden_of shown p = chosen shown p.b p.a

-- another in place of the hidden one
abbrev pub with_hidden : ℕ → Pictures → List ℕ → Pictures
with_hidden shown p hidden = chosen shown (pictures p.a hidden) (pictures hidden p.b)
