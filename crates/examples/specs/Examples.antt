-- 01's examples P1 to P11: what each says of the definitions that the functions are proved to compute.
use Rattle.std.specs.Prelude.{ℕ, ◌<◌, ◌≡◌, true, false, List, [], ◌∷◌, replicate}
use Rattle.sprite.specs.Oam.{in_range, moved_left}
use Rattle.sprite.specs.Pick.{touches, lowest_ten}
use Rattle.colors.specs.Shade.{shade}
use Rattle.colors.specs.Palettes.{fresh_set, index_written, data_written}
use Rattle.colors.specs.declared.Color.{Color}
use Rattle.lcd.specs.Mix.{mix, rgb_bytes}
use Rattle.state.specs.declared.Registers.{Registers}
use Rattle.registers.specs.Write.{kept, registers_written}
use Rattle.oam_bug.specs.Corruption.{write_word, read_word}

pub data Example : Type 0 where
  P1 P2 P3 P4 P5 P6 P7 P8 P9 P10 P11 : Example

abbrev pub colour : ℕ → ℕ → ℕ → Color
colour r g b = record { r = r; g = g; b = b }

abbrev pub says : Example → Type 0
-- (31,31,31) gives 240,240,240
says P1 = rgb_bytes (mix (colour 31 31 31)) ≡ 240 ∷ 240 ∷ 240 ∷ []
-- (31,0,0) gives 201,0,46
says P2 = rgb_bytes (mix (colour 31 0 0)) ≡ 201 ∷ 0 ∷ 46 ∷ []
-- (21,21,21) gives 168 three times
says P3 = rgb_bytes (mix (colour 21 21 21)) ≡ 168 ∷ 168 ∷ 168 ∷ []
-- y 16, height 8: lines 0 and 7 in, 8 out
says P4 = (in_range 16 0 8 ≡ true) × (in_range 16 7 8 ≡ true) × (in_range 16 8 8 ≡ false)
-- y 8, line 0: out at height 8, in at 16; y 0 out at both
says P5 =
    (in_range 8 0 8 ≡ false) × (in_range 8 0 16 ≡ true) × (in_range 0 0 8 ≡ false) × (in_range 0 0 16 ≡ false)
-- all forty in, of any OAM, line and height: 0 to 9 taken
says P6 =
    (oam : List ℕ) (line tall : ℕ) → ((i : ℕ) → i < 40 → touches oam line tall i ≡ true)
    → lowest_ten oam line tall ≡ 0 ∷ 1 ∷ 2 ∷ 3 ∷ 4 ∷ 5 ∷ 6 ∷ 7 ∷ 8 ∷ 9 ∷ []
-- sprite x 3, colours c0..c7: c5 c6 c7 0 0 0 0 0; x 0: eight 0s
says P7 =
    (c0 c1 c2 c3 c4 c5 c6 c7 : ℕ) →
    (moved_left (c0 ∷ c1 ∷ c2 ∷ c3 ∷ c4 ∷ c5 ∷ c6 ∷ c7 ∷ []) 3 ≡ c5 ∷ c6 ∷ c7 ∷ 0 ∷ 0 ∷ 0 ∷ 0 ∷ 0 ∷ [])
    × (moved_left (c0 ∷ c1 ∷ c2 ∷ c3 ∷ c4 ∷ c5 ∷ c6 ∷ c7 ∷ []) 0 ≡ replicate 8 0)
-- index write BF, one data write: index 0; index write 3F: stays 63
says P8 =
    (v : ℕ) →
    ((data_written (index_written fresh_set 0xBF) v).index ≡ 0) × ((data_written (index_written fresh_set 0x3F) v).index ≡ 63)
-- STAT 03, write FF: 7B
says P9 = (r : Registers) → r.stat ≡ 3 → (registers_written r 0xFF41 (kept 0xFF41 0xFF)).stat ≡ 0x7B
-- BGP FC: colours 0,1,2,3 become 0,3,3,3
says P10 = (shade 0xFC 0 ≡ 0) × (shade 0xFC 1 ≡ 3) × (shade 0xFC 2 ≡ 3) × (shade 0xFC 3 ≡ 3)
-- a 00FF, b 0F0F, c 3333: write 033F, read 0F3F
says P11 = (write_word 0x00FF 0x0F0F 0x3333 ≡ 0x033F) × (read_word 0x00FF 0x0F0F 0x3333 ≡ 0x0F3F)
