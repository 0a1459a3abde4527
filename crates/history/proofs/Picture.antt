-- Places that follow one another, stored in a picture: their bytes stand in it in order, and the rest is as it was.
use Rattle.std.proofs.Common.{Option, Some, None}
use mathlib.Core.Path.{◌≡◌, refl, sym, ap, ◌∙◌}
use mathlib.Core.List.{List, [], ◌∷◌, ◌++◌, append_assoc, append-nil}
use Prim.Native.Nat.{ℕ, suc, ◌+◌, ◌*◌, ◌≤◌}
use native.Mathlib.Omega.{arith}
use lib.ListN.{length, take, drop, length-append, length-map, take-append-drop, drop_of_length-le}
use lib.Seq.{sets, sets-eq, length-sets, length-take-le, take_at, drop-append-add, drop-drop}
use Rattle.hardware.specs.Screen.{places, picture_bytes}
use Rattle.lcd.specs.Mix.{rgb_bytes}
use Rattle.lcd.specs.Pictures.{stored}
use Rattle.lcd.specs.declared.Rgb.{Rgb}
use Rattle.burst.specs.Burst.{all_stored}
use Rattle.history.specs.Stored.{Stored, stored_by, all_bytes, from, numbers}
use Rattle.history.proofs.Rising.{from_more, from_length}
use Rattle.draw.specs.declared.Place.{Place}

-- a picture with places stored in it, one after the other
unfoldable pub put : List ℕ → List Stored → List ℕ
put picture [] = picture
put picture (t ∷ rest) = put (sets picture (3 * t.place) (rgb_bytes t.bytes)) rest

-- a picture that draws stored in is the picture with their places stored in it
pub all_stored_law : (picture : List ℕ) (shots : List (Option Place)) → all_stored picture shots ≡ put picture (stored_by shots)
unfolding all_stored stored_by put
all_stored_law picture [] = refl
all_stored_law picture (Some t ∷ rest) = all_stored_law (stored picture t.x t.y t.rgb) rest
all_stored_law picture (None ∷ rest) = all_stored_law picture rest

pub put_append : (picture : List ℕ) (l r : List Stored) → put picture (l ++ r) ≡ put (put picture l) r
unfolding put
put_append picture [] r = refl
put_append picture (t ∷ l) r = put_append (sets picture (3 * t.place) (rgb_bytes t.bytes)) l r

-- one place stored: the front with its bytes, and what is behind
module _ (picture : List ℕ) (a : ℕ) (p : Rgb) (fits : 3 * a + 3 ≤ length picture) where
  front_length : length (take (3 * a) picture ++ rgb_bytes p) ≡ 3 * suc a
  front_length = omega (arith, length-append (take (3 * a) picture) (rgb_bytes p), length-take-le (3 * a) picture (omega arith))

  place_front : take (3 * suc a) (sets picture (3 * a) (rgb_bytes p)) ≡ take (3 * a) picture ++ rgb_bytes p
  place_front =
      ap (λ (q : List ℕ). take (3 * suc a) q) (sets-eq (rgb_bytes p) picture (3 * a) fits)
      ∙ take_at (take (3 * a) picture ++ rgb_bytes p) (drop (3 * a + 3) picture) (3 * suc a) front_length

  place_behind : (k : ℕ) → drop (3 * (suc a + k)) (sets picture (3 * a) (rgb_bytes p)) ≡ drop (3 * (a + suc k)) picture
  place_behind k =
      let x : List ℕ = take (3 * a) picture ++ rgb_bytes p in
      let y : List ℕ = drop (3 * a + 3) picture in
      let e : 3 * (suc a + k) ≡ length x + 3 * k = omega (arith, front_length) in
      let g : 3 * a + 3 + 3 * k ≡ 3 * (a + suc k) = omega arith in
      ap (λ (q : List ℕ). drop (3 * (suc a + k)) q) (sets-eq (rgb_bytes p) picture (3 * a) fits)
      ∙ ap (λ (j : ℕ). drop j (x ++ y)) e
      ∙ drop-append-add x y (3 * k)
      ∙ drop-drop (3 * k) (3 * a + 3) picture
      ∙ ap (λ (j : ℕ). drop j picture) g

-- places one after the other from a: their bytes, with what was before them and behind them
pub put_from : (picture : List ℕ) (a : ℕ) (l : List Stored) → numbers l ≡ from a (length l) → 3 * (a + length l) ≤ length picture
    → put picture l ≡ take (3 * a) picture ++ all_bytes l ++ drop (3 * (a + length l)) picture
unfolding put all_bytes
put_from picture a [] e fits =
    let z : 3 * a ≡ 3 * (a + 0) = omega arith in
    sym (ap (λ (q : List ℕ). q ++ drop (3 * (a + 0)) picture) (append-nil (take (3 * a) picture))
    ∙ ap (λ (j : ℕ). take (3 * a) picture ++ drop j picture) (sym z) ∙ take-append-drop (3 * a) picture)
put_from picture a (t ∷ l) e fits =
    let more : t.place ∷ numbers l ≡ a ∷ from (suc a) (length l) = e ∙ from_more a (length l) in
    let here : t.place ≡ a = cc in
    let rest : numbers l ≡ from (suc a) (length l) = cc in
    let p = t.bytes in
    let q : List ℕ = sets picture (3 * a) (rgb_bytes p) in
    let room : 3 * a + 3 ≤ length picture = omega arith in
    let k = length l in
    ap (λ (j : ℕ). put (sets picture (3 * j) (rgb_bytes p)) l) here
    ∙ put_from q (suc a) l rest (omega (arith, length-sets picture (3 * a) (rgb_bytes p)))
    ∙ ap (λ (z : List ℕ). z ++ all_bytes l ++ drop (3 * (suc a + k)) q) (place_front picture a p room)
    ∙ ap (λ (z : List ℕ). take (3 * a) picture ++ rgb_bytes p ++ all_bytes l ++ z) (place_behind picture a p room k)
    ∙ ap (λ (z : List ℕ). z ++ drop (3 * (a + suc k)) picture) (append_assoc (take (3 * a) picture) (rgb_bytes p) (all_bytes l))

-- as many as their numbers
pub numbers_length : (l : List Stored) (a k : ℕ) → numbers l ≡ from a k → length l ≡ k
numbers_length l a k e = sym (length-map l (λ (t : Stored). t.place)) ∙ ap length e ∙ from_length a k

-- all places of a picture: it holds their bytes, whatever it held before
pub put_whole : (picture : List ℕ) (l : List Stored) → length picture ≡ picture_bytes → numbers l ≡ from 0 places → put picture l ≡ all_bytes l
put_whole picture l size e =
    let n : length l ≡ places = numbers_length l 0 places e in
    let over : length picture ≤ 3 * (0 + length l) = omega arith in
    put_from picture 0 l (e ∙ ap (λ (j : ℕ). from 0 j) (sym n)) (omega arith)
    ∙ ap (λ (q : List ℕ). all_bytes l ++ q) (drop_of_length-le picture over)
    ∙ append-nil (all_bytes l)
