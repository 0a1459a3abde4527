-- An argument of a call: what its word can mean, and how the reading of a call goes on behind it.
use mathlib.Core.Path.{◌≡◌, refl, sym, ◌∙◌}
use mathlib.Core.Bool.{Bool, true, false, cond, ◌&&◌}
use mathlib.Core.List.{List, [], ◌∷◌}
use Prim.Native.Nat.{ℕ, ◌+◌, ◌*◌, ◌^◌, ◌%◌, ◌≤◌, ◌<◌}
use native.Mathlib.Omega.{arith}
use lib.Dec.{eqb, leb, ltb}
use lib.ListN.{length}
use borrow.Author.Tests.{eqb-true, leb-true, ltb-true}
use Rattle.logic.proofs.Both.{second}
use Rattle.std.specs.Prelude.{Option, Some, None, Err, ok_or}
use Rattle.captures.specs.declared.Wanted.{Wanted}
use Rattle.captures.specs.declared.Wanted.TheVariants as wanted
use Rattle.captures.specs.declared.Reason.{Reason}
use Rattle.captures.specs.declared.Reason.TheVariants.{Missing}
use Rattle.captures.specs.Words.{is_same}
use Rattle.captures.specs.Names.{colour_word, dmg_word, cgb_word, grey_word, on_word, off_word, write_word, read_word, read_write_word}
use Rattle.captures.specs.Numbers.{digit_of, number_from}
use Rattle.captures.specs.Reading.{either, kind_of, hexadecimal, bytes_of, within, decimal, meaning, wrong, is_optional, Then, onward}
use Rattle.captures.specs.Reading.{argument as argumentOf}
use Rattle.captures.specs.Parts.{limit, Went}
use Rattle.captures.proofs.Texts.{same_equal}
use Rattle.captures.proofs.Numbers.{grows, fits}

-- WHAT A WORD CAN MEAN

abbrev Small : ℕ → List ℕ → Option ℕ → Type 0
Small top w (Some v) = (v < top) × (length w ≤ 16)
Small top w None = Unit

-- a word that is one of the known ones
known : (top v : ℕ) (w one : List ℕ) (rest : Option ℕ) → v < top → length one ≤ 16 → Small top w rest → Small top w (cond (is_same w one) (Some v) rest)
known top v w one rest h l s = by (is_same w one) refl
  where
    by : (b : Bool) → is_same w one ≡ b → Small top w (cond b (Some v) rest)
    by true e = (h, rw (same_equal w one e) l)
    by false e = s

-- a word that a test refuses means nothing
tested : (top : ℕ) (w : List ℕ) (b : Bool) (r : Option ℕ) → (b ≡ true → Small top w r) → Small top w (cond b r None)
tested top w true r f = f refl
tested top w false r f = tt

-- digits
number_small : (base n i top : ℕ) (w l : List ℕ) → n < base ^ i → base ^ (i + length l) ≤ top → length w ≤ 16 → Small top w (number_from base n l)
unfolding number_from
number_small base n i top w [] h t s =
    let none : i + 0 ≡ i = omega arith in
    let bound : base ^ i ≤ top = rw none at t in
    (omega arith, s)
number_small base n i top w (b ∷ l) h t s =
    let more : i + length (b ∷ l) ≡ i + 1 + length l = omega arith in
    tested top w (ltb (digit_of b) base) _ λ e.
    number_small base (n * base + digit_of b) (i + 1) top w l (grows base base n (digit_of b) i (omega arith) h (ltb-true _ _ e)) (rw more at t) s

-- a number within bounds
bounded : (top low high : ℕ) (w : List ℕ) (r : Option ℕ) → high < top → length w ≤ 16 → Small top w (within low high r)
unfolding within
bounded top low high w (Some n) h l = by (leb low n && leb n high) refl
  where
    by : (b : Bool) → (leb low n && leb n high) ≡ b → Small top w (cond b (Some n) None)
    by true e = (omega (arith, leb-true n high (second (leb low n) _ e)), l)
    by false e = tt
bounded top low high w None h l = tt

small : (k : Wanted) (w : List ℕ) → Small (limit k) w (meaning k w)
unfolding meaning either kind_of hexadecimal bytes_of decimal
small wanted.Device w = known 2 1 w dmg_word _ (omega arith) (omega arith) (known 2 0 w cgb_word None (omega arith) (omega arith) tt)
small wanted.Colour w = known 2 1 w colour_word _ (omega arith) (omega arith) (known 2 0 w grey_word None (omega arith) (omega arith) tt)
small wanted.Address w = tested 65536 w _ _ λ e.
    let size : length w ≡ 4 = eqb-true (length w) 4 e in
    number_small 16 0 0 65536 w w (omega arith) (rw size (omega arith)) (omega arith)
small wanted.Value w = tested 256 w _ _ λ e.
    let size : length w ≡ 2 = eqb-true (length w) 2 e in
    number_small 16 0 0 256 w w (omega arith) (rw size (omega arith)) (omega arith)
small wanted.Bytes w = tested 18446744073709551616 w _ _ λ e.
    let size : length w ≤ 16 = leb-true (length w) 16 (second (eqb (length w % 2) 0 && leb 2 (length w)) (leb (length w) 16) e) in
    number_small 16 0 0 18446744073709551616 w w (omega arith) (fits (0 + length w) (omega arith)) size
small wanted.Cycles w = tested 256 w (leb 1 (length w) && leb (length w) 10) _ λ e.
    let size : length w ≤ 10 = leb-true (length w) 10 (second (leb 1 (length w)) (leb (length w) 10) e) in
    bounded 256 0 255 w _ (omega arith) (omega arith)
small wanted.Times w = tested 4294967296 w (leb 1 (length w) && leb (length w) 10) _ λ e.
    let size : length w ≤ 10 = leb-true (length w) 10 (second (leb 1 (length w)) (leb (length w) 10) e) in
    bounded 4294967296 1 4294967295 w _ (omega arith) (omega arith)
small wanted.Kind w =
    known 3 0 w write_word _ (omega arith) (omega arith)
    (known 3 1 w read_word _ (omega arith) (omega arith) (known 3 2 w read_write_word None (omega arith) (omega arith) tt))
small wanted.Switch w = known 2 1 w on_word _ (omega arith) (omega arith) (known 2 0 w off_word None (omega arith) (omega arith) tt)

one_small : (k : Wanted) → 1 < limit k
one_small wanted.Device = omega arith
one_small wanted.Colour = omega arith
one_small wanted.Address = omega arith
one_small wanted.Value = omega arith
one_small wanted.Bytes = omega arith
one_small wanted.Cycles = omega arith
one_small wanted.Times = omega arith
one_small wanted.Kind = omega arith
one_small wanted.Switch = omega arith

-- THE NEXT ARGUMENT

no_value : (o : Option ℕ) (bad r : Reason) → ok_or o bad ≡ Err r → (o ≡ None) × (bad ≡ r)
no_value None bad r e = (refl, cc)
no_value (Some v) bad r e = absurd (cc)

module _ (k : Wanted) (w : List ℕ) (ws : List (List ℕ)) {o : Option ℕ} (is : o ≡ meaning k w) where
  pub meant : (value : ℕ) → o ≡ Some value → Went (w ∷ ws) k value (length w) ws
  unfolding argumentOf onward
  meant value e =
      let means : meaning k w ≡ Some value = sym is ∙ e in
      let fits : Small (limit k) w (Some value) = rw means at (small k w) in
      record {
        small = fits.0;
        short = fits.1;
        goes = λ then. rw means refl;
      }

  pub not_meant : {bad : Reason} (r : Reason) → bad ≡ wrong k → ok_or o bad ≡ Err r → (then : Then) → argumentOf k (w ∷ ws) then ≡ Err r
  unfolding argumentOf onward
  not_meant r b e then =
      let refused = no_value o _ r e in
      rw (sym is ∙ refused.0, sym b ∙ refused.1) refl

pub left_out : (k : Wanted) → is_optional k ≡ true → Went [] k 1 0 []
unfolding argumentOf
left_out k e =
    record {
      small = one_small k;
      short = omega arith;
      goes = λ then. rw e refl;
    }

pub missing : (k : Wanted) → is_optional k ≡ false → (then : Then) → argumentOf k [] then ≡ Err Missing
unfolding argumentOf
missing k e then = rw e refl
