-- An entry put into a set, or taken out, by the operations on numbers.
use Rattle.std.proofs.Common.{◌≡◌, ℕ, zero, suc, ◌+◌, ◌-◌, ◌*◌, ◌/◌, ◌%◌, ◌^◌, ◌<◌, Bool, true, false, cond, not, ◌&&◌, ◌||◌, eqb, refl, ap, ◌∙◌, ⊎_elim, le_of_suc-le-suc, lt_of_le_of_lt, mod-lt, eq-or-lt_of_le, pow-suc, arith, lit<, ltb-true, eq-eqb, ne_eqb}
use lib.Pow.{pow-lt}
use lib.Bits.{bit_and, bit_or, and_shr, and_mod, or_shr, or_mod, or_lt, and_le_l}
use Rattle.wrap.specs.Wrap.{digit_at, bit_at}
use Rattle.line_sets.specs.Sets.{entries, bits_of, is_set, put}
use Rattle.line_sets.proofs.Bits.{Digit, off, on, digit, bit_of, of_bits}

-- two digits, and the bits of `|` and `&`
or_digits : {a b : ℕ} → Digit a → Digit b → eqb (bit_or a b) 1 ≡ eqb a 1 || eqb b 1
or_digits off off = refl
or_digits off on = refl
or_digits on off = refl
or_digits on on = refl

and_digits : {a b : ℕ} → Digit a → Digit b → eqb (bit_and a b) 1 ≡ eqb a 1 && eqb b 1
and_digits off off = refl
and_digits off on = refl
and_digits on off = refl
and_digits on on = refl

module _ (a b j : ℕ) where
  digit_a : Digit (digit_at a j)
  digit_a = digit (digit_at a j) (mod-lt (a / 2 ^ j) (lit< tt))

  digit_b : Digit (digit_at b j)
  digit_b = digit (digit_at b j) (mod-lt (b / 2 ^ j) (lit< tt))

  or_bit : bit_at (bit_or a b) j ≡ bit_at a j || bit_at b j
  or_bit =
      ap (λ (x : ℕ). eqb x 1) (ap (λ (x : ℕ). x % 2) (or_shr a b j) ∙ or_mod (a / 2 ^ j) (b / 2 ^ j) 1) ∙ or_digits digit_a digit_b

  and_bit : bit_at (bit_and a b) j ≡ bit_at a j && bit_at b j
  and_bit =
      ap (λ (x : ℕ). eqb x 1) (ap (λ (x : ℕ). x % 2) (and_shr a b j) ∙ and_mod (a / 2 ^ j) (b / 2 ^ j) 1) ∙ and_digits digit_a digit_b

-- no bit; one bit, of any place below n; the bits that a test does not say
pub bits_none : (t : ℕ → Bool) (n : ℕ) → ((j : ℕ) → j < n → t j ≡ false) → bits_of t n ≡ 0
unfolding bits_of
bits_none t zero h = refl
bits_none t (suc n) h = rw (h n (omega arith), bits_none t n (λ j l. h j (omega arith))) (omega arith)

bits_one : (i n : ℕ) → i < n → 2 ^ i ≡ bits_of (λ j. eqb j i) n
unfolding bits_of
bits_one i zero h = absurd (omega arith)
bits_one i (suc n) h =
    ⊎_elim
    (λ e. rw (bits_none (λ j. eqb j i) n (λ j l. ne_eqb j i (λ z. omega (arith, z))), e, eq-eqb n n refl) (omega arith))
    (λ l. rw (ne_eqb n i (λ z. omega (arith, z))) (bits_one i n l ∙ omega arith))
    (eq-or-lt_of_le (le_of_suc-le-suc h))

bits_not : (t : ℕ → Bool) (n : ℕ) → bits_of (λ j. not (t j)) n + bits_of t n + 1 ≡ 2 ^ n
unfolding bits_of
bits_not t zero = refl
bits_not t (suc n) = one (t n) (bits_not t n)
  where
    one : (v : Bool) → bits_of (λ j. not (t j)) n + bits_of t n + 1 ≡ 2 ^ n
        → (cond (not v) 1 0 * 2 ^ n + bits_of (λ j. not (t j)) n) + (cond v 1 0 * 2 ^ n + bits_of t n) + 1 ≡ 2 ^ suc n
    one true e = rw pow-suc (omega (arith, e))
    one false e = rw pow-suc (omega (arith, e))

-- the bit of entry i is set in 2 ^ i, and it alone is not in the number that `!` makes of it
one_bit : (i j : ℕ) → i < entries → j < entries → bit_at (2 ^ i) j ≡ eqb j i
one_bit i j h l = rw (bits_one i entries h) (bit_of (λ k. eqb k i) entries j l)

not_bit : (i j : ℕ) → i < entries → j < entries → bit_at (2 ^ 64 - 1 - 2 ^ i) j ≡ not (eqb j i)
not_bit i j h l =
    let t : ℕ → Bool = λ k. eqb k i in
    let whole = bits_not t 64 in
    let e : 2 ^ 64 - 1 - bits_of t 64 ≡ bits_of (λ k. not (t k)) 64 = omega (arith, whole) in
    rw (bits_one i 64 (omega arith), e) (bit_of (λ k. not (t k)) 64 j (omega arith))

or_choice : (v b : Bool) → b || v ≡ cond v true b
or_choice true true = refl
or_choice true false = refl
or_choice false true = refl
or_choice false false = refl

and_choice : (v b : Bool) → b && not v ≡ cond v false b
and_choice true true = refl
and_choice true false = refl
and_choice false true = refl
and_choice false false = refl

module _ (i s : ℕ) (h : i < entries) (b : is_set s ≡ true) where
  pub put_in : bit_or s (2 ^ i) ≡ put i true s
  put_in =
      of_bits (λ j. cond (eqb j i) true (bit_at s j)) entries (bit_or s (2 ^ i)) (or_lt entries s (2 ^ i) (ltb-true _ _ b) (pow-lt h))
      (λ j l. or_bit s (2 ^ i) j ∙ rw (one_bit i j h l) (or_choice (eqb j i) (bit_at s j)))

  pub put_out : bit_and s (2 ^ 64 - 1 - 2 ^ i) ≡ put i false s
  put_out =
      of_bits (λ j. cond (eqb j i) false (bit_at s j)) entries (bit_and s (2 ^ 64 - 1 - 2 ^ i))
      (lt_of_le_of_lt (and_le_l s (2 ^ 64 - 1 - 2 ^ i)) (ltb-true _ _ b))
      (λ j l. and_bit s (2 ^ 64 - 1 - 2 ^ i) j ∙ rw (not_bit i j h l) (and_choice (eqb j i) (bit_at s j)))
