-- A number and its bits: the number of a test has the bits that the test says, and a number is that of its own bits.
use Rattle.std.proofs.Common.{◌≡◌, ℕ, zero, suc, ◌+◌, ◌-◌, ◌*◌, ◌/◌, ◌%◌, ◌^◌, ◌<◌, Bool, true, false, cond, eqb, sym, refl, ap, ◌∙◌, ⊎_elim, le_of_suc-le-suc, mod-lt, mod-eq_of_lt, mul_comm, eq-or-lt_of_le, pow-suc, sub-add_cancel, one-add, arith, lit<, pow_pos, shr_lt}
use lib.Arith.{digits_lt}
use lib.Pow.{split, high, low, field, mod-mod-pow}
use Rattle.wrap.specs.Wrap.{digit_at, bit_at}
use Rattle.line_sets.specs.Sets.{bits_of}

-- a digit is 0 or 1
pub data Digit : ℕ → Type 0 where
  off : Digit 0
  on : Digit 1

pub digit : (d : ℕ) → d < 2 → Digit d
digit zero h = off
digit (suc zero) h = on
digit (suc (suc d)) h = absurd (omega arith)

pub digit_is : {d : ℕ} → Digit d → d ≡ cond (eqb d 1) 1 0
digit_is off = refl
digit_is on = refl

pub digit_test : (v : Bool) → eqb (cond v 1 0) 1 ≡ v
digit_test true = refl
digit_test false = refl

digit_lt : (v : Bool) → cond v 1 0 < 2
digit_lt true = lit< tt
digit_lt false = lit< tt

-- digit i is among the n low digits, if it is below n
low_digit : (s n i : ℕ) → i < n → digit_at (s % 2 ^ n) i ≡ digit_at s i
low_digit s n i h =
    let e : n - (1 + i) + (1 + i) ≡ n = sub-add_cancel (omega arith) in
    sym (field (s % 2 ^ n) 1 i) ∙ ap (λ (x : ℕ). x / 2 ^ i) (rw e at (mod-mod-pow s (n - (1 + i)) (1 + i))) ∙ field s 1 i

module _ (t : ℕ → Bool) where
  pub bits_lt : (n : ℕ) → bits_of t n < 2 ^ n
  unfolding bits_of
  bits_lt zero = lit< tt
  bits_lt (suc n) = rw (pow-suc, mul_comm (2 ^ n) 2) (digits_lt (digit_lt (t n)) (bits_lt n))

  -- bit i is what the test says of i
  digit_of_law : (n i : ℕ) → i < n → digit_at (bits_of t n) i ≡ cond (t i) 1 0
  unfolding bits_of
  digit_of_law zero i h = absurd (omega arith)
  digit_of_law (suc n) i h =
      let d : ℕ = cond (t n) 1 0 in
      ⊎_elim
      (λ e. rw e (ap (λ (x : ℕ). x % 2) (high d n (bits_lt n)) ∙ mod-eq_of_lt (digit_lt (t n))))
      (λ l. sym (low_digit (d * 2 ^ n + bits_of t n) n i l) ∙ rw (low d n (bits_lt n)) (digit_of_law n i l))
      (eq-or-lt_of_le (le_of_suc-le-suc h))

  pub bit_of : (n i : ℕ) → i < n → bit_at (bits_of t n) i ≡ t i
  bit_of n i h = rw (digit_of_law n i h) (digit_test (t i))

  -- a number of n digits whose bits the test says
  pub of_bits : (n s : ℕ) → s < 2 ^ n → ((i : ℕ) → i < n → bit_at s i ≡ t i) → s ≡ bits_of t n
  unfolding bits_of
  of_bits zero s h b = omega arith
  of_bits (suc n) s h b =
      let q : s / 2 ^ n < 2 = shr_lt 1 n (rw (one-add n) h) in
      let top : s / 2 ^ n ≡ cond (t n) 1 0 =
      sym (mod-eq_of_lt q) ∙ digit_is (digit (digit_at s n) (mod-lt (s / 2 ^ n) (lit< tt))) ∙ ap (λ (v : Bool). cond v 1 0) (b n (omega arith)) in
      let rest : s % 2 ^ n ≡ bits_of t n =
      of_bits n (s % 2 ^ n) (mod-lt s (pow_pos n)) (λ i l. ap (λ (d : ℕ). eqb d 1) (low_digit s n i l) ∙ b i (omega arith)) in
      sym (split s n) ∙ rw (top, rest)

-- tests that agree have one number
pub bits_same : (t u : ℕ → Bool) (n : ℕ) → ((i : ℕ) → i < n → t i ≡ u i) → bits_of t n ≡ bits_of u n
bits_same t u n h = of_bits u n (bits_of t n) (bits_lt t n) (λ i l. bit_of t n i l ∙ h i l)
