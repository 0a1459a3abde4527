-- Laws of numbers that rise strictly between two bounds: their count says whether every number is there.
use mathlib.Core.Path.{◌≡◌, refl, ap, ◌∙◌}
use mathlib.Core.Logic.{◌⊎◌, inl, inr, ◌↔◌}
use mathlib.Core.Bool.{Bool, true, false}
use mathlib.Core.List.Memᴰ
use mathlib.Core.List.{List, [], ◌∷◌, ◌++◌, Memᴰ}
use Prim.Native.Nat.{ℕ, zero, suc, ◌+◌, ◌≤◌, ◌<◌}
use native.Mathlib.Omega.{arith}
use borrow.Author.Tests.{leb-true, leb-false}
use lib.Dec.{leb}
use lib.ListN.{length}
use Rattle.history.specs.Stored.{from}

-- strictly rising numbers, each at least lo and below hi
pub data Rising : ℕ → ℕ → List ℕ → Type 0 where
  none : {lo hi : ℕ} → lo ≤ hi → Rising lo hi []
  next : {lo hi a : ℕ} {l : List ℕ} → lo ≤ a → Rising (suc a) hi l → Rising lo hi (a ∷ l)

pub from_none : (a : ℕ) → from a 0 ≡ []
unfolding from
from_none a = refl

pub from_more : (a n : ℕ) → from a (suc n) ≡ a ∷ from (suc a) n
unfolding from
from_more a n = refl

pub from_length : (a n : ℕ) → length (from a n) ≡ n
unfolding from
from_length a zero = refl
from_length a (suc n) = ap suc (from_length (suc a) n)

-- the bounds
pub rising_bounds : {lo hi : ℕ} {l : List ℕ} → Rising lo hi l → lo + length l ≤ hi
rising_bounds (none h) = omega arith
rising_bounds (next h r) = let b = rising_bounds r in omega arith

pub rising_lower : {lo lo' hi : ℕ} {l : List ℕ} → lo' ≤ lo → Rising lo hi l → Rising lo' hi l
rising_lower {lo' = lo'} {hi} h (none b) = let e : lo' ≤ hi = omega arith in none e
rising_lower {lo' = lo'} h (next {a = a} b r) = let e : lo' ≤ a = omega arith in next e r

pub rising_zero : {lo hi : ℕ} {l : List ℕ} → Rising lo hi l → Rising 0 hi l
rising_zero r = rising_lower (omega arith) r

pub rising_upper : {lo hi hi' : ℕ} {l : List ℕ} → hi ≤ hi' → Rising lo hi l → Rising lo hi' l
rising_upper {lo} {hi' = hi'} h (none b) = let e : lo ≤ hi' = omega arith in none e
rising_upper h (next b r) = next b (rising_upper h r)

-- others behind
pub rising_append : {lo m hi : ℕ} {l r : List ℕ} → Rising lo m l → Rising m hi r → Rising lo hi (l ++ r)
rising_append (none h) r = rising_lower h r
rising_append (next h l) r = next h (rising_append l r)

pub from_rising : (a n : ℕ) → Rising a (a + n) (from a n)
unfolding from
from_rising a zero = let e : a ≤ a + 0 = omega arith in none e
from_rising a (suc n) =
    let e : a ≤ a = omega arith in
    let h : suc a + n ≤ a + suc n = omega arith in
    next e (rising_upper h (from_rising (suc a) n))

-- as many as there is room for: each of them
pub rising_full : {lo hi : ℕ} {l : List ℕ} → Rising lo hi l → hi ≡ lo + length l → l ≡ from lo (length l)
unfolding from
rising_full (none h) e = refl
rising_full (next {lo} {a = a} {l = l} h r) e =
    let b : suc a + length l ≤ _ = rising_bounds r in
    let z : a ≡ lo = omega arith in
    ap (λ (k : ℕ). k ∷ l) z ∙ ap (λ (t : List ℕ). lo ∷ t) (rising_full r (omega arith) ∙ ap (λ (k : ℕ). from (suc k) (length l)) z)

pub member_from : (a n k : ℕ) → a ≤ k → k < a + n → Memᴰ k (from a n)
unfolding from
member_from a zero k low high = absurd (omega arith)
member_from a (suc n) k low high = by (leb k a) refl (λ h. member_from (suc a) n k h (omega arith))
  where
    by : (b : Bool) → leb k a ≡ b → (suc a ≤ k → Memᴰ k (from (suc a) n)) → Memᴰ k (a ∷ from (suc a) n)
    by true e f = let z : k ≡ a = omega (arith, leb-true k a e) in Memᴰ.head z
    by false e f = Memᴰ.tail (f (leb-false k a e))

-- each is at least lo and below hi
pub rising_member : {lo hi k : ℕ} {l : List ℕ} → Rising lo hi l → Memᴰ k l → (lo ≤ k) × (k < hi)
rising_member (none h) m = absurd (Memᴰ.not-nil m)
rising_member {lo} {hi} {k} (next {a = a} {l = l} h r) m = by (Memᴰ.cases_cons m) (λ t. rising_member r t)
  where
    by : (k ≡ a) ⊎ Memᴰ k l → (Memᴰ k l → (suc a ≤ k) × (k < hi)) → (lo ≤ k) × (k < hi)
    by (inl e) f = let b = rising_bounds r in (omega arith, omega arith)
    by (inr t) f = let b = f t in (omega arith, b.1)

-- where each number is there, they are as many as there is room for
pub rising_covers : {lo hi : ℕ} {l : List ℕ} → Rising lo hi l → ((k : ℕ) → lo ≤ k → k < hi → Memᴰ k l) → hi ≤ lo + length l
rising_covers {lo} {hi} (none h) c = by (leb hi lo) refl
  where
    by : (b : Bool) → leb hi lo ≡ b → hi ≤ lo + 0
    by true e = omega (arith, leb-true hi lo e)
    by false e = absurd (Memᴰ.not-nil (c lo (omega arith) (leb-false hi lo e)))
rising_covers {lo} {hi} (next {a = a} {l = l} h r) c =
    let b = rising_bounds r in
    let z : lo ≡ a = first (Memᴰ.cases_cons (c lo (omega arith) (omega arith))) in
    let rest = rising_covers r (λ k low high. other k low (Memᴰ.cases_cons (c k (omega arith) high))) in
    omega arith
  where
    first : (lo ≡ a) ⊎ Memᴰ lo l → lo ≡ a
    first (inl e) = e
    first (inr m) = let b = rising_member r m in absurd (omega arith)

    other : (k : ℕ) → suc a ≤ k → (k ≡ a) ⊎ Memᴰ k l → Memᴰ k l
    other k low (inl e) = absurd (omega arith)
    other k low (inr m) = m

-- below n: at most n of them; n of them are 0, 1, .., n - 1; and n of them are the same as every number below n
module _ {n : ℕ} {l : List ℕ} (r : Rising 0 n l) where
  pub rising_most : length l ≤ n
  rising_most = let b = rising_bounds r in omega arith

  pub rising_whole : length l ≡ n → l ≡ from 0 n
  rising_whole e = rising_full r (omega arith) ∙ ap (λ (k : ℕ). from 0 k) e

  pub rising_mark : (length l ≡ n) ↔ ((k : ℕ) → k < n → Memᴰ k l)
  rising_mark = (
    λ e. λ k h. rw (rising_whole e) (member_from 0 n k (omega arith) (omega arith)),
    λ c. let b = rising_bounds r in let a = rising_covers r (λ k low high. c k high) in omega arith,
  )
