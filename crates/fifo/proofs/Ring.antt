-- Laws of a ring of slots, over its size and what the slots hold.
use mathlib.Core.Path.{◌≡◌, refl, ap, sym, ◌∙◌}
use mathlib.Core.Bool.{Bool, true, false}
use mathlib.Core.List.{List, [], ◌∷◌, ◌++◌, append_assoc, append-nil}
use Prim.Native.Nat.{ℕ, zero, suc, ◌+◌, ◌-◌, ◌%◌, ◌≤◌, ◌<◌}
use native.Mathlib.Nat.{suc-add, add-suc, add-zero, mod-lt, mod-mod, mod-add-mod, mod-eq_of_lt, mod-eq-sub-mod, suc-mod}
use native.Mathlib.Numerals.{add-one}
use native.Mathlib.Omega.{arith}
use borrow.Author.Tests.{eq-eqb, ne_eqb, ltb-true, ltb-false}
use lib.Dec.{ltb}
use lib.ListN.{length, take, get_or, set, length-set}
use lib.Seq.{take-suc, get_or-set_same, get_or-set_other, length-take-le}
use Rattle.std.proofs.Common.{Some, None}
use Rattle.fifo.specs.declared.Fifo.{Fifo}
use Rattle.fifo.specs.Ring.{live, laid, front, rest, popped}

-- less than a round on is another slot, whether the end of the ring lies between or not
on : {size r j : ℕ} → 0 < j → r + j < size → (r + j) % size ≡ r → ⊥
on pos h e = omega (arith, sym (mod-eq_of_lt h) ∙ e)

round : {size r j : ℕ} → j < size → r < size → size ≤ r + j → (r + j) % size ≡ r → ⊥
round {size} {r} {j} less below h e =
    let s : r + j - size < size = omega arith in
    omega (arith, sym (mod-eq_of_lt s) ∙ (sym (mod-eq-sub-mod h) ∙ e))

pub apart : (size a j : ℕ) → 0 < j → j < size → (a + j) % size ≡ a % size → ⊥
apart size a j pos less e = go (ltb (a % size + j) size) refl
  where
    go : (b : Bool) → ltb (a % size + j) size ≡ b → ⊥
    go true t = on pos (ltb-true _ _ t) (mod-add-mod a size j ∙ e)
    go false t = round less (mod-lt a (omega arith)) (ltb-false _ _ t) (mod-add-mod a size j ∙ e)

module _ {A : Type 0} (size : ℕ) (blank : A) where
  pub live_length : (slots : List A) (at n : ℕ) → length (live size blank slots at n) ≡ n
  unfolding live
  live_length slots at zero = refl
  live_length slots at (suc n) = ap suc (live_length slots (suc at) n)

  -- element k stands k slots on
  pub live_at : (slots : List A) (at n k : ℕ) → k < n → get_or (live size blank slots at n) k blank ≡ get_or slots ((at + k) % size) blank
  unfolding live
  live_at slots at zero k h = absurd (omega arith)
  live_at slots at (suc n) zero h = rw add-zero
  live_at slots at (suc n) (suc k) h = rw (live_at slots (suc at) n k (omega arith), suc-add, add-suc)

  -- one more at the back
  pub live_more : (slots : List A) (at n : ℕ)
      → live size blank slots at (n + 1) ≡ live size blank slots at n ++ get_or slots ((at + n) % size) blank ∷ []
  unfolding live
  live_more slots at zero = rw add-zero
  live_more slots at (suc n) = rw (suc-add, live_more slots (suc at) n, suc-add, add-suc)

  -- only the slot matters where a ring starts, and not the round
  pub live_round : (slots : List A) (a b n : ℕ) → a % size ≡ b % size → live size blank slots a n ≡ live size blank slots b n
  unfolding live
  live_round slots a b zero e = refl
  live_round slots a b (suc n) e =
      rw (e, live_round slots (suc a) (suc b) n (suc-mod a size ∙ (ap (λ (m : ℕ). suc m % size) e ∙ sym (suc-mod b size))))

  -- a store elsewhere is not seen
  pub live_set : (slots : List A) (at n j : ℕ) (v : A) → n + j < size
      → live size blank (set slots ((at + (n + j)) % size) v) at n ≡ live size blank slots at n
  unfolding live
  live_set slots at zero j v h = refl
  live_set slots at (suc n) j v h =
      let place : suc at + (n + j) ≡ at + (suc n + j) = omega arith in
      let front = get_or-set_other slots ((at + (suc n + j)) % size) (at % size) v blank (λ e. apart size at (suc n + j) (omega arith) h (sym e)) in
      let back = live_set slots (suc at) n j v (omega arith) in
      rw (front, rw place at back)

  pub laid_length : (slots : List A) (at : ℕ) (vs : List A) → length (laid size slots at vs) ≡ length slots
  unfolding laid
  laid_length slots at [] = refl
  laid_length slots at (v ∷ vs) = laid_length (set slots (at % size) v) (suc at) vs ∙ simp length-set

  -- one more laid
  pub laid_snoc : (slots : List A) (at : ℕ) (vs : List A) (v : A)
      → laid size slots at (vs ++ v ∷ []) ≡ set (laid size slots at vs) ((at + length vs) % size) v
  unfolding laid
  laid_snoc slots at [] v = rw add-zero
  laid_snoc slots at (x ∷ vs) v = rw (laid_snoc (set slots (at % size) x) (suc at) vs v, suc-add, add-suc)

  pub laid_more : (slots : List A) (at : ℕ) (vs : List A) (k : ℕ) → k < length vs
      → set (laid size slots at (take k vs)) ((at + k) % size) (get_or vs k blank) ≡ laid size slots at (take (k + 1) vs)
  laid_more slots at vs k h =
      let l : length (take k vs) ≡ k = length-take-le k vs (omega arith) in
      rw (add-one, take-suc vs k blank, laid_snoc slots at (take k vs) (get_or vs k blank), l)

  -- what is laid reaches no slot behind it
  pub laid_past : (slots : List A) (at : ℕ) (vs : List A) (k : ℕ) → length vs ≤ k → k < size
      → get_or (laid size slots at vs) ((at + k) % size) blank ≡ get_or slots ((at + k) % size) blank
  unfolding laid
  laid_past slots at [] k h l = refl
  laid_past slots at (x ∷ vs) zero h l = absurd (omega arith)
  laid_past slots at (x ∷ vs) (suc k) h l =
      let place : suc at + k ≡ at + suc k = omega arith in
      let rest = laid_past (set slots (at % size) x) (suc at) vs k (omega arith) (omega arith) in
      (rw place at rest) ∙ get_or-set_other slots (at % size) ((at + suc k) % size) x blank (apart size at (suc k) (omega arith) l)

  -- laid behind n, it joins them
  pub laid_live : (slots : List A) (at n : ℕ) (vs : List A) → length slots ≡ size → n + length vs ≤ size
      → live size blank (laid size slots (at + n) vs) at (n + length vs) ≡ live size blank slots at n ++ vs
  unfolding laid
  laid_live slots at n [] e h = rw (add-zero, append-nil)
  laid_live slots at n (v ∷ vs) e h =
      let s = (at + n) % size in
      let in_range_law : s < length slots = rw e (mod-lt (at + n) (omega arith)) in
      let rest = laid_live (set slots s v) at (n + 1) vs (length-set slots s v ∙ e) (omega arith) in
      let p : at + (n + 1) ≡ suc (at + n) = omega arith in
      let q : n + 1 + length vs ≡ n + suc (length vs) = omega arith in
      let kept = rw add-zero at (live_set slots at n 0 v (omega arith)) in
      let joined : live size blank (set slots s v) at (n + 1) ≡ live size blank slots at n ++ v ∷ [] =
      rw (live_more (set slots s v) at n, kept, get_or-set_same slots s v blank in_range_law)
      in
      (rw (p, q) at rest) ∙ rw (joined, append_assoc)

  -- the front leaves, and the ring starts at the next slot
  pub live_pop : (slots : List A) (at n : ℕ) → 0 < n
      → live size blank slots at n ≡ get_or slots (at % size) blank ∷ live size blank slots ((at % size + 1) % size) (n - 1)
  unfolding live
  live_pop slots at zero h = absurd (omega arith)
  live_pop slots at (suc n) h =
      let e : suc at % size ≡ (at % size + 1) % size % size = suc-mod at size ∙ rw (mod-mod, add-one) in
      let less : suc n - 1 ≡ n = omega arith in
      rw (live_round slots (suc at) ((at % size + 1) % size) n e, less)

-- a pop of an empty queue, and of one that is not
module _ {P : Type 0} {N : ℕ} (blank : P) where
  pub popped_none : (q : Fifo P N) → q.len ≡ 0 → popped blank q ≡ record { answer = None; fifo = q }
  unfolding popped
  popped_none q e = rw (eq-eqb _ _ e)

  pub popped_some : (q : Fifo P N) → 0 < q.len → popped blank q ≡ record { answer = Some (front blank q); fifo = rest q }
  unfolding popped
  popped_some q h = rw (ne_eqb q.len 0 (λ e. omega arith))
