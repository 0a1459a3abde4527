-- The bytes of chunks are the list's, in order.
use Rattle.std.proofs.Common.{◌≡◌, ℕ, zero, suc, ◌+◌, ◌*◌, ◌<◌, List, [], drop, get_or, ap, ◌∙◌, mul-suc, arith}
use Rattle.std.proofs.lemmas.List.{get_or-take, get_or-drop}
use Rattle.std.specs.Simd.{first_chunks}

-- byte j of chunk i
pub byte_of : (n k : ℕ) (xs : List ℕ) (i j : ℕ) → i < k → j < n → get_or (get_or (first_chunks n k xs) i []) j 0 ≡ get_or xs (n * i + j) 0
byte_of n zero xs i j h l = absurd (omega arith)
byte_of n (suc k) xs zero j h l = get_or-take n xs j 0 l ∙ ap (λ m. get_or xs m 0) (omega arith)
byte_of n (suc k) xs (suc i) j h l =
    byte_of n k (drop n xs) i j (omega arith) l ∙ get_or-drop n xs (n * i + j) 0 ∙ ap (λ m. get_or xs m 0) (omega (arith, mul-suc n i))
