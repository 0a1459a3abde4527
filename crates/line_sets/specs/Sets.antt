-- A set of OAM's entries as a number: bit i is set exactly if entry i is in it.
use Rattle.std.specs.Prelude.{ℕ, zero, suc, ◌+◌, ◌*◌, ◌^◌, Bool, cond, List, [], ◌∷◌, length, take, ◌==◌, nat_lt, Option, Some, None}
use Rattle.wrap.specs.Wrap.{bit_at}
use Rattle.sprite.specs.Pick.{up_to, those, slots_of}
use Rattle.sprite.specs.declared.SelectedSprite.{SelectedSprite}
use Rattle.sprite.specs.declared.Selection.{Selection}

-- the entries of OAM
abbrev pub entries : ℕ
entries = 40

-- the number whose bits are set where a test passes, below n
unfoldable pub bits_of : (ℕ → Bool) → ℕ → ℕ
bits_of test zero = 0
bits_of test (suc n) = cond (test n) 1 0 * 2 ^ n + bits_of test n

-- the set of the entries that pass a test
abbrev pub set_of : (ℕ → Bool) → ℕ
set_of test = bits_of test entries

-- a set has no bit above that of entry 39
abbrev pub is_set : ℕ → Bool
is_set s = nat_lt s (2 ^ entries)

-- its entries in OAM's order, by a scan of its bits
abbrev pub members : ℕ → List ℕ
members s = those (bit_at s) (up_to entries)

-- the set with entry i put in, or taken out
abbrev pub put : ℕ → Bool → ℕ → ℕ
put i on s = set_of (λ j. cond (j == i) on (bit_at s j))

-- the first of a list of entries, or nothing
abbrev pub first_of : List ℕ → Option ℕ
first_of [] = None
first_of (i ∷ l) = Some i

-- a selection from a set: its ten lowest entries, copied from OAM, over slots that keep what they had past the count
abbrev pub selection_from : List ℕ → ℕ → List SelectedSprite → Selection
selection_from oam s former =
    record { count = length (take 10 (members s)); slots = slots_of oam (take 10 (members s)) former }
