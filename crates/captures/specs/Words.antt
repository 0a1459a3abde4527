-- The words of a line: what stands between blanks in the text before a comment.
use Rattle.std.specs.Prelude.{Bool, true, false, cond, ◌&&◌, ◌||◌, List, [], ◌∷◌, ◌++◌, ℕ, eqb}

-- `#` begins a comment
abbrev pub is_hash : ℕ → Bool
is_hash b = eqb b 35

-- the blanks: space, tab and carriage return
unfoldable pub is_blank : ℕ → Bool
is_blank b = eqb b 32 || eqb b 9 || eqb b 13

-- the text of a line: all that stands before its first `#`
unfoldable pub text : List ℕ → List ℕ
text [] = []
text (b ∷ l) = cond (is_hash b) [] (b ∷ text l)

-- a word at its end, with the words behind it: no bytes are no word
unfoldable pub closed : List ℕ → List (List ℕ) → List (List ℕ)
closed [] ws = ws
closed (b ∷ w) ws = (b ∷ w) ∷ ws

-- the words of a text behind w, the bytes so far of a word: a blank ends the word, and any other byte belongs to it
unfoldable pub words_from : List ℕ → List ℕ → List (List ℕ)
words_from w [] = closed w []
words_from w (b ∷ l) = cond (is_blank b) (closed w (words_from [] l)) (words_from (w ++ (b ∷ [])) l)

-- the words of a text
abbrev pub words : List ℕ → List (List ℕ)
words l = words_from [] l

-- two words are the same, byte by byte
unfoldable pub is_same : List ℕ → List ℕ → Bool
is_same [] [] = true
is_same [] (y ∷ b) = false
is_same (x ∷ a) [] = false
is_same (x ∷ a) (y ∷ b) = eqb x y && is_same a b
