-- `captures::read_line` meets its contract. The text is the bytes before its end.
use mathlib.Core.List.{List}
use mathlib.Core.Path.{ap, ◌∙◌}
use Prim.Native.Nat.{ℕ}
use Rattle.captures.specs.Words.{words}
use Rattle.captures.specs.Reading.{said, reading}
use Rattle.captures.proofs.read_line.Goals as goal

pub returns : goal.returns
unfolding reading
returns c = c.read_words.ensures ∙ ap (λ (l : List ℕ). said (words l)) c.text_of.ensures
