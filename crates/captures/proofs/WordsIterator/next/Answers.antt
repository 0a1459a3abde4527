-- `captures::WordsIterator::next` meets its contract. The word stands behind the blanks.
use mathlib.Core.Path.{sym, ◌∙◌}
use Rattle.std.proofs.Common.{rules}
use Rattle.captures.proofs.Texts.{words_none, words_first}
use Rattle.captures.proofs.WordsIterator.next.Goals as goal

pub returns-in_err-word_start-clause-steps : goal.returns-in_err-word_start-clause-steps
returns-in_err-word_start-clause-steps c =
    let none = sym c.self.view_is ∙ words_none _ (sym c.in_err-word_start.was ∙ c.word_start.ensures) in
    rw c.from_residual.ensures (none, none)

pub returns-clause-steps : goal.returns-clause-steps
returns-clause-steps c =
    sym c.self.view_is
    ∙ words_first _ _ (sym c.in_ok-word_start.was ∙ c.word_start.ensures) c.split_at.ensures.back c.blank_start.ensures c.unwrap_or-end.ensures
    c.split_at-2.ensures.front c.split_at-2.ensures.back

pub returns-clause-goes : goal.returns-clause-goes
returns-clause-goes c = rw (returns-clause-steps c) (search rules)
