-- `captures::kind_word` meets its contract.
use mathlib.Core.Path.{◌≡◌, refl}
use native.Mathlib.Omega.{arith}
use borrow.Author.Tests.{ne_eqb}
use Rattle.captures.specs.Printing.{kind_word}
use Rattle.captures.proofs.kind_word.Goals as goal

pub returns-in-0-clause-word : goal.returns-in-0-clause-word
unfolding kind_word
returns-in-0-clause-word c = let is : c.args.kind ≡ 0 = omega arith in rw is refl

pub returns-in-1-clause-word : goal.returns-in-1-clause-word
unfolding kind_word
returns-in-1-clause-word c = let is : c.args.kind ≡ 1 = omega arith in rw is refl

pub returns-in_default-clause-word : goal.returns-in_default-clause-word
unfolding kind_word
returns-in_default-clause-word c =
    rw (ne_eqb c.args.kind 0 (λ e. omega (arith, e)), ne_eqb c.args.kind 1 (λ e. omega (arith, e))) refl
