-- `filing::last_part` meets its contract.
use mathlib.Core.Path.{sym, ◌∙◌}
use Prim.Native.Nat.{◌+◌}
use Rattle.std.proofs.Common.{rules}
use Rattle.std.proofs.lemmas.List.{take_rest}
use Rattle.filing.proofs.Names.{after_slash, no_slash}
use Rattle.filing.proofs.last_part.Goals as goal

pub returns-in-Some : goal.returns-in-Some
returns-in-Some c =
    let path = c.args.path.now in
    take_rest path (c.in-Some.slash + 1) ∙ after_slash path c.in-Some.slash (search rules) (search rules) (search rules)

pub returns-in-None : goal.returns-in-None
returns-in-None c = sym (no_slash c.args.path.now c.args.path.now (search rules))
