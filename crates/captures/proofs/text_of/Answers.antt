-- `captures::text_of` meets its contract. The text ends at the first `#`.
use Rattle.captures.specs.Words.{is_hash}
use Rattle.captures.proofs.Texts.{place_or_end, text_cut}
use Rattle.captures.proofs.text_of.Goals as goal

pub returns : goal.returns
returns c =
    let l = c.args.line.now in
    rw (c.unwrap_or-end.ensures, c.comment_start.ensures, place_or_end is_hash l) (text_cut l)
