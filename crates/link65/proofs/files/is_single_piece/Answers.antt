use Rattle.std.proofs.Common.{◌∙◌, ◌≡◌, sym, arith}
use Rattle.std.proofs.lemmas.Bool.Decides.{nat_tests}
use Rattle.link65.proofs.FileLemmas.{one_row}
use Rattle.link65.proofs.files.is_single_piece.Goals as goal

pub returns-then-load-start : goal.returns-then-load-start
returns-then-load-start c = λ same.
    let long : c.len.result ≡ c.args.len = grind (arith, nat_tests) in
    one_row c.args.len c.args.start c.args.loads.now c.load-item.result c.in-len1.len_at_least c.in-len1.len_below c.load-item.is c.if-load-start.true (sym c.len.ensures ∙ long)
