use Rattle.std.proofs.lemmas.Grind.{common_steps}
use Rattle.std.proofs.Common.{◌≡◌, ℕ, ◌+◌, ◌≤◌, ◌<◌, ◌++◌, ◌∷◌, List, length, take, drop, refl, sym, ap, ◌∙◌, subst, arith}
use Rattle.std.proofs.lemmas.Bool.Decides.{nat_tests}
use Rattle.std.proofs.lemmas.List.{length-drop, drop-drop}
use Rattle.std.specs.List.{prefix_len}
use Rattle.expand65.specs.Lines.{IsTerminatedLine, lines_of, is_within_line, without_return}
use Rattle.expand65.proofs.LineCounts.{piece_ends_line}
use Rattle.expand65.proofs.Lines.{piece_too_long, piece_ends, piece_is_part}
use Rattle.expand65.proofs.file.OpenFile.append_piece.Goals as goal

pub returns-then-len-clause-read : goal.returns-then-len-clause-read
returns-then-len-clause-read c =
    let here = drop c.args.self.now.at c.args.self.now.buffer.items in
    let same = c.split_at.ensures.back ∙ ap (drop c.args.self.now.at) c.deref.ensures.value in
    let count = c.line_len-len.ensures.count ∙ ap (prefix_len is_within_line) same in
    let within : c.line_len-len.result ≤ length here = omega (arith, c.line_len-len.ensures.within, ap length same) in
    let long : 4097 < length c.args.line.now.items + c.line_len-len.result = omega (arith, c.if-len.true, c.len.ensures) in
    λ following. (refl, piece_too_long c.args.line.now.items here following c.line_len-len.result c.requires.part count within long)

pub returns-then-is_empty-clause-part : goal.returns-then-is_empty-clause-part
returns-then-is_empty-clause-part c =
    let same = c.split_at.ensures.back ∙ ap (drop c.args.self.now.at) c.deref.ensures.value in
    let count = c.line_len-len.ensures.count ∙ ap (prefix_len is_within_line) same in
    let P : List ℕ → Type 0 = λ l. prefix_len is_within_line l ≡ length l in
    let items = c.in_ok-extend_from_slice.ensures.items ∙ ap (λ l. c.args.line.now.items ++ l) (c.split_at-2.ensures.front ∙ ap (take c.line_len-len.result) same) in
    subst P (sym items) (piece_is_part c.args.line.now.items (drop c.args.self.now.at c.args.self.now.buffer.items) c.line_len-len.result c.requires.part count)

pub returns-clause-read : goal.returns-clause-read
returns-clause-read c =
    let here = drop c.args.self.now.at c.args.self.now.buffer.items in
    let same = c.split_at.ensures.back ∙ ap (drop c.args.self.now.at) c.deref.ensures.value in
    let count = c.line_len-len.ensures.count ∙ ap (prefix_len is_within_line) same in
    let some : 0 < length c.split_at-2.result.1.now = grind (arith, nat_tests, c.is_empty.ensures, c.if-is_empty.false) in
    let less : c.line_len-len.result < length here = omega (arith, some, ap length c.split_at-2.ensures.back, length-drop c.line_len-len.result c.split_at.result.1.now, ap length same) in
    let items = c.in_ok-extend_from_slice.ensures.items ∙ ap (λ l. c.args.line.now.items ++ l) (c.split_at-2.ensures.front ∙ ap (take c.line_len-len.result) same) in
    λ following. piece_ends c.args.line.now.items here following c.line_len-len.result c.requires.part count less
    ∙ ap (λ l. without_return l ∷ lines_of (drop (c.line_len-len.result + 1) here ++ following)) (sym items)
    ∙ ap (λ l. without_return c.extend_from_slice.new.self.items ∷ lines_of (l ++ following)) (drop-drop (c.line_len-len.result + 1) c.args.self.now.at c.args.self.now.buffer.items)

pub returns-clause-part : goal.returns-clause-part
returns-clause-part c =
    let same = c.split_at.ensures.back ∙ ap (drop c.args.self.now.at) c.deref.ensures.value in
    let count = c.line_len-len.ensures.count ∙ ap (prefix_len is_within_line) same in
    let P : List ℕ → Type 0 = λ l. prefix_len is_within_line l ≡ length l in
    let items = c.in_ok-extend_from_slice.ensures.items ∙ ap (λ l. c.args.line.now.items ++ l) (c.split_at-2.ensures.front ∙ ap (take c.line_len-len.result) same) in
    subst P (sym items) (piece_is_part c.args.line.now.items (drop c.args.self.now.at c.args.self.now.buffer.items) c.line_len-len.result c.requires.part count)

pub returns-clause-ended : goal.returns-clause-ended
returns-clause-ended c = λ is.
    (let here = drop c.args.self.now.at c.args.self.now.buffer.items in
    let line = c.args.line.now.items in
    let n = c.line_len-len.result in
    let same = c.split_at.ensures.back ∙ ap (drop c.args.self.now.at) c.deref.ensures.value in
    let count = c.line_len-len.ensures.count ∙ ap (prefix_len is_within_line) same in
    let some : 0 < length c.split_at-2.result.1.now = grind (arith, nat_tests, c.is_empty.ensures, c.if-is_empty.false) in
    let less : c.line_len-len.result < length here = omega (arith, some, ap length c.split_at-2.ensures.back, length-drop c.line_len-len.result c.split_at.result.1.now, ap length same) in
    let items = c.in_ok-extend_from_slice.ensures.items ∙ ap (λ l. line ++ l) (c.split_at-2.ensures.front ∙ ap (take n) same) in
    let P : List ℕ → Type 0 = λ l. IsTerminatedLine (line ++ here) l (drop (c.args.self.now.at + (n + 1)) c.args.self.now.buffer.items) in
    let Q : List ℕ → Type 0 = λ l. IsTerminatedLine (line ++ here) (line ++ take n here) l in
    subst P (sym items) (subst Q (drop-drop (n + 1) c.args.self.now.at c.args.self.now.buffer.items) (piece_ends_line line here n count less)))

pub returns-clause-more : goal.returns-clause-more
returns-clause-more c = grind (arith, common_steps)

pub returns-then-is_empty-clause-ended : goal.returns-then-is_empty-clause-ended
returns-then-is_empty-clause-ended c = grind (arith, common_steps)

pub returns-then-is_empty-clause-read : goal.returns-then-is_empty-clause-read
returns-then-is_empty-clause-read c = grind (arith, common_steps)
