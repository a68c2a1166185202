use Rattle.std.proofs.Common.{◌≡◌, ◌∙◌, ◌+◌, ap, drop, refl, subst, sym, take, List, ℕ, Ok, Err, Result, Some}
use Rattle.std.proofs.lemmas.Result.{err_from_is_err_and}
use Rattle.base65.specs.Outcome.{Unless}
use Rattle.syntax65.specs.Tokens.{Lexeme, IsRead}
use Rattle.syntax65.specs.declared.lexing.tokens.LexFault.{LexFault}
use Rattle.syntax65.specs.Faults.{is_system_error}
use Rattle.expand65.specs.Replay.{tokens_in}
use Rattle.expand65.specs.Lines.{IsFileAt, location_at, without_return, file_line_tokens}
use Rattle.expand65.specs.declared.file.OpenFile.{OpenFile}
use Rattle.expand65.proofs.LineCounts.{here_at}
use Rattle.expand65.proofs.LineReads.{file_refused, file_taken, first_at_hand}
use Rattle.expand65.proofs.file.OpenFile.read_buffered_line.Goals as goal

pub returns-in_err-line-clause-next_line : goal.returns-in_err-line-clause-next_line
returns-in_err-line-clause-next_line c = λ m.
    let p = err_from_is_err_and c.from_residual.result c.from_residual.ensures.1 in
    let old = c.args.self.now in
    let next : OpenFile = record { name = old.name; buffer = old.buffer; at = old.at + (c.args.len + 1); next = old.next; line = old.line; spare = old.spare } in
    let here = c.split_at.ensures.back ∙ ap (drop old.at) c.deref.ensures.value in
    let same = c.trimmed.ensures ∙ ap without_return (c.split_at-2.ensures.front ∙ ap (take c.args.len) here) in
    let P : List ℕ → Type 0 = λ bytes. Unless (is_system_error c.in_err-line.field-0.0) ((q : Result (List Lexeme) LexFault) × IsRead bytes q × (Err c.in_err-line.field-0.0 ≡ file_line_tokens q)) in
    rw (p.1, p.2) (file_refused (Some m) old next old (without_return (take c.args.len (drop old.at old.buffer.items))) c.in_err-line.field-0.0 (first_at_hand m old c.args.len old.line c.requires.end c.requires.within) (subst P same c.in_err-line.ensures.tokens))

pub returns-clause-next_line : goal.returns-clause-next_line
returns-clause-next_line c = λ m.
    let old = c.args.self.now in
    let new : OpenFile = record { name = old.name; buffer = old.buffer; at = old.at + (c.args.len + 1); next = old.next; line = c.in-Some.number; spare = old.spare } in
    let here = c.split_at.ensures.back ∙ ap (drop old.at) c.deref.ensures.value in
    let same = c.trimmed.ensures ∙ ap without_return (c.split_at-2.ensures.front ∙ ap (take c.args.len) here) in
    let P : List ℕ → Type 0 = λ bytes. (q : Result (List Lexeme) LexFault) × IsRead bytes q × (Ok (tokens_in c.in_ok-line.line) ≡ file_line_tokens q) in
    file_taken (Some m) old new (without_return (take c.args.len (drop old.at old.buffer.items))) c.in_ok-line.line c.in-Some.number (first_at_hand m old c.args.len c.in-Some.number c.requires.end c.requires.within) refl c.in-Some.ensures.1 (subst P same c.in_ok-line.ensures.tokens)

pub returns-clause-at : goal.returns-clause-at
returns-clause-at c = λ m p h.
    (let old = c.args.self.now in
    let new : OpenFile = record { name = old.name; buffer = old.buffer; at = old.at + (c.args.len + 1); next = old.next; line = c.in-Some.number; spare = old.spare } in
    let P : ℕ → Type 0 = λ n. IsFileAt m new (location_at p n) in
    subst P (c.in-Some.ensures.1 ∙ ap (λ n. n + 1) (sym h.line)) (here_at m old c.args.len c.in-Some.number p c.requires.end c.requires.within c.in-Some.ensures.1 h))
