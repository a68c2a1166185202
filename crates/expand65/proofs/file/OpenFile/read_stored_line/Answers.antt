use Rattle.std.proofs.Common.{◌≡◌, ◌∙◌, ◌+◌, ap, refl, subst, List, ℕ, Result, Ok}
use Rattle.syntax65.specs.Tokens.{Lexeme, IsRead}
use Rattle.syntax65.specs.declared.lexing.tokens.LexFault.{LexFault}
use Rattle.expand65.specs.Replay.{tokens_in}
use Rattle.expand65.specs.Lines.{file_line_tokens}
use Rattle.std.proofs.lemmas.Result.{err_from_is_err_and}
use Rattle.expand65.specs.declared.file.OpenFile.{OpenFile}
use Rattle.expand65.proofs.LineCounts.{stops_in_line, taken_at}
use Rattle.expand65.proofs.LineReads.{file_too_long, file_taken}
use Rattle.expand65.proofs.file.OpenFile.read_stored_line.Goals as goal

pub returns-in_err-bytes-clause-next_line : goal.returns-in_err-bytes-clause-next_line
returns-in_err-bytes-clause-next_line g c =
    let p = err_from_is_err_and c.from_residual.result c.from_residual.ensures.1 in
    rw (p.1, p.2) (file_too_long (g.S.Store.files c.args.store.now) c.args.self.now c.next_line.new.self c.in_err-bytes.field-0.0 c.in_err-bytes.ensures.read)

pub returns-clause-next_line : goal.returns-clause-next_line
returns-clause-next_line g c =
    let new : OpenFile = record { name = c.next_line.new.self.name; buffer = c.next_line.new.self.buffer; at = c.next_line.new.self.at; next = c.next_line.new.self.next; line = c.in-Some.number; spare = c.into_vec.result } in
    let P : List ℕ → Type 0 = λ bytes. (q : Result (List Lexeme) LexFault) × IsRead bytes q × (Ok (tokens_in c.in_ok-line.line) ≡ file_line_tokens q) in
    file_taken (g.S.Store.files c.args.store.now) c.args.self.now new c.in_ok-bytes.bytes c.in_ok-line.line c.in-Some.number c.in_ok-bytes.ensures.read refl (c.in-Some.ensures.1 ∙ ap (λ n. n + 1) c.in_ok-bytes.ensures.line) (subst P c.as_slice.ensures c.in_ok-line.ensures.tokens)

pub returns-clause-at : goal.returns-clause-at
returns-clause-at g c =
    let mid = c.next_line.new.self in
    let new : OpenFile = record { name = mid.name; buffer = mid.buffer; at = mid.at; next = mid.next; line = c.in-Some.number; spare = c.into_vec.result } in
    taken_at (g.S.Store.files c.args.store.now) c.args.self.now mid new c.in_ok-bytes.ensures.name refl (c.in-Some.ensures.1 ∙ ap (λ n. n + 1) c.in_ok-bytes.ensures.line) (λ m. refl) c.in_ok-bytes.ensures.following

pub returns-in_err-bytes-clause-last_failure : goal.returns-in_err-bytes-clause-last_failure
returns-in_err-bytes-clause-last_failure g c =
    let p = err_from_is_err_and c.from_residual.result c.from_residual.ensures.1 in
    rw (p.1, p.2) (stops_in_line (g.S.Store.files c.args.store.now) (g.S.Store.last_failure c.next_line.new.store) c.args.self.now c.in_err-bytes.field-0.0 c.in_err-bytes.ensures.last_failure)
