use Rattle.std.proofs.lemmas.Grind.{common_steps}
use Rattle.std.proofs.Common.{◌≡◌, ◌+◌, ◌-◌, arith, refl, take, drop, length-append, ◌<◌, ◌≤◌, ◌++◌, ◌∷◌, ◌∙◌, ℕ, List, [], Option, Some, None, Ok, Err, ap, append_assoc, length, subst, sym, true}
use Rattle.std.proofs.lemmas.List.{append-nil}
use Rattle.std.proofs.lemmas.Result.{err_from_is_err_and}
use Rattle.syntax65.specs.Faults.{is_lex_system_error}
use Rattle.base65.specs.Outcome.{Unless}
use Rattle.syntax65.specs.Tokens.{IsRead, Lexeme, HasTokens, without_leading_blanks, lexeme_of, IsTokenSplit}
use Rattle.syntax65.specs.declared.lexing.tokens.LexFault.{LexFault}
use Rattle.syntax65.specs.declared.lexing.tokens.LexFault.TheVariants as lex
use Rattle.syntax65.proofs.Lines.{refuse}
use Rattle.std.proofs.Math.Seq.{drop-append_seam, take-append_seam}
use Rattle.syntax65.specs.declared.lexing.tokens.Token.{Token}
use Rattle.expand65.specs.Replay.{rest_after_token, split_lexemes}
use Rattle.expand65.proofs.StoredTokens.{AreKept}
use Rattle.expand65.specs.declared.line.StoredToken.{StoredToken}
use Rattle.expand65.proofs.LineReads.{not_read}
use Rattle.expand65.proofs.line.read_spans.Goals as goal

too_long : (bytes : List ℕ) (fault : LexFault) → fault ≡ lex.LineTooLong → 4096 < length bytes → Unless (is_lex_system_error fault) (IsRead bytes (Err fault))
too_long bytes fault e h = subst (λ (f : LexFault). Unless (is_lex_system_error f) (IsRead bytes (Err f))) (sym e) h

all_kept : (ws : List StoredToken) (bs : List ℕ) (ts : List Lexeme) → AreKept ws bs ts → split_lexemes ws bs ≡ ts
all_kept ws bs ts h =
    let at_nil : split_lexemes (ws ++ []) (bs ++ []) ≡ split_lexemes ws bs = rw (append-nil ws, append-nil bs) in
    sym at_nil ∙ h [] [] ∙ append-nil ts

nothing_kept : AreKept [] [] []
nothing_kept ws bs = refl

-- one further token is stored, and the bytes up to its end
more_kept : (spans : List StoredToken) (pending : List ℕ) (ts : List Lexeme) (w : StoredToken) (t : Token) (blanks : List ℕ) → w.kind ≡ t.kind → w.blanks ≡ length blanks → w.len ≡ length t.text.now → AreKept spans pending ts → AreKept (spans ++ w ∷ []) (pending ++ (blanks ++ t.text.now)) (ts ++ lexeme_of t ∷ [])
more_kept spans pending ts w t blanks kind apart len h = λ ws bs.
    let text = t.text.now in
    let bytes = blanks ++ text ++ bs in
    let here : drop w.blanks bytes ≡ text ++ bs = ap (λ n. drop n bytes) apart ∙ ap (drop (length blanks)) (append_assoc blanks text bs) ∙ drop-append_seam blanks (text ++ bs) in
    let own : take w.len (drop w.blanks bytes) ≡ text = ap (λ n. take n (drop w.blanks bytes)) len ∙ ap (take (length text)) here ∙ take-append_seam text bs in
    let following : rest_after_token w bytes ≡ bs = ap (λ n. drop n (drop w.blanks bytes)) len ∙ ap (drop (length text)) here ∙ drop-append_seam text bs in
    let span : split_lexemes (w ∷ ws) bytes ≡ lexeme_of t ∷ split_lexemes ws bs = rw (kind, own, following) refl in
    ap (λ l. split_lexemes l (pending ++ (blanks ++ text) ++ bs)) (append_assoc spans (w ∷ []) ws) ∙ ap (split_lexemes (spans ++ w ∷ ws)) (append_assoc pending (blanks ++ text) bs) ∙ h (w ∷ ws) bytes ∙ ap (λ l. ts ++ l) span ∙ sym (append_assoc ts (lexeme_of t ∷ []) (split_lexemes ws bs))

front_more : (bytes pending rest blanks text left : List ℕ) → bytes ≡ pending ++ rest → rest ≡ blanks ++ (text ++ left) → bytes ≡ pending ++ (blanks ++ text) ++ left
front_more bytes pending rest blanks text left e f = e ∙ ap (λ l. pending ++ l) (f ∙ sym (append_assoc blanks text left)) ∙ sym (append_assoc pending (blanks ++ text) left)

apart_by : (rest blanks text left : List ℕ) → rest ≡ blanks ++ (text ++ left) → length rest - length left - length text ≡ length blanks
apart_by rest blanks text left e =
    let whole : length rest ≡ length blanks + (length text + length left) = ap length e ∙ length-append blanks (text ++ left) ∙ ap (λ n. length blanks + n) (length-append text left) in
    omega (arith, whole)

rest_within : (bytes pending rest : List ℕ) → bytes ≡ pending ++ rest → length rest ≤ length bytes
rest_within bytes pending rest e = omega (arith, ap length e ∙ length-append pending rest)

front_len : (bytes pending rest : List ℕ) → bytes ≡ pending ++ rest → take (length bytes - length rest) bytes ≡ pending
front_len bytes pending rest e =
    let whole : length bytes ≡ length pending + length rest = ap length e ∙ length-append pending rest in
    let n : length bytes - length rest ≡ length pending = omega (arith, whole) in
    ap (λ k. take k bytes) n ∙ ap (take (length pending)) e ∙ take-append_seam pending rest

pub returns-in_err-lexer-clause-tokens : goal.returns-in_err-lexer-clause-tokens
returns-in_err-lexer-clause-tokens c =
    let p = err_from_is_err_and c.from_residual.result c.from_residual.ensures.1 in
    let fault = c.in_err-lexer.field-0.0 in
    rw (p.1, p.2) (not_read c.args.bytes.now fault (too_long c.args.bytes.now fault c.in_err-lexer.ensures.0 c.in_err-lexer.ensures.1))

pub returns-in_err-token-clause-tokens : goal.returns-in_err-token-clause-tokens
returns-in_err-token-clause-tokens c =
    let p = err_from_is_err_and c.from_residual-in_err-token.result c.from_residual-in_err-token.ensures.1 in
    let bytes = c.args.bytes.now in
    let fault = c.in_err-token.field-0.0 in
    let so_far = c.tokens.invariant.so_far in
    let P : List Lexeme → Type 0 = λ ts. HasTokens true bytes ts (Some fault) in
    let end : HasTokens c.tokens.lexer.first c.tokens.lexer.rest.now [] (Some fault) = c.in_err-token.ensures.next in
    rw (p.1, p.2) (not_read bytes fault (refuse c.tokens.lexer.first bytes (without_leading_blanks c.tokens.lexer.rest.now) so_far.0 fault c.tokens.invariant.short end.1 (subst P (append-nil so_far.0) (so_far.2 [] (Some fault) end))))

pub tokens-init : goal.tokens-init
tokens-init c = record {
  short = c.in_ok-lexer.ensures.0;
  so_far = ([], ([], sym c.in_ok-lexer.ensures.1, rw c.requires nothing_kept), λ us end h. rw (c.in_ok-lexer.ensures.1, c.in_ok-lexer.ensures.2) at h);
}

pub overflow_sub-result : goal.overflow_sub-result
overflow_sub-result c = rest_within c.args.bytes.now c.tokens.invariant.so_far.1.0 c.tokens.lexer.rest.now c.tokens.invariant.so_far.1.1

pub tokens-preserved : goal.tokens-preserved
tokens-preserved c =
    let so_far = c.tokens.invariant.so_far in
    let token = lexeme_of c.in-Some.token in
    let next : (us : List Lexeme) (end : Option LexFault) → HasTokens c.next.new.self.first c.next.new.self.rest.now us end → HasTokens c.tokens.lexer.first c.tokens.lexer.rest.now (token ∷ us) end = rw c.in-Some.is at c.in_ok-token.ensures.next in
    let left = c.tokens.lexer.rest.now in
    let text = c.in-Some.token.text.now in
    let following = c.next.new.self.rest.now in
    let apart : IsTokenSplit left text following = rw c.in-Some.is at c.in_ok-token.ensures.cut in
    let kept = so_far.1 in
    let span : StoredToken = record { kind = c.in-Some.token.kind; blanks = length left - length following - length text; len = length text } in
    let more = more_kept c.tokens.spans.items kept.0 so_far.0 span c.in-Some.token apart.0 refl (apart_by left apart.0 text following apart.1) refl kept.2 in
    record {
      short = c.tokens.invariant.short;
      so_far = (so_far.0 ++ token ∷ [], (kept.0 ++ (apart.0 ++ text), front_more c.args.bytes.now kept.0 left apart.0 text following kept.1 apart.1, rw c.in_ok-push-in-Some.ensures.items more), λ us end h. rw append_assoc (so_far.2 (token ∷ us) end (next us end h)));
    }

pub returns-in-None-clause-tokens : goal.returns-in-None-clause-tokens
returns-in-None-clause-tokens c =
    let so_far = c.tokens.invariant.so_far in
    let P : List Lexeme → Type 0 = λ ts. HasTokens true c.args.bytes.now ts None in
    let end : HasTokens c.tokens.lexer.first c.tokens.lexer.rest.now [] None = rw c.in-None.is at c.in_ok-token.ensures.next in
    let kept = so_far.1 in
    let all : split_lexemes c.tokens.spans.items (take (length c.args.bytes.now - length c.tokens.lexer.rest.now) c.args.bytes.now) ≡ so_far.0 = ap (split_lexemes c.tokens.spans.items) (front_len c.args.bytes.now kept.0 c.tokens.lexer.rest.now kept.1) ∙ all_kept c.tokens.spans.items kept.0 so_far.0 kept.2 in
    (Ok so_far.0, (c.tokens.invariant.short, subst P (append-nil so_far.0) (so_far.2 [] None end)), ap Ok all)

pub overflow_cast-blanks : goal.overflow_cast-blanks
overflow_cast-blanks c = grind (arith, common_steps)

pub overflow_cast-len : goal.overflow_cast-len
overflow_cast-len c = grind (arith, common_steps)

pub overflow_sub-blanks-in-Some : goal.overflow_sub-blanks-in-Some
overflow_sub-blanks-in-Some c = grind (arith, common_steps)
