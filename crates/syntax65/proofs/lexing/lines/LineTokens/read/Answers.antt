use Rattle.std.proofs.Common.{◌≡◌, ◌+◌, ◌<◌, ◌∙◌, ◌++◌, ◌∷◌, arith, ap, subst, length, take, List, [], None, Some, Option, true}
use Rattle.std.proofs.Math.ListN.{set}
use Rattle.std.proofs.lemmas.List.{append-nil, length-set, map-append, take_all, take_more_set}
use Rattle.std.proofs.lemmas.Result.{err_from_is_err_and}
use Rattle.syntax65.specs.Tokens.{Lexeme, lexeme_of, lexemes, HasTokens, without_leading_blanks}
use Rattle.syntax65.specs.declared.lexing.tokens.LexFault.{LexFault}
use Rattle.syntax65.proofs.Lines.{read_after, refuse}
use Rattle.syntax65.proofs.lexing.lines.LineTokens.read.Goals as goal

pub returns-in_err-token-clause-tokens : goal.returns-in_err-token-clause-tokens
returns-in_err-token-clause-tokens c =
    let p = err_from_is_err_and c.from_residual-in_err-token.result c.from_residual-in_err-token.ensures.1 in
    let fault = c.in_err-token.field-0.0 in
    let tokens = lexemes (take c.line.self.few.count c.line.self.few.tokens) in
    let P : List Lexeme → Type 0 = λ ts. HasTokens true c.args.line.now ts (Some fault) in
    let end : HasTokens c.line.lexer.first c.line.lexer.rest.now [] (Some fault) = c.in_err-token.ensures.next in
    rw (p.1, p.2) (refuse c.line.lexer.first c.args.line.now (without_leading_blanks c.line.lexer.rest.now) tokens fault c.line.invariant.short end.1 (subst P (append-nil tokens) (c.line.invariant.so_far [] (Some fault) end)))

pub line-init : goal.line-init
line-init c = record {
  short = c.in_ok-lexer.ensures.0;
  capacity = c.requires.2;
  within = omega (arith, c.requires.0);
  few = c.requires.1;
  so_far = λ us end h. rw (c.requires.0) (rw (c.in_ok-lexer.ensures.1, c.in_ok-lexer.ensures.2) at h);
}

pub returns-in_err-read_many-in-Some-clause-tokens : goal.returns-in_err-read_many-in-Some-clause-tokens
returns-in_err-read_many-in-Some-clause-tokens c =
    let p = err_from_is_err_and c.from_residual-in_err-read_many-in-Some.result c.from_residual-in_err-read_many-in-Some.ensures.1 in
    let few = c.line.self.few.tokens in
    let token = lexeme_of c.in-Some.token in
    let all : take c.line.self.few.count few ≡ few = take_all c.line.self.few.count few (omega (arith, c.line.invariant.capacity, c.if-self-ge-FEW_TOKENS.true)) in
    let next : (us : List Lexeme) (end : Option LexFault) → HasTokens c.next.new.self.first c.next.new.self.rest.now us end → HasTokens c.line.lexer.first c.line.lexer.rest.now (token ∷ us) end = rw c.in-Some.is at c.in_ok-token.ensures.next in
    let so_far : (us : List Lexeme) (end : Option LexFault) → HasTokens c.line.lexer.first c.line.lexer.rest.now us end → HasTokens true c.args.line.now (lexemes few ++ us) end = rw all at c.line.invariant.so_far in
    rw (p.1, p.2) (c.in_err-read_many-in-Some.ensures c.args.line.now c.line.invariant.short (read_after c.args.line.now c.line.lexer.rest.now c.next.new.self.rest.now c.line.lexer.first c.next.new.self.first (lexemes few) token so_far next))

pub returns-then-self-ge-FEW_TOKENS-clause-tokens : goal.returns-then-self-ge-FEW_TOKENS-clause-tokens
returns-then-self-ge-FEW_TOKENS-clause-tokens c =
    let few = c.line.self.few.tokens in
    let token = lexeme_of c.in-Some.token in
    let all : take c.line.self.few.count few ≡ few = take_all c.line.self.few.count few (omega (arith, c.line.invariant.capacity, c.if-self-ge-FEW_TOKENS.true)) in
    let next : (us : List Lexeme) (end : Option LexFault) → HasTokens c.next.new.self.first c.next.new.self.rest.now us end → HasTokens c.line.lexer.first c.line.lexer.rest.now (token ∷ us) end = rw c.in-Some.is at c.in_ok-token.ensures.next in
    let so_far : (us : List Lexeme) (end : Option LexFault) → HasTokens c.line.lexer.first c.line.lexer.rest.now us end → HasTokens true c.args.line.now (lexemes few ++ us) end = rw all at c.line.invariant.so_far in
    c.in_ok-read_many-in-Some.ensures c.args.line.now c.line.invariant.short (read_after c.args.line.now c.line.lexer.rest.now c.next.new.self.rest.now c.line.lexer.first c.next.new.self.first (lexemes few) token so_far next)

pub line-preserved : goal.line-preserved
line-preserved c =
    let few = c.line.self.few.tokens in
    let n = c.line.self.few.count in
    let token = c.in-Some.token in
    let here : n < length few = omega (arith, c.line.invariant.capacity, c.if-self-ge-FEW_TOKENS.false) in
    let next : (us : List Lexeme) (end : Option LexFault) → HasTokens c.next.new.self.first c.next.new.self.rest.now us end → HasTokens c.line.lexer.first c.line.lexer.rest.now (lexeme_of token ∷ us) end = rw c.in-Some.is at c.in_ok-token.ensures.next in
    let more : lexemes (take (n + 1) (set few n token)) ≡ lexemes (take n few) ++ lexeme_of token ∷ [] = ap lexemes (take_more_set few n token here) ∙ map-append lexeme_of (take n few) (token ∷ []) in
    record {
      short = c.line.invariant.short;
      capacity = length-set few n token ∙ c.line.invariant.capacity;
      within = omega (arith, c.if-self-ge-FEW_TOKENS.false);
      few = c.line.invariant.few;
      so_far = λ us end h. rw more (read_after c.args.line.now c.line.lexer.rest.now c.next.new.self.rest.now c.line.lexer.first c.next.new.self.first (lexemes (take n few)) (lexeme_of token) c.line.invariant.so_far next us end h);
    }

pub returns-in-None-clause-tokens : goal.returns-in-None-clause-tokens
returns-in-None-clause-tokens c =
    let tokens = lexemes (take c.line.self.few.count c.line.self.few.tokens) in
    let P : List Lexeme → Type 0 = λ ts. HasTokens true c.args.line.now ts None in
    let end : HasTokens c.line.lexer.first c.line.lexer.rest.now [] None = rw c.in-None.is at c.in_ok-token.ensures.next in
    (c.line.invariant.short, rw c.line.invariant.few (subst P (append-nil tokens) (c.line.invariant.so_far [] None end)))
