use Rattle.std.proofs.lemmas.Grind.{common_steps}
use Rattle.std.proofs.Common.{◌≡◌, ◌++◌, ℕ, ◌≤◌, List, [], length, take, ap, sym, ◌∙◌, arith}
use Rattle.std.proofs.lemmas.List.{append-nil, take_all}
use Rattle.syntax65.specs.Tokens.{lexemes}
use Rattle.syntax65.specs.declared.lexing.tokens.Token.{Token}
use Rattle.expand65.specs.Replay.{split_lexemes}
use Rattle.expand65.specs.declared.line.StoredToken.{StoredToken}
use Rattle.expand65.proofs.line.StoredLine.copy_of.Goals as goal

all_kept : (ws : List StoredToken) (bs : List ℕ) (ts : List Token) (i : ℕ) → length ts ≤ i → split_lexemes (ws ++ []) (bs ++ []) ≡ lexemes (take i ts) ++ [] → split_lexemes ws bs ≡ lexemes ts
all_kept ws bs ts i h e =
    let at_nil : split_lexemes (ws ++ []) (bs ++ []) ≡ split_lexemes ws bs = rw (append-nil ws, append-nil bs) in
    let all : lexemes (take i ts) ≡ lexemes ts = ap lexemes (take_all i ts h) in
    sym at_nil ∙ e ∙ append-nil (lexemes (take i ts)) ∙ all

pub returns : goal.returns
returns c = rw (c.from_vec.ensures, c.from_vec-2.ensures) (all_kept c.loop-token.spans.items c.loop-token.bytes.items c.args.tokens.now c.loop-token.token-index c.loop-token-test.false (c.loop-token.invariant [] []))

pub loop-token-preserved : goal.loop-token-preserved
loop-token-preserved c = grind (arith, common_steps)
