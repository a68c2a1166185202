-- Lines without a label and a directive, and their effect on blocks.
use Rattle.std.proofs.lemmas.Grind.{common_steps}
use Rattle.std.proofs.Common.{arith, ◌≡◌, ◌∙◌, ℕ, zero, suc, Bool, true, false, not, List, [], ◌∷◌, Option, None, Result, ap, refl, subst, sym}
use Rattle.std.specs.Prelude.{if◌then◌else◌, ◌&&◌, slice_get}
use Rattle.syntax65.specs.Tokens.{Lexeme}
use Rattle.expand65.specs.Blocks.{still_open, is_collected, line_verdict, block_verdict, rejected, with_line}
use Rattle.expand65.specs.Representation.{RefinesVerdict}
use Rattle.expand65.specs.declared.blocks.BlockKind.{BlockKind}
use Rattle.expand65.specs.declared.blocks.BlockKind.TheVariants.{Macro, Repeat, Skipped, RemainingBranches}
use Rattle.expand65.specs.declared.blocks.BlockStep.{BlockStep}
use Rattle.syntax65.specs.declared.fault.ExpandFault.{ExpandFault}
use Rattle.syntax65.specs.declared.fault.ExpandFault.TheVariants.{NotUnderstood}
use Rattle.expand65.specs.LineStart.{is_mislabelled, label_len, line_directive}
use Rattle.expand65.specs.Replay.{split_lexemes, IsColonIn, IsPlain}
use Rattle.expand65.specs.declared.line_start.Directive.{Directive}
use Rattle.expand65.specs.declared.line.StoredToken.{StoredToken}

no_name : (b : Bool) → ◌≡◌ {A = ℕ} (if b && false then 2 else 0) 0
no_name true = refl
no_name false = refl

pub no_label : (ws : List StoredToken) (bs : List ℕ) (a b : Bool) → IsColonIn (slice_get ws 0) a → IsColonIn (slice_get ws 1) b → a ≡ false → not b ≡ true → label_len (split_lexemes ws bs) ≡ 0
no_label [] bs a b e f h k = refl
no_label (w ∷ []) bs a b e f h k = grind (arith, common_steps, no_name)
no_label (w ∷ v ∷ ws) bs a true e f h k = absurd (cc)
no_label (w ∷ v ∷ ws) bs a false e f h k = grind (arith, common_steps, no_name)

right : (ts : List Lexeme) → label_len ts ≡ 0 → is_mislabelled ts ≡ false
right ts e = rw e refl

none : (ts : List Lexeme) → IsPlain ts → line_directive ts ≡ None
none ts (e, f) = rw e f

-- the effect of a line is the effect of its directive
judged_is : (k : BlockKind) (d : ℕ) (ts : List Lexeme) (o : Option Directive) → is_mislabelled ts ≡ false → line_directive ts ≡ o → line_verdict k d ts ≡ block_verdict k d ts o
judged_is k d ts o right e = rw (right, e) refl

by_none : (k : BlockKind) (d : ℕ) (ts : List Lexeme) → block_verdict k d ts None ≡ still_open d
by_none Macro d ts = refl
by_none Repeat zero ts = refl
by_none Repeat (suc d) ts = refl
by_none Skipped zero ts = refl
by_none Skipped (suc d) ts = refl
by_none RemainingBranches zero ts = refl
by_none RemainingBranches (suc d) ts = refl

pub judged_none : (k : BlockKind) (d : ℕ) (ts : List Lexeme) → is_mislabelled ts ≡ false → line_directive ts ≡ None → line_verdict k d ts ≡ still_open d
judged_none k d ts right e = judged_is k d ts None right e ∙ by_none k d ts

pub judged_wrong : (k : BlockKind) (d : ℕ) (ts : List Lexeme) → is_mislabelled ts ≡ true → line_verdict k d ts ≡ rejected NotUnderstood
judged_wrong k d ts e = rw e refl

pub judged_by : (k self : BlockKind) (d : ℕ) (ts : List Lexeme) (o : Option Directive) (r : Result BlockStep ExpandFault) → self ≡ k → is_mislabelled ts ≡ false → line_directive ts ≡ o → RefinesVerdict r (block_verdict k d ts o) → RefinesVerdict r (line_verdict self d ts)
judged_by k self d ts o r is right e h = subst (RefinesVerdict r) (sym (judged_is self d ts o right e ∙ ap (λ j. block_verdict j d ts o) is)) h

-- a plain line leaves the block open
pub plain_judged : (k : BlockKind) (d : ℕ) (ts : List Lexeme) → IsPlain ts → line_verdict k d ts ≡ still_open d
plain_judged k d ts p = judged_none k d ts (right ts p.0) (none ts p)

pub unkept : (k : BlockKind) (body : List (List Lexeme)) (ts : List Lexeme) → is_collected k ≡ false → with_line k body ts ≡ body
unkept k body ts e = rw e refl
