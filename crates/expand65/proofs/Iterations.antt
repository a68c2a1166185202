-- The iterations of a repetition.
use Rattle.std.proofs.lemmas.Grind.{common_steps}
use Rattle.std.proofs.Common.{◌≡◌, ℕ, zero, suc, ◌+◌, ◌-◌, ◌<◌, ◌≤◌, List, [], ◌∷◌, ◌++◌, length, map, drop, refl, sym, ap, ◌∙◌, arith, ◌⊎◌, Result}
use Rattle.std.proofs.lemmas.List.{length-map}
use Rattle.syntax65.specs.declared.fault.ExpandFault.{ExpandFault}
use Rattle.expand65.specs.declared.input.NextLine.TheVariants.{Replayed}
use Rattle.syntax65.specs.Tokens.{Lexeme}
use Rattle.expand65.specs.Representation.{HasNextLine, ReadsStoredLine, remaining_iterations}
use Rattle.expand65.specs.Replay.{tokens_in, remaining_replay, substitution_of}
use Rattle.expand65.specs.Lines.{in_iteration, Substitution, iterations, Item, body_line}
use Rattle.expand65.specs.declared.line.StoredLine.{StoredLine}
use Rattle.expand65.specs.declared.macro_replay.Replay.{Replay}

-- iterations without lines
pub no_lines : (e : Substitution) (t n : ℕ) → iterations e [] t n ≡ []
no_lines e t zero = refl
no_lines e t (suc n) = no_lines e (t + 1) n

-- iterations don't depend on the number of the iteration before
pub same_turns : (e : Substitution) (s : ℕ) (body : List (List Lexeme)) (t n : ℕ) → iterations (in_iteration e s) body t n ≡ iterations e body t n
same_turns e s body t zero = refl
same_turns e s body t (suc n) = ap (λ l. map (body_line (in_iteration e t)) body ++ l) (same_turns e s body (t + 1) n)

pub turns_over : (r : Replay) (next count : ℕ) → remaining_replay r ≡ [] → (length r.body.value.lines ≡ 0) ⊎ (count ≤ next) → remaining_iterations r next count ≡ []
turns_over r next count e x = grind (arith, common_steps, no_lines)

pub next_turn : (old new : Replay) (next count : ℕ) → remaining_replay old ≡ [] → next < count → new.body ≡ old.body → new.at ≡ 0 → substitution_of new ≡ in_iteration (substitution_of old) next → remaining_iterations new (next + 1) count ≡ remaining_iterations old next count
next_turn old new next count e lt body at r =
    let lines = map tokens_in old.body.value.lines in
    let more : count - next ≡ suc (count - (next + 1)) = omega arith in
    let pending : remaining_replay new ≡ map (body_line (in_iteration (substitution_of old) next)) lines =
    ap (λ z. map (body_line z) (drop new.at (map tokens_in new.body.value.lines))) r
    ∙ ap (λ b. map (body_line (in_iteration (substitution_of old) next)) (drop new.at (map tokens_in b.value.lines))) body
    ∙ ap (λ a. map (body_line (in_iteration (substitution_of old) next)) (drop a lines)) at in
    let following : iterations (substitution_of new) (map tokens_in new.body.value.lines) (next + 1) (count - (next + 1)) ≡ iterations (substitution_of old) lines (next + 1) (count - (next + 1)) =
    ap (λ b. iterations (substitution_of new) (map tokens_in b.value.lines) (next + 1) (count - (next + 1))) body ∙ ap (λ z. iterations z lines (next + 1) (count - (next + 1))) r ∙ same_turns (substitution_of old) next lines (next + 1) (count - (next + 1)) in
    ap (λ l. l ++ iterations (substitution_of new) (map tokens_in new.body.value.lines) (next + 1) (count - (next + 1))) pending
    ∙ ap (λ l. map (body_line (in_iteration (substitution_of old) next)) lines ++ l) following
    ∙ ap (iterations (substitution_of old) lines next) (sym more)
    ∙ ap (λ l. l ++ iterations (substitution_of old) lines next (count - next)) (sym e)

-- ---- The next line.

some_at : (ls : List (List Lexeme)) (at : ℕ) → at < length ls → (t : List Lexeme) × (drop at ls ≡ t ∷ drop (at + 1) ls)
some_at [] at h = absurd (omega arith)
some_at (l ∷ ls) zero h = (l, refl)
some_at (l ∷ ls) (suc at) h =
    let more = some_at ls at (omega arith) in
    let n : suc at + 1 ≡ suc (at + 1) = omega arith in
    (more.0, more.1 ∙ ap (λ k. more.0 ∷ drop k (l ∷ ls)) (sym n))

pub body_begins : (r : Replay) → r.at < length r.body.value.lines → HasNextLine (remaining_replay r) Replayed
body_begins r h =
    let one = some_at (map tokens_in r.body.value.lines) r.at (omega (arith, h, length-map r.body.value.lines tokens_in)) in
    (substitution_of r, (one.0, (map (body_line (substitution_of r)) (drop (r.at + 1) (map tokens_in r.body.value.lines)), ap (map (body_line (substitution_of r))) one.1)))

pub turn_begins : (r : Replay) (next count : ℕ) → r.at < length r.body.value.lines → HasNextLine (remaining_iterations r next count) Replayed
turn_begins r next count h =
    let c = body_begins r h in
    let more = iterations (substitution_of r) (map tokens_in r.body.value.lines) next (count - next) in
    (c.0, (c.1.0, (c.1.1.0 ++ more, ap (λ l. l ++ more) c.1.1.1)))

-- a line that is read before further items
pub takes_before : (before after more rest : List Item) (r : Result StoredLine ExpandFault) → ReadsStoredLine before r after → more ≡ rest → ReadsStoredLine (before ++ more) r (after ++ rest)
takes_before before after more rest x y same = grind (arith, common_steps)

-- a line of an iteration is read
pub takes_in_turn : (old new : Replay) (next count : ℕ) (r : Result StoredLine ExpandFault) → ReadsStoredLine (remaining_replay old) r (remaining_replay new) → new.body ≡ old.body → substitution_of new ≡ substitution_of old → ReadsStoredLine (remaining_iterations old next count) r (remaining_iterations new next count)
takes_in_turn old new next count r h body same =
    let n = count - next in
    let rest = ap (λ e. iterations e (map tokens_in old.body.value.lines) next n) (sym same) ∙ ap (λ b. iterations (substitution_of new) (map tokens_in b.value.lines) next n) (sym body) in
    takes_before (remaining_replay old) (remaining_replay new) (iterations (substitution_of old) (map tokens_in old.body.value.lines) next n) (iterations (substitution_of new) (map tokens_in new.body.value.lines) next n) r h rest
