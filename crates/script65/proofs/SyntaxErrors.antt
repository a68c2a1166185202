-- A syntax error is at the first token with which no text continues.
use Rattle.std.proofs.Common.{arith, ◌≡◌, ◌≤◌, ◌<◌, ◌⊎◌, inl, inr, ℕ, List, [], ◌∷◌, ◌++◌, length, take, Option, Some, None, Result, Ok, Err, refl, sym, ap, ◌∙◌, subst}
use Rattle.script65.specs.declared.fault.Fault.{Fault}
use Rattle.script65.specs.declared.fault.Fault.TheVariants.{OutOfRange, SyntaxError}
use Rattle.script65.specs.declared.fault.FaultAt.{FaultAt}
use Rattle.script65.specs.SyntaxErrors.{SyntaxErrorAt, Move, ParseState, here, later, accepted, rejected, token_move, move_at_offset, between_blocks, after_block_keyword, between_entries, after_name, between_attributes, after_keyword, before_value, before_term, after_term, after_value, attribute_value, sum_end}
use Rattle.script65.specs.Attributes.{Block, ValueKind, Value, a_sum}
use Rattle.script65.specs.Entries.{Entries, ConfigEntry, ParsedTerm, no_entries, sum_of_terms}
use Rattle.script65.specs.Faults.{fault_at}
use Rattle.script65.specs.FirstFaults.{FirstFaultsAreExact, HasWrongEnd, HasFault, IsFirstScriptFault, IsInGrammar, IsFirstBadToken, HasWrongAttributes, SameTokensUpTo, no_token, numbered, same_token, syntax_error, wrong_end}
use Rattle.script65.specs.Grammar.{no_block}
use Rattle.script65.specs.Scripts.{IsParseResult}
use Rattle.script65.specs.Tokens.{Lexeme, Token, none, the_end, token}
use Rattle.script65.proofs.Continuations.{Closed, closed}
use Rattle.script65.proofs.TokenFaults.{fault_own, fault_reads}
use Rattle.script65.proofs.UnchangedTokens.{Cut, IsSolid, cut, cut_rest, token_kept, token_within}
use Rattle.script65.proofs.NoContinuation.{IsAt, move_at}
use Rattle.script65.proofs.ReadingUniqueness.{Leads, end_leads, reads_one, reads_some}
use Rattle.script65.proofs.PrecedingText.{Before, Following, fault_of, moved}
use Rattle.script65.proofs.TokenByToken.{Reads, next, stops}
use Rattle.script65.proofs.GrammarEquivalence.{is_read, read_of, written_reads}

-- ---- The end, and a byte with which no token begins, have no next state.

no_value : (es : Entries) (b : Block) (e : ConfigEntry) (a : List ℕ) (t : ValueKind) (at : ℕ) → Leads (attribute_value es b e a t none at) → ⊥
no_value es b e a a_sum at h = h
no_value es b e a _ at h = h

no_sum : (es : Entries) (b : Block) (e : ConfigEntry) (a : List ℕ) (ps : List ParsedTerm) (v : Option Value) (at : ℕ) → Leads (sum_end es b e a ps v none at) → ⊥
no_sum es b e a ps (Some v) at h = h
no_sum es b e a ps None at h = h

none_leads : (es : Entries) (p : ParseState) (at : ℕ) → Leads (token_move es p none at) → ⊥
none_leads es between_blocks at h = h
none_leads es (after_block_keyword b) at h = h
none_leads es (between_entries b) at h = h
none_leads es (after_name b e) at h = h
none_leads es (between_attributes b e) at h = h
none_leads es (after_keyword b e row) at h = no_value es b e row.0 row.1 at h
none_leads es (before_value b e row) at h = no_value es b e row.0 row.1 at h
none_leads es (before_term b e a ps subtracted) at h = h
none_leads es (after_term b e a ps) at h = no_sum es b e a ps (sum_of_terms ps) at h
none_leads es (after_value b e) at h = h

solid : (es : Entries) (p : ParseState) (l : Lexeme) (at : ℕ) → Leads (token_move es p l at) → IsSolid l
solid es p the_end at h = end_leads es p at h
solid es p none at h = none_leads es p at h
solid es p _ at h = tt

-- ---- Texts with the same tokens.

module _ (bytes : List ℕ) where
  first_token : (other : List ℕ) (at to : ℕ) → at < to → SameTokensUpTo bytes other at to → (token other at ≡ token bytes at) × SameTokensUpTo bytes other (token bytes at).following to
  first_token other _ _ lt (no_token at) = absurd (omega arith)
  first_token other _ _ lt (same_token at to e rest) = (e, rest)

  itself : (other : List ℕ) (at to : ℕ) → SameTokensUpTo bytes other at to → SameTokensUpTo bytes bytes at to
  itself other _ _ (no_token at) = no_token at
  itself other _ _ (same_token at to e rest) = same_token at to refl (itself other (token bytes at).following to rest)

  -- the state after accepted tokens, before the token that is rejected
  record Reached (es : Entries) (p : ParseState) (at : ℕ) (f : FaultAt) : Type 0 where
    pub fs : Entries
    pub q : ParseState
    pub offset : ℕ
    pub from : at ≤ offset
    pub within : offset ≤ length bytes
    pub is : move_at_offset bytes fs q offset ≡ rejected f.fault f.at
    pub kept : (other : List ℕ) → Cut offset bytes other → SameTokensUpTo bytes other at offset
    pub before : (other : List ℕ) → SameTokensUpTo bytes other at offset → Before other es p at → Before other fs q offset
    pub reads : (other : List ℕ) (r : Result Entries FaultAt) → SameTokensUpTo bytes other at offset → Reads other fs q offset r → Reads other es p at r

  reached : (es : Entries) (p : ParseState) (at : ℕ) (f : FaultAt) → at ≤ length bytes → SyntaxErrorAt bytes es p at f → Reached es p at f
  reached _ _ _ _ le (later es fs p q at f e rest) =
      let solid_there : IsSolid (token bytes at).lexeme = solid es p (token bytes at).lexeme (token bytes at).at (subst Leads (sym e) tt) in
      let ends = token_within bytes at le solid_there in
      let r = reached fs q (token bytes at).following f ends.0 rest in
      let lt : at < r.offset = omega (arith, ends.1, r.from) in
      record {
        fs = r.fs;
        q = r.q;
        offset = r.offset;
        from = omega arith;
        within = r.within;
        is = r.is;
        kept = λ other c. same_token at r.offset (token_kept bytes other at r.offset c r.from solid_there) (r.kept other c);
        before = λ other s b.
            let t = first_token other at r.offset lt s in
            let there : Before other fs q (token other at).following = subst (Following other at) (ap (λ (x : Token). token_move es p x.lexeme x.at) t.0 ∙ e) (moved other es p at b) in
            r.before other t.1 (subst (Before other fs q) (ap (λ (x : Token). x.following) t.0) there);
        reads = λ other u s k.
            let t = first_token other at r.offset lt s in
            next es fs p q at u (ap (λ (x : Token). token_move es p x.lexeme x.at) t.0 ∙ e) (subst (λ n. Reads other fs q n u) (sym (ap (λ (x : Token). x.following) t.0)) (r.reads other u t.1 k));
      }
  reached _ _ _ _ le (here es p at fault offset e) = record {
    fs = es;
    q = p;
    offset = at;
    from = omega arith;
    within = le;
    is = e;
    kept = λ other c. no_token at;
    before = λ other s b. b;
    reads = λ other u s k. k;
  }

  -- ---- The first rejected token.

  module _ (f : FaultAt) (h : SyntaxErrorAt bytes no_entries between_blocks 0 f) where
    there : Reached no_entries between_blocks 0 f
    there = reached no_entries between_blocks 0 f (omega arith) h

    -- no text continues with the token of a syntax error
    no_text : f.fault ≡ SyntaxError → (text : List ℕ) → SameTokensUpTo bytes text 0 there.offset → token text there.offset ≡ token bytes there.offset → IsInGrammar text ⊎ HasWrongEnd text there.offset → ⊥
    no_text syntax text s t g = by g
      where
        stopped : Reads text no_entries between_blocks 0 (Err f)
        stopped = there.reads text (Err f) s (stops there.fs there.q there.offset f.fault f.at (ap (λ (x : Token). token_move there.fs there.q x.lexeme x.at) t ∙ there.is))

        other_fault : (g : FaultAt) → HasFault text g → ⊥
        other_fault g k =
            let both : ◌≡◌ {A = Result Entries FaultAt} (Err g) (Err f) = reads_one text no_entries between_blocks 0 (Err g) (Err f) (fault_reads text g k) stopped in
            let same : g ≡ f = cc in
            fault_own text g k (ap (λ (s : FaultAt). s.fault) same ∙ syntax)

        by : IsInGrammar text ⊎ HasWrongEnd text there.offset → ⊥
        by (inl w) =
            let both : ◌≡◌ {A = Result Entries FaultAt} (Ok w.0) (Err f) = reads_one text no_entries between_blocks 0 (Ok w.0) (Err f) (written_reads text w.0 w.1) stopped in
            cc
        by (inr w) = other_fault (fault_at w.fault (token text w.at).at) (wrong_end w.block w.entries w.entry w.fault w.at w.inside w.ends w.wrong)

    least : f.fault ≡ SyntaxError → IsFirstBadToken bytes there.offset
    least syntax =
        let c = closed bytes there.fs there.q there.offset (there.before bytes (itself (take there.offset bytes ++ 10 ∷ []) 0 there.offset (there.kept (take there.offset bytes ++ 10 ∷ []) (cut there.offset bytes [] there.within))) (no_block no_entries 0)) in
        let same = there.kept (take there.offset bytes ++ 10 ∷ c.text) (cut there.offset bytes c.text there.within) in
        record {
          other = take there.offset bytes ++ 10 ∷ c.text;
          same = same;
          continues = c.ends (take there.offset bytes ++ 10 ∷ c.text) (there.before (take there.offset bytes ++ 10 ∷ c.text) same (no_block no_entries 0)) (cut_rest there.offset bytes c.text there.within);
          ends = no_text syntax;
        }

    found_there : f.fault ≡ SyntaxError → (token bytes there.offset).at ≡ f.at
    found_there syntax = by (subst (IsAt (token bytes there.offset).at) there.is (move_at there.fs there.q (token bytes there.offset).lexeme (token bytes there.offset).at))
      where
        by : (f.at ≡ (token bytes there.offset).at) ⊎ (f.fault ≡ OutOfRange) → (token bytes there.offset).at ≡ f.at
        by (inl e) = sym e
        by (inr e) = let never : SyntaxError ≡ OutOfRange = sym syntax ∙ e in absurd cc

    no_fault : f.fault ≡ SyntaxError → (g : FaultAt) → HasFault bytes g → ⊥
    no_fault syntax g k =
        let both : ◌≡◌ {A = Result Entries FaultAt} (Err g) (Err f) = reads_one bytes no_entries between_blocks 0 (Err g) (Err f) (fault_reads bytes g k) (read_of bytes (Err f) h) in
        let same : g ≡ f = cc in
        fault_own bytes g k (ap (λ (s : FaultAt). s.fault) same ∙ syntax)

  first_of : (f : FaultAt) → IsParseResult bytes (Err f) → IsFirstScriptFault bytes f
  first_of f h = by (fault_of bytes f h)
    where
      by : (f.fault ≡ SyntaxError) ⊎ HasFault bytes f → IsFirstScriptFault bytes f
      by (inr k) = numbered f k
      by (inl syntax) =
          let same : fault_at SyntaxError (token bytes (there f h).offset).at ≡ f = ap (λ n. fault_at SyntaxError n) (found_there f h syntax) ∙ ap (λ (c : Fault). fault_at c f.at) (sym syntax) in
          subst (IsFirstScriptFault bytes) same (syntax_error (there f h).offset (no_fault f h syntax) (least f h syntax))

  -- ---- The first rejected token is unique.

  goes_less : (text : List ℕ) (p q : ℕ) → p ≤ q → IsInGrammar text ⊎ (HasWrongAttributes bytes q × HasWrongEnd text q) → IsInGrammar text ⊎ HasWrongEnd text p
  goes_less text p q le (inl w) = inl w
  goes_less text p q le (inr w) = inr (record { block = w.1.block; entries = w.1.entries; entry = w.1.entry; fault = w.1.fault; at = w.1.at; inside = w.1.inside; further = omega (arith, w.1.further); ends = w.1.ends; wrong = w.1.wrong; whole = w.1.whole })

  -- a token ends at or after its offset
  after_token : (at : ℕ) → at ≤ (token bytes at).following
  unfolding token
  after_token at = omega arith

  along : (x : List ℕ) (at to : ℕ) → SameTokensUpTo bytes x at to → at ≤ to
  along x _ _ (no_token at) = omega arith
  along x _ _ (same_token at to e rest) = omega (arith, after_token at, along x (token bytes at).following to rest)

  -- the text has the same tokens up to an offset and at it
  record Passes (x : List ℕ) (at offset : ℕ) : Type 0 where
    pub same : SameTokensUpTo bytes x at offset
    pub there : token x offset ≡ token bytes offset

  in_order : (x y : List ℕ) (at p q : ℕ) → SameTokensUpTo bytes x at p → SameTokensUpTo bytes y at q → (p ≡ q) ⊎ ((Passes y at p × (p ≤ q)) ⊎ (Passes x at q × (q ≤ p)))
  in_order x y _ _ _ (no_token at) (no_token _) = inl refl
  in_order x y _ _ _ (no_token at) (same_token _ q e rest) = inr (inl (record { same = no_token at; there = e }, along y at q (same_token at q e rest)))
  in_order x y _ _ _ (same_token at p e rest) (no_token _) = inr (inr (record { same = no_token at; there = e }, along x at p (same_token at p e rest)))
  in_order x y _ _ _ (same_token at p e rest) (same_token _ q d more) = by (in_order x y (token bytes at).following p q rest more)
    where
      by : (p ≡ q) ⊎ ((Passes y (token bytes at).following p × (p ≤ q)) ⊎ (Passes x (token bytes at).following q × (q ≤ p))) → (p ≡ q) ⊎ ((Passes y at p × (p ≤ q)) ⊎ (Passes x at q × (q ≤ p)))
      by (inl same) = inl same
      by (inr (inl h)) = inr (inl (record { same = same_token at p d h.0.same; there = h.0.there }, h.1))
      by (inr (inr h)) = inr (inr (record { same = same_token at q e h.0.same; there = h.0.there }, h.1))

  read_least : (offset : ℕ) → ((f : FaultAt) → HasFault bytes f → ⊥) → IsFirstBadToken bytes offset → IsParseResult bytes (Err (fault_at SyntaxError (token bytes offset).at))
  read_least offset no_fault_there l = by some.0 some.1
    where
      some : (r : Result Entries FaultAt) × Reads bytes no_entries between_blocks 0 r
      some = reads_some bytes (length bytes) 0 no_entries between_blocks (omega arith)

      same_place : (f : FaultAt) (h : IsParseResult bytes (Err f)) (syntax : f.fault ≡ SyntaxError) → (offset ≡ (there f h).offset) ⊎ ((Passes (least f h syntax).other 0 offset × (offset ≤ (there f h).offset)) ⊎ (Passes l.other 0 (there f h).offset × ((there f h).offset ≤ offset))) → IsParseResult bytes (Err (fault_at SyntaxError (token bytes offset).at))
      same_place f h syntax (inl same) =
          let is : f ≡ fault_at SyntaxError (token bytes offset).at = ap (λ (c : Fault). fault_at c f.at) syntax ∙ ap (λ n. fault_at SyntaxError n) (sym (found_there f h syntax)) ∙ ap (λ n. fault_at SyntaxError (token bytes n).at) (sym same) in
          subst (λ (f : FaultAt). IsParseResult bytes (Err f)) is h
      same_place f h syntax (inr (inl k)) = absurd (l.ends (least f h syntax).other k.0.same k.0.there (goes_less (least f h syntax).other offset (there f h).offset k.1 (least f h syntax).continues))
      same_place f h syntax (inr (inr k)) = absurd ((least f h syntax).ends l.other k.0.same k.0.there (goes_less l.other (there f h).offset offset k.1 l.continues))

      by_fault : (f : FaultAt) → IsParseResult bytes (Err f) → (f.fault ≡ SyntaxError) ⊎ HasFault bytes f → IsParseResult bytes (Err (fault_at SyntaxError (token bytes offset).at))
      by_fault f h (inr k) = absurd (no_fault_there f k)
      by_fault f h (inl syntax) = same_place f h syntax (in_order l.other (least f h syntax).other 0 offset (there f h).offset l.same (least f h syntax).same)

      by : (r : Result Entries FaultAt) → Reads bytes no_entries between_blocks 0 r → IsParseResult bytes (Err (fault_at SyntaxError (token bytes offset).at))
      by (Ok es) k = absurd (l.ends bytes (itself l.other 0 offset l.same) refl (inl (es, is_read bytes (Ok es) k)))
      by (Err f) k = by_fault f (is_read bytes (Err f) k) (fault_of bytes f (is_read bytes (Err f) k))

  read_first : (f : FaultAt) → IsFirstScriptFault bytes f → IsParseResult bytes (Err f)
  read_first _ (numbered f h) = is_read bytes (Err f) (fault_reads bytes f h)
  read_first _ (syntax_error offset no_fault_there l) = read_least offset no_fault_there l

pub first_faults : FirstFaultsAreExact
first_faults bytes f = (first_of bytes f, read_first bytes f)
