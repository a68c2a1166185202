-- Each accepted token preserves that the name of the open entry is new.
use Rattle.std.proofs.Common.{◌≡◌, ◌≢◌, ℕ, Bool, true, false, List, [], Option, Some, None, Result, Ok, Err, refl, subst, sym}
use Rattle.std.specs.Prelude.{if◌then◌else◌, ⊤}
use Rattle.base65.specs.Outcome.{Unless}
use Rattle.std.specs.Option.{option_map_or}
use Rattle.script65.specs.declared.fault.Fault.{Fault}
use Rattle.script65.specs.declared.fault.Fault.TheVariants.{AttributeTwice, NameTwice, SyntaxError}
use Rattle.script65.specs.Attributes.{Block, ValueKind, Value, a_byte, a_file, a_sum, an_area, attributes, blocks, number_from, one_of, find_keyword, value_of_keyword}
use Rattle.script65.specs.SyntaxErrors.{Move, ParseState, accepted, finished, rejected, add_term, attribute_or_end, attribute_value, before_term, before_value, after_block_keyword, after_name, after_term, after_value, after_keyword, between_attributes, between_blocks, between_entries, comma_or_next, entry_end, entry_name, equals_or_value, attribute_move, known_attribute, token_move, sign_or_end, sum_end}
use Rattle.script65.specs.Entries.{Entries, ConfigEntry, ParsedTerm, entry_fault, has_name, has_attribute, new_entry, parsed_term, sum_of_terms, value_of, with_attribute}
use Rattle.script65.specs.declared.fault.FaultAt.{FaultAt}
use Rattle.script65.specs.Faults.{is_system_error}
use Rattle.script65.specs.Internal.Reading.{RefinesMoveOrEnd, IsFresh}
use Rattle.script65.proofs.ListLemmas.{unless_map}
use Rattle.script65.proofs.ReadingUniqueness.{Leads, end_leads}
use Rattle.script65.proofs.TokenByToken.{Reads}
use Rattle.script65.proofs.TokenByToken as reading
use Rattle.script65.specs.Tokens.{Lexeme, colon, comma, brace, end_brace, equals, minus, plus, semicolon, the_end, token, Token, identifier}

abbrev pub Keeps : Move → Type 0
Keeps (accepted es p) = IsFresh es p
Keeps _ = ⊤

module _ (es : Entries) (at : ℕ) where
  begins : (o : Option Block) → Keeps (option_map_or (λ b. accepted es (after_block_keyword b)) o (rejected SyntaxError at))
  begins (Some b) = tt
  begins None = tt

  module _ (b : Block) where
    is_name_fault : (l : Lexeme) → Keeps (entry_name es b l at)
    is_name_fault (identifier w) = by (has_name w b es) refl
      where
        by : (c : Bool) → has_name w b es ≡ c → Keeps (if c then rejected NameTwice at else accepted es (after_name b (new_entry w at)))
        by true h = tt
        by false h = h
    is_name_fault end_brace = tt
    is_name_fault _ = tt

    module _ (e : ConfigEntry) (new : has_name e.name b es ≡ false) where
      known : (o : Option (List ℕ × ValueKind)) → Keeps (known_attribute es b e o at)
      known (Some row) = by (has_attribute row.0 e)
        where
          by : (c : Bool) → Keeps (if c then rejected AttributeTwice at else accepted es (after_keyword b e row))
          by true = tt
          by false = new
      known None = tt

      closes : (o : Option Fault) → Keeps (entry_end es b e o at)
      closes (Some f) = tt
      closes None = tt

      next : (l : Lexeme) → Keeps (attribute_or_end es b e l at)
      next (identifier w) = known (find_keyword w (attributes b))
      next semicolon = closes (entry_fault b e)
      next _ = tt

      following : (l : Lexeme) → Keeps (comma_or_next es b e l at)
      following comma = new
      following (identifier w) = next (identifier w)
      following semicolon = next semicolon
      following _ = tt

      gives : (a : List ℕ) (r : Result Value Fault) → Keeps (attribute_move es b e a at r)
      gives a (Ok v) = new
      gives a (Err f) = tt

      adds : (a : List ℕ) (ps : List ParsedTerm) (r : Result ParsedTerm Fault) → Keeps (add_term es b e a ps at r)
      adds a ps (Ok p) = new
      adds a ps (Err f) = tt

      values : (a : List ℕ) (value_kind : ValueKind) (l : Lexeme) → Keeps (attribute_value es b e a value_kind l at)
      values a a_sum l = adds a [] (parsed_term false at l)
      values a (number_from low high) l = gives a (value_of (number_from low high) l)
      values a a_byte l = gives a (value_of a_byte l)
      values a (one_of keyword_set) l = gives a (value_of (one_of keyword_set) l)
      values a an_area l = gives a (value_of an_area l)
      values a a_file l = gives a (value_of a_file l)

      equal : (row : List ℕ × ValueKind) (l : Lexeme) → Keeps (equals_or_value es b e row l at)
      equal row equals = new
      equal row l = values row.0 row.1 l

  sums : (b : Block) (e : ConfigEntry) (a : List ℕ) (ps : List ParsedTerm) (o : Option Value) (l : Lexeme) → has_name e.name b es ≡ false → Keeps (sum_end es b e a ps o l at)
  sums b e a ps (Some v) l new = following b (with_attribute (record { identifier = a; value = v; parsed_terms = ps }) e) new l
  sums b e a ps None l new = tt

  signs : (b : Block) (e : ConfigEntry) (a : List ℕ) (ps : List ParsedTerm) (l : Lexeme) → has_name e.name b es ≡ false → Keeps (sign_or_end es b e a ps l at)
  signs b e a ps plus new = new
  signs b e a ps minus new = new
  signs b e a ps l new = sums b e a ps (sum_of_terms ps) l new

  pub fresh : (p : ParseState) (l : Lexeme) → IsFresh es p → Keeps (token_move es p l at)
  fresh between_blocks (identifier w) h = begins (value_of_keyword w blocks)
  fresh between_blocks the_end h = tt
  fresh between_blocks _ h = tt
  fresh (after_block_keyword b) brace h = tt
  fresh (after_block_keyword b) _ h = tt
  fresh (between_entries b) l h = is_name_fault b l
  fresh (after_name b e) colon h = h
  fresh (after_name b e) _ h = tt
  fresh (between_attributes b e) l h = next b e h l
  fresh (after_keyword b e row) l h = equal b e h row l
  fresh (before_value b e row) l h = values b e h row.0 row.1 l
  fresh (before_term b e a ps subtracted) l h = adds b e h a ps (parsed_term subtracted at l)
  fresh (after_term b e a ps) l h = signs b e a ps l h
  fresh (after_value b e) l h = following b e h l

-- ---- One step.

module _ (bytes : List ℕ) (es : Entries) (p : ParseState) (at : ℕ) (t : Token) (is : t ≡ token bytes at) where
  goes_on : (fs : Entries) (o : Option ParseState) (q : ParseState) → RefinesMoveOrEnd fs (Ok o) (token_move es p t.lexeme t.at) → o ≡ Some q → token_move es p t.lexeme t.at ≡ accepted fs q
  goes_on fs o q h e = subst (λ o. RefinesMoveOrEnd fs (Ok o) (token_move es p t.lexeme t.at)) e h

  pub still_fresh : (fs : Entries) (o : Option ParseState) (q : ParseState) → RefinesMoveOrEnd fs (Ok o) (token_move es p t.lexeme t.at) → o ≡ Some q → IsFresh es p → IsFresh fs q
  still_fresh fs o q h e new = subst Keeps (goes_on fs o q h e) (fresh es t.at p t.lexeme new)

  pub not_end : (fs : Entries) (o : Option ParseState) (q : ParseState) → RefinesMoveOrEnd fs (Ok o) (token_move es p t.lexeme t.at) → o ≡ Some q → t.lexeme ≢ the_end
  not_end fs o q h e end = end_leads es p t.at (subst (λ l. Leads (token_move es p l t.at)) end (subst Leads (sym (goes_on fs o q h e)) tt))

  pub reads_on : (fs : Entries) (o : Option ParseState) (q : ParseState) → RefinesMoveOrEnd fs (Ok o) (token_move es p t.lexeme t.at) → o ≡ Some q → (r : Result Entries FaultAt) → Reads bytes fs q t.following r → Reads bytes es p at r
  reads_on fs o q h e r rest =
      reading.next es fs p q at r (subst (λ t. token_move es p t.lexeme t.at ≡ accepted fs q) is (goes_on fs o q h e)) (subst (λ (t : Token). Reads bytes fs q t.following r) is rest)

  pub reads_end : (fs : Entries) (o : Option ParseState) → RefinesMoveOrEnd fs (Ok o) (token_move es p t.lexeme t.at) → o ≡ None → Reads bytes es p at (Ok fs)
  reads_end fs o h e = reading.ends es fs p at (subst (λ t. token_move es p t.lexeme t.at ≡ finished fs) is (subst (λ o. RefinesMoveOrEnd fs (Ok o) (token_move es p t.lexeme t.at)) e h))

  pub reads_fault : (e : FaultAt) → Unless (is_system_error e) (token_move es p t.lexeme t.at ≡ rejected e.fault e.at) → Unless (is_system_error e) (Reads bytes es p at (Err e))
  reads_fault e h = unless_map _ _ (is_system_error e) (λ m. reading.stops es p at e.fault e.at (subst (λ t. token_move es p t.lexeme t.at ≡ rejected e.fault e.at) is m)) h
