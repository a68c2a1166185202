-- The first error of a script, defined by the grammar of the text before it.
use Rattle.std.specs.Prelude.{◌≡◌, ◌≢◌, ◌≤◌, ◌⊎◌, ℕ, Bool, true, false, List, [], codes, Some, None, Err}
use Rattle.script65.specs.declared.fault.Fault.{Fault}
use Rattle.script65.specs.declared.fault.Fault.TheVariants.{AttributeMissing, AttributeTwice, NameTwice, OutOfRange, SyntaxError, UnknownAttribute}
use Rattle.script65.specs.declared.fault.FaultAt.{FaultAt}
use Rattle.script65.specs.Attributes.{Block, ValueKind, a_sum, attributes, blocks, imported, find_keyword, value_of_keyword, symbols}
use Rattle.script65.specs.Entries.{Entries, ConfigEntry, ParsedTerm, entry_fault, has_name, has_attribute, last_term_offset, no_entries, new_entry, parsed_term, role_for, sum_of_terms, value_of}
use Rattle.script65.specs.Faults.{fault_at}
use Rattle.script65.specs.Grammar.{AreAttributes, AreBlocks, AreEntries, AreTerms, MatchesGrammar, IsOptionalToken, TokenAt, sign}
use Rattle.script65.specs.Scripts.{IsParseResult}
use Rattle.script65.specs.Tokens.{Lexeme, brace, colon, equals, minus, plus, semicolon, token, identifier}

-- ---- The text before a position.

-- within a block: whole blocks, the keyword of this one, `{` and whole entries; these are the script's entries so far
pub record InBlock (bytes : List ℕ) (b : Block) (es : Entries) (at : ℕ) : Type 0 where
  pub before : Entries
  pub begin : ℕ
  pub written : List ℕ
  pub after_keyword : ℕ
  pub start : ℕ
  pub blocks_before : AreBlocks bytes no_entries before 0 begin
  pub stands : TokenAt bytes (identifier written) begin after_keyword
  pub known : value_of_keyword written blocks ≡ Some b
  pub opens : TokenAt bytes brace after_keyword start
  pub entries_before : AreEntries bytes b before es start at

-- within an entry: its name, which is new, `:` and whole attributes; this is the entry so far
pub record InEntry (bytes : List ℕ) (b : Block) (es : Entries) (e : ConfigEntry) (at : ℕ) : Type 0 where
  pub begin : ℕ
  pub after_name : ℕ
  pub start : ℕ
  pub inside : InBlock bytes b es begin
  pub name : TokenAt bytes (identifier e.name) begin after_name
  pub place : e.at ≡ (token bytes begin).at
  pub fresh : has_name e.name b es ≡ false
  pub colon_after : TokenAt bytes colon after_name start
  pub gives : AreAttributes bytes b (new_entry e.name e.at) e start at

-- within an attribute: its name, which the block has and the entry so far doesn't, and an optional `=`
pub record InAttribute (bytes : List ℕ) (b : Block) (es : Entries) (e : ConfigEntry) (row : List ℕ × ValueKind) (at : ℕ) : Type 0 where
  pub begin : ℕ
  pub written : List ℕ
  pub after_keyword : ℕ
  pub inside : InEntry bytes b es e begin
  pub stands : TokenAt bytes (identifier written) begin after_keyword
  pub known : find_keyword written (attributes b) ≡ Some row
  pub once : has_attribute row.0 e ≡ false
  pub equals_sign : IsOptionalToken bytes equals after_keyword at

-- within a sum: nothing, or terms and the sign of the next one
pub data InSum (bytes : List ℕ) (start : ℕ) : List ParsedTerm → Bool → ℕ → Type 0 where
  first_term : InSum bytes start [] false start
  next_term : (ps : List ParsedTerm) (subtracted : Bool) (mid at : ℕ) → AreTerms bytes false ps start mid → TokenAt bytes (sign subtracted) mid at → InSum bytes start ps subtracted at

abbrev pub is_sign : Lexeme → Bool
is_sign plus = true
is_sign minus = true
is_sign _ = false

-- ---- Errors, by the text before them.

-- A token is an error by itself: a name that the block already has an entry for; a word that is no attribute
-- of the block; an attribute that the entry already has; the `;` of an entry that lacks an attribute, has two
-- that exclude each other, or whose area ends after the last address; a number out of the attribute's range,
-- or too large for a term of a sum. Or a sum without names ends out of range: then the error is at its last
-- term.
pub data HasFault (bytes : List ℕ) : FaultAt → Type 0 where
  name_twice : (b : Block) (es : Entries) (w : List ℕ) (at : ℕ) → InBlock bytes b es at → (token bytes at).lexeme ≡ identifier w → has_name w b es ≡ true → HasFault bytes (fault_at NameTwice (token bytes at).at)
  unknown_attribute : (b : Block) (es : Entries) (e : ConfigEntry) (w : List ℕ) (at : ℕ) → InEntry bytes b es e at → (token bytes at).lexeme ≡ identifier w → find_keyword w (attributes b) ≡ None → HasFault bytes (fault_at UnknownAttribute (token bytes at).at)
  attribute_twice : (b : Block) (es : Entries) (e : ConfigEntry) (w : List ℕ) (row : List ℕ × ValueKind) (at : ℕ) → InEntry bytes b es e at → (token bytes at).lexeme ≡ identifier w → find_keyword w (attributes b) ≡ Some row → has_attribute row.0 e ≡ true → HasFault bytes (fault_at AttributeTwice (token bytes at).at)
  wrong_end : (b : Block) (es : Entries) (e : ConfigEntry) (fault : Fault) (at : ℕ) → InEntry bytes b es e at → (token bytes at).lexeme ≡ semicolon → entry_fault b e ≡ Some fault → HasFault bytes (fault_at fault (token bytes at).at)
  wrong_number : (b : Block) (es : Entries) (e : ConfigEntry) (row : List ℕ × ValueKind) (at : ℕ) → InAttribute bytes b es e row at → value_of row.1 (token bytes at).lexeme ≡ Err OutOfRange → HasFault bytes (fault_at OutOfRange (token bytes at).at)
  wrong_term : (b : Block) (es : Entries) (e : ConfigEntry) (a : List ℕ) (ps : List ParsedTerm) (subtracted : Bool) (start at : ℕ) → InAttribute bytes b es e (a, a_sum) start → InSum bytes start ps subtracted at → parsed_term subtracted (token bytes at).at (token bytes at).lexeme ≡ Err OutOfRange → HasFault bytes (fault_at OutOfRange (token bytes at).at)
  wrong_sum : (b : Block) (es : Entries) (e : ConfigEntry) (a : List ℕ) (ps : List ParsedTerm) (start at : ℕ) → InAttribute bytes b es e (a, a_sum) start → AreTerms bytes false ps start at → is_sign (token bytes at).lexeme ≡ false → sum_of_terms ps ≡ None → HasFault bytes (fault_at OutOfRange (last_term_offset ps))

-- a first error that isn't a syntax error is one of these, and each of these is the first error
abbrev pub TokenFaultsAreExact : Type 0
TokenFaultsAreExact =
    (bytes : List ℕ) (f : FaultAt) →
    (IsParseResult bytes (Err f) → (f.fault ≡ SyntaxError) ⊎ HasFault bytes f)
    × (HasFault bytes f → IsParseResult bytes (Err f))

-- ---- Syntax errors.

-- two texts have the same tokens at the same offsets, from one offset up to another
pub data SameTokensUpTo (bytes other : List ℕ) : ℕ → ℕ → Type 0 where
  no_token : (at : ℕ) → SameTokensUpTo bytes other at at
  same_token : (at to : ℕ) → token other at ≡ token bytes at → SameTokensUpTo bytes other (token bytes at).following to → SameTokensUpTo bytes other at to

-- a text is in the grammar
abbrev pub IsInGrammar : List ℕ → Type 0
IsInGrammar text = (es : Entries) × MatchesGrammar text es

-- The text has, at this offset or later, the `;` of an entry that lacks no attribute but has two that exclude each other, or
-- whose area ends after the last address.
pub record HasWrongEnd (text : List ℕ) (offset : ℕ) : Type 0 where
  pub block : Block
  pub entries : Entries
  pub entry : ConfigEntry
  pub fault : Fault
  pub at : ℕ
  pub inside : InEntry text block entries entry at
  pub further : offset ≤ at
  pub ends : (token text at).lexeme ≡ semicolon
  pub wrong : entry_fault block entry ≡ Some fault
  pub whole : fault ≢ AttributeMissing

-- The attributes before an offset are wrong whatever attributes follow: they exclude each other, the area
-- ends after the last address, or `value` is given for an import.
pub data HasWrongAttributes (bytes : List ℕ) (offset : ℕ) : Type 0 where
  wrong_entry : (b : Block) (es : Entries) (e : ConfigEntry) (fault : Fault) (at : ℕ) → InEntry bytes b es e at → at ≤ offset → entry_fault b e ≡ Some fault → fault ≢ AttributeMissing → HasWrongAttributes bytes offset
  value_of_import : (es : Entries) (e : ConfigEntry) (row : List ℕ × ValueKind) (at : ℕ) → InAttribute bytes symbols es e row at → at ≤ offset → row.0 ≡ codes "value" → role_for e ≡ Some imported → HasWrongAttributes bytes offset

-- The first token with which no text continues. Some text with the same tokens before it is in the grammar or, if these are
-- wrong already, continues up to the `;`. No text that also has this token does either.
pub record IsFirstBadToken (bytes : List ℕ) (offset : ℕ) : Type 0 where
  pub other : List ℕ
  pub same : SameTokensUpTo bytes other 0 offset
  pub continues : IsInGrammar other ⊎ (HasWrongAttributes bytes offset × HasWrongEnd other offset)
  pub ends : (text : List ℕ) → SameTokensUpTo bytes text 0 offset → token text offset ≡ token bytes offset → IsInGrammar text ⊎ HasWrongEnd text offset → ⊥

-- A first error: one of a token by itself; or, if no token has one, a syntax error at the first token with which no text
-- continues as a script.
pub data IsFirstScriptFault (bytes : List ℕ) : FaultAt → Type 0 where
  numbered : (f : FaultAt) → HasFault bytes f → IsFirstScriptFault bytes f
  syntax_error : (offset : ℕ) → ((f : FaultAt) → HasFault bytes f → ⊥) → IsFirstBadToken bytes offset → IsFirstScriptFault bytes (fault_at SyntaxError (token bytes offset).at)

-- these are exactly the errors of reading
abbrev pub FirstFaultsAreExact : Type 0
FirstFaultsAreExact =
    (bytes : List ℕ) (f : FaultAt) →
    (IsParseResult bytes (Err f) → IsFirstScriptFault bytes f) × (IsFirstScriptFault bytes f → IsParseResult bytes (Err f))
