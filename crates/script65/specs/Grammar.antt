-- The grammar of scripts, as relations between two offsets of a text.
use Rattle.std.specs.Prelude.{◌≡◌, ℕ, Bool, true, false, List, [], ◌∷◌, Some, None, Ok, ◌⊎◌}
use Rattle.script65.specs.Attributes.{Block, ValueKind, a_sum, attributes, blocks, find_keyword, value_of_keyword}
use Rattle.script65.specs.Entries.{Entries, ConfigEntry, AttributeValue, ParsedTerm, entry_fault, has_attribute, has_name, no_entries, new_entry, parsed_term, sum_of_terms, value_of, with_entry, with_attribute}
use Rattle.script65.specs.Tokens.{Lexeme, token, identifier, colon, semicolon, comma, equals, plus, minus, brace, end_brace, the_end}

-- a token, after any blanks and comments
pub record TokenAt (bytes : List ℕ) (l : Lexeme) (at next : ℕ) : Type 0 where
  pub lexeme : (token bytes at).lexeme ≡ l
  pub following : (token bytes at).following ≡ next

-- an optional token
abbrev pub IsOptionalToken : List ℕ → Lexeme → ℕ → ℕ → Type 0
IsOptionalToken bytes l at next = TokenAt bytes l at next ⊎ (at ≡ next)

-- ---- Sums.

-- a term: a number or a name
pub record IsTerm (bytes : List ℕ) (subtracted : Bool) (p : ParsedTerm) (at next : ℕ) : Type 0 where
  pub lexeme : Lexeme
  pub stands : TokenAt bytes lexeme at next
  pub part : parsed_term subtracted (token bytes at).at lexeme ≡ Ok p

-- the sign of a term that is added or subtracted
abbrev pub sign : Bool → Lexeme
sign false = plus
sign true = minus

-- terms with a sign between each two
pub data AreTerms (bytes : List ℕ) : Bool → List ParsedTerm → ℕ → ℕ → Type 0 where
  one : (subtracted : Bool) (p : ParsedTerm) (at next : ℕ) → IsTerm bytes subtracted p at next → AreTerms bytes subtracted (p ∷ []) at next
  more : (subtracted then_subtracted : Bool) (p : ParsedTerm) (ps : List ParsedTerm) (at mid start next : ℕ) → IsTerm bytes subtracted p at mid → TokenAt bytes (sign then_subtracted) mid start → AreTerms bytes then_subtracted ps start next → AreTerms bytes subtracted (p ∷ ps) at next

-- ---- Attributes.

-- the value of an attribute: a sum, with its terms, or else one token
abbrev pub IsValue : List ℕ → ValueKind → AttributeValue → ℕ → ℕ → Type 0
IsValue bytes a_sum g at next =
    AreTerms bytes false g.parsed_terms at next × (sum_of_terms g.parsed_terms ≡ Some g.value)
IsValue bytes value_kind g at next =
    (l : Lexeme) × TokenAt bytes l at next × (value_of value_kind l ≡ Ok g.value) × (g.parsed_terms ≡ [])

-- the name of an attribute that the block has and the entry doesn't have yet; an optional `=`; its
-- value; an optional `,`
pub record IsAttribute (bytes : List ℕ) (b : Block) (e : ConfigEntry) (g : AttributeValue) (at next : ℕ) : Type 0 where
  pub written : List ℕ
  pub value_kind : ValueKind
  pub after_keyword : ℕ
  pub start : ℕ
  pub end : ℕ
  pub stands : TokenAt bytes (identifier written) at after_keyword
  pub known : find_keyword written (attributes b) ≡ Some (g.identifier, value_kind)
  pub once : has_attribute g.identifier e ≡ false
  pub equals_sign : IsOptionalToken bytes equals after_keyword start
  pub value : IsValue bytes value_kind g start end
  pub comma_after : IsOptionalToken bytes comma end next

-- a sequence of attributes: the entry before them, and with them
pub data AreAttributes (bytes : List ℕ) (b : Block) : ConfigEntry → ConfigEntry → ℕ → ℕ → Type 0 where
  no_attribute : (e : ConfigEntry) (at : ℕ) → AreAttributes bytes b e e at at
  attribute : (e f : ConfigEntry) (g : AttributeValue) (at mid next : ℕ) → IsAttribute bytes b e g at mid → AreAttributes bytes b (with_attribute g e) f mid next → AreAttributes bytes b e f at next

-- ---- Entries.

-- a new name, `:`, attributes, `;`
pub record IsEntry (bytes : List ℕ) (b : Block) (es : Entries) (e : ConfigEntry) (at next : ℕ) : Type 0 where
  pub after_name : ℕ
  pub start : ℕ
  pub end : ℕ
  pub name : TokenAt bytes (identifier e.name) at after_name
  pub place : e.at ≡ (token bytes at).at
  pub fresh : has_name e.name b es ≡ false
  pub colon_after : TokenAt bytes colon after_name start
  pub gives : AreAttributes bytes b (new_entry e.name e.at) e start end
  pub whole : entry_fault b e ≡ None
  pub semicolon_after : TokenAt bytes semicolon end next

-- a sequence of entries: the script's entries before them, and with them
pub data AreEntries (bytes : List ℕ) (b : Block) : Entries → Entries → ℕ → ℕ → Type 0 where
  no_entry : (es : Entries) (at : ℕ) → AreEntries bytes b es es at at
  entry : (es fs : Entries) (e : ConfigEntry) (at mid next : ℕ) → IsEntry bytes b es e at mid → AreEntries bytes b (with_entry b e es) fs mid next → AreEntries bytes b es fs at next

-- ---- Blocks.

-- a block's keyword, `{`, entries, `}`
pub record IsBlock (bytes : List ℕ) (es fs : Entries) (at next : ℕ) : Type 0 where
  pub written : List ℕ
  pub block : Block
  pub after_keyword : ℕ
  pub start : ℕ
  pub end : ℕ
  pub stands : TokenAt bytes (identifier written) at after_keyword
  pub known : value_of_keyword written blocks ≡ Some block
  pub opens : TokenAt bytes brace after_keyword start
  pub has_entries : AreEntries bytes block es fs start end
  pub closes : TokenAt bytes end_brace end next

-- a sequence of blocks, of any kind in any order
pub data AreBlocks (bytes : List ℕ) : Entries → Entries → ℕ → ℕ → Type 0 where
  no_block : (es : Entries) (at : ℕ) → AreBlocks bytes es es at at
  block : (es fs gs : Entries) (at mid next : ℕ) → IsBlock bytes es fs at mid → AreBlocks bytes fs gs mid next → AreBlocks bytes es gs at next

-- a script: blocks up to the end of the text
pub record MatchesGrammar (bytes : List ℕ) (es : Entries) : Type 0 where
  pub end : ℕ
  pub blocks : AreBlocks bytes no_entries es 0 end
  pub ends : (token bytes end).lexeme ≡ the_end
