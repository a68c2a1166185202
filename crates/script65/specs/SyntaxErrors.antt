-- The states of the reader, and the first error: the first token that isn't allowed in its state.
use Rattle.std.specs.Prelude.{◌≡◌, ℕ, true, false, if◌then◌else◌, List, [], ◌∷◌, ◌++◌, Option, Some, None, Result, Ok, Err}
use Rattle.std.specs.Option.{option_map_or}
use Rattle.script65.specs.declared.fault.Fault.{Fault}
use Rattle.script65.specs.declared.fault.Fault.TheVariants.{SyntaxError, UnknownAttribute, AttributeTwice, NameTwice, OutOfRange}
use Rattle.script65.specs.declared.fault.FaultAt.{FaultAt}
use Rattle.script65.specs.Faults.{fault_at}
use Rattle.script65.specs.Attributes.{Block, Value, ValueKind, a_sum, attributes, blocks, find_keyword, value_of_keyword}
use Rattle.script65.specs.Entries.{Entries, ConfigEntry, ParsedTerm, entry_fault, has_attribute, has_name, last_term_offset, new_entry, parsed_term, sum_of_terms, value_of, with_entry, with_attribute}
use Rattle.script65.specs.Tokens.{Lexeme, token, identifier, colon, semicolon, comma, equals, plus, minus, brace, end_brace, the_end}
-- ---- The tokens that are allowed in each state.

-- The state before a token: between blocks; after a block's keyword; between the entries of a block; after an
-- entry's name; between the attributes of an entry; after an attribute's name; after its `=`; before a term
-- of its sum; after a term; or after its value.
pub use Rattle.script65.specs.declared.reading.grammar.ParseState.{ParseState}
pub use Rattle.script65.specs.declared.reading.grammar.ParseState.TheVariants.{BetweenBlocks as between_blocks, AfterBlockKeyword as after_block_keyword, BetweenEntries as between_entries, AfterName as after_name, BetweenAttributes as between_attributes, AfterKeyword as after_keyword, BeforeValue as before_value, BeforeTerm as before_term, AfterTerm as after_term, AfterValue as after_value}

-- The effect of a token: it is allowed, with the entries read so far and the state for the next token; or it
-- ends the script; or it is an error, with its offset.
pub data Move : Type 0 where
  accepted : Entries → ParseState → Move
  finished : Entries → Move
  rejected : Fault → ℕ → Move

-- a block's keyword, or the end
abbrev pub block_keyword : Entries → Lexeme → ℕ → Move
block_keyword es (identifier w) at =
    option_map_or (λ b. accepted es (after_block_keyword b)) (value_of_keyword w blocks) (rejected SyntaxError at)
block_keyword es the_end at = finished es
block_keyword es _ at = rejected SyntaxError at

-- `{`
abbrev pub block_brace : Entries → Block → Lexeme → ℕ → Move
block_brace es b brace at = accepted es (between_entries b)
block_brace es b _ at = rejected SyntaxError at

-- the name of an entry, which must be new in its kind of block, or `}`
abbrev pub entry_name : Entries → Block → Lexeme → ℕ → Move
entry_name es b (identifier w) at =
    if has_name w b es then rejected NameTwice at else accepted es (after_name b (new_entry w at))
entry_name es b end_brace at = accepted es between_blocks
entry_name es b _ at = rejected SyntaxError at

-- `:`
abbrev pub entry_colon : Entries → Block → ConfigEntry → Lexeme → ℕ → Move
entry_colon es b e colon at = accepted es (between_attributes b e)
entry_colon es b e _ at = rejected SyntaxError at

-- the name of an attribute that the block has and that isn't given yet
abbrev pub known_attribute : Entries → Block → ConfigEntry → Option (List ℕ × ValueKind) → ℕ → Move
known_attribute es b e (Some row) at =
    if has_attribute row.0 e then rejected AttributeTwice at else accepted es (after_keyword b e row)
known_attribute es b e None at = rejected UnknownAttribute at

-- the end of an entry
abbrev pub entry_end : Entries → Block → ConfigEntry → Option Fault → ℕ → Move
entry_end es b e (Some fault) at = rejected fault at
entry_end es b e None at = accepted (with_entry b e es) (between_entries b)

-- an attribute, or `;`
abbrev pub attribute_or_end : Entries → Block → ConfigEntry → Lexeme → ℕ → Move
attribute_or_end es b e (identifier w) at = known_attribute es b e (find_keyword w (attributes b)) at
attribute_or_end es b e semicolon at = entry_end es b e (entry_fault b e) at
attribute_or_end es b e _ at = rejected SyntaxError at

-- an attribute is given
abbrev pub attribute_move : Entries → Block → ConfigEntry → List ℕ → ℕ → Result Value Fault → Move
attribute_move es b e a at (Ok v) =
    accepted es (after_value b (with_attribute (record { identifier = a; value = v; parsed_terms = [] }) e))
attribute_move es b e a at (Err fault) = rejected fault at

-- one more term of a sum
abbrev pub add_term : Entries → Block → ConfigEntry → List ℕ → List ParsedTerm → ℕ → Result ParsedTerm Fault → Move
add_term es b e a ps at (Ok p) = accepted es (after_term b e a (ps ++ p ∷ []))
add_term es b e a ps at (Err fault) = rejected fault at

-- the value of an attribute, or the first term of its sum
abbrev pub attribute_value : Entries → Block → ConfigEntry → List ℕ → ValueKind → Lexeme → ℕ → Move
attribute_value es b e a a_sum l at = add_term es b e a [] at (parsed_term false at l)
attribute_value es b e a value_kind l at = attribute_move es b e a at (value_of value_kind l)

-- likewise, or `=`
abbrev pub equals_or_value : Entries → Block → ConfigEntry → List ℕ × ValueKind → Lexeme → ℕ → Move
equals_or_value es b e row equals at = accepted es (before_value b e row)
equals_or_value es b e row l at = attribute_value es b e row.0 row.1 l at

-- `,`, or a token that may come between attributes
abbrev pub comma_or_next : Entries → Block → ConfigEntry → Lexeme → ℕ → Move
comma_or_next es b e comma at = accepted es (between_attributes b e)
comma_or_next es b e l at = attribute_or_end es b e l at

-- a sum ends: if it has no value, the error is at its last term
abbrev pub sum_end : Entries → Block → ConfigEntry → List ℕ → List ParsedTerm → Option Value → Lexeme → ℕ → Move
sum_end es b e a ps (Some v) l at =
    comma_or_next es b (with_attribute (record { identifier = a; value = v; parsed_terms = ps }) e) l at
sum_end es b e a ps None l at = rejected OutOfRange (last_term_offset ps)

-- `+`, `-`, or the end of the sum
abbrev pub sign_or_end : Entries → Block → ConfigEntry → List ℕ → List ParsedTerm → Lexeme → ℕ → Move
sign_or_end es b e a ps plus at = accepted es (before_term b e a ps false)
sign_or_end es b e a ps minus at = accepted es (before_term b e a ps true)
sign_or_end es b e a ps l at = sum_end es b e a ps (sum_of_terms ps) l at

-- the effect of a token in a state
abbrev pub token_move : Entries → ParseState → Lexeme → ℕ → Move
token_move es between_blocks l at = block_keyword es l at
token_move es (after_block_keyword b) l at = block_brace es b l at
token_move es (between_entries b) l at = entry_name es b l at
token_move es (after_name b e) l at = entry_colon es b e l at
token_move es (between_attributes b e) l at = attribute_or_end es b e l at
token_move es (after_keyword b e row) l at = equals_or_value es b e row l at
token_move es (before_value b e row) l at = attribute_value es b e row.0 row.1 l at
token_move es (before_term b e a ps subtracted) l at = add_term es b e a ps at (parsed_term subtracted at l)
token_move es (after_term b e a ps) l at = sign_or_end es b e a ps l at
token_move es (after_value b e) l at = comma_or_next es b e l at

-- ---- The first error.

-- the effect of the token at an offset of the text
abbrev pub move_at_offset : List ℕ → Entries → ParseState → ℕ → Move
move_at_offset bytes es p at = token_move es p (token bytes at).lexeme (token bytes at).at

-- All tokens from this offset on are allowed up to one, which is an error.
pub data SyntaxErrorAt (bytes : List ℕ) : Entries → ParseState → ℕ → FaultAt → Type 0 where
  later : (es fs : Entries) (p q : ParseState) (at : ℕ) (f : FaultAt) → move_at_offset bytes es p at ≡ accepted fs q → SyntaxErrorAt bytes fs q (token bytes at).following f → SyntaxErrorAt bytes es p at f
  here : (es : Entries) (p : ParseState) (at : ℕ) (fault : Fault) (offset : ℕ) → move_at_offset bytes es p at ≡ rejected fault offset → SyntaxErrorAt bytes es p at (fault_at fault offset)
