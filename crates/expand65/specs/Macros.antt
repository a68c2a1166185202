-- Macros and repeats: headers, bodies, calls and names; and the search for included files.
use Rattle.std.specs.Prelude.{ℕ, ◌+◌, ◌-◌, ◌==◌, ◌&&◌, Bool, false, List, [], ◌∷◌, length, take, drop, map, if◌then◌else◌, ◌≡◌, nat_le, true, ◌++◌, Option, Some, None, Result, Ok, Err, ℤ, pos, negsuc, slice_get}
use Rattle.syntax65.specs.Tokens.{Lexeme}
use Rattle.expand65.specs.LineStart.{is_comma, opens_brace, closes_brace, name_in, names_of, ◌>=>◌, ok_or_not_understood, not_understood}
use Rattle.std.specs.List.{list_any}
use Rattle.std.specs.Map.{lookup}
use Rattle.std.specs.Str.{bytes_eq}
use Rattle.syntax65.specs.declared.lexing.tokens.TokenKind.TheVariants as token
use Rattle.expand65.specs.declared.blocks.BlockKind.TheVariants as kind
use Rattle.std.specs.Option.{option_map_or}
use Rattle.expand65.specs.Lines.{file_limit, bytes_of, Definition, Substitution, number_token, repeat_substitution, Item, body_line, InputEnd, remaining_input, innermost, with_local_names, after_innermost_macro, with_lines, iterations}
use Rattle.expand65.specs.State.{State, plain, ExpansionStep, finishes, parses, reads_block, StepResult, continues, yields, raises, and_then_step, and_then_result, with_conditions, with_remaining, with_items, EnvironmentView}
use Rattle.expand65.specs.Types.{TooManyArguments, MacroTwice, NotOpened, NotUnderstood, NotConstant, CountOutOfRange, FileTooLong, SourceLocation, ExprFault, ExpandFault}
use Rattle.base65.specs.Outcome.{◌>>=◌, Unless}
use Rattle.syntax65.specs.Trees.{Tree}
use Rattle.base65.specs.Store.{Files}
use Rattle.syntax65.specs.Faults.{is_system_error}

-- ---- The arguments of a macro call.

-- the number of open braces after a token; a closing brace without an open one is an ordinary token
abbrev pub braces_after : ℕ → Lexeme → ℕ
braces_after d t = if opens_brace t then d + 1 else if closes_brace t then d - 1 else d

-- a token added to the start of the first part
abbrev pub prepend_to_first : Lexeme → List (List Lexeme) → List (List Lexeme)
prepend_to_first t [] = (t ∷ []) ∷ []
prepend_to_first t (part ∷ parts) = (t ∷ part) ∷ parts

-- the parts between commas outside braces, with this many braces open
abbrev pub arguments_within : ℕ → List Lexeme → List (List Lexeme)
arguments_within d [] = [] ∷ []
arguments_within d (t ∷ ts) =
    if is_comma t && (d == 0)
    then [] ∷ arguments_within 0 ts
    else prepend_to_first t (arguments_within (braces_after d t) ts)

-- whether the last token closes the brace opened before these tokens, with this many others open inside it
abbrev pub closes_last : ℕ → List Lexeme → Bool
closes_last d [] = false
closes_last d (t ∷ ts) =
    if closes_brace t && (d == 0)
    then length ts == 0
    else closes_last (braces_after d t) ts

-- whether one pair of braces encloses all tokens
abbrev pub is_braced : List Lexeme → Bool
is_braced [] = false
is_braced (t ∷ ts) = opens_brace t && closes_last 0 ts

-- an argument without the pair of braces around it
abbrev pub without_braces : List Lexeme → List Lexeme
without_braces ts = if is_braced ts then take (length ts - 2) (drop 1 ts) else ts

-- the arguments in the tokens after a macro's name; there are none without tokens
abbrev pub arguments_of : List Lexeme → List (List Lexeme)
arguments_of [] = []
arguments_of ts = map without_braces (arguments_within 0 ts)

-- ---- Inputs pushed onto the remaining input.

-- the end mark of an input that begins here
abbrev pub new_end_mark : State → Bool → Option SourceLocation → InputEnd
new_end_mark s is_macro return_location = record { is_macro = is_macro; conditions = length s.conditions; return_location = return_location }

-- pushes lines and their end mark and moves to a location, unless inputs are nested too deeply
abbrev pub with_input : State → List Item → InputEnd → SourceLocation → StepResult
with_input s is k p = and_then_result (with_lines is k s.left) (λ l. continues (with_remaining s (remaining_input l.items l.room p)))

-- ---- Definitions.

abbrev pub are_distinct : List (List ℕ) → Bool
are_distinct [] = true
are_distinct (name ∷ names) = if list_any (bytes_eq name) names then false else are_distinct names

-- the names, if they are distinct
abbrev pub distinct_of : List (List ℕ) → Option (List (List ℕ))
distinct_of names = if are_distinct names then Some names else None

-- no parameters, or distinct names separated by commas
abbrev pub params_of : List Lexeme → Option (List (List ℕ))
params_of [] = Some []
params_of ts = names_of ts >=> distinct_of

-- the name and parameters of a macro
abbrev pub header_of : List Lexeme → Option (List ℕ × List (List ℕ))
header_of [] = None
header_of (t ∷ ts) = name_in t >=> (λ name. params_of ts >=> (λ params. Some (name, params)))

-- the macro with this name
abbrev pub macro_of : List (List ℕ × Definition) → List ℕ → Option Definition
macro_of ms name = lookup (bytes_eq name) ms

-- adds a macro with the lines of its body, unless its name is defined
abbrev pub definition_step : State → List ℕ → List (List ℕ) → Option Definition → ExpansionStep
definition_step s name params (Some m) = finishes (raises (MacroTwice, s.left.place))
definition_step s name params None = reads_block kind.Macro s.left (λ b l. continues (record {
  left = l;
  macros = s.macros ++ (name, record { params = params; body = b.0 }) ∷ [];
  conditions = s.conditions;
  expansions = s.expansions;
  folders = s.folders;
}))

-- `.macro` and the rest of its line
abbrev pub macro_line : State → List Lexeme → ExpansionStep
macro_line s ts = and_then_step s (ok_or_not_understood (header_of ts)) (λ h. definition_step s h.0 h.1 (macro_of s.macros h.0))

-- ---- Calls.

-- the initial replacements of a macro call
abbrev pub call_substitution : Definition → List (List Lexeme) → ℕ → Substitution
call_substitution m arguments number = record { params = m.params; arguments = arguments; count = Some (number_token (length arguments) ∷ []); locals = []; number = number }

-- counts a macro call
abbrev pub with_one_more_call : State → State
with_one_more_call s = record { left = s.left; macros = s.macros; conditions = s.conditions; expansions = s.expansions + 1; folders = s.folders }

abbrev pub call_result : State → Definition → List (List Lexeme) → StepResult
call_result s m arguments =
    if nat_le (length arguments) (length m.params)
    then with_input (with_one_more_call s) (map (body_line (call_substitution m arguments (s.expansions + 1))) m.body) (new_end_mark s true None) s.left.place
    else raises (TooManyArguments, s.left.place)

-- the macro that a token names
abbrev pub macro_at : List (List ℕ × Definition) → Lexeme → Option Definition
macro_at ms (token.Identifier, text) = macro_of ms text
macro_at ms _ = None

-- a call of this macro, or a statement if there is none
abbrev pub call_or_statement : State → Lexeme → List Lexeme → Option Definition → StepResult
call_or_statement s t ts None = yields (plain (t ∷ ts)) s
call_or_statement s t ts (Some m) = call_result s m (arguments_of ts)

-- a line without preprocessor directive: empty, a macro call or a statement
abbrev pub plain_line_result : State → List Lexeme → StepResult
plain_line_result s [] = continues s
plain_line_result s (t ∷ ts) = call_or_statement s t ts (macro_at s.macros t)

-- ---- Local names of macro calls.

-- `?` marks replacements of local names
abbrev pub is_generated_name : List ℕ → Bool
is_generated_name name = list_any (λ b. b == 63) name

-- the names, if none is the replacement of a local name
abbrev pub unless_generated : List (List ℕ) → Option (List (List ℕ))
unless_generated names = if list_any is_generated_name names then None else Some names

abbrev pub new_names : List Lexeme → Option (List (List ℕ))
new_names ts = names_of ts >=> unless_generated

abbrev pub local_result : State → Option (List (List ℕ)) → StepResult
local_result s None = raises (NotUnderstood, s.left.place)
local_result s (Some names) = continues (with_items s (with_local_names names s.left.items))

-- `.local` is allowed directly in the body of a macro only
abbrev pub local_line : State → List Lexeme → StepResult
local_line s ts =
    if option_map_or (λ k. k.is_macro) (innermost s.left.items) false
    then local_result s (new_names ts)
    else raises (NotUnderstood, s.left.place)

-- ---- Leaving a macro call.

-- the n outermost conditions
abbrev pub outermost : ℕ → List Bool → List Bool
outermost n conditions = drop (length conditions - n) conditions

abbrev pub exit_result : State → Option (ℕ × List Item × SourceLocation) → StepResult
exit_result s None = raises (NotOpened, s.left.place)
exit_result s (Some (n, is, p)) = continues (with_conditions s (outermost n s.conditions) (remaining_input is s.left.room p))

abbrev pub exit_macro : State → StepResult
exit_macro s = exit_result s (after_innermost_macro s.left.items s.left.place)

-- ---- Repeats.

-- the maximum number of iterations of a repeat
abbrev pub iteration_limit : ℕ
iteration_limit = 65536

-- nothing, or a comma and a name
abbrev pub variable_of : List Lexeme → Option (List (List ℕ))
variable_of [] = Some []
variable_of (c ∷ t ∷ []) = if is_comma c then name_in t >=> (λ name. Some (name ∷ [])) else None
variable_of _ = None

-- the expression of a count and the optional variable
abbrev pub repeat_header : List Lexeme → Result (Tree × ℕ) ExprFault → Result (Tree × List (List ℕ)) ExpandFault
repeat_header ts (Err fault) = not_understood
repeat_header ts (Ok (e, n)) = ok_or_not_understood (variable_of (drop n ts)) >>= (λ v. Ok (e, v))

abbrev pub iterations_of : Option ℤ → Result ℕ ExpandFault
iterations_of None = Err NotConstant
iterations_of (Some (pos n)) = if nat_le n iteration_limit then Ok n else Err CountOutOfRange
iterations_of (Some (negsuc n)) = Err CountOutOfRange

-- the number of iterations and the optional variable
abbrev pub repeat_of : EnvironmentView → List Lexeme → Result (Tree × ℕ) ExprFault → Result (ℕ × List (List ℕ)) ExpandFault
repeat_of k ts q = repeat_header ts q >>= (λ h. iterations_of (k.value h.0) >>= (λ n. Ok (n, h.1)))

-- repeats the lines that follow
abbrev pub iterations_step : State → ℕ → List (List ℕ) → ExpansionStep
iterations_step s n variable = reads_block kind.Repeat s.left (λ b l.
    with_input (with_remaining s l) (iterations (repeat_substitution variable) b.0 0 n) (new_end_mark s false None) l.place)

-- `.repeat` and the rest of its line
abbrev pub repeat_line : EnvironmentView → State → List Lexeme → ExpansionStep
repeat_line k s ts = parses ts (λ q. and_then_step s (repeat_of k ts q) (λ h. iterations_step s h.0 h.1))

-- ---- The token at an index, and the end of the first argument.

-- the name at an index
abbrev pub name_at : List Lexeme → ℕ → Option (List ℕ)
name_at ts at = slice_get ts at >=> name_in

-- whether the token at an index is a comma
abbrev pub is_comma_at : List Lexeme → ℕ → Bool
is_comma_at ts at = option_map_or is_comma (slice_get ts at) false

-- the number of tokens before the first comma outside braces, with this many braces open
abbrev pub argument_len : ℕ → List Lexeme → ℕ
argument_len d [] = 0
argument_len d (t ∷ ts) = if is_comma t && (d == 0) then 0 else 1 + argument_len (braces_after d t) ts

-- ---- Candidate names of included files, in order.

-- whether a file exists; too many bytes are an error
abbrev pub file_exists : Option (List ℕ) → Result Bool ExpandFault
file_exists None = Ok false
file_exists (Some bytes) = if nat_le (length bytes) file_limit then Ok true else Err FileTooLong

-- an existing file, by its name
abbrev pub file_of : Files → List ℕ → List ℕ × List ℕ
file_of m name = (name, bytes_of m name)

-- the result for the first candidate if it exists, otherwise that of the others
abbrev pub IsFirstFound : Files → Result (Option (List ℕ)) ExpandFault → Result (List ℕ × List ℕ) ExpandFault → Result (List ℕ × List ℕ) ExpandFault → Type 0
IsFirstFound m (Ok None) others r = r ≡ others
IsFirstFound m (Ok (Some name)) others r = r ≡ Ok (file_of m name)
IsFirstFound m (Err f) others r = Unless (is_system_error f) (r ≡ Err f)
