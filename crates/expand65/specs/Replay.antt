-- Lines as they are stored, replayed, skipped, or read in the buffer.
use Rattle.std.specs.Prelude.{◌≡◌, ℕ, List, [], ◌∷◌, take, drop, suc, true, false, Option, Some, None, Result, Ok, Err, map, Bool, ◌<◌, length, ◌+◌}
use Rattle.syntax65.specs.Tokens.{Lexeme, IsRead}
use Rattle.expand65.specs.declared.line.StoredToken.{StoredToken}
use Rattle.expand65.specs.Types.{StoredLine, ExpandFault, NotUnderstood, Body, Replay, OpenFile, LineSource, Peeked, InputStack}
use Rattle.base65.specs.Outcome.{Unless}
use Rattle.syntax65.specs.Faults.{is_system_error}
use Rattle.expand65.specs.LineStart.{is_mislabelled, label_len, first_directive, is_colon}
use Rattle.std.specs.Option.{option_map}
use Rattle.expand65.specs.Lines.{Substitution, Definition, Item, body_line, file_line, RemainingInput, is_within_line, without_return, ReadsNextLine}
use Rattle.expand65.specs.declared.macro_replay.Replacement.{Replacement}
use Rattle.expand65.specs.declared.macro_replay.Replacement.TheVariants.{Itself, Nothing, Tokens}
use Rattle.std.specs.List.{prefix_len}
use Rattle.expand65.specs.declared.input.LineSource.TheVariants as source

-- ---- Stored lines.

-- the token of a stored token, split off the start of the bytes, and the rest
abbrev pub text_of : StoredToken → List ℕ → Lexeme
text_of w bytes = (w.kind, take w.len (drop w.blanks bytes))

abbrev pub rest_after_token : StoredToken → List ℕ → List ℕ
rest_after_token w bytes = drop w.len (drop w.blanks bytes)

-- stored tokens, split off the bytes one by one
abbrev pub split_lexemes : List StoredToken → List ℕ → List Lexeme
split_lexemes [] bytes = []
split_lexemes (w ∷ ws) bytes = text_of w bytes ∷ split_lexemes ws (rest_after_token w bytes)

-- the tokens of a line
abbrev pub tokens_in : StoredLine → List Lexeme
tokens_in line = split_lexemes line.spans line.bytes

-- ---- A line split into its label and the rest.

-- the label and the rest of a line that has a label of n tokens
pub record IsLabelSplit (ts : List Lexeme) (n : ℕ) (pending following : StoredLine) : Type 0 where
  pub some : label_len ts ≡ suc n
  pub right : is_mislabelled ts ≡ false
  pub label : tokens_in pending ≡ take (suc n) ts
  pub rest : tokens_in following ≡ drop (suc n) ts

abbrev pub SplitsLabel : List Lexeme → Result (Option (StoredLine × StoredLine)) ExpandFault → Type 0
SplitsLabel ts (Ok None) = label_len ts ≡ 0
SplitsLabel ts (Ok (Some (label, rest))) = (n : ℕ) × IsLabelSplit ts n label rest
SplitsLabel ts (Err f) = Unless (is_system_error f) ((f ≡ NotUnderstood) × (is_mislabelled ts ≡ true))

-- ---- Stored and replayed bodies.

-- a macro, or the body of a repeat
abbrev pub definition_of : Body → Definition
definition_of b = record { params = map (λ k. k.items) b.params.keys; body = map tokens_in b.lines }

-- the replacements in the lines of a body
abbrev pub substitution_of : Replay → Substitution
substitution_of r = record {
  params = map (λ k. k.items) r.body.value.params.keys;
  arguments = map tokens_in r.arguments;
  count = option_map tokens_in r.count;
  locals = map (λ e. (e.0.items, tokens_in e.1)) r.locals.entries;
  number = r.number;
}

-- the lines that remain to be replayed
abbrev pub remaining_replay : Replay → List Item
remaining_replay r = map (body_line (substitution_of r)) (drop r.at (map tokens_in r.body.value.lines))

-- the replacement of a token
abbrev pub replacement_tokens : Replacement → Option (List Lexeme)
replacement_tokens Itself = None
replacement_tokens Nothing = Some []
replacement_tokens (Tokens line) = Some (tokens_in line.now)

-- ---- Lines without label and preprocessor directive.

-- whether a stored token exists and is a colon, whatever its text
abbrev pub IsColonIn : Option StoredToken → Bool → Type 0
IsColonIn None b = b ≡ false
IsColonIn (Some w) b = (text : List ℕ) → b ≡ is_colon (w.kind, text)

abbrev pub IsPlain : List Lexeme → Type 0
IsPlain ts = (label_len ts ≡ 0) × (first_directive ts ≡ None)

-- ---- Plain lines that are skipped.

-- the bytes of a line with valid tokens, without a label and a preprocessor directive
abbrev pub IsPlainLine : List ℕ → Type 0
IsPlainLine bytes = (ts : List Lexeme) × IsRead bytes (Ok ts) × IsPlain ts

-- reads such a line
abbrev pub SkipsPlainLine : RemainingInput → RemainingInput → Type 0
SkipsPlainLine l m = (ts : List Lexeme) × ReadsNextLine l (Ok (Some ts, m)) × IsPlain ts

-- reads such lines, one by one
pub data SkipsPlainLines : RemainingInput → RemainingInput → Type 0 where
  no_line : (l : RemainingInput) → SkipsPlainLines l l
  a_line : (l m n : RemainingInput) → SkipsPlainLines l m → SkipsPlainLine m n → SkipsPlainLines l n

-- ---- A line of a file that is read in the buffer.

-- the first line has these tokens and is n bytes long
abbrev pub IsFirstLine : List ℕ → ℕ → List Lexeme → Type 0
IsFirstLine bytes n ts = (n ≡ prefix_len is_within_line bytes) × (n < length bytes) × IsRead (without_return (take n bytes)) (Ok ts)

-- the same for the buffered bytes of a file, and the line has this number
abbrev pub IsFirstBufferedLine : OpenFile → Peeked → List Lexeme → Type 0
IsFirstBufferedLine f p ts = (n : ℕ) × IsFirstLine (drop f.at f.buffer.items) n ts × (p.following ≡ f.at + (n + 1)) × (p.number ≡ f.line + 1)

abbrev pub IsBufferedLine : LineSource → Peeked → List Lexeme → Type 0
IsBufferedLine (source.File f) p ts = IsFirstBufferedLine f p ts
IsBufferedLine _ p ts = ⊥

-- and the line budget allows it
abbrev pub IsNextLine : InputStack → Peeked → List Lexeme → Type 0
IsNextLine r p ts = IsBufferedLine r.top.source p ts × (0 < r.budget)

-- the first line has these tokens and this number
abbrev pub ReadsFileLine : List Item → ℕ → List Lexeme → List Item → Type 0
ReadsFileLine before n ts after = (bytes : List ℕ) × (before ≡ file_line n bytes ∷ after) × IsRead bytes (Ok ts)
