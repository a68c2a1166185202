-- A library is not a script.
use Rattle.std.proofs.Common.{◌≡◌, ◌∙◌, ◌⊎◌, inl, inr, ℕ, Bool, true, false, List, [], ◌∷◌, take, Option, Some, None, Result, Ok, Err, refl, sym, ap, subst}
use Rattle.std.specs.List.{take_while}
use Rattle.std.specs.Option.{option_map_or}
use Rattle.std.proofs.lemmas.Slice.Eq.{bytes_eq-Decides}
use Rattle.base65.specs.Outcome.{◌>>=◌}
use Rattle.base65.specs.Store.{Files}
use Rattle.script65.specs.declared.fault.FaultAt.{FaultAt}
use Rattle.script65.specs.declared.script.Script.{Script}
use Rattle.script65.specs.declared.reading.keyword_tables.Block.{Block}
use Rattle.script65.specs.declared.reading.entries.Entries.{Entries}
use Rattle.script65.specs.declared.reading.tokens.Lexeme.TheVariants.{Identifier as word, End as the_end}
use Rattle.script65.specs.Attributes.{blocks, value_of_keyword}
use Rattle.script65.specs.Entries.{no_entries}
use Rattle.script65.specs.Grammar.{AreBlocks, IsBlock, MatchesGrammar, block, no_block}
use Rattle.script65.specs.Scripts.{HasEntries, IsScript, UnlessTooLong, is_too_long, script_from, with_line}
use Rattle.script65.specs.Tokens.{is_identifier_byte, token}
use Rattle.ld65.specs.Linkage.{is_library, is_library_in, library_magic}
use Rattle.ld65.specs.Naming.{IsScriptIn}

-- the first token of a text that begins with `R`
opening : (rest : List ℕ) → (token (82 ∷ rest) 0).lexeme ≡ word (82 ∷ take_while is_identifier_byte rest)
unfolding token
opening rest = refl

no_block_word : (written xs : List ℕ) (b : Block) → written ≡ 82 ∷ xs → value_of_keyword written blocks ≡ Some b → ⊥
no_block_word written xs b is known = let none : ◌≡◌ {A = Option Block} None (Some b) = subst (λ (w : List ℕ). value_of_keyword w blocks ≡ Some b) is known in absurd cc

first_block : (bytes : List ℕ) (es fs : Entries) (at end : ℕ) → AreBlocks bytes es fs at end → (at ≡ end) ⊎ ((gs : Entries) × (mid : ℕ) × IsBlock bytes es gs at mid)
first_block bytes _ _ _ _ (no_block es at) = inl refl
first_block bytes _ _ _ _ (block es fs gs at mid next b rest) = inr (fs, mid, b)

not_written : (rest : List ℕ) (es : Entries) → MatchesGrammar (82 ∷ rest) es → ⊥
not_written rest es w = go (first_block (82 ∷ rest) no_entries es 0 w.end w.blocks)
  where
    go : (0 ≡ w.end) ⊎ ((gs : Entries) × (mid : ℕ) × IsBlock (82 ∷ rest) no_entries gs 0 mid) → ⊥
    go (inl here) =
        let ended : (token (82 ∷ rest) 0).lexeme ≡ the_end = subst (λ (n : ℕ). (token (82 ∷ rest) n).lexeme ≡ the_end) (sym here) w.ends in
        let both : word (82 ∷ take_while is_identifier_byte rest) ≡ the_end = sym (opening rest) ∙ ended in absurd cc
    go (inr b) =
        let begins = b.2 in
        let both : word (82 ∷ take_while is_identifier_byte rest) ≡ word begins.written = sym (opening rest) ∙ begins.stands.lexeme in
        let same : begins.written ≡ 82 ∷ take_while is_identifier_byte rest = cc in
        no_block_word begins.written (take_while is_identifier_byte rest) begins.block same begins.known

no_script : (rest : List ℕ) (s : Script) → IsScript (82 ∷ rest) (Ok s) → ⊥
no_script rest s is = go is.0 is.1 is.2
  where
    entries : (es : Entries) (b : Bool) → UnlessTooLong b (Ok es) (MatchesGrammar (82 ∷ rest) es) → ⊥
    entries es true h = absurd cc
    entries es false h = not_written rest es h

    go : (q : Result Entries FaultAt) → HasEntries (82 ∷ rest) q → Ok s ≡ with_line (82 ∷ rest) (q >>= script_from) → ⊥
    go (Ok es) has same = entries es (is_too_long (82 ∷ rest)) has
    go (Err f) has same = absurd cc

-- a text that begins with the magic bytes of a library begins with `R`
marked : (text : List ℕ) → take 4 text ≡ library_magic → (rest : List ℕ) × (text ≡ 82 ∷ rest)
marked [] e = absurd cc
marked (b ∷ bs) e = let first : b ≡ 82 = cc e in (bs, ap (λ (x : ℕ). x ∷ bs) first)

pub script_is_no_library : (m : Files) (name : List ℕ) (s : Script) → IsScriptIn m name s → is_library_in m name ≡ true → ⊥
script_is_no_library m name s is marks =
    let text = is.0 in
    let library : is_library text ≡ true = subst (λ (f : Option (List ℕ)). option_map_or is_library f false ≡ true) is.1 marks in
    let begins = marked text ((bytes_eq-Decides (take 4 text) library_magic).0 library) in
    no_script begins.0 s (subst (λ (t : List ℕ). IsScript t (Ok s)) begins.1 is.2)
