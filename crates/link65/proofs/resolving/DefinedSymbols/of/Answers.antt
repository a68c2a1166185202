use Rattle.std.proofs.Common.{refl, ℕ, List, Some, None, Option, ◌≡◌, ap, ◌∙◌, Bor, ◌||◌}
use Rattle.std.specs.Map.{lookup}
use Rattle.std.specs.Str.{bytes_eq}
use Rattle.std.specs.Prelude.{unwrap_or, option_map, is_some}
use Rattle.std.specs.Option.{option_or}
use Rattle.link65.specs.declared.parts.ScriptSymbol.{ScriptSymbol}
use Rattle.link65.specs.declared.parts.ModuleExport.{ModuleExport}
use Rattle.link65.specs.declared.parts.Provider.{Provider}
use Rattle.link65.specs.declared.parts.Provider.TheVariants.{ByModule, Nobody}
use Rattle.link65.specs.Names.{script_provider_or, module_provider_or, index_of_definition, index_of_export}
use Rattle.link65.specs.Placed.{definition_at, provider_found}
use Rattle.link65.proofs.resolving.DefinedSymbols.of.Goals as goal

any_given : (script_symbols : List ScriptSymbol) (o x : Option ℕ) → is_some (option_or (option_map (definition_at script_symbols) o) (option_or (option_map ByModule x) None)) ≡ (is_some o || is_some x)
any_given script_symbols None None = refl
any_given script_symbols None (Some i) = refl
any_given script_symbols (Some i) x = refl

who_gives : (script_symbols weak : List ScriptSymbol) (o x w : Option ℕ) → unwrap_or (option_or (option_map (definition_at script_symbols) o) (option_or (option_map ByModule x) None)) (unwrap_or (option_or (option_map (definition_at weak) w) None) Nobody) ≡ script_provider_or script_symbols o (module_provider_or x (script_provider_or weak w Nobody))
who_gives script_symbols weak None None None = refl
who_gives script_symbols weak None None (Some i) = refl
who_gives script_symbols weak None (Some i) w = refl
who_gives script_symbols weak (Some i) x w = refl

pub returns-clause-names : goal.returns-clause-names
returns-clause-names c = record {
  defined = λ name. ap is_some (known name) ∙ any_given script_symbols (index_of_definition script_symbols name) (index_of_export exports name);
  provided = λ name. ap (λ o. unwrap_or o (unwrap_or (provider_found c.add_definitions-2.new.providers name) Nobody)) (known name) ∙ ap (λ o. unwrap_or (defined name) (unwrap_or o Nobody)) (weak_providers name) ∙ who_gives script_symbols weak (index_of_definition script_symbols name) (index_of_export exports name) (index_of_definition weak name);
}
  where
    script_symbols : List ScriptSymbol
    script_symbols = c.args.script_symbols.now

    exports : List ModuleExport
    exports = c.args.exports.now

    weak : List ScriptSymbol
    weak = c.args.weak.now

    defined : List ℕ → Option Provider
    defined name = option_or (option_map (definition_at script_symbols) (index_of_definition script_symbols name)) (option_or (option_map ByModule (index_of_export exports name)) None)

    known : (name : List ℕ) → provider_found c.add_definitions.new.providers name ≡ defined name
    known name =
        c.in_ok-add_definitions.ensures name
        ∙ ap (option_or (option_map (definition_at script_symbols) (index_of_definition script_symbols name))) (c.in_ok-add_exports.ensures name ∙ ap (option_or (option_map ByModule (index_of_export exports name))) (ap (lookup (λ (k : Bor (List ℕ)). bytes_eq name k.now)) c.with_hasher-defined.ensures.empty))

    weak_providers : (name : List ℕ) → provider_found c.add_definitions-2.new.providers name ≡ option_or (option_map (definition_at weak) (index_of_definition weak name)) None
    weak_providers name = c.in_ok-add_definitions-2.ensures name ∙ ap (option_or (option_map (definition_at weak) (index_of_definition weak name))) (ap (lookup (λ (k : Bor (List ℕ)). bytes_eq name k.now)) c.with_hasher-weak_providers.ensures.empty)
