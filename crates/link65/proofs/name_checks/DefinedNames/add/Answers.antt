use Rattle.std.proofs.Common.{◌≡◌, ◌∙◌, ◌∷◌, [], ◌++◌, Bool, true, false, List, ℕ, map, if◌then◌else◌, sym, ap}
use Rattle.link65.specs.Names.{is_among}
use Rattle.link65.specs.Representation.{names_in}
use Rattle.link65.proofs.DefinedNameLemmas.{fresh, refused_again, taken_new, there, among_keys, inserted}
use Rattle.link65.proofs.name_checks.DefinedNames.add.Goals as goal

pub returns-then-not-branch-clause-added : goal.returns-then-not-branch-clause-added
returns-then-not-branch-clause-added c =
    let names = names_in c.args.self.now in
    let keys = c.args.self.now.names.keys in
    let key = c.in_ok-key.key in
    let among : is_among names key.items ≡ true = sym (among_keys (λ n. n.items) keys key.items) ∙ there _ c.in_ok-insert.field-0 c.in_ok-insert.ensures.added c.if-not-branch.true in
    refused_again names c.args.name.now c.in_ok-copy_of.field-0 (sym (ap (is_among names) c.in_ok-key.ensures.items) ∙ among) c.in_ok-copy_of.ensures

pub returns-clause-added : goal.returns-clause-added
returns-clause-added c =
    let names = names_in c.args.self.now in
    let keys = c.args.self.now.names.keys in
    let key = c.in_ok-key.key in
    let new : is_among names key.items ≡ false = sym (among_keys (λ n. n.items) keys key.items) ∙ fresh _ c.in_ok-insert.field-0 c.in_ok-insert.ensures.added c.if-not-branch.false in
    let after =
    ap (map (λ n. n.items)) c.in_ok-insert.ensures.keys ∙ inserted (λ n. n.items) keys key
    ∙ ap (λ (b : Bool). if b then names else names ++ key.items ∷ []) new
    ∙ ap (λ (n : List ℕ). names ++ n ∷ []) c.in_ok-key.ensures.items in
    taken_new names (map (λ n. n.items) c.insert.new.self.keys) c.args.name.now (sym (ap (is_among names) c.in_ok-key.ensures.items) ∙ new) after
