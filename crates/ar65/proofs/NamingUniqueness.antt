-- At most one message reports a call that failed while files were read.
use Rattle.std.proofs.Common.{◌∙◌, ℕ, List, [], ap, inl, inr, sym}
use Rattle.std.specs.Prelude.{codes}
use Rattle.std.proofs.lemmas.Option.{get_or_from_slice_get}
use Rattle.cli65.specs.Messages.{file_message}
use Rattle.ar65.specs.Laws.{ArchiveNamingIsUnique}
use Rattle.ar65.specs.Faults.{error_message}

pub one_naming : ArchiveNamingIsUnique
one_naming a c e (inl h) = ap (error_message a) h.0 ∙ ap (λ (n : List ℕ). file_message n (codes "file error")) (sym h.1)
one_naming a c e (inr h) =
    let f = h.1 in
    ap (error_message a) f.3 ∙ ap (λ (n : List ℕ). file_message n (codes "file error")) (get_or_from_slice_get a.files f.0 f.1 [] f.2 ∙ sym f.4)
