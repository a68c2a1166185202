use Rattle.std.proofs.Common.{◌≡◌, ◌∙◌, ◌∷◌, ◌++◌, ◌<◌, [], List, ℕ, Some, slice_get, slice_set, ap, arith, length, get_or, map, sym}
use Rattle.std.proofs.lemmas.Grind.{common_steps}
use Rattle.base65.specs.declared.output.OutputFile.{OutputFile}
use Rattle.link65.specs.Files.{with_bytes}
use Rattle.link65.proofs.SegmentLemmas.{same_item}
use Rattle.link65.proofs.FileLemmas.{added_new, file_at, keys_stay, more_there, names_stay, no_file}
use Rattle.link65.proofs.files.OutputFiles.add.Goals as goal

pub returns-then-is_new-clause-files : goal.returns-then-is_new-clause-files
returns-then-is_new-clause-files c =
    c.in_ok-push.ensures.items
    ∙ ap (λ (n : List ℕ). c.args.self.now.outputs.items ++ record { name = n; bytes = c.args.bytes } ∷ []) c.in_ok-name.ensures
    ∙ added_new c.args.name.now c.args.bytes c.args.self.now.outputs.items (no_file c.args.name.now c.args.self.now.names.keys c.args.self.now.outputs.items c.in_ok-index.is_new c.requires c.if-is_new.true c.in_ok-index.ensures.added)

extended : (os : List OutputFile) (index : ℕ) (file : OutputFile) (bytes new : List ℕ) → index < length os → file ≡ get_or os index file → new ≡ file.bytes ++ bytes → (o : OutputFile) → slice_get os index ≡ Some o → slice_set os index (record { name = file.name; bytes = new }) ≡ slice_set os index (record { name = o.name; bytes = o.bytes ++ bytes })
extended os index file bytes new lt is more o there =
    ap (λ b. slice_set os index (record { name = file.name; bytes = b })) more
    ∙ ap (λ (x : OutputFile). slice_set os index (record { name = x.name; bytes = x.bytes ++ bytes })) (same_item os index file o lt is there)

pub returns-clause-files : goal.returns-clause-files
returns-clause-files c =
    let lt : c.in_ok-index.index < length c.args.self.now.outputs.items = grind (arith, common_steps) in
    more_there c.args.name.now c.as_slice.result.now c.args.self.now.outputs.items _ c.in_ok-index.index lt (file_at c.args.name.now c.args.self.now.names.keys c.args.self.now.outputs.items c.in_ok-index.index c.requires c.in_ok-index.ensures.index) (extended c.args.self.now.outputs.items c.in_ok-index.index c.index_mut.result.now c.as_slice.result.now c.extend_from_slice.new.self lt c.index_mut.ensures.value c.in_ok-extend_from_slice.ensures.ok)
    ∙ ap (λ b. with_bytes c.args.name.now b c.args.self.now.outputs.items) c.as_slice.ensures

pub returns-clause-named : goal.returns-clause-named
returns-clause-named c =
    let lt : c.in_ok-index.index < length c.args.self.now.outputs.items = grind (arith, common_steps) in
    let keys = keys_stay c.args.name.now c.args.self.now.names.keys c.insert_full.new.self.keys _ c.in_ok-index.is_new c.if-is_new.false c.in_ok-index.ensures.added c.in_ok-index.ensures.keys in
    ap (map (λ k. k.now)) keys ∙ c.requires ∙ sym (names_stay c.as_slice.result.now c.args.self.now.outputs.items _ c.in_ok-index.index lt (extended c.args.self.now.outputs.items c.in_ok-index.index c.index_mut.result.now c.as_slice.result.now c.extend_from_slice.new.self lt c.index_mut.ensures.value c.in_ok-extend_from_slice.ensures.ok))

pub returns-then-is_new-clause-named : goal.returns-then-is_new-clause-named
returns-then-is_new-clause-named c = grind (arith, common_steps)

pub index_mut-requires : goal.index_mut-requires
index_mut-requires c = grind (arith, common_steps)
