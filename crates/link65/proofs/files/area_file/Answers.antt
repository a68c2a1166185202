use Rattle.std.proofs.Common.{◌∙◌, List, ℕ, ap, sym, subst, rules, arith}
use Rattle.std.proofs.lemmas.Grind.{common_steps}
use Rattle.std.proofs.lemmas.Fn.{filter_same}
use Rattle.std.specs.Prelude.{filter}
use Rattle.link65.specs.Files.{IsImage}
use Rattle.link65.specs.Internal.Loads.{IsSinglePiece, has_bytes}
use Rattle.link65.specs.declared.files.RowImage.{RowImage}
use Rattle.link65.proofs.FileLemmas.{file_of, first_bytes, pieces_in, whole_image}
use Rattle.link65.proofs.files.area_file.Goals as goal

pub returns-then-is_single_piece : goal.returns-then-is_single_piece
returns-then-is_single_piece c =
    let f = c.args.filled in
    let items = c.retain.new.self.items in
    let dropped = filter_same _ has_bytes _ (λ x b f' k. search rules) _ _ c.retain.ensures.filtered in
    let are = dropped ∙ ap (filter has_bytes) c.into_vec-loads.ensures in
    let w : IsSinglePiece c.in-Ok.len (pieces_in f.placement.start items) = subst (λ (ls : List RowImage). IsSinglePiece c.in-Ok.len (pieces_in f.placement.start ls)) c.as_slice.ensures.value (c.is_single_piece.ensures c.if-is_single_piece.true) in
    file_of f.area.now f.placement f.loads items c.in-Ok.len c.replace.result are (c.in-Ok.ensures.1 ∙ c.file_len.ensures)
    (whole_image c.in-Ok.len f.area.now.fill_value (pieces_in f.placement.start items) c.replace.result w (c.replace.ensures.value ∙ first_bytes c.in-Ok.len f.placement.start items c.index_mut.result.now w c.index_mut.ensures.value))

pub returns : goal.returns
returns c =
    let f = c.args.filled in
    let dropped = filter_same _ has_bytes _ (λ x b f' k. search rules) _ _ c.retain.ensures.filtered in
    let are = c.as_slice-2.ensures.value ∙ dropped ∙ ap (filter has_bytes) c.into_vec-loads.ensures in
    file_of f.area.now f.placement f.loads c.as_slice-2.result.now c.in-Ok.len c.from_vec.result are (c.in-Ok.ensures.1 ∙ c.file_len.ensures)
    (subst (λ (xs : List ℕ). IsImage c.in-Ok.len f.area.now.fill_value (pieces_in f.placement.start c.as_slice-2.result.now) xs) (sym c.from_vec.ensures) (grind (arith, common_steps)))

pub index_mut-requires : goal.index_mut-requires
index_mut-requires c = grind (arith, common_steps)
