use Rattle.std.proofs.Common.{◌≡◌, ◌+◌, arith, subst, sym, true}
use Rattle.std.proofs.lemmas.List.{take_rest}
use Rattle.syntax65.specs.Forms.{IsLongest, BeginsWithClass}
use Rattle.syntax65.specs.declared.lexing.positions.Class.TheVariants.{Letter}
use Rattle.syntax65.proofs.FirstToken.{name_here, no_name_here, name_size, name_value}
use Rattle.syntax65.proofs.lexing.positions.name_at.Goals as goal

pub returns-then-not-begins_name : goal.returns-then-not-begins_name
returns-then-not-begins_name c = λ first.
    let tail = take_rest c.args.here.now 1 in
    no_name_here first c.args.kind c.args.here.now c.requires (λ b. let yes : c.begins_name.result ≡ true = c.begins_name.ensures.1 (subst (BeginsWithClass Letter) (sym tail) b) in cc)

pub returns-then-len-le-MAX_NAME : goal.returns-then-len-le-MAX_NAME
returns-then-len-le-MAX_NAME c = λ first.
    let tail = take_rest c.args.here.now 1 in
    let longest : IsLongest first c.args.kind (1 + c.identifier_len-len.result) c.args.here.now = name_here first c.args.kind c.args.here.now c.identifier_len-len.result c.requires (rw tail at (c.begins_name.ensures.0 c.if-not-begins_name.false)) (rw tail at c.identifier_len-len.ensures.count) in
    let size = name_size first c.args.kind c.identifier_len-len.result c.args.here.now c.requires longest in
    record { longest = longest; short = omega arith; value = name_value c.args.kind c.args.here.now _ c.requires }

pub returns-else-len-le-MAX_NAME : goal.returns-else-len-le-MAX_NAME
returns-else-len-le-MAX_NAME c = λ first.
    let tail = take_rest c.args.here.now 1 in
    let longest : IsLongest first c.args.kind (1 + c.identifier_len-len.result) c.args.here.now = name_here first c.args.kind c.args.here.now c.identifier_len-len.result c.requires (rw tail at (c.begins_name.ensures.0 c.if-not-begins_name.false)) (rw tail at c.identifier_len-len.ensures.count) in
    let size = name_size first c.args.kind c.identifier_len-len.result c.args.here.now c.requires longest in
    (c.args.kind, 1 + c.identifier_len-len.result, longest, omega arith)
