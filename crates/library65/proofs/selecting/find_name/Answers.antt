use Rattle.std.proofs.Common.{◌≡◌, arith, get_or, map, false, Some, sym, rules}
use Rattle.object65.specs.Objects.{is_among}
use Rattle.library65.specs.Selection.{first_exporter}
use Rattle.library65.proofs.Selections.{finds_new, mark_sound}
use Rattle.library65.proofs.selecting.find_name.Goals as goal

pub returns-in_ok-push-in-Some : goal.returns-in_ok-push-in-Some
returns-in_ok-push-in-Some c =
    let es = c.args.exporters.now.entries.now in
    let defined = map (λ n. n.items) c.args.defined.now.keys in
    let first : first_exporter es c.args.name.now ≡ Some c.in-Some.index = sym c.in-Some.ensures.place in
    let free : is_among defined c.args.name.now ≡ false = search rules in
    let clear : get_or c.args.found.now.marks.items c.in-Some.index false ≡ false = search rules in
    record {
      found = finds_new es defined c.args.name.now c.in-Some.index c.args.found.now.indices.items _ first free c.in_ok-push-in-Some.ensures.items;
      stands = record { table = c.requires.table; sound = mark_sound c.args.found.now c.in-Some.index c.push.new.self c.requires.sound clear (omega (arith, c.in-Some.ensures.within, c.requires.marks)) c.in_ok-push-in-Some.ensures.items; marks = search rules };
    }
