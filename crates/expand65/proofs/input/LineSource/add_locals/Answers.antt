use Rattle.std.proofs.Common.{◌≡◌, ◌++◌, ◌∷◌, OnOk, map, subst, sym}
use Rattle.std.proofs.lemmas.Result.{on_ok_weaker}
use Rattle.expand65.specs.Representation.{remaining_in}
use Rattle.expand65.specs.Lines.{with_local_names, end_mark}
use Rattle.expand65.specs.Replay.{remaining_replay}
use Rattle.expand65.specs.declared.input.LineSource.{LineSource}
use Rattle.expand65.proofs.Tables.{left_localised}
use Rattle.expand65.proofs.input.LineSource.add_locals.Goals as goal

pub returns-in-Call-clause-added : goal.returns-in-Call-clause-added
returns-in-Call-clause-added c = λ m k is. let P : LineSource → Type 0 = λ s. OnOk c.add_locals.result (remaining_replay c.add_locals.new.self ++ end_mark k ∷ is ≡ with_local_names (map (λ s. s.now) c.args.names.now) (remaining_in m s ++ end_mark k ∷ is)) in subst P (sym c.in-Call.is) (on_ok_weaker c.add_locals.result (λ h. left_localised m c.in-Call.replay c.add_locals.new.self (map (λ s. s.now) c.args.names.now) k is h c.add_locals.ensures.body c.add_locals.ensures.at) c.add_locals.ensures.added)
