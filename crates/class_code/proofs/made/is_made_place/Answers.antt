use Rattle.std.proofs.Common.{rules, false, sym, ◌≤◌, arith}
use Rattle.std.proofs.lemmas.List.{get_or_past}
use Rattle.class_code.specs.Made.{made_places}
use Rattle.class_code.proofs.Instances.{made_count}
use Rattle.class_code.proofs.made.is_made_place.Goals as goal

pub returns-in-None : goal.returns-in-None
returns-in-None c =
    let long : 28 ≤ c.args.place = search rules in
    sym (get_or_past made_places c.args.place false (omega (arith, made_count, long)))
