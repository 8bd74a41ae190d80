use Rattle.std.proofs.Common.{rules, ◌≡◌, false}
use Rattle.class_set.specs.ArrayTypes.{begins_with_bracket}
use Rattle.class_set.proofs.Needed.{no_bracket, none_added}
use Rattle.class_set.proofs.arrays.add_array.Goals as goal

pub returns-then-not-begins_with_bracket : goal.returns-then-not-begins_with_bracket
returns-then-not-begins_with_bracket c =
    let plain : begins_with_bracket c.args.text.now ≡ false = search rules in
    none_added c.args.arrays.now c.args.text.now (no_bracket c.args.text.now plain)
