use Rattle.std.proofs.Common.{◌<◌, length, get_or, ◌∙◌, arith}
use Rattle.built_in_table.specs.Rows.{row_members}
use Rattle.class_code.specs.BuiltIns.{are_spelled}
use Rattle.class_code.proofs.Spelled.{no_row, row_all, row_few, rows_at, rows_ended, test_at, tests_behind}
use Rattle.class_code.proofs.native_methods.add_built_ins.Goals as goal

pub add_built_in-requires-clause-few : goal.add_built_in-requires-clause-few
add_built_in-requires-clause-few g c =
    row_few (get_or c.args.rows.now c.loop-place.place no_row) (test_at are_spelled row_members c.args.rows.now c.loop-place.place no_row (omega arith) c.loop-place.invariant.spelled)

pub add_built_in-requires-clause-spelled : goal.add_built_in-requires-clause-spelled
add_built_in-requires-clause-spelled g c =
    row_all (get_or c.args.rows.now c.loop-place.place no_row) (test_at are_spelled row_members c.args.rows.now c.loop-place.place no_row (omega arith) c.loop-place.invariant.spelled)

pub loop-place-preserved : goal.loop-place-preserved
loop-place-preserved g c =
    let natives = g.N.NativeMethods.native_at c.args.natives.now in
    let rows = c.args.rows.now in
    let i = c.loop-place.place in
    let within : i < length rows = omega arith in
    record {
      methods = rows_at natives c.args.first rows i no_row c.loop-place.methods.items c.add_built_in.new.methods.items within
          c.in_ok-add_built_in.ensures
          ∙ c.loop-place.invariant.methods;
      spelled = tests_behind are_spelled row_members rows i no_row within c.loop-place.invariant.spelled;
    }

pub returns : goal.returns
returns g c =
    rows_ended (g.N.NativeMethods.native_at c.args.natives.now) c.args.first c.loop-place.place c.args.rows.now
    c.loop-place.methods.items _ (omega arith) c.loop-place.invariant.methods
