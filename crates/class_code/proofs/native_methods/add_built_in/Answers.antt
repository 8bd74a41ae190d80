use Rattle.std.proofs.Common.{◌<◌, [], ◌∷◌, ◌++◌, length, get_or, ap, ◌∙◌, arith}
use Rattle.built_in_table.specs.Rows.{member_facts}
use Rattle.class_code.specs.BuiltIns.{built_in_with, is_spelled}
use Rattle.class_code.proofs.Spelled.{members_at, members_ended, no_member, test_at, tests_behind}
use Rattle.class_code.proofs.native_methods.add_built_in.Goals as goal

pub built_in_method-requires : goal.built_in_method-requires
built_in_method-requires g c =
    test_at is_spelled member_facts c.args.members.now c.loop-number.number no_member (omega arith) c.loop-number.invariant.spelled

pub loop-number-preserved : goal.loop-number-preserved
loop-number-preserved g c =
    let natives = g.N.NativeMethods.native_at c.args.natives.now in
    let ms = c.args.members.now in
    let i = c.loop-number.number in
    let old = c.loop-number.methods.items in
    let within : i < length ms = omega arith in
    record {
      methods = members_at natives c.args.class c.args.place ms i no_member old c.push.new.self.items within
          (c.in_ok-push.ensures.items ∙ ap (λ x. old ++ x ∷ []) c.in_ok-built_in_method.ensures
          ∙ ap (λ native. old ++ built_in_with native c.args.class i (member_facts (get_or ms i no_member)) ∷ []) c.native-native.ensures)
          ∙ c.loop-number.invariant.methods;
      spelled = tests_behind is_spelled member_facts ms i no_member within c.loop-number.invariant.spelled;
    }

pub returns : goal.returns
returns g c =
    members_ended (g.N.NativeMethods.native_at c.args.natives.now) c.args.class c.args.place c.loop-number.number c.args.members.now
    c.loop-number.methods.items _ (omega arith) c.loop-number.invariant.methods
