use Rattle.std.proofs.Common.{◌≡◌, ◌<◌, ◌≤◌, length, ap, ◌∙◌, arith}
use Rattle.std.specs.Prelude.{slice_index_or}
use Rattle.natives.specs.declared.methods.TheConstants.{BUILT_IN}
use Rattle.natives.proofs.NativeTable.{natives_at, none_at}
use Rattle.natives.proofs.methods.native_of.Goals as goal

pub returns-in-Some : goal.returns-in-Some
returns-in-Some c =
    let inside : c.from.result < length BUILT_IN = c.in-Some.ensures.lookup.3.0 in
    let group : c.in-Some.group.now ≡ slice_index_or BUILT_IN c.from.result c.in-Some.group.now =
    c.in-Some.ensures.lookup.1 in
    c.native_of_group.ensures
    ∙ natives_at c.args.place c.args.method c.in-Some.group.now (omega (arith, inside))
    (group ∙ ap (λ i. slice_index_or BUILT_IN i c.in-Some.group.now) c.from.ensures)

pub returns-in-None : goal.returns-in-None
returns-in-None c =
    let past : length BUILT_IN ≤ c.from.result = c.in-None.ensures.lookup.3 in
    none_at c.args.place c.args.method (omega (arith, past))
