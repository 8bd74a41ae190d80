use Rattle.std.proofs.Common.{◌<◌, [], length, ◌∙◌, arith}
use Rattle.std.proofs.lemmas.List.{get_or_read}
use Rattle.image_walk.proofs.Names.{root_pushed}
use Rattle.image_walk.proofs.finding.name_values.Goals as goal

pub loop-i-preserved : goal.loop-i-preserved
loop-i-preserved c =
    let names = c.args.names.now in
    let i = c.loop-i.i in
    let below : i < length names = omega arith in
    root_pushed names c.args.values.now i c.loop-i.roots.items c.push.new.self.items
    (record { name = c.in_ok-copy.field-0; value = c.value_at.result }) c.loop-i.invariant c.in_ok-push.ensures.items
    (c.in_ok-copy.ensures.same ∙ c.as_slice.ensures.same ∙ get_or_read names i c.index-names-i.result below c.index-names-i.is [])
    c.value_at.ensures
