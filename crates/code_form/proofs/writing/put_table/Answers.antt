use Rattle.std.proofs.Common.{◌∷◌, replicate}
use Rattle.std.specs.List.{flat_map}
use Rattle.std.specs.Int.{w32}
use Rattle.code_form.specs.Spelling.{signed, offset, padding}
use Rattle.code_form.proofs.Appending.{table_put}
use Rattle.code_form.proofs.writing.put_table.Goals as goal

pub returns : goal.returns
returns c =
    let pc = c.args.pc in
    table_put c.put_targets.result c.args.out.now.items c.put_switch.new.out.items c.put_range.new.out.items
    c.put_targets.new.out.items (170 ∷ replicate (padding pc) 0) (signed w32 (offset pc c.args.default))
    (flat_map (λ t. signed w32 (offset pc t)) c.args.targets.now) c.args.low c.args.high c.ranges.low
    c.ranges.high c.in_ok-put_switch.ensures c.in_ok-put_range.ensures c.put_targets.ensures
