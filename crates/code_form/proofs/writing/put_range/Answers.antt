use Rattle.code_form.proofs.Appending.{range_put}
use Rattle.code_form.proofs.writing.put_range.Goals as goal

pub returns : goal.returns
returns c =
    range_put c.put_i32-2.result c.args.out.now.items c.put_i32.new.out.items c.put_i32-2.new.out.items
    c.args.low c.args.high c.ranges.low c.ranges.high c.in_ok-put_i32.ensures c.put_i32-2.ensures
