use Rattle.std.proofs.lemmas.Result.{on_ok_weaker}
use Rattle.class_file.proofs.Written.{parts_are_written}
use Rattle.class_file.proofs.writing.put_class.Goals as goal

pub returns : goal.returns
returns c =
    on_ok_weaker c.put_attributes.result
    (λ all. parts_are_written c.args.class.now c.args.out.now.items c.put_head.new.out.items c.put_pool.new.out.items
    c.put_u16.new.out.items c.put_u16-2.new.out.items c.put_u16-3.new.out.items c.put_interfaces.new.out.items
    c.put_fields.new.out.items c.put_methods.new.out.items c.put_attributes.new.out.items c.in_ok-put_head.ensures
    c.in_ok-put_pool.ensures c.in_ok-put_u16.ensures c.in_ok-put_u16-2.ensures c.in_ok-put_u16-3.ensures
    c.in_ok-put_interfaces.ensures c.in_ok-put_fields.ensures c.in_ok-put_methods.ensures all)
    c.put_attributes.ensures
