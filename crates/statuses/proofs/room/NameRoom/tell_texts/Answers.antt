use Rattle.std.proofs.Common.{◌∙◌}
use Rattle.std.specs.Prelude.{codes}
use Rattle.statuses.proofs.Shortened.{shortened_four}
use Rattle.statuses.proofs.room.NameRoom.tell_texts.Goals as goal

pub returns : goal.returns
returns c =
    c.from_vec.ensures.same
    ∙ shortened_four c.args.class.now (codes ".") c.args.name.now c.args.descriptor.now c.args.self.text.items
    c.put.new.out.items c.put-2.new.out.items c.put-3.new.out.items c.put-4.new.out.items
    c.args.self.empty c.put.ensures.put c.put-2.ensures.put c.put-3.ensures.put c.put-4.ensures.put
