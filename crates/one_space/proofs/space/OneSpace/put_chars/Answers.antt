use Rattle.std.proofs.Common.{sym, subst}
use Rattle.ap_base.specs.declared.reference.Item.{Item}
use Rattle.ap_base.specs.declared.reference.Ref.TheVariants.{Volatile}
use Rattle.shared_objects.specs.Shown.{IsOfSlot, item_value}
use Rattle.shared_objects.specs.Changes.{StoresSlot}
use Rattle.one_space.specs.Shows.{shown_of}
use Rattle.one_space.proofs.Making.{chars_more, chars_slot, chars_kind}
use Rattle.one_space.proofs.space.OneSpace.put_chars.Goals as goal

pub put-requires-clause-slot : goal.put-requires-clause-slot
put-requires-clause-slot c =
    chars_slot c.args.at c.loop-i.i c.args.chars.now c.args.self.now c.loop-i.self c.loop-i-test.true
    c.requires.slots c.loop-i.invariant

pub put-requires-clause-kind : goal.put-requires-clause-kind
put-requires-clause-kind c =
    subst (λ (item : Item). IsOfSlot (shown_of c.loop-i.self) (Volatile c.args.at) c.loop-i.i
    (item_value (shown_of c.loop-i.self).number item)) (sym c.char_item.ensures)
    (chars_kind c.args.at c.loop-i.i c.args.chars.now c.args.self.now c.loop-i.self c.loop-i-test.true
    c.requires.slots c.requires.chars c.loop-i.invariant _)

pub loop-i-preserved : goal.loop-i-preserved
loop-i-preserved c =
    chars_more c.args.at c.loop-i.i c.args.chars.now c.args.self.now c.loop-i.self c.put.new.self
    c.loop-i-test.true c.requires.slots c.loop-i.invariant
    (subst (λ (item : Item). StoresSlot (Volatile c.args.at) c.loop-i.i item (shown_of c.loop-i.self)
    (shown_of c.put.new.self)) c.char_item.ensures c.put.ensures.stored)
    c.put.ensures.takes
