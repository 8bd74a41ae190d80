use Rattle.std.proofs.Common.{◌≡◌, ◌∙◌, ap, arith, sym, subst}
use Rattle.shared_objects.specs.Shown.{item_value, IsKnownItem}
use Rattle.one_space.specs.Layout.{item_at, number_in}
use Rattle.one_space.proofs.Laid.{slot_at, number_at, slot_value, slot_known, read_item}
use Rattle.one_space.proofs.objects.OneSpaceObjects.read.Goals as goal

pub overflow_add-at-in-Volatile-2 : goal.overflow_add-at-in-Volatile-2
overflow_add-at-in-Volatile-2 c =
    let s = slot_at c.args.self.now.shapes c.args.self.now.space.words c.args.self.now.starts.items
    c.args.object c.in-Volatile.at c.args.index c.args.self.now.laid c.in-Volatile.is c.requires.slot in
    omega (arith, s.inside, s.counted, c.args.self.now.few)

pub word-requires-in-Volatile : goal.word-requires-in-Volatile
word-requires-in-Volatile c =
    let s = slot_at c.args.self.now.shapes c.args.self.now.space.words c.args.self.now.starts.items
    c.args.object c.in-Volatile.at c.args.index c.args.self.now.laid c.in-Volatile.is c.requires.slot in
    omega (arith, s.inside, s.counted)

pub returns-in-Volatile-clause-value : goal.returns-in-Volatile-clause-value
returns-in-Volatile-clause-value c n e =
    let s = slot_at c.args.self.now.shapes c.args.self.now.space.words c.args.self.now.starts.items
    c.args.object c.in-Volatile.at c.args.index c.args.self.now.laid c.in-Volatile.is c.requires.slot in
    let is : c.item_of.result ≡ item_at c.args.self.now.shapes c.args.self.now.space.words c.in-Volatile.at
    c.args.index =
    read_item c.args.self.now.shapes c.args.self.now.space.words c.in-Volatile.at c.args.index c.word.result
    c.word-in-Volatile.result c.kind_at.result c.item_of.result
    c.word.ensures.word c.word-in-Volatile.ensures.word c.kind_at.ensures c.item_of.ensures in
    ap (item_value (number_in c.args.self.now.space.words c.args.self.now.starts.items)) is
    ∙ slot_value c.args.self.now.shapes c.args.self.now.space.words c.args.self.now.starts.items
    c.in-Volatile.at c.args.index n (number_at c.args.self.now.space.words c.args.self.now.starts.items
    c.args.object c.in-Volatile.at n c.in-Volatile.is e) s.counted

pub returns-in-Volatile-clause-known : goal.returns-in-Volatile-clause-known
returns-in-Volatile-clause-known c =
    let s = slot_at c.args.self.now.shapes c.args.self.now.space.words c.args.self.now.starts.items
    c.args.object c.in-Volatile.at c.args.index c.args.self.now.laid c.in-Volatile.is c.requires.slot in
    let is : c.item_of.result ≡ item_at c.args.self.now.shapes c.args.self.now.space.words c.in-Volatile.at
    c.args.index =
    read_item c.args.self.now.shapes c.args.self.now.space.words c.in-Volatile.at c.args.index c.word.result
    c.word-in-Volatile.result c.kind_at.result c.item_of.result
    c.word.ensures.word c.word-in-Volatile.ensures.word c.kind_at.ensures c.item_of.ensures in
    subst (IsKnownItem (number_in c.args.self.now.space.words c.args.self.now.starts.items)) (sym is)
    (slot_known c.args.self.now.shapes c.args.self.now.space.words c.args.self.now.starts.items
    c.in-Volatile.at c.args.index c.args.self.now.laid s)
