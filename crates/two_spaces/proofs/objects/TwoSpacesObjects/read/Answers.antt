use Rattle.std.proofs.Common.{◌≡◌, ◌∙◌, ap, sym, subst}
use Rattle.std.specs.Prelude.{slice_index_or}
use Rattle.graph_model.specs.declared.types.Value.TheVariants.{Null}
use Rattle.one_space.specs.Layout.{item_in}
use Rattle.shared_objects.specs.Shown.{IsKnownItem, item_value, object_in}
use Rattle.twin_forms.specs.Sights.{view_of}
use Rattle.twin_forms.specs.Table.{entry, kind_at, word_of}
use Rattle.two_spaces.proofs.Parts.{parts}
use Rattle.two_spaces.specs.Seen.{number_in, shown_of}
use Rattle.two_spaces.proofs.Finding.{find, has_head, has_word, same_one, slot_there}
use Rattle.two_spaces.proofs.Shifting.{object_is, value_at}
use Rattle.two_spaces.proofs.Valuing.{item_known, item_shown}
use Rattle.two_spaces.proofs.objects.TwoSpacesObjects.read.Goals as goal

pub kind_at-requires : goal.kind_at-requires
kind_at-requires g c =
    let s = parts c.args.self.now.heap.space c.args.self.now.heap.memory c.args.self.now.heap.marks
    c.args.self.now.shapes c.args.self.now.classes.items c.args.self.now.numbers.items c.args.self.now.statics.items in
    let f = find s c.args.object c.args.index c.requires.here in
    let h = f.place.stands in
    record { head = has_head s c.args.object c.args.index f }

pub read_slot-requires : goal.read_slot-requires
read_slot-requires g c =
    let s = parts c.args.self.now.heap.space c.args.self.now.heap.memory c.args.self.now.heap.marks
    c.args.self.now.shapes c.args.self.now.classes.items c.args.self.now.numbers.items c.args.self.now.statics.items in
    let f = find s c.args.object c.args.index c.requires.here in
    let h = f.place.stands in
    record { slot = has_word s c.args.object c.args.index f (slot_there s c.args.object c.args.index f.es f.n f.place c.requires.slot) }

pub returns-clause-value : goal.returns-clause-value
returns-clause-value g c n number =
    let s = parts c.args.self.now.heap.space c.args.self.now.heap.memory c.args.self.now.heap.marks
    c.args.self.now.shapes c.args.self.now.classes.items c.args.self.now.numbers.items c.args.self.now.statics.items in
    let f = find s c.args.object c.args.index c.requires.here in
    let h = f.place.stands in
    let li = slot_there s c.args.object c.args.index f.es f.n f.place c.requires.slot in
    let e = entry f.es f.n in
    let v = view_of s.twin in
    let is : c.item_of.result ≡ item_in (kind_at v e c.args.index) (word_of v e c.args.index) =
    c.item_of.ensures
    ∙ ap (λ k. item_in k c.read_slot.result) (c.kind_at.ensures.kind f.es f.n h.lies f.place.below f.place.names)
    ∙ ap (item_in (kind_at v e c.args.index)) (c.read_slot.ensures.word f.es f.n h.lies f.place.below f.place.names) in
    ap (item_value (number_in v)) is
    ∙ item_shown v f.es (kind_at v e c.args.index) (word_of v e c.args.index) h.lies
    (λ ref. h.lies.refs f.n c.args.index f.place.below ref li)
    ∙ sym (ap (λ o. slice_index_or o.values c.args.index Null) (ap (object_in (shown_of s)) (sym (same_one s c.args.object f.es f.n n f.place number))
    ∙ object_is s.classes (view_of s.twin) f.es f.n h.lies f.place.below)
    ∙ value_at s.classes v e c.args.index li)

pub returns-clause-known : goal.returns-clause-known
returns-clause-known g c =
    let s = parts c.args.self.now.heap.space c.args.self.now.heap.memory c.args.self.now.heap.marks
    c.args.self.now.shapes c.args.self.now.classes.items c.args.self.now.numbers.items c.args.self.now.statics.items in
    let f = find s c.args.object c.args.index c.requires.here in
    let h = f.place.stands in
    let li = slot_there s c.args.object c.args.index f.es f.n f.place c.requires.slot in
    let e = entry f.es f.n in
    let v = view_of s.twin in
    let is : c.item_of.result ≡ item_in (kind_at v e c.args.index) (word_of v e c.args.index) =
    c.item_of.ensures
    ∙ ap (λ k. item_in k c.read_slot.result) (c.kind_at.ensures.kind f.es f.n h.lies f.place.below f.place.names)
    ∙ ap (item_in (kind_at v e c.args.index)) (c.read_slot.ensures.word f.es f.n h.lies f.place.below f.place.names) in
    subst (IsKnownItem (number_in v)) (sym is)
    (item_known v f.es (kind_at v e c.args.index) (word_of v e c.args.index) h.lies
    (λ ref. h.lies.refs f.n c.args.index f.place.below ref li))
