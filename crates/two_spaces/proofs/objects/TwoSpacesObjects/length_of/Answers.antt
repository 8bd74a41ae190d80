use Rattle.std.proofs.Common.{◌∙◌, ◌<◌, ◌^◌, length, ap, sym, subst}
use Rattle.shared_objects.specs.Shown.{object_in}
use Rattle.twin_forms.specs.Sights.{view_of}
use Rattle.twin_forms.specs.Table.{entry}
use Rattle.two_spaces.proofs.Parts.{parts}
use Rattle.two_spaces.specs.Seen.{shown_of}
use Rattle.two_spaces.proofs.Finding.{find, has_head, same_one}
use Rattle.two_spaces.proofs.Shifting.{object_is, values_long}
use Rattle.two_spaces.proofs.objects.TwoSpacesObjects.length_of.Goals as goal

pub length_of-requires : goal.length_of-requires
length_of-requires g c =
    let s = parts c.args.self.now.heap.space c.args.self.now.heap.memory c.args.self.now.heap.marks
    c.args.self.now.shapes c.args.self.now.classes.items c.args.self.now.numbers.items c.args.self.now.statics.items in
    let f = find s c.args.object 0 c.requires.here in
    let h = f.place.stands in
    record { head = has_head s c.args.object 0 f }

pub returns-clause-length : goal.returns-clause-length
returns-clause-length g c n number =
    let s = parts c.args.self.now.heap.space c.args.self.now.heap.memory c.args.self.now.heap.marks
    c.args.self.now.shapes c.args.self.now.classes.items c.args.self.now.numbers.items c.args.self.now.statics.items in
    let f = find s c.args.object 0 c.requires.here in
    let h = f.place.stands in
    c.length_of.ensures.length f.es f.n h.lies f.place.below f.place.names
    ∙ sym (ap (λ o. length o.values) (ap (object_in (shown_of s)) (sym (same_one s c.args.object f.es f.n n f.place number))
    ∙ object_is s.classes (view_of s.twin) f.es f.n h.lies f.place.below)
    ∙ values_long s.classes (view_of s.twin) (entry f.es f.n))

pub returns-clause-few : goal.returns-clause-few
returns-clause-few g c =
    let s = parts c.args.self.now.heap.space c.args.self.now.heap.memory c.args.self.now.heap.marks
    c.args.self.now.shapes c.args.self.now.classes.items c.args.self.now.numbers.items c.args.self.now.statics.items in
    let f = find s c.args.object 0 c.requires.here in
    let h = f.place.stands in
    subst (λ k. k < 2 ^ 31) (sym (c.length_of.ensures.length f.es f.n h.lies f.place.below f.place.names)) (h.lies.table.few_slots f.n f.place.below)
