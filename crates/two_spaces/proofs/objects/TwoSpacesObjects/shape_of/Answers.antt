use Rattle.std.proofs.lemmas.List.{get_or_read}
use Rattle.std.proofs.Common.{◌≡◌, ◌∙◌, ◌<◌, length, ap, arith, sym, subst}
use Rattle.std.specs.Prelude.{slice_index}
use Rattle.shared_objects.specs.Shown.{object_in}
use Rattle.twin_forms.specs.Sights.{view_of}
use Rattle.two_spaces.proofs.Parts.{parts}
use Rattle.two_spaces.specs.Seen.{shown_of}
use Rattle.two_spaces.proofs.Finding.{find, has_head, same_one}
use Rattle.two_spaces.proofs.Shifting.{object_is}
use Rattle.two_spaces.proofs.objects.TwoSpacesObjects.shape_of.Goals as goal

pub shape_of-shape-requires : goal.shape_of-shape-requires
shape_of-shape-requires g c =
    let s = parts c.args.self.now.heap.space c.args.self.now.heap.memory c.args.self.now.heap.marks
    c.args.self.now.shapes c.args.self.now.classes.items c.args.self.now.numbers.items c.args.self.now.statics.items in
    let f = find s c.args.object 0 c.requires.here in
    let h = f.place.stands in
    record { head = has_head s c.args.object 0 f }

pub index-requires : goal.index-requires
index-requires g c =
    let s = parts c.args.self.now.heap.space c.args.self.now.heap.memory c.args.self.now.heap.marks
    c.args.self.now.shapes c.args.self.now.classes.items c.args.self.now.numbers.items c.args.self.now.statics.items in
    let f = find s c.args.object 0 c.requires.here in
    let h = f.place.stands in
    let is = c.shape_of-shape.ensures.shape f.es f.n h.lies f.place.below f.place.names in
    let there = h.lies.table.shape_in f.n f.place.below in
    let long = h.classes.long in
    omega (arith, is, there, long)

pub returns-clause-shape : goal.returns-clause-shape
returns-clause-shape g c n number =
    let s = parts c.args.self.now.heap.space c.args.self.now.heap.memory c.args.self.now.heap.marks
    c.args.self.now.shapes c.args.self.now.classes.items c.args.self.now.numbers.items c.args.self.now.statics.items in
    let f = find s c.args.object 0 c.requires.here in
    let h = f.place.stands in
    let there = h.lies.table.shape_in f.n f.place.below in
    let long = h.classes.long in
    let told = c.shape_of-shape.ensures.shape f.es f.n h.lies f.place.below f.place.names in
    let class : c.index.result.now ≡ slice_index s.classes c.shape_of-shape.result =
    get_or_read s.classes c.shape_of-shape.result c.index.result.now (omega (arith, told, there, long)) c.index.ensures 0 in
    class ∙ ap (slice_index s.classes) (c.shape_of-shape.ensures.shape f.es f.n h.lies f.place.below f.place.names)
    ∙ sym (ap (λ o. o.shape) (ap (object_in (shown_of s)) (sym (same_one s c.args.object f.es f.n n f.place number))
    ∙ object_is s.classes (view_of s.twin) f.es f.n h.lies f.place.below))

pub returns-clause-class : goal.returns-clause-class
returns-clause-class g c =
    let s = parts c.args.self.now.heap.space c.args.self.now.heap.memory c.args.self.now.heap.marks
    c.args.self.now.shapes c.args.self.now.classes.items c.args.self.now.numbers.items c.args.self.now.statics.items in
    let f = find s c.args.object 0 c.requires.here in
    let h = f.place.stands in
    let there = h.lies.table.shape_in f.n f.place.below in
    let long = h.classes.long in
    let told = c.shape_of-shape.ensures.shape f.es f.n h.lies f.place.below f.place.names in
    let class : c.index.result.now ≡ slice_index s.classes c.shape_of-shape.result =
    get_or_read s.classes c.shape_of-shape.result c.index.result.now (omega (arith, told, there, long)) c.index.ensures 0 in
    subst (λ k. k < length s.shapes) (sym (class ∙ ap (slice_index s.classes) told))
    (h.classed f.n f.place.below)
