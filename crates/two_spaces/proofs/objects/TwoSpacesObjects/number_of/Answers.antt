use Rattle.std.proofs.Common.{◌∙◌, ap, arith, sym, Some}
use Rattle.twin_forms.specs.Sights.{view_of}
use Rattle.two_spaces.proofs.Parts.{parts}
use Rattle.two_spaces.proofs.Finding.{find, leads}
use Rattle.two_spaces.proofs.Shifting.{objects_long}
use Rattle.two_spaces.proofs.objects.TwoSpacesObjects.number_of.Goals as goal

pub number_of-requires : goal.number_of-requires
number_of-requires g c =
    let s = parts c.args.self.now.heap.space c.args.self.now.heap.memory c.args.self.now.heap.marks
    c.args.self.now.shapes c.args.self.now.classes.items c.args.self.now.numbers.items c.args.self.now.statics.items in
    let f = find s c.args.object 0 c.requires.here in
    let h = f.place.stands in
    record { object = leads s c.args.object 0 f }

pub returns-clause-number : goal.returns-clause-number
returns-clause-number g c =
    let s = parts c.args.self.now.heap.space c.args.self.now.heap.memory c.args.self.now.heap.marks
    c.args.self.now.shapes c.args.self.now.classes.items c.args.self.now.numbers.items c.args.self.now.statics.items in
    let f = find s c.args.object 0 c.requires.here in
    let h = f.place.stands in
    f.place.number ∙ ap Some (sym (c.number_of.ensures.number f.es f.n h.lies f.place.below f.place.names))

pub returns-clause-below : goal.returns-clause-below
returns-clause-below g c =
    let s = parts c.args.self.now.heap.space c.args.self.now.heap.memory c.args.self.now.heap.marks
    c.args.self.now.shapes c.args.self.now.classes.items c.args.self.now.numbers.items c.args.self.now.statics.items in
    let f = find s c.args.object 0 c.requires.here in
    let h = f.place.stands in
    let is = c.number_of.ensures.number f.es f.n h.lies f.place.below f.place.names in
    let below = f.place.below in
    let long = objects_long s.classes (view_of s.twin) f.es h.lies in
    omega (arith, is, below, long)
