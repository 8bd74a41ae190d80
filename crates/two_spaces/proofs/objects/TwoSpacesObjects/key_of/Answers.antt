use Rattle.std.proofs.Common.{◌∙◌, ap, sym, subst}
use Rattle.ap_base.specs.References.{reference_word}
use Rattle.ap_base.specs.declared.reference.Ref.{Ref}
use Rattle.twin_forms.specs.Sights.{view_of}
use Rattle.twin_forms.specs.Table.{Names, entry}
use Rattle.two_spaces.proofs.Parts.{parts}
use Rattle.two_spaces.proofs.Finding.{find, leads}
use Rattle.two_spaces.proofs.Numbering.{named_key, named_number, names_current}
use Rattle.two_spaces.proofs.objects.TwoSpacesObjects.key_of.Goals as goal

pub resolved-requires : goal.resolved-requires
resolved-requires g c =
    let s = parts c.args.self.now.heap.space c.args.self.now.heap.memory c.args.self.now.heap.marks
    c.args.self.now.shapes c.args.self.now.classes.items c.args.self.now.numbers.items c.args.self.now.statics.items in
    let f = find s c.args.object 0 c.requires.here in
    let h = f.place.stands in
    record { object = leads s c.args.object 0 f }

pub returns-clause-number : goal.returns-clause-number
returns-clause-number g c =
    let s = parts c.args.self.now.heap.space c.args.self.now.heap.memory c.args.self.now.heap.marks
    c.args.self.now.shapes c.args.self.now.classes.items c.args.self.now.numbers.items c.args.self.now.statics.items in
    let f = find s c.args.object 0 c.requires.here in
    let h = f.place.stands in
    named_number (view_of s.twin) f.es f.n c.resolved.result h.lies f.place.below
    (subst (λ (r : Ref). Names (entry f.es f.n) (reference_word r)) (sym (c.resolved.ensures.current f.es f.n h.lies f.place.below f.place.names))
    (names_current (view_of s.twin) f.es f.n h.lies f.place.below))
    ∙ sym f.place.number

pub returns-clause-key : goal.returns-clause-key
returns-clause-key g c =
    let s = parts c.args.self.now.heap.space c.args.self.now.heap.memory c.args.self.now.heap.marks
    c.args.self.now.shapes c.args.self.now.classes.items c.args.self.now.numbers.items c.args.self.now.statics.items in
    let f = find s c.args.object 0 c.requires.here in
    let h = f.place.stands in
    named_key (view_of s.twin) f.es f.n c.resolved.result h.lies f.place.below
    (ap reference_word (c.resolved.ensures.current f.es f.n h.lies f.place.below f.place.names))
