use Rattle.std.proofs.lemmas.List.{get_or_read, length-map}
use Rattle.std.proofs.Common.{◌∙◌, ◌<◌, length, ap, sym, subst}
use Rattle.ap_base.specs.declared.reference.Item.TheVariants.{Ref as RefItem}
use Rattle.one_space.specs.Layout.{ref_in}
use Rattle.shared_objects.specs.Shown.{IsKnownItem, item_value}
use Rattle.twin_forms.specs.Sights.{view_of}
use Rattle.two_spaces.proofs.Parts.{parts}
use Rattle.two_spaces.specs.Whole.{no_static}
use Rattle.two_spaces.specs.Seen.{number_in, static_value}
use Rattle.two_spaces.proofs.Keeping.{root_is}
use Rattle.two_spaces.proofs.Reading.{static_is, held_known}
use Rattle.two_spaces.proofs.objects.TwoSpacesObjects.read_static.Goals as goal

pub returns-in-Beside-clause-known : goal.returns-in-Beside-clause-known
returns-in-Beside-clause-known g c =
    let s = parts c.args.self.now.heap.space c.args.self.now.heap.memory c.args.self.now.heap.marks
    c.args.self.now.shapes c.args.self.now.classes.items c.args.self.now.numbers.items c.args.self.now.statics.items in
    let h = c.requires.here.1 in
    let lf : c.args.field < length s.statics = subst (λ n. c.args.field < n) (length-map s.statics (static_value (view_of s.twin))) c.requires.there in
    let held = sym (get_or_read s.statics c.args.field c.index.result.now lf c.index.ensures no_static) in
    held_known s c.requires.here.0 c.args.field h lf _ (held ∙ c.in-Beside.is)

pub returns-in-Root-clause-value : goal.returns-in-Root-clause-value
returns-in-Root-clause-value g c =
    let s = parts c.args.self.now.heap.space c.args.self.now.heap.memory c.args.self.now.heap.marks
    c.args.self.now.shapes c.args.self.now.classes.items c.args.self.now.numbers.items c.args.self.now.statics.items in
    let h = c.requires.here.1 in
    let lf : c.args.field < length s.statics = subst (λ n. c.args.field < n) (length-map s.statics (static_value (view_of s.twin))) c.requires.there in
    let held = sym (get_or_read s.statics c.args.field c.index.result.now lf c.index.ensures no_static) in
    ap (item_value (number_in (view_of s.twin))) (c.read_root.ensures
    ∙ ap (λ w. RefItem (ref_in w)) (sym (root_is s.twin.memory c.in-Root.slot)))
    ∙ sym (static_is s c.args.field lf _ (held ∙ c.in-Root.is))

pub returns-in-Root-clause-known : goal.returns-in-Root-clause-known
returns-in-Root-clause-known g c =
    let s = parts c.args.self.now.heap.space c.args.self.now.heap.memory c.args.self.now.heap.marks
    c.args.self.now.shapes c.args.self.now.classes.items c.args.self.now.numbers.items c.args.self.now.statics.items in
    let h = c.requires.here.1 in
    let lf : c.args.field < length s.statics = subst (λ n. c.args.field < n) (length-map s.statics (static_value (view_of s.twin))) c.requires.there in
    let held = sym (get_or_read s.statics c.args.field c.index.result.now lf c.index.ensures no_static) in
    subst (IsKnownItem (number_in (view_of s.twin))) (sym (c.read_root.ensures
    ∙ ap (λ w. RefItem (ref_in w)) (sym (root_is s.twin.memory c.in-Root.slot))))
    (held_known s c.requires.here.0 c.args.field h lf _ (held ∙ c.in-Root.is))
