use Rattle.std.proofs.lemmas.List.{get_or_read, length-map}
use Rattle.std.proofs.Common.{◌∙◌, ◌<◌, length, sym, subst}
use Rattle.shared_objects.specs.Shown.{item_value}
use Rattle.twin_forms.specs.Sights.{view_of}
use Rattle.two_spaces.proofs.Parts.{parts}
use Rattle.two_spaces.specs.Whole.{no_static}
use Rattle.two_spaces.specs.Seen.{number_in, static_value}
use Rattle.two_spaces.proofs.Keeping.{keeps_beside, keeps_root, root_kind}
use Rattle.two_spaces.proofs.Reading.{beside_stored, root_stored}
use Rattle.two_spaces.proofs.Valuing.{item_to}
use Rattle.two_spaces.proofs.objects.TwoSpacesObjects.store_static.Goals as goal

pub kept_word-word-requires : goal.kept_word-word-requires
kept_word-word-requires g c =
    let s = parts c.args.self.now.heap.space c.args.self.now.heap.memory c.args.self.now.heap.marks
    c.args.self.now.shapes c.args.self.now.classes.items c.args.self.now.numbers.items c.args.self.now.statics.items in
    let h = c.requires.here.1 in
    let lf : c.args.field < length s.statics = subst (λ n. c.args.field < n) (length-map s.statics (static_value (view_of s.twin))) c.requires.there in
    let held = sym (get_or_read s.statics c.args.field c.index.result.now lf c.index.ensures no_static) in
    let to = item_to (view_of s.twin) c.requires.here.0 c.args.item h.lies c.requires.known in
    record { known = (c.requires.here.0, h.lies, to) }

pub returns-in-Beside-clause-stored : goal.returns-in-Beside-clause-stored
returns-in-Beside-clause-stored g c =
    let s = parts c.args.self.now.heap.space c.args.self.now.heap.memory c.args.self.now.heap.marks
    c.args.self.now.shapes c.args.self.now.classes.items c.args.self.now.numbers.items c.args.self.now.statics.items in
    let h = c.requires.here.1 in
    let lf : c.args.field < length s.statics = subst (λ n. c.args.field < n) (length-map s.statics (static_value (view_of s.twin))) c.requires.there in
    let held = sym (get_or_read s.statics c.args.field c.index.result.now lf c.index.ensures no_static) in
    let to = item_to (view_of s.twin) c.requires.here.0 c.args.item h.lies c.requires.known in
    (keeps_beside s c.requires.here.0 c.args.field c.args.item h lf to).stored

pub returns-in-Beside-clause-heap : goal.returns-in-Beside-clause-heap
returns-in-Beside-clause-heap g c =
    let s = parts c.args.self.now.heap.space c.args.self.now.heap.memory c.args.self.now.heap.marks
    c.args.self.now.shapes c.args.self.now.classes.items c.args.self.now.numbers.items c.args.self.now.statics.items in
    let lf : c.args.field < length s.statics = subst (λ n. c.args.field < n) (length-map s.statics (static_value (view_of s.twin))) c.requires.there in
    let held = sym (get_or_read s.statics c.args.field c.index.result.now lf c.index.ensures no_static) in
    λ es stands. beside_stored s es c.args.field c.args.item stands lf
    (item_to (view_of s.twin) es c.args.item stands.lies c.requires.known) _ (held ∙ c.in-Beside.is)

pub returns-in-Root-clause-stored : goal.returns-in-Root-clause-stored
returns-in-Root-clause-stored g c =
    let s = parts c.args.self.now.heap.space c.args.self.now.heap.memory c.args.self.now.heap.marks
    c.args.self.now.shapes c.args.self.now.classes.items c.args.self.now.numbers.items c.args.self.now.statics.items in
    let h = c.requires.here.1 in
    let lf : c.args.field < length s.statics = subst (λ n. c.args.field < n) (length-map s.statics (static_value (view_of s.twin))) c.requires.there in
    let held = sym (get_or_read s.statics c.args.field c.index.result.now lf c.index.ensures no_static) in
    let to = item_to (view_of s.twin) c.requires.here.0 c.args.item h.lies c.requires.known in
    (keeps_root s c.store_root.new.memory c.requires.here.0 c.args.field c.in-Root.slot c.kept_word-word.result c.args.item h
    lf (held ∙ c.in-Root.is) c.store_root.ensures to (c.kept_word-word.ensures.word c.requires.here.0 h.lies to)
    (c.requires.may c.requires.here.0 h (c.in-Root.slot, (held ∙ c.in-Root.is)))
    (root_kind s c.args.field c.in-Root.slot (item_value (number_in (view_of s.twin)) c.args.item) lf
    (held ∙ c.in-Root.is) c.requires.form)).stored

pub returns-in-Root-clause-heap : goal.returns-in-Root-clause-heap
returns-in-Root-clause-heap g c =
    let s = parts c.args.self.now.heap.space c.args.self.now.heap.memory c.args.self.now.heap.marks
    c.args.self.now.shapes c.args.self.now.classes.items c.args.self.now.numbers.items c.args.self.now.statics.items in
    let lf : c.args.field < length s.statics = subst (λ n. c.args.field < n) (length-map s.statics (static_value (view_of s.twin))) c.requires.there in
    let held = sym (get_or_read s.statics c.args.field c.index.result.now lf c.index.ensures no_static) in
    λ es stands.
    (let to = item_to (view_of s.twin) es c.args.item stands.lies c.requires.known in
    let word = c.kept_word-word.ensures.word es stands.lies to in
    root_stored s c.store_root.new.memory es c.args.field c.in-Root.slot c.kept_word-word.result c.args.item (held ∙ c.in-Root.is)
    word
    (keeps_root s c.store_root.new.memory es c.args.field c.in-Root.slot c.kept_word-word.result c.args.item stands
    lf (held ∙ c.in-Root.is) c.store_root.ensures to word
    (c.requires.may es stands (c.in-Root.slot, (held ∙ c.in-Root.is)))
    (root_kind s c.args.field c.in-Root.slot (item_value (number_in (view_of s.twin)) c.args.item) lf
    (held ∙ c.in-Root.is) c.requires.form)).becomes)
