use Rattle.shared_objects.specs.Shown.{item_value}
use Rattle.twin_forms.specs.Sights.{Twin, view_of}
use Rattle.two_spaces.proofs.Parts.{parts}
use Rattle.two_spaces.specs.Seen.{number_in}
use Rattle.two_spaces.proofs.Finding.{IsAsked, at_number, find, may_store, of_kind, slot_there}
use Rattle.two_spaces.proofs.Keeping.{keeps_slot}
use Rattle.two_spaces.proofs.Valuing.{item_to}
use Rattle.two_spaces.proofs.objects.TwoSpacesObjects.store.Goals as goal

pub kept_word-word-requires : goal.kept_word-word-requires
kept_word-word-requires g c =
    let s = parts c.args.self.now.heap.space c.args.self.now.heap.memory c.args.self.now.heap.marks
    c.args.self.now.shapes c.args.self.now.classes.items c.args.self.now.numbers.items c.args.self.now.statics.items in
    let f = find s c.args.object c.args.index c.requires.here in
    let h = f.place.stands in
    record { known = (f.es, h.lies, item_to (view_of s.twin) f.es c.args.item h.lies c.requires.known) }

pub plain_store-requires : goal.plain_store-requires
plain_store-requires g c =
    let s = parts c.args.self.now.heap.space c.args.self.now.heap.memory c.args.self.now.heap.marks
    c.args.self.now.shapes c.args.self.now.classes.items c.args.self.now.numbers.items c.args.self.now.statics.items in
    let f = find s c.args.object c.args.index c.requires.here in
    let h = f.place.stands in
    let asked : IsAsked s c.args.object c.args.index c.args.item =
    record { slot = c.requires.slot; known = c.requires.known; kind = c.requires.kind; may = c.requires.may } in
    let to = item_to (view_of s.twin) f.es c.args.item h.lies c.requires.known in
    record {
      store = (
        f.es,
        f.n,
        may_store s c.args.object c.args.index c.kept_word-word.result c.args.item f.es f.n f.place asked
            (c.kept_word-word.ensures.word f.es h.lies to),
        f.here,
      );
    }

pub returns-clause-stored : goal.returns-clause-stored
returns-clause-stored g c =
    let s = parts c.args.self.now.heap.space c.args.self.now.heap.memory c.args.self.now.heap.marks
    c.args.self.now.shapes c.args.self.now.classes.items c.args.self.now.numbers.items c.args.self.now.statics.items in
    let f = find s c.args.object c.args.index c.requires.here in
    let h = f.place.stands in
    let asked : IsAsked s c.args.object c.args.index c.args.item =
    record { slot = c.requires.slot; known = c.requires.known; kind = c.requires.kind; may = c.requires.may } in
    let t : Twin = record {
      space = c.plain_store.new.self.space;
      memory = c.plain_store.new.self.memory;
      marks = c.plain_store.new.self.marks;
    } in
    let to = item_to (view_of s.twin) f.es c.args.item h.lies c.requires.known in
    let word = c.kept_word-word.ensures.word f.es h.lies to in
    let may = may_store s c.args.object c.args.index c.kept_word-word.result c.args.item f.es f.n f.place asked word in
    let kept = keeps_slot s t f.es c.args.object f.n c.args.index c.kept_word-word.result c.args.item h f.place.below
    (slot_there s c.args.object c.args.index f.es f.n f.place c.requires.slot) f.place.number
    (c.plain_store.ensures.stored f.es f.n may) c.plain_store.ensures.marks c.plain_store.ensures.left
    (c.plain_store.ensures.line f.es f.n may) (c.plain_store.ensures.same f.es f.n may) to word
    c.kept_word-word.ensures.again
    (of_kind s c.args.object c.args.index (item_value (number_in (view_of s.twin)) c.args.item) f.es f.n f.place c.requires.kind) in
    kept.stored

pub returns-clause-heap : goal.returns-clause-heap
returns-clause-heap g c n number es stands =
    let s = parts c.args.self.now.heap.space c.args.self.now.heap.memory c.args.self.now.heap.marks
    c.args.self.now.shapes c.args.self.now.classes.items c.args.self.now.numbers.items c.args.self.now.statics.items in
    let asked : IsAsked s c.args.object c.args.index c.args.item =
    record { slot = c.requires.slot; known = c.requires.known; kind = c.requires.kind; may = c.requires.may } in
    let t : Twin = record {
      space = c.plain_store.new.self.space;
      memory = c.plain_store.new.self.memory;
      marks = c.plain_store.new.self.marks;
    } in
    let place = at_number s c.args.object es n stands number in
    let to = item_to (view_of s.twin) es c.args.item stands.lies c.requires.known in
    let word = c.kept_word-word.ensures.word es stands.lies to in
    let may = may_store s c.args.object c.args.index c.kept_word-word.result c.args.item es n place asked word in
    let kept = keeps_slot s t es c.args.object n c.args.index c.kept_word-word.result c.args.item stands place.below
    (slot_there s c.args.object c.args.index es n place c.requires.slot) place.number
    (c.plain_store.ensures.stored es n may) c.plain_store.ensures.marks c.plain_store.ensures.left
    (c.plain_store.ensures.line es n may) (c.plain_store.ensures.same es n may) to word
    c.kept_word-word.ensures.again
    (of_kind s c.args.object c.args.index (item_value (number_in (view_of s.twin)) c.args.item) es n place c.requires.kind) in
    (c.kept_word-word.result, word, kept.becomes)
