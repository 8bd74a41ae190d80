use Rattle.std.proofs.lemmas.List.{get_or_read}
use Rattle.std.proofs.Common.{◌≡◌, ◌<◌, sym, subst, refl, IsSome}
use Rattle.std.specs.Prelude.{IfSome, length}
use Rattle.ap_base.specs.declared.reference.Ref.{Ref}
use Rattle.ap_base.specs.declared.reference.Ref.TheVariants.{Volatile}
use Rattle.twin_forms.specs.Sights.{Twin}
use Rattle.shared_objects.specs.Changes.{Allocates}
use Rattle.two_spaces.proofs.Parts.{parts}
use Rattle.two_spaces.specs.Seen.{shown_of}
use Rattle.two_spaces.proofs.Making.{IsAdding, here_made, makes_object}
use Rattle.two_spaces.proofs.objects.TwoSpacesObjects.alloc.Goals as goal

pub returns-in-Some-clause-made : goal.returns-in-Some-clause-made
returns-in-Some-clause-made g c =
    let s = parts c.args.self.now.heap.space c.args.self.now.heap.memory c.args.self.now.heap.marks
    c.args.self.now.shapes c.args.self.now.classes.items c.args.self.now.numbers.items c.args.self.now.statics.items in
    let t : Twin = record {
      space = c.alloc.new.self.space;
      memory = c.alloc.new.self.memory;
      marks = c.alloc.new.self.marks;
    } in
    let some : IsSome c.alloc.result = subst IsSome (sym c.in-Some.is) refl in
    let numbered : c.args.shape < length s.numbers = subst (λ n. c.args.shape < n) (sym c.requires.may.1.classes.all) c.requires.shape in
    let adding : IsAdding s t c.requires.may.0 c.args.shape c.index-number.result.now c.args.slots = record {
      stands = c.requires.may.1;
      there = c.requires.shape;
      is = get_or_read s.numbers c.args.shape c.index-number.result.now numbered c.index-number.ensures 0;
      may = c.requires.slots;
      added = c.alloc.ensures.added some c.requires.may.0 c.requires.may.1.lies;
      memory = c.alloc.ensures.memory;
      kinds = c.alloc.ensures.kinds;
      left = c.alloc.ensures.left some;
    } in
    subst (λ (r : Ref). Allocates c.args.shape c.args.slots r (shown_of s) (shown_of (record s { twin = t })))
    (sym (subst (λ o. IfSome o (λ (r : Ref). r ≡ Volatile (length s.twin.space.words))) c.in-Some.is
    c.alloc.ensures.reference))
    (makes_object s t c.requires.may.0 c.args.shape c.index-number.result.now c.args.slots adding).made

pub returns-in-Some-clause-heap : goal.returns-in-Some-clause-heap
returns-in-Some-clause-heap g c =
    let s = parts c.args.self.now.heap.space c.args.self.now.heap.memory c.args.self.now.heap.marks
    c.args.self.now.shapes c.args.self.now.classes.items c.args.self.now.numbers.items c.args.self.now.statics.items in
    let t : Twin = record {
      space = c.alloc.new.self.space;
      memory = c.alloc.new.self.memory;
      marks = c.alloc.new.self.marks;
    } in
    let some : IsSome c.alloc.result = subst IsSome (sym c.in-Some.is) refl in
    λ es stands.
    (let numbered : c.args.shape < length s.numbers = subst (λ n. c.args.shape < n) (sym stands.classes.all) c.requires.shape in
    let adding : IsAdding s t es c.args.shape c.index-number.result.now c.args.slots = record {
      stands = stands;
      there = c.requires.shape;
      is = get_or_read s.numbers c.args.shape c.index-number.result.now numbered c.index-number.ensures 0;
      may = c.requires.slots;
      added = c.alloc.ensures.added some es stands.lies;
      memory = c.alloc.ensures.memory;
      kinds = c.alloc.ensures.kinds;
      left = c.alloc.ensures.left some;
    } in
    (makes_object s t es c.args.shape c.index-number.result.now c.args.slots adding).becomes)

pub returns-in-Some-clause-here : goal.returns-in-Some-clause-here
returns-in-Some-clause-here g c =
    let s = parts c.args.self.now.heap.space c.args.self.now.heap.memory c.args.self.now.heap.marks
    c.args.self.now.shapes c.args.self.now.classes.items c.args.self.now.numbers.items c.args.self.now.statics.items in
    let t : Twin = record {
      space = c.alloc.new.self.space;
      memory = c.alloc.new.self.memory;
      marks = c.alloc.new.self.marks;
    } in
    let some : IsSome c.alloc.result = subst IsSome (sym c.in-Some.is) refl in
    let numbered : c.args.shape < length s.numbers = subst (λ n. c.args.shape < n) (sym c.requires.may.1.classes.all) c.requires.shape in
    let adding : IsAdding s t c.requires.may.0 c.args.shape c.index-number.result.now c.args.slots = record {
      stands = c.requires.may.1;
      there = c.requires.shape;
      is = get_or_read s.numbers c.args.shape c.index-number.result.now numbered c.index-number.ensures 0;
      may = c.requires.slots;
      added = c.alloc.ensures.added some c.requires.may.0 c.requires.may.1.lies;
      memory = c.alloc.ensures.memory;
      kinds = c.alloc.ensures.kinds;
      left = c.alloc.ensures.left some;
    } in
    here_made s t c.requires.may.0 c.args.shape c.index-number.result.now c.args.slots adding
