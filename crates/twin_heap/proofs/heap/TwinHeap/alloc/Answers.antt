use Rattle.std.proofs.Common.{◌≡◌, ◌+◌, ◌-◌, ◌*◌, List, ℕ, [], ◌∷◌, ◌++◌, length, refl, sym, ◌∙◌, ap, subst}
use Rattle.std.specs.Prelude.{IfSome, IsSome, slice_set, replicate}
use Rattle.twin_forms.specs.Moves.{Added}
use Rattle.twin_forms.specs.Sights.{Marks, sight}
use Rattle.twin_heap.proofs.Adding.{adds_is, enough}
use Rattle.twin_heap.proofs.heap.TwinHeap.alloc.Goals as goal

pub returns-clause-added : goal.returns-clause-added
returns-clause-added g c = λ _ es h.
    let s = c.args.self.now.space in let m = c.args.self.now.memory in let k = c.args.self.now.marks in
    let some : IsSome c.take.result = subst IsSome (sym c.in_ok-at.was) refl in
    let eq : c.in_ok-at.at ≡ length s.words = subst (λ o. IfSome o (λ (at : ℕ). at ≡ length s.words)) c.in_ok-at.was c.take.ensures.index in
    let head = c.head_word.result in
    let number = c.from-2.result in
    let words : c.set-2.new.self.words ≡ slice_set (slice_set (s.words ++ replicate (3 + c.args.slots) 0) (length s.words + 1) head) (length s.words + 2) number =
    c.set-2.ensures.words ∙ ap (λ (l : List ℕ). slice_set l (c.in_ok-at.at + 2) number) (c.set.ensures.words ∙ ap (λ (l : List ℕ). slice_set l (c.in_ok-at.at + 1) head) (c.take.ensures.zeros some))
    ∙ ap (λ a. slice_set (slice_set (s.words ++ replicate (3 + c.args.slots) 0) (a + 1) head) (a + 2) number) eq in
    let marks : c.add-number.new.self ≡ record k { births = k.births ++ (2 * length s.words + 1) ∷ []; room = k.room - 1 } =
    c.add-number.ensures.added ∙ ap (λ a. let x : Marks = record k { births = k.births ++ (2 * a + 1) ∷ []; room = k.room - 1 } in x) (c.from.ensures ∙ eq) in
    subst (λ (x : Marks). Added c.args.shape c.args.slots (sight s m k) es (sight c.set-2.new.self m x)) (sym marks)
    (adds_is s c.set-2.new.self m k es c.args.shape c.args.slots head number h c.requires.shape c.requires.few (c.take.ensures.below some) words
    (c.set-2.ensures.left ∙ c.set.ensures.left ∙ c.take.ensures.left some)
    (enough c.take.result c.in_ok-at.at s.left (3 + c.args.slots) c.in_ok-at.was c.take.ensures.none.1)
    c.head_word.ensures.head (c.from-2.ensures ∙ c.add-number.ensures.number))
