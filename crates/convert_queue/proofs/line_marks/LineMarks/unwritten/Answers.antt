use Rattle.std.proofs.Common.{ℕ, ◌≡◌, ◌<◌, true, List, length, subst, refl}
use Rattle.convert_queue.specs.declared.line_marks.Note.{Note}
use Rattle.convert_queue.specs.Marks.{Mark, IsStored}
use Rattle.convert_queue.specs.Notes.{IsLeastStored, has_stored, note_at}
use Rattle.convert_queue.proofs.NoteLemmas.{least_is, none_is}
use Rattle.convert_queue.proofs.line_marks.LineMarks.unwritten.Goals as goal

pub returns-in-Some-clause-some : goal.returns-in-Some-clause-some
returns-in-Some-clause-some c =
    let t = c.args.t in
    let l = c.in-Some.line in
    let notes = c.self.inside.notes.items in
    let found : IsLeastStored notes t l =
    subst (λ (ns : List Note). IsLeastStored ns t l) c.deref.ensures.value (subst (λ (k : ℕ). IsLeastStored c.deref.result.now k l) c.number.ensures.same c.in-Some.ensures.some) in
    subst (λ (ms : List Mark). IsStored ms t l × (l < length ms) × ((k : ℕ) → k < l → IsStored ms t k → ⊥)) c.self.view_is
    (least_is c.self.inside.fences notes t l found)

pub returns-in-None-clause-none : goal.returns-in-None-clause-none
returns-in-None-clause-none c = λ _.
    let t = c.args.t in
    let notes = c.self.inside.notes.items in
    let none : (l : ℕ) → has_stored t (note_at notes l) ≡ true → ⊥ =
    subst (λ (ns : List Note). (l : ℕ) → has_stored t (note_at ns l) ≡ true → ⊥) c.deref.ensures.value
    (subst (λ (k : ℕ). (l : ℕ) → has_stored k (note_at c.deref.result.now l) ≡ true → ⊥) c.number.ensures.same (c.in-None.ensures.none refl)) in
    subst (λ (ms : List Mark). (l : ℕ) → IsStored ms t l → ⊥) c.self.view_is (none_is c.self.inside.fences notes t none)
