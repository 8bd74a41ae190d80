use Rattle.std.proofs.Common.{◌≡◌, ◌<◌, ◌+◌, ℕ, List, inr, length, drop, map, refl, sym, ◌∙◌, ap, subst, arith}
use Rattle.std.proofs.lemmas.List.{drop-drop}
use Rattle.image_meaning.specs.Entries.{DirectoryEntry}
use Rattle.image_meaning.specs.Directories.{spelled_all}
use Rattle.word_changes.specs.Changes.{ChangesTo, StopsLeave}
use Rattle.directories.specs.contracts.directory.Directory.{the_view}
use Rattle.directories.specs.declared.stepping.Progress.TheVariants.{Words}
use Rattle.directories.specs.declared.stepping.Step.{Step}
use Rattle.directories.specs.declared.stepping.Step.TheVariants.{Finished}
use Rattle.directories.specs.Appending.{OfEntry, HasComeBy, IsCalled}
use Rattle.directories.specs.Kept.{Kept, next_words, Stands, StandsOn, HasSome, Steps}
use Rattle.directories.specs.Read.{entry_of}
use Rattle.directories.proofs.Appends.{has_come, step_stands, step_stops, step_in, next_within, spelled_on, goes_in}
use Rattle.directories.proofs.directory.Directory.append_next.Goals as goal

pub returns-in_err-append_step-clause-stands : goal.returns-in_err-append_step-clause-stands
returns-in_err-append_step-clause-stands g c =
    let kept : Kept = the_view c.self.inside in
    let words = c.next_entry-entry.result.now in
    let old = c.args.memory.now in
    let new = c.append_step.new.memory in
    let spelled : drop c.self.inside.at c.as_slice.result.now ≡ spelled_all kept.left =
    ap (λ (all : List ℕ). drop c.self.inside.at all) c.as_slice.ensures.value ∙ c.self.invariant.spelled in
    let is : words ≡ next_words kept.left = c.next_entry-entry.ensures kept.left spelled in
    let some : 0 < length words = omega arith in
    let changes : ChangesTo (OfEntry kept.used words) old new = c.append_step.ensures.changes in
    subst (λ (k : Kept). (had : List DirectoryEntry) → Stands had k old → StandsOn had k k new) c.self.view_is
    (λ had stands. step_stands had kept words old new is some changes stands kept.progress
    (c.in_err-append_step.ensures.failed stands.known (has_come had kept words old new is some changes stands)))

pub returns-in_err-append_step-clause-stops : goal.returns-in_err-append_step-clause-stops
returns-in_err-append_step-clause-stops g c =
    let kept : Kept = the_view c.self.inside in
    let words = c.next_entry-entry.result.now in
    let old = c.args.memory.now in
    let new = c.append_step.new.memory in
    let spelled : drop c.self.inside.at c.as_slice.result.now ≡ spelled_all kept.left =
    ap (λ (all : List ℕ). drop c.self.inside.at all) c.as_slice.ensures.value ∙ c.self.invariant.spelled in
    let is : words ≡ next_words kept.left = c.next_entry-entry.ensures kept.left spelled in
    let some : 0 < length words = omega arith in
    let changes : ChangesTo (OfEntry kept.used words) old new = c.append_step.ensures.changes in
    subst (λ (k : Kept). (had : List DirectoryEntry) → Stands had k old → StopsLeave old new (HasSome had k.left)) c.self.view_is
    (λ had stands. step_stops had kept words old new is some changes stands
    (c.append_step.ensures.stops stands.known (has_come had kept words old new is some changes stands)))

pub overflow_cast-self : goal.overflow_cast-self
overflow_cast-self g c =
    let kept : Kept = the_view c.self.inside in
    let words = c.next_entry-entry.result.now in
    let spelled : drop c.self.inside.at c.as_slice.result.now ≡ spelled_all kept.left =
    ap (λ (all : List ℕ). drop c.self.inside.at all) c.as_slice.ensures.value ∙ c.self.invariant.spelled in
    let is : words ≡ next_words kept.left = c.next_entry-entry.ensures kept.left spelled in
    omega (arith, ap length is, next_within kept.left, c.self.invariant.room)

pub overflow_add-self-in-Finished : goal.overflow_add-self-in-Finished
overflow_add-self-in-Finished g c =
    let kept : Kept = the_view c.self.inside in
    let words = c.next_entry-entry.result.now in
    let spelled : drop c.self.inside.at c.as_slice.result.now ≡ spelled_all kept.left =
    ap (λ (all : List ℕ). drop c.self.inside.at all) c.as_slice.ensures.value ∙ c.self.invariant.spelled in
    let is : words ≡ next_words kept.left = c.next_entry-entry.ensures kept.left spelled in
    omega (arith, ap length is, next_within kept.left, c.self.invariant.room)

pub overflow_add-self-in-Finished-2 : goal.overflow_add-self-in-Finished-2
overflow_add-self-in-Finished-2 g c = omega arith

pub invariant_of-self-in-Finished : goal.invariant_of-self-in-Finished
invariant_of-self-in-Finished g c =
    let kept : Kept = the_view c.self.inside in
    let words = c.next_entry-entry.result.now in
    let spelled : drop c.self.inside.at c.as_slice.result.now ≡ spelled_all kept.left =
    ap (λ (all : List ℕ). drop c.self.inside.at all) c.as_slice.ensures.value ∙ c.self.invariant.spelled in
    let is : words ≡ next_words kept.left = c.next_entry-entry.ensures kept.left spelled in
    let some : 0 < length words = omega arith in
    spelled_on c.self.inside.words.items c.self.inside.at c.self.inside.appended
    (map entry_of c.self.inside.planned.items) c.self.inside.used (length c.self.inside.shapes.items) words
    c.self.invariant is some

pub returns-in-Touched-clause-stands : goal.returns-in-Touched-clause-stands
returns-in-Touched-clause-stands g c =
    let kept : Kept = the_view c.self.inside in
    let words = c.next_entry-entry.result.now in
    let old = c.args.memory.now in
    let new = c.append_step.new.memory in
    let spelled : drop c.self.inside.at c.as_slice.result.now ≡ spelled_all kept.left =
    ap (λ (all : List ℕ). drop c.self.inside.at all) c.as_slice.ensures.value ∙ c.self.invariant.spelled in
    let is : words ≡ next_words kept.left = c.next_entry-entry.ensures kept.left spelled in
    let some : 0 < length words = omega arith in
    let changes : ChangesTo (OfEntry kept.used words) old new = c.append_step.ensures.changes in
    subst (λ (k : Kept). (had : List DirectoryEntry) → Stands had k old → StandsOn had k k new) c.self.view_is
    (λ had stands. step_stands had kept words old new is some changes stands kept.progress
    (subst (λ (s : Step). HasComeBy s kept.progress kept.used words new) c.in-Touched.is
    (c.in_ok-append_step.ensures.comes stands.known (has_come had kept words old new is some changes stands))))

pub returns-in-Touched-clause-stops : goal.returns-in-Touched-clause-stops
returns-in-Touched-clause-stops g c =
    let kept : Kept = the_view c.self.inside in
    let words = c.next_entry-entry.result.now in
    let old = c.args.memory.now in
    let new = c.append_step.new.memory in
    let spelled : drop c.self.inside.at c.as_slice.result.now ≡ spelled_all kept.left =
    ap (λ (all : List ℕ). drop c.self.inside.at all) c.as_slice.ensures.value ∙ c.self.invariant.spelled in
    let is : words ≡ next_words kept.left = c.next_entry-entry.ensures kept.left spelled in
    let some : 0 < length words = omega arith in
    let changes : ChangesTo (OfEntry kept.used words) old new = c.append_step.ensures.changes in
    subst (λ (k : Kept). (had : List DirectoryEntry) → Stands had k old → StopsLeave old new (HasSome had k.left)) c.self.view_is
    (λ had stands. step_stops had kept words old new is some changes stands
    (c.append_step.ensures.stops stands.known (has_come had kept words old new is some changes stands)))

pub returns-in-Comes-clause-stands : goal.returns-in-Comes-clause-stands
returns-in-Comes-clause-stands g c =
    let kept : Kept = the_view c.self.inside in
    let words = c.next_entry-entry.result.now in
    let old = c.args.memory.now in
    let new = c.append_step.new.memory in
    let spelled : drop c.self.inside.at c.as_slice.result.now ≡ spelled_all kept.left =
    ap (λ (all : List ℕ). drop c.self.inside.at all) c.as_slice.ensures.value ∙ c.self.invariant.spelled in
    let is : words ≡ next_words kept.left = c.next_entry-entry.ensures kept.left spelled in
    let some : 0 < length words = omega arith in
    let changes : ChangesTo (OfEntry kept.used words) old new = c.append_step.ensures.changes in
    subst (λ (k : Kept). (had : List DirectoryEntry) → Stands had k old → StandsOn had k (the_view (record c.self.inside { progress = c.in-Comes.progress })) new) c.self.view_is
    (λ had stands. step_stands had kept words old new is some changes stands c.in-Comes.progress
    (subst (λ (s : Step). HasComeBy s kept.progress kept.used words new) c.in-Comes.is
    (c.in_ok-append_step.ensures.comes stands.known (has_come had kept words old new is some changes stands))))

pub returns-in-Comes-clause-stops : goal.returns-in-Comes-clause-stops
returns-in-Comes-clause-stops g c =
    let kept : Kept = the_view c.self.inside in
    let words = c.next_entry-entry.result.now in
    let old = c.args.memory.now in
    let new = c.append_step.new.memory in
    let spelled : drop c.self.inside.at c.as_slice.result.now ≡ spelled_all kept.left =
    ap (λ (all : List ℕ). drop c.self.inside.at all) c.as_slice.ensures.value ∙ c.self.invariant.spelled in
    let is : words ≡ next_words kept.left = c.next_entry-entry.ensures kept.left spelled in
    let some : 0 < length words = omega arith in
    let changes : ChangesTo (OfEntry kept.used words) old new = c.append_step.ensures.changes in
    subst (λ (k : Kept). (had : List DirectoryEntry) → Stands had k old → StopsLeave old new (HasSome had k.left)) c.self.view_is
    (λ had stands. step_stops had kept words old new is some changes stands
    (c.append_step.ensures.stops stands.known (has_come had kept words old new is some changes stands)))

pub returns-in-Finished-clause-steps : goal.returns-in-Finished-clause-steps
returns-in-Finished-clause-steps g c =
    let kept : Kept = the_view c.self.inside in
    let words = c.next_entry-entry.result.now in
    let old = c.args.memory.now in
    let new = c.append_step.new.memory in
    let spelled : drop c.self.inside.at c.as_slice.result.now ≡ spelled_all kept.left =
    ap (λ (all : List ℕ). drop c.self.inside.at all) c.as_slice.ensures.value ∙ c.self.invariant.spelled in
    let is : words ≡ next_words kept.left = c.next_entry-entry.ensures kept.left spelled in
    let some : 0 < length words = omega arith in
    let changes : ChangesTo (OfEntry kept.used words) old new = c.append_step.ensures.changes in
    let next : Kept = the_view (record c.self.inside {
      at = c.self.inside.at + length words;
      appended = c.self.inside.appended + 1;
      used = c.self.inside.used + length words;
      progress = Words 0;
    }) in
    let after : next.left ≡ drop 1 kept.left = sym (drop-drop 1 c.self.inside.appended
    (map entry_of c.self.inside.planned.items)) in
    let calls : IsCalled Finished kept.progress kept.used words old new =
    subst (λ (s : Step). IsCalled s kept.progress kept.used words old new) c.in-Finished.is c.in_ok-append_step.ensures.calls in
    λ more. subst (λ (k : Kept). Steps k next old new) c.self.view_is
    (record { shapes = refl; roots = refl }, inr (inr (goes_in kept next words is some after refl refl calls.0, calls.1)))

pub returns-in-Finished-clause-stands : goal.returns-in-Finished-clause-stands
returns-in-Finished-clause-stands g c =
    let kept : Kept = the_view c.self.inside in
    let words = c.next_entry-entry.result.now in
    let old = c.args.memory.now in
    let new = c.append_step.new.memory in
    let spelled : drop c.self.inside.at c.as_slice.result.now ≡ spelled_all kept.left =
    ap (λ (all : List ℕ). drop c.self.inside.at all) c.as_slice.ensures.value ∙ c.self.invariant.spelled in
    let is : words ≡ next_words kept.left = c.next_entry-entry.ensures kept.left spelled in
    let some : 0 < length words = omega arith in
    let changes : ChangesTo (OfEntry kept.used words) old new = c.append_step.ensures.changes in
    let next : Kept = the_view (record c.self.inside {
      at = c.self.inside.at + length words;
      appended = c.self.inside.appended + 1;
      used = c.self.inside.used + length words;
      progress = Words 0;
    }) in
    let after : next.left ≡ drop 1 kept.left = sym (drop-drop 1 c.self.inside.appended
    (map entry_of c.self.inside.planned.items)) in
    subst (λ (k : Kept). (had : List DirectoryEntry) → Stands had k old → StandsOn had k next new) c.self.view_is
    (λ had stands. step_in had kept words old new is some changes stands next after refl refl
    (subst (λ (s : Step). HasComeBy s kept.progress kept.used words new) c.in-Finished.is
    (c.in_ok-append_step.ensures.comes stands.known (has_come had kept words old new is some changes stands))))

pub returns-in-Finished-clause-stops : goal.returns-in-Finished-clause-stops
returns-in-Finished-clause-stops g c =
    let kept : Kept = the_view c.self.inside in
    let words = c.next_entry-entry.result.now in
    let old = c.args.memory.now in
    let new = c.append_step.new.memory in
    let spelled : drop c.self.inside.at c.as_slice.result.now ≡ spelled_all kept.left =
    ap (λ (all : List ℕ). drop c.self.inside.at all) c.as_slice.ensures.value ∙ c.self.invariant.spelled in
    let is : words ≡ next_words kept.left = c.next_entry-entry.ensures kept.left spelled in
    let some : 0 < length words = omega arith in
    let changes : ChangesTo (OfEntry kept.used words) old new = c.append_step.ensures.changes in
    subst (λ (k : Kept). (had : List DirectoryEntry) → Stands had k old → StopsLeave old new (HasSome had k.left)) c.self.view_is
    (λ had stands. step_stops had kept words old new is some changes stands
    (c.append_step.ensures.stops stands.known (has_come had kept words old new is some changes stands)))
