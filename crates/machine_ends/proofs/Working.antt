-- What each event leaves of the work.
use Rattle.std.proofs.Common.{◌≡◌, inl, inr, ℕ, ◌+◌, ◌<◌, ◌≤◌, List, length, refl, ◌∙◌, ap, subst, arith}
use Rattle.std.specs.Prelude.{slice_set, slice_index_or, sum_by}
use Rattle.std.proofs.lemmas.List.Sums.{sum_by-set}
use Rattle.run_history.specs.declared.act.Op.{Op}
use Rattle.run_history.specs.declared.act.Op.TheVariants as op
use Rattle.volatile_space.specs.Spaces.{Space}
use Rattle.twin_forms.specs.Table.{Entry}
use Rattle.twin_forms.specs.Moves.{SameHeap}
use Rattle.twin_forms.specs.Sights.{Twin, Marks, view_of}
use Rattle.convert_queue.specs.Marks.{with_store}
use Rattle.convert_queue.specs.Queues.{Queues}
use Rattle.convert_queue.specs.Work.{line_work, work_left as queues_left}
use Rattle.convert_queue.proofs.WorkLaws.{work_stored, work_fence}
use Rattle.convert_words.specs.declared.step.ConvertStep.{ConvertStep}
use Rattle.convert_words.specs.declared.step.ConvertStep.TheVariants as step
use Rattle.convert_words.specs.Scenes.{Scene, AgreesAt}
use Rattle.convert_words.specs.Converting.{IsLineOf}
use Rattle.convert_words.specs.Steps.{told_fenced}
use Rattle.convert_words.proofs.Basics.{room_of}
use Rattle.converter.specs.Laws.{Tells, done_at, work_of}
use Rattle.converter.proofs.Left.{events_take_work, beginnings_add_work}
use Rattle.machine_laws.specs.Passed.{Doing}
use Rattle.machine_laws.specs.Passed.{Nothing, Converting, Writing, Fencing}
use Rattle.machine_laws.specs.Passed.{Opening, Machine, scene_of, doing_of}
use Rattle.machine_laws.specs.Passed.{KeepsRun}
use Rattle.machine_laws.specs.Passed.{ConvertsOn, left_by}
use Rattle.machine_laws.proofs.Lists.{set-within}
use Rattle.machine_laws.proofs.Beside.{OnlyAdds}
use Rattle.machine_ends.specs.Work.{lines_at, store_work, CallsLeaveWork, WritesTakeOne, FencesTakeOne, ConversionsTakeWork}
use Rattle.machine_ends.specs.Work.{BeginningsAddLines, SealsAddNone, AskedAddsNone, ActsAddTwo, DurableStoresAddTwo}
use Rattle.machine_ends.proofs.LogWork.{logs_left}
use Rattle.machine_ends.proofs.Alike.{SameQueues, queues-same, work-alike}
use Rattle.machine_ends.proofs.Noted.{IsTold, table-adds, notes}
use Rattle.machine_ends.proofs.Telling.{tells, tells-after, durable-after}

-- the work of conversions, and that of durable stores; `LogWork` has that of logs
abbrev pub conversions_left : Machine → ℕ
conversions_left m = work_of (lines_at m.spaces.twin.space) (scene_of m)

abbrev pub stores_left : List Doing → ℕ
stores_left doing = sum_by store_work doing

-- ---- durable stores

pub doing-set : (doing : List Doing) (t : ℕ) (d : Doing) → t < length doing
    → stores_left (slice_set doing t d) + store_work (slice_index_or doing t Nothing)
    ≡ stores_left doing + store_work d
doing-set doing t d within = sum_by-set store_work doing t d Nothing within

-- a thread that is about a durable store is one of them
about-within : (doing : List Doing) (t : ℕ) → 0 < store_work (slice_index_or doing t Nothing)
    → t < length doing
about-within doing t some = set-within doing t Nothing (λ none.
    (let zero_work : store_work (slice_index_or doing t Nothing) ≡ 0 = ap store_work none in
    omega (arith, some, zero_work)))

-- a thread makes a durable store
stored-two : (doing doing' : List Doing) (t line : ℕ) → t < length doing
    → doing' ≡ slice_set doing t (Writing line) → stores_left doing' ≤ stores_left doing + 2
stored-two doing doing' t line within is =
    let about = doing-set doing t (Writing line) within in
    let now : stores_left doing' ≡ stores_left (slice_set doing t (Writing line)) = ap stores_left is in
    omega (arith, about, now)

left-less : (operation : Op) (d : Doing) → store_work (left_by operation d) ≤ store_work d
left-less (op.Stored place value) d = omega arith
left-less operation d = omega arith

-- ---- the words of the space, and the marks

-- the work by the parts of the heap on which it stands
abbrev left_by_parts : Space → Marks → Queues → ℕ
left_by_parts space marks q = queues_left (lines_at space) (done_at (lines_at space) marks.copies q) q

pub parts-same : (twin now : Twin) (q : Queues) → now.space ≡ twin.space → now.marks ≡ twin.marks
    → left_by_parts now.space now.marks q ≡ left_by_parts twin.space twin.marks q
parts-same twin now q space marks =
    ap (λ (x : Space). left_by_parts x now.marks q) space
    ∙ ap (λ (x : Marks). left_by_parts twin.space x q) marks

-- ---- calls of the image

pub calls-leave : CallsLeaveWork
calls-leave o m es k old twin e =
    let parts = parts-same m.spaces.twin twin m.queue e.call.space e.call.marks in
    omega (arith, parts)

pub writes-take : WritesTakeOne
writes-take o m es k old twin t e =
    let parts = parts-same m.spaces.twin twin m.queue e.calls.call.space e.calls.call.marks in
    let two : store_work (doing_of m t) ≡ 2 = ap store_work e.doing in
    let one = doing-set m.doing t Fencing (about-within m.doing t (omega (arith, two))) in
    omega (arith, parts, two, one)

pub fences-take : FencesTakeOne
fences-take o m es k old twin t e =
    let parts = parts-same m.spaces.twin twin (told_fenced m.queue) e.calls.call.space e.calls.call.marks in
    let fenced = work_fence m.queue.marks in
    let one : store_work (doing_of m t) ≡ 1 = ap store_work e.doing in
    let none = doing-set m.doing t Nothing (about-within m.doing t (omega (arith, one))) in
    omega (arith, parts, fenced, one, none)

-- ---- conversions

-- the same scene, by another way to tell how many lines its objects have
retold : (s : Scene) (es : List Entry) (f g : ℕ → ℕ) → AgreesAt s es → Tells f es → Tells g es
    → work_of g s ≡ work_of f s
retold s es f g a tf tg =
    let alike = work-alike s s es es f g a a.lies (omega arith) (λ n lt. refl)
    (record { queues = refl; places = refl; phases = refl }) tf tg in
    omega (arith, alike)

module _ (o : Opening) (m : Machine) (es : List Entry) (k : KeepsRun o m es) (m' : Machine) (t : ℕ)
    (answer : ConvertStep) (c : ConvertsOn t answer m m' es) where
  shows-on : SameHeap (view_of m.spaces.twin) es (view_of m'.spaces.twin) c.event.after
  shows-on = subst (λ (x : Twin). SameHeap (view_of x) es (view_of m'.spaces.twin) c.event.after)
      c.event.goes_on.heap c.event.converts.shows

  tells-on : Tells (lines_at m.spaces.twin.space) c.event.after
  tells-on = tells-after m.spaces.twin es k.heap.agrees.lies m'.spaces.twin c.event.after shows-on
      (durable-after t c.event.at (scene_of m') es c.event.after c.event.goes_on.agrees.lies
      c.event.converts.agrees.lies answer c.event.converts.says)

pub conversions-take : ConversionsTakeWork
conversions-take o m es k old m' t answer c =
    let f = lines_at m.spaces.twin.space in
    let g = lines_at m'.spaces.twin.space in
    let taken = events_take_work f t answer (scene_of m) (scene_of m') es m.rest.monitors m'.rest.monitors
    c.thread k.heap.agrees old c.event (tells m.spaces.twin es k.heap.agrees.lies)
    (tells-on o m es k m' t answer c) in
    let now = retold (scene_of m') c.event.after f g c.event.converts.agrees (tells-on o m es k m' t answer c)
    (tells m'.spaces.twin c.event.after c.event.converts.agrees.lies) in
    let stores : stores_left m'.doing ≡ stores_left m.doing
    = ap (λ (x : Machine). stores_left x.doing) c.same in
    let logs : logs_left m'.logs ≡ logs_left m.logs = ap (λ (x : Machine). logs_left x.logs) c.same in
    omega (arith, taken, now, stores, logs)

pub beginnings-add : BeginningsAddLines
beginnings-add o m es k old m' es' t n word answer b =
    let f = lines_at m.spaces.twin.space in
    let g = lines_at m'.spaces.twin.space in
    let told_of = tells-after m.spaces.twin es k.heap.agrees.lies m'.spaces.twin es' b.begins.shows
    (λ x p. (b.begins.durable x).1 p) in
    let added = beginnings_add_work f t n answer (scene_of m) (scene_of m') es es' b.thread k.heap.agrees
    b.idle b.asked.there told_of b.begins in
    let now = retold (scene_of m') es' f g b.begins.agrees told_of
    (tells m'.spaces.twin es' b.begins.agrees.lies) in
    let stores : stores_left m'.doing ≡ stores_left m.doing
    = ap (λ (x : Machine). stores_left x.doing) b.same in
    let logs : logs_left m'.logs ≡ logs_left m.logs = ap (λ (x : Machine). logs_left x.logs) b.same in
    omega (arith, added, now, stores, logs)

pub seals-add : SealsAddNone
seals-add o m es k old m' t set named s =
    let taken = conversions-take o m es k old m' t (step.Sealed set) s.converts in
    let free : m'.free ≡ m.free = s.converts.event.converts.says.free ∙ s.converts.event.goes_on.free in
    omega (arith, taken, free)

-- ---- acts

pub asked-adds : AskedAddsNone
asked-adds o m es k old t request place item e =
    let all = k.asked.threads in
    let lt = e.thread in
    let none : store_work (doing_of m t) ≡ 0 = ap store_work e.doing in
    let same = doing-set m.doing t Converting (omega (arith, all, lt)) in
    omega (arith, none, same)

-- a store to a line of a claimed object: two are left of it
told-two : (s : Scene) (es : List Entry) (t l : ℕ) → AgreesAt s es → IsLineOf es t l
    → line_work (with_store s.queue.marks t l) ≤ line_work s.queue.marks + 2
told-two s es t l a own =
    let room = room_of (view_of s.heap) es own.n a.lies own.claimed.0 own.placed in
    let to = own.to in
    let long = a.sizes.marks in
    let two = work_stored s.queue.marks t l (omega (arith, room, to, long)) in
    omega (arith, two)

-- over a table with more objects, with the same queues
module _ (o : Opening) (m m' : Machine) (es es' : List Entry) (k : KeepsRun o m es) (k' : KeepsRun o m' es')
    (adds : OnlyAdds es es') where
  conversions-alike : SameQueues m.queue m'.queue
      → conversions_left m' + line_work m.queue.marks ≡ conversions_left m + line_work m'.queue.marks
  conversions-alike queues = work-alike (scene_of m) (scene_of m') es es' (lines_at m.spaces.twin.space)
      (lines_at m'.spaces.twin.space) k.heap.agrees k'.heap.agrees.lies adds.long adds.same queues
      (tells m.spaces.twin es k.heap.agrees.lies) (tells m'.spaces.twin es' k'.heap.agrees.lies)

  pub same-left : m'.queue ≡ m.queue → conversions_left m' ≡ conversions_left m
  same-left same =
      let alike = conversions-alike (queues-same m.queue m'.queue same) in
      let marks : line_work m'.queue.marks ≡ line_work m.queue.marks
      = ap (λ (q : Queues). line_work q.marks) same in
      omega (arith, alike, marks)

  pub told-left : IsTold es m.queue m'.queue → conversions_left m' ≤ conversions_left m + 2
  told-left is =
      let alike = conversions-alike (record {
        queues = ap (λ (q : Queues). q.queues) is.told_is;
        places = ap (λ (q : Queues). q.places) is.told_is;
        phases = ap (λ (q : Queues). q.phases) is.told_is;
      }) in
      let marks : line_work m'.queue.marks ≡ line_work (with_store m.queue.marks is.thread is.line)
      = ap (λ (q : Queues). line_work q.marks) is.told_is in
      let two = told-two (scene_of m) es is.thread is.line k.heap.agrees is.own in
      omega (arith, alike, marks, two)

-- over the same table
adds-none : (es : List Entry) → OnlyAdds es es
adds-none es = record {
  long = omega arith;
  same = λ n lt. refl;
  new = λ n lt past. absurd (omega (arith, lt, past));
}

pub same-conversions : (o : Opening) (m m' : Machine) (es : List Entry) → KeepsRun o m es → KeepsRun o m' es
    → m'.queue ≡ m.queue → conversions_left m' ≡ conversions_left m
same-conversions o m m' es k k' same = same-left o m m' es es k k' (adds-none es) same

-- with less work of lines
pub fewer-conversions : (o : Opening) (m m' : Machine) (es : List Entry) → KeepsRun o m es → KeepsRun o m' es
    → SameQueues m.queue m'.queue → line_work m'.queue.marks ≤ line_work m.queue.marks
    → conversions_left m' ≤ conversions_left m
fewer-conversions o m m' es k k' same less =
    let alike = conversions-alike o m m' es es k k' (adds-none es) same in
    omega (arith, alike, less)

pub acts-add : ActsAddTwo
acts-add o m es k old m' es' t request operation r acts after k' =
    let adds = table-adds m operation es es' after in
    let all = k.asked.threads in
    let lt = acts.does.thread in
    let about = doing-set m.doing t (left_by operation (doing_of m t)) (omega (arith, all, lt)) in
    let less = left-less operation (doing_of m t) in
    let now : stores_left m'.doing ≡ stores_left (slice_set m.doing t (left_by operation (doing_of m t)))
    = ap stores_left acts.doing in
    let stores : stores_left m'.doing ≤ stores_left m.doing = omega (arith, about, less, now) in
    let most : conversions_left m' ≤ conversions_left m + 2
    = elim (notes o m es k m' t request operation r acts) [
      | inl same ↦ (let alike = same-left o m m' es es' k k' adds same in omega (arith, alike))
      | inr is ↦ told-left o m m' es es' k k' adds is
    ] in
    let logs : logs_left m'.logs ≡ logs_left m.logs = ap logs_left acts.logs in
    omega (arith, stores, most, logs)

pub stores-add : DurableStoresAddTwo
stores-add o m es k old m' t request place item e k' =
    let all = k.asked.threads in
    let lt = e.does.thread in
    let stores = stored-two m.doing m'.doing t _ (omega (arith, all, lt)) e.doing in
    let alike = same-conversions o m m' es k k' e.queue in
    let logs : logs_left m'.logs ≡ logs_left m.logs = ap logs_left e.logs in
    omega (arith, stores, alike, logs)
