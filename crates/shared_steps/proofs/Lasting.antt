-- What a step leaves, by the plain step.
use Rattle.std.proofs.Common.{◌≡◌, ℕ, zero, suc, pred, ◌<◌, ◌≤◌, ◌+◌, ◌-◌, ◌^◌, true, false, nat_eq, List, [], ◌∷◌, ◌++◌, map}
use Rattle.std.proofs.Common.{length, length-append, length-set, slice_index_or, Option, Some, None, if◌then◌else◌, refl, ap}
use Rattle.std.proofs.Common.{◌∙◌, sym, subst, inl, inr, arith}
use Rattle.std.specs.Prelude.{All, slice_set, replicate, drop, sum_by}
use Rattle.std.proofs.lemmas.Bool.{cases_lt}
use Rattle.std.proofs.lemmas.List.{length-map, set_past}
use Rattle.std.proofs.lemmas.List.Sums.{sum_by-append, sum_by-cons}
use Rattle.std.proofs.lemmas.List.Elements.{All-nil, All-cons, All-head, All-tail, All-weaker, All-set, All-push, All-get_or}
use Rattle.std.proofs.lemmas.List.Elements.{All-map}
use Rattle.ap_base.specs.declared.reference.Ref.{Ref}
use Rattle.ap_base.specs.declared.reference.Item.{Item}
use Rattle.ap_base.specs.declared.kind.Kind.{Kind}
use Rattle.ap_base.specs.declared.place.Place.TheVariants.{Static, Slot}
use Rattle.run_types.specs.declared.limits.Limits.{Limits}
use Rattle.graph_model.specs.declared.types.Value.{Value}
use Rattle.graph_model.specs.declared.types.Field.{Field}
use Rattle.graph_model.specs.declared.types.Shape.{Shape}
use Rattle.graph_model.specs.declared.types.Obj.{Obj}
use Rattle.graph_model.specs.declared.types.Heap.{Heap}
use Rattle.graph_model.specs.declared.types.Graph.{Graph}
use Rattle.graph_model.specs.Heaps.{default_of, no_object, object_at, shape_at, with_slot, fresh_values, with_fresh}
use Rattle.natives.specs.declared.requests.Request.{Request}
use Rattle.run_history.specs.declared.act.Op.{Op}
use Rattle.run_history.specs.declared.act.Op.TheVariants as op
use Rattle.run_history.specs.declared.act.Stage.TheVariants as stage
use Rattle.run_history.specs.declared.act.PlainKey.{PlainKey}
use Rattle.run_history.specs.declared.plain.Monitor.{Monitor as PlainMonitor}
use Rattle.run_history.specs.declared.plain.Progress.{Progress}
use Rattle.run_history.specs.Worlds.{Thread, World, after, entered, exited, one_less, key_is, at_thread, new_thread}
use Rattle.run_history.specs.Worlds.{heap_after_op, monitors_after_op, classes_after_op, threads_after_op}
use Rattle.monitors.specs.declared.monitor.Monitor.{Monitor}
use Rattle.plain_model.specs.Facts.{SetFacts}
use Rattle.plain_model.specs.Requests.{PlainRequest, PlainReply}
use Rattle.plain_model.specs.Duties.{IsFit}
use Rattle.plain_model.specs.Laws.{HasItsSlots}
use Rattle.plain_model.specs.Limits.{words_of, words_made, words_left}
use Rattle.plain_model.specs.Steps.{Does, step}
use Rattle.plain_model.specs.Codes.{taken_by}
use Rattle.plain_model.specs.Typed.{IsTyped}
use Rattle.plain_model.specs.TypeLaws.{IsOfSet}
use Rattle.plain_model.proofs.RunSound.{shapes_stay}
use Rattle.plain_model.proofs.StepTyped.{step_leaves_typed}
use Rattle.shared_objects.specs.declared.rest.Rest.{Rest}
use Rattle.shared_objects.specs.declared.threads.ThreadState.{ThreadState}
use Rattle.shared_objects.specs.Shown.{Shown}
use Rattle.shared_objects.specs.Plain.{plain_request, plain_reply}
use Rattle.shared_objects.specs.Worlds.{heap_of, world_of, plain_monitor, plain_thread}
use Rattle.step_forms.specs.declared.stepped.Stepped.{Stepped}
use Rattle.step_forms.specs.declared.stepped.Stepped.TheVariants as stepped
use Rattle.step_forms.specs.Follows.{Agrees, IsHeapOf, IsStep, TakesWords}
use Rattle.shared_steps.specs.Lasting.{AtMost}

-- ---- heaps of the set

abbrev HaveSlots : Heap → Type 0
HaveSlots heap = All (HasItsSlots heap) heap.objects

-- a new object without elements has its fields
fresh_slots : (shape : Shape) (count : ℕ) → shape.element ≡ None
    → length (fresh_values shape count) ≡ length shape.fields
fresh_slots shape count is = elim shape.element as (λ element. element ≡ None
    → length {A = Value} (elim element [
      | None ↦ map (λ (f : Field). default_of f.kind) shape.fields
      | Some kind ↦ replicate count (default_of kind)
    ]) ≡ length shape.fields) [
      | None ↦ λ e. length-map shape.fields (λ (f : Field). default_of f.kind)
      | Some kind ↦ λ e. absurd (let no : ◌≡◌ {A = Option Kind} (Some kind) None = e in cc)
    ] is

slots_of_fresh : (heap : Heap) (shape count : ℕ) → HaveSlots heap → HaveSlots (with_fresh heap shape count)
slots_of_fresh heap shape count have =
    All-push (HasItsSlots heap) heap.objects
    (record { shape = shape; values = fresh_values (shape_at heap shape) count }) have
    (fresh_slots (shape_at heap shape) count)

-- a store changes no number of slots
slots_of_stored : (heap : Heap) (n i : ℕ) (value : Value) → HaveSlots heap
    → All (HasItsSlots heap) (slice_set heap.objects n (with_slot (object_at heap n) i value))
slots_of_stored heap n i value have = elim (cases_lt n (length heap.objects)) [
  | inl there ↦
      (let its = All-get_or (HasItsSlots heap) heap.objects n no_object there have in
      All-set (HasItsSlots heap) heap.objects n (with_slot (object_at heap n) i value)
      (λ e. length-set (object_at heap n).values i value ∙ its e) have)
  | inr past ↦ rw (set_past heap.objects n (with_slot (object_at heap n) i value) past) have
]

slots_after_op : (heap : Heap) (o : Op) → HaveSlots heap → HaveSlots (heap_after_op heap o)
slots_after_op heap (op.Alloc n shape count) have = slots_of_fresh heap shape count have
slots_after_op heap (op.Throw n class) have = slots_of_fresh heap class 0 have
slots_after_op heap (op.Stored (Static n) value) have = have
slots_after_op heap (op.Stored (Slot n i) value) have = slots_of_stored heap n i value have
slots_after_op heap o have = have

statics_stay : (heap : Heap) (o : Op) → length (heap_after_op heap o).statics ≡ length heap.statics
statics_stay heap (op.Alloc n shape count) = refl
statics_stay heap (op.Throw n class) = refl
statics_stay heap (op.Stored (Static n) value) = length-set heap.statics n value
statics_stay heap (op.Stored (Slot n i) value) = refl
statics_stay heap o = refl

of_set_after : (set : SetFacts) (heap : Heap) (o : Op) → IsOfSet set heap → IsOfSet set (heap_after_op heap o)
of_set_after set heap o of = record {
  shapes = shapes_stay heap o ∙ of.shapes;
  statics = rw (statics_stay heap o) of.statics;
  slots = slots_after_op heap o of.slots;
}

-- ---- counts

abbrev Few : ℕ → PlainMonitor → Type 0
Few n m = m.count ≤ n

abbrev Shallow : ℕ → Thread → Type 0
Shallow n t = t.depth ≤ n

more : (n k : ℕ) → k ≤ n → k ≤ suc n
more n k most = omega (arith, most)

few_more : (n : ℕ) (ms : List PlainMonitor) → All (Few n) ms → All (Few (suc n)) ms
few_more n ms all = All-weaker (Few n) (Few (suc n)) (λ (m : PlainMonitor) few. more n m.count few) ms all

shallow_more : (n : ℕ) (ts : List Thread) → All (Shallow n) ts → All (Shallow (suc n)) ts
shallow_more n ts all =
    All-weaker (Shallow n) (Shallow (suc n)) (λ (t : Thread) few. more n t.depth few) ts all

few_entered : (n : ℕ) (ms : List PlainMonitor) (key : PlainKey) (t : ℕ) → All (Few n) ms
    → All (Few (suc n)) (entered ms key t)
few_entered n [] key t all =
    All-cons (Few (suc n)) (record { key = key; owner = t; count = 1 }) [] (omega arith)
    (All-nil (Few (suc n)))
few_entered n (m ∷ ms) key t all =
    let own = All-head (Few n) m ms all in
    let rest = All-tail (Few n) m ms all in
    elim (key_is m.key key) as (λ b. All (Few (suc n)) (if b then record m { count = suc m.count } ∷ ms
    else m ∷ entered ms key t)) [
      | true ↦ All-cons (Few (suc n)) (record m { count = suc m.count }) ms (omega (arith, own))
          (few_more n ms rest)
      | false ↦ All-cons (Few (suc n)) m (entered ms key t) (more n m.count own) (few_entered n ms key t rest)
    ]

few_less : (n : ℕ) (m : PlainMonitor) (ms : List PlainMonitor) → m.count ≤ n → All (Few n) ms
    → All (Few (suc n)) (one_less m ms)
few_less n m ms own rest =
    elim (nat_eq m.count 1) as (λ b. All (Few (suc n)) (if b then ms
    else record m { count = pred m.count } ∷ ms)) [
      | true ↦ few_more n ms rest
      | false ↦ All-cons (Few (suc n)) (record m { count = pred m.count }) ms (pred_most m.count own)
          (few_more n ms rest)
    ]
  where
    pred_most : (k : ℕ) → k ≤ n → pred k ≤ suc n
    pred_most zero most = omega arith
    pred_most (suc k) most = omega (arith, most)

few_exited : (n : ℕ) (ms : List PlainMonitor) (key : PlainKey) → All (Few n) ms
    → All (Few (suc n)) (exited ms key)
few_exited n [] key all = All-nil (Few (suc n))
few_exited n (m ∷ ms) key all =
    let own = All-head (Few n) m ms all in
    let rest = All-tail (Few n) m ms all in
    elim (key_is m.key key) as (λ b. All (Few (suc n)) (if b then one_less m ms else m ∷ exited ms key)) [
      | true ↦ few_less n m ms own rest
      | false ↦ All-cons (Few (suc n)) m (exited ms key) (more n m.count own) (few_exited n ms key rest)
    ]

few_after : (n : ℕ) (ms : List PlainMonitor) (t : ℕ) (o : Op) → All (Few n) ms
    → All (Few (suc n)) (monitors_after_op ms t o)
few_after n ms t (op.Enter key) all = few_entered n ms key t all
few_after n ms t (op.Exit key) all = few_exited n ms key all
few_after n ms t o all = few_more n ms all

shallow_at : (n : ℕ) (f : Thread → Thread) → ((t : Thread) → t.depth ≤ n → (f t).depth ≤ suc n)
    → (ts : List Thread) (t : ℕ) → All (Shallow n) ts → All (Shallow (suc n)) (at_thread f ts t)
shallow_at n f step [] t all = All-nil (Shallow (suc n))
shallow_at n f step (s ∷ ss) zero all =
    All-cons (Shallow (suc n)) (f s) ss (step s (All-head (Shallow n) s ss all))
    (shallow_more n ss (All-tail (Shallow n) s ss all))
shallow_at n f step (s ∷ ss) (suc t) all =
    All-cons (Shallow (suc n)) s (at_thread f ss t) (more n s.depth (All-head (Shallow n) s ss all))
    (shallow_at n f step ss t (All-tail (Shallow n) s ss all))

one_deeper : (n k : ℕ) → k ≤ n → suc k ≤ suc n
one_deeper n k most = omega (arith, most)

one_higher : (n k : ℕ) → k ≤ n → pred k ≤ suc n
one_higher n zero most = omega arith
one_higher n (suc k) most = omega (arith, most)

shallow_after : (n : ℕ) (ts : List Thread) (t : ℕ) (o : Op) → All (Shallow n) ts
    → All (Shallow (suc n)) (threads_after_op ts t o)
shallow_after n ts t (op.Start m child) all =
    All-push (Shallow (suc n)) ts (new_thread (Some m)) (shallow_more n ts all) (omega arith)
shallow_after n ts t op.Begin all =
    shallow_at n (λ (s : Thread). record s { depth = suc s.depth })
    (λ s few. one_deeper n s.depth few) ts t all
shallow_after n ts t op.End all =
    shallow_at n (λ (s : Thread). record s { depth = pred s.depth })
    (λ s few. one_higher n s.depth few) ts t all
shallow_after n ts t (op.Ended uncaught) all =
    shallow_at n (λ (s : Thread). record s { ended = true; uncaught = uncaught })
    (λ s few. more n s.depth few) ts t all
shallow_after n ts t o all = shallow_more n ts all

from_map : {X Y : Type 0} (P : Y → Type 0) (f : X → Y) (xs : List X) → All P (map f xs)
    → All (λ (x : X). P (f x)) xs
from_map P f [] all = All-nil (λ x. P (f x))
from_map P f (x ∷ xs) all =
    All-cons (λ x. P (f x)) x xs (All-head P (f x) (map f xs) all)
    (from_map P f xs (All-tail P (f x) (map f xs) all))

classes_stay : (classes : List Progress) (t : ℕ) (o : Op)
    → length (classes_after_op classes t o) ≡ length classes
classes_stay classes t (op.Init class stage.Begun) = length-set classes class _
classes_stay classes t (op.Init class stage.Done) = length-set classes class _
classes_stay classes t (op.Init class stage.Ready) = refl
classes_stay classes t o = refl

-- ---- words

sum_push : (k : ℕ) (objects : List Obj) (o : Obj) → k ≤ length objects
    → sum_by words_of (drop k (objects ++ o ∷ [])) ≡ sum_by words_of (drop k objects) + words_of o
sum_push zero objects o there =
    let both = sum_by-append words_of objects (o ∷ []) in
    let one = sum_by-cons words_of o [] in
    omega (arith, both, one)
sum_push (suc k) [] o there = absurd (omega (arith, there))
sum_push (suc k) (x ∷ xs) o there = sum_push k xs o (omega (arith, there))

sum_set : (k n : ℕ) (objects : List Obj) (o : Obj)
    → (n < length objects → words_of o ≡ words_of (slice_index_or objects n no_object))
    → sum_by words_of (drop k (slice_set objects n o)) ≡ sum_by words_of (drop k objects)
sum_set k n [] o same = refl
sum_set zero zero (x ∷ xs) o same =
    let after = sum_by-cons words_of o xs in
    let before = sum_by-cons words_of x xs in
    let words = same (omega arith) in
    omega (arith, after, before, words)
sum_set (suc k) zero (x ∷ xs) o same = refl
sum_set zero (suc n) (x ∷ xs) o same =
    let rest = sum_set zero n xs o (λ below. same (omega (arith, below))) in
    let after = sum_by-cons words_of x (slice_set xs n o) in
    let before = sum_by-cons words_of x xs in
    omega (arith, rest, after, before)
sum_set (suc k) (suc n) (x ∷ xs) o same = sum_set k n xs o (λ below. same (omega (arith, below)))

module _ (limits : Limits) (opening : Graph) (heap : Heap) (left now : ℕ)
    (there : length opening.nodes ≤ length heap.objects) (is : left ≡ words_left limits opening heap) where
  pushed : (o : Obj) → TakesWords (Some (words_of o)) left now
      → now ≡ limits.heap_words - sum_by words_of (drop (length opening.nodes) (heap.objects ++ o ∷ []))
  pushed o takes =
      let most = sum_push (length opening.nodes) heap.objects o there in
      let less = takes.1 in
      omega (arith, most, less, is)

  words_next : (o : Op) → TakesWords (words_made heap o) left now
      → now ≡ words_left limits opening (heap_after_op heap o)
  words_next (op.Alloc n shape count) takes =
      pushed (record { shape = shape; values = fresh_values (shape_at heap shape) count }) takes
  words_next (op.Throw n class) takes =
      pushed (record { shape = class; values = fresh_values (shape_at heap class) 0 }) takes
  words_next (op.Stored (Static n) value) takes = takes ∙ is
  words_next (op.Stored (Slot n i) value) takes =
      takes ∙ is ∙ ap (λ w. limits.heap_words - w) (sym (sum_set (length opening.nodes) n heap.objects
      (with_slot (object_at heap n) i value)
      (λ below. ap (λ slots. 3 + slots) (length-set (object_at heap n).values i value))))
  words_next o takes = takes ∙ is

objects_stay : (heap : Heap) (o : Op) → length heap.objects ≤ length (heap_after_op heap o).objects
objects_stay heap (op.Alloc n shape count) =
    let fresh : Obj = record { shape = shape; values = fresh_values (shape_at heap shape) count } in
    let long = length-append heap.objects (fresh ∷ []) in
    omega (arith, long)
objects_stay heap (op.Throw n class) =
    let fresh : Obj = record { shape = class; values = fresh_values (shape_at heap class) 0 } in
    let long = length-append heap.objects (fresh ∷ []) in
    omega (arith, long)
objects_stay heap (op.Stored (Static n) value) = omega arith
objects_stay heap (op.Stored (Slot n i) value) =
    let long = length-set heap.objects n (with_slot (object_at heap n) i value) in omega (arith, long)
objects_stay heap o = omega arith

-- ---- steps

module _ (set : SetFacts) (t : ℕ) (request : Request Ref Item) (before : Shown) (rest : Rest) (now : Shown)
    (rest_now : Rest) where
  abbrev world : World
  world = world_of [] before rest

  abbrev plain : PlainRequest
  plain = plain_request before.number request

  -- what holds of the world before, and of the world after each step, holds of the world now
  by_world : (P : World → Type 0) → P world
      → ((o : Op) (r : PlainReply) → step set world t (taken_by o) plain ≡ Does o r → P (after world t o))
      → (result : Stepped) → IsStep set t request before rest result now rest_now
      → P (world_of [] now rest_now)
  by_world P same next (stepped.Did o r) goes =
      let it = goes.follows [] in subst P (sym it.2) (next o (plain_reply now.number r) it.0)
  by_world P same next (stepped.Waits on) goes = let it = goes.follows [] in subst P (sym it.1) same
  by_world P same next stepped.Wrong goes = let it = goes.follows [] in subst P (sym it.1) same
  by_world P same next (stepped.Over f) goes = let it = goes.follows [] in subst P (sym it.1) same

  module _ (result : Stepped) (fit : IsFit set world t plain)
      (goes : IsStep set t request before rest result now rest_now) where
    pub heap_kept : IsHeapOf set before → IsHeapOf set now
    heap_kept heap = record {
      consistent = heap.consistent;
      of_set = by_world (λ w. IsOfSet set w.heap) heap.of_set
          (λ o r does. of_set_after set world.heap o heap.of_set) result goes;
      typed = by_world (λ w. IsTyped set w.heap) heap.typed
          (λ o r does. step_leaves_typed set world heap.consistent heap.of_set.shapes heap.typed t
          (taken_by o) plain o r fit does)
          result goes;
    }

    pub classes_kept : length rest_now.classes.items ≡ length rest.classes.items
    classes_kept = by_world (λ w. length w.classes ≡ length rest.classes.items) refl
        (λ o r does. classes_stay rest.classes.items t o) result goes

    pub objects_kept : length before.objects ≤ length now.objects
    objects_kept = by_world (λ w. length before.objects ≤ length w.heap.objects) (omega arith)
        (λ o r does. objects_stay world.heap o) result goes

    pub counts_kept : (acts : ℕ) → AtMost acts rest → AtMost (suc acts) rest_now
    counts_kept acts most =
        let few = All-map (Few acts) (plain_monitor before.number) rest.monitors most.monitors in
        let shallow = All-map (Shallow acts) plain_thread rest.threads most.threads in
        record {
          monitors = from_map (Few (suc acts)) (plain_monitor now.number) rest_now.monitors
              (by_world (λ w. All (Few (suc acts)) w.monitors) (few_more acts world.monitors few)
              (λ o r does. few_after acts world.monitors t o few) result goes);
          threads = from_map (Shallow (suc acts)) plain_thread rest_now.threads
              (by_world (λ w. All (Shallow (suc acts)) w.threads) (shallow_more acts world.threads shallow)
              (λ o r does. shallow_after acts world.threads t o shallow) result goes);
        }

    pub agrees_kept : (acts : ℕ) → Agrees set before rest → AtMost acts rest → suc acts < 2 ^ 64 - 1
        → Agrees set now rest_now
    agrees_kept acts agrees most few =
        let counts = counts_kept acts most in
        record {
          heap = heap_kept agrees.heap;
          classes = classes_kept ∙ agrees.classes;
          monitors = goes.monitors;
          counts = record {
            monitors = All-weaker (λ (m : Monitor). m.count ≤ suc acts)
                (λ (m : Monitor). m.count < 2 ^ 64 - 1)
                (λ (m : Monitor) k. below m.count k) rest_now.monitors counts.monitors;
            threads = All-weaker (λ (s : ThreadState). s.depth ≤ suc acts)
                (λ (s : ThreadState). s.depth < 2 ^ 64 - 1)
                (λ (s : ThreadState) k. below s.depth k) rest_now.threads counts.threads;
          };
        }
      where
        below : (k : ℕ) → k ≤ suc acts → k < 2 ^ 64 - 1
        below k most = omega (arith, most, few)

  module _ (limits : Limits) (opening : Graph) where
    pub words_kept : (result : Stepped) → IsStep set t request before rest result now rest_now
        → length opening.nodes ≤ length before.objects
        → before.left ≡ words_left limits opening (heap_of [] before)
        → now.left ≡ words_left limits opening (heap_of [] now)
    words_kept (stepped.Did o r) goes there is =
        words_next limits opening (heap_of [] before) before.left now.left there is o goes.words
        ∙ ap (λ (w : World). words_left limits opening w.heap) (sym (goes.follows []).2)
    words_kept (stepped.Waits on) goes there is =
        goes.words ∙ is ∙ ap (λ (w : World). words_left limits opening w.heap) (sym (goes.follows []).1)
    words_kept stepped.Wrong goes there is =
        goes.words ∙ is ∙ ap (λ (w : World). words_left limits opening w.heap) (sym (goes.follows []).1)
    words_kept (stepped.Over f) goes there is =
        goes.words ∙ is ∙ ap (λ (w : World). words_left limits opening w.heap) (sym (goes.follows []).1)
