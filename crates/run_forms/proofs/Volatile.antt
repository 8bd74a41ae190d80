-- Where nothing is durable, the act of each step may come next, and nothing is durable after it.
use Rattle.std.proofs.Common.{◌≡◌, ℕ, zero, suc, pred, ◌+◌, ◌-◌, ◌<◌, ◌≤◌, ◌&&◌, Bool, true, false, not, List, [], ◌∷◌, ◌++◌}
use Rattle.std.proofs.Common.{length, map, nat_eq, sum_by, Option, Some, None, refl, ap, sym, subst, ◌∙◌, arith, if◌then◌else◌}
use Rattle.std.specs.Prelude.{slice_set, slice_index_or, filter}
use Rattle.std.specs.List.{AllByRecursion}
use Rattle.std.proofs.lemmas.List.{length-append}
use Rattle.std.proofs.lemmas.List.Sums.{sum_by-append, sum_by-cons}
use Rattle.std.proofs.lemmas.List.Elements.{All-from_recursion}
use Rattle.ap_base.specs.declared.place.Place.{Place}
use Rattle.ap_base.specs.declared.place.Place.TheVariants.{Static, Slot}
use Rattle.ap_base.specs.declared.reference.Ref.{Ref}
use Rattle.ap_base.specs.declared.reference.Ref.TheVariants.{Null}
use Rattle.ap_base.specs.declared.reference.Item.{Item}
use Rattle.graph_model.specs.declared.types.Heap.{Heap}
use Rattle.graph_model.specs.declared.types.Obj.{Obj}
use Rattle.graph_model.specs.declared.types.Root.{Root}
use Rattle.graph_model.specs.Heaps.{has_number, no_object, object_at, with_slot}
use Rattle.natives.specs.declared.requests.Request.{Request}
use Rattle.natives.specs.declared.requests.Reply.{Reply}
use Rattle.run_history.specs.declared.act.Op.{Op}
use Rattle.run_history.specs.declared.act.Op.TheVariants as op
use Rattle.run_history.specs.declared.act.Stage.TheVariants as stage
use Rattle.run_history.specs.declared.act.PlainKey.{PlainKey}
use Rattle.run_history.specs.declared.plain.Monitor.{Monitor as PlainMonitor}
use Rattle.run_history.specs.declared.plain.Progress.{Progress}
use Rattle.run_history.specs.Recorded.{Recorded, NamesRightly}
use Rattle.run_history.specs.Worlds.{Thread, World, after, entered, exited, at_thread, key_is, heap_after_op, monitors_after_op}
use Rattle.run_history.specs.Worlds.{classes_after_op, threads_after_op}
use Rattle.run_history.specs.Knowing.{Knowledge, known_after_op, next_known, durable_at, is_root, has_guards, owes_fence}
use Rattle.run_history.specs.Knowing.{is_single, store_fate, is_outermost, after_end}
use Rattle.run_history.specs.Wanted.{Wishes, IsClosed}
use Rattle.plain_model.specs.Facts.{SetFacts}
use Rattle.plain_model.specs.First.{first_known}
use Rattle.plain_model.specs.Requests.{PlainRequest}
use Rattle.plain_model.specs.Limits.{words_of, words_made}
use Rattle.plain_model.specs.Steps.{Does, step, op_of}
use Rattle.plain_model.specs.Codes.{is_persistent, taken_by, begun_by}
use Rattle.plain_model.specs.Runs.{IsAbout, MayAct, Rule, is_fenced, wants_of}
use Rattle.plain_model.proofs.Appended.{known_after-append}
use Rattle.monitors.specs.declared.monitor.Monitor.{Monitor}
use Rattle.shared_objects.specs.declared.rest.Rest.{Rest}
use Rattle.shared_objects.specs.declared.threads.ThreadState.{ThreadState}
use Rattle.shared_objects.specs.Shown.{Shown}
use Rattle.shared_objects.specs.Plain.{plain_request, plain_reply}
use Rattle.shared_objects.specs.Worlds.{heap_of, plain_monitor, plain_thread, world_of}
use Rattle.step_forms.specs.declared.stepped.Stepped.TheVariants as stepped
use Rattle.step_forms.specs.Follows.{Agrees, IsStep, TakesWords}
use Rattle.run_forms.specs.Views.{ThreadFrames, plain_frames}
use Rattle.run_forms.specs.Standing.{Launch, IsLaunch, IsAsking, plain_code, known_at, IsRun}
use Rattle.run_forms.specs.Laws.{answered_threads}
use Rattle.run_forms.specs.Volatile.{HasNothingDurable, CountsTo, words_left_of, IsVolatile, act_of}
use Rattle.run_forms.proofs.Asked.{BuiltIns, heap-is, fit-here}
use Rattle.run_forms.proofs.Acted.{acted, acted-run}
use Rattle.run_forms.proofs.Visible.{step-visible}

no-true : {P : Type 0} → false ≡ true → P
no-true e = absurd (let no : false ≡ true = e in cc)

no-false : {P : Type 0} → true ≡ false → P
no-false e = absurd (let no : true ≡ false = e in cc)

and-false : (b : Bool) → (b && false) ≡ false
and-false true = refl
and-false false = refl

-- ---- nothing is durable

pub not-durable : (known : Knowledge) → HasNothingDurable known → (place : Place) → durable_at known place ≡ false
not-durable known none (Static n) = ap (λ roots. is_root roots n) none.roots
not-durable known none (Slot n i) = ap (λ durable. has_number durable n) none.objects

not-single : (t : ℕ) (durable : Bool) (depth : ℕ) (closing : Bool) → durable ≡ false
    → is_single (store_fate t durable depth closing) ≡ false
not-single t true depth closing e = no-false e
not-single t false depth closing e = refl

unless-single : {X : Type 0} (b : Bool) (xs ys : List X) → b ≡ false → (if b then xs else ys) ≡ ys
unless-single true xs ys e = no-false e
unless-single false xs ys e = refl

roots-same : (heap : Heap) (o : Op) → (heap_after_op heap o).roots ≡ heap.roots
roots-same heap (op.Alloc n shape count) = refl
roots-same heap (op.Throw n class) = refl
roots-same heap (op.Stored (Static n) value) = refl
roots-same heap (op.Stored (Slot n i) value) = refl
roots-same heap o = refl

-- what a visible operation leaves as it is
module _ (known : Knowledge) (none : HasNothingDurable known) (t : ℕ) where
  ended-nothing : (outermost : Bool) → HasNothingDurable (after_end known t outermost)
  ended-nothing true = record {
    objects = none.objects;
    roots = none.roots;
    guards = ap (filter (λ g. not (nat_eq g.thread t))) none.guards;
    unfenced = none.unfenced;
  }
  ended-nothing false = record {
    objects = none.objects;
    roots = none.roots;
    guards = none.guards;
    unfenced = none.unfenced;
  }

  op-nothing : (o : Op) → is_persistent o ≡ false → HasNothingDurable (known_after_op known t [] o)
  unfolding known_after_op
  op-nothing (op.Asked place value) e = no-false e
  op-nothing op.Joined e = no-false e
  op-nothing (op.Guarded place) e = no-false e
  op-nothing op.Closing e = no-false e
  op-nothing op.Fenced e = no-false e
  op-nothing (op.Stored place value) e = record {
    objects = none.objects;
    roots = roots-same known.world.heap (op.Stored place value) ∙ none.roots;
    guards = none.guards;
    unfenced = unless-single _ _ _ (not-single t (durable_at known place) _ _ (not-durable known none place))
        ∙ none.unfenced;
  }
  op-nothing op.End e = ended-nothing (is_outermost known t)
  op-nothing (op.Alloc n shape count) e =
      record { objects = none.objects; roots = none.roots; guards = none.guards; unfenced = none.unfenced }
  op-nothing (op.Throw n class) e =
      record { objects = none.objects; roots = none.roots; guards = none.guards; unfenced = none.unfenced }
  op-nothing o e =
      record { objects = none.objects; roots = none.roots; guards = none.guards; unfenced = none.unfenced }

  next-nothing : (calls : ℕ) (o : Op) → is_persistent o ≡ false
      → HasNothingDurable (next_known known (act_of t calls o))
  next-nothing calls o e =
      let after_it = op-nothing o e in record {
        objects = after_it.objects;
        roots = after_it.roots;
        guards = after_it.guards;
        unfenced = after_it.unfenced;
      }

nothing-closed : (known : Knowledge) → HasNothingDurable known → IsClosed known
nothing-closed known none = record {
  objects = λ m n durable refers.
      no-true (sym (ap (λ ns. has_number ns m) none.objects) ∙ durable);
  roots = λ k n root is. no-true (sym (ap (λ roots. is_root roots k) none.roots) ∙ root);
}

-- ---- the act may come next

module _ (set : SetFacts) (known : Knowledge) (Now : Wishes) (q : PlainRequest) (t calls : ℕ)
    (none : HasNothingDurable known) where
  never-durable : {P : Type 0} (place : Place) → durable_at known place ≡ true → P
  never-durable place e = no-true (sym (not-durable known none place) ∙ e)

  rule-of : (o : Op) → is_persistent o ≡ false → IsAbout set known (Some q) t o
      → Rule set known Now (Some q) t [] o
  rule-of (op.Asked place value) e about = no-false e
  rule-of op.Joined e about = no-false e
  rule-of (op.Guarded place) e about = no-false e
  rule-of op.Closing e about = no-false e
  rule-of op.Fenced e about = no-false e
  rule-of (op.Stored place value) e about = record {
    is_about = about;
    no_race = λ durable. never-durable place durable;
    guarded = λ durable inside. never-durable place durable;
  }
  rule-of op.End e about = record {
    is_about = about;
    closing = λ outermost guards.
        no-true (sym (ap (λ gs. has_guards gs t) none.guards) ∙ guards);
  }
  rule-of o e about = about

  names-of : (o : Op) → NamesRightly o []
  names-of op.Joined = tt
  names-of o = refl

  not-fenced : (o : Op) → is_persistent o ≡ false → is_fenced o ≡ false
  not-fenced op.Fenced e = no-false e
  not-fenced o e = refl

  may-come : (o : Op) → known.at ≤ calls → is_persistent o ≡ false → IsAbout set known (Some q) t o
      → MayAct set known Now (Some q) (act_of t calls o)
  may-come o later e about = record {
    later = later;
    rule = rule-of o e about;
    named = names-of o;
    fence = not-fenced o e ∙ sym (ap (λ us. owes_fence us t) none.unfenced);
    is_closed = nothing-closed (next_known known (act_of t calls o)) (next-nothing known none t calls o e);
  }

-- ---- counts

length-set : {X : Type 0} (xs : List X) (i : ℕ) (x : X) → length (slice_set xs i x) ≡ length xs
length-set [] i x = refl
length-set (y ∷ ys) zero x = refl
length-set (y ∷ ys) (suc i) x = ap suc (length-set ys i x)

classes-length : (classes : List Progress) (t : ℕ) (o : Op)
    → length (classes_after_op classes t o) ≡ length classes
classes-length classes t (op.Init class stage.Begun) = length-set classes class _
classes-length classes t (op.Init class stage.Done) = length-set classes class _
classes-length classes t (op.Init class stage.Ready) = refl
classes-length classes t o = refl

by-if : {X : Type 0} (P : X → Type 0) (b : Bool) (x y : X) → P x → P y → P (if b then x else y)
by-if P true x y p q = p
by-if P false x y p q = q

pred-most : (k n : ℕ) → k ≤ n → pred k ≤ n
pred-most zero n h = h
pred-most (suc k) n h = omega (arith, h)

module _ (n : ℕ) where
  abbrev EnteredTo : ℕ → List PlainMonitor → Type 0
  EnteredTo k ms = AllByRecursion (λ (m : PlainMonitor). m.count ≤ k) ms

  abbrev NestedTo : ℕ → List Thread → Type 0
  NestedTo k ths = AllByRecursion (λ (th : Thread). th.depth ≤ k) ths

  more-entered : (ms : List PlainMonitor) → EnteredTo n ms → EnteredTo (suc n) ms
  more-entered [] h = tt
  more-entered (m ∷ ms) h = (omega (arith, h.0), more-entered ms h.1)

  entered-to : (ms : List PlainMonitor) (key : PlainKey) (t : ℕ) → EnteredTo n ms
      → EnteredTo (suc n) (entered ms key t)
  entered-to [] key t h = (omega arith, tt)
  entered-to (m ∷ ms) key t h = by-if (EnteredTo (suc n)) (key_is m.key key) _ _
      (omega (arith, h.0), more-entered ms h.1) (omega (arith, h.0), entered-to ms key t h.1)

  exited-to : (ms : List PlainMonitor) (key : PlainKey) → EnteredTo n ms → EnteredTo n (exited ms key)
  exited-to [] key h = tt
  exited-to (m ∷ ms) key h = by-if (EnteredTo n) (key_is m.key key) _ _
      (by-if (EnteredTo n) (nat_eq m.count 1) _ _ h.1 (pred-most m.count n h.0, h.1))
      (h.0, exited-to ms key h.1)

  monitors-to : (ms : List PlainMonitor) (t : ℕ) (o : Op) → EnteredTo n ms
      → EnteredTo (suc n) (monitors_after_op ms t o)
  monitors-to ms t (op.Enter key) h = entered-to ms key t h
  monitors-to ms t (op.Exit key) h = more-entered (exited ms key) (exited-to ms key h)
  monitors-to ms t o h = more-entered ms h

  more-nested : (ths : List Thread) → NestedTo n ths → NestedTo (suc n) ths
  more-nested [] h = tt
  more-nested (th ∷ ths) h = (omega (arith, h.0), more-nested ths h.1)

  at-nested : (f : Thread → Thread) → ((th : Thread) → th.depth ≤ n → (f th).depth ≤ suc n)
      → (ths : List Thread) (t : ℕ) → NestedTo n ths → NestedTo (suc n) (at_thread f ths t)
  at-nested f is [] t h = tt
  at-nested f is (th ∷ ths) zero h = (is th h.0, more-nested ths h.1)
  at-nested f is (th ∷ ths) (suc t) h = (omega (arith, h.0), at-nested f is ths t h.1)

  started-nested : (ths : List Thread) (th : Thread) → th.depth ≡ 0 → NestedTo n ths
      → NestedTo (suc n) (ths ++ th ∷ [])
  started-nested [] th e h = (omega (arith, e), tt)
  started-nested (u ∷ us) th e h = (omega (arith, h.0), started-nested us th e h.1)

  threads-to : (ths : List Thread) (t : ℕ) (o : Op) → NestedTo n ths
      → NestedTo (suc n) (threads_after_op ths t o)
  threads-to ths t (op.Start k child) h = started-nested ths _ refl h
  threads-to ths t op.Begin h =
      at-nested (λ thread. record thread { depth = suc thread.depth }) (λ th is. omega (arith, is)) ths t h
  threads-to ths t op.End h =
      at-nested (λ thread. record thread { depth = pred thread.depth })
      (λ th is. pred-most th.depth (suc n) (omega (arith, is))) ths t h
  threads-to ths t (op.Ended uncaught) h =
      at-nested (λ thread. record thread { ended = true; uncaught = uncaught }) (λ th is. omega (arith, is))
      ths t h
  threads-to ths t o h = more-nested ths h

module _ (n : ℕ) (number : Ref → Option ℕ) where
  plain-entered : (ms : List Monitor) → AllByRecursion (λ (m : Monitor). m.count ≤ n) ms
      → EnteredTo n n (map (plain_monitor number) ms)
  plain-entered [] h = tt
  plain-entered (m ∷ ms) h = (h.0, plain-entered ms h.1)

  own-entered : (ms : List Monitor) → EnteredTo n n (map (plain_monitor number) ms)
      → AllByRecursion (λ (m : Monitor). m.count ≤ n) ms
  own-entered [] h = tt
  own-entered (m ∷ ms) h = (h.0, own-entered ms h.1)

module _ (n : ℕ) where
  plain-nested : (ss : List ThreadState) → AllByRecursion (λ (s : ThreadState). s.depth ≤ n) ss
      → NestedTo n n (map plain_thread ss)
  plain-nested [] h = tt
  plain-nested (s ∷ ss) h = (h.0, plain-nested ss h.1)

  own-nested : (ss : List ThreadState) → NestedTo n n (map plain_thread ss)
      → AllByRecursion (λ (s : ThreadState). s.depth ≤ n) ss
  own-nested [] h = tt
  own-nested (s ∷ ss) h = (h.0, own-nested ss h.1)

  few-monitors : (ms : List Monitor) → n < 18446744073709551615
      → AllByRecursion (λ (m : Monitor). m.count ≤ n) ms
      → AllByRecursion (λ (m : Monitor). m.count < 18446744073709551615) ms
  few-monitors [] below h = tt
  few-monitors (m ∷ ms) below h = (omega (arith, below, h.0), few-monitors ms below h.1)

  few-threads : (ss : List ThreadState) → n < 18446744073709551615
      → AllByRecursion (λ (s : ThreadState). s.depth ≤ n) ss
      → AllByRecursion (λ (s : ThreadState). s.depth < 18446744073709551615) ss
  few-threads [] below h = tt
  few-threads (s ∷ ss) below h = (omega (arith, below, h.0), few-threads ss below h.1)

-- ---- words

sum-push : (xs : List Obj) (x : Obj) → sum_by words_of (xs ++ x ∷ []) ≡ sum_by words_of xs + words_of x
sum-push xs x =
    let both = sum_by-append words_of xs (x ∷ []) in
    let one = sum_by-cons words_of x [] in
    omega (arith, both, one)

sum-set : (xs : List Obj) (n : ℕ) (x d : Obj) → words_of x ≡ words_of (slice_index_or xs n d)
    → sum_by words_of (slice_set xs n x) ≡ sum_by words_of xs
sum-set [] n x d e = refl
sum-set (y ∷ ys) zero x d e =
    let before = sum_by-cons words_of y ys in
    let now = sum_by-cons words_of x ys in
    omega (arith, before, now, e)
sum-set (y ∷ ys) (suc n) x d e =
    let before = sum_by-cons words_of y ys in
    let now = sum_by-cons words_of y (slice_set ys n x) in
    let others = sum-set ys n x d e in
    omega (arith, before, now, others)

abbrev made_or : Option ℕ → ℕ
made_or None = 0
made_or (Some need) = need

words-after : (heap : Heap) (o : Op)
    → sum_by words_of (heap_after_op heap o).objects
    ≡ sum_by words_of heap.objects + made_or (words_made heap o)
words-after heap (op.Alloc n shape count) = sum-push heap.objects _
words-after heap (op.Throw n class) = sum-push heap.objects _
words-after heap (op.Stored (Static n) value) = omega arith
words-after heap (op.Stored (Slot n i) value) =
    let e = sum-set heap.objects n (with_slot (object_at heap n) i value) no_object
    (ap (λ k. 3 + k) (length-set (object_at heap n).values i value)) in
    omega (arith, e)
words-after heap o = omega arith

left-after : (made : Option ℕ) (before now : ℕ) → TakesWords made before now → now ≡ before - made_or made
left-after None before now e = omega (arith, e)
left-after (Some need) before now h = h.1

-- ---- the machine

module _ (laws : BuiltIns) (launch : Launch) (calls : ℕ) (acts : List Recorded)
    (shown : Shown) (rest : Rest) (threads : List ThreadFrames) (is : IsLaunch launch)
    (here : IsVolatile launch calls acts shown rest threads) where
  pub agree : length acts < 18446744073709551615 → Agrees launch.set shown rest
  agree few = record {
    heap = heap-is laws launch acts shown rest threads is here.stands;
    classes = here.classes;
    monitors = here.stands.monitors;
    counts = record {
      monitors = All-from_recursion (λ (m : Monitor). m.count < 18446744073709551615)
          rest.monitors
          (few-monitors (length acts) rest.monitors few here.counts.monitors);
      threads = All-from_recursion (λ (s : ThreadState). s.depth < 18446744073709551615)
          rest.threads
          (few-threads (length acts) rest.threads few here.counts.threads);
    };
  }

  module _ (t : ℕ) (fs : ThreadFrames) (q : Request Ref Item) (o : Op) (r : Reply Ref Item)
      (now : Shown) (rest_now : Rest)
      (asking : IsAsking launch rest threads t fs q)
      (steps : IsStep launch.set t q shown rest (stepped.Did o r) now rest_now) where
    abbrev roots : List Root
    roots = here.stands.roots

    abbrev known : Knowledge
    known = known_at launch acts

    does : step launch.set known.world t (taken_by o) (plain_request shown.number q)
        ≡ Does o (plain_reply now.number r)
    does = ap (λ w. step launch.set w t (taken_by o) (plain_request shown.number q)) here.stands.world
        ∙ (steps.follows roots).0

    goes-to : world_of roots now rest_now ≡ after (world_of roots shown rest) t o
    goes-to = (steps.follows roots).2

    is-visible : is_persistent o ≡ false
    is-visible = step-visible launch.set known.world t (taken_by o) (plain_request shown.number q) o
        (plain_reply now.number r)
        (fit-here laws launch acts shown rest threads is here.stands t fs q asking) does

    known-next : known_at launch (acts ++ act_of t calls o ∷ []) ≡ next_known known (act_of t calls o)
    known-next = known_after-append (first_known launch.set launch.opening) acts (act_of t calls o ∷ [])

    more : length (acts ++ act_of t calls o ∷ []) ≡ suc (length acts)
    more = let e = length-append acts (act_of t calls o ∷ []) in omega (arith, e)

    counts-next : CountsTo (suc (length acts)) rest_now
    counts-next = record {
      monitors = own-entered (suc (length acts)) now.number rest_now.monitors
          (subst (EnteredTo (length acts) (suc (length acts)))
          (sym (ap (λ (w : World). w.monitors) goes-to))
          (monitors-to (length acts) (map (plain_monitor shown.number) rest.monitors) t o
          (plain-entered (length acts) shown.number rest.monitors here.counts.monitors)));
      threads = own-nested (suc (length acts)) rest_now.threads
          (subst (NestedTo (length acts) (suc (length acts)))
          (sym (ap (λ (w : World). w.threads) goes-to))
          (threads-to (length acts) (map plain_thread rest.threads) t o
          (plain-nested (length acts) rest.threads here.counts.threads)));
    }

    words-next : now.left ≡ words_left_of launch.limits now
    words-next =
        let left = left-after (words_made (heap_of [] shown) o) shown.left now.left steps.words in
        let all = words-after (heap_of roots shown) o in
        let objects : sum_by words_of now.objects ≡ sum_by words_of (heap_after_op (heap_of roots shown) o).objects
        = ap (λ (w : World). sum_by words_of w.heap.objects) goes-to in
        omega (arith, left, all, objects, here.words)

    may : MayAct launch.set known (wants_of launch.set launch.main launch.opening (plain_code launch) acts)
        (Some (plain_request shown.number q)) (act_of t calls o)
    may = may-come launch.set known (wants_of launch.set launch.main launch.opening (plain_code launch) acts)
        (plain_request shown.number q) t calls here.nothing o here.timed is-visible (ap op_of does)

    pub volatile-run : IsRun launch (acts ++ act_of t calls o ∷ [])
    volatile-run = acted-run laws launch acts shown rest threads is here.stands (act_of t calls o) fs q asking may

    pub volatile-acted : now.number Null ≡ None → (begun : List ThreadFrames)
        → map (plain_frames now) begun
        ≡ begun_by launch.set launch.main launch.opening (plain_code launch) o
        → IsVolatile launch calls (acts ++ act_of t calls o ∷ []) now rest_now
        (answered_threads launch threads t fs r begun)
    volatile-acted null begun begins = record {
      stands = acted laws launch acts shown rest threads is here.stands (act_of t calls o) fs q r now rest_now
          begun asking (record { steps = steps; may = may; null = null }) begins;
      nothing = subst HasNothingDurable (sym known-next) (next-nothing known here.nothing t calls o is-visible);
      timed = subst (λ (k : Knowledge). k.at ≤ calls) (sym known-next) (omega arith);
      classes = ap (λ (w : World). length w.classes) goes-to
          ∙ classes-length rest.classes.items t o ∙ here.classes;
      counts = subst (λ n. CountsTo n rest_now) (sym more) counts-next;
      words = words-next;
      nodes = here.nodes;
    }
