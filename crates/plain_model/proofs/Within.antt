-- A run whose events end by no fault stays within its limits.
use Rattle.std.proofs.Common.{◌≡◌, ℕ, zero, suc, ◌+◌, ◌<◌, ◌≤◌, max, Bool, true, false, nat_eq, nat_le, not, ◌||◌, cond, filter}
use Rattle.std.proofs.Common.{subst, List, [], ◌∷◌, ◌++◌, length, refl, ap, sym, ◌∙◌, append_assoc, length-append, arith}
use Rattle.std.proofs.Common.{if◌then◌else◌}
use Rattle.std.specs.Prelude.{pred, Option, Some, None, drop, sum_by, slice_set, slice_index_or}
use Rattle.std.proofs.lemmas.Bool.{eqb-true, ne_eqb, leb-true, le-leb, true≢false}
use Rattle.std.proofs.lemmas.List.{length-set, append-nil}
use Rattle.std.proofs.lemmas.List.Elements.{filter-append}
use Rattle.std.proofs.lemmas.List.Sums.{sum_by-append, sum_by-cons}
use Rattle.ap_base.specs.declared.place.Place.{Place}
use Rattle.ap_base.specs.declared.place.Place.TheVariants.{Static, Slot}
use Rattle.run_types.specs.declared.limits.Limits.{Limits}
use Rattle.run_types.specs.declared.fault.RunFault.{RunFault}
use Rattle.run_types.specs.declared.fault.Which.{Which}
use Rattle.run_types.specs.declared.fault.Which.TheVariants as which
use Rattle.graph_model.specs.declared.types.Value.{Value}
use Rattle.graph_model.specs.declared.types.Obj.{Obj}
use Rattle.graph_model.specs.declared.types.Graph.{Graph}
use Rattle.graph_model.specs.Heaps.{no_object, object_at, with_slot, shape_at, fresh_values}
use Rattle.run_history.specs.declared.act.Op.{Op}
use Rattle.run_history.specs.declared.act.Op.TheVariants as op
use Rattle.run_history.specs.declared.act.PlainKey.{PlainKey}
use Rattle.run_history.specs.declared.plain.Monitor.{Monitor}
use Rattle.run_history.specs.Recorded.{Recorded}
use Rattle.run_history.specs.Worlds.{Thread, new_thread, depth_of, held, key_is, entered, one_less, exited, at_thread}
use Rattle.run_history.specs.Worlds.{heap_after_op, monitors_after_op, threads_after_op, after}
use Rattle.run_history.specs.Knowing.{Fate, Sure, Mark, Guard, Knowledge, guard_of, next_known, known_after, known_after_op}
use Rattle.run_history.specs.Knowing.{each_fate, ended, closed, fenced, is_outermost, after_end, fate_of, owes_fence}
use Rattle.plain_model.specs.Facts.{SetFacts}
use Rattle.plain_model.specs.First.{first_known, first_world, first_heap}
use Rattle.plain_model.specs.Requests.{PlainRequest}
use Rattle.plain_model.specs.Limits.{most_threads, most_monitors, most_log_entries, guards_of, log_entries_left, words_of}
use Rattle.plain_model.specs.Limits.{words_taken, words_left, acts_left, monitors_left}
use Rattle.plain_model.specs.LimitLaws.{HaveNoFault, IsWorldWithin}
use Rattle.plain_model.specs.Steps.{Step, Does, Waits, WrongOperand, IsOver, step, op_of}
use Rattle.plain_model.specs.Codes.{Code, is_persistent, taken_by}
use Rattle.plain_model.specs.Runs.{IsAbout, MayGuard, Rule, op_given, IsPlainRun, known_of, wants_of, request_after, is_fenced}
use Rattle.plain_model.specs.Ends.{full, full_unless, fault_of_durable_store, fault_of_enter, fault_of_op, fault_of_step}
use Rattle.plain_model.specs.Ends.{fault_of_request, fault_of}
use Rattle.plain_model.proofs.Appended.{known_after-append}
use Rattle.plain_model.proofs.Durable.{world-known_after_op}
use Rattle.plain_model.proofs.Sanctioned.{sanctioned}
use Rattle.plain_model.proofs.Visible.{may_act, about_from_rule}

-- what is left is enough
enough : (which : Which) (need left : ℕ) (is_enough : Bool) → nat_le need left ≡ is_enough
    → (if is_enough then None else Some (full which need left)) ≡ None → need ≤ left
enough which need left true e none = leb-true need left e
enough which need left false e none =
    absurd (let no : ◌≡◌ {A = Option RunFault} (Some (full which need left)) None = none in cc)

enough_left : (which : Which) (need left : ℕ) → full_unless which need left ≡ None → need ≤ left
enough_left which need left none = enough which need left (nat_le need left) refl none

-- an act adds one mark
length-push : (marks : List Mark) (m : Mark) → length (marks ++ m ∷ []) ≡ suc (length marks)
length-push marks m = omega (arith, length-append marks (m ∷ []))

length-each_fate : (f : Fate → Fate) (marks : List Mark) → length (each_fate f marks) ≡ length marks
length-each_fate f [] = refl
length-each_fate f (m ∷ ms) = ap suc (length-each_fate f ms)

length-each_push : (f : Fate → Fate) (marks : List Mark) (m : Mark)
    → length (each_fate f marks ++ m ∷ []) ≡ suc (length marks)
length-each_push f marks m = length-push (each_fate f marks) m ∙ ap suc (length-each_fate f marks)

length-end : (known : Knowledge) (t : ℕ) (outermost : Bool)
    → length (after_end known t outermost).marks ≡ suc (length known.marks)
length-end known t true = length-each_push (ended t) known.marks (record { fate = Sure; op = op.End })
length-end known t false = length-push known.marks (record { fate = Sure; op = op.End })

one_mark : (known : Knowledge) (t : ℕ) (named : List ℕ) (o : Op)
    → length (known_after_op known t named o).marks ≡ suc (length known.marks)
unfolding known_after_op
one_mark known t named op.Closing =
    length-each_push (closed t) known.marks (record { fate = Sure; op = op.Closing })
one_mark known t named op.Fenced =
    length-each_push (fenced t) known.marks (record { fate = Sure; op = op.Fenced })
one_mark known t named (op.Stored place value) =
    length-push known.marks (record { fate = fate_of known t place; op = op.Stored place value })
one_mark known t named op.End = length-end known t (is_outermost known t)
one_mark known t named o = length-push known.marks (record { fate = Sure; op = o })

pub each_act_leaves_a_mark : (known : Knowledge) (acts : List Recorded)
    → length (known_after known acts).marks ≡ length known.marks + length acts
each_act_leaves_a_mark known [] = omega arith
each_act_leaves_a_mark known (a ∷ acts) =
    let rest = each_act_leaves_a_mark (next_known known a) acts in
    let one = one_mark known a.act.thread a.named a.act.op in
    omega (arith, rest, one)

-- one more object takes at most its own words
sum-push : (k : ℕ) (objects : List Obj) (o : Obj)
    → sum_by words_of (drop k (objects ++ o ∷ [])) ≤ sum_by words_of (drop k objects) + words_of o
sum-push zero objects o =
    let both = sum_by-append words_of objects (o ∷ []) in
    let one = sum_by-cons words_of o [] in
    omega (arith, both, one)
sum-push (suc k) [] o = drop_none k
  where
    drop_none : (n : ℕ) → sum_by words_of (drop n []) ≤ sum_by words_of (drop (suc n) []) + words_of o
    drop_none zero = omega arith
    drop_none (suc n) = omega arith
sum-push (suc k) (x ∷ xs) o = sum-push k xs o

-- an object of as many slots takes as many words
sum-set : (k n : ℕ) (objects : List Obj) (o : Obj)
    → (n < length objects → words_of o ≡ words_of (slice_index_or objects n no_object))
    → sum_by words_of (drop k (slice_set objects n o)) ≡ sum_by words_of (drop k objects)
sum-set k n [] o same = refl
sum-set zero zero (x ∷ xs) o same =
    let after = sum_by-cons words_of o xs in
    let before = sum_by-cons words_of x xs in
    let words = same (omega arith) in
    omega (arith, after, before, words)
sum-set (suc k) zero (x ∷ xs) o same = refl
sum-set zero (suc n) (x ∷ xs) o same =
    let rest = sum-set zero n xs o (λ below. same (omega (arith, below))) in
    let after = sum_by-cons words_of x (slice_set xs n o) in
    let before = sum_by-cons words_of x xs in
    omega (arith, rest, after, before)
sum-set (suc k) (suc n) (x ∷ xs) o same = sum-set k n xs o (λ below. same (omega (arith, below)))

-- a monitor more, at most
pub entered_more : (monitors : List Monitor) (key : PlainKey) (t : ℕ)
    → length (entered monitors key t) ≤ suc (length monitors)
entered_more [] key t = omega arith
entered_more (m ∷ ms) key t =
    elim (key_is m.key key) as (λ b. length (if b then record m { count = suc m.count } ∷ ms else m ∷ entered ms key t)
    ≤ suc (suc (length ms))) [
      | true ↦ omega arith
      | false ↦ omega (arith, entered_more ms key t)
    ]

entered_again : (monitors : List Monitor) (key : PlainKey) (t : ℕ) (holder : Monitor)
    → held monitors key ≡ Some holder → length (entered monitors key t) ≤ length monitors
entered_again [] key t holder is = absurd (let no : ◌≡◌ {A = Option Monitor} None (Some holder) = is in cc)
entered_again (m ∷ ms) key t holder is =
    elim (key_is m.key key) as (λ b. (if b then Some m else held ms key) ≡ Some holder
    → length (if b then record m { count = suc m.count } ∷ ms else m ∷ entered ms key t) ≤ suc (length ms)) [
      | true ↦ λ e. omega arith
      | false ↦ λ e. omega (arith, entered_again ms key t holder e)
    ] is

pub exited_fewer : (monitors : List Monitor) (key : PlainKey) → length (exited monitors key) ≤ length monitors
exited_fewer [] key = omega arith
exited_fewer (m ∷ ms) key =
    elim (key_is m.key key) as (λ b. length (if b then one_less m ms else m ∷ exited ms key) ≤ suc (length ms)) [
      | true ↦ elim (nat_eq m.count 1) as (λ b. length (if b then ms else record m { count = pred m.count } ∷ ms)
          ≤ suc (length ms)) [ true ↦ omega arith | false ↦ omega arith ]
      | false ↦ omega (arith, exited_fewer ms key)
    ]

length-at_thread : (f : Thread → Thread) (threads : List Thread) (t : ℕ)
    → length (at_thread f threads t) ≡ length threads
length-at_thread f [] t = refl
length-at_thread f (thread ∷ threads) zero = refl
length-at_thread f (thread ∷ threads) (suc t) = ap suc (length-at_thread f threads t)

-- fewer guards are of a thread once those of another are given up
filter_twice : (p q : Guard → Bool) (gs : List Guard) → length (filter p (filter q gs)) ≤ length (filter p gs)
filter_twice p q [] = omega arith
filter_twice p q (g ∷ gs) =
    let rest = filter_twice p q gs in
    elim (q g) as (λ b. length (filter p (cond b (g ∷ filter q gs) (filter q gs)))
    ≤ length (cond (p g) (g ∷ filter p gs) (filter p gs))) [
      | true ↦ (elim (p g) as (λ b. length (cond b (g ∷ filter p (filter q gs)) (filter p (filter q gs)))
          ≤ length (cond b (g ∷ filter p gs) (filter p gs))) [
            | true ↦ omega (arith, rest)
            | false ↦ rest
          ])
      | false ↦ (elim (p g) as (λ b. length (filter p (filter q gs)) ≤ length (cond b (g ∷ filter p gs) (filter p gs))) [
        | true ↦ omega (arith, rest)
        | false ↦ rest
      ])
    ]

abbrev pub HasFewGuards : List Guard → Type 0
HasFewGuards guards = (u : ℕ) → length (guards_of guards u) ≤ most_log_entries

-- one more guard is its thread's
few-push : (guards : List Guard) (t : ℕ) (place : Place) → 1 ≤ log_entries_left guards t → HasFewGuards guards
    → HasFewGuards (guards ++ record { thread = t; place = place } ∷ [])
few-push guards t place room few u =
    let g : Guard = record { thread = t; place = place } in
    let Of : Guard → Bool = λ (h : Guard). nat_eq h.thread u in
    let parts = ap (λ (gs : List Guard). length gs) (filter-append Of guards (g ∷ [])) in
    let both = length-append (filter Of guards) (filter Of (g ∷ [])) in
    let before = few u in
    elim (nat_eq t u) as (λ b. nat_eq t u ≡ b → length (filter Of (g ∷ [])) ≡ length (cond b (g ∷ []) [])
    → length (filter Of (guards ++ g ∷ [])) ≤ most_log_entries) [
      | true ↦ λ own one.
          let same : t ≡ u = eqb-true t u own in
          let left : 1 ≤ log_entries_left guards u = rw same at room in
          omega (arith, parts, both, one, left, before)
      | false ↦ λ other one. omega (arith, parts, both, one, before)
    ] refl refl

few_at_end : (known : Knowledge) (t : ℕ) (outermost : Bool) → HasFewGuards known.guards
    → HasFewGuards (after_end known t outermost).guards
few_at_end known t true few u =
    let fewer = filter_twice (λ g. nat_eq g.thread u) (λ g. not (nat_eq g.thread t)) known.guards in
    let before = few u in omega (arith, fewer, before)
few_at_end known t false few u = few u

-- the guards after an operation, where a Guarded one finds room
few_after : (known : Knowledge) (t : ℕ) (named : List ℕ) (o : Op)
    → ((place : Place) → o ≡ op.Guarded place → 1 ≤ log_entries_left known.guards t) → HasFewGuards known.guards
    → HasFewGuards (known_after_op known t named o).guards
unfolding known_after_op
few_after known t named (op.Guarded place) room few = few-push known.guards t place (room place refl) few
few_after known t named op.End room few = few_at_end known t (is_outermost known t) few
few_after known t named o room few = few

module _ (set : SetFacts) (opening : Graph) (limits : Limits) (known : Knowledge) (requests : ℕ → Option PlainRequest)
    (t : ℕ) where
  -- where the event ends by no fault, neither does the act of its step
  by_step : (o : Op) (request : PlainRequest) (s : Step) → op_of s ≡ Some o
      → fault_of_step set opening limits known requests t request s ≡ None
      → fault_of_op set opening limits known t o ≡ None
  by_step o request (Does p r) is none =
      let same : p ≡ o = (let it : Some p ≡ Some o = is in cc) in
      ap (λ q. fault_of_op set opening limits known t q) (sym same) ∙ none
  by_step o request (Waits on) is none = absurd (let no : ◌≡◌ {A = Option Op} None (Some o) = is in cc)
  by_step o request WrongOperand is none = absurd (let no : ◌≡◌ {A = Option Op} None (Some o) = is in cc)
  by_step o request (IsOver f) is none = absurd (let no : ◌≡◌ {A = Option Op} None (Some o) = is in cc)

  abbrev stepped : PlainRequest → Option RunFault
  stepped request = fault_of_step set opening limits known requests t request (step set known.world t 1 request)

  by_room : (request : PlainRequest) (room : Bool) → nat_le 1 (acts_left limits known) ≡ room
      → 0 < acts_left limits known → owes_fence known.unfenced t ≡ false
      → (if room
      then if owes_fence known.unfenced t then None else stepped request
      else Some (full which.Acts 1 (acts_left limits known))) ≡ None
      → stepped request ≡ None
  by_room request true is some fenced none =
      subst (λ owes. (if owes then None else stepped request) ≡ None) fenced none
  by_room request false is some fenced none =
      absurd (true≢false (sym (le-leb 1 (acts_left limits known) (omega (arith, some))) ∙ is))

  by_request : (o : Op) (request : Option PlainRequest) → taken_by o ≡ 1
      → op_given set known.world t (taken_by o) request ≡ Some o → 0 < acts_left limits known
      → owes_fence known.unfenced t ≡ false
      → fault_of_request set opening limits known requests t request ≡ None
      → fault_of_op set opening limits known t o ≡ None
  by_request o None one about some fenced none = absurd (let no : ◌≡◌ {A = Option Op} None (Some o) = about in cc)
  by_request o (Some request) one about some fenced none =
      let does : op_of (step set known.world t 1 request) ≡ Some o = rw one at about in
      by_step o request (step set known.world t 1 request) does
      (by_room request (nat_le 1 (acts_left limits known)) refl some fenced none)

  -- the words of the heap after an operation without fault
  new_words : (bound need : ℕ) (object : Obj) → words_of object ≡ need
      → full_unless which.VolatileWords need (words_left limits opening known.world.heap) ≡ None
      → words_taken opening known.world.heap ≤ max limits.heap_words bound
      → sum_by words_of (drop (length opening.nodes) (known.world.heap.objects ++ object ∷ [])) ≤ max limits.heap_words bound
  new_words bound need object takes none within =
      let more = sum-push (length opening.nodes) known.world.heap.objects object in
      let fits = enough_left which.VolatileWords need (words_left limits opening known.world.heap) none in
      omega (arith, more, fits, takes, within)

  slot_words : (n i : ℕ) (value : Value)
      → sum_by words_of (drop (length opening.nodes)
      (slice_set known.world.heap.objects n (with_slot (object_at known.world.heap n) i value)))
      ≡ words_taken opening known.world.heap
  slot_words n i value =
      sum-set (length opening.nodes) n known.world.heap.objects (with_slot (object_at known.world.heap n) i value)
      (λ below. ap (λ slots. 3 + slots) (length-set (object_at known.world.heap n).values i value))

  words_after : (bound : ℕ) (o : Op) → (taken_by o ≡ 1 → fault_of_op set opening limits known t o ≡ None)
      → words_taken opening known.world.heap ≤ max limits.heap_words bound
      → words_taken opening (heap_after_op known.world.heap o) ≤ max limits.heap_words bound
  words_after bound (op.Alloc n shape count) none within =
      new_words bound (3 + length (fresh_values (shape_at known.world.heap shape) count))
      (record { shape = shape; values = fresh_values (shape_at known.world.heap shape) count }) refl (none refl) within
  words_after bound (op.Throw n class) none within =
      new_words bound (3 + length (fresh_values (shape_at known.world.heap class) 0))
      (record { shape = class; values = fresh_values (shape_at known.world.heap class) 0 }) refl (none refl) within
  words_after bound (op.Stored (Static n) value) none within = within
  words_after bound (op.Stored (Slot n i) value) none within = rw (slot_words n i value) within
  words_after bound o none within = within

  by_holder : (key : PlainKey) (holder : Option Monitor) → held known.world.monitors key ≡ holder
      → fault_of_enter set opening limits known holder ≡ None → length known.world.monitors ≤ most_monitors
      → length (entered known.world.monitors key t) ≤ most_monitors
  by_holder key (Some m) is none within =
      let again = entered_again known.world.monitors key t m is in omega (arith, again, within)
  by_holder key None is none within =
      let more = entered_more known.world.monitors key t in
      let fits = enough_left which.Monitors 1 (monitors_left known.world.monitors) none in
      omega (arith, more, fits, within)

  monitors_after : (o : Op) → (taken_by o ≡ 1 → fault_of_op set opening limits known t o ≡ None)
      → length known.world.monitors ≤ most_monitors
      → length (monitors_after_op known.world.monitors t o) ≤ most_monitors
  monitors_after (op.Enter key) none within =
      by_holder key (held known.world.monitors key) refl (none refl) within
  monitors_after (op.Exit key) none within =
      let fewer = exited_fewer known.world.monitors key in omega (arith, fewer, within)
  monitors_after o none within = within

  changed : (f : Thread → Thread) → length known.world.threads ≤ most_threads
      → length (at_thread f known.world.threads t) ≤ most_threads
  changed f within = let same = length-at_thread f known.world.threads t in omega (arith, same, within)

  threads_after : (o : Op) → IsAbout set known (requests t) t o → length known.world.threads ≤ most_threads
      → length (threads_after_op known.world.threads t o) ≤ most_threads
  threads_after (op.Start n child) about within =
      let below : length known.world.threads < most_threads =
      (sanctioned set known (requests t) t (op.Start n child) about).2 in
      omega (arith, length-append known.world.threads (new_thread (Some n) ∷ []), below)
  threads_after op.Begin about within = changed (λ thread. record thread { depth = suc thread.depth }) within
  threads_after op.End about within = changed (λ thread. record thread { depth = pred thread.depth }) within
  threads_after (op.Ended uncaught) about within =
      changed (λ thread. record thread { ended = true; uncaught = uncaught }) within
  threads_after o about within = within

  world_within : (o : Op) → IsAbout set known (requests t) t o → 0 < acts_left limits known
      → owes_fence known.unfenced t ≡ false
      → fault_of set opening limits known requests t ≡ None → IsWorldWithin set opening limits known.world
      → IsWorldWithin set opening limits (after known.world t o)
  world_within o about some fenced none within =
      let quiet : taken_by o ≡ 1 → fault_of_op set opening limits known t o ≡ None =
      λ one. by_request o (requests t) one about some fenced none in
      record {
        words = words_after (words_taken opening (first_heap set opening)) o quiet within.words;
        monitors = monitors_after o quiet within.monitors;
        threads = threads_after o about within.threads;
      }

  -- a region that guards a further place has room for it
  guard_room : (place : Place) → MayGuard set known (requests t) t place → 0 < acts_left limits known
      → owes_fence known.unfenced t ≡ false
      → fault_of set opening limits known requests t ≡ None → 1 ≤ log_entries_left known.guards t
  guard_room place may some fenced none =
      let (value, about, kept) = may.is_about in
      let stored : fault_of_op set opening limits known t (op.Stored place value) ≡ None =
      by_request (op.Stored place value) (requests t) refl about some fenced none in
      let Log : Option RunFault = full_unless which.LogEntries 1 (log_entries_left known.guards t) in
      let durable = subst (λ d. (if d
      then fault_of_durable_store set opening limits known t place value (guard_of known.guards place)
      else None) ≡ None) may.durable stored in
      let unguarded = subst (λ g. fault_of_durable_store set opening limits known t place value g ≡ None)
      may.unguarded durable in
      let settled = subst (λ v. (if v || nat_eq (depth_of known.world t) 0 then None else Log) ≡ None) kept unguarded in
      let deep = subst (λ z. (if z then None else Log) ≡ None) (ne_eqb (depth_of known.world t) 0 may.is_open) settled in
      enough_left which.LogEntries 1 (log_entries_left known.guards t) deep

-- a visible act is no fence
no_fence : (o : Op) → is_persistent o ≡ false → is_fenced o ≡ false
no_fence op.Fenced visible = absurd (true≢false visible)
no_fence o visible = refl

module _ (set : SetFacts) (main : ℕ) (opening : Graph) {Frames : Type 0} (code : Code set main opening Frames)
    (limits : Limits) (lines : ℕ) where
  next_within : (front : List Recorded) (a : Recorded) (rest : List Recorded)
      → IsPlainRun set main opening code (front ++ a ∷ rest)
      → HaveNoFault set main opening code limits lines (front ++ a ∷ rest)
      → IsWorldWithin set opening limits (known_of set main opening code front).world
      → IsWorldWithin set opening limits (next_known (known_of set main opening code front) a).world
  next_within front a rest run quiet within =
      let known = known_of set main opening code front in
      let (some, none) = quiet front a rest refl in
      let may = may_act set main opening code front a rest run in
      rw (world-known_after_op known a.act.thread a.named a.act.op) (
      elim (is_persistent a.act.op) as (λ b. is_persistent a.act.op ≡ b
      → IsWorldWithin set opening limits (if b then known.world else after known.world a.act.thread a.act.op)) [
        | true ↦ λ e. within
        | false ↦ λ e. world_within set opening limits known (request_after set main opening code front) a.act.thread
            a.act.op
            (about_from_rule set known (wants_of set main opening code front)
            (request_after set main opening code front a.act.thread) a.act.thread a.named a.act.op may.rule e)
            some (sym may.fence ∙ no_fence a.act.op e) none within
      ] refl)

  abbrev Within : List Recorded → Type 0
  Within acts =
      IsWorldWithin set opening limits (known_of set main opening code acts).world
      × (length (known_of set main opening code acts).marks ≤ limits.acts)
      × HasFewGuards (known_of set main opening code acts).guards

  known-push : (front : List Recorded) (a : Recorded)
      → known_of set main opening code (front ++ a ∷ []) ≡ next_known (known_of set main opening code front) a
  known-push front a = known_after-append (first_known set opening) front (a ∷ [])

  push_within : (front : List Recorded) (a : Recorded) (rest : List Recorded)
      → IsPlainRun set main opening code (front ++ a ∷ rest)
      → HaveNoFault set main opening code limits lines (front ++ a ∷ rest) → Within front → Within (front ++ a ∷ [])
  push_within front a rest run quiet (world, acts, guards) =
      let known = known_of set main opening code front in
      let (some, none) = quiet front a rest refl in
      let one = one_mark known a.act.thread a.named a.act.op in
      let may = may_act set main opening code front a rest run in
      let room : (place : Place) → a.act.op ≡ op.Guarded place → 1 ≤ log_entries_left known.guards a.act.thread =
      λ place is.
      let rule : MayGuard set known (request_after set main opening code front a.act.thread) a.act.thread place =
      subst (λ o. Rule set known (wants_of set main opening code front)
      (request_after set main opening code front a.act.thread) a.act.thread a.named o) is may.rule in
      guard_room set opening limits known (request_after set main opening code front) a.act.thread place rule some (sym may.fence ∙ ap is_fenced is) none in
      rw (known-push front a) (
        next_within front a rest run quiet world,
        omega (arith, one, some, acts),
        few_after known a.act.thread a.named a.act.op room guards,
      )

  stays_within : (front rest : List Recorded) → IsPlainRun set main opening code (front ++ rest)
      → HaveNoFault set main opening code limits lines (front ++ rest) → Within front → Within (front ++ rest)
  stays_within front [] run quiet within = rw (append-nil front) within
  stays_within front (a ∷ rest) run quiet within =
      let regroup : (front ++ a ∷ []) ++ rest ≡ front ++ a ∷ rest = append_assoc front (a ∷ []) rest in
      rw (← regroup) (stays_within (front ++ a ∷ []) rest (rw regroup run) (rw regroup quiet)
      (push_within front a rest run quiet within))

  first_within : Within []
  unfolding first_world
  first_within = (record { words = omega arith; monitors = omega arith; threads = omega arith }, omega arith, λ u. omega arith)

  pub runs_stay_within : (acts : List Recorded) → IsPlainRun set main opening code acts
      → HaveNoFault set main opening code limits lines acts
      → IsWorldWithin set opening limits (known_of set main opening code acts).world
      × (length (known_of set main opening code acts).marks ≤ limits.acts)
      × HasFewGuards (known_of set main opening code acts).guards
  runs_stay_within acts run quiet = stays_within [] acts run quiet first_within
