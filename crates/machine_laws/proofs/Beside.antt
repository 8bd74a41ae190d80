-- Acts of requests that change no durable place: each may come next, and what was asked is kept.
use Rattle.std.proofs.Common.{◌≡◌, inl, inr, ℕ, ◌<◌, ◌≤◌, Bool, true, false, List, [], ◌∷◌, ◌++◌, length, refl, sym, ◌∙◌, ap}
use Rattle.std.proofs.Common.{subst, arith}
use Rattle.std.specs.Prelude.{slice_index_or}
use Rattle.std.proofs.lemmas.Bool.{false≢true, true≢false}
use Rattle.std.proofs.lemmas.List.{length-set, length_push, get_or_push, get_or_append_left}
use Rattle.ap_base.specs.declared.place.Place.{Place}
use Rattle.ap_base.specs.declared.place.Place.TheVariants.{Static, Slot}
use Rattle.ap_base.specs.declared.reference.Ref.{Ref}
use Rattle.ap_base.specs.declared.reference.Item.{Item}
use Rattle.natives.specs.declared.requests.Request.{Request}
use Rattle.natives.specs.declared.requests.Reply.{Reply}
use Rattle.graph_model.specs.declared.types.Value.{Value}
use Rattle.graph_model.specs.Heaps.{has_number}
use Rattle.run_history.specs.declared.act.Op.{Op}
use Rattle.run_history.specs.declared.act.Op.TheVariants as op
use Rattle.run_history.specs.Recorded.{Recorded}
use Rattle.run_history.specs.Worlds.{depth_of, has_place}
use Rattle.run_history.specs.Knowing.{Knowledge, pending_of, owes_fence, unfenced_at, durable_at, store_fate, is_single}
use Rattle.run_history.specs.Knowing.{next_known}
use Rattle.plain_model.specs.Codes.{is_persistent}
use Rattle.shared_objects.specs.Worlds.{heap_of}
use Rattle.stop_theorem.specs.Layouts.{Layout}
use Rattle.twin_forms.specs.Table.{Entry, entry, IsClaimed, InP, line_of, no_entry}
use Rattle.twin_forms.specs.Moves.{fresh}
use Rattle.twin_forms.proofs.Led.{below_or_not}
use Rattle.two_spaces.proofs.Keeping.{copied_or_not}
use Rattle.convert_queue.specs.Queues.{Queues}
use Rattle.convert_words.specs.Agreeing.{Is}
use Rattle.machine_forms.specs.declared.doing.Doing.{Doing}
use Rattle.machine_forms.specs.declared.doing.Doing.TheVariants.{Nothing}
use Rattle.machine_forms.specs.Machines.{Opening, Machine, known_in, shown_in, memory_of, doing_of, log_of, layout_in}
use Rattle.machine_forms.specs.Keeping.{IsDoing, KeepsRun, KeepsAsked}
use Rattle.machine_forms.specs.Events.{ActsBeside, DoesRequest, StoresBeside, NotesStore, TableAfter, IsWithFresh}
use Rattle.machine_forms.specs.Events.{LeavesRegions, left_by, act_in}
use Rattle.machine_laws.specs.AskLaws.{MayCome, asked_by}
use Rattle.machine_laws.proofs.Acts.{asked_after, unfenced_after, stored_unfenced, asked-next, unfenced-next, roots-next}
use Rattle.machine_laws.proofs.Acts.{pending-without_own}
use Rattle.machine_laws.proofs.Coming.{LeavesClosed, StoresOutside, step-comes}
use Rattle.machine_laws.proofs.AskOutside.{IsOutside}
use Rattle.machine_laws.proofs.Memories.{KeepsWhole}
use Rattle.machine_laws.proofs.Requested.{copied-there, stored-there, beside-whole}
use Rattle.machine_laws.proofs.AskKeeping.{LeavesThread, doing-kept, line-in, is-queues, are-durable, durable-in, in-durable}
use Rattle.machine_laws.proofs.AskActing.{Acted, acted-keeps, outside-regions, doing-after, holder-asks, claimer-asks}
use Rattle.machine_laws.proofs.Fences.{same-closed, same-durable}
use Rattle.machine_laws.proofs.WhatIsDone.{visible, about, owes-nothing, holds-nothing, free, calls-same}

-- ---- the table

-- The objects lie where they lay, and what is new is neither durable nor claimed.
pub record OnlyAdds (es es' : List Entry) : Type 0 where
  pub long : length es ≤ length es'
  pub same : (n : ℕ) → n < length es → entry es' n ≡ entry es n
  pub new : (n : ℕ) → n < length es' → length es ≤ n → ((entry es' n).stage ≡ 0) × ((entry es' n).owner ≡ 0)

adds-none : (es : List Entry) → OnlyAdds es es
adds-none es = record {
  long = omega arith;
  same = λ n lt. refl;
  new = λ n lt past. absurd (omega (arith, lt, past));
}

adds-one : (es : List Entry) (shape slots at : ℕ) → OnlyAdds es (es ++ fresh shape slots at ∷ [])
adds-one es shape slots at =
    let long = length_push es (fresh shape slots at) in record {
      long = omega (arith, long);
      same = λ n lt. get_or_append_left es (fresh shape slots at ∷ []) no_entry n lt;
      new = λ n lt past. (let e = get_or_push es (fresh shape slots at) no_entry n
          (omega (arith, lt, past, long)) in
          (ap (λ (x : Entry). x.stage) e, ap (λ (x : Entry). x.owner) e));
    }

with-fresh : (m : Machine) (es es' : List Entry) → IsWithFresh m es es' → OnlyAdds es es'
with-fresh m es es' w =
    subst (OnlyAdds es) (sym w.2) (adds-one es w.0 w.1 (length m.spaces.twin.space.words))

table-adds : (m : Machine) (o : Op) (es es' : List Entry) → TableAfter m o es es' → OnlyAdds es es'
table-adds m (op.Alloc n class count) es es' w = with-fresh m es es' w
table-adds m (op.Throw n class) es es' w = with-fresh m es es' w
table-adds m o es es' same = subst (OnlyAdds es) (sym same) (adds-none es)

module _ (es es' : List Entry) (adds : OnlyAdds es es') where
  pub claimed-was : (u n : ℕ) → IsClaimed es' u n → IsClaimed es u n
  claimed-was u n c = elim (below_or_not n (length es)) [
    | inl lt ↦ (lt, ap (λ (e : Entry). e.owner) (sym (adds.same n lt)) ∙ c.1)
    | inr past ↦ absurd (let none = (adds.new n c.0 past).1 in let own = c.1 in omega (arith, none, own))
  ]

  pub durable-was : (n : ℕ) → InP es' n → InP es n
  durable-was n p = elim (below_or_not n (length es)) [
    | inl lt ↦ (let same = adds.same n lt in
        (lt, subst (λ (e : Entry). 1 < e.stage) same p.1, ap (λ (e : Entry). e.owner) (sym same) ∙ p.2))
    | inr past ↦ absurd (let none = (adds.new n p.0 past).0 in let st = p.1 in omega (arith, none, st))
  ]

  pub durable-is : (n : ℕ) → InP es n → InP es' n
  durable-is n p = let same = adds.same n p.0 in (
    (let lt = p.0 in let long = adds.long in omega (arith, lt, long)),
    subst (λ (e : Entry). 1 < e.stage) (sym same) p.1,
    ap (λ (e : Entry). e.owner) same ∙ p.2,
  )

  pub queued-was : (q : Queues) (u i n : ℕ) → Is q es' u i n → Is q es u i n
  queued-was q u i n is =
      let c = claimed-was u n is.claimed in
      let same = adds.same n c.0 in record {
        within = is.within;
        claimed = c;
        placed = subst (λ (e : Entry). 0 < e.stage) same is.placed;
        object = is.object ∙ ap (λ (e : Entry). e.at) same;
        line = is.line ∙ ap (λ (e : Entry). e.line) same;
      }

  pub queued-is : (q : Queues) (u i n : ℕ) → Is q es u i n → Is q es' u i n
  queued-is q u i n is =
      let same = adds.same n is.claimed.0 in record {
        within = is.within;
        claimed = (
          (let lt = is.claimed.0 in let long = adds.long in omega (arith, lt, long)),
          ap (λ (e : Entry). e.owner) same ∙ is.claimed.1,
        );
        placed = subst (λ (e : Entry). 0 < e.stage) (sym same) is.placed;
        object = is.object ∙ ap (λ (e : Entry). e.at) (sym same);
        line = is.line ∙ ap (λ (e : Entry). e.line) (sym same);
      }

-- ---- what the thread is about

single-not : (t : ℕ) (durable : Bool) (depth : ℕ) (closing : Bool) → durable ≡ false
    → is_single (store_fate t durable depth closing) ≡ false
single-not t true depth closing e = absurd (true≢false e)
single-not t false depth closing e = refl

-- the store's place isn't durable
abbrev StoresElsewhere : Knowledge → Op → Type 0
StoresElsewhere known (op.Stored place value) = durable_at known place ≡ false
StoresElsewhere known o = Unit {0}

module _ (known next : Knowledge) (lay lay' : Layout) (t : ℕ)
    (durable : (n : ℕ) → has_number known.durable n ≡ true → lay'.line_of n ≡ lay.line_of n)
    (leaves : pending_of next.asked t ≡ pending_of known.asked t
    → unfenced_at next.unfenced t ≡ unfenced_at known.unfenced t → LeavesThread known next lay lay' t) where
  abbrev NextIs : Op → Type 0
  NextIs o = (next.asked ≡ asked_after known.asked t o) × (next.unfenced ≡ unfenced_after known t o)

  pub left-about : (o : Op) (d : Doing) → NextIs o → is_persistent o ≡ false → StoresElsewhere known o
      → owes_fence known.unfenced t ≡ false → IsDoing known lay t d → IsDoing next lay' t (left_by o d)
  left-about (op.Stored place value) d is e elsewhere owes doing = (
    ap (λ ps. pending_of ps t) is.0 ∙ pending-without_own known.asked t,
    ap (λ us. owes_fence us t) is.1
        ∙ ap (λ b. owes_fence (stored_unfenced known.unfenced t place b) t)
        (single-not t (durable_at known place) (depth_of known.world t) (has_number known.closing t)
        elsewhere)
        ∙ owes,
  )
  left-about (op.Asked place value) d is e elsewhere owes doing = absurd (true≢false e)
  left-about op.Fenced d is e elsewhere owes doing = absurd (true≢false e)
  left-about o d is e elsewhere owes doing = doing-kept known next lay lay' t d
      (leaves (ap (λ ps. pending_of ps t) is.0) (ap (λ us. unfenced_at us t) is.1)) doing

-- ---- one act

outside-of : (o : Op) → LeavesRegions o → is_persistent o ≡ false → IsOutside o
outside-of op.Begin leaves e = absurd leaves
outside-of op.End leaves e = absurd leaves
outside-of (op.Guarded place) leaves e = absurd (true≢false e)
outside-of op.Closing leaves e = absurd (true≢false e)
outside-of o leaves e = tt

leaves-of : (o : Opening) (m : Machine) (es : List Entry) (operation : Op) → StoresBeside o m es operation
    → is_persistent operation ≡ false → LeavesClosed (known_in o m) operation
leaves-of o m es (op.Stored (Static f) value) beside e =
    λ durable. absurd (false≢true (sym beside ∙ durable))
leaves-of o m es (op.Stored (Slot n i) value) beside e =
    λ durable. absurd (false≢true (sym beside.0 ∙ durable))
leaves-of o m es op.Joined beside e = absurd (true≢false e)
leaves-of o m es operation beside e = tt

elsewhere-of : (o : Opening) (m : Machine) (es : List Entry) (operation : Op) → StoresBeside o m es operation
    → StoresElsewhere (known_in o m) operation
elsewhere-of o m es (op.Stored (Static f) value) beside = beside
elsewhere-of o m es (op.Stored (Slot n i) value) beside = beside.0
elsewhere-of o m es operation beside = tt

stores-outside : (o : Opening) (m : Machine) (es : List Entry) (t : ℕ) (operation : Op)
    → StoresBeside o m es operation → StoresOutside (known_in o m) t operation
stores-outside o m es t (op.Stored (Static f) value) beside =
    λ durable. absurd (false≢true (sym beside ∙ durable))
stores-outside o m es t (op.Stored (Slot n i) value) beside =
    λ durable. absurd (false≢true (sym beside.0 ∙ durable))
stores-outside o m es t operation beside = tt

queues-of : (o : Opening) (m : Machine) (es : List Entry) (k : KeepsRun o m es) (operation : Op) (q' : Queues)
    → StoresBeside o m es operation → NotesStore es operation m.queue q' → q'.queues ≡ m.queue.queues
queues-of o m es k (op.Stored (Slot n i) value) q' beside notes =
    elim (copied_or_not (entry es n) (line_of i)) [
      | inr not_copied ↦ ap (λ (q : Queues). q.queues) (notes.1 not_copied)
      | inl copied ↦ (elim (copied-there o m es k n (line_of i) copied) [
        | inl p ↦ absurd (false≢true (sym beside.0 ∙ in-durable o m es k n p))
        | inr c ↦ ap (λ (q : Queues). q.queues) (notes.0 c.0 c.1 copied)
      ])
    ]
queues-of o m es k (op.Stored (Static f) value) q' beside notes = ap (λ (q : Queues). q.queues) notes
queues-of o m es k operation q' beside notes = ap (λ (q : Queues). q.queues) notes

module _ (o : Opening) (m : Machine) (es : List Entry) (k : KeepsRun o m es) (m' : Machine) (t : ℕ)
    (request : Request Ref Item) (operation : Op) (r : Reply Ref Item)
    (acts : ActsBeside o m m' es t request operation r) where
  abbrev act : Recorded
  act = act_in m t operation []

  is-visible : is_persistent operation ≡ false
  is-visible = visible o m m' es t request operation r k acts.does

  outside : IsOutside operation
  outside = outside-of operation acts.outside is-visible

  leaves : LeavesClosed (known_in o m) operation
  leaves = leaves-of o m es operation acts.beside is-visible

  queues : m'.queue.queues ≡ m.queue.queues
  queues = queues-of o m es k operation m'.queue acts.beside acts.notes

  empty : (i n : ℕ) → Is m.queue es t i n → ⊥
  empty i n at = holds-nothing o m m' es t request operation r k acts.does i n at

  -- a store is one to a place that is there
  there : (place : Place) (value : Value) → operation ≡ op.Stored place value
      → has_place (heap_of [] (shown_in m)) place ≡ true
  there place value is = stored-there o m es k m' t request place value r
      (subst (λ (x : Op). DoesRequest o m m' es t request x r) is acts.does)

  whole : (u : ℕ) → u < 64 → KeepsWhole (log_of m u) (memory_of m')
  whole u lt = beside-whole o m es k m'.spaces u lt operation r acts.beside there acts.does.heap

  module _ (es' : List Entry) (after : TableAfter m operation es es') where
    adds : OnlyAdds es es'
    adds = table-adds m operation es es' after

    lines : (n : ℕ) → InP es n → (layout_in o es').line_of n ≡ (layout_in o es).line_of n
    lines n p =
        line-in o es' n (durable-is es es' adds n p) ∙ ap (λ (e : Entry). e.line) (adds.same n p.0)
        ∙ sym (line-in o es n p)

    about-next : IsDoing (next_known (known_in o m) act) (layout_in o es') t
        (left_by operation (doing_of m t))
    about-next = left-about (known_in o m) (next_known (known_in o m) act) (layout_in o es) (layout_in o es')
        t
        (λ n is. lines n (durable-in o m es k n is))
        (λ pending unfenced. record {
          durable = are-durable o m es k;
          roots = roots-next (known_in o m) act;
          lines = λ n is. lines n (durable-in o m es k n is);
          size = refl;
          pending = pending;
          unfenced = unfenced;
        }) operation (doing_of m t) (asked-next (known_in o m) act, unfenced-next (known_in o m) act)
        is-visible
        (elsewhere-of o m es operation acts.beside) (owes-nothing o m m' es t request operation r k acts.does)
        (k.asked.doing t)

    beside-acted : Acted o m m' es es' act
    beside-acted = record {
      acts = acts.does.acts;
      regions = outside-regions o m m' es es' k act acts.does.acts outside acts.logs lines whole;
      closed = same-closed o m es k act leaves;
      timed = (let same = calls-same o m m' es t request operation r k acts.does in omega (arith, same));
      few = (let same = calls-same o m m' es t request operation r k acts.does in let few = k.asked.few in
          omega (arith, same, few));
      durable = λ n. (
        λ is. durable-is es es' adds n ((same-durable o m es k act leaves n).0 is),
        λ p. (same-durable o m es k act leaves n).1 (durable-was es es' adds n p),
      );
      doing = λ u. subst (λ (ds : List Doing). IsDoing (next_known (known_in o m) act) (layout_in o es') u
          (slice_index_or ds u Nothing)) (sym acts.doing)
          (doing-after o m m' es es' k act (left_by operation (doing_of m t))
          (let all = k.asked.threads in let lt = acts.does.thread in omega (arith, all, lt)) lines about-next
          u);
      threads = ap length acts.doing ∙ length-set m.doing t (left_by operation (doing_of m t))
          ∙ k.asked.threads;
      queued = λ u i n is. (let before = is-queues m'.queue m.queue es u i n (sym queues)
          (queued-was es es' adds m'.queue u i n is) in (
            before,
            holder-asks o m m' es es' k act empty u i n before,
            λ x h. queued-is es es' adds m'.queue u 0 x (is-queues m.queue m'.queue es u 0 x queues h),
          ));
      claimed = λ u n c. (let before = claimed-was es es' adds u n c in
          (before, claimer-asks o m m' es es' k act empty u n before));
    }

pub acts-come : (o : Opening) (m : Machine) (es : List Entry) (k : KeepsRun o m es) (m' : Machine)
    (t : ℕ) (request : Request Ref Item) (operation : Op) (r : Reply Ref Item)
    → ActsBeside o m m' es t request operation r
    → MayCome o m (asked_by m request) (act_in m t operation [])
acts-come o m es k m' t request operation r acts =
    step-comes o.launch.set (known_in o m) _ _ t _ (free o m m' es t request operation r k acts.does)
    operation
    (outside o m es k m' t request operation r acts) (is-visible o m es k m' t request operation r acts)
    (about o m m' es t request operation r k acts.does) (stores-outside o m es t operation acts.beside)
    (same-closed o m es k (act_in m t operation []) (leaves o m es k m' t request operation r acts))

pub acts-keep : (o : Opening) (m : Machine) (es : List Entry) (k : KeepsRun o m es)
    (m' : Machine) (es' : List Entry) (t : ℕ) (request : Request Ref Item) (operation : Op)
    (r : Reply Ref Item) → ActsBeside o m m' es t request operation r → TableAfter m operation es es'
    → KeepsAsked o m' es'
acts-keep o m es k m' es' t request operation r acts after =
    acted-keeps o m m' es es' k (act_in m t operation [])
    (beside-acted o m es k m' t request operation r acts es' after)
