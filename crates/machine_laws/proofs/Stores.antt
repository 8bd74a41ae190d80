-- Durable stores: the act may come next, what was asked is kept, and the line is owed.
use Rattle.std.proofs.Common.{◌≡◌, inr, ℕ, ◌<◌, true, List, [], length, Some, None, refl, sym, ◌∙◌, ap, subst, arith}
use Rattle.std.specs.Prelude.{slice_index_or}
use Rattle.std.proofs.lemmas.List.{length-set}
use Rattle.ap_base.specs.declared.place.Place.{Place}
use Rattle.ap_base.specs.declared.reference.Ref.{Ref}
use Rattle.ap_base.specs.declared.reference.Item.{Item}
use Rattle.natives.specs.declared.requests.Request.{Request}
use Rattle.natives.specs.declared.requests.Reply.TheVariants as reply
use Rattle.graph_model.specs.declared.types.Value.{Value}
use Rattle.graph_model.specs.Heaps.{has_number}
use Rattle.run_history.specs.declared.act.Op.TheVariants as op
use Rattle.run_history.specs.Recorded.{Recorded}
use Rattle.run_history.specs.Worlds.{depth_of, has_place}
use Rattle.run_history.specs.Knowing.{pending_of, unfenced_at, durable_at, store_fate, is_single, next_known}
use Rattle.shared_objects.specs.Worlds.{heap_of}
use Rattle.stop_theorem.specs.Layouts.{is_kept_place}
use Rattle.stop_theorem.specs.InvariantEvents.{line_at}
use Rattle.twin_forms.specs.Table.{Entry}
use Rattle.convert_queue.specs.Queues.{Queues}
use Rattle.convert_words.specs.Agreeing.{Is}
use Rattle.machine_forms.specs.declared.doing.Doing.{Doing}
use Rattle.machine_forms.specs.declared.doing.Doing.TheVariants.{Nothing, Writing}
use Rattle.machine_forms.specs.Machines.{Opening, Machine, known_in, shown_in, memory_of, log_of, layout_in}
use Rattle.machine_forms.specs.Keeping.{IsDoing, KeepsRun, KeepsAsked}
use Rattle.machine_forms.specs.Events.{StoresDurably, value_in, act_in}
use Rattle.machine_laws.specs.AskLaws.{MayCome, asked_by}
use Rattle.machine_laws.proofs.Acts.{stored_unfenced, asked-next, unfenced-next, unfenced-own, owes_not, roots-next}
use Rattle.machine_laws.proofs.Acts.{pending-without_own}
use Rattle.machine_laws.proofs.Coming.{LeavesClosed, step-comes}
use Rattle.machine_laws.proofs.AskKeeping.{line-same, is-queues}
use Rattle.machine_laws.proofs.AskActing.{Acted, acted-keeps, outside-regions, doing-after, holder-asks, claimer-asks}
use Rattle.machine_laws.proofs.Changes.{whole-word}
use Rattle.machine_laws.proofs.Fences.{same-closed, same-durable}
use Rattle.machine_laws.proofs.Memories.{KeepsWhole}
use Rattle.machine_laws.proofs.Places.{place-inside}
use Rattle.machine_laws.proofs.Requested.{stored-there, kept-stored, durable-word}
use Rattle.machine_laws.proofs.WhatIsDone.{about, owes-nothing, holds-nothing, free, calls-same}

-- ---- one store

module _ (o : Opening) (m : Machine) (es : List Entry) (k : KeepsRun o m es) (m' : Machine) (t : ℕ)
    (request : Request Ref Item) (place : Place) (item : Item)
    (store : StoresDurably o m m' es t request place item) where
  abbrev value : Value
  value = value_in m item

  abbrev act : Recorded
  act = act_in m t (op.Stored place value) []

  leaves : LeavesClosed (known_in o m) (op.Stored place value)
  leaves durable = store.kept

  there : has_place (heap_of [] (shown_in m)) place ≡ true
  there = stored-there o m es k m' t request place value reply.Done store.does

  is-kept : is_kept_place (known_in o m) place ≡ true
  is-kept = kept-stored o m es k place store.durable there

  depth : depth_of (known_in o m).world t ≡ 0
  depth =
      let log = k.asked.regions.each t store.does.thread in
      ap (λ u. depth_of (known_in o m).world u) (sym log.thread) ∙ sym log.guards.depth ∙ store.outside

  whole : (u : ℕ) → u < 64 → KeepsWhole (log_of m u) (memory_of m')
  whole u lt =
      let word = durable-word o m es k place item m'.spaces store.durable (store.stores es k.heap.whole) in
      whole-word o m es k (memory_of m') u lt place is-kept word.0 word.1
      (inr (λ guard. (let no : None ≡ Some u = sym store.unguarded ∙ guard in cc)))

  empty : (i n : ℕ) → Is m.queue es t i n → ⊥
  empty i n at = holds-nothing o m m' es t request (op.Stored place value) reply.Done k store.does i n at

  single : is_single (store_fate t (durable_at (known_in o m) place) (depth_of (known_in o m).world t)
      (has_number (known_in o m).closing t)) ≡ true
  single = rw (store.durable, depth) refl

  about-next : IsDoing (next_known (known_in o m) act) (layout_in o es) t
      (Writing (line_at (layout_in o es) (known_in o m) place))
  about-next = (
    ap (λ ps. pending_of ps t) (asked-next (known_in o m) act) ∙ pending-without_own (known_in o m).asked t,
    (
      place,
      ap (λ us. unfenced_at us t) (unfenced-next (known_in o m) act)
          ∙ ap (λ b. unfenced_at (stored_unfenced (known_in o m).unfenced t place b) t) single
          ∙ unfenced-own (known_in o m).unfenced (record { thread = t; place = place }) t refl
          (owes_not (known_in o m).unfenced t
          (owes-nothing o m m' es t request (op.Stored place value) reply.Done k store.does)),
      sym (line-same (known_in o m) (next_known (known_in o m) act) (layout_in o es) (layout_in o es) place
          store.durable (roots-next (known_in o m) act) (λ n is. refl)),
    ),
    place-inside o m es k place is-kept,
  )

  store-acted : Acted o m m' es es act
  store-acted = record {
    acts = store.does.acts;
    regions = outside-regions o m m' es es k act store.does.acts tt store.logs (λ n p. refl) whole;
    closed = same-closed o m es k act leaves;
    timed = (let same = calls-same o m m' es t request (op.Stored place value) reply.Done k store.does in
        omega (arith, same));
    few = (let same = calls-same o m m' es t request (op.Stored place value) reply.Done k store.does in
        let few = k.asked.few in omega (arith, same, few));
    durable = same-durable o m es k act leaves;
    doing = λ u. subst (λ (ds : List Doing). IsDoing (next_known (known_in o m) act) (layout_in o es) u
        (slice_index_or ds u Nothing)) (sym store.doing)
        (doing-after o m m' es es k act (Writing (line_at (layout_in o es) (known_in o m) place))
        (let all = k.asked.threads in let lt = store.does.thread in omega (arith, all, lt)) (λ n p. refl)
        about-next u);
    threads = ap length store.doing
        ∙ length-set m.doing t (Writing (line_at (layout_in o es) (known_in o m) place)) ∙ k.asked.threads;
    queued = λ u i n is. (let before = is-queues m'.queue m.queue es u i n
        (ap (λ (q : Queues). q.queues) (sym store.queue)) is in (
          before,
          holder-asks o m m' es es k act empty u i n before,
          λ x h. is-queues m.queue m'.queue es u 0 x (ap (λ (q : Queues). q.queues) store.queue) h,
        ));
    claimed = λ u n c. (c, claimer-asks o m m' es es k act empty u n c);
  }

pub stores-come : (o : Opening) (m : Machine) (es : List Entry) (k : KeepsRun o m es)
    (m' : Machine) (t : ℕ) (request : Request Ref Item) (place : Place) (item : Item)
    → StoresDurably o m m' es t request place item
    → MayCome o m (asked_by m request) (act_in m t (op.Stored place (value_in m item)) [])
stores-come o m es k m' t request place item store =
    step-comes o.launch.set (known_in o m) _ _ t _
    (free o m m' es t request (op.Stored place (value_in m item)) reply.Done k store.does)
    (op.Stored place (value_in m item)) tt refl
    (about o m m' es t request (op.Stored place (value_in m item)) reply.Done k store.does)
    (λ durable. (store.unguarded, depth o m es k m' t request place item store))
    (same-closed o m es k (act_in m t (op.Stored place (value_in m item)) [])
    (leaves o m es k m' t request place item store))

pub stores-keep : (o : Opening) (m : Machine) (es : List Entry) (k : KeepsRun o m es)
    (m' : Machine) (t : ℕ) (request : Request Ref Item) (place : Place) (item : Item)
    → StoresDurably o m m' es t request place item → KeepsAsked o m' es
stores-keep o m es k m' t request place item store =
    acted-keeps o m m' es es k (act_in m t (op.Stored place (value_in m item)) [])
    (store-acted o m es k m' t request place item store)
