-- A region stores at a place that it has guarded: what was asked is kept.
use Rattle.std.proofs.Common.{◌≡◌, ◌≢◌, inl, inr, ℕ, ◌<◌, true, false, List, [], length, Some, refl, sym, ◌∙◌, ap, subst, arith}
use Rattle.std.specs.Prelude.{slice_index_or}
use Rattle.std.proofs.lemmas.List.{length-set}
use Rattle.ap_base.specs.declared.place.Place.{Place}
use Rattle.ap_base.specs.declared.place.Spot.{Spot}
use Rattle.ap_base.specs.declared.reference.Ref.{Ref}
use Rattle.ap_base.specs.declared.reference.Item.{Item}
use Rattle.natives.specs.declared.requests.Request.{Request}
use Rattle.natives.specs.declared.requests.Reply.TheVariants as reply
use Rattle.graph_model.specs.declared.types.Value.{Value}
use Rattle.graph_model.specs.Heaps.{has_number}
use Rattle.run_history.specs.declared.act.Op.TheVariants as op
use Rattle.run_history.specs.Recorded.{Recorded}
use Rattle.run_history.specs.Worlds.{depth_of}
use Rattle.run_history.specs.Knowing.{durable_at, pending_of, owes_fence, is_single, store_fate, next_known}
use Rattle.stop_theorem.specs.Layouts.{is_kept_place}
use Rattle.region_log.specs.declared.entry.Underway.{Underway}
use Rattle.region_log.specs.declared.entry.Underway.TheVariants.{Nothing as Idle}
use Rattle.region_log.specs.Guarding.{IsGuarded, IsAdded, is_closing}
use Rattle.region_log.specs.Log.{Log, IsLogged}
use Rattle.region_events.proofs.Regions.{none_logged, open_fate}
use Rattle.twin_forms.specs.Table.{Entry}
use Rattle.twin_forms.proofs.Led.{same_or_not}
use Rattle.convert_queue.specs.Queues.{Queues}
use Rattle.convert_words.specs.Agreeing.{Is}
use Rattle.machine_forms.specs.declared.doing.Doing.{Doing}
use Rattle.machine_forms.specs.declared.doing.Doing.TheVariants.{Nothing}
use Rattle.machine_forms.specs.Machines.{Opening, Machine, known_in, memory_of, log_of, layout_in}
use Rattle.machine_forms.specs.Keeping.{IsDoing, KeepsAsked, KeepsRun}
use Rattle.machine_forms.specs.Events.{StoresLogged, act_in, value_in}
use Rattle.machine_laws.proofs.Acts.{stored_unfenced, asked-next, unfenced-next, pending-without_own}
use Rattle.machine_laws.proofs.AskActing.{Acted, acted-keeps, outside-regions, doing-after, holder-asks, claimer-asks}
use Rattle.machine_laws.proofs.Changes.{whole-word}
use Rattle.machine_laws.proofs.WhatIsDone.{owes-nothing, holds-nothing, calls-same}
use Rattle.machine_laws.proofs.Fences.{same-closed, same-durable}
use Rattle.machine_laws.proofs.AskKeeping.{is-queues}
use Rattle.machine_laws.proofs.Logs.{StandsLog}
use Rattle.machine_laws.proofs.Memories.{KeepsWhole}
use Rattle.machine_laws.proofs.Requested.{stored-there, kept-stored, durable-word}
use Rattle.machine_laws.proofs.RegionActs.{now-stands}

module _ (o : Opening) (m : Machine) (es : List Entry) (k : KeepsRun o m es) (m' : Machine) (t : ℕ)
    (request : Request Ref Item) (place : Place) (item : Item)
    (store : StoresLogged o m m' es t request place item) where
  abbrev value : Value
  value = value_in m item

  abbrev act : Recorded
  act = act_in m t (op.Stored place value) []

  own : StandsLog (known_in o m) (layout_in o es) (memory_of m) (log_of m t) t
  own = now-stands o m es k t store.does.thread

  is-kept : is_kept_place (known_in o m) place ≡ true
  is-kept = kept-stored o m es k place store.durable
      (stored-there o m es k m' t request place value reply.Done store.does)

  whole : (u : ℕ) → u < 64 → KeepsWhole (log_of m u) (memory_of m')
  whole u lt =
      let word = durable-word o m es k place item m'.spaces store.durable (store.stores es k.heap.whole) in
      whole-word o m es k (memory_of m') u lt place is-kept word.0 word.1 (elim (same_or_not u t) [
        | inl same ↦ inl (ap (λ x. (log_of m x).underway) same ∙ store.idle)
        | inr other ↦ inr (λ guard. other
            (let both : Some u ≡ Some t = sym guard ∙ store.guard in cc))
      ])

  -- nothing is added while nothing is under way
  logged-only : (log : Log) (spot : Spot) → log.underway ≡ Idle → IsGuarded log spot
      → IsLogged log.entries spot
  logged-only log spot idle (inl logged) = logged
  logged-only log spot idle (inr added) = absurd (subst (λ (u : Underway). IsAdded u spot) idle added)

  -- the log has a word, so a region is open
  deep : depth_of (known_in o m).world t ≢ 0
  deep none =
      let at = own.guards.guarded place (store.guard ∙ ap (λ u. Some u) (sym own.thread)) in
      none_logged (log_of m t).entries at.1
      (own.guards.outside (own.guards.depth ∙ ap (λ u. depth_of (known_in o m).world u) own.thread ∙ none)).0
      (logged-only (log_of m t) at.1 store.idle at.3)

  not-closing : has_number (known_in o m).closing t ≡ false
  not-closing = ap (λ u. has_number (known_in o m).closing u) (sym own.thread) ∙ sym own.guards.closing
      ∙ ap is_closing store.idle

  not-single : is_single (store_fate t (durable_at (known_in o m) place) (depth_of (known_in o m).world t)
      (has_number (known_in o m).closing t)) ≡ false
  not-single = ap is_single (open_fate t (durable_at (known_in o m) place)
      (depth_of (known_in o m).world t) (has_number (known_in o m).closing t) store.durable deep not-closing)

  about-next : IsDoing (next_known (known_in o m) act) (layout_in o es) t Nothing
  about-next = (
    ap (λ ps. pending_of ps t) (asked-next (known_in o m) act) ∙ pending-without_own (known_in o m).asked t,
    ap (λ us. owes_fence us t) (unfenced-next (known_in o m) act)
        ∙ ap (λ b. owes_fence (stored_unfenced (known_in o m).unfenced t place b) t) not-single
        ∙ owes-nothing o m m' es t request (op.Stored place value) reply.Done k store.does,
  )

  empty : (i n : ℕ) → Is m.queue es t i n → ⊥
  empty i n at = holds-nothing o m m' es t request (op.Stored place value) reply.Done k store.does i n at

  store-acted : Acted o m m' es es act
  store-acted = record {
    acts = store.does.acts;
    regions = outside-regions o m m' es es k act store.does.acts tt store.logs (λ n p. refl) whole;
    closed = same-closed o m es k act (λ durable. store.kept);
    timed = (let same = calls-same o m m' es t request (op.Stored place value) reply.Done k store.does in
        omega (arith, same));
    few = (let same = calls-same o m m' es t request (op.Stored place value) reply.Done k store.does in
        let few = k.asked.few in omega (arith, same, few));
    durable = same-durable o m es k act (λ durable. store.kept);
    doing = λ u. subst (λ (ds : List Doing). IsDoing (next_known (known_in o m) act) (layout_in o es) u
        (slice_index_or ds u Nothing)) (sym store.doing)
        (doing-after o m m' es es k act Nothing
        (let all = k.asked.threads in let lt = store.does.thread in omega (arith, all, lt)) (λ n p. refl)
        about-next u);
    threads = ap length store.doing ∙ length-set m.doing t Nothing ∙ k.asked.threads;
    queued = λ u i n is. (let before = is-queues m'.queue m.queue es u i n
        (ap (λ (q : Queues). q.queues) (sym store.queue)) is in (
          before,
          holder-asks o m m' es es k act empty u i n before,
          λ x h. is-queues m.queue m'.queue es u 0 x (ap (λ (q : Queues). q.queues) store.queue) h,
        ));
    claimed = λ u n c. (c, claimer-asks o m m' es es k act empty u n c);
  }

  pub logged-keeps : KeepsAsked o m' es
  logged-keeps = acted-keeps o m m' es es k act store-acted
