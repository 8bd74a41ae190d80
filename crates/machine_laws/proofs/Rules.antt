-- The acts of a region may come next in a plain run.
use Rattle.std.proofs.Common.{◌≡◌, ◌⊎◌, inl, inr, ℕ, suc, zero, ◌<◌, ◌≤◌, false, List, [], Some, refl, sym, ◌∙◌, ap, subst}
use Rattle.std.proofs.Common.{arith, Option, IfSome}
use Rattle.ap_base.specs.declared.place.Place.{Place}
use Rattle.ap_base.specs.declared.reference.Ref.{Ref}
use Rattle.ap_base.specs.declared.reference.Item.{Item}
use Rattle.natives.specs.declared.requests.Request.{Request}
use Rattle.natives.specs.declared.requests.Request.TheVariants as ask
use Rattle.natives.specs.declared.requests.Reply.TheVariants as reply
use Rattle.run_types.specs.declared.resolved.At.{At}
use Rattle.run_history.specs.declared.act.Op.{Op}
use Rattle.run_history.specs.declared.act.Op.TheVariants as op
use Rattle.run_history.specs.Worlds.{World, depth_of}
use Rattle.run_history.specs.Knowing.{Knowledge, guard_of, owes_fence}
use Rattle.plain_model.specs.Facts.{SetFacts}
use Rattle.plain_model.specs.Steps.{Does, op_of, step, ends_region}
use Rattle.plain_model.specs.Runs.{IsAbout, MayAct, MayClose, MayEnd, MayGuard, MayStore, Rule, is_fenced}
use Rattle.region_log.specs.declared.entry.Entry.{Entry as LogEntry}
use Rattle.region_log.specs.declared.entry.EndStage.TheVariants.{AllFenced, Cleared}
use Rattle.region_log.specs.declared.entry.Underway.TheVariants.{Nothing as Idle, Ending}
use Rattle.region_log.specs.Log.{Log}
use Rattle.region_log.specs.Kept.{KeepsLog}
use Rattle.region_log.specs.Stages.{EndsAtOnce}
use Rattle.region_events.proofs.Ending.{ending_one}
use Rattle.region_events.proofs.Rules.{guards_may_come, stores_may_come, closings_may_come, ends_may_come}
use Rattle.twin_forms.specs.Table.{Entry}
use Rattle.twin_forms.specs.Sights.{Twin}
use Rattle.machine_forms.specs.declared.doing.Doing.TheVariants.{Nothing}
use Rattle.machine_forms.specs.Machines.{Opening, Machine, known_in, wants_in, memory_of, doing_of, log_of, layout_in}
use Rattle.machine_forms.specs.Keeping.{IsDoing, KeepsLogOf, KeepsRun}
use Rattle.machine_forms.specs.Events.{AsksEnd, ClosesRegion, GuardsPlace, LeavesLog, StoresLogged, value_in, emptied, at_once}
use Rattle.machine_forms.specs.Events.{RegionStep}
use Rattle.machine_forms.specs.Events as step
use Rattle.machine_laws.specs.AskLaws.{asked_by, asked_with, MayCome}
use Rattle.machine_laws.proofs.Coming.{LeavesClosed, act_at, names-of}
use Rattle.machine_laws.proofs.WhatIsDone.{about, owes-nothing, idle-owes}
use Rattle.machine_laws.proofs.Fences.{about-store, same-closed}
use Rattle.plain_model.specs.Requests.{PlainRequest}
use Rattle.machine_forms.specs.Happening.{region_request, region_act}

-- ---- the request to end a region

ends-by : (set : SetFacts) (world : World) (depth : ℕ) → 0 < depth
    → ends_region set world depth ≡ Does op.End reply.Done
ends-by set world zero some = absurd (omega (arith, some))
ends-by set world (suc depth) some = refl

ends-plain : (set : SetFacts) (world : World) (t taken : ℕ) (from : At) → 0 < depth_of world t
    → step set world t taken (ask.End from) ≡ Does op.End reply.Done
unfolding step
ends-plain set world t taken from some = ends-by set world (depth_of world t) some

module _ (o : Opening) (m : Machine) (es : List Entry) (k : KeepsRun o m es) where
  abbrev known : Knowledge
  known = known_in o m

  -- a thread's log has its depth
  pub depth-is : (t : ℕ) → t < 64 → depth_of known.world t ≡ (log_of m t).depth
  depth-is t lt =
      let log : KeepsLogOf o m es t = k.asked.regions.each t lt in
      ap (λ u. depth_of known.world u) (sym log.thread) ∙ sym log.guards.depth

  pub about-end : (t : ℕ) (request : Request Ref Item) → t < 64 → AsksEnd o m t request
      → IsAbout o.launch.set known (asked_by m request) t op.End
  about-end t request lt asks =
      let depth = depth-is t lt in
      let some = asks.is_open in
      subst (λ (x : Request Ref Item). IsAbout o.launch.set known (asked_by m x) t op.End) (sym asks.is_end.1)
      (ap op_of (ends-plain o.launch.set known.world t 1 asks.is_end.0 (omega (arith, depth, some))))

  -- a thread that is about nothing owes nothing
  pub owes-none : (t : ℕ) → doing_of m t ≡ Nothing → owes_fence known.unfenced t ≡ false
  owes-none t is = (subst (IsDoing known (layout_in o es) t) is (k.asked.doing t)).1

  -- ---- rules, at the thread of a log

  module _ (t : ℕ) (lt : t < 64) (q : Request Ref Item) where
    log : KeepsLogOf o m es t
    log = k.asked.regions.each t lt

    at-log : (P : ℕ → Type 0) → P t → P (log_of m t).thread
    at-log P is = subst P (sym log.thread) is

    at-thread : (P : ℕ → Type 0) → P (log_of m t).thread → P t
    at-thread P is = subst P log.thread is

    pub may-close : (twin : Twin) (log' : Log) → ClosesRegion o m twin t q log'
        → MayClose o.launch.set known (asked_by m q) t
    may-close twin log' closes =
        let fits = ending_one twin.memory.size (log_of m t).depth (log_of m t).entries AllFenced
        (subst (λ (l : Log). KeepsLog l twin.memory) closes.fences.log closes.calls.call.steps.keeps).fits in
        at-thread (MayClose o.launch.set known (asked_by m q))
        (closings_may_come o.launch.set known (layout_in o es) (asked_by m q) (log_of m t) log.guards fits.0
        closes.fences.next fits.1
        (at-log (λ u. IsAbout o.launch.set known (asked_by m q) u op.End)
        (about-end t q lt closes.calls.asks)))

    end-rule : AsksEnd o m t q
        → ((log_of m t).underway ≡ Ending Cleared)
        ⊎ (((log_of m t).underway ≡ Idle) × EndsAtOnce (log_of m t))
        → MayEnd o.launch.set known (asked_by m q) t
    end-rule asks how =
        at-thread (MayEnd o.launch.set known (asked_by m q))
        (ends_may_come o.launch.set known (layout_in o es) (asked_by m q) (log_of m t) log.guards how
        (at-log (λ u. IsAbout o.launch.set known (asked_by m q) u op.End) (about-end t q lt asks)))

    pub may-end : (twin : Twin) (log' : Log) → LeavesLog o m twin t q log'
        → MayEnd o.launch.set known (asked_by m q) t
    may-end twin _ (emptied log' e) = end-rule e.calls.asks (inl e.empties.last)
    may-end twin _ (at_once same asks idle ends) = end-rule asks (inr (idle, ends))

    pub may-guard : (place : Place) (item : Item) (e : LogEntry) → GuardsPlace o m es t q place item e
        → MayGuard o.launch.set known (asked_by m q) t place
    may-guard place item e guards =
        at-thread (λ u. MayGuard o.launch.set known (asked_by m q) u place)
        (guards_may_come o.launch.set known (layout_in o es) (asked_by m q) (log_of m t) log.guards place
        (value_in m item) guards.may.idle guards.may.is_open guards.durable guards.may.unguarded guards.kept
        (at-log (λ u. IsAbout o.launch.set known (asked_by m q) u (op.Stored place (value_in m item)))
        (about-store o m es k t q place item guards.stores)))

    pub may-store : (m' : Machine) (place : Place) (item : Item) → StoresLogged o m m' es t q place item
        → MayStore o.launch.set known (asked_by m q) t place (value_in m item)
    may-store m' place item stores =
        at-thread (λ u. MayStore o.launch.set known (asked_by m q) u place (value_in m item))
        (stores_may_come o.launch.set known (layout_in o es) (asked_by m q) (log_of m t) log.guards place
        (value_in m item)
        (at-log (λ u. guard_of known.guards place ≡ Some u) stores.guard)
        (at-log (λ u. IsAbout o.launch.set known (asked_by m q) u (op.Stored place (value_in m item)))
        (about o m m' es t q (op.Stored place (value_in m item)) reply.Done k stores.does)))

  -- ---- acts

  may-act : (t calls : ℕ) (operation : Op) (q : Request Ref Item) → known.at ≤ calls
      → Rule o.launch.set known (wants_in o m) (asked_by m q) t [] operation
      → is_fenced operation ≡ owes_fence known.unfenced t → LeavesClosed known operation
      → MayAct o.launch.set known (wants_in o m) (asked_by m q) (act_at t calls operation)
  may-act t calls operation q later rule fence leaves = record {
    later = later;
    rule = rule;
    named = names-of operation;
    fence = fence;
    is_closed = same-closed o m es k (act_at t calls operation) leaves;
  }

later-leaves : (o : Opening) (m : Machine) (twin : Twin) (t : ℕ) (q : Request Ref Item) (log' : Log)
    → LeavesLog o m twin t q log' → (memory_of m).calls ≤ twin.memory.calls
later-leaves o m twin t q _ (emptied log' e) = e.calls.call.later
later-leaves o m twin t q _ (at_once same asks idle ends) =
    let calls = ap (λ (x : Twin). x.memory.calls) same in omega (arith, calls)

asks-leaves : (o : Opening) (m : Machine) (twin : Twin) (t : ℕ) (q : Request Ref Item) (log' : Log)
    → LeavesLog o m twin t q log' → AsksEnd o m t q
asks-leaves o m twin t q _ (emptied log' e) = e.calls.asks
asks-leaves o m twin t q _ (at_once same asks idle ends) = asks

pub region-acts-come : (o : Opening) (m : Machine) (es : List Entry) → KeepsRun o m es → (t : ℕ) (m' : Machine)
    → (e : RegionStep o t m es m') (asks : Option PlainRequest)
    → IfSome (region_act e) (λ a. MayCome o m (asked_with m (region_request e) asks) a)
region-acts-come o m es k t _ (step.begun m' q r begins) asks =
    may-act o m es k t (memory_of m).calls op.Begin q k.asked.timed
    (about o m m' es t q op.Begin r k begins.does)
    (sym (owes-nothing o m m' es t q op.Begin r k begins.does)) tt
region-acts-come o m es k t _ (step.guarded q place item e guards) asks =
    may-act o m es k t (memory_of m).calls (op.Guarded place) q
    k.asked.timed (may-guard o m es k t guards.thread q place item e guards)
    (sym (idle-owes o m es t k (doing_of m t) guards.doing (k.asked.doing t))) tt
region-acts-come o m es k t _ (step.logged twin log' logs) asks = tt
region-acts-come o m es k t _ (step.stored m' q place item stores) asks =
    may-act o m es k t (memory_of m).calls (op.Stored place (value_in m item)) q k.asked.timed
    (may-store o m es k t stores.does.thread q m' place item stores)
    (sym (owes-nothing o m m' es t q (op.Stored place (value_in m item)) reply.Done k stores.does))
    (λ durable. stores.kept)
region-acts-come o m es k t _ (step.ending twin q log' part) asks = tt
region-acts-come o m es k t _ (step.closing twin q log' closes) asks =
    may-act o m es k t twin.memory.calls op.Closing q
    (let before = k.asked.timed in let later = closes.calls.call.later in omega (arith, before, later))
    (may-close o m es k t closes.calls.thread q twin log' closes)
    (sym (owes-none o m es k t closes.calls.asks.doing)) tt
region-acts-come o m es k t _ (step.ended m' q r ends) asks =
    may-act o m es k t ends.twin.memory.calls op.End q
    (let before = k.asked.timed in let later = later-leaves o m ends.twin t q ends.log ends.leaves in
    omega (arith, before, later))
    (may-end o m es k t ends.does.thread q ends.twin ends.log ends.leaves)
    (sym (owes-none o m es k t (asks-leaves o m ends.twin t q ends.log ends.leaves).doing)) tt
