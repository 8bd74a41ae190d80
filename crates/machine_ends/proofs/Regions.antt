-- What a store meets by what is known, where the threads' logs tell of their regions.
use Rattle.std.proofs.Common.{◌≡◌, ◌≢◌, inl, inr, ℕ, zero, suc, ◌<◌, ◌≤◌, ◌||◌, Bool, true, false, List, length, nat_eq, nat_le}
use Rattle.std.proofs.Common.{Option, Some, None, refl, ap, sym, ◌∙◌, arith, if◌then◌else◌, eq-eqb, ne_eqb}
use Rattle.std.proofs.lemmas.Bool.{and_parts, cases_lt}
use Rattle.std.proofs.lemmas.Bool.Decides.{nat_tests}
use Rattle.std.proofs.Math.ListN.{get_or-eq_default}
use Rattle.ap_base.specs.declared.place.Place.{Place}
use Rattle.ap_base.specs.declared.reference.Ref.{Ref}
use Rattle.ap_base.specs.declared.reference.Item.{Item}
use Rattle.run_types.specs.declared.resolved.At.{At}
use Rattle.natives.specs.declared.requests.Request.{Request}
use Rattle.natives.specs.declared.requests.Request.TheVariants as ask
use Rattle.natives.specs.declared.requests.Reply.TheVariants as reply
use Rattle.run_types.specs.declared.fault.RunFault.{RunFault}
use Rattle.run_types.specs.declared.fault.RunFault.TheVariants as fault
use Rattle.run_types.specs.declared.fault.Which.TheVariants as which
use Rattle.graph_model.specs.declared.types.Root.{Root}
use Rattle.graph_model.specs.declared.types.Value.{Value}
use Rattle.run_history.specs.declared.act.Op.TheVariants as op
use Rattle.run_history.specs.Worlds.{World, depth_of, has_place}
use Rattle.run_history.specs.Knowing.{Guard, Knowledge, durable_at, guard_of}
use Rattle.plain_model.specs.Limits.{guards_of, log_entries_left}
use Rattle.plain_model.specs.Runs.{is_volatile}
use Rattle.plain_model.specs.Steps.{Does, ends_region, step}
use Rattle.plain_model.specs.Ends.{full, full_unless, fault_of_durable_store, fault_of_store}
use Rattle.region_log.specs.Log.{Log}
use Rattle.region_events.specs.Guards.{KeepsGuards, named_count}
use Rattle.region_events.proofs.Lists.{guards_none, no_place}
use Rattle.twin_forms.specs.Table.{Entry}
use Rattle.shared_objects.specs.Plain.{plain_request}
use Rattle.shared_objects.specs.Worlds.{world_of}
use Rattle.machine_laws.specs.Passed.{Opening, Machine, known_in, log_of, empty_log, layout_in, shown_in}
use Rattle.machine_laws.specs.Passed.{AsksEnd}
use Rattle.machine_laws.specs.Passed.{KeepsRun}
use Rattle.machine_ends.specs.Stores.{StoresFreely, beside, own, outside, volatile, room, FillsLogOf}

-- ---- what logs tell

module _ (o : Opening) (m : Machine) (es : List Entry) (k : KeepsRun o m es) where
  abbrev known : Knowledge
  known = known_in o m

  -- the log of thread t, by its number
  keeps-guards : (t : ℕ) → t < 64 → KeepsGuards known (layout_in o es) (log_of m t)
  keeps-guards t lt = (k.asked.regions.each t lt).guards

  thread-is : (t : ℕ) → t < 64 → (log_of m t).thread ≡ t
  thread-is t lt = (k.asked.regions.each t lt).thread

  -- a further thread has no log
  none-past : (t : ℕ) → 64 ≤ t → log_of m t ≡ empty_log t
  none-past t past = let all = k.asked.regions.many in
      get_or-eq_default m.logs (empty_log t) (omega (arith, all, past))

  -- a region is as deep as its thread's log tells
  depth-is : (t : ℕ) → depth_of known.world t ≡ (log_of m t).depth
  depth-is t = elim (cases_lt t 64) [
    | inl lt ↦ ap (depth_of known.world) (sym (thread-is t lt)) ∙ sym (keeps-guards t lt).depth
    | inr past ↦ (k.asked.regions.others t past).depth ∙ sym (ap (λ (l : Log). l.depth) (none-past t past))
  ]

  -- and has guarded as many places as it names words
  count-is : (t : ℕ) → length (guards_of known.guards t) ≡ named_count (log_of m t)
  count-is t = elim (cases_lt t 64) [
    | inl lt ↦ ap (λ u. length (guards_of known.guards u)) (sym (thread-is t lt)) ∙ (keeps-guards t lt).count
    | inr past ↦ ap (λ (gs : List Guard). length gs)
        (guards_none known.guards t (k.asked.regions.others t past).guards)
        ∙ sym (ap named_count (none-past t past))
  ]

  -- a place that a region has guarded is durable
  guarded-durable : (place : Place) (u : ℕ) → guard_of known.guards place ≡ Some u
      → durable_at known place ≡ true
  guarded-durable place u guard = elim (cases_lt u 64) [
    | inl lt ↦
        (let at = (keeps-guards u lt).guarded place (guard ∙ ap (λ n. Some n) (sym (thread-is u lt))) in
        (and_parts (durable_at known place) (has_place known.world.heap place) at.0).0)
    | inr past ↦ absurd (no_place known.guards u place (k.asked.regions.others u past).guards guard)
  ]

  -- ---- stores

  module _ (t : ℕ) (place : Place) (value : Value) where
    abbrev fault_now : Option RunFault
    fault_now = fault_of_store o.launch.set o.launch.opening o.launch.limits known t place value

    -- the fault of a durable store, by who has guarded the place
    abbrev fault_by : Option ℕ → Option RunFault
    fault_by guard =
        fault_of_durable_store o.launch.set o.launch.opening o.launch.limits known t place value guard

    abbrev fault_of_log : Option RunFault
    fault_of_log = full_unless which.LogEntries 1 (log_entries_left known.guards t)

    at-durable : durable_at known place ≡ true → fault_now ≡ fault_by (guard_of known.guards place)
    at-durable durable =
        ap (λ b. if b then fault_by (guard_of known.guards place) else None) durable

    -- where it is none for a durable place, it is none
    by-guard : (guard : Option ℕ) → guard_of known.guards place ≡ guard → fault_by guard ≡ None
        → fault_now ≡ None
    by-guard guard is none = only-if (durable_at known place) _ (ap fault_by is ∙ none)
      where
        only-if : (b : Bool) (x : Option RunFault) → x ≡ None → (if b then x else None) ≡ None
        only-if true x e = e
        only-if false x e = refl

    or-true : (b : Bool) → (b || true) ≡ true
    or-true true = refl
    or-true false = refl

    if-none : (b : Bool) (x : Option RunFault) → x ≡ None → (if b then None else x) ≡ None
    if-none true x e = refl
    if-none false x e = e

    has-room : named_count (log_of m t) < 1024 → fault_of_log ≡ None
    has-room few =
        let count = count-is t in
        let some : 1 ≤ log_entries_left known.guards t = omega (arith, few, count) in
        let so : nat_le 1 (log_entries_left known.guards t) ≡ true = grind (arith, nat_tests) in
        ap (λ b. if b then None else Some (full which.LogEntries 1 (log_entries_left known.guards t))) so

    pub free-met : StoresFreely o m t place value → fault_now ≡ None
    free-met (beside volatile_place) =
        ap (λ b. if b then fault_by (guard_of known.guards place) else None) volatile_place
    free-met (own guard) = by-guard (Some t) guard
        (ap (λ b. if b then None else Some (fault.RegionRace t t place)) (eq-eqb t t refl))
    free-met (outside guard none) = by-guard None guard
        (ap (λ n. if is_volatile known.durable value || nat_eq n 0 then None else fault_of_log)
        (depth-is t ∙ none)
        ∙ ap (λ b. if b then None else fault_of_log) (or-true (is_volatile known.durable value)))
    free-met (volatile guard is) = by-guard None guard
        (ap (λ b. if b || nat_eq (depth_of known.world t) 0 then None else fault_of_log) is)
    free-met (room guard few) = by-guard None guard
        (if-none (is_volatile known.durable value || nat_eq (depth_of known.world t) 0) fault_of_log
        (has-room few))

    pub full-log-met : FillsLogOf o m t place value → fault_now ≡ Some (full which.LogEntries 1 0)
    full-log-met fills =
        let count = count-is t in
        let full = fills.full in
        let left : log_entries_left known.guards t ≡ 0 = omega (arith, count, full) in
        let deep = fills.is_open in
        let depth = depth-is t in
        let inside : nat_eq (depth_of known.world t) 0 ≡ false
        = ne_eqb (depth_of known.world t) 0 (λ zero. absurd (omega (arith, zero, deep, depth))) in
        at-durable fills.durable ∙ ap fault_by fills.unguarded
        ∙ ap (λ b. if b || nat_eq (depth_of known.world t) 0 then None else fault_of_log) fills.kept
        ∙ ap (λ b. if b then None else fault_of_log) inside
        ∙ ap (λ n. full_unless which.LogEntries 1 n) left

    pub race-met : (other : ℕ) → guard_of known.guards place ≡ Some other → other ≢ t
        → fault_now ≡ Some (fault.RegionRace t other place)
    race-met other guard another =
        at-durable (guarded-durable place other guard) ∙ ap fault_by guard
        ∙ ap (λ b. if b then None else Some (fault.RegionRace t other place)) (ne_eqb other t another)

  -- ---- ends

  deep-ends : (world : World) (depth : ℕ) → 0 < depth
      → ends_region o.launch.set world depth ≡ Does op.End reply.Done
  deep-ends world zero deep = absurd (omega (arith, deep))
  deep-ends world (suc depth) deep = refl

  open-ends : (world : World) (t : ℕ) (from : At) → 0 < depth_of world t
      → step o.launch.set world t 1 (ask.End from) ≡ Does op.End reply.Done
  unfolding step
  open-ends world t from deep = deep-ends world (depth_of world t) deep

  -- an end that is asked for ends a region
  pub end-does : (t : ℕ) (request : Request Ref Item) (roots : List Root)
      → known.world ≡ world_of roots (shown_in m) m.rest → AsksEnd o m t request
      → step o.launch.set (world_of roots (shown_in m) m.rest) t 1 (plain_request (shown_in m).number request)
      ≡ Does op.End reply.Done
  end-does t request roots world ends =
      let deep = ends.is_open in
      let depth = depth-is t in
      let there : depth_of known.world t ≡ depth_of (world_of roots (shown_in m) m.rest) t
      = ap (λ (w : World). depth_of w t) world in
      ap (λ q. step o.launch.set (world_of roots (shown_in m) m.rest) t 1
      (plain_request (shown_in m).number q)) ends.is_end.1
      ∙ open-ends (world_of roots (shown_in m) m.rest) t ends.is_end.0 (omega (arith, deep, depth, there))
