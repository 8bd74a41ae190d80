-- Durable stores outside regions.
use Rattle.std.proofs.Common.{◌≡◌, ℕ, ◌<◌, true, [], ◌∷◌, ◌++◌, length, refl, sym, ◌∙◌, ap, arith, List}
use Rattle.graph_model.specs.Heaps.{has_number}
use Rattle.run_history.specs.declared.act.Op.TheVariants as op
use Rattle.run_history.specs.Worlds.{depth_of}
use Rattle.run_history.specs.Knowing.{store_fate}
use Rattle.stop_theorem.specs.InvariantEvents.{line_at}
use Rattle.stop_theorem.specs.Conditions.{IsSingleUnguarded}
use Rattle.stop_theorem.specs.Running.{State, with_act, with_memory, SingleStored}
use Rattle.machine_forms.specs.declared.doing.Doing.TheVariants.{Writing}
use Rattle.machine_forms.specs.Machines.{known_in, memory_of, layout_in, waits_in, state_in, Opening, Machine}
use Rattle.machine_forms.specs.Events.{value_in, StoresDurably}
use Rattle.machine_laws.proofs.StopActing.{owes_nothing}
use Rattle.machine_laws.proofs.StopMoving.{runs_on, moved}
use Rattle.machine_laws.proofs.StopStoring.{StoresKept, stores_at}
use Rattle.machine_laws.proofs.Waiting.{waits_of, waits_same}
use Rattle.twin_forms.specs.Table.{Entry}
use Rattle.machine_forms.specs.Keeping.{KeepsRun, KeepsHeap, KeepsStops}
use Rattle.natives.specs.declared.requests.Request.{Request}
use Rattle.ap_base.specs.declared.reference.Ref.{Ref}
use Rattle.ap_base.specs.declared.reference.Item.{Item}
use Rattle.ap_base.specs.declared.place.Place.{Place}

pub durable_keep : (o : Opening) (m : Machine) (es : List Entry) → KeepsRun o m es
    → (m' : Machine) (t : ℕ) (request : Request Ref Item)
    (place : Place) (item : Item) → StoresDurably o m m' es t request place item → KeepsHeap o m' es
    → KeepsStops o m' es
durable_keep o m es r m' t request place item d h told =
    let known = known_in o m in
    let v = value_in m item in
    let one : State = state_in o m es in
    let next : State = with_act (with_memory one (memory_of m')) t (op.Stored place v) [] in
    let owes = owes_nothing o m es r t d.does.doing in
    let kept : StoresKept o m m' es t request place item =
    record { does = d.does; stores = d.stores; durable = d.durable; kept = d.kept } in
    let stores = stores_at o m es r m' h t request item place kept in
    let line : ℕ = line_at (layout_in o es) known place in
    let log = r.asked.regions.each t d.does.thread in
    let depth : depth_of known.world t ≡ 0 = ap (depth_of known.world) (sym log.thread) ∙ sym log.guards.depth
    ∙ d.outside in
    let outside : IsSingleUnguarded known (waits_in m) t place = record {
      single = record {
        owes_none = owes.owes;
        fate = ap (λ b. store_fate t b (depth_of known.world t) (has_number known.closing t)) d.durable
            ∙ ap (λ k. store_fate t true k (has_number known.closing t)) depth;
      };
      unguarded = d.unguarded;
      waits_not = owes.waits;
    } in
    let many = r.asked.threads in
    let few = d.does.thread in
    let lt : t < length m.doing = omega (arith, many, few) in
    let acts : m'.acts ≡ next.acts = d.does.acts
    ∙ ap (λ n.
    m.acts ++ record { act = record { thread = t; at = n; op = op.Stored place v }; named = [] } ∷ [])
    (sym stores.1.puts.same.calls) in
    let waits : waits_in m' ≡ waits_in m = ap waits_of d.doing
    ∙ waits_same m.doing t (Writing line) lt (sym owes.waits) in
    moved o next.acts m'.acts (layout_in o es) (layout_in o es) (waits_in m) (waits_in m') (memory_of m')
    (memory_of m') acts refl waits refl
    (runs_on o one next r.heap.long
    (SingleStored one (memory_of m') t place v stores.0 stores.1 outside) (r.stops told))
