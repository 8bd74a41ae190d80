-- Acts of requests that change no durable place.
use Rattle.std.proofs.Common.{◌≡◌, inl, inr, ℕ, ◌+◌, ◌<◌, Bool, true, false, ◌||◌, List, [], ◌∷◌, ◌++◌, length, map, refl, sym}
use Rattle.std.proofs.Common.{◌∙◌, ap, subst, arith, nat_eq, eq-eqb}
use Rattle.std.specs.Prelude.{slice_index_or}
use Rattle.std.proofs.lemmas.Bool.{true≢false}
use Rattle.ap_base.specs.declared.reference.Ref.{Ref}
use Rattle.ap_base.specs.declared.reference.Item.{Item}
use Rattle.ap_base.specs.declared.place.Place.{Place}
use Rattle.ap_base.specs.declared.place.Place.TheVariants.{Static, Slot}
use Rattle.natives.specs.declared.requests.Request.{Request}
use Rattle.natives.specs.declared.requests.Reply.{Reply}
use Rattle.graph_model.specs.declared.types.Root.{Root}
use Rattle.graph_model.specs.declared.types.Value.{Value}
use Rattle.graph_model.specs.Heaps.{values_of}
use Rattle.line_memory.specs.Memory.{Memory}
use Rattle.run_history.specs.declared.act.Op.{Op}
use Rattle.run_history.specs.declared.act.Op.TheVariants as op
use Rattle.run_history.specs.Worlds.{has_place}
use Rattle.run_history.specs.Knowing.{Knowledge, durable_at, owes_fence, is_root}
use Rattle.run_history.proofs.Sizes.{there}
use Rattle.plain_model.specs.Codes.{is_persistent}
use Rattle.step_forms.specs.Becomes.{Becomes}
use Rattle.step_forms.specs.declared.stepped.Stepped.TheVariants as stepped
use Rattle.stop_theorem.specs.Running.{State, with_act}
use Rattle.stop_theorem.specs.GivenCopies.{IsQuiet}
use Rattle.stop_theorem.proofs.Quiet.{quiet_acts}
use Rattle.twin_forms.specs.Table.{Entry, entry, InP, lines_of, line_of}
use Rattle.two_spaces.specs.declared.spaces.Static.{Static as Field}
use Rattle.two_spaces.specs.declared.spaces.Static.TheVariants.{Beside, Root as RootSlot}
use Rattle.two_spaces.specs.Seen.{Spaces, shown_of}
use Rattle.two_spaces.specs.Whole.{StoredTo, StaticStored, SlotStored, StoresIn, MakesIn, no_static}
use Rattle.two_spaces.proofs.Keeping.{copied_or_not}
use Rattle.machine_forms.specs.declared.doing.Doing.{Doing}
use Rattle.machine_forms.specs.declared.doing.Doing.TheVariants.{Nothing, Converting, Writing, Fencing}
use Rattle.machine_forms.specs.Machines.{Opening, Machine, first_of, known_in, memory_of, doing_of, layout_in, waits_in}
use Rattle.machine_forms.specs.Machines.{is_fencing}
use Rattle.machine_forms.specs.Keeping.{KeepsRun, IsDoing, KeepsStops}
use Rattle.machine_forms.specs.Events.{IsFree, left_by, DoesRequest, TableAfter, LeavesRegions, StoresBeside, ActsBeside}
use Rattle.machine_laws.proofs.StopMoving.{state_with, RunsAt, runs_on, moved}
use Rattle.machine_laws.proofs.Waiting.{waits_of, waits_same}
use Rattle.machine_laws.proofs.Free.{line_changed}
use Rattle.machine_laws.proofs.Stepping.{visible, place_there}
use Rattle.machine_laws.proofs.StopTables.{values_many, there_durable, placed_there, free_line, fresh_durable, same_layout}

-- ---- what the thread is about

-- it owes no fence, and waits for none
pub record OwesNothing (known : Knowledge) (t : ℕ) (d : Doing) : Type 0 where
  pub owes : owes_fence known.unfenced t ≡ false
  pub waits : is_fencing d ≡ false

owes_by : (o : Opening) (m : Machine) (es : List Entry) (t : ℕ) (d : Doing) → IsFree o m es t d
    → IsDoing (known_in o m) (layout_in o es) t d → OwesNothing (known_in o m) t d
owes_by o m es t Nothing free doing = record { owes = doing.1; waits = refl }
owes_by o m es t Converting free doing = record { owes = doing.1; waits = refl }
owes_by o m es t (Writing line) free doing = absurd free
owes_by o m es t Fencing free doing = absurd free

pub owes_nothing : (o : Opening) (m : Machine) (es : List Entry) → KeepsRun o m es → (t : ℕ)
    → IsFree o m es t (doing_of m t) → OwesNothing (known_in o m) t (doing_of m t)
owes_nothing o m es r t free = owes_by o m es t (doing_of m t) free (r.asked.doing t)

left_waits : (operation : Op) (d : Doing) → is_fencing d ≡ false
    → is_fencing (left_by operation d) ≡ is_fencing d
left_waits (op.Stored place value) d none = sym none
left_waits operation d none = refl

-- ---- no operation of its own

quiet_op : (known : Knowledge) (t : ℕ) (operation : Op) → is_persistent operation ≡ false
    → LeavesRegions operation → owes_fence known.unfenced t ≡ false
    → ((place : Place) (value : Value) → operation ≡ op.Stored place value → durable_at known place ≡ false)
    → IsQuiet known t operation
quiet_op known t (op.Asked place value) seen leaves owes beside = absurd (true≢false seen)
quiet_op known t op.Joined seen leaves owes beside = absurd (true≢false seen)
quiet_op known t (op.Guarded place) seen leaves owes beside = absurd (true≢false seen)
quiet_op known t op.Closing seen leaves owes beside = absurd (true≢false seen)
quiet_op known t op.Fenced seen leaves owes beside = absurd (true≢false seen)
quiet_op known t op.End seen leaves owes beside = absurd leaves
quiet_op known t (op.Stored place value) seen leaves owes beside = (owes, beside place value refl)
quiet_op known t operation seen leaves owes beside = tt

not_durable : (o : Opening) (m : Machine) (es : List Entry) (operation : Op) → StoresBeside o m es operation
    → (place : Place) (value : Value) → operation ≡ op.Stored place value
    → durable_at (known_in o m) place ≡ false
not_durable o m es operation beside (Static f) value is =
    subst (λ (x : Op). StoresBeside o m es x) is beside
not_durable o m es operation beside (Slot n i) value is =
    (subst (λ (x : Op). StoresBeside o m es x) is beside).0

-- ---- the memory

pub root_there : (roots : List Root) (r : ℕ) → r < length roots
    → is_root roots (slice_index_or (map (λ (root : Root). root.at) roots) r 0) ≡ true
root_there [] r below = absurd (omega (arith, below))
root_there (root ∷ roots) ℕ.zero below = rw (eq-eqb root.at root.at refl) refl
root_there (root ∷ roots) (ℕ.suc r) below =
    or_true (nat_eq root.at (slice_index_or (map (λ (one : Root). one.at) roots) r 0))
    (is_root roots (slice_index_or (map (λ (one : Root). one.at) roots) r 0))
    (root_there roots r (omega (arith, below)))
  where
    or_true : (a b : Bool) → b ≡ true → (a || b) ≡ true
    or_true true b is = refl
    or_true false b is = is

module _ (o : Opening) (m : Machine) (es : List Entry) (r : KeepsRun o m es) (m' : Machine) where
  abbrev RunsWith : Memory → Type 0
  RunsWith memory = RunsAt o (state_with m.acts (layout_in o es) (waits_in m) memory)

  -- the runs go on, and no call was made
  record Goes : Type 0 where
    runs : RunsWith (memory_of m')
    calls : (memory_of m').calls ≡ (memory_of m).calls

  same_memory : memory_of m' ≡ memory_of m → RunsWith (memory_of m) → Goes
  same_memory same runs = record {
    runs = moved o m.acts m.acts (layout_in o es) (layout_in o es) (waits_in m) (waits_in m) (memory_of m)
        (memory_of m') refl refl refl same runs;
    calls = ap (λ (x : Memory). x.calls) same;
  }

  static_goes : (f : ℕ) (item : Item) (field : Field) → slice_index_or m.spaces.statics f no_static ≡ field
      → StaticStored m.spaces es f field item m'.spaces → durable_at (known_in o m) (Static f) ≡ false
      → RunsWith (memory_of m) → Goes
  static_goes f item (Beside old) is stored none runs =
      same_memory (ap (λ (s : Spaces). s.twin.memory) stored.is) runs
  static_goes f item (RootSlot slot) is stored none runs =
      let one = r.world.roots.others f slot is in
      absurd (true≢false (sym (root_there (known_in o m).world.heap.roots slot one.0)
      ∙ ap (is_root (known_in o m).world.heap.roots) one.1 ∙ none))

  slot_goes : (n i w : ℕ) → SlotStored m.spaces es n i w m'.spaces → (InP es n → ⊥)
      → i < length (values_of (known_in o m).world.heap n) → RunsWith (memory_of m) → Goes
  slot_goes n i w stored out inside runs = elim (copied_or_not (entry es n) (line_of i)) [
    | inr none ↦ same_memory (stored.same none) runs
    | inl has ↦
        (let placed : 0 < (entry es n).stage = (elim has [
          | inl high ↦ omega (arith, high)
          | inr one ↦ (let e = one.0 in omega (arith, e))
        ]) in
        let many = values_many o m es r n (placed_there es n placed) in
        let stores = stored.line has in
        let within : line_of i < lines_of (entry es n) = omega (arith, inside, many) in
        record {
          runs = line_changed o (state_with m.acts (layout_in o es) (waits_in m) (memory_of m)) (memory_of m')
              ((entry es n).line + line_of i) stores.changes
              (free_line o m es r n (line_of i) placed out within)
              runs;
          calls = stores.changes.same.calls;
        })
  ]

  place_goes : (place : Place) (item : Item) → StoredTo m.spaces es place item m'.spaces
      → has_place (known_in o m).world.heap place ≡ true
      → durable_at (known_in o m) place ≡ false → RunsWith (memory_of m) → Goes
  place_goes (Static f) item stored has none runs =
      static_goes f item (slice_index_or m.spaces.statics f no_static) refl stored none runs
  place_goes (Slot n i) item stored has none runs =
      slot_goes n i stored.0 stored.2
      (λ p. true≢false (sym (there_durable o m es r n p) ∙ none))
      (there (known_in o m).world.heap (Slot n i) has).1 runs

  goes : (t : ℕ) (request : Request Ref Item) (operation : Op) (reply : Reply Ref Item)
      → DoesRequest o m m' es t request operation reply → StoresBeside o m es operation
      → Becomes shown_of StoresIn MakesIn m.spaces (stepped.Did operation reply) m'.spaces
      → RunsWith (memory_of m) → Goes
  goes t request (op.Stored place value) reply does beside becomes runs =
      place_goes place becomes.0 (becomes.2 es r.heap.whole)
      (place_there o m es r m' t request place value reply does)
      (not_durable o m es (op.Stored place value) beside place value refl) runs
  goes t request (op.Alloc n shape count) reply does beside becomes runs =
      same_memory (becomes es r.heap.whole).memory runs
  goes t request (op.Throw n class) reply does beside becomes runs =
      same_memory (becomes es r.heap.whole).memory runs
  goes t request operation reply does beside becomes runs =
      same_memory (ap (λ (s : Spaces). s.twin.memory) becomes) runs

-- ---- the table

layout_after : (o : Opening) (m : Machine) (operation : Op) (es es' : List Entry)
    → TableAfter m operation es es' → layout_in o es' ≡ layout_in o es
layout_after o m (op.Alloc n class count) es es' after =
    ap (layout_in o) after.2
    ∙ same_layout o es _ (fresh_durable es after.0 after.1 (length m.spaces.twin.space.words))
layout_after o m (op.Throw n class) es es' after =
    ap (layout_in o) after.2
    ∙ same_layout o es _ (fresh_durable es after.0 after.1 (length m.spaces.twin.space.words))
layout_after o m operation es es' after = ap (layout_in o) after

-- ---- acts

pub acts_keep : (o : Opening) (m : Machine) (es : List Entry) → KeepsRun o m es
    → (m' : Machine) (es' : List Entry) (t : ℕ) (request : Request Ref Item)
    (operation : Op) (r : Reply Ref Item) → ActsBeside o m m' es t request operation r
    → TableAfter m operation es es' → KeepsStops o m' es'
acts_keep o m es r m' es' t request operation reply b after told =
    let does = b.does in
    let went = goes o m es r m' t request operation reply does b.beside does.heap (r.stops told) in
    let owes = owes_nothing o m es r t does.doing in
    let one : State = state_with m.acts (layout_in o es) (waits_in m) (memory_of m') in
    let next : State = with_act one t operation [] in
    let quiet : IsQuiet (known_in o m) t operation = quiet_op (known_in o m) t operation
    (visible o m es r m' t request operation reply does) b.outside owes.owes
    (not_durable o m es operation b.beside) in
    let many = r.asked.threads in
    let few = does.thread in
    let lt : t < length m.doing = omega (arith, many, few) in
    let acts : m'.acts ≡ next.acts = does.acts
    ∙ ap (λ n. m.acts ++ record { act = record { thread = t; at = n; op = operation }; named = [] } ∷ [])
    (sym went.calls) in
    let waits : waits_in m' ≡ waits_in m = ap waits_of b.doing
    ∙ waits_same m.doing t (left_by operation (doing_of m t)) lt
    (left_waits operation (doing_of m t) owes.waits) in
    moved o next.acts m'.acts (layout_in o es) (layout_in o es') (waits_in m) (waits_in m') (memory_of m')
    (memory_of m') acts (layout_after o m operation es es' after) waits refl
    (runs_on o one next r.heap.long
    (quiet_acts (first_of o) one t operation quiet went.runs.stands.shows) went.runs)
