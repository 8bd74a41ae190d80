-- A thread whose wait for a conversion holds can make no step, and tells it: no other way to go is open to it.
use Rattle.std.proofs.Common.{◌≡◌, ◌≢◌, ◌⊎◌, inl, inr, ℕ, ◌<◌, ◌≤◌, true, List, length, refl, sym, ◌∙◌, ap, subst, arith}
use Rattle.std.proofs.lemmas.Bool.{cases_lt}
use Rattle.std.proofs.lemmas.Bool.Decides.{eqb_tells}
use Rattle.monitors.specs.declared.monitor.Monitor.{Monitor}
use Rattle.run_types.specs.declared.wait.On.TheVariants as on
use Rattle.twin_forms.specs.Table.{Entry, InP}
use Rattle.twin_forms.specs.Sights.{view_of}
use Rattle.twin_forms.proofs.Tables.{alike}
use Rattle.convert_queue.specs.declared.phase.Phase.TheVariants.{Copy, Repair, Flush}
use Rattle.convert_queue.specs.Marks.{Mark, IsClean}
use Rattle.convert_queue.specs.Queues.{Queued, IsSettled, phase_of, place_of}
use Rattle.convert_queue.specs.Threads.{InGroup, has, needs_of}
use Rattle.convert_queue.specs.Threads.InGroup.{itself, needed}
use Rattle.convert_words.specs.declared.step.ConvertStep.{ConvertStep}
use Rattle.convert_words.specs.declared.step.ConvertStep.TheVariants as step
use Rattle.convert_words.specs.Scenes.{Scene, AgreesAt}
use Rattle.convert_words.specs.Converting.{Lacks, Says}
use Rattle.converter.specs.Stepping.{Event as Converts}
use Rattle.converter.proofs.Exact.{clash, flush_stays, in_closed}
use Rattle.converter.proofs.Waiting.{lacking_threads_wait}
use Rattle.convert_waits.specs.Stuck.{HoldsWait}
use Rattle.convert_waits.specs.Waiting.{WaitsForMember}
use Rattle.convert_waits.proofs.Waiting.{needs-below}
use Rattle.machine_threads.specs.Passed.{Nothing, Converting, Writing, Fencing}
use Rattle.machine_threads.specs.Passed.{Opening, Machine, doing_of, scene_of}
use Rattle.machine_threads.specs.Passed.{IsFree}
use Rattle.machine_threads.specs.Stuck.{plain_waits}
use Rattle.shared_heap.specs.Conversions.{HasBegun, MovesOn}
use Rattle.machine.specs.declared.events.Event.{Event}
use Rattle.machine.specs.Events.{FindsConversion}
use Rattle.machine.specs.Laws.{AreResident}
use Rattle.machine.proofs.Waiting.{touches-none}

-- by another table of the same heap the same is durable
durable-alike : (s : Scene) (es es' : List Entry) (n : ℕ) → AgreesAt s es → AgreesAt s es' → InP es n → InP es' n
durable-alike s es es' n agrees agrees' (there, stage, owner) =
    let same = alike (view_of s.heap) es es' n agrees.lies agrees'.lies there in (
      omega (arith, there, agrees.lies.long, agrees'.lies.long),
      (let is = same.stage in omega (arith, stage, is)),
      same.owner ∙ owner,
    )

-- ---- ways that are open to none that waits so

module _ (o : Opening) (m : Machine) (t : ℕ) where
  pub awaits-nothing : doing_of m t ≡ Nothing → (result : Event) → FindsConversion o m t result
  awaits-nothing is result u w = absurd (let no : Nothing ≡ Converting = sym is ∙ w.converting in cc)

  pub awaits-fencing : doing_of m t ≡ Fencing → (result : Event) → FindsConversion o m t result
  awaits-fencing is result u w = absurd (let no : Fencing ≡ Converting = sym is ∙ w.converting in cc)

  pub awaits-writing : (line : ℕ) → doing_of m t ≡ Writing line → (result : Event) → FindsConversion o m t result
  awaits-writing line is result u w = absurd (let no : Writing line ≡ Converting = sym is ∙ w.converting in cc)

  -- a thread that has asked what is durable may make its store
  pub awaits-free : (es : List Entry) → AgreesAt (scene_of m) es → IsFree o m es t (doing_of m t) → (result : Event)
      → FindsConversion o m t result
  awaits-free es agrees free result u w =
      absurd (w.volatile (durable-alike (scene_of m) es w.table w.object agrees w.agrees
      (subst (IsFree o m es t) w.converting free w.pending w.object w.asked w.value)))

  -- ---- its conversion has begun

  module _ (es : List Entry) (agrees : AgreesAt (scene_of m) es) where
    -- whoever has another in its group needs another itself
    needs-other : (u : ℕ) → InGroup (needs_of m.queue.needs) t u
        → (u ≡ t) ⊎ ((64 ≤ u) ⊎ ((w : ℕ) × (w < 64) × (w ≢ t) × (needs_of m.queue.needs t w ≡ true)))
    needs-other _ itself = inl refl
    needs-other _ (needed v u group needs) = elim (needs-other v group) [
      | inl same ↦ at-once u (subst (λ x. needs_of m.queue.needs x u ≡ true) same needs)
      | inr rest ↦ elim rest [
        | inl past ↦ absurd (let below = needs-below (scene_of m) es agrees v u needs in omega (arith, past, below))
        | inr other ↦ inr (inr other)
      ]
    ]
      where
        at-once : (u : ℕ) → needs_of m.queue.needs t u ≡ true
            → (u ≡ t) ⊎ ((64 ≤ u) ⊎ ((w : ℕ) × (w < 64) × (w ≢ t) × (needs_of m.queue.needs t w ≡ true)))
        at-once u needs = elim (eqb_tells u t) [
          | inl same ↦ inl same.1
          | inr other ↦ elim (cases_lt u 64) [
            | inl below ↦ inr (inr (u, below, other.1, needs))
            | inr past ↦ inr (inl (omega (arith, past)))
          ]
        ]

    has-begun : (u : ℕ) → u < 64 → HoldsWait (plain_waits o m) (scene_of m) es t (on.Conversion u)
        → HasBegun (scene_of m) t
    has-begun u below (inl member) = elim (needs-other u member.member) [
      | inl same ↦ absurd (member.unsettled (subst (IsSettled m.queue) (sym same) member.settled))
      | inr rest ↦ elim rest [
        | inl past ↦ absurd (omega (arith, below, past))
        | inr other ↦ inr (member.settled.phase, other.0, other.1, other.2, other.3)
      ]
    ]
    has-begun u below (inr lacks) = inl (λ none. let within = lacks.is.within in
        let empty = ap (λ (xs : List Queued). length xs) none in omega (arith, within, empty))

  pub awaits-idle : (HasBegun (scene_of m) t → ⊥) → (result : Event) → FindsConversion o m t result
  awaits-idle idle result u w = absurd (idle (has-begun w.table w.agrees u w.below w.holds))

-- ---- its step

-- a settled thread makes no step
settled-stops : (answer : ConvertStep) (t : ℕ) (s s' : Scene) (es es' : List Entry) → IsSettled s.queue t → MovesOn answer
    → Says answer t s s' es es' → ⊥
settled-stops step.Claimed t s s' es es' own moves says =
    clash (phase_of s.queue t) Copy Flush says.0.asked.phase own.phase (λ e. omega (arith, e))
settled-stops step.CopiedLine t s s' es es' own moves says =
    clash (phase_of s.queue t) Copy Flush says.0.phase own.phase (λ e. omega (arith, e))
settled-stops step.Forwarded t s s' es es' own moves says =
    clash (phase_of s.queue t) Copy Flush says.0.phase own.phase (λ e. omega (arith, e))
settled-stops step.Repaired t s s' es es' own moves says =
    clash (phase_of s.queue t) Repair Flush says.0.phase own.phase (λ e. omega (arith, e))
settled-stops step.WroteBack t s s' es es' own moves says = own.clean.written says.0.line says.0.stored
settled-stops step.Fenced t s s' es es' own moves says = own.clean.fenced says.0.line says.0.waits
settled-stops step.Touched t s s' es es' own moves says = elim says.0.needed [
  | inl x ↦ clash (phase_of s.queue t) Copy Flush x.0 own.phase (λ e. omega (arith, e))
  | inr y ↦ elim y [
    | inl x ↦ clash (phase_of s.queue t) Repair Flush x.0 own.phase (λ e. omega (arith, e))
    | inr x ↦ own.clean.written says.0.line x.1
  ]
]
settled-stops (step.Sealed set) t s s' es es' own moves says = moves
settled-stops (step.Wait u) t s s' es es' own moves says = moves
settled-stops (step.Full need left) t s s' es es' own moves says = moves

module _ (t u : ℕ) (answer : ConvertStep) (s s' : Scene) (es : List Entry) (ms ms' : List Monitor)
    (agrees : AgreesAt s es) (e : Converts t answer s s' es ms ms') where
  settled-now : IsSettled s.queue t → IsSettled e.at.queue t
  settled-now own = record {
    phase = flush_stays (phase_of s.queue t) (phase_of e.at.queue t) (place_of s.queue t) (place_of e.at.queue t) own.phase
        e.goes_on.on;
    clean = subst (λ (marks : List Mark). IsClean marks t) (sym e.goes_on.marks) own.clean;
  }

  pub none-moves : AreResident → MovesOn answer → WaitsForMember s t u ⊎ Lacks s es t u → ⊥
  none-moves resident moves (inl member) =
      settled-stops answer t e.at s' es e.after (settled-now member.settled) moves e.converts.says
  none-moves resident moves (inr lacks) = elim (lacking_threads_wait t u answer s s' es ms ms' agrees e lacks) [
    | inl touched ↦ touches-none resident e.at s' es e.after t e.goes_on.agrees
        (subst (λ a. Says a t e.at s' es e.after) touched e.converts.says).0
    | inr waits ↦ subst MovesOn waits.1 moves
  ]

-- its group isn't sealed
pub none-seals : (t u set : ℕ) (s s' : Scene) (es : List Entry) (ms ms' : List Monitor) → AgreesAt s es
    → (e : Converts t (step.Sealed set) s s' es ms ms') → u < 64 → WaitsForMember s t u ⊎ Lacks s es t u → ⊥
none-seals t u set s s' es ms ms' agrees e below (inl member) =
    let says = e.converts.says in
    let in-set = in_closed (needs_of s.queue.needs) (needs_of e.at.queue.needs) t (has set) e.goes_on.kept
    says.group.closed says.group.member u member.member in
    let settled : IsSettled e.at.queue u = says.settled u below in-set in
    member.unsettled (elim (eqb_tells u t) [
      | inl same ↦ subst (IsSettled s.queue) (sym same.1) member.settled
      | inr other ↦ record {
        phase = sym (e.goes_on.other_phases u other.1) ∙ settled.phase;
        clean = subst (λ (marks : List Mark). IsClean marks u) e.goes_on.marks settled.clean;
      }
    ])
none-seals t u set s s' es ms ms' agrees e below (inr lacks) =
    elim (lacking_threads_wait t u (step.Sealed set) s s' es ms ms' agrees e lacks) [
      | inl touched ↦ (let no = touched in cc)
      | inr waits ↦ (let no = waits.1 in cc)
    ]
