-- What the next step of a conversion is given that has begun by a need.
use Rattle.std.proofs.Common.{◌≡◌, inr, ℕ, ◌<◌, List, length, sym, ◌∙◌, ap, subst, arith}
use Rattle.std.proofs.lemmas.List.{get_or-set_same}
use Rattle.ap_base.specs.References.{reference_word}
use Rattle.ap_base.specs.declared.reference.Ref.{Ref}
use Rattle.run_history.specs.Recorded.{History}
use Rattle.twin_forms.specs.Table.{Entry}
use Rattle.twin_forms.specs.Sights.{Twin}
use Rattle.convert_queue.specs.declared.phase.Phase.TheVariants.{Copy, Flush}
use Rattle.convert_queue.specs.Queues.{Queues, phase_of}
use Rattle.converter.specs.declared.begin.Begun.TheVariants as begun
use Rattle.converter.specs.Beginning.{IsAsked}
use Rattle.two_spaces.specs.Seen.{Spaces}
use Rattle.two_spaces.specs.Whole.{Stands}
use Rattle.region_log.specs.Log.{Log}
use Rattle.machine_threads.specs.Passed.{Converting}
use Rattle.machine_threads.specs.Passed.{Machine, doing_of, scene_of}
use Rattle.object_steps.specs.declared.storing.Store.{Store}
use Rattle.object_steps.specs.Stores.{place_of}
use Rattle.shared_heap.specs.Passed.{ConvertsFirst}
use Rattle.shared_heap.specs.Passed.{IsApart}
use Rattle.shared_heap.specs.Shared.{Shared}
use Rattle.shared_heap.specs.Conversions.{BeginsOnce, Converts, HasBegun}
use Rattle.machine.specs.Ended.{HasPlanned, HasSomePlanned}
use Rattle.machine.specs.Laws.{Laws}
use Rattle.machine.proofs.Leaving.{converts-now}
use Rattle.machine.proofs.Refusing.{needs-of}

module _ (laws : Laws) (s mid : Shared) (t : ℕ) (store : Store) (object : Ref)
    (apart : IsApart s.machine.spaces s.machine.logs t (place_of store.target))
    (room : length s.history.acts < s.history.limit) (converting : doing_of s.machine t ≡ Converting)
    (idle : HasBegun (scene_of s.machine) t → ⊥)
    (convert : (es : List Entry) → Stands s.machine.spaces es → ConvertsFirst s.machine.spaces es store object)
    (u : ℕ)
    (begins : (es : List Entry) (n : ℕ) → Converts s es → IsAsked es (reference_word object) n
    → BeginsOnce t n (begun.Needs u) s mid es)
    (some : HasSomePlanned s t store) where
  abbrev es : List Entry
  es = some.3

  abbrev h : HasPlanned some.0 some.1 some.2 s es some.4 t some.5 some.6 store
  h = some.7

  abbrev its : ConvertsFirst s.machine.spaces es store object
  its = convert es h.due.running.keeps.heap.whole

  once : BeginsOnce t its.item.number (begun.Needs u) s mid es
  once = begins es its.item.number (converts-now laws some.0 some.1 some.2 s es some.4 t some.5 some.6 h.due)
      its.item.asked

  same-spaces : mid.machine.spaces ≡ s.machine.spaces
  same-spaces = ap (λ (m : Machine). m.spaces) once.same
      ∙ ap (λ (x : Twin). record s.machine.spaces { twin = x }) once.begins.says.heap

  same-logs : mid.machine.logs ≡ s.machine.logs
  same-logs = ap (λ (m : Machine). m.logs) once.same

  pub then-planned : HasSomePlanned mid t store
  then-planned =
      let n = needs-of laws s mid t store object apart room converting idle convert u begins some.0 some.1 some.2 es
      some.4 some.5 some.6 h in
      (some.0, some.1, some.2, n.asks.after, some.4, some.5, some.6, n.planned)

  pub then-history : mid.history ≡ s.history
  then-history = once.history

  pub then-room : length mid.history.acts < mid.history.limit
  then-room = subst (λ (x : History). length x.acts < x.limit) (sym then-history) room

  pub then-apart : IsApart mid.machine.spaces mid.machine.logs t (place_of store.target)
  then-apart = subst (λ (x : Spaces). IsApart x mid.machine.logs t (place_of store.target)) (sym same-spaces)
      (subst (λ (logs : List Log). IsApart s.machine.spaces logs t (place_of store.target)) (sym same-logs) apart)

  pub then-converting : doing_of mid.machine t ≡ Converting
  then-converting = ap (λ (m : Machine). doing_of m t) once.same ∙ converting

  pub then-begun : u < 64 → HasBegun (scene_of mid.machine) t
  then-begun below =
      let says = once.begins.says in
      let flush : phase_of mid.machine.queue t ≡ Flush
      = ap (λ (q : Queues). phase_of q t) says.queue
      ∙ get_or-set_same s.machine.queue.phases t Flush Copy
      (let long = h.due.running.keeps.heap.agrees.sizes.phases in
      let thread = h.due.thread in omega (arith, long, thread)) in
      inr (flush, u, below, says.other, says.here)

  pub then-first : (object : Ref) × ((es : List Entry) → Stands mid.machine.spaces es
      → ConvertsFirst mid.machine.spaces es store object)
  then-first = (
    object,
    subst (λ (x : Spaces). (es : List Entry) → Stands x es → ConvertsFirst x es store object)
        (sym same-spaces) convert,
  )
