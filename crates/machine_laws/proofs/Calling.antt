-- Calls of the image, write-backs and fences, and what is asked.
use Rattle.std.proofs.Common.{◌≡◌, ℕ, ◌<◌, List, [], length, refl, sym, ◌∙◌, ap, subst, arith}
use Rattle.ap_base.specs.declared.place.Place.{Place}
use Rattle.line_memory.specs.Memory.{IsWritten}
use Rattle.run_history.specs.declared.act.Op.TheVariants as op
use Rattle.stop_theorem.specs.Choices.{with_thread, without_thread}
use Rattle.stop_theorem.specs.InvariantEvents.{line_at, word_at}
use Rattle.stop_theorem.proofs.Fencing.{after_fence}
use Rattle.stop_theorem.specs.Running.{State, with_act, Written, Fenced}
use Rattle.stop_theorem.proofs.Quiet.{quiet_acts}
use Rattle.twin_forms.specs.Table.{Entry}
use Rattle.machine_forms.specs.declared.doing.Doing.{Doing}
use Rattle.machine_forms.specs.declared.doing.Doing.TheVariants.{Nothing, Converting, Writing, Fencing}
use Rattle.machine_forms.specs.Machines.{Opening, Machine, first_of, known_in, memory_of, doing_of, layout_in, waits_in}
use Rattle.machine_forms.specs.Machines.{state_in, is_fencing}
use Rattle.machine_forms.specs.Keeping.{KeepsRun, IsDoing, KeepsStops}
use Rattle.machine_forms.specs.Events.{with_twin, with_write, with_fence, with_asked, value_in, CallsImage, WritesBack}
use Rattle.machine_forms.specs.Events.{MakesFence, AsksFor}
use Rattle.machine_laws.proofs.StopMoving.{runs_on, moved, called}
use Rattle.machine_laws.proofs.Waiting.{waits_with, waits_without, waits_same, there}
use Rattle.twin_forms.specs.Sights.{Twin}
use Rattle.natives.specs.declared.requests.Request.{Request}
use Rattle.ap_base.specs.declared.reference.Ref.{Ref}
use Rattle.ap_base.specs.declared.reference.Item.{Item}

-- ---- calls

pub calls_keep : (o : Opening) (m : Machine) (es : List Entry) → KeepsRun o m es
    → (twin : Twin) → CallsImage m twin → KeepsStops o (with_twin m twin) es
calls_keep o m es r twin c told =
    called o (state_in o m es) twin.memory r.heap.long c.call.keeps c.count c.later (r.stops told)

-- ---- write-backs

is_about : (o : Opening) (m : Machine) (es : List Entry) → KeepsRun o m es → (t : ℕ) (d : Doing)
    → doing_of m t ≡ d → IsDoing (known_in o m) (layout_in o es) t d
is_about o m es r t d is = subst (IsDoing (known_in o m) (layout_in o es) t) is (r.asked.doing t)

not_nothing : (d e : Doing) → d ≡ e → (e ≡ Nothing → ⊥) → d ≡ Nothing → ⊥
not_nothing d e is other none = other (sym is ∙ none)

pub writes_keep : (o : Opening) (m : Machine) (es : List Entry) → KeepsRun o m es
    → (twin : Twin) (t : ℕ) → WritesBack m twin t
    → KeepsStops o (with_write m twin t) es
writes_keep o m es r twin t w told =
    let one : State = state_in o (with_twin m twin) es in
    let about = is_about o m es r t (Writing w.line) w.doing in
    let p : Place = about.1.0 in
    let here : w.line ≡ line_at (layout_in o es) (known_in o m) p = about.1.2 in
    let size = w.calls.call.keeps.size in
    let known = known_in o m in
    let lt : t < length m.doing =
    there m.doing t (not_nothing (doing_of m t) (Writing w.line) w.doing (λ e. cc)) in
    moved o m.acts m.acts (layout_in o es) (layout_in o es) (with_thread t (waits_in m))
    (waits_in (with_write m twin t)) twin.memory twin.memory refl refl (waits_with m.doing t lt) refl
    (runs_on o one (record one { waits = with_thread t (waits_in m) }) r.heap.long
    (Written one t p (record {
      owes = about.1.1;
      inside = subst (λ l. l < twin.memory.size) here (let low = w.inside in omega (arith, low, size));
      written = subst (λ l. IsWritten twin.memory l (word_at known p)) here (w.written (word_at known p));
    })) (calls_keep o m es r twin w.calls told))

-- ---- fences

pub fences_keep : (o : Opening) (m : Machine) (es : List Entry) → KeepsRun o m es
    → (twin : Twin) (t : ℕ) → MakesFence m twin t
    → KeepsStops o (with_fence m twin t) es
fences_keep o m es r twin t f told =
    let one : State = state_in o (with_twin m twin) es in
    let next : State = record (with_act one t op.Fenced []) { waits = without_thread t (waits_in m) } in
    let lt : t < length m.doing = there m.doing t (not_nothing (doing_of m t) Fencing f.doing (λ e. cc)) in
    moved o next.acts next.acts (layout_in o es) (layout_in o es) (without_thread t (waits_in m))
    (waits_in (with_fence m twin t)) twin.memory twin.memory refl refl (waits_without m.doing t lt) refl
    (runs_on o one next r.heap.long
    (Fenced one t (ap is_fencing f.doing) (λ c left. after_fence (memory_of m) twin.memory c f.made left))
    (calls_keep o m es r twin f.calls told))

-- ---- what is asked

pub asked_keep : (o : Opening) (m : Machine) (es : List Entry) → KeepsRun o m es
    → (t : ℕ) (request : Request Ref Item) (place : Place) (item : Item)
    → AsksFor o m es t request place item → KeepsStops o (with_asked m t place (value_in m item)) es
asked_keep o m es r t request place item a told =
    let one : State = state_in o m es in
    let operation = op.Asked place (value_in m item) in
    let next : State = with_act one t operation [] in
    let many = r.asked.threads in
    let few = a.thread in
    let lt : t < length m.doing = omega (arith, many, few) in
    moved o next.acts next.acts (layout_in o es) (layout_in o es) (waits_in m)
    (waits_in (with_asked m t place (value_in m item))) (memory_of m) (memory_of m) refl refl
    (waits_same m.doing t Converting lt (sym (ap is_fencing a.doing))) refl
    (runs_on o one next r.heap.long
    (quiet_acts (first_of o) one t operation tt (r.stops told).stands.shows) (r.stops told))
