-- Calls of the image, made or failed, and the fences of which conversions are told.
use Rattle.std.proofs.Common.{◌≡◌, ℕ, ◌≤◌, List, [], refl, sym, ◌∙◌, subst}
use Rattle.volatile_space.specs.Spaces.{Space}
use Rattle.run_history.specs.declared.act.Op.TheVariants as op
use Rattle.twin_forms.specs.Table.{Entry}
use Rattle.twin_forms.specs.Sights.{Twin, Marks}
use Rattle.two_spaces.specs.Moving.{IsMove}
use Rattle.two_spaces.specs.Quiet.{IsImageCall}
use Rattle.two_spaces.proofs.Quieted.{calls_quiet, quiet_moves}
use Rattle.line_memory.specs.Memory.{Memory}
use Rattle.convert_queue.specs.Queues.{Queues}
use Rattle.convert_words.specs.Scenes.{scene, AgreesAt}
use Rattle.convert_words.specs.Steps.{told_fenced}
use Rattle.convert_words.proofs.StepLaws.{calls_keep, told_fences_keep}
use Rattle.converter.specs.Stepping.{keys_of}
use Rattle.machine_forms.specs.declared.doing.Doing.TheVariants.{Nothing, Fencing}
use Rattle.machine_forms.specs.Machines.{Opening, Machine, scene_of}
use Rattle.machine_forms.specs.Events.{with_twin, with_act, with_doing, WritesBack, with_write, MakesFence, with_fence}
use Rattle.machine_laws.specs.HeapLaws.{KeepsShared}
use Rattle.machine_forms.specs.Keeping.{KeepsRun}
use Rattle.machine_laws.proofs.HeapMoving.{moved_to, heap_arrives, world_arrives, shared_doing, shared_act}

-- a scene over the same space, with the same marks
pub agrees_over : (space space' : Space) (memory : Memory) (marks marks' : Marks) (q : Queues) (free : ℕ)
    (keys : List ℕ) (es : List Entry) → space' ≡ space → marks' ≡ marks
    → AgreesAt (scene space memory marks q free keys) es
    → AgreesAt (scene space' memory marks' q free keys) es
agrees_over space space' memory marks marks' q free keys es same_space same_marks a =
    subst (λ (x : Marks). AgreesAt (scene space' memory x q free keys) es) (sym same_marks)
    (subst (λ (x : Space). AgreesAt (scene x memory marks q free keys) es) (sym same_space) a)

module _ (o : Opening) (m : Machine) (es : List Entry) (kept : KeepsShared o m es) (twin : Twin)
    (call : IsImageCall m.spaces twin) where
  pub quiet : IsMove m.spaces twin es es
  quiet = quiet_moves m.spaces twin es (calls_quiet m.spaces twin es kept.0.whole call)

  -- with queues that agree
  pub shared_after : (q : Queues)
      → AgreesAt (scene twin.space twin.memory twin.marks q m.free (keys_of m.rest.monitors)) es
      → KeepsShared o (moved_to m twin q m.free m.rest.monitors) es
  shared_after q agrees = (
    heap_arrives o m es es twin q m.free m.rest.monitors kept.0 quiet (record {
      agrees = agrees;
      sound = kept.0.sound;
      low = kept.0.low;
      behind = kept.0.behind;
      within = subst (λ n. m.free ≤ n) (sym call.keeps.size) kept.0.within;
      size = call.keeps.size ∙ kept.0.size;
      known = call.known_after;
      telling = λ told. call.keeps.telling (kept.0.telling told);
    }),
    world_arrives o m es es twin q m.free kept.1 quiet (λ _ _. refl),
  )

  pub shared_call : KeepsShared o (with_twin m twin) es
  shared_call =
      shared_after m.queue (agrees_over m.spaces.twin.space twin.space twin.memory m.spaces.twin.marks
      twin.marks
      m.queue m.free (keys_of m.rest.monitors) es call.space call.marks
      (calls_keep (scene_of m) twin.memory es kept.0.known call.known_after call.keeps kept.0.agrees))

pub shared_write : (o : Opening) (m : Machine) (es : List Entry) → KeepsRun o m es → (twin : Twin) (t : ℕ)
    → WritesBack m twin t → KeepsShared o (with_write m twin t) es
shared_write o m es run twin t w =
    shared_doing o (with_twin m twin) es (with_doing (with_twin m twin) t Fencing).doing
    (shared_call o m es (run.heap, run.world) twin w.calls.call)

pub shared_fence : (o : Opening) (m : Machine) (es : List Entry) → KeepsRun o m es → (twin : Twin) (t : ℕ)
    → MakesFence m twin t → KeepsShared o (with_fence m twin t) es
shared_fence o m es run twin t f =
    let q = told_fenced m.queue in
    let fenced : Machine = record (with_twin m twin) { queue = q } in
    let agrees = agrees_over m.spaces.twin.space twin.space twin.memory m.spaces.twin.marks twin.marks
    q m.free (keys_of m.rest.monitors) es f.calls.call.space f.calls.call.marks
    (told_fences_keep (scene_of m) twin.memory es run.heap.known f.calls.call.known_after f.calls.call.keeps
    f.durable run.heap.agrees) in
    let acted = with_act fenced t op.Fenced [] in
    shared_doing o acted es (with_doing acted t Nothing).doing
    (shared_act o fenced es t op.Fenced [] refl
    (shared_after o m es (run.heap, run.world) twin f.calls.call q agrees))
