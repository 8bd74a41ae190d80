-- What a step leaves of what is noted of threads: what each asks and waits for stays.
use Rattle.std.proofs.Common.{◌≡◌, refl}
use Rattle.ap_base.specs.declared.reference.Ref.{Ref}
use Rattle.ap_base.specs.declared.reference.Item.{Item}
use Rattle.run_types.specs.declared.wait.On.{On}
use Rattle.run_types.specs.declared.fault.StepFault.{StepFault}
use Rattle.natives.specs.declared.requests.Request.{Request}
use Rattle.natives.specs.declared.requests.Request.TheVariants as ask
use Rattle.natives.specs.declared.requests.Reply.{Reply}
use Rattle.run_history.specs.declared.act.Op.{Op}
use Rattle.run_history.specs.declared.act.Op.TheVariants as op
use Rattle.step_forms.specs.declared.stepped.Stepped.TheVariants as stepped
use Rattle.shared_heap.specs.Notes.{ThreadNotes}
use Rattle.shared_heap.specs.Requests.{noted_by, noted_start}

start-asks : (thread : Ref) (o : Op) (r : Reply Ref Item) (notes : ThreadNotes)
    → (noted_start thread (stepped.Did o r) notes).asks ≡ notes.asks
start-asks thread (op.Start n child) r notes = refl
start-asks thread o r notes = refl

start-waits : (thread : Ref) (o : Op) (r : Reply Ref Item) (notes : ThreadNotes)
    → (noted_start thread (stepped.Did o r) notes).waits ≡ notes.waits
start-waits thread (op.Start n child) r notes = refl
start-waits thread o r notes = refl

pub noted-asks : (q : Request Ref Item) (o : Op) (r : Reply Ref Item) (notes : ThreadNotes)
    → (noted_by q (stepped.Did o r) notes).asks ≡ notes.asks
noted-asks (ask.Start from thread) o r notes = start-asks thread o r notes
noted-asks q o r notes = refl

pub noted-waits : (q : Request Ref Item) (o : Op) (r : Reply Ref Item) (notes : ThreadNotes)
    → (noted_by q (stepped.Did o r) notes).waits ≡ notes.waits
noted-waits (ask.Start from thread) o r notes = start-waits thread o r notes
noted-waits q o r notes = refl

-- a step that did nothing notes nothing
pub noted-wait : (q : Request Ref Item) (on : On) (notes : ThreadNotes) → noted_by q (stepped.Waits on) notes ≡ notes
noted-wait (ask.Start from thread) on notes = refl
noted-wait q on notes = refl

pub noted-wrong : (q : Request Ref Item) (notes : ThreadNotes) → noted_by q stepped.Wrong notes ≡ notes
noted-wrong (ask.Start from thread) notes = refl
noted-wrong q notes = refl

pub noted-over : (q : Request Ref Item) (f : StepFault) (notes : ThreadNotes)
    → noted_by q (stepped.Over f) notes ≡ notes
noted-over (ask.Start from thread) f notes = refl
noted-over q f notes = refl
