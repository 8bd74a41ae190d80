-- The duties of a turn: what the requests of code name is there, and is of the sort that the request needs.
-- A `new` of an interface, an abstract class or an array type is no request: the turn itself finds it a
-- wrong operand (JVMS 6.5, new).
use Rattle.std.specs.Prelude.{◌≡◌, ◌≢◌, ◌⊎◌, ℕ, suc, ◌<◌, ◌≤◌, true, false, List, [], length, slice_get, Some, None, IsSome}
use Rattle.ap_base.specs.declared.kind.Kind.{Kind}
use Rattle.ap_base.specs.declared.kind.Kind.TheVariants.{J, L}
use Rattle.ap_base.specs.Pieces.{IsPiece}
use Rattle.run_types.specs.declared.resolved.FieldAt.{FieldAt}
use Rattle.run_types.specs.declared.key.Key.TheVariants as key
use Rattle.run_types.specs.declared.fault.StepFault.{StepFault}
use Rattle.run_types.specs.declared.fault.StepFault.TheVariants as fault
use Rattle.run_types.specs.declared.fault.Which.{Which}
use Rattle.run_types.specs.declared.fault.Which.TheVariants as which
use Rattle.graph_model.specs.declared.types.Value.{Value}
use Rattle.graph_model.specs.declared.types.Value.TheVariants.{Int, Long, Null, Obj as Object}
use Rattle.graph_model.specs.declared.types.Field.{Field}
use Rattle.graph_model.specs.declared.types.Graph.{Graph}
use Rattle.natives.specs.declared.requests.Request.TheVariants as ask
use Rattle.run_history.specs.declared.plain.Progress.TheVariants.{BegunBy}
use Rattle.run_history.specs.Recorded.{Recorded}
use Rattle.run_history.specs.Worlds.{World}
use Rattle.plain_model.specs.Classes.{is_made}
use Rattle.plain_model.specs.BuiltIn.{system_place, throwable_place}
use Rattle.plain_model.specs.Facts.{SetFacts, StaticFacts, built_in_number, classes_of, class_at, element_of, is_sub}
use Rattle.plain_model.specs.Facts.{string_number}
use Rattle.plain_model.specs.Requests.{PlainRequest}
use Rattle.plain_model.specs.Limits.{most_frame_slots}
use Rattle.plain_model.specs.Codes.{Code}
use Rattle.plain_model.specs.Runs.{IsPlainRun, known_of, request_after}

-- the class has a number
abbrev pub IsClass : SetFacts → ℕ → Type 0
IsClass set n = n < length (classes_of set)

abbrev pub IsThrowable : SetFacts → ℕ → Type 0
IsThrowable set n = IsClass set n × (is_sub set n (built_in_number set throwable_place) ≡ true)

-- null, or an object of the heap
abbrev pub IsReferenceIn : World → Value → Type 0
IsReferenceIn world Null = Unit {0}
IsReferenceIn world (Object n) = n < length world.heap.objects
IsReferenceIn world (Int i) = ⊥
IsReferenceIn world (Long i) = ⊥

-- a value that a place of this kind may be given
abbrev pub IsOfKind : World → Kind → Value → Type 0
IsOfKind world L value = IsReferenceIn world value
IsOfKind world J (Long i) = Unit {0}
IsOfKind world J value = ⊥
IsOfKind world kind (Int i) = Unit {0}
IsOfKind world kind value = ⊥

-- System.out
abbrev pub IsStream : SetFacts → FieldAt → Type 0
IsStream set field = (field.at ≡ 0) × (field.kind ≡ L) × (field.class ≡ built_in_number set system_place)

-- one of the set's static fields, by its number, kind and class
abbrev pub IsStaticOf : SetFacts → FieldAt → Type 0
IsStaticOf set field =
    (k : ℕ) × (s : StaticFacts) × (field.at ≡ suc k) × (slice_get set.statics k ≡ Some s) × (s.kind ≡ field.kind)
    × (s.class ≡ field.class)

abbrev pub IsStaticField : SetFacts → FieldAt → Type 0
IsStaticField set field =
    IsClass set field.class × (field.is_static ≡ true) × (IsStream set field ⊎ IsStaticOf set field)

-- A field of an interface is static (JVMS 4.5), so its instances have no slot for it.
abbrev pub IsInstanceField : SetFacts → FieldAt → Type 0
IsInstanceField set field =
    IsClass set field.class × (field.is_static ≡ false) × ((class_at set field.class).is_interface ≡ false)
    × ((f : Field) × (slice_get (class_at set field.class).shape.fields field.at ≡ Some f) × (f.kind ≡ field.kind))

abbrev pub IsFrameSlots : Which → Type 0
IsFrameSlots which.FrameSlots = Unit {0}
IsFrameSlots other = ⊥

-- more frame slots are needed than are left of those that a thread may take
abbrev pub IsLackOfFrames : ℕ → ℕ → Which → Type 0
IsLackOfFrames need left which = IsFrameSlots which × (left < need) × (left ≤ most_frame_slots)

-- the faults with which a turn may itself end the run
abbrev pub IsFaultOfTurn : StepFault → Type 0
IsFaultOfTurn (fault.BadCode from) = Unit {0}
IsFaultOfTurn (fault.LinkFault kind class index) = Unit {0}
IsFaultOfTurn (fault.Full full) = IsLackOfFrames full.need full.left full.which
IsFaultOfTurn f = ⊥

-- What a request of thread t may name.
abbrev pub IsFit : SetFacts → World → ℕ → PlainRequest → Type 0
IsFit set world t ask.Pause = Unit {0}
IsFit set world t (ask.Broken f) = IsFaultOfTurn f
IsFit set world t (ask.New from class) = IsClass set class × (is_made (class_at set class) ≡ true)
IsFit set world t (ask.NewArray from shape count) =
    IsClass set shape × IsSome (element_of set shape) × (shape ≢ string_number set)
IsFit set world t (ask.NewText from count) = Unit {0}
IsFit set world t (ask.GetStatic from field) = IsStaticField set field
IsFit set world t (ask.PutStatic from field value) = IsStaticField set field × IsOfKind world field.kind value
IsFit set world t (ask.GetField from holder field) = IsInstanceField set field × IsReferenceIn world holder
IsFit set world t (ask.PutField from holder field value) = IsInstanceField set field × IsReferenceIn world holder × IsOfKind world field.kind value
IsFit set world t (ask.GetElement from array index kind) = IsReferenceIn world array
IsFit set world t (ask.PutElement from array index kind value) = IsReferenceIn world array × IsOfKind world kind value
IsFit set world t (ask.Length from array) = IsReferenceIn world array
IsFit set world t (ask.ClassOf from object within) = IsClass set within × IsReferenceIn world object
IsFit set world t (ask.Cast from object target) = IsClass set target × IsReferenceIn world object
IsFit set world t (ask.IsA from object target) = IsClass set target × IsReferenceIn world object
IsFit set world t (ask.Same from left right) = IsReferenceIn world left × IsReferenceIn world right
IsFit set world t (ask.Enter from (key.Object object)) = IsReferenceIn world object
IsFit set world t (ask.Enter from (key.Class class)) = IsClass set class
IsFit set world t (ask.Exit from (key.Object object)) = IsReferenceIn world object
IsFit set world t (ask.Exit from (key.Class class)) = IsClass set class
IsFit set world t (ask.Start from thread) = IsReferenceIn world thread
IsFit set world t (ask.Join from thread) = IsReferenceIn world thread
IsFit set world t (ask.Init from class) = IsClass set class
IsFit set world t (ask.InitDone from class) = slice_get world.classes class ≡ Some (BegunBy t)
IsFit set world t (ask.Print from piece) = IsPiece piece
IsFit set world t (ask.Raise from class) = IsThrowable set class
IsFit set world t (ask.Begin from) = Unit {0}
IsFit set world t (ask.End from) = Unit {0}
IsFit set world t (ask.Leave None) = Unit {0}
IsFit set world t (ask.Leave (Some class)) = IsThrowable set class

-- At every point of every plain run each request is fit. The code of each class set owes this.
abbrev pub KeepsDuties : (set : SetFacts) (main : ℕ) (opening : Graph) {Frames : Type 0} → Code set main opening Frames → Type 0
KeepsDuties set main opening code =
    (acts : List Recorded) → IsPlainRun set main opening code acts → (t : ℕ) (request : PlainRequest)
    → request_after set main opening code acts t ≡ Some request → IsFit set (known_of set main opening code acts).world t request
