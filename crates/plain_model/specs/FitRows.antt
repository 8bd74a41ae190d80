-- What requests of code may name, in the world of the step's rows: a class that is made, a class that this
-- thread has begun, a throwable, a field of its kind, and the faults that a turn itself may give.
use Rattle.std.specs.Prelude.{ℕ, pos, true, List, [], ◌∷◌, codes, Some, None, replicate}
use Rattle.ap_base.specs.declared.kind.Kind.TheVariants.{I, L}
use Rattle.ap_base.specs.declared.place.Place.TheVariants.{Static}
use Rattle.run_types.specs.declared.fault.StepFault.{StepFault}
use Rattle.run_types.specs.declared.fault.StepFault.TheVariants as fault
use Rattle.run_types.specs.declared.fault.Which.{Which}
use Rattle.run_types.specs.declared.fault.Which.TheVariants as which
use Rattle.run_types.specs.declared.fault.LinkKind.TheVariants.{NoCode}
use Rattle.graph_model.specs.declared.types.Value.TheVariants.{Null, Obj as Object}
use Rattle.graph_model.specs.declared.types.Field.{Field}
use Rattle.natives.specs.declared.requests.Request.TheVariants as ask
use Rattle.plain_model.specs.BuiltIn.{class_under, field, interface, object_place}
use Rattle.plain_model.specs.Facts.{SetFacts}
use Rattle.plain_model.specs.Requests.{PlainRequest}
use Rattle.plain_model.specs.Duties.{IsFit}
use Rattle.plain_model.specs.StepWorld.{boxes, box_world, here, int, box_class, early_class, late_class, runnable, ints_type}
use Rattle.plain_model.specs.StepWorld.{string_class, system_out}
use Rattle.plain_model.specs.StepWorld.{runtime_exception, a_box, amount, main_kept, static_field, instance_field, next_object}

abbrev pub Fits : ℕ → PlainRequest → Type 0
Fits t request = IsFit boxes box_world t request

abbrev pub Unfit : ℕ → PlainRequest → Type 0
Unfit t request = Fits t request → ⊥

abbrev pub full : Which → ℕ → ℕ → StepFault
full which_one need left = fault.Full (record { which = which_one; need = need; left = left })

-- interface Marked and abstract class Base, each with an int
abbrev pub mark : List Field
mark = field (codes "mark") I ∷ []

abbrev pub marked : SetFacts
marked = record boxes {
  program =
      record (interface 2 (codes "Marked")) {
        shape =
            record { name = codes "Marked"; fields = mark; element = None };
      }
      ∷ record (class_under 2 (codes "Base") object_place) {
        shape = record { name = codes "Base"; fields = mark; element = None };
        is_abstract = true;
      }
      ∷ [];
}

-- neither an interface nor an abstract class is made, and nor is an array type by `new`
pub record MadeClassesAreMade : Type 0 where
  pub class : Fits 0 (ask.New here box_class)
  pub interface : Unfit 0 (ask.New here runnable)
  pub abstract : IsFit marked box_world 0 (ask.New here 1) → ⊥
  pub array : Unfit 0 (ask.New here ints_type)
  pub array_of : Fits 0 (ask.NewArray here ints_type (pos 2))
  pub no_array : Unfit 0 (ask.NewArray here box_class (pos 2))
  pub text : Unfit 0 (ask.NewArray here string_class (pos 2))

-- a class is done by the thread that has begun it
pub record BegunClassesAreDone : Type 0 where
  pub own : Fits 0 (ask.InitDone here early_class)
  pub another : Unfit 1 (ask.InitDone here early_class)
  pub untouched : Unfit 0 (ask.InitDone here late_class)

pub record ThrowablesAreThrown : Type 0 where
  pub raised : Fits 0 (ask.Raise here runtime_exception)
  pub no_throwable : Unfit 0 (ask.Raise here box_class)
  pub uncaught : Fits 0 (ask.Leave (Some runtime_exception))
  pub left_by_none : Unfit 0 (ask.Leave (Some box_class))

pub record FieldsAreOfTheirKind : Type 0 where
  pub field : Fits 0 (ask.GetField here Null amount)
  pub another_kind : Unfit 0 (ask.GetField here Null (instance_field box_class 0 L))
  pub of_class : IsFit marked box_world 0 (ask.GetField here Null (instance_field 1 0 I))
  pub of_interface : IsFit marked box_world 0 (ask.GetField here Null (instance_field 0 0 I)) → ⊥
  pub past : Unfit 0 (ask.GetField here Null (instance_field box_class 3 I))
  pub static : Fits 0 (ask.PutStatic here main_kept (Object a_box))
  pub static_kind : Unfit 0 (ask.GetStatic here (static_field 0 2 I))
  pub static_past : Unfit 0 (ask.GetStatic here (static_field 0 5 L))
  pub stream : Fits 0 (ask.GetStatic here system_out)
  pub stream_class : Unfit 0 (ask.GetStatic here (static_field 0 0 L))
  pub static_class : Unfit 0 (ask.GetStatic here (static_field early_class 2 L))
  pub value : Unfit 0 (ask.PutStatic here main_kept (int 1))
  pub missing : Unfit 0 (ask.PutStatic here main_kept (Object next_object))

-- a print has bytes
pub record PiecesArePrinted : Type 0 where
  pub some : Fits 0 (ask.Print here (55 ∷ []))
  pub none : Unfit 0 (ask.Print here [])
  pub most : Fits 0 (ask.Print here (replicate 24 55))
  pub too_many : Unfit 0 (ask.Print here (replicate 25 55))

-- A turn itself ends the run by a wrong operand, a link fault or a lack of frames.
pub record TurnsBreakBy : Type 0 where
  pub bad_code : Fits 0 (ask.Broken (fault.BadCode here))
  pub link : Fits 0 (ask.Broken (fault.LinkFault NoCode 0 1))
  pub frames : Fits 0 (ask.Broken (full which.FrameSlots 2 1))
  pub enough_frames : Unfit 0 (ask.Broken (full which.FrameSlots 2 2))
  pub first_frame : Fits 0 (ask.Broken (full which.FrameSlots 65537 65536))
  pub too_many_frames : Unfit 0 (ask.Broken (full which.FrameSlots 65538 65537))
  pub words : Unfit 0 (ask.Broken (full which.VolatileWords 2 1))
  pub race : Unfit 0 (ask.Broken (fault.RegionRace 0 1 (Static 2)))
  pub sink : Unfit 0 (ask.Broken fault.SinkFault)
