-- Where a machine begins: any opening graph of the class set.
use Rattle.std.specs.Prelude.{◌≡◌, ℕ, ◌<◌, [], ◌∷◌, length, Some, None}
use Rattle.ap_base.specs.declared.reference.Ref.{Ref}
use Rattle.ap_base.specs.declared.reference.Ref.TheVariants.{Null, Volatile}
use Rattle.frames.specs.Turns.{begun_main}
use Rattle.plain_model.specs.Facts.{shapes_of}
use Rattle.plain_model.specs.First.{arguments_number, first_objects, first_progress, first_statics, literal_number}
use Rattle.shared_objects.specs.declared.rest.Rest.{Rest}
use Rattle.shared_objects.specs.Shown.{Shown}
use Rattle.shared_objects.specs.Threads.{new_state}
use Rattle.run_forms.specs.Standing.{HasLiterals, IsLaunch, Launch, setting_of}
use Rattle.plain_machine.specs.declared.beginning.Beginning.{Beginning}
use Rattle.plain_machine.specs.Standing.{Stands}

-- The heap is the first one of the set and the opening graph: the graph's nodes, System.out, the empty
-- array of
-- arguments, the literals; and what its references stand for is so.
pub record IsFirstHeap (launch : Launch) (shown : Shown) (arguments : Ref) : Type 0 where
  pub shapes : shown.shapes ≡ shapes_of launch.set
  pub objects : shown.objects ≡ first_objects launch.set launch.opening
  pub statics : shown.statics ≡ first_statics launch.set launch.opening
  pub array : shown.number arguments ≡ Some (arguments_number launch.set launch.opening)
  pub literals : HasLiterals launch shown
  pub null : shown.number Null ≡ None

-- nobody holds a monitor, the program's classes are untouched, and thread 0 alone was started
pub record IsFirstRest (launch : Launch) (rest : Rest) : Type 0 where
  pub monitors : rest.monitors ≡ []
  pub classes : rest.classes.items ≡ first_progress launch.set launch.opening
  pub threads : rest.threads ≡ new_state None ∷ []

-- A machine with such parts, whose one thread is about to initialise the main class and then to call
-- `main` with
-- the array, stands for the empty run.
abbrev pub MachinesBegin : Type 0
MachinesBegin = (launch : Launch) (shown : Shown) (rest : Rest) (arguments : Ref) → IsLaunch launch
    → IsFirstHeap launch shown arguments → IsFirstRest launch rest
    → Stands launch [] launch.set (setting_of launch) shown rest 0
    (record { frames = begun_main launch.main launch.method arguments; asked = None } ∷ [])

-- The launch begins with this: its class set's shapes, the first objects and static fields with the nodes
-- and the
-- roots of its opening graph, its classes as they begin, its main class; and each literal has the
-- reference of its
-- number.
pub record BeginsWith (launch : Launch) (b : Beginning) : Type 0 where
  pub launched : IsLaunch launch
  pub shapes : b.shapes ≡ shapes_of launch.set
  pub objects : b.objects.items ≡ first_objects launch.set launch.opening
  pub statics : b.statics.items ≡ first_statics launch.set launch.opening
  pub classes : b.classes.items ≡ first_progress launch.set launch.opening
  pub main : b.class ≡ launch.main
  pub method : b.method ≡ launch.method
  pub array : b.arguments ≡ arguments_number launch.set launch.opening
  pub literals : (k : ℕ) → k < length launch.set.literals
      → launch.literal k ≡ Volatile (literal_number launch.set launch.opening k)
