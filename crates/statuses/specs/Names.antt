-- What the faults of a run and its throwables name: classes, and members of classes.
use Rattle.std.specs.Prelude.{ℕ, ◌==◌, ◌&&◌, not, Bool, true, false, List, [], ◌++◌, take, codes, slice_get, Option, Some, None}
use Rattle.std.specs.Prelude.{if◌then◌else◌, ◌≡◌, ◌⊎◌}
use Rattle.std.specs.Option.{option_map, is_some}
use Rattle.run_types.specs.declared.fault.LinkKind.{LinkKind}
use Rattle.run_types.specs.declared.fault.LinkKind.TheVariants.{MissingClass, MissingMethod, StaticMismatch, NoCode, InitFailed}
use Rattle.run_types.specs.declared.fault.RunFault.{RunFault}
use Rattle.run_types.specs.declared.fault.RunFault.TheVariants as fault
use Rattle.run_types.specs.declared.resolved.MethodAt.{MethodAt}
use Rattle.const_pool.specs.declared.entry.Member.{Member}
use Rattle.const_pool.specs.Pool.{Slots, member_at, name_and_type_at}
use Rattle.class_file.specs.declared.class.ClassFile.{ClassFile}
use Rattle.class_file.specs.Members.{code_in}
use Rattle.class_links.specs.Names.{class_name}
use Rattle.plain_model.specs.Facts.{shapes_of, known_classes, is_sub}
use Rattle.built_in_table.specs.Members.{MemberFacts}
use Rattle.class_set.specs.Linked.{Linked}
use Rattle.class_set.specs.Facts.{facts_of}
use Rattle.class_set.specs.ArrayTypes.{class_at}
use Rattle.class_set.specs.Members.{own_methods}
use Rattle.class_set.specs.Lookups.{find_method}
use Rattle.statuses.specs.declared.status.Status.{Status}
use Rattle.statuses.specs.declared.status.Status.TheVariants as status

-- ---- names

-- a member's name: its class's, a dot, its own, and its descriptor
abbrev pub member_name : (class name descriptor : List ℕ) → List ℕ
member_name class name descriptor = class ++ codes "." ++ name ++ descriptor

-- No text of a class file has more than 65,535 bytes (JVMS 4.4.7), so that no name of a member has more than this. A name that is
-- longer, as an array type's with a member may be, is shortened to so much.
abbrev pub shortened : List ℕ → List ℕ
shortened text = take 196606 text

-- the name of a class or an array type by its number; none past the last
abbrev pub class_text : Linked → ℕ → List ℕ
class_text set class = elim (slice_get (shapes_of (facts_of set)) class) [ None ↦ [] | Some shape ↦ shape.name ]

-- the name of a class's member, where there is one with this name and descriptor
abbrev pub described : (class : List ℕ) → Option (List ℕ × List ℕ) → List ℕ
described class None = []
described class (Some texts) = member_name class texts.0 texts.1

-- ---- methods by number

abbrev pub texts_of : MemberFacts → List ℕ × List ℕ
texts_of m = (m.name, m.descriptor)

abbrev pub method_text : Linked → (class method : ℕ) → List ℕ
method_text set class method =
    described (class_text set class) (option_map texts_of (slice_get (own_methods set class) method))

-- ---- entries of constant pools (JVMS 4.4.1, 4.4.2)

abbrev pub member_text : Slots → Option Member → List ℕ
member_text pool None = []
member_text pool (Some m) = described (class_name pool m.class) (name_and_type_at pool m.name_and_type)

-- a class that is missing, whether the entry names it or a member of it; else the member, as the entry spells it
abbrev pub entry_text : LinkKind → Slots → ℕ → List ℕ
entry_text MissingClass pool index = class_at pool index
entry_text kind pool index = member_text pool (member_at pool index)

abbrev pub named_text : Linked → LinkKind → (class index : ℕ) → List ℕ
named_text set kind class index =
    elim (slice_get set.files class) [ None ↦ [] | Some file ↦ entry_text kind file.pool index ]

-- ---- methods that are called and that no entry names

abbrev pub run : List ℕ × List ℕ
run = (codes "run", codes "()V")

abbrev pub to_string : List ℕ × List ℕ
to_string = (codes "toString", codes "()Ljava/lang/String;")

abbrev pub main : List ℕ × List ℕ
main = (codes "main", codes "([Ljava/lang/String;)V")

abbrev pub initialiser : List ℕ × List ℕ
initialiser = (codes "<clinit>", codes "()V")

abbrev pub has_code : ClassFile → (method : ℕ) → Bool
has_code file method =
    elim (slice_get file.methods method) [ None ↦ false | Some m ↦ is_some (code_in m.attributes) ]

-- a method of a file without code (JVMS 4.7.3)
abbrev pub lacks_code : Linked → MethodAt → Bool
lacks_code set m = elim (slice_get set.files m.class) [ None ↦ false | Some file ↦ not (has_code file m.method) ]

-- a look-up that found this gives an object no method, and this is why
abbrev pub is_cause : Linked → LinkKind → (found : Option MethodAt) → Bool
is_cause set MissingMethod None = true
is_cause set StaticMismatch (Some m) = m.is_static
is_cause set NoCode (Some m) = lacks_code set m
is_cause set kind found = false

abbrev pub is_lost : Linked → LinkKind → (class : ℕ) → List ℕ × List ℕ → Bool
is_lost set kind class method = is_cause set kind (find_method set class method.0 method.1)

abbrev pub is_runnable : Linked → (class : ℕ) → Bool
is_runnable set class = is_sub (facts_of set) class (known_classes (facts_of set)).runnable

-- The first of those that are called so which the class hasn't, or not so: `run` of a Runnable, `toString` of an object that is printed
-- or appended, `main`, and what initialises the class.
abbrev pub unnamed : Linked → LinkKind → (class : ℕ) → List ℕ × List ℕ
unnamed set kind class =
    if is_runnable set class && is_lost set kind class run then run
    else (if is_lost set kind class to_string then to_string
    else (if is_lost set kind class main then main else initialiser))

-- The class's objects lack one of the two methods of objects that frames call without an entry.
abbrev pub LosesCalled : Linked → LinkKind → (class : ℕ) → Type 0
LosesCalled set kind class =
    ((is_runnable set class ≡ true) × (is_lost set kind class run ≡ true))
    ⊎ (is_lost set kind class to_string ≡ true)

abbrev pub unnamed_text : Linked → LinkKind → (class : ℕ) → List ℕ
unnamed_text set kind class = described (class_text set class) (Some (unnamed set kind class))

-- ---- statuses

-- a class whose initialiser threw is told by its name
abbrev pub fault_text : Linked → LinkKind → (class index : ℕ) → List ℕ
fault_text set InitFailed class index = class_text set class
fault_text set kind class index =
    if index == 0 then unnamed_text set kind class else named_text set kind class index

-- how a run ends by a fault
abbrev pub fault_status : Linked → RunFault → Status
fault_status set (fault.BadCode at) = status.BadCode (shortened (method_text set at.class at.method)) at.pc
fault_status set (fault.RegionRace thread other place) = status.RegionRace thread other place
fault_status set (fault.Full full) = status.Full full
fault_status set fault.SinkFault = status.SinkFault
fault_status set fault.ImageFault = status.ImageFault
fault_status set (fault.Stuck waits) = status.Stuck waits
fault_status set (fault.LinkFault kind class index) =
    status.LinkFault kind (shortened (fault_text set kind class index))

-- how it ends where this is the least thread that a throwable ended, of this class
abbrev pub uncaught_in : Linked → (thread class : ℕ) → Status
uncaught_in set thread class = status.Uncaught thread (shortened (class_text set class))

-- how it ends where the main class isn't there, or has no static `main`
abbrev pub main_text : LinkKind → (class : List ℕ) → List ℕ
main_text MissingClass class = class
main_text kind class = described class (Some main)
