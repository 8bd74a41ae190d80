-- Which class files link, and the first condition that others break: the conditions in order, and of each the first class that breaks it
-- (JVMS 4.1, 5.3.5). An interface has no code but that of its initialiser.
use Rattle.std.specs.Prelude.{◌≡◌, ℕ, ◌&&◌, not, Bool, true, false, List, [], ◌∷◌, map, codes, Option, Some, None}
use Rattle.std.specs.Prelude.{if◌then◌else◌, slice_get}
use Rattle.std.specs.List.{list_any}
use Rattle.std.specs.Option.{is_some}
use Rattle.const_pool.specs.Pool.{Slots}
use Rattle.class_file.specs.declared.class.ClassFile.{ClassFile}
use Rattle.class_file.specs.declared.method.Method.{Method}
use Rattle.class_file.specs.Members.{is_text, code_in}
use Rattle.class_links.specs.declared.refusal.LinkRefusal.{LinkRefusal}
use Rattle.class_links.specs.declared.refusal.LinkRefusal.TheVariants as refusal
use Rattle.class_links.specs.Names.{NamedClass, name_of, super_of, interfaces_of, supers_of, is_interface, has_name, built_in}
use Rattle.class_links.specs.Names.{known_classes, find_known, super_files}
use Rattle.graph_walks.specs.Circles.{HasNoCircle, IsFirstOnCircle}

-- ---- two classes of one name

-- the first name that was there before, among these and those of the files before
abbrev pub doubled_after : List (List ℕ) → List ClassFile → Option (List ℕ)
doubled_after names [] = None
doubled_after names (c ∷ cs) = if has_name names (name_of c) then Some (name_of c) else doubled_after (name_of c ∷ names) cs

-- the name of the first class whose name a built-in class or a class before has
abbrev pub doubled : List ClassFile → Option (List ℕ)
doubled files = doubled_after (map (λ (k : NamedClass). k.name) built_in) files

-- ---- supers

-- the first name of which the test holds
abbrev pub first_name : (List ℕ → Bool) → List (List ℕ) → Option (List ℕ)
first_name test [] = None
first_name test (n ∷ ns) = if test n then Some n else first_name test ns

-- a test of the class of this name; where there is none, the answer is this
abbrev pub of_class : List NamedClass → Bool → (NamedClass → Bool) → List ℕ → Bool
of_class known otherwise test name = elim (find_known known name) [ None ↦ otherwise | Some k ↦ test k ]

abbrev pub missing_of : List NamedClass → ClassFile → Option (List ℕ)
missing_of known c = first_name (of_class known true (λ k. false)) (supers_of c)

-- a superclass that is an interface, or else the first superinterface that is none
abbrev pub misplaced_of : List NamedClass → ClassFile → Option (List ℕ)
misplaced_of known c =
    if of_class known false (λ k. k.is_interface) (super_of c) then Some (super_of c)
    else first_name (of_class known false (λ k. not k.is_interface)) (interfaces_of c)

abbrev pub final_of : List NamedClass → ClassFile → Option (List ℕ)
final_of known c = if of_class known false (λ k. k.is_final) (super_of c) then Some (super_of c) else None

-- the first class that has such a super, and that super
abbrev pub first_with : (ClassFile → Option (List ℕ)) → List ClassFile → Option (List ℕ × List ℕ)
first_with broken [] = None
first_with broken (c ∷ cs) = elim (broken c) [ None ↦ first_with broken cs | Some super ↦ Some (name_of c, super) ]

abbrev pub missing : List ClassFile → Option (List ℕ × List ℕ)
missing files = first_with (missing_of (known_classes files)) files

abbrev pub misplaced : List ClassFile → Option (List ℕ × List ℕ)
misplaced files = first_with (misplaced_of (known_classes files)) files

abbrev pub final : List ClassFile → Option (List ℕ × List ℕ)
final files = first_with (final_of (known_classes files)) files

-- from each class to its superinterfaces and its superclass
abbrev pub super_edges : List ClassFile → List (List ℕ)
super_edges files = map (super_files files) files

-- ---- interfaces

-- the method has code and isn't named `<clinit>` (JVMS 2.9)
abbrev pub has_other_code : Slots → Method → Bool
has_other_code pool m = is_some (code_in m.attributes) && not (is_text pool m.name (codes "<clinit>"))

abbrev pub is_with_code : ClassFile → Bool
is_with_code c = is_interface c && list_any (has_other_code c.pool) c.methods

-- the name of the first interface with such a method
abbrev pub with_code : List ClassFile → Option (List ℕ)
with_code [] = None
with_code (c ∷ cs) = if is_with_code c then Some (name_of c) else with_code cs

-- ---- the conditions in order

abbrev pub HasSupers : List ClassFile → Type 0
HasSupers files = (doubled files ≡ None) × (missing files ≡ None)

abbrev pub HasRightSupers : List ClassFile → Type 0
HasRightSupers files = HasSupers files × (misplaced files ≡ None) × (final files ≡ None)

-- All conditions hold.
pub record Links (files : List ClassFile) : Type 0 where
  pub supers : HasRightSupers files
  pub no_circle : HasNoCircle (super_edges files)
  pub interfaces : with_code files ≡ None

-- The class lies on a circle of superclasses and superinterfaces, and none before it does.
pub record IsCircular (files : List ClassFile) (class : List ℕ) : Type 0 where
  pub at : ℕ
  pub file : ClassFile
  pub there : slice_get files at ≡ Some file
  pub named : name_of file ≡ class
  pub first : IsFirstOnCircle (super_edges files) at

-- This is the first condition that is broken.
abbrev pub IsBroken : List ClassFile → LinkRefusal → Type 0
IsBroken files (refusal.DuplicateClass class) = doubled files ≡ Some class
IsBroken files (refusal.MissingSuper class super) = (doubled files ≡ None) × (missing files ≡ Some (class, super))
IsBroken files (refusal.SuperKind class super) = HasSupers files × (misplaced files ≡ Some (class, super))
IsBroken files (refusal.FinalSuper class super) = HasSupers files × (misplaced files ≡ None) × (final files ≡ Some (class, super))
IsBroken files (refusal.CircularSuper class) = HasRightSupers files × IsCircular files class
IsBroken files (refusal.InterfaceCode class) = HasRightSupers files × HasNoCircle (super_edges files) × (with_code files ≡ Some class)
IsBroken files refusal.OutOfMemory = Unit {0}
