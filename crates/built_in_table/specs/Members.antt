-- The built-in classes by place: their names, their superclasses, and the members that they declare themselves, as docs/MODEL.md lists
-- them: fields, and methods by number.
use Rattle.std.specs.Prelude.{ℕ, Bool, true, false, List, [], ◌∷◌, ◌++◌, map, codes, slice_index_or, Option}
use Rattle.plain_model.specs.Classes.{ClassFacts}
use Rattle.plain_model.specs.BuiltIn.{built_in_classes}

-- a field or a method: its name, its descriptor, and whether it is static
pub record MemberFacts : Type 0 where
  pub name : List ℕ
  pub descriptor : List ℕ
  pub is_static : Bool

-- what a built-in class declares
pub record BuiltInClass : Type 0 where
  pub fields : List MemberFacts
  pub methods : List MemberFacts

abbrev pub own : List ℕ → List ℕ → MemberFacts
own name descriptor = record { name = name; descriptor = descriptor; is_static = false }

abbrev pub static : List ℕ → List ℕ → MemberFacts
static name descriptor = record { name = name; descriptor = descriptor; is_static = true }

abbrev pub init : List ℕ → MemberFacts
init descriptor = own (codes "<init>") descriptor

-- one method of this name for each of these descriptors
abbrev pub overloads : List ℕ → List (List ℕ) → List MemberFacts
overloads name descriptors = map (own name) descriptors

abbrev pub throwable_inits : List MemberFacts
throwable_inits = init (codes "()V") ∷ init (codes "(Ljava/lang/String;)V") ∷ []

-- methods and no fields
abbrev pub with_methods : List MemberFacts → BuiltInClass
with_methods methods = record { fields = []; methods = methods }

-- a class below Throwable
abbrev pub throwable : BuiltInClass
throwable = with_methods throwable_inits

abbrev pub print_descriptors : List (List ℕ)
print_descriptors =
    codes "(I)V" ∷ codes "(J)V" ∷ codes "(C)V" ∷ codes "(Z)V" ∷ codes "(Ljava/lang/String;)V" ∷ codes "(Ljava/lang/Object;)V" ∷ []

abbrev pub append_descriptors : List (List ℕ)
append_descriptors =
    codes "(I)Ljava/lang/StringBuilder;" ∷ codes "(J)Ljava/lang/StringBuilder;" ∷ codes "(C)Ljava/lang/StringBuilder;"
    ∷ codes "(Z)Ljava/lang/StringBuilder;" ∷ codes "(Ljava/lang/String;)Ljava/lang/StringBuilder;"
    ∷ codes "(Ljava/lang/Object;)Ljava/lang/StringBuilder;" ∷ []

abbrev pub object_class : BuiltInClass
object_class = with_methods (init (codes "()V") ∷ own (codes "equals") (codes "(Ljava/lang/Object;)Z") ∷ [])

abbrev pub string_class : BuiltInClass
string_class =
    with_methods (own (codes "length") (codes "()I") ∷ own (codes "charAt") (codes "(I)C") ∷ own (codes "equals") (codes "(Ljava/lang/Object;)Z") ∷ [])

abbrev pub string_builder_class : BuiltInClass
string_builder_class = record {
  fields = own (codes "value") (codes "[C") ∷ own (codes "count") (codes "I") ∷ [];
  methods =
      init (codes "()V") ∷ init (codes "(Ljava/lang/String;)V") ∷ overloads (codes "append") append_descriptors
      ++ own (codes "toString") (codes "()Ljava/lang/String;") ∷ [];
}

abbrev pub print_stream_class : BuiltInClass
print_stream_class =
    with_methods (overloads (codes "print") print_descriptors ++ overloads (codes "println") print_descriptors ++ own (codes "println") (codes "()V") ∷ [])

abbrev pub system_class : BuiltInClass
system_class = record {
  fields = static (codes "out") (codes "Ljava/io/PrintStream;") ∷ [];
  methods = [];
}

abbrev pub thread_class : BuiltInClass
thread_class = record {
  fields = own (codes "target") (codes "Ljava/lang/Runnable;") ∷ [];
  methods =
      init (codes "()V") ∷ init (codes "(Ljava/lang/Runnable;)V") ∷ own (codes "start") (codes "()V") ∷ own (codes "run") (codes "()V")
      ∷ own (codes "join") (codes "()V") ∷ [];
}

abbrev pub throwable_class : BuiltInClass
throwable_class = record {
  fields = own (codes "message") (codes "Ljava/lang/String;") ∷ [];
  methods = throwable_inits ++ own (codes "getMessage") (codes "()Ljava/lang/String;") ∷ [];
}

abbrev pub region_class : BuiltInClass
region_class = with_methods (static (codes "begin") (codes "()V") ∷ static (codes "end") (codes "()V") ∷ [])

abbrev pub runnable_class : BuiltInClass
runnable_class = with_methods (own (codes "run") (codes "()V") ∷ [])

-- the built-in classes, by place
unfoldable pub built_in_members : List BuiltInClass
built_in_members =
    region_class
    ∷ print_stream_class
    ∷ with_methods []
    ∷ throwable ∷ throwable ∷ throwable ∷ throwable
    ∷ with_methods []
    ∷ throwable ∷ throwable ∷ throwable ∷ throwable ∷ throwable
    ∷ throwable ∷ throwable ∷ throwable ∷ throwable ∷ throwable
    ∷ object_class
    ∷ runnable_class
    ∷ throwable
    ∷ string_class
    ∷ string_builder_class
    ∷ throwable
    ∷ system_class
    ∷ thread_class
    ∷ throwable_class
    ∷ throwable
    ∷ []

-- the built-in class at a place
abbrev pub built_in_at : ℕ → BuiltInClass
built_in_at n = slice_index_or built_in_members n (with_methods [])

unfoldable pub built_in_names : List (List ℕ)
built_in_names = map (λ (c : ClassFacts). c.shape.name) (built_in_classes 0)

-- the numbers of the superclasses, where the built-in classes follow so many others
unfoldable pub built_in_supers : ℕ → List (Option ℕ)
built_in_supers first = map (λ (c : ClassFacts). c.superclass) (built_in_classes first)

-- and those of their superinterfaces, in order
unfoldable pub built_in_interfaces : ℕ → List (List ℕ)
built_in_interfaces first = map (λ (c : ClassFacts). c.interfaces) (built_in_classes first)
