-- The members of each class by number: its superclass, its superinterfaces, its own fields and methods, and the layout of its objects
-- (JVMS 2.4, 4.5, 4.6).
use Rattle.std.specs.Prelude.{ℕ, zero, suc, ◌+◌, ◌-◌, ◌==◌, Bool, not, bit_and, List, [], ◌∷◌, ◌++◌, map, length, filter}
use Rattle.std.specs.Prelude.{reverse, take, slice_get, slice_index_or, sum_by, true, Option, Some, None, if◌then◌else◌}
use Rattle.std.specs.List.{flat_map}
use Rattle.std.specs.Option.{option_to_list}
use Rattle.ap_base.specs.declared.kind.Kind.{Kind}
use Rattle.ap_base.specs.declared.kind.Kind.TheVariants.{Z, B, C, S, I, J, L}
use Rattle.graph_model.specs.declared.types.Field.{Field}
use Rattle.const_pool.specs.Pool.{Slots, utf8_at}
use Rattle.class_file.specs.declared.field.Field.{Field as FileField}
use Rattle.class_file.specs.declared.method.Method.{Method}
use Rattle.class_file.specs.declared.class.ClassFile.{ClassFile}
use Rattle.plain_model.specs.BuiltIn.{built_in_count}
use Rattle.class_links.specs.Names.{super_of, interfaces_of}
use Rattle.text_table.specs.Texts.{place_of}
use Rattle.class_set.specs.Linked.{Linked, Sort, OfFile, BuiltIn, OfArray, NoClass, sort_of, class_names}
use Rattle.built_in_table.specs.Members.{MemberFacts, built_in_at, built_in_supers, built_in_interfaces}

-- ---- the classes above a class of a file, by number

abbrev pub super_number : List ClassFile → ClassFile → Option ℕ
super_number files c = place_of (class_names files) (super_of c)

-- the direct superinterfaces, in order
abbrev pub interface_numbers : List ClassFile → ClassFile → List ℕ
interface_numbers files c = flat_map (λ name. option_to_list (place_of (class_names files) name)) (interfaces_of c)

-- the numbers of the superclasses of the classes that aren't array types, by number
abbrev pub supers_of : List ClassFile → List (Option ℕ)
supers_of files = map (super_number files) files ++ built_in_supers (length files)

-- a class, its superclass, and so on, at most so many above it
abbrev pub superclasses_in : List (Option ℕ) → ℕ → ℕ → List ℕ
superclasses_in supers zero n = n ∷ []
superclasses_in supers (suc more) n =
    n ∷ (elim (slice_index_or supers n None) [ None ↦ [] | Some super ↦ superclasses_in supers more super ])

-- No circle of superclasses leads further up than there are classes.
abbrev pub superclasses_of : List ClassFile → ℕ → List ℕ
superclasses_of files n = superclasses_in (supers_of files) (length files + built_in_count) n

-- from each class that isn't an array type to its superinterfaces, in order
abbrev pub interface_edges : List ClassFile → List (List ℕ)
interface_edges files = map (interface_numbers files) files ++ built_in_interfaces (length files)

-- ---- own members

abbrev pub text_at : Slots → ℕ → List ℕ
text_at pool index = elim (utf8_at pool index) [ None ↦ [] | Some text ↦ text ]

-- ACC_STATIC (JVMS tables 4.5-A, 4.6-A)
abbrev pub is_static_member : ℕ → Bool
is_static_member access = not (bit_and access 0x0008 == 0)

abbrev pub field_facts : Slots → FileField → MemberFacts
field_facts pool f =
    record { name = text_at pool f.name; descriptor = text_at pool f.descriptor; is_static = is_static_member f.access }

abbrev pub method_facts : Slots → Method → MemberFacts
method_facts pool m =
    record { name = text_at pool m.name; descriptor = text_at pool m.descriptor; is_static = is_static_member m.access }

-- the fields that a class declares, by its number: those of a file's class or of a built-in one; an array type declares none
abbrev pub own_fields : List ClassFile → ℕ → List MemberFacts
own_fields files n = elim (slice_get files n) [ None ↦ (built_in_at (n - length files)).fields | Some c ↦ map (field_facts c.pool) c.fields ]

abbrev pub methods_of_sort : Sort → List MemberFacts
methods_of_sort (OfFile file) = map (method_facts file.pool) file.methods
methods_of_sort (BuiltIn place) = (built_in_at place).methods
methods_of_sort (OfArray descriptor) = []
methods_of_sort NoClass = []

abbrev pub own_methods : Linked → ℕ → List MemberFacts
own_methods set n = methods_of_sort (sort_of set n)

-- ---- layouts

-- the kind of a field by its descriptor's first letter (JVMS 4.3.2); any reference is L
abbrev pub kind_of_letter : ℕ → Kind
kind_of_letter b =
    if b == 90 then Z else (if b == 66 then B else (if b == 67 then C
    else (if b == 83 then S else (if b == 73 then I else (if b == 74 then J else L)))))

abbrev pub kind_of : List ℕ → Kind
kind_of [] = L
kind_of (b ∷ bytes) = kind_of_letter b

abbrev pub is_of_instance : MemberFacts → Bool
is_of_instance m = not m.is_static

-- every field's value is kept in the image
abbrev pub field_of : (name descriptor : List ℕ) → Field
field_of name descriptor = record { name = name; kind = kind_of descriptor; kept = true }

abbrev pub layout_field : MemberFacts → Field
layout_field m = field_of m.name m.descriptor

-- the instance fields among these, in order
abbrev pub layout_of_fields : List MemberFacts → List Field
layout_of_fields fields = map layout_field (filter is_of_instance fields)

-- the instance fields that a class declares, by its number
abbrev pub own_layout : List ClassFile → ℕ → List Field
own_layout files n = layout_of_fields (own_fields files n)

-- The instance fields of a class that isn't an array type: those that its superclasses declare, the uppermost first, and then its own.
abbrev pub layout_of : List ClassFile → ℕ → List Field
layout_of files n = flat_map (own_layout files) (reverse (superclasses_of files n))

abbrev pub layout_above : List ClassFile → Option ℕ → List Field
layout_above files None = []
layout_above files (Some super) = layout_of files super

-- the instance fields of the class of a file
abbrev pub layout_of_file : List ClassFile → ClassFile → List Field
layout_of_file files c = layout_above files (super_number files c) ++ layout_of_fields (map (field_facts c.pool) c.fields)

-- ---- static fields, numbered by class and declared order from 1 on; number 0 is `java/lang/System.out`

abbrev pub count_statics : List MemberFacts → ℕ
count_statics fields = length (filter (λ (m : MemberFacts). m.is_static) fields)

-- the number of the first static field of the class of the n-th file
abbrev pub first_static : List ClassFile → ℕ → ℕ
first_static files n =
    1 + sum_by (λ (c : ClassFile). count_statics (map (field_facts c.pool) c.fields)) (take n files)
