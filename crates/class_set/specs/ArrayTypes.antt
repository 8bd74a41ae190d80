-- Array types by their descriptors, those that the code of class files makes, and those that it needs: its instructions and exception
-- entries name some as a class (JVMS 4.3.2, 4.4.1, 4.7.3, 6.5).
use Rattle.std.specs.Prelude.{ℕ, ◌==◌, nat_lt, Bool, true, false, List, [], ◌∷◌, ◌++◌, filter, codes, slice_get, Option, Some}
use Rattle.std.specs.Prelude.{None, if◌then◌else◌}
use Rattle.std.specs.List.{flat_map}
use Rattle.std.specs.Option.{is_none}
use Rattle.ap_base.specs.declared.kind.Kind.{Kind}
use Rattle.ap_base.specs.declared.kind.Kind.TheVariants.{Z, B, C, S, I, J}
use Rattle.const_pool.specs.declared.descriptor.BaseType.{BaseType}
use Rattle.const_pool.specs.declared.descriptor.BaseType.TheVariants as base
use Rattle.const_pool.specs.declared.descriptor.ElementType.{ElementType}
use Rattle.const_pool.specs.declared.descriptor.ElementType.TheVariants as element
use Rattle.const_pool.specs.declared.descriptor.FieldType.{FieldType}
use Rattle.const_pool.specs.declared.descriptor.Descriptor.{Descriptor}
use Rattle.const_pool.specs.declared.descriptor.Descriptor.TheVariants as descriptor
use Rattle.const_pool.specs.declared.entry.Member.{Member}
use Rattle.const_pool.specs.Utf8.{bad_place}
use Rattle.const_pool.specs.Parsing.{descriptor_at}
use Rattle.const_pool.specs.Pool.{Slots, class_name_at, member_at}
use Rattle.code_form.specs.declared.ins.Primitive.{Primitive}
use Rattle.code_form.specs.declared.ins.Primitive.TheVariants as primitive
use Rattle.code_form.specs.declared.ins.PoolUse.TheVariants as usage
use Rattle.code_form.specs.declared.ins.Ins.{Ins}
use Rattle.code_form.specs.declared.ins.Ins.TheVariants as ins
use Rattle.code_form.specs.declared.ins.Placed.{Placed}
use Rattle.code_attribute.specs.declared.code.Handler.{Handler}
use Rattle.code_attribute.specs.declared.code.Code.{Code}
use Rattle.class_file.specs.declared.method.Method.{Method}
use Rattle.class_file.specs.declared.class.ClassFile.{ClassFile}
use Rattle.class_file.specs.Members.{code_in}
use Rattle.plain_model.specs.Classes.{ArrayType, Innermost, Numbers, Objects, Missing}
use Rattle.class_links.specs.Names.{class_name}
use Rattle.text_table.specs.Texts.{place_of}
use Rattle.text_table.specs.Sorted.{insert_texts, has_text}
use Rattle.class_set.specs.declared.arrays.Listed.{Listed}
use Rattle.class_set.specs.declared.arrays.Listed.TheVariants.{Made, Needed}
use Rattle.class_set.specs.Linked.{Linked, class_names, names_of}

-- ---- one array type

abbrev pub kind_of_base : BaseType → Kind
kind_of_base base.Byte = B
kind_of_base base.Char = C
kind_of_base base.Int = I
kind_of_base base.Long = J
kind_of_base base.Short = S
kind_of_base base.Boolean = Z

-- the class of this name where the set has one
abbrev pub class_or_missing : List ClassFile → List ℕ → Innermost
class_or_missing files name = elim (place_of (class_names files) name) [ None ↦ Missing name | Some n ↦ Objects n ]

abbrev pub innermost_of : List ClassFile → ElementType → Innermost
innermost_of files (element.Base b) = Numbers (kind_of_base b)
innermost_of files (element.Class name) = class_or_missing files name

abbrev pub typed_array : List ClassFile → List ℕ → FieldType → ArrayType
typed_array files text t =
    record { descriptor = text; dimensions = t.dimensions; innermost = innermost_of files t.element }

-- the array type with this descriptor, if it is one's
abbrev pub described_array : List ClassFile → List ℕ → Option Descriptor → Option ArrayType
described_array files text (Some (descriptor.Field t)) =
    if nat_lt 0 t.dimensions then Some (typed_array files text t) else None
described_array files text other = None

abbrev pub array_described : List ClassFile → List ℕ → Option ArrayType
array_described files text =
    if is_none (bad_place 0 0 text) then described_array files text (descriptor_at text) else None

-- What has a number is an array type; for another text this stands.
abbrev pub no_array : List ℕ → ArrayType
no_array text = record { descriptor = text; dimensions = 0; innermost = Missing [] }

abbrev pub array_type : List ClassFile → List ℕ → ArrayType
array_type files text = elim (array_described files text) [ None ↦ no_array text | Some a ↦ a ]

-- ---- the array types that files need

-- `[` in front
abbrev pub array_of : List ℕ → List ℕ
array_of element = 91 ∷ element

abbrev pub begins_with_bracket : List ℕ → Bool
begins_with_bracket [] = false
begins_with_bracket (b ∷ bytes) = b == 91

-- the descriptor of a class or an array type by the name that a Class entry has: an array type's is its descriptor (JVMS 4.4.1)
abbrev pub descriptor_of_class : List ℕ → List ℕ
descriptor_of_class name = if begins_with_bracket name then name else 76 ∷ name ++ 59 ∷ []

abbrev pub primitive_letter : Primitive → ℕ
primitive_letter primitive.Boolean = 90
primitive_letter primitive.Char = 67
primitive_letter primitive.Byte = 66
primitive_letter primitive.Short = 83
primitive_letter primitive.Int = 73
primitive_letter primitive.Long = 74

abbrev pub class_of_member : Slots → Option Member → List ℕ
class_of_member pool None = []
class_of_member pool (Some m) = class_name pool m.class

-- the class that an index names, or whose member it names
abbrev pub class_at : Slots → ℕ → List ℕ
class_at pool index = elim (class_name_at pool index) [ None ↦ class_of_member pool (member_at pool index) | Some name ↦ name ]

-- the class that an instruction or an exception entry names, where named ones are listed too
abbrev pub named : Listed → List ℕ → List (List ℕ)
named Made name = []
named Needed name = name ∷ []

-- what an instruction makes, and what it names as a class where that is listed too
abbrev pub listed_by : Listed → Slots → Ins → List (List ℕ)
listed_by what pool (ins.NewArray p) = array_of (primitive_letter p ∷ []) ∷ []
listed_by what pool (ins.Pool usage.NewReferenceArray index) =
    array_of (descriptor_of_class (class_at pool index)) ∷ named what (class_at pool index)
listed_by what pool (ins.Pool other index) = named what (class_at pool index)
listed_by what pool (ins.InvokeInterface index count) = named what (class_at pool index)
listed_by what pool other = []

abbrev pub listed_by_code : Listed → Slots → Option Code → List (List ℕ)
listed_by_code what pool None = []
listed_by_code what pool (Some code) =
    flat_map (λ (p : Placed). listed_by what pool p.ins) code.instructions
    ++ flat_map (λ (h : Handler). named what (class_name pool h.catch)) code.handlers

abbrev pub listed_by_class : Listed → ClassFile → List (List ℕ)
listed_by_class what c = flat_map (λ (m : Method). listed_by_code what c.pool (code_in m.attributes)) c.methods

-- The types of a StringBuilder's chars and of the arguments of `main`, which count as made, and those that files make or also name.
abbrev pub all_listed : Listed → List ClassFile → List (List ℕ)
all_listed what files = codes "[C" ∷ codes "[Ljava/lang/String;" ∷ flat_map (listed_by_class what) files

abbrev pub is_some_array : Option ArrayType → Bool
is_some_array None = false
is_some_array (Some a) = true

-- it is the descriptor of an array type
abbrev pub is_array_type : List ℕ → Bool
is_array_type text = is_some_array (array_described [] text)

-- these texts with the array types among others, in the order of their bytes, each once
abbrev pub with_arrays : (arrays texts : List (List ℕ)) → List (List ℕ)
with_arrays arrays texts = insert_texts arrays (filter is_array_type texts)

-- the array types that files make or also name, in the order of their bytes
abbrev pub listed_arrays : Listed → List ClassFile → List (List ℕ)
listed_arrays what files = with_arrays [] (all_listed what files)

-- ---- the set of files

-- The class set of files that link, with the array types that they need.
abbrev pub linked_from : List ClassFile → Linked
linked_from files = record { files = files; arrays = listed_arrays Needed files }

-- the code of the files makes arrays of the type with this number
abbrev pub makes : Linked → ℕ → Bool
makes set n = elim (slice_get (names_of set) n) [ None ↦ false | Some name ↦ has_text (listed_arrays Made set.files) name ]
