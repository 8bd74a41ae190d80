-- Array types that get numbers.
use Rattle.std.proofs.Common.{◌≡◌, ℕ, zero, suc, ◌<◌, true, false, nat_lt, ◌&&◌, List, [], ◌∷◌, ◌++◌, replicate, Option, Some}
use Rattle.std.proofs.Common.{None, length, slice_index_or, refl, sym, ap, ◌∙◌, subst, arith, if◌then◌else◌, take, append_assoc}
use Rattle.std.proofs.Common.{◌+◌, ⊎_elim}
use Rattle.std.specs.Prelude.{Contains, is_some}
use Rattle.std.specs.Option.{is_none}
use Rattle.std.proofs.lemmas.Bool.{and_parts, false≢true, lt-ltb, eqb-true}
use Rattle.std.proofs.lemmas.List.Elements.{Contains-append_left, Contains-append_right, Contains-push}
use Rattle.std.specs.Str.{bytes_eq}
use Rattle.std.proofs.lemmas.Slice.Eq.{bytes_eq-Decides}
use Rattle.graph_walks.proofs.Lists.{Contains-cons_cases, Contains-head, Contains-nil, Contains-tail}
use Rattle.text_table.specs.Texts.{place_from}
use Rattle.std.proofs.Math.Seq.{take-suc}
use Rattle.const_pool.specs.declared.descriptor.BaseType.TheVariants as base
use Rattle.const_pool.specs.declared.descriptor.ElementType.{ElementType}
use Rattle.const_pool.specs.declared.descriptor.ElementType.TheVariants as element
use Rattle.const_pool.specs.declared.descriptor.Descriptor.{Descriptor}
use Rattle.const_pool.specs.declared.descriptor.Descriptor.TheVariants as descriptor
use Rattle.const_pool.specs.Descriptor.{element_bytes}
use Rattle.const_pool.specs.Parsing.{descriptor_at}
use Rattle.const_pool.specs.Utf8.{IsModifiedUtf8, bad_place}
use Rattle.const_pool.proofs.Grammar.{descriptor_takes}
use Rattle.const_pool.proofs.Texts.{none_is_good}
use Rattle.graph_model.specs.declared.types.Shape.{Shape}
use Rattle.image_meaning.specs.Entries.{IsShape, is_array_name, is_descriptor, is_nil, is_shape}
use Rattle.class_set.specs.ArrayTypes.{described_array, is_array_type, is_some_array}
use Rattle.class_set.specs.Linked.{Linked, class_named, class_names, names_of, with_array}
use Rattle.set_opening.specs.Arrays.{with_array_of, with_arrays_of}

-- ---- the name of an array type

bracket : (b : ℕ) (name : List ℕ) → is_array_name (b ∷ name) ≡ true → b ≡ 91
bracket b name is = eqb-true b 91 is

-- an element begins with no bracket
element_plain : (e : ElementType) → is_array_name (element_bytes e) ≡ true → ⊥
element_plain (element.Base base.Byte) is = false≢true is
element_plain (element.Base base.Char) is = false≢true is
element_plain (element.Base base.Int) is = false≢true is
element_plain (element.Base base.Long) is = false≢true is
element_plain (element.Base base.Short) is = false≢true is
element_plain (element.Base base.Boolean) is = false≢true is
element_plain (element.Class name) is = false≢true is

some_dimensions : (d : ℕ) (e : ElementType) → is_array_name (replicate d 91 ++ element_bytes e) ≡ true
    → nat_lt 0 d ≡ true
some_dimensions zero e is = absurd (element_plain e is)
some_dimensions (suc d) e is = lt-ltb 0 (suc d) (omega arith)

described : (text : List ℕ) (o : Option Descriptor) → IsModifiedUtf8 text → descriptor_at text ≡ o
    → is_array_name text ≡ true
    → is_some o ≡ true → is_some_array (described_array [] text o) ≡ true
described text None good e array some = absurd (false≢true some)
described text (Some (descriptor.Method parameters result)) good e array some =
    absurd (false≢true (subst (λ t. is_array_name t ≡ true)
    (descriptor_takes text (descriptor.Method parameters result) good e).parts array))
described text (Some (descriptor.Field t)) good e array some =
    let test : nat_lt 0 t.dimensions ≡ true = some_dimensions t.dimensions t.element
    (subst (λ x. is_array_name x ≡ true) (descriptor_takes text (descriptor.Field t) good e).parts array) in
    rw test refl

nothing : (o : Option ℕ) → is_none o ≡ true → o ≡ None
nothing None h = refl
nothing (Some n) h = absurd (false≢true h)

is_type : (text : List ℕ) → is_array_name text ≡ true → is_descriptor text ≡ true → is_array_type text ≡ true
is_type text array form =
    let parts = and_parts (is_none (bad_place 0 0 text)) (is_some (descriptor_at text)) form in
    let good = none_is_good text (nothing (bad_place 0 0 text) parts.0) in
    rw parts.0 (described text (descriptor_at text) good refl array parts.1)

-- a shape with an array's name is an array type's
pub shape_array : (shape : Shape) → IsShape shape → is_array_name shape.name ≡ true
    → is_array_type shape.name ≡ true
unfolding is_shape
shape_array shape is array =
    let form : (is_nil shape.fields && is_descriptor shape.name) ≡ true = rw array at (is.form) in
    is_type shape.name array (and_parts (is_nil shape.fields) (is_descriptor shape.name) form).1

-- ---- one more shape

arrays-snoc : (set : Linked) (shapes : List Shape) (shape : Shape)
    → with_arrays_of set (shapes ++ shape ∷ []) ≡ with_array_of (with_arrays_of set shapes) shape
arrays-snoc set [] shape = refl
arrays-snoc set (s ∷ shapes) shape = arrays-snoc (with_array_of set s) shapes shape

pub arrays-more : (set : Linked) (shapes : List Shape) (i : ℕ) (d : Shape) → i < length shapes
    → with_array_of (with_arrays_of set (take i shapes))
    (slice_index_or shapes i d) ≡ with_arrays_of set (take (suc i) shapes)
arrays-more set shapes i d below =
    sym (ap (with_arrays_of set) (take-suc shapes i d below)
    ∙ arrays-snoc set (take i shapes) (slice_index_or shapes i d))

-- ---- what stays

one_files : (set : Linked) (text : List ℕ) → (with_array set text).files ≡ set.files
one_files set text = elim (is_some (class_named set text))
    as (λ b. (if b then set else (let more : Linked = record {
      files = set.files;
      arrays =
          set.arrays ++ text ∷ [];
    } in more)).files ≡ set.files) [
      | true ↦ refl
      | false ↦ refl
    ]

array_files : (set : Linked) (shape : Shape) → (with_array_of set shape).files ≡ set.files
array_files set shape = elim (is_array_name shape.name)
    as (λ b. (if b then with_array set shape.name else set).files ≡ set.files) [
      | true ↦ one_files set shape.name
      | false ↦ refl
    ]

-- the files are the same
pub arrays_files : (set : Linked) (shapes : List Shape) → (with_arrays_of set shapes).files ≡ set.files
arrays_files set [] = refl
arrays_files set (shape ∷ shapes) = arrays_files (with_array_of set shape) shapes ∙ array_files set shape

-- ---- names that are there

some_there : (n : ℕ) (texts : List (List ℕ)) (text : List ℕ) → is_some (place_from n texts text) ≡ true
    → Contains texts text
some_there n [] text is = absurd (false≢true is)
some_there n (u ∷ us) text is =
    elim (bytes_eq u text) as (λ b. bytes_eq u text ≡ b
    → is_some (if b then Some n else place_from (n + 1) us text) ≡ true → Contains (u ∷ us) text) [
      | true ↦ λ same one. subst (λ x. Contains (x ∷ us) text) (sym ((bytes_eq-Decides u text).0 same))
          (Contains-head text us)
      | false ↦ λ other one. Contains-tail u us text (some_there (n + 1) us text one)
    ] refl is

text_there : (set : Linked) (text : List ℕ) → Contains (names_of (with_array set text)) text
text_there set text =
    elim (is_some (class_named set text)) as (λ b. is_some (class_named set text) ≡ b
    → Contains (names_of (if b then set else (let more : Linked = record {
      files = set.files;
      arrays =
          set.arrays ++ text ∷ [];
    } in more))) text) [
      | true ↦ λ is. some_there 0 (names_of set) text is
      | false ↦ λ is. Contains-append_right (class_names set.files)
          (set.arrays ++ text ∷ []) text (Contains-push set.arrays text)
    ] refl

still_named : (set : Linked) (text name : List ℕ) → Contains (names_of set) name
    → Contains (names_of (with_array set text)) name
still_named set text name there =
    elim (is_some (class_named set text))
    as (λ b. Contains (names_of (if b then set else (let more : Linked = record {
      files = set.files;
      arrays =
          set.arrays ++ text ∷ [];
    } in more))) name) [
      | true ↦ there
      | false ↦ subst (λ names. Contains names name)
          (append_assoc (class_names set.files) set.arrays (text ∷ []))
          (Contains-append_left (names_of set) (text ∷ []) name there)
    ]

named_on : (set : Linked) (shape : Shape) (name : List ℕ) → Contains (names_of set) name
    → Contains (names_of (with_array_of set shape)) name
named_on set shape name there =
    elim (is_array_name shape.name) as (λ b. Contains (names_of (if b then with_array set shape.name else
    set)) name) [
      | true ↦ still_named set shape.name name there
      | false ↦ there
    ]

all_named : (set : Linked) (shapes : List Shape) (name : List ℕ) → Contains (names_of set) name
    → Contains (names_of (with_arrays_of set shapes)) name
all_named set [] name there = there
all_named set (shape ∷ shapes) name there =
    all_named (with_array_of set shape) shapes name (named_on set shape name there)

-- each array type among the shapes has a number then
pub arrays_named : (set : Linked) (shapes : List Shape) (shape : Shape) → Contains shapes shape
    → is_array_name shape.name ≡ true
    → Contains (names_of (with_arrays_of set shapes)) shape.name
arrays_named set [] shape there array = absurd (Contains-nil shape there)
arrays_named set (s ∷ shapes) shape there array = ⊎_elim
    (λ (first : s ≡ shape). all_named (with_array_of set s) shapes shape.name
    (subst (λ (x : Shape). Contains (names_of (with_array_of set x)) shape.name) (sym first)
    (rw array (text_there set shape.name))))
    (λ (later : Contains shapes shape). arrays_named (with_array_of set s) shapes shape later array)
    (Contains-cons_cases s shapes shape there)
