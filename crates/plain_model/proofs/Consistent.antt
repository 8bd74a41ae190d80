-- The classes of which the runtime makes objects are there.
use Rattle.std.proofs.Common.{◌≡◌, ℕ, zero, suc, ◌+◌, ◌<◌, true, false, List, [], ◌∷◌, ◌++◌, map, length, refl, ap, ◌∙◌, arith}
use Rattle.std.proofs.Common.{lit<, slice_index_or, if◌then◌else◌}
use Rattle.std.specs.Prelude.{codes, Some, None}
use Rattle.std.specs.Str.{bytes_eq}
use Rattle.std.proofs.lemmas.Slice.Eq.{bytes_eq-Decides}
use Rattle.std.proofs.lemmas.List.{get_or-map, length-append, length-map, get_or_append_left, get_or-append-add}
use Rattle.ap_base.specs.declared.kind.Kind.{Kind}
use Rattle.ap_base.specs.declared.kind.Kind.TheVariants.{C}
use Rattle.plain_model.specs.declared.throws.Throws.{Throws}
use Rattle.plain_model.specs.declared.throws.Throws.TheVariants.{NegativeArraySize, NullPointer, ArrayIndexOutOfBounds}
use Rattle.plain_model.specs.declared.throws.Throws.TheVariants.{StringIndexOutOfBounds, ArrayStore, ClassCast}
use Rattle.plain_model.specs.declared.throws.Throws.TheVariants.{IllegalMonitorState, IllegalThreadState, IllegalState}
use Rattle.plain_model.specs.declared.throws.Throws.TheVariants.{Arithmetic}
use Rattle.plain_model.specs.Classes.{ClassFacts, ArrayType, no_class, element_kind}
use Rattle.plain_model.specs.BuiltIn.{built_in_classes, array_class, chars_array, arguments_array}
use Rattle.plain_model.specs.Facts.{SetFacts, built_in_number, class_count, classes_of, class_at, element_of, array_place}
use Rattle.plain_model.specs.Facts.{string_number, stream_class, arguments_class, thrown_class, thrown_place}
use Rattle.plain_model.specs.Consistent.{IsComplete}

pub own_bytes : (name : List ℕ) → bytes_eq name name ≡ true
own_bytes name = (bytes_eq-Decides name name).1 refl

-- an array type is found by its descriptor
pub array_placed : (arrays : List ArrayType) (a : ArrayType) (k : ℕ) → k < length arrays
    → slice_index_or arrays k a ≡ a
    → array_place arrays a.descriptor < length arrays
array_placed [] a k below is = absurd (let no : k < 0 = below in omega (arith, no))
array_placed (x ∷ xs) a zero below is =
    let same : x.descriptor ≡ a.descriptor = ap (λ (y : ArrayType). y.descriptor) is in
    rw (same, own_bytes a.descriptor) (omega arith)
array_placed (x ∷ xs) a (suc k) below is =
    elim (bytes_eq x.descriptor a.descriptor) as
    (λ b. (if b then 0 else suc (array_place xs a.descriptor)) < suc (length xs)) [
      | true ↦ omega arith
      | false ↦ omega (arith, array_placed xs a k (omega (arith, below)) is)
    ]

module _ (set : SetFacts) where
  abbrev first : ℕ
  first = length set.program

  abbrev built_ins : List ClassFacts
  built_ins = built_in_classes first

  abbrev array_classes : List ClassFacts
  array_classes = map (array_class first) set.arrays

  built_in_length : length built_ins ≡ 28
  built_in_length = refl

  not_arrays_counted : length (set.program ++ built_ins) ≡ class_count set
  not_arrays_counted = omega (arith, length-append set.program built_ins, built_in_length)

  pub counted : length (classes_of set) ≡ class_count set + length set.arrays
  counted = omega (
    arith,
    length-append (set.program ++ built_ins) array_classes,
    not_arrays_counted,
    length-map set.arrays (array_class first),
  )

  below_arrays : (k : ℕ) → k < 28 → built_in_number set k < length (set.program ++ built_ins)
  below_arrays k below = omega (arith, below, not_arrays_counted)

  pub place_there : (k : ℕ) → k < 28 → built_in_number set k < length (classes_of set)
  place_there k below = omega (arith, below, counted)

  pub class_of_place : (k : ℕ) → k < 28
      → class_at set (built_in_number set k) ≡ slice_index_or built_ins k no_class
  class_of_place k below =
      get_or_append_left (set.program ++ built_ins) array_classes no_class (built_in_number set k)
      (below_arrays k below)
      ∙ get_or-append-add set.program built_ins k no_class

  pub string_there : string_number set < length (classes_of set)
  string_there = place_there 21 (lit< tt)

  pub stream_there : stream_class set < length (classes_of set)
  stream_there = place_there 1 (lit< tt)

  thrown_below : (which : Throws) → thrown_place which < 28
  thrown_below NegativeArraySize = lit< tt
  thrown_below NullPointer = lit< tt
  thrown_below ArrayIndexOutOfBounds = lit< tt
  thrown_below StringIndexOutOfBounds = lit< tt
  thrown_below ArrayStore = lit< tt
  thrown_below ClassCast = lit< tt
  thrown_below IllegalMonitorState = lit< tt
  thrown_below IllegalThreadState = lit< tt
  thrown_below IllegalState = lit< tt
  thrown_below Arithmetic = lit< tt

  pub throwables_there : (which : Throws) → thrown_class set which < length (classes_of set)
  throwables_there which = place_there (thrown_place which) (thrown_below which)

  -- a String has elements, and the object of System.out has no fields
  pub text_elements : element_of set (string_number set) ≡ Some C
  text_elements = ap (λ (c : ClassFacts). c.shape.element) (class_of_place 21 (lit< tt))

  pub stream_shape : (class_at set (stream_class set)).shape
      ≡ record { name = codes "java/io/PrintStream"; fields = []; element = None }
  stream_shape = ap (λ (c : ClassFacts). c.shape) (class_of_place 1 (lit< tt))

  pub no_stream_fields : length (class_at set (stream_class set)).shape.fields ≡ 0
  no_stream_fields = ap (λ (c : ClassFacts). length c.shape.fields) (class_of_place 1 (lit< tt))

  -- an array type by its place
  pub array_of_place : (j : ℕ) (d : ArrayType) → j < length set.arrays
      → class_at set (class_count set + j) ≡ array_class first (slice_index_or set.arrays j d)
  array_of_place j d below =
      let e : class_count set + j ≡ length (set.program ++ built_ins) + j =
      omega (arith, not_arrays_counted) in
      ap (class_at set) e
      ∙ get_or-append-add (set.program ++ built_ins) array_classes j no_class
      ∙ get_or-map (array_class first) set.arrays j d no_class below

module _ (set : SetFacts) (complete : IsComplete set) where
  abbrev pub arguments_place : ℕ
  arguments_place = array_place set.arrays (codes "[Ljava/lang/String;")

  arguments_placed : arguments_place < length set.arrays
  arguments_placed =
      let (k, below, is) = complete.arguments in
      array_placed set.arrays (arguments_array (length set.program)) k below is

  pub arguments_there : arguments_class set < length (classes_of set)
  arguments_there = omega (arith, arguments_placed, counted set)

  -- the argument array has elements
  abbrev pub arguments_kind : Kind
  arguments_kind = let a = slice_index_or set.arrays arguments_place chars_array in
      element_kind a.dimensions a.innermost

  pub argument_elements : element_of set (arguments_class set) ≡ Some arguments_kind
  argument_elements =
      ap (λ (c : ClassFacts). c.shape.element)
      (array_of_place set arguments_place chars_array arguments_placed)
