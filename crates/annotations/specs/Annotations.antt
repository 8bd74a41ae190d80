-- The content of an attribute of annotations (JVMS 4.7.16, 4.7.17), read from front to back, with the first
-- fault that is met. A place is the offset from the file's start and the bytes from there on.
use Rattle.std.specs.Prelude.{ℕ, zero, suc, ◌==◌, Bool, false, List, length, codes, Option, Some, None, Result, Ok, Err, ◌||◌}
use Rattle.std.specs.Prelude.{if◌then◌else◌}
use Rattle.std.specs.List.{list_any}
use Rattle.std.specs.Str.{bytes_eq}
use Rattle.parsing.specs.declared.cut.Cut.{Cut}
use Rattle.parsing.specs.Results as results
use Rattle.parsing.specs.Results.{◌>>=◌, placed, many_from}
use Rattle.parsing.specs.Places.{Place, number_at}
use Rattle.const_pool.specs.declared.entry.Tag.{Tag}
use Rattle.const_pool.specs.declared.entry.Tag.TheVariants.{Utf8, Integer, Float, Long, Double}
use Rattle.const_pool.specs.Pool.{Slots, utf8_at}
use Rattle.class_items.specs.declared.refusal.ItemRefusal.{ItemRefusal}
use Rattle.class_items.specs.declared.refusal.ItemRefusal.TheVariants as item
use Rattle.class_items.specs.Items.{index_at}
use Rattle.annotations.specs.declared.form.ValueForm.{ValueForm}
use Rattle.annotations.specs.declared.form.ValueForm.TheVariants.{Constant, EnumConstant, Nested, Array}
use Rattle.annotations.specs.declared.marks.Marks.{Marks}
use Rattle.annotations.specs.declared.refusal.AnnotationRefusal.{AnnotationRefusal}
use Rattle.annotations.specs.declared.refusal.AnnotationRefusal.TheVariants.{BadForm, BadIndex}

-- what a call gave is what reading gives; nothing takes memory
abbrev pub Gives : {A B : Type 0} → (A → B) → Result A AnnotationRefusal → Result B AnnotationRefusal → Type 0
Gives view result read = results.Gives None view result read

-- ---- numbers and indices

-- a field that is cut off has no other fault than the form of the annotations
abbrev pub of_cut : Cut → AnnotationRefusal
of_cut cut = BadForm

-- the refusal of an item
abbrev pub of_item : ItemRefusal → AnnotationRefusal
of_item (item.BadIndex offset index) = BadIndex offset index
of_item other = BadForm

-- a number of n bytes, the highest first
abbrev pub number_in : ℕ → Place → Result (ℕ × Place) AnnotationRefusal
number_in n file = placed of_cut (number_at n file)

-- an index that names an entry of this kind
abbrev pub index_in : Slots → Tag → Place → Result (ℕ × Place) AnnotationRefusal
index_in pool tag file = placed of_item (index_at pool tag file)

-- ---- what is read over: from where it begins to the place after it

abbrev pub Skips : Type 0
Skips = Place → Result Place AnnotationRefusal

-- so many of one form, one after the other
unfoldable pub after_many : Skips → ℕ → Skips
after_many one zero file = Ok file
after_many one (suc count) file = one file >>= after_many one count

-- a count, and so many of one form
unfoldable pub after_counted : Skips → Skips
after_counted one file = do
  count ← number_in 2 file
  after_many one count.0 count.1

-- ---- annotations, given how a value of a pair is read

-- the index of an element's name, and its value (JVMS 4.7.16)
unfoldable pub after_pair : Skips → Slots → Skips
after_pair value pool file = do
  name ← index_in pool Utf8 file
  value name.1

-- the index of a type's descriptor, and the pairs; the index is kept (JVMS 4.7.16)
unfoldable pub annotation_of : Skips → Slots → Place → Result (ℕ × Place) AnnotationRefusal
annotation_of value pool file = do
  type ← index_in pool Utf8 file
  after ← after_counted (after_pair value pool) type.1
  Ok (type.0, after)

-- ---- values

-- what follows a tag (JVMS 4.7.16.1, table 4.7.16.1-A): B C I S Z, D, F, J, s c, e, @ and [
abbrev pub form_of : ℕ → Option ValueForm
form_of tag =
    if tag == 66 then Some (Constant Integer)
    else (if tag == 67 then Some (Constant Integer)
    else (if tag == 73 then Some (Constant Integer)
    else (if tag == 83 then Some (Constant Integer)
    else (if tag == 90 then Some (Constant Integer)
    else (if tag == 68 then Some (Constant Double)
    else (if tag == 70 then Some (Constant Float)
    else (if tag == 74 then Some (Constant Long)
    else (if tag == 115 then Some (Constant Utf8)
    else (if tag == 99 then Some (Constant Utf8)
    else (if tag == 101 then Some EnumConstant
    else (if tag == 64 then Some Nested
    else (if tag == 91 then Some Array
    else None))))))))))))

abbrev pub known : Option ValueForm → Result ValueForm AnnotationRefusal
known (Some form) = Ok form
known None = Err BadForm

-- what follows the tag, given how a value within is read (JVMS 4.7.16.1)
unfoldable pub after_content : Skips → Slots → ValueForm → Skips
after_content value pool (Constant kind) file = do
  index ← index_in pool kind file
  Ok index.1
after_content value pool EnumConstant file = do
  type ← index_in pool Utf8 file
  name ← index_in pool Utf8 type.1
  Ok name.1
after_content value pool Nested file = do
  annotation ← annotation_of value pool file
  Ok annotation.1
after_content value pool Array file = after_counted value file

-- A value, where values may nest so deep from it on: one that stands deeper is refused where it begins.
unfoldable pub after_value : Slots → ℕ → Skips
after_value pool zero file = Err BadForm
after_value pool (suc deep) file = do
  tag ← number_in 1 file
  form ← known (form_of tag.0)
  after_content (after_value pool deep) pool form tag.1

-- ---- the attribute

abbrev pub deepest : ℕ
deepest = 64

-- an annotation of the attribute itself: the index of its type's descriptor
unfoldable pub annotation_at : Slots → Place → Result (ℕ × Place) AnnotationRefusal
annotation_at pool file = annotation_of (after_value pool deepest) pool file

-- the text at this index is this one
abbrev pub is_text : Slots → List ℕ → ℕ → Bool
is_text pool text index = elim (utf8_at pool index) [ None ↦ false | Some found ↦ bytes_eq found text ]

abbrev pub is_root : Slots → ℕ → Bool
is_root pool index = is_text pool (codes "Lautopersist/DurableRoot;") index

abbrev pub is_unrecoverable : Slots → ℕ → Bool
is_unrecoverable pool index = is_text pool (codes "Lautopersist/Unrecoverable;") index

-- which of the two are among annotations with these types
abbrev pub marks_of : Slots → List ℕ → Marks
marks_of pool types = record {
  root = list_any (is_root pool) types;
  unrecoverable = list_any (is_unrecoverable pool) types;
}

-- the marks before, and those of one more annotation
abbrev pub with_type : Slots → Marks → ℕ → Marks
with_type pool marks type = record {
  root = marks.root || is_root pool type;
  unrecoverable = marks.unrecoverable || is_unrecoverable pool type;
}

-- so many annotations: which of the two are among them
unfoldable pub marks_from : Slots → ℕ → Place → Result (Marks × Place) AnnotationRefusal
marks_from pool count file = do
  types ← many_from (annotation_at pool) count file
  Ok (marks_of pool types.0, types.1)

-- A count, and so many annotations, after which nothing is left. The answer is which of the two are among
-- them.
unfoldable pub annotations_in : Slots → Place → Result Marks AnnotationRefusal
annotations_in pool file = do
  count ← number_in 2 file
  marks ← marks_from pool count.0 count.1
  if length marks.1.1 == 0 then Ok marks.0 else Err BadForm
