-- An image can have the shapes and the names of a class set.
use Rattle.std.proofs.Common.{◌≡◌, ℕ, zero, suc, ◌<◌, ◌^◌, Bool, true, false, ◌&&◌, ◌||◌, not, nat_lt, replicate, List, [], ◌∷◌}
use Rattle.std.proofs.Common.{◌++◌, Option, Some, None, map, drop, length, slice_index_or, refl, ap, sym, ◌∙◌, arith, subst}
use Rattle.std.proofs.Common.{if◌then◌else◌}
use Rattle.std.specs.Prelude.{All, Contains, codes}
use Rattle.std.specs.Option.{is_none, is_some}
use Rattle.std.specs.Str.{bytes_eq}
use Rattle.std.proofs.lemmas.Bool.{false≢true}
use Rattle.std.proofs.lemmas.Bool.Decides.{nat_tests}
use Rattle.std.proofs.lemmas.List.{length-map}
use Rattle.std.proofs.lemmas.List.Elements.{All-append, All-cons, All-contains, All-head, All-map, All-nil, All-tail}
use Rattle.std.proofs.lemmas.List.Elements.{recursion_from_All}
use Rattle.ap_base.specs.declared.kind.Kind.{Kind}
use Rattle.ap_base.specs.declared.kind.Kind.TheVariants.{Z, B, C, S, I, J, L, Text}
use Rattle.graph_model.specs.declared.types.Field.{Field}
use Rattle.graph_model.specs.declared.types.Shape.{Shape}
use Rattle.graph_walks.proofs.Lists.{cons_head, cons_tail}
use Rattle.const_pool.specs.declared.descriptor.Descriptor.{Descriptor}
use Rattle.const_pool.specs.Parsing.{descriptor_at}
use Rattle.const_pool.specs.Utf8.{IsModifiedUtf8, bad_place}
use Rattle.const_pool.proofs.Texts.{none_is_good}
use Rattle.class_file.specs.declared.class.ClassFile.{ClassFile}
use Rattle.class_file.specs.declared.field.Field.{Field as FileField}
use Rattle.class_file.specs.Classes.{CanBeRead}
use Rattle.plain_model.specs.Classes.{ClassFacts, ArrayType, Innermost, Numbers, Objects, Missing, element_kind}
use Rattle.plain_model.specs.BuiltIn.{built_in_classes}
use Rattle.plain_model.specs.Facts.{SetFacts, StaticFacts}
use Rattle.plain_model.specs.Consistent.{IsArrayType, IsInnermost, IsNumberKind, innermost_descriptor, kind_letter}
use Rattle.image_meaning.specs.Entries.{AreBytes, IsField, IsShape, component_kind, element_of, is_array_name, is_descriptor}
use Rattle.image_meaning.specs.Entries.{is_nil, is_shape, is_string_name, kind_of_letter}
use Rattle.built_in_table.specs.Members.{built_in_names}
use Rattle.class_links.specs.Names.{has_name, name_of}
use Rattle.class_links.specs.Links.{doubled}
use Rattle.class_set.specs.Linked.{Linked}
use Rattle.class_set.specs.Members.{is_static_member, layout_of_file, text_at}
use Rattle.class_set.specs.ArrayTypes.{array_type, begins_with_bracket, described_array, is_array_type, is_some_array}
use Rattle.class_set.specs.Facts.{class_facts, facts_of, named_classes, static_facts, statics_from, statics_of_fields}
use Rattle.class_set.specs.Sets.{IsLinked, made_of}
use Rattle.class_set.specs.Tables.{array_shape}
use Rattle.class_set.proofs.Above.{get_or-map_all}
use Rattle.class_set.proofs.Described.{described_type}
use Rattle.class_set.proofs.Differ.{bracketed, type_named}
use Rattle.class_set.proofs.FieldNames.{bytes_fit, file_fields, fit_bytes}
use Rattle.class_set.proofs.FieldPlaces.{both_true}
use Rattle.class_set.proofs.FieldsRead.{IsSound, class_sound}
use Rattle.class_set.proofs.MadeArrays.{IsShort, made_short}
use Rattle.class_set.proofs.Numbers.{files_apart}
use Rattle.class_set.proofs.Read.{name_plain}
use Rattle.class_set.proofs.TextBytes.{both_bytes, class_has, text_bytes, text_has, texts_of_bytes}

-- ---- names that are neither an array's nor that of String

bracket_name : (t : List ℕ) → is_array_name t ≡ begins_with_bracket t
bracket_name [] = refl
bracket_name (b ∷ bs) = refl

plain_element : (name : List ℕ) → is_array_name name ≡ false → is_string_name name ≡ false → None ≡ element_of name
plain_element name a s =
    sym (ap (λ b. if b then Some (component_kind (drop 1 name)) else (if is_string_name name then Some C else None)) a
    ∙ ap (λ b. if b then Some C else None) s)

plain_form : (name : List ℕ) (fields : List Field) → is_array_name name ≡ false → is_string_name name ≡ false → is_shape name fields ≡ true
unfolding is_shape
plain_form name fields a s =
    ap (λ b. if b then is_nil fields && is_descriptor name else (if is_string_name name then is_nil fields else true)) a
    ∙ ap (λ b. if b then is_nil fields else true) s

or_false_left : (a b : Bool) → (a || b) ≡ false → a ≡ false
or_false_left true b h = h
or_false_left false b h = refl

or_false_right : (a b : Bool) → (a || b) ≡ false → b ≡ false
or_false_right true b h = absurd (false≢true (sym h))
or_false_right false b h = h

none_named : (files : List ClassFile) (t : List ℕ) → has_name (map name_of files) t ≡ false → All (λ (c : ClassFile). bytes_eq (name_of c) t ≡ false) files
none_named [] t h = All-nil (λ (c : ClassFile). bytes_eq (name_of c) t ≡ false)
none_named (c ∷ cs) t h =
    All-cons (λ (d : ClassFile). bytes_eq (name_of d) t ≡ false) c cs (or_false_left (bytes_eq (name_of c) t) (has_name (map name_of cs) t) h)
    (none_named cs t (or_false_right (bytes_eq (name_of c) t) (has_name (map name_of cs) t) h))

string_known : has_name built_in_names (codes "java/lang/String") ≡ true
unfolding built_in_names
string_known = refl

-- ---- the classes of files

program_shape : (files : List ClassFile) (c : ClassFile) → All CanBeRead files → CanBeRead c → is_string_name (name_of c) ≡ false
    → IsShape (class_facts files c).shape
program_shape files c all h s =
    let sound = class_sound c h in
    let plain : is_array_name (name_of c) ≡ false = bracket_name (name_of c) ∙ name_plain c h in
    let short : length (name_of c) < 2 ^ 16 = class_has (λ t. length t < 2 ^ 16) c.pool (omega arith) sound.short c.this_class in
    record {
      name = class_has AreBytes c.pool tt (texts_of_bytes c.pool sound.texts) c.this_class;
      short = omega (arith, short);
      fields = recursion_from_All IsField (layout_of_file files c) (file_fields files c all sound);
      element = plain_element (name_of c) plain s;
      form = plain_form (name_of c) (layout_of_file files c) plain s;
    }

program_shapes : (files : List ClassFile) → All CanBeRead files → doubled files ≡ None
    → All (λ (c : ClassFacts). IsShape c.shape) (map (class_facts files) files)
program_shapes files h single =
    let apart = none_named files (codes "java/lang/String") (files_apart files (codes "java/lang/String") single string_known) in
    All-map (λ (c : ClassFacts). IsShape c.shape) (class_facts files) files
    (λ k d l. program_shape files (slice_index_or files k d) h (h k d l) (apart k d l))

-- ---- the built-in classes

is_text : Kind → Bool
is_text Text = true
is_text kind = false

no_text : (k : Kind) → is_text k ≡ false → k ≡ Text → ⊥
unfolding is_text
no_text k h e = false≢true (sym (subst (λ x. is_text x ≡ false) e h))

field_fits : Field → Bool
field_fits f = bytes_fit f.name && (not (is_text f.kind) && f.kept)

fields_fit : List Field → Bool
fields_fit [] = true
fields_fit (f ∷ fs) = field_fits f && fields_fit fs

not_true : (b : Bool) → not b ≡ true → b ≡ false
not_true true h = absurd (false≢true h)
not_true false h = refl

fit_field : (f : Field) → field_fits f ≡ true → IsField f
unfolding field_fits
fit_field f h =
    let one = both_true (bytes_fit f.name) (not (is_text f.kind) && f.kept) h in
    let two = both_true (not (is_text f.kind)) f.kept one.1 in
    record { name = fit_bytes f.name one.0; kind = no_text f.kind (not_true (is_text f.kind) two.0); kept = two.1 }

fit_fields : (fs : List Field) → fields_fit fs ≡ true → All IsField fs
unfolding fields_fit
fit_fields [] h = All-nil IsField
fit_fields (f ∷ fs) h =
    let both = both_true (field_fits f) (fields_fit fs) h in
    All-cons IsField f fs (fit_field f both.0) (fit_fields fs both.1)

shape_fits : Shape → Bool
shape_fits s = bytes_fit s.name && (nat_lt (length s.name) 256 && (fields_fit s.fields && is_shape s.name s.fields))

fit_shape : (s : Shape) → shape_fits s ≡ true → s.element ≡ element_of s.name → IsShape s
unfolding shape_fits
fit_shape s h e =
    let one = both_true (bytes_fit s.name) (nat_lt (length s.name) 256 && (fields_fit s.fields && is_shape s.name s.fields)) h in
    let two = both_true (nat_lt (length s.name) 256) (fields_fit s.fields && is_shape s.name s.fields) one.1 in
    let three = both_true (fields_fit s.fields) (is_shape s.name s.fields) two.1 in
    record {
      name = fit_bytes s.name one.0;
      short = few two.0;
      fields = recursion_from_All IsField s.fields (fit_fields s.fields three.0);
      element = e;
      form = three.1;
    }
  where
    few : nat_lt (length s.name) 256 ≡ true → length s.name < 2 ^ 32
    few test = grind (arith, nat_tests)

shapes_fit : List Shape → Bool
shapes_fit [] = true
shapes_fit (s ∷ ss) = shape_fits s && shapes_fit ss

fit_shapes : (ss : List Shape) → shapes_fit ss ≡ true → map (λ (s : Shape). s.element) ss ≡ map (λ (s : Shape). element_of s.name) ss
    → All IsShape ss
unfolding shapes_fit
fit_shapes [] h e = All-nil IsShape
fit_shapes (s ∷ ss) h e =
    let both = both_true (shape_fits s) (shapes_fit ss) h in
    let elements = map (λ (x : Shape). x.element) ss in
    let others = map (λ (x : Shape). element_of x.name) ss in
    All-cons IsShape s ss (fit_shape s both.0 (cons_head s.element (element_of s.name) elements others e))
    (fit_shapes ss both.1 (cons_tail s.element (element_of s.name) elements others e))

abbrev shape : ClassFacts → Shape
shape c = c.shape

built_ins_fit : shapes_fit (map shape (built_in_classes 0)) ≡ true
unfolding shapes_fit shape_fits fields_fit field_fits bytes_fit is_text is_shape
built_ins_fit = refl

built_in_elements : map (λ (s : Shape). s.element) (map shape (built_in_classes 0)) ≡ map (λ (s : Shape). element_of s.name) (map shape (built_in_classes 0))
built_in_elements = refl

built_in_shapes : (first : ℕ) → All IsShape (map shape (built_in_classes first))
built_in_shapes first = fit_shapes (map shape (built_in_classes 0)) built_ins_fit built_in_elements

each_shape : (classes : List ClassFacts) → All IsShape (map shape classes) → All (λ (c : ClassFacts). IsShape c.shape) classes
each_shape classes h k d l =
    subst IsShape (get_or-map_all shape d classes k) (h k (shape d) (omega (arith, l, length-map classes shape)))

pub class_shapes : (set : Linked) → IsLinked set → All (λ (c : ClassFacts). IsShape c.shape) (named_classes set.files)
class_shapes set h =
    All-append (λ (c : ClassFacts). IsShape c.shape) (map (class_facts set.files) set.files) (built_in_classes (length set.files))
    (program_shapes set.files h.readable h.links.supers.0.0)
    (each_shape (built_in_classes (length set.files)) (built_in_shapes (length set.files)))

-- ---- array types

record IsSpelled (text : List ℕ) : Type 0 where
  good : IsModifiedUtf8 text
  form : is_descriptor text ≡ true

nothing : (o : Option ℕ) → is_none o ≡ true → o ≡ None
nothing None h = refl
nothing (Some n) h = absurd (false≢true h)

has_descriptor : (text : List ℕ) (o : Option Descriptor) → is_some_array (described_array [] text o) ≡ true → is_some o ≡ true
has_descriptor text None h = absurd (false≢true h)
has_descriptor text (Some d) h = refl

spelled_by : (text : List ℕ) (b : Bool) → is_none (bad_place 0 0 text) ≡ b
    → is_some_array (if b then described_array [] text (descriptor_at text) else None) ≡ true → IsSpelled text
spelled_by text true e h = record {
  good = none_is_good text (nothing (bad_place 0 0 text) e);
  form = ap (λ b. b && is_some (descriptor_at text)) e ∙ has_descriptor text (descriptor_at text) h;
}
spelled_by text false e h = absurd (false≢true h)

type_spelled : (text : List ℕ) → is_array_type text ≡ true → IsSpelled text
type_spelled text h = spelled_by text (is_none (bad_place 0 0 text)) refl h

letters : (k : Kind) → IsNumberKind k → kind_of_letter (kind_letter k) ≡ k
letters Z h = refl
letters B h = refl
letters C h = refl
letters S h = refl
letters I h = refl
letters J h = refl
letters L h = absurd h
letters Text h = absurd h

first_letter : (set : SetFacts) (i : Innermost) → IsInnermost set i → component_kind (innermost_descriptor set i) ≡ element_kind 1 i
first_letter set (Numbers k) h = letters k h
first_letter set (Objects n) h = refl
first_letter set (Missing name) h = refl

element_right : (set : SetFacts) (d : ℕ) (i : Innermost) → 0 < d → IsInnermost set i
    → Some (element_kind d i) ≡ element_of (replicate d 91 ++ innermost_descriptor set i)
element_right set zero i p h = absurd (omega (arith, p))
element_right set (suc zero) i p h = ap (λ k. Some k) (sym (first_letter set i h))
element_right set (suc (suc d)) i p h = refl

type_element : (set : SetFacts) (a : ArrayType) → IsArrayType set a → Some (element_kind a.dimensions a.innermost) ≡ element_of a.descriptor
type_element set a is = element_right set a.dimensions a.innermost is.dimensions is.innermost ∙ ap element_of (sym is.descriptor)

array_form : (text : List ℕ) → is_array_type text ≡ true → is_shape text [] ≡ true
unfolding is_shape
array_form text h =
    ap (λ b. if b then is_nil [] && is_descriptor text else (if is_string_name text then is_nil [] else true)) (bracket_name text ∙ bracketed text h)
    ∙ (type_spelled text h).form

pub type_shape : (set : Linked) (text : List ℕ) → is_array_type text ≡ true → IsShort text → IsShape (array_shape (array_type set.files text))
type_shape set text h short =
    let same = sym (type_named set.files text) in
    record {
      name = subst AreBytes same (text_bytes text (type_spelled text h).good);
      short = subst (λ (t : List ℕ). length t < 2 ^ 32) same (omega (arith, short));
      fields = tt;
      element = type_element (facts_of set) (array_type set.files text) (described_type set text h);
      form = subst (λ t. is_shape t [] ≡ true) same (array_form text h);
    }

pub made_shapes : (set : Linked) → IsLinked set
    → All (λ (a : ArrayType). Contains (made_of set) a.descriptor → IsShape (array_shape a)) (facts_of set).arrays
made_shapes set h =
    All-map (λ (a : ArrayType). Contains (made_of set) a.descriptor → IsShape (array_shape a)) (array_type set.files) set.arrays
    (λ k d l c. one (slice_index_or set.arrays k d) (h.arrays k d l) c)
  where
    one : (text : List ℕ) → is_array_type text ≡ true → Contains (made_of set) (array_type set.files text).descriptor
        → IsShape (array_shape (array_type set.files text))
    one text e c =
        type_shape set text e
        (All-contains IsShort (made_of set) text (made_short set.files h.readable) (subst (λ t. Contains (made_of set) t) (type_named set.files text) c))

-- ---- the names of static fields

static_named : (files : List ClassFile) (n : ℕ) (c : ClassFile) → IsSound c → (f : FileField) → AreBytes (static_facts files n c f).name
static_named files n c h f =
    let texts = texts_of_bytes c.pool h.texts in
    both_bytes (name_of c ++ codes ".") (text_at c.pool f.name)
    (both_bytes (name_of c) (codes ".") (class_has AreBytes c.pool tt texts c.this_class) (omega arith, tt)) (text_has AreBytes c.pool tt texts f.name)

abbrev IsNamed : StaticFacts → Type 0
IsNamed s = AreBytes s.name

fields_named : (files : List ClassFile) (n : ℕ) (c : ClassFile) → IsSound c → (fs : List FileField) → All IsNamed (statics_of_fields files n c fs)
fields_named files n c h [] = All-nil IsNamed
fields_named files n c h (f ∷ fs) =
    let s = static_facts files n c f in
    let others = statics_of_fields files n c fs in
    elim (is_static_member f.access) as (λ b. All IsNamed (if b then s ∷ others else others)) [
      | true ↦ All-cons IsNamed s others (static_named files n c h f) (fields_named files n c h fs)
      | false ↦ fields_named files n c h fs
    ]

files_named : (files : List ClassFile) (n : ℕ) (cs : List ClassFile) → All CanBeRead cs → All IsNamed (statics_from files n cs)
files_named files n [] h = All-nil IsNamed
files_named files n (c ∷ cs) h =
    All-append IsNamed (statics_of_fields files n c c.fields) (statics_from files (suc n) cs)
    (fields_named files n c (class_sound c (All-head CanBeRead c cs h)) c.fields) (files_named files (suc n) cs (All-tail CanBeRead c cs h))

pub statics_named : (set : Linked) → IsLinked set → All (λ (s : StaticFacts). AreBytes s.name) (facts_of set).statics
statics_named set h = files_named set.files 0 set.files h.readable
