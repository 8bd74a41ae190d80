-- A shape that agrees with a class set is that of the class with its name.
use Rattle.std.proofs.Common.{◌≡◌, ℕ, suc, ◌<◌, Bool, true, false, ◌&&◌, List, [], ◌∷◌, ◌++◌, map, drop, length, Option, Some}
use Rattle.std.proofs.Common.{None, refl, ap, sym, ◌∙◌, arith, nat_eq, slice_index_or, if◌then◌else◌}
use Rattle.std.specs.List.{AllByRecursion}
use Rattle.std.specs.Str.{bytes_eq}
use Rattle.std.proofs.lemmas.Bool.{and_parts, false≢true}
use Rattle.std.proofs.lemmas.Slice.Eq.{bytes_eq-Decides}
use Rattle.ap_base.specs.declared.kind.Kind.{Kind}
use Rattle.graph_model.specs.declared.types.Field.{Field}
use Rattle.graph_model.specs.declared.types.Shape.{Shape}
use Rattle.image_meaning.specs.Entries.{IsField, IsShape, element_of, is_array_name, is_descriptor, is_nil, is_shape}
use Rattle.plain_model.specs.BuiltIn.{array_class}
use Rattle.plain_model.specs.Classes.{ClassFacts, no_class}
use Rattle.plain_model.specs.Facts.{SetFacts, classes_of, class_at}
use Rattle.plain_model.specs.First.{class_named, name_is}
use Rattle.directories.specs.ClassSets.{Agrees, AgreesAs, class_in, field_of, named_classes}
use Rattle.set_opening.specs.Opened.{IsOfClass}

-- the class with this name, if there is one, has a shape that a directory can have
abbrev pub CanBeInDirectory : SetFacts → List ℕ → Type 0
CanBeInDirectory set name = class_named (classes_of set) name < length (classes_of set)
    → IsShape (class_at set (class_named (classes_of set) name)).shape

-- ---- fields

field_with : List ℕ → Kind → Bool → Field
field_with name kind kept = record { name = name; kind = kind; kept = kept }

same_field : (f g : Field) → f.kept ≡ g.kept → field_of f ≡ field_of g → f ≡ g
unfolding field_with
same_field f g kept same =
    ap (λ n. field_with n f.kind f.kept) (ap (λ (p : List ℕ × Kind). p.0) same)
    ∙ ap (λ k. field_with g.name k f.kept) (ap (λ (p : List ℕ × Kind). p.1) same)
    ∙ ap (λ b. field_with g.name g.kind b) kept

same_fields : (fs gs : List Field) → AllByRecursion IsField fs → AllByRecursion IsField gs
    → map field_of fs ≡ map field_of gs → fs ≡ gs
same_fields [] [] all others same = refl
same_fields [] (g ∷ gs) all others same = absurd (let long = ap length same in omega (arith, long))
same_fields (f ∷ fs) [] all others same = absurd (let long = ap length same in omega (arith, long))
same_fields (f ∷ fs) (g ∷ gs) all others same =
    let head : field_of f ≡ field_of g = ap (λ xs. slice_index_or xs 0 (field_of f)) same in
    let tail : map field_of fs ≡ map field_of gs = ap (λ xs. drop 1 xs) same in
    ap (λ x. x ∷ fs) (same_field f g (all.0.kept ∙ sym others.0.kept) head)
    ∙ ap (λ xs. g ∷ xs) (same_fields fs gs all.1 others.1 tail)

no_fields : (fields : List Field) → is_nil fields ≡ true → fields ≡ []
no_fields [] is = refl
no_fields (f ∷ fs) is = absurd (false≢true is)

array_fields : (shape : Shape) → IsShape shape → is_array_name shape.name ≡ true → shape.fields ≡ []
unfolding is_shape
array_fields shape is array =
    let form : (is_nil shape.fields && is_descriptor shape.name) ≡ true = rw array at (is.form) in
    no_fields shape.fields (and_parts (is_nil shape.fields) (is_descriptor shape.name) form).0

-- ---- shapes

shape_with : List ℕ → List Field → Option Kind → Shape
shape_with name fields element = record { name = name; fields = fields; element = element }

same_shape : (a b : Shape) → IsShape a → IsShape b → a.name ≡ b.name → a.fields ≡ b.fields → a ≡ b
unfolding shape_with
same_shape a b is other name fields =
    ap (λ n. shape_with n a.fields a.element) name
    ∙ ap (λ fs. shape_with b.name fs a.element) fields
    ∙ ap (λ e. shape_with b.name b.fields e) (is.element ∙ ap element_of name ∙ sym other.element)

-- ---- the class with a name

same_test : (a b : List ℕ) → name_is a b ≡ bytes_eq a b
same_test [] [] = refl
same_test [] (y ∷ ys) = refl
same_test (x ∷ xs) [] = refl
same_test (x ∷ xs) (y ∷ ys) = ap (λ b. nat_eq x y && b) (same_test xs ys)

abbrev pub class_from : List ClassFacts → List ℕ → ClassFacts
class_from cs name = slice_index_or cs (class_named cs name) no_class

named_so : (cs : List ClassFacts) (name : List ℕ) → class_named cs name < length cs
    → (class_from cs name).shape.name ≡ name
named_so [] name below = absurd (omega (arith, below))
named_so (c ∷ cs) name below =
    elim (name_is c.shape.name name) as (λ b. name_is c.shape.name name ≡ b
    → (if b then 0 else suc (class_named cs name)) < suc (length cs)
    → (slice_index_or (c ∷ cs) (if b then 0 else suc (class_named cs name)) no_class).shape.name ≡ name) [
      | true ↦ λ same lt. told (sym (same_test c.shape.name name) ∙ same)
      | false ↦ λ other lt. named_so cs name (omega (arith, lt))
    ] refl below
  where
    told : bytes_eq c.shape.name name ≡ true → c.shape.name ≡ name
    told is = (bytes_eq-Decides c.shape.name name).0 is

pub found_first : (cs more : List ClassFacts) (name : List ℕ) (class : Shape) → class_in cs name ≡ Some class
    → (class_from (cs ++ more) name).shape ≡ class
found_first [] more name class is = absurd (let no : ◌≡◌ {A = Option Shape} None (Some class) = is in cc)
found_first (c ∷ cs) more name class is =
    at_head (found_first cs more name class) (bytes_eq c.shape.name name) (same_test c.shape.name name) refl
  where
    some_shape : (a : Shape) → ◌≡◌ {A = Option Shape} (Some a) (Some class) → a ≡ class
    some_shape a e = ap (λ (x : Option Shape). elim x [ None ↦ a | Some s ↦ s ]) e

    at_head : (class_in cs name ≡ Some class → (class_from (cs ++ more) name).shape ≡ class) → (b : Bool)
        → name_is c.shape.name name ≡ b → bytes_eq c.shape.name name ≡ b
        → (class_from (c ∷ cs ++ more) name).shape ≡ class
    at_head again true own bytes =
        let here : Some c.shape ≡ Some class = rw bytes at is in rw own (some_shape c.shape here)
    at_head again false own bytes =
        let further : class_in cs name ≡ Some class = rw bytes at is in rw own (again further)

-- ---- a shape that agrees

module _ (set : SetFacts) (shape : Shape) (is : IsShape shape) (agrees : Agrees set shape)
    (can : CanBeInDirectory set shape.name)
    (below : class_named (classes_of set) shape.name < length (classes_of set))
  where
    abbrev own : Shape
    own = (class_at set (class_named (classes_of set) shape.name)).shape

    own_name : own.name ≡ shape.name
    own_name = named_so (classes_of set) shape.name below

    fields_by : (array : Bool) → is_array_name shape.name ≡ array → AgreesAs set array shape
        → shape.fields ≡ own.fields
    fields_by true array so =
        array_fields shape is array ∙ sym (array_fields own (can below) (ap is_array_name own_name ∙ array))
    fields_by false other (class, found, fields) =
        let arrays = map (array_class (length set.program)) set.arrays in
        let first = found_first (named_classes set) arrays shape.name class found in
        same_fields shape.fields own.fields is.fields (can below).fields
        (sym (ap (λ (s : Shape). map field_of s.fields) first ∙ fields))

    of_class : shape ≡ own
    of_class =
        same_shape shape own is (can below) (sym own_name) (fields_by (is_array_name shape.name) refl agrees)

pub agreeing_is_of_class : (set : SetFacts) (shape : Shape) → IsShape shape → Agrees set shape
    → CanBeInDirectory set shape.name → IsOfClass set shape
agreeing_is_of_class set shape is agrees can below = of_class set shape is agrees can below
