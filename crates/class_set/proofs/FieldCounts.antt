-- No class has many fields.
use Rattle.std.proofs.Common.{◌≡◌, ◌⊎◌, inl, inr, ℕ, zero, suc, ◌<◌, ◌≤◌, ◌^◌, true, Bool, ◌&&◌, nat_lt, List, [], ◌∷◌, ◌++◌}
use Rattle.std.proofs.Common.{length, map, refl, sym, subst, arith, length-append, slice_index_or}
use Rattle.std.specs.Prelude.{All, Some, None, slice_get}
use Rattle.graph_model.specs.declared.types.Shape.{Shape}
use Rattle.std.proofs.lemmas.Bool.Decides.{nat_tests}
use Rattle.std.proofs.lemmas.List.{length-map, get_or_past}
use Rattle.std.proofs.lemmas.List.Elements.{All-nil, All-cons, All-append, All-map, All-weaker, All-get_or}
use Rattle.class_file.specs.declared.class.ClassFile.{ClassFile}
use Rattle.plain_model.specs.Classes.{ClassFacts, ArrayType, no_class}
use Rattle.plain_model.specs.BuiltIn.{built_in_classes, array_class}
use Rattle.plain_model.specs.Facts.{class_at, classes_of}
use Rattle.class_set.specs.Linked.{Linked}
use Rattle.class_set.specs.Members.{field_facts, layout_field, is_of_instance, layout_of_fields, layout_above, super_number}
use Rattle.class_set.specs.Facts.{class_facts, facts_of}
use Rattle.class_set.specs.Tables.{IsSmall}
use Rattle.class_set.proofs.FieldPlaces.{above_short, few_filtered, both_true}
use Rattle.std.specs.Prelude.{filter}

-- a class with fewer than 2^31 fields
abbrev HasFew : ClassFacts → Type 0
HasFew c = length c.shape.fields < 2 ^ 31

have_few : List ClassFacts → Bool
have_few [] = true
have_few (c ∷ cs) = nat_lt (length c.shape.fields) 65536 && have_few cs

built_ins_have_few : (first : ℕ) → have_few (built_in_classes first) ≡ true
unfolding have_few
built_ins_have_few first = refl

all_have_few : (cs : List ClassFacts) → have_few cs ≡ true → All HasFew cs
unfolding have_few
all_have_few [] h = All-nil HasFew
all_have_few (c ∷ cs) h =
    let both = both_true (nat_lt (length c.shape.fields) 65536) (have_few cs) h in
    let l : nat_lt (length c.shape.fields) 65536 ≡ true = both.0 in
    All-cons HasFew c cs (grind (arith, nat_tests)) (all_have_few cs both.1)

file_has_few : (files : List ClassFile) → All IsSmall files → length files ≤ 4096 → (c : ClassFile) → IsSmall c
    → HasFew (class_facts files c)
file_has_few files small few c own =
    let ms = map (field_facts c.pool) c.fields in
    omega (
      arith,
      length-append (layout_above files (super_number files c)) (layout_of_fields ms),
      above_short files (super_number files c) small few,
      length-map (filter is_of_instance ms) layout_field,
      few_filtered ms,
      length-map c.fields (field_facts c.pool),
      own.fields,
    )

classes_have_few : (set : Linked) → All IsSmall set.files → length set.files ≤ 4096 → All HasFew (classes_of (facts_of set))
classes_have_few set small few =
    All-append HasFew (map (class_facts set.files) set.files ++ built_in_classes (length (facts_of set).program)) (map (array_class (length (facts_of set).program)) (facts_of set).arrays)
    (All-append HasFew (map (class_facts set.files) set.files) (built_in_classes (length (facts_of set).program))
    (All-map HasFew (class_facts set.files) set.files (All-weaker IsSmall (λ (c : ClassFile). HasFew (class_facts set.files c)) (file_has_few set.files small few) set.files small))
    (all_have_few (built_in_classes (length (facts_of set).program)) (built_ins_have_few (length (facts_of set).program))))
    (All-map HasFew (array_class (length (facts_of set).program)) (facts_of set).arrays (arrays_have_few (facts_of set).arrays))
  where
    arrays_have_few : (arrays : List ArrayType) → All (λ (a : ArrayType). HasFew (array_class (length (facts_of set).program) a)) arrays
    arrays_have_few [] = All-nil (λ (a : ArrayType). HasFew (array_class (length (facts_of set).program) a))
    arrays_have_few (a ∷ others) = All-cons (λ (a : ArrayType). HasFew (array_class (length (facts_of set).program) a)) a others (omega arith) (arrays_have_few others)

inside_or_past : (xs : List ClassFacts) (n : ℕ) → (n < length xs) ⊎ (length xs ≤ n)
inside_or_past xs n = elim (nat_lt n (length xs)) as (λ b. nat_lt n (length xs) ≡ b → (n < length xs) ⊎ (length xs ≤ n)) [
  | true ↦ λ e. inl (grind (arith, nat_tests))
  | _ ↦ λ e. inr (grind (arith, nat_tests))
] refl

pub few_fields : (set : Linked) (n : ℕ) → All IsSmall set.files → length set.files ≤ 4096 → length (class_at (facts_of set) n).shape.fields < 2 ^ 31
few_fields set n small few =
    elim (inside_or_past (classes_of (facts_of set)) n) [
      | inl below ↦ All-get_or HasFew (classes_of (facts_of set)) n no_class below (classes_have_few set small few)
      | inr past ↦ subst HasFew (sym (get_or_past (classes_of (facts_of set)) n no_class past)) (omega arith)
    ]

-- the shape that is found by a number is that of the class
pub shape_got : (classes : List ClassFacts) (n : ℕ) (shape : Shape) → slice_get (map (λ (c : ClassFacts). c.shape) classes) n ≡ Some shape
    → shape ≡ (slice_index_or classes n no_class).shape
shape_got [] n shape e = absurd (let none : None ≡ Some shape = e in cc)
shape_got (c ∷ cs) zero shape e = let one : Some c.shape ≡ Some shape = e in cc
shape_got (c ∷ cs) (suc n) shape e = shape_got cs n shape e
