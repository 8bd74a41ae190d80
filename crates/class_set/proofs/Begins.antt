-- The layouts of the built-in classes, and that a class begins with the fields of its superclass.
use Rattle.std.proofs.Common.{◌≡◌, ℕ, zero, suc, ◌+◌, ◌-◌, ◌<◌, List, [], ◌∷◌, ◌++◌, Option, Some, None, map, length, take}
use Rattle.std.proofs.Common.{slice_index_or, refl, ap, sym, ◌∙◌, arith, inl, inr}
use Rattle.std.proofs.lemmas.Bool.{cases_lt}
use Rattle.std.proofs.lemmas.List.{get_or-map, get_or_append_left, get_or_default, length-map}
use Rattle.std.proofs.Math.Seq.{take-append_seam}
use Rattle.std.proofs.lemmas.Option.{slice_get_past, slice_get_read}
use Rattle.class_file.specs.declared.class.ClassFile.{ClassFile}
use Rattle.graph_model.specs.declared.types.Shape.{Shape}
use Rattle.graph_walks.specs.Circles.{HasNoCircle}
use Rattle.plain_model.specs.Classes.{ClassFacts, no_class}
use Rattle.plain_model.specs.BuiltIn.{built_in_classes, array_class}
use Rattle.plain_model.specs.Facts.{class_at}
use Rattle.built_in_table.specs.Members.{MemberFacts, built_in_at, built_in_members, built_in_supers}
use Rattle.class_set.specs.Linked.{Linked}
use Rattle.class_set.specs.Members.{field_facts, layout_above, layout_of, layout_of_fields, layout_of_file, own_layout}
use Rattle.class_set.specs.Members.{super_number, supers_of}
use Rattle.class_set.specs.ArrayTypes.{array_type}
use Rattle.class_set.specs.Facts.{class_facts, facts_of, named_classes}
use Rattle.class_set.specs.Lookups.{class_edges}
use Rattle.class_set.proofs.Above.{get_or-map_all}
use Rattle.class_set.proofs.Layering.{layout_step}
use Rattle.class_set.proofs.Supertypes.{classes_listed}
use Rattle.class_set.proofs.Parents.{named_counted}

get_or_behind : {X : Type 0} (xs ys : List X) (k : ℕ) (d : X) → slice_index_or (xs ++ ys) (length xs + k) d ≡ slice_index_or ys k d
get_or_behind [] ys k d = ap (λ n. slice_index_or ys n d) (omega arith)
get_or_behind (x ∷ xs) ys k d = ap (λ n. slice_index_or (x ∷ xs ++ ys) n d) (suc_first (length xs) k) ∙ get_or_behind xs ys k d
  where
    suc_first : (n k : ℕ) → suc n + k ≡ suc (n + k)
    suc_first n k = omega arith

module _ (files : List ClassFile) (none : HasNoCircle (class_edges files)) where
  first : ℕ
  first = length files

  super_behind : (k : ℕ) → slice_index_or (supers_of files) (length files + k) None ≡ slice_index_or (built_in_supers (length files)) k None
  super_behind k =
      ap (λ n. slice_index_or (supers_of files) (n + k) None) (sym (length-map files (super_number files)))
      ∙ get_or_behind (map (super_number files) files) (built_in_supers (length files)) k None

  own_behind : (k : ℕ) → own_layout files (length files + k) ≡ layout_of_fields (built_in_at k).fields
  own_behind k =
      ap (λ o. layout_of_fields (elim o [ None ↦ (built_in_at (length files + k - length files)).fields | Some c ↦ map (field_facts c.pool) c.fields ]))
      (slice_get_past files (length files + k) (omega arith))
      ∙ ap (λ j. layout_of_fields (built_in_at j).fields) (omega arith)

  step : (k : ℕ) → k < 28 → layout_of files (length files + k)
      ≡ layout_above files (slice_index_or (built_in_supers (length files)) k None) ++ layout_of_fields (built_in_at k).fields
  step k l =
      layout_step files (length files + k) none (omega (arith, l))
      ∙ ap (λ o. layout_above files o ++ own_layout files (length files + k)) (super_behind k)
      ∙ ap (λ fs. layout_above files (slice_index_or (built_in_supers (length files)) k None) ++ fs) (own_behind k)

  at_18 : layout_of files (length files + 18) ≡ (slice_index_or (built_in_classes 0) 18 no_class).shape.fields
  unfolding built_in_supers built_in_members
  at_18 = step 18 (omega arith)

  at_26 : layout_of files (length files + 26) ≡ (slice_index_or (built_in_classes 0) 26 no_class).shape.fields
  unfolding built_in_supers built_in_members
  at_26 = step 26 (omega arith) ∙ ap (λ fs. fs ++ layout_of_fields (built_in_at 26).fields) at_18

  at_9 : layout_of files (length files + 9) ≡ (slice_index_or (built_in_classes 0) 9 no_class).shape.fields
  unfolding built_in_supers built_in_members
  at_9 = step 9 (omega arith) ∙ ap (λ fs. fs ++ layout_of_fields (built_in_at 9).fields) at_26

  at_20 : layout_of files (length files + 20) ≡ (slice_index_or (built_in_classes 0) 20 no_class).shape.fields
  unfolding built_in_supers built_in_members
  at_20 = step 20 (omega arith) ∙ ap (λ fs. fs ++ layout_of_fields (built_in_at 20).fields) at_9

  at_10 : layout_of files (length files + 10) ≡ (slice_index_or (built_in_classes 0) 10 no_class).shape.fields
  unfolding built_in_supers built_in_members
  at_10 = step 10 (omega arith) ∙ ap (λ fs. fs ++ layout_of_fields (built_in_at 10).fields) at_20

  at_14 : layout_of files (length files + 14) ≡ (slice_index_or (built_in_classes 0) 14 no_class).shape.fields
  unfolding built_in_supers built_in_members
  at_14 = step 14 (omega arith) ∙ ap (λ fs. fs ++ layout_of_fields (built_in_at 14).fields) at_20

  at_0 : layout_of files (length files + 0) ≡ (slice_index_or (built_in_classes 0) 0 no_class).shape.fields
  unfolding built_in_supers built_in_members
  at_0 = step 0 (omega arith) ∙ ap (λ fs. fs ++ layout_of_fields (built_in_at 0).fields) at_18

  at_1 : layout_of files (length files + 1) ≡ (slice_index_or (built_in_classes 0) 1 no_class).shape.fields
  unfolding built_in_supers built_in_members
  at_1 = step 1 (omega arith) ∙ ap (λ fs. fs ++ layout_of_fields (built_in_at 1).fields) at_18

  at_2 : layout_of files (length files + 2) ≡ (slice_index_or (built_in_classes 0) 2 no_class).shape.fields
  unfolding built_in_supers built_in_members
  at_2 = step 2 (omega arith) ∙ ap (λ fs. fs ++ layout_of_fields (built_in_at 2).fields) at_18

  at_3 : layout_of files (length files + 3) ≡ (slice_index_or (built_in_classes 0) 3 no_class).shape.fields
  unfolding built_in_supers built_in_members
  at_3 = step 3 (omega arith) ∙ ap (λ fs. fs ++ layout_of_fields (built_in_at 3).fields) at_20

  at_4 : layout_of files (length files + 4) ≡ (slice_index_or (built_in_classes 0) 4 no_class).shape.fields
  unfolding built_in_supers built_in_members
  at_4 = step 4 (omega arith) ∙ ap (λ fs. fs ++ layout_of_fields (built_in_at 4).fields) at_14

  at_5 : layout_of files (length files + 5) ≡ (slice_index_or (built_in_classes 0) 5 no_class).shape.fields
  unfolding built_in_supers built_in_members
  at_5 = step 5 (omega arith) ∙ ap (λ fs. fs ++ layout_of_fields (built_in_at 5).fields) at_20

  at_6 : layout_of files (length files + 6) ≡ (slice_index_or (built_in_classes 0) 6 no_class).shape.fields
  unfolding built_in_supers built_in_members
  at_6 = step 6 (omega arith) ∙ ap (λ fs. fs ++ layout_of_fields (built_in_at 6).fields) at_20

  at_7 : layout_of files (length files + 7) ≡ (slice_index_or (built_in_classes 0) 7 no_class).shape.fields
  unfolding built_in_supers built_in_members
  at_7 = step 7 (omega arith) ∙ ap (λ fs. fs ++ layout_of_fields (built_in_at 7).fields) at_18

  at_8 : layout_of files (length files + 8) ≡ (slice_index_or (built_in_classes 0) 8 no_class).shape.fields
  unfolding built_in_supers built_in_members
  at_8 = step 8 (omega arith) ∙ ap (λ fs. fs ++ layout_of_fields (built_in_at 8).fields) at_26

  at_11 : layout_of files (length files + 11) ≡ (slice_index_or (built_in_classes 0) 11 no_class).shape.fields
  unfolding built_in_supers built_in_members
  at_11 = step 11 (omega arith) ∙ ap (λ fs. fs ++ layout_of_fields (built_in_at 11).fields) at_20

  at_12 : layout_of files (length files + 12) ≡ (slice_index_or (built_in_classes 0) 12 no_class).shape.fields
  unfolding built_in_supers built_in_members
  at_12 = step 12 (omega arith) ∙ ap (λ fs. fs ++ layout_of_fields (built_in_at 12).fields) at_20

  at_13 : layout_of files (length files + 13) ≡ (slice_index_or (built_in_classes 0) 13 no_class).shape.fields
  unfolding built_in_supers built_in_members
  at_13 = step 13 (omega arith) ∙ ap (λ fs. fs ++ layout_of_fields (built_in_at 13).fields) at_10

  at_15 : layout_of files (length files + 15) ≡ (slice_index_or (built_in_classes 0) 15 no_class).shape.fields
  unfolding built_in_supers built_in_members
  at_15 = step 15 (omega arith) ∙ ap (λ fs. fs ++ layout_of_fields (built_in_at 15).fields) at_9

  at_16 : layout_of files (length files + 16) ≡ (slice_index_or (built_in_classes 0) 16 no_class).shape.fields
  unfolding built_in_supers built_in_members
  at_16 = step 16 (omega arith) ∙ ap (λ fs. fs ++ layout_of_fields (built_in_at 16).fields) at_20

  at_17 : layout_of files (length files + 17) ≡ (slice_index_or (built_in_classes 0) 17 no_class).shape.fields
  unfolding built_in_supers built_in_members
  at_17 = step 17 (omega arith) ∙ ap (λ fs. fs ++ layout_of_fields (built_in_at 17).fields) at_20

  at_19 : layout_of files (length files + 19) ≡ (slice_index_or (built_in_classes 0) 19 no_class).shape.fields
  unfolding built_in_supers built_in_members
  at_19 = step 19 (omega arith) ∙ ap (λ fs. fs ++ layout_of_fields (built_in_at 19).fields) at_18

  at_21 : layout_of files (length files + 21) ≡ (slice_index_or (built_in_classes 0) 21 no_class).shape.fields
  unfolding built_in_supers built_in_members
  at_21 = step 21 (omega arith) ∙ ap (λ fs. fs ++ layout_of_fields (built_in_at 21).fields) at_18

  at_22 : layout_of files (length files + 22) ≡ (slice_index_or (built_in_classes 0) 22 no_class).shape.fields
  unfolding built_in_supers built_in_members
  at_22 = step 22 (omega arith) ∙ ap (λ fs. fs ++ layout_of_fields (built_in_at 22).fields) at_18

  at_23 : layout_of files (length files + 23) ≡ (slice_index_or (built_in_classes 0) 23 no_class).shape.fields
  unfolding built_in_supers built_in_members
  at_23 = step 23 (omega arith) ∙ ap (λ fs. fs ++ layout_of_fields (built_in_at 23).fields) at_14

  at_24 : layout_of files (length files + 24) ≡ (slice_index_or (built_in_classes 0) 24 no_class).shape.fields
  unfolding built_in_supers built_in_members
  at_24 = step 24 (omega arith) ∙ ap (λ fs. fs ++ layout_of_fields (built_in_at 24).fields) at_18

  at_25 : layout_of files (length files + 25) ≡ (slice_index_or (built_in_classes 0) 25 no_class).shape.fields
  unfolding built_in_supers built_in_members
  at_25 = step 25 (omega arith) ∙ ap (λ fs. fs ++ layout_of_fields (built_in_at 25).fields) at_18

  at_27 : layout_of files (length files + 27) ≡ (slice_index_or (built_in_classes 0) 27 no_class).shape.fields
  unfolding built_in_supers built_in_members
  at_27 = step 27 (omega arith) ∙ ap (λ fs. fs ++ layout_of_fields (built_in_at 27).fields) at_20

  built_in_layout : (k : ℕ) → k < 28 → layout_of files (length files + k) ≡ (slice_index_or (built_in_classes 0) k no_class).shape.fields
  built_in_layout zero l = at_0
  built_in_layout (suc zero) l = at_1
  built_in_layout (suc (suc zero)) l = at_2
  built_in_layout (suc (suc (suc zero))) l = at_3
  built_in_layout (suc (suc (suc (suc zero)))) l = at_4
  built_in_layout (suc (suc (suc (suc (suc zero))))) l = at_5
  built_in_layout (suc (suc (suc (suc (suc (suc zero)))))) l = at_6
  built_in_layout (suc (suc (suc (suc (suc (suc (suc zero))))))) l = at_7
  built_in_layout (suc (suc (suc (suc (suc (suc (suc (suc zero)))))))) l = at_8
  built_in_layout (suc (suc (suc (suc (suc (suc (suc (suc (suc zero))))))))) l = at_9
  built_in_layout (suc (suc (suc (suc (suc (suc (suc (suc (suc (suc zero)))))))))) l = at_10
  built_in_layout (suc (suc (suc (suc (suc (suc (suc (suc (suc (suc (suc zero))))))))))) l = at_11
  built_in_layout (suc (suc (suc (suc (suc (suc (suc (suc (suc (suc (suc (suc zero)))))))))))) l = at_12
  built_in_layout (suc (suc (suc (suc (suc (suc (suc (suc (suc (suc (suc (suc (suc zero))))))))))))) l = at_13
  built_in_layout (suc (suc (suc (suc (suc (suc (suc (suc (suc (suc (suc (suc (suc (suc zero)))))))))))))) l = at_14
  built_in_layout (suc (suc (suc (suc (suc (suc (suc (suc (suc (suc (suc (suc (suc (suc (suc zero))))))))))))))) l = at_15
  built_in_layout (suc (suc (suc (suc (suc (suc (suc (suc (suc (suc (suc (suc (suc (suc (suc (suc zero)))))))))))))))) l = at_16
  built_in_layout (suc (suc (suc (suc (suc (suc (suc (suc (suc (suc (suc (suc (suc (suc (suc (suc (suc zero))))))))))))))))) l = at_17
  built_in_layout (suc (suc (suc (suc (suc (suc (suc (suc (suc (suc (suc (suc (suc (suc (suc (suc (suc (suc zero)))))))))))))))))) l = at_18
  built_in_layout (suc (suc (suc (suc (suc (suc (suc (suc (suc (suc (suc (suc (suc (suc (suc (suc (suc (suc (suc zero))))))))))))))))))) l = at_19
  built_in_layout (suc (suc (suc (suc (suc (suc (suc (suc (suc (suc (suc (suc (suc (suc (suc (suc (suc (suc (suc (suc zero)))))))))))))))))))) l = at_20
  built_in_layout (suc (suc (suc (suc (suc (suc (suc (suc (suc (suc (suc (suc (suc (suc (suc (suc (suc (suc (suc (suc (suc zero))))))))))))))))))))) l = at_21
  built_in_layout (suc (suc (suc (suc (suc (suc (suc (suc (suc (suc (suc (suc (suc (suc (suc (suc (suc (suc (suc (suc (suc (suc zero)))))))))))))))))))))) l = at_22
  built_in_layout (suc (suc (suc (suc (suc (suc (suc (suc (suc (suc (suc (suc (suc (suc (suc (suc (suc (suc (suc (suc (suc (suc (suc zero))))))))))))))))))))))) l = at_23
  built_in_layout (suc (suc (suc (suc (suc (suc (suc (suc (suc (suc (suc (suc (suc (suc (suc (suc (suc (suc (suc (suc (suc (suc (suc (suc zero)))))))))))))))))))))))) l = at_24
  built_in_layout (suc (suc (suc (suc (suc (suc (suc (suc (suc (suc (suc (suc (suc (suc (suc (suc (suc (suc (suc (suc (suc (suc (suc (suc (suc zero))))))))))))))))))))))))) l = at_25
  built_in_layout (suc (suc (suc (suc (suc (suc (suc (suc (suc (suc (suc (suc (suc (suc (suc (suc (suc (suc (suc (suc (suc (suc (suc (suc (suc (suc zero)))))))))))))))))))))))))) l = at_26
  built_in_layout (suc (suc (suc (suc (suc (suc (suc (suc (suc (suc (suc (suc (suc (suc (suc (suc (suc (suc (suc (suc (suc (suc (suc (suc (suc (suc (suc zero))))))))))))))))))))))))))) l = at_27
  built_in_layout (suc (suc
      (suc (suc (suc (suc (suc (suc
      (suc (suc (suc (suc (suc (suc
      (suc (suc (suc (suc (suc (suc (suc (suc (suc (suc (suc (suc (suc (suc more)))))))))))))))))))))))))))) l = absurd
      (omega (arith, l))

-- ---- the fields of each class

abbrev shape : ClassFacts → Shape
shape c = c.shape

same_shapes : (first : ℕ) → map shape (built_in_classes first) ≡ map shape (built_in_classes 0)
same_shapes n = refl

first_file : (files : List ClassFile) → 0 < length files → ClassFile
first_file [] l = absurd (omega (arith, l))
first_file (c ∷ cs) l = c

file_fields : (files : List ClassFile) (n : ℕ) (d : ClassFile) → HasNoCircle (class_edges files) → n < length files
    → layout_of_file files (slice_index_or files n d) ≡ layout_of files n
file_fields files n d none l =
    let c = slice_index_or files n d in
    let super : slice_index_or (supers_of files) n None ≡ super_number files c =
    get_or_append_left (map (super_number files) files) (built_in_supers (length files)) None n (omega (arith, l, length-map files (super_number files)))
    ∙ get_or-map (super_number files) files n d None l in
    let own : own_layout files n ≡ layout_of_fields (map (field_facts c.pool) c.fields) =
    ap (λ (o : Option ClassFile). layout_of_fields (elim o as (λ x. List MemberFacts)
    [ None ↦ (built_in_at (n - length files)).fields | Some file ↦ map (field_facts file.pool) file.fields ]))
    (slice_get_read files (length files) n c refl l (get_or_default files n d c l)) in
    sym (layout_step files n none (omega (arith, l))
    ∙ ap (λ o. layout_above files o ++ own_layout files n) super
    ∙ ap (λ fs. layout_above files (super_number files c) ++ fs) own)

pub class_fields : (set : Linked) (n : ℕ) → HasNoCircle (class_edges set.files) → n < length set.files + 28
    → (class_at (facts_of set) n).shape.fields ≡ layout_of set.files n
class_fields set n none l =
    let files = set.files in
    let program = map (class_facts files) files in
    let named = named_classes files in
    let arrays = map (array_class (length files)) (map (array_type files) set.arrays) in
    let size = length-map files (class_facts files) in
    ap (λ cs. (slice_index_or cs n no_class).shape.fields) (classes_listed set)
    ∙ ap (λ (c : ClassFacts). c.shape.fields) (get_or_append_left named arrays no_class n (omega (arith, l, named_counted files)))
    ∙ elim (cases_lt n (length files)) [
      | inl m ↦ (let d = first_file files (omega (arith, m)) in
          ap (λ (c : ClassFacts). c.shape.fields) (get_or_append_left program (built_in_classes (length files)) no_class n (omega (arith, m, size))
          ∙ get_or-map (class_facts files) files n d no_class m)
          ∙ file_fields files n d none m)
      | inr h ↦ (let k = n - length files in
          let at : n ≡ length program + k = omega (arith, h, size) in
          let at_files : length files + k ≡ n = omega (arith, h) in
          ap (λ m. (slice_index_or (program ++ built_in_classes (length files)) m no_class).shape.fields) at
          ∙ ap (λ (c : ClassFacts). c.shape.fields) (get_or_behind program (built_in_classes (length files)) k no_class)
          ∙ ap (λ (s : Shape). s.fields) (sym (get_or-map_all shape no_class (built_in_classes (length files)) k)
          ∙ ap (λ ss. slice_index_or ss k (shape no_class)) (same_shapes (length files))
          ∙ get_or-map_all shape no_class (built_in_classes 0) k)
          ∙ sym (built_in_layout files none k (omega (arith, l, h)))
          ∙ ap (layout_of files) at_files)
    ]

-- the fields of a class of a file begin with those of its superclass
pub begins_with : (set : Linked) (c : ClassFile) (s : ℕ) → HasNoCircle (class_edges set.files) → super_number set.files c ≡ Some s
    → s < length set.files + 28
    → take (length (class_at (facts_of set) s).shape.fields) (layout_of_file set.files c) ≡ (class_at (facts_of set) s).shape.fields
begins_with set c s none e l =
    let own = layout_of_fields (map (field_facts c.pool) c.fields) in
    let fields = class_fields set s none l in
    ap (λ fs. take (length fs) (layout_of_file set.files c)) fields
    ∙ ap (λ o. take (length (layout_of set.files s)) (layout_above set.files o ++ own)) e
    ∙ take-append_seam (layout_of set.files s) own
    ∙ sym fields
