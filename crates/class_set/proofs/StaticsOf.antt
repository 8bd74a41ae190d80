-- Each static field is one of a class of the program.
use Rattle.std.proofs.Common.{◌≡◌, ℕ, suc, true, false, List, [], ◌∷◌, ◌++◌, map, length, slice_index_or, refl, ap, sym, ◌∙◌}
use Rattle.std.proofs.Common.{arith, subst, append_assoc, if◌then◌else◌}
use Rattle.std.specs.Prelude.{All}
use Rattle.std.proofs.lemmas.List.{length-append, length_push}
use Rattle.std.proofs.lemmas.List.Elements.{All-append, All-cons, All-head, All-nil, All-tail}
use Rattle.class_file.specs.declared.class.ClassFile.{ClassFile}
use Rattle.class_file.specs.declared.field.Field.{Field as FileField}
use Rattle.class_file.specs.Classes.{CanBeRead}
use Rattle.plain_model.specs.Classes.{no_class}
use Rattle.plain_model.specs.Facts.{StaticFacts, class_at, classes_of}
use Rattle.plain_model.specs.Consistent.{IsStaticOfProgram}
use Rattle.built_in_table.specs.Members.{built_in_names}
use Rattle.class_links.specs.Names.{name_of}
use Rattle.class_set.specs.Linked.{Linked}
use Rattle.class_set.specs.Members.{is_static_member, text_at}
use Rattle.class_set.specs.Facts.{facts_of, static_facts, statics_from, statics_of_fields}
use Rattle.class_set.proofs.Above.{get_or-map_all}
use Rattle.class_set.proofs.Differ.{name, names_listed}
use Rattle.class_set.proofs.FieldsRead.{IsJudged, IsSound, class_sound}
use Rattle.class_set.proofs.FieldSorts.{constant_kind, root_kind}
use Rattle.class_set.proofs.Program.{field_kind}
use Rattle.class_set.proofs.Supertypes.{program_counted}

name_behind : (before cs : List ClassFile) (c : ClassFile) (more others : List (List ℕ)) (d : List ℕ)
    → slice_index_or ((map name_of (before ++ c ∷ cs) ++ more) ++ others) (length before) d ≡ name_of c
name_behind [] cs c more others d = refl
name_behind (b ∷ bs) cs c more others d = name_behind bs cs c more others d

file_called : (set : Linked) (before cs : List ClassFile) (c : ClassFile) → set.files ≡ before ++ c ∷ cs
    → (class_at (facts_of set) (length before)).shape.name ≡ name_of c
file_called set before cs c e =
    sym (get_or-map_all name no_class (classes_of (facts_of set)) (length before))
    ∙ ap (λ ns. slice_index_or ns (length before) (name no_class)) (names_listed set)
    ∙ ap (λ files. slice_index_or ((map name_of files ++ built_in_names) ++ set.arrays) (length before) (name no_class)) e
    ∙ name_behind before cs c built_in_names set.arrays (name no_class)

static_of : (set : Linked) (before cs : List ClassFile) (c : ClassFile) → set.files ≡ before ++ c ∷ cs → IsSound c → (f : FileField)
    → IsJudged c.pool f → IsStaticOfProgram (facts_of set) (static_facts set.files (length before) c f)
static_of set before cs c e sound f h = record {
  class = omega (arith, program_counted set.files set.files, ap length e, length-append before (c ∷ cs));
  name = (
    text_at c.pool f.name,
    append_assoc (name_of c) (46 ∷ []) (text_at c.pool f.name)
        ∙ ap (λ n. n ++ 46 ∷ text_at c.pool f.name) (sym (file_called set before cs c e)),
  );
  kind = field_kind (text_at c.pool f.descriptor);
  constant = constant_kind set.files c.pool f sound.texts h;
  root = root_kind c.pool f sound.texts h;
}

module _ (set : Linked) where
  abbrev IsStatic : StaticFacts → Type 0
  IsStatic s = IsStaticOfProgram (facts_of set) s

  statics_of_class : (before cs : List ClassFile) (c : ClassFile) → set.files ≡ before ++ c ∷ cs → IsSound c → (fs : List FileField)
      → All (IsJudged c.pool) fs → All IsStatic (statics_of_fields set.files (length before) c fs)
  statics_of_class before cs c e sound [] h = All-nil IsStatic
  statics_of_class before cs c e sound (f ∷ fs) h =
      let s = static_facts set.files (length before) c f in
      let others = statics_of_fields set.files (length before) c fs in
      let rest = statics_of_class before cs c e sound fs (All-tail (IsJudged c.pool) f fs h) in
      elim (is_static_member f.access) as (λ b. All IsStatic (if b then s ∷ others else others)) [
        | true ↦ All-cons IsStatic s others (static_of set before cs c e sound f (All-head (IsJudged c.pool) f fs h)) rest
        | false ↦ rest
      ]

  statics_of_files : (before cs : List ClassFile) → set.files ≡ before ++ cs → All CanBeRead cs
      → All IsStatic (statics_from set.files (length before) cs)
  statics_of_files before [] e h = All-nil IsStatic
  statics_of_files before (c ∷ cs) e h =
      let sound = class_sound c (All-head CanBeRead c cs h) in
      let next : length (before ++ c ∷ []) ≡ suc (length before) = omega (arith, length_push before c) in
      All-append IsStatic (statics_of_fields set.files (length before) c c.fields) (statics_from set.files (suc (length before)) cs)
      (statics_of_class before cs c e sound c.fields sound.fields)
      (subst (λ n. All IsStatic (statics_from set.files n cs)) next
      (statics_of_files (before ++ c ∷ []) cs (e ∙ sym (append_assoc before (c ∷ []) cs)) (All-tail CanBeRead c cs h)))

pub statics_of_program : (set : Linked) → All CanBeRead set.files → All (IsStaticOfProgram (facts_of set)) (statics_from set.files 0 set.files)
statics_of_program set h = statics_of_files set [] set.files refl h
