-- Static fields, one after another.
use Rattle.std.proofs.Common.{◌≡◌, ℕ, suc, ◌+◌, ◌<◌, Bool, true, false, List, [], ◌∷◌, ◌++◌, Option, Some, None, map, length}
use Rattle.std.proofs.Common.{filter, take, drop, slice_index_or, refl, ap, sym, ◌∙◌, arith, if◌then◌else◌}
use Rattle.std.specs.Prelude.{codes, slice_get, sum_by}
use Rattle.std.specs.Option.{option_map}
use Rattle.std.proofs.lemmas.List.Sums.{sum_by_more}
use Rattle.std.proofs.lemmas.List.{drop_more}
use Rattle.ap_base.specs.declared.kind.Kind.{Kind}
use Rattle.class_file.specs.declared.class.ClassFile.{ClassFile}
use Rattle.class_file.specs.declared.field.Field.{Field as FileField}
use Rattle.plain_model.specs.Facts.{Constant, StaticFacts}
use Rattle.built_in_table.specs.Members.{MemberFacts}
use Rattle.class_links.specs.Names.{name_of}
use Rattle.class_set.specs.declared.statics.Static.{Static}
use Rattle.class_set.specs.Members.{count_statics, field_facts, first_static, is_static_member, kind_of, text_at}
use Rattle.class_set.specs.Facts.{constant_of, root_of, roots_from, static_facts, statics_from, statics_of_fields}
use Rattle.class_set.specs.Tables.{constant_now, name_in, static_name, static_now}

abbrev chosen : List ClassFile → ℕ → ClassFile → FileField → List FileField → Bool → List StaticFacts
chosen files n c f fs b = if b then static_facts files n c f ∷ statics_of_fields files n c fs else statics_of_fields files n c fs

at_field : (files : List ClassFile) (n : ℕ) (c : ClassFile) (fs : List FileField) (i : ℕ) (f : FileField) (b : Bool) → i < length fs
    → f ≡ slice_index_or fs i f → is_static_member f.access ≡ b → statics_of_fields files n c (drop i fs) ≡ chosen files n c f (drop (i + 1) fs) b
at_field files n c fs i f b l at e =
    ap (statics_of_fields files n c) (drop_more fs i f l ∙ ap (λ g. g ∷ drop (i + 1) fs) (sym at))
    ∙ ap (chosen files n c f (drop (i + 1) fs)) e

pub static_field : (files : List ClassFile) (n : ℕ) (c : ClassFile) (fs : List FileField) (i : ℕ) (f : FileField) → i < length fs
    → f ≡ slice_index_or fs i f → is_static_member f.access ≡ true
    → statics_of_fields files n c (drop i fs) ≡ static_facts files n c f ∷ statics_of_fields files n c (drop (i + 1) fs)
static_field files n c fs i f l at e = at_field files n c fs i f true l at e

pub other_field : (files : List ClassFile) (n : ℕ) (c : ClassFile) (fs : List FileField) (i : ℕ) (f : FileField) → i < length fs
    → f ≡ slice_index_or fs i f → is_static_member f.access ≡ false
    → statics_of_fields files n c (drop i fs) ≡ statics_of_fields files n c (drop (i + 1) fs)
other_field files n c fs i f l at e = at_field files n c fs i f false l at e

named : (files : List ClassFile) (s : Static) (c : ClassFile) (f : FileField) → slice_get files s.class ≡ Some c → slice_get c.fields s.place ≡ Some f
    → static_name files s ≡ name_of c ++ codes "." ++ text_at c.pool f.name
named files s c f e g =
    ap (λ (o : Option ClassFile). elim o as (λ x. List ℕ) [ None ↦ [] | Some d ↦ name_in d (slice_get d.fields s.place) ]) e
    ∙ ap (name_in c) g

pub static_shown : (files : List ClassFile) (s : Static) (c : ClassFile) (f : FileField) → slice_get files s.class ≡ Some c
    → slice_get c.fields s.place ≡ Some f → s.kind ≡ kind_of (text_at c.pool f.descriptor)
    → option_map constant_now s.constant ≡ constant_of files c.pool f.constant → s.is_root ≡ f.root
    → static_now files s ≡ static_facts files s.class c f
static_shown files s c f e g kind constant root =
    let name = named files s c f e g in
    shown (static_name files s) (name_of c ++ codes "." ++ text_at c.pool f.name) s.kind (kind_of (text_at c.pool f.descriptor))
    (option_map constant_now s.constant) (constant_of files c.pool f.constant) s.is_root f.root s.class name kind constant root
  where
    shown : (a b : List ℕ) (k j : Kind) (p q : Option Constant) (x y : Bool) (n : ℕ) → a ≡ b → k ≡ j → p ≡ q → x ≡ y
        → ◌≡◌ {A = StaticFacts} (record { name = a; class = n; kind = k; constant = p; is_root = x }) (record { name = b; class = n; kind = j; constant = q; is_root = y })
    shown a b k j p q x y n d e f g = rw (d, e, f, g) refl

-- ---- durable roots

pub roots_next : (fs : List StaticFacts) (n i : ℕ) (s : StaticFacts) → i < length fs → s ≡ slice_index_or fs i s
    → roots_from n (drop i fs) ≡ root_of n s ++ roots_from (n + 1) (drop (i + 1) fs)
roots_next fs n i s l at =
    let next : suc n ≡ n + 1 = omega arith in
    ap (roots_from n) (drop_more fs i s l ∙ ap (λ x. x ∷ drop (i + 1) fs) (sym at))
    ∙ ap (λ m. root_of n s ++ roots_from m (drop (i + 1) fs)) next

-- ---- the classes of files, one after another

pub from_next : (files : List ClassFile) (i : ℕ) (c : ClassFile) → i < length files → c ≡ slice_index_or files i c
    → statics_from files i (drop i files) ≡ statics_of_fields files i c c.fields ++ statics_from files (i + 1) (drop (i + 1) files)
from_next files i c l at =
    let next : suc i ≡ i + 1 = omega arith in
    ap (statics_from files i) (drop_more files i c l ∙ ap (λ d. d ∷ drop (i + 1) files) (sym at))
    ∙ ap (λ n. statics_of_fields files i c c.fields ++ statics_from files n (drop (i + 1) files)) next

pub fields_counted : (files : List ClassFile) (n : ℕ) (c : ClassFile) (fs : List FileField)
    → length (statics_of_fields files n c fs) ≡ count_statics (map (field_facts c.pool) fs)
fields_counted files n c [] = refl
fields_counted files n c (f ∷ fs) =
    elim (is_static_member f.access) as (λ b. length (chosen files n c f fs b)
    ≡ length (if b then field_facts c.pool f ∷ filter (λ (m : MemberFacts). m.is_static) (map (field_facts c.pool) fs) else filter (λ (m : MemberFacts). m.is_static) (map (field_facts c.pool) fs)))
    [ true ↦ ap suc (fields_counted files n c fs) | false ↦ fields_counted files n c fs ]

pub first_next : (files : List ClassFile) (i : ℕ) (c : ClassFile) → i < length files → c ≡ slice_index_or files i c
    → first_static files (i + 1) ≡ first_static files i + count_statics (map (field_facts c.pool) c.fields)
first_next files i c l at =
    let g = λ (d : ClassFile). count_statics (map (field_facts d.pool) d.fields) in
    let step : sum_by g (take (i + 1) files) ≡ sum_by g (take i files) + g c = sum_by_more g files i c l ∙ ap (λ x. sum_by g (take i files) + g x) (sym at) in
    omega (arith, step)
