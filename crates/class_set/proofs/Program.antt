-- Each class of the program is one that links.
use Rattle.std.proofs.Common.{◌≡◌, ℕ, Bool, true, false, List, [], ◌∷◌, Option, Some, None, map, filter, slice_index_or, refl}
use Rattle.std.proofs.Common.{arith, ◌==◌, if◌then◌else◌, reverse}
use Rattle.std.specs.Prelude.{All}
use Rattle.std.specs.List.{flat_map}
use Rattle.std.proofs.lemmas.List.Elements.{All-append, All-cons, All-head, All-map, All-nil, All-tail}
use Rattle.ap_base.specs.declared.kind.Kind.{Kind}
use Rattle.ap_base.specs.declared.kind.Kind.TheVariants.{Z, B, C, S, I, J, L}
use Rattle.class_file.specs.declared.class.ClassFile.{ClassFile}
use Rattle.graph_model.specs.declared.types.Field.{Field}
use Rattle.graph_walks.specs.Circles.{HasNoCircle}
use Rattle.plain_model.specs.Consistent.{IsFieldKind, IsProgramClass}
use Rattle.built_in_table.specs.Members.{MemberFacts}
use Rattle.class_links.specs.Names.{known_classes}
use Rattle.class_links.specs.Links.{Links, missing_of, misplaced_of, final_of}
use Rattle.class_set.specs.Linked.{Linked}
use Rattle.class_set.specs.Members.{field_facts, is_of_instance, kind_of, kind_of_letter, layout_above, layout_field}
use Rattle.class_set.specs.Members.{layout_of_fields, layout_of_file, own_fields, own_layout, super_number, superclasses_of}
use Rattle.class_set.specs.Facts.{class_facts, facts_of}
use Rattle.class_set.specs.Lookups.{class_edges}
use Rattle.class_set.proofs.Begins.{begins_with}
use Rattle.class_set.proofs.Circles.{no_class_above_itself}
use Rattle.class_set.proofs.Parents.{has_interfaces, has_super, none_with}
use Rattle.class_set.proofs.Supertypes.{program_counted}

-- ---- kinds

chosen : (b : Bool) (x y : Kind) → IsFieldKind x → IsFieldKind y → IsFieldKind (if b then x else y)
chosen true x y p q = p
chosen false x y p q = q

letter_kind : (b : ℕ) → IsFieldKind (kind_of_letter b)
letter_kind b =
    chosen (b == 90) Z _ tt (chosen (b == 66) B _ tt (chosen (b == 67) C _ tt (chosen (b == 83) S _ tt (chosen (b == 73) I _ tt
    (chosen (b == 74) J L tt tt)))))

pub field_kind : (descriptor : List ℕ) → IsFieldKind (kind_of descriptor)
field_kind [] = tt
field_kind (b ∷ bs) = letter_kind b

abbrev HasFieldKind : Field → Type 0
HasFieldKind f = IsFieldKind f.kind

all_members : (fields : List MemberFacts) → All (λ m. HasFieldKind (layout_field m)) fields
all_members fields k d l = field_kind (slice_index_or fields k d).descriptor

fields_kinds : (fields : List MemberFacts) → All HasFieldKind (layout_of_fields fields)
fields_kinds fields = All-map HasFieldKind layout_field (filter is_of_instance fields) (all_members (filter is_of_instance fields))

layers_kinds : (files : List ClassFile) (ns : List ℕ) → All HasFieldKind (flat_map (own_layout files) ns)
layers_kinds files [] = All-nil HasFieldKind
layers_kinds files (n ∷ ns) = All-append HasFieldKind (own_layout files n) (flat_map (own_layout files) ns) (fields_kinds (own_fields files n)) (layers_kinds files ns)

above_kinds : (files : List ClassFile) (o : Option ℕ) → All HasFieldKind (layout_above files o)
above_kinds files None = All-nil HasFieldKind
above_kinds files (Some s) = layers_kinds files (reverse (superclasses_of files s))

file_kinds : (files : List ClassFile) (c : ClassFile) → All HasFieldKind (layout_of_file files c)
file_kinds files c =
    All-append HasFieldKind (layout_above files (super_number files c)) (layout_of_fields (map (field_facts c.pool) c.fields))
    (above_kinds files (super_number files c)) (fields_kinds (map (field_facts c.pool) c.fields))

-- ---- classes

pub program_class : (set : Linked) (c : ClassFile) → HasNoCircle (class_edges set.files)
    → missing_of (known_classes set.files) c ≡ None → misplaced_of (known_classes set.files) c ≡ None → final_of (known_classes set.files) c ≡ None
    → IsProgramClass (facts_of set) (class_facts set.files c)
program_class set c none no_missing no_misplaced no_final =
    let s = has_super set c no_missing no_misplaced no_final in
    let size = program_counted set.files set.files in
    record {
      super = (
        s.at,
        s.number,
        record {
          there = omega (arith, s.there, size);
          is_class = s.is_class;
          not_final = s.not_final;
          fields = begins_with set c s.at none s.number s.there;
        },
      );
      interfaces = λ k d l. (let h = has_interfaces set c no_missing no_misplaced k d l in (omega (arith, h.0, size), h.1));
      no_elements = refl;
      kinds = file_kinds set.files c;
    }

all_classes : (set : Linked) (files : List ClassFile) → HasNoCircle (class_edges set.files)
    → All (λ c. missing_of (known_classes set.files) c ≡ None) files → All (λ c. misplaced_of (known_classes set.files) c ≡ None) files
    → All (λ c. final_of (known_classes set.files) c ≡ None) files → All (IsProgramClass (facts_of set)) (map (class_facts set.files) files)
all_classes set [] none no_missing no_misplaced no_final = All-nil (IsProgramClass (facts_of set))
all_classes set (c ∷ cs) none no_missing no_misplaced no_final =
    All-cons (IsProgramClass (facts_of set)) (class_facts set.files c) (map (class_facts set.files) cs)
    (program_class set c none (All-head (λ d. missing_of (known_classes set.files) d ≡ None) c cs no_missing)
    (All-head (λ d. misplaced_of (known_classes set.files) d ≡ None) c cs no_misplaced)
    (All-head (λ d. final_of (known_classes set.files) d ≡ None) c cs no_final))
    (all_classes set cs none (All-tail (λ d. missing_of (known_classes set.files) d ≡ None) c cs no_missing)
    (All-tail (λ d. misplaced_of (known_classes set.files) d ≡ None) c cs no_misplaced)
    (All-tail (λ d. final_of (known_classes set.files) d ≡ None) c cs no_final))

pub program_classes : (set : Linked) → Links set.files → All (IsProgramClass (facts_of set)) (map (class_facts set.files) set.files)
program_classes set links =
    let known = known_classes set.files in
    all_classes set set.files (no_class_above_itself set.files links.no_circle) (none_with (missing_of known) set.files links.supers.0.1)
    (none_with (misplaced_of known) set.files links.supers.1) (none_with (final_of known) set.files links.supers.2)
