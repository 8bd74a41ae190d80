-- The fields that entries find are there.
use Rattle.std.proofs.Common.{true, false, ◌≡◌, ℕ, suc, ◌-◌, ◌<◌, ◌≤◌, Bool, List, [], ◌∷◌, Option, Some, None, length, get_or}
use Rattle.std.proofs.Common.{refl, ap, sym, ◌∙◌, subst, arith, inl, inr}
use Rattle.std.specs.Prelude.{◌⊎◌, Result, Ok, Err, codes, slice_get, if◌then◌else◌, nat_lt}
use Rattle.std.proofs.lemmas.Bool.Decides.{nat_tests}
use Rattle.std.proofs.lemmas.Option.{slice_get_within}
use Rattle.std.proofs.lemmas.List.{get_or_past, length-map}
use Rattle.std.proofs.lemmas.List.Elements.{All-get_or}
use Rattle.ap_base.specs.declared.kind.Kind.{Kind}
use Rattle.ap_base.specs.declared.kind.Kind.TheVariants.{L}
use Rattle.run_types.specs.declared.fault.LinkKind.{LinkKind}
use Rattle.run_types.specs.declared.fault.LinkKind.TheVariants.{MissingField}
use Rattle.run_types.specs.declared.resolved.FieldAt.{FieldAt}
use Rattle.const_pool.specs.Pool.{Slots}
use Rattle.parsing.specs.Results.{◌>>=◌}
use Rattle.class_file.specs.declared.class.ClassFile.{ClassFile}
use Rattle.graph_walks.specs.Order.{walk}
use Rattle.plain_model.specs.Classes.{ClassFacts, no_class}
use Rattle.plain_model.specs.Consistent.{IsStaticOfProgram}
use Rattle.plain_model.specs.Facts.{StaticFacts, class_at, classes_of}
use Rattle.plain_model.specs.Duties.{IsClass, IsInstanceField, IsStaticField}
use Rattle.plain_model.specs.Duties as duties
use Rattle.built_in_table.specs.Members.{MemberFacts, built_in_at, built_in_members, static}
use Rattle.class_set.specs.Linked.{Linked}
use Rattle.class_set.specs.Members.{own_fields}
use Rattle.class_set.specs.Facts.{class_facts, facts_of}
use Rattle.class_set.specs.FoundFields.{IsFieldFound, IsFoundAs, IsSlot, IsStaticNumber, IsStream}
use Rattle.class_set.specs.Lookups.{class_edges, field_at, find_field, find_member, first_some, is_named, own_field}
use Rattle.class_set.specs.Sets.{IsLinked}
use Rattle.class_set.proofs.BuiltInFields.{own_behind}
use Rattle.class_set.proofs.Consistency.{set_consistent}
use Rattle.class_set.proofs.FieldsFound.{field_found}
use Rattle.class_code.specs.Entries.{MemberName, class_called, field_called, field_name, field_of_entry, found_or}
use Rattle.class_code.proofs.ClassesThere.{built_in_there, program_among}
use Rattle.class_code.proofs.FirstMethods.{element}

-- ---- what a name finds

found_ok : {X : Type 0} (kind : LinkKind) (o : Option X) (x : X) → found_or kind o ≡ Ok x → o ≡ Some x
found_ok kind None x e = let no : ⊥ = cc in absurd no
found_ok kind (Some y) x e = cc

pub field_by_name : (set : Linked) (pool : Slots) (index : ℕ) (f : FieldAt) → field_of_entry set pool index ≡ Ok f
    → (class : ℕ) × (m : MemberName) × (find_field set class m.name m.descriptor ≡ Some f)
field_by_name set pool index f e = named (field_name pool index) e
  where
    class_found : (m : MemberName) (r : Result ℕ LinkKind)
        → (r >>= (λ class. found_or MissingField (find_field set class m.name m.descriptor))) ≡ Ok f
        → (class : ℕ) × (m : MemberName) × (find_field set class m.name m.descriptor ≡ Some f)
    class_found m (Err kind) h = let no : ⊥ = cc in absurd no
    class_found m (Ok class) h = (class, m, found_ok MissingField (find_field set class m.name m.descriptor) f h)

    named : (o : Option MemberName) → (found_or MissingField o >>= field_called set) ≡ Ok f
        → (class : ℕ) × (m : MemberName) × (find_field set class m.name m.descriptor ≡ Some f)
    named None h = let no : ⊥ = cc in absurd no
    named (Some m) h = class_found m (class_called set m.class) h

-- ---- fields

class_of_slot : (set : Linked) (name : List ℕ) (f : FieldAt) → IsSlot (facts_of set) name f → IsClass (facts_of set) f.class
class_of_slot set name f h = one (nat_lt f.class (length (classes_of (facts_of set)))) refl
  where
    one : (b : Bool) → nat_lt f.class (length (classes_of (facts_of set))) ≡ b → IsClass (facts_of set) f.class
    one true e = grind (arith, nat_tests)
    one false e =
        let past : length (classes_of (facts_of set)) ≤ f.class = grind (arith, nat_tests) in
        let none : slice_get no_class.shape.fields f.at ≡ Some (record { name = name; kind = f.kind; kept = true })
        = sym (ap (λ (c : ClassFacts). slice_get c.shape.fields f.at) (get_or_past (classes_of (facts_of set)) f.class no_class past)) ∙ h in
        let no : ⊥ = cc in absurd no

pub instance_there : (set : Linked) (name : List ℕ) (f : FieldAt) → f.is_static ≡ false → IsFieldFound (facts_of set) name f
    → (class_at (facts_of set) f.class).is_interface ≡ false → IsInstanceField (facts_of set) f
instance_there set name f own found class =
    let slot : IsSlot (facts_of set) name f =
    subst (λ b. IsFoundAs b (facts_of set) name f) own found in
    (class_of_slot set name f slot, own, class, (record { name = name; kind = f.kind; kept = true }, slot, refl))

static_of : (set : Linked) (name : List ℕ) (f : FieldAt) → IsLinked set → IsStaticNumber (facts_of set) name f
    → IsClass (facts_of set) f.class × duties.IsStaticOf (facts_of set) f
static_of set name f linked number =
    let k = f.at - 1 in
    let numbered = number.numbered in
    let at : f.at ≡ suc k = omega (arith, numbered) in
    let statics = (facts_of set).statics in
    let of = All-get_or (IsStaticOfProgram (facts_of set)) statics k number.field (slice_get_within statics k number.field number.there)
    (set_consistent set linked).statics in
    let same : get_or statics k number.field ≡ number.field = element statics k number.field number.field number.there in
    let below : number.field.class < length (facts_of set).program
    = subst (λ (x : StaticFacts). x.class < length (facts_of set).program) same of.class in
    let all : length (facts_of set).program ≤ length (classes_of (facts_of set)) = program_among set in
    let there : f.class < length (classes_of (facts_of set)) = omega (arith, below, number.class, all) in
    (there, (k, number.field, at, number.there, number.kind, number.class))

-- ---- `out`, the one field of its class

first_at : {A B : Type 0} (own : A → Option B) (xs : List A) (y : B) → first_some own xs ≡ Some y → (x : A) × (own x ≡ Some y)
first_at own [] y e = let no : ⊥ = cc in absurd no
first_at {A} {B} own (x ∷ xs) y e = one (λ h. first_at own xs y h) (own x) refl e
  where
    one : (first_some own xs ≡ Some y → (z : A) × (own z ≡ Some y)) → (o : Option B) → own x ≡ o
        → (elim o [ None ↦ first_some own xs | Some z ↦ Some z ]) ≡ Some y → (z : A) × (own z ≡ Some y)
    one next None h e = next e
    one next (Some z) h e = (x, h ∙ e)

own_class : (files : List ClassFile) (n : ℕ) (o : Option (ℕ × MemberFacts)) (f : FieldAt) → field_at files n o ≡ Some f → n ≡ f.class
own_class files n None f e = let no : ⊥ = cc in absurd no
own_class files n (Some found) f e = ap (λ o. class_in o) e
  where
    class_in : Option FieldAt → ℕ
    class_in None = n
    class_in (Some g) = g.class

out_fields : (built_in_at 24).fields ≡ static (codes "out") (codes "Ljava/io/PrintStream;") ∷ []
unfolding built_in_members
out_fields = refl

out_kind : (files : List ClassFile) (n : ℕ) (name descriptor : List ℕ) (f : FieldAt)
    → field_at files n (find_member (static (codes "out") (codes "Ljava/io/PrintStream;") ∷ []) name descriptor) ≡ Some f → f.kind ≡ L
out_kind files n name descriptor f e = one (is_named name descriptor (static (codes "out") (codes "Ljava/io/PrintStream;"))) e
  where
    kind_in : Option FieldAt → Kind
    kind_in None = L
    kind_in (Some g) = g.kind

    one : (b : Bool) → field_at files n (if b then Some (0, static (codes "out") (codes "Ljava/io/PrintStream;")) else None) ≡ Some f → f.kind ≡ L
    one false h = let no : ⊥ = cc in absurd no
    one true h = ap kind_in (sym h)

stream_kind : (set : Linked) (class : ℕ) (name descriptor : List ℕ) (f : FieldAt) → find_field set class name descriptor ≡ Some f
    → IsStream (facts_of set) name f → f.kind ≡ L
stream_kind set class name descriptor f e stream =
    let files = set.files in
    let found = first_at (own_field files name descriptor) (walk (class_edges files) class) f e in
    let here = own_class files found.0 (find_member (own_fields files found.0) name descriptor) f found.1 in
    let own : own_field files name descriptor f.class ≡ Some f = ap (own_field files name descriptor) (sym here) ∙ found.1 in
    let program = length-map files (class_facts files) in
    let class = stream.class in
    let at : f.class - length files ≡ 24 = omega (arith, class, program) in
    let past : length files ≤ f.class = omega (arith, class, program) in
    let fields = own_behind files f.class past ∙ ap (λ j. (built_in_at j).fields) at ∙ out_fields in
    out_kind files f.class name descriptor f (ap (λ ms. field_at files f.class (find_member ms name descriptor)) (sym fields) ∙ own)

-- ---- fields of entries

pub static_found : (set : Linked) (pool : Slots) (index : ℕ) (f : FieldAt) → IsLinked set → f.is_static ≡ true
    → field_of_entry set pool index ≡ Ok f → IsStaticField (facts_of set) f
static_found set pool index f linked s e =
    let named = field_by_name set pool index f e in
    let found = field_found set named.0 named.1.name named.1.descriptor f named.2 in
    let either : IsStaticNumber (facts_of set) named.1.name f ⊎ IsStream (facts_of set) named.1.name f
    = subst (λ b. IsFoundAs b (facts_of set) named.1.name f) s found.1 in
    elim either [
      | inl number ↦ (let of = static_of set named.1.name f linked number in (of.0, s, inr of.1))
      | inr stream ↦ (let there = built_in_there set 24 (omega arith) in
          let class = stream.class in
          let program = length-map set.files (class_facts set.files) in (
            omega (arith, there, class, program),
            s,
            inl (stream.number, stream_kind set named.0 named.1.name named.1.descriptor f named.2 stream, stream.class),
          ))
    ]

pub instance_found : (set : Linked) (pool : Slots) (index : ℕ) (f : FieldAt) → f.is_static ≡ false
    → (class_at (facts_of set) f.class).is_interface ≡ false → field_of_entry set pool index ≡ Ok f → IsInstanceField (facts_of set) f
instance_found set pool index f s class e =
    let named = field_by_name set pool index f e in
    instance_there set named.1.name f s (field_found set named.0 named.1.name named.1.descriptor f named.2).1 class
