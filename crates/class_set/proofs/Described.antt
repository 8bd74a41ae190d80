-- Array types are what their descriptors say.
use Rattle.std.proofs.Common.{◌≡◌, ◌≢◌, ℕ, zero, suc, ◌+◌, ◌<◌, ◌≤◌, Bool, true, false, nat_lt, replicate, List, [], ◌∷◌, ◌++◌}
use Rattle.std.proofs.Common.{Option, Some, None, map, length, take, slice_index_or, refl, ap, sym, ◌∙◌, arith, subst}
use Rattle.std.proofs.Common.{if◌then◌else◌}
use Rattle.std.specs.Prelude.{All}
use Rattle.std.specs.Option.{is_none}
use Rattle.std.specs.Str.{bytes_eq}
use Rattle.std.proofs.lemmas.Bool.{false≢true}
use Rattle.std.proofs.lemmas.Bool.Decides.{nat_tests}
use Rattle.std.proofs.Math.Seq.{take-append_seam}
use Rattle.std.proofs.lemmas.List.{get_or_append_left}
use Rattle.std.proofs.lemmas.List.Elements.{All-cons, All-head, All-map, All-nil, All-tail}
use Rattle.std.proofs.lemmas.Slice.Eq.{bytes_eq-Decides}
use Rattle.const_pool.specs.declared.descriptor.BaseType.{BaseType}
use Rattle.const_pool.specs.declared.descriptor.BaseType.TheVariants as base
use Rattle.const_pool.specs.declared.descriptor.ElementType.{ElementType}
use Rattle.const_pool.specs.declared.descriptor.ElementType.TheVariants as element
use Rattle.const_pool.specs.declared.descriptor.FieldType.{FieldType}
use Rattle.const_pool.specs.declared.descriptor.Descriptor.{Descriptor}
use Rattle.const_pool.specs.declared.descriptor.Descriptor.TheVariants as descriptor
use Rattle.const_pool.specs.Descriptor.{base_byte, element_bytes, field_bytes}
use Rattle.const_pool.specs.Parsing.{descriptor_at}
use Rattle.const_pool.specs.Utf8.{IsModifiedUtf8, bad_place}
use Rattle.const_pool.proofs.Grammar.{descriptor_takes}
use Rattle.const_pool.proofs.Texts.{none_is_good}
use Rattle.plain_model.specs.Classes.{ClassFacts, Numbers, Objects, Missing, no_class}
use Rattle.plain_model.specs.Facts.{class_at, class_count, classes_of}
use Rattle.plain_model.specs.Consistent.{IsArrayType, IsInnermost, innermost_descriptor, kind_letter}
use Rattle.text_table.specs.Texts.{place_from, place_of}
use Rattle.class_set.specs.Linked.{Linked, class_names}
use Rattle.class_set.specs.ArrayTypes.{array_type, described_array, innermost_of, is_array_type, is_some_array, kind_of_base}
use Rattle.class_set.specs.ArrayTypes.{typed_array}
use Rattle.class_set.specs.Facts.{facts_of}
use Rattle.class_set.proofs.Above.{class_names_counted, get_or-map_all}
use Rattle.class_set.proofs.Differ.{name, names_listed, or_no_array}
use Rattle.class_set.proofs.Indices.{place_below}
use Rattle.class_set.proofs.Supertypes.{program_counted}

-- ---- a class by its name

named_place : (n : ℕ) (texts : List (List ℕ)) (t : List ℕ) (k j : ℕ) (d : List ℕ) → place_from n texts t ≡ Some k → k ≡ n + j → slice_index_or texts j d ≡ t
named_place n [] t k j d h e = absurd (cc)
named_place n (u ∷ us) t k j d h e =
    elim (bytes_eq u t) as (λ b. bytes_eq u t ≡ b → (if b then Some n else place_from (n + 1) us t) ≡ Some k → slice_index_or (u ∷ us) j d ≡ t) [
      | true ↦ λ s f. (let same : n ≡ k = cc in let first : j ≡ 0 = omega (arith, same, e) in
          ap (λ i. slice_index_or (u ∷ us) i d) first ∙ (bytes_eq-Decides u t).0 s)
      | false ↦ λ s f. behind j (λ i g. named_place (n + 1) us t k i d f g) f e
    ] refl h
  where
    starts : (n : ℕ) (us : List (List ℕ)) (t : List ℕ) (k : ℕ) → place_from n us t ≡ Some k → n ≤ k
    starts n [] t k h = absurd (cc)
    starts n (u ∷ us) t k h = elim (bytes_eq u t) as (λ b. (if b then Some n else place_from (n + 1) us t) ≡ Some k → n ≤ k) [
      | true ↦ λ f. (let same : n ≡ k = cc in omega (arith, same))
      | false ↦ λ f. omega (arith, starts (n + 1) us t k f)
    ] h

    behind : (j : ℕ) → ((i : ℕ) → k ≡ n + 1 + i → slice_index_or us i d ≡ t) → place_from (n + 1) us t ≡ Some k → k ≡ n + j
        → slice_index_or (u ∷ us) j d ≡ t
    behind zero next f e = absurd (omega (arith, e, starts (n + 1) us t k f))
    behind (suc i) next f e = next i (omega (arith, e))

class_called : (set : Linked) (t : List ℕ) (k : ℕ) → place_of (class_names set.files) t ≡ Some k → (class_at (facts_of set) k).shape.name ≡ t
class_called set t k h =
    let below : k < length (class_names set.files) = omega (arith, place_below 0 (class_names set.files) t k h) in
    sym (get_or-map_all name no_class (classes_of (facts_of set)) k)
    ∙ ap (λ ns. slice_index_or ns k (name no_class)) (names_listed set)
    ∙ get_or_append_left (class_names set.files) set.arrays (name no_class) k below
    ∙ named_place 0 (class_names set.files) t k k (name no_class) h (omega arith)

-- ---- innermost elements

base_letter : (b : BaseType) → base_byte b ≡ kind_letter (kind_of_base b)
base_letter base.Byte = refl
base_letter base.Char = refl
base_letter base.Int = refl
base_letter base.Long = refl
base_letter base.Short = refl
base_letter base.Boolean = refl

class_bytes : (set : Linked) (n : List ℕ) (o : Option ℕ) → place_of (class_names set.files) n ≡ o
    → element_bytes (element.Class n) ≡ innermost_descriptor (facts_of set) (elim o [ None ↦ Missing n | Some k ↦ Objects k ])
class_bytes set n None e = refl
class_bytes set n (Some k) e = ap (λ t. 76 ∷ t ++ 59 ∷ []) (sym (class_called set n k e))

element_spelled : (set : Linked) (t : ElementType) → element_bytes t ≡ innermost_descriptor (facts_of set) (innermost_of set.files t)
element_spelled set (element.Base b) = ap (λ l. l ∷ []) (base_letter b)
element_spelled set (element.Class n) = class_bytes set n (place_of (class_names set.files) n) refl

base_kind : (set : Linked) (b : BaseType) → IsInnermost (facts_of set) (Numbers (kind_of_base b))
base_kind set base.Byte = tt
base_kind set base.Char = tt
base_kind set base.Int = tt
base_kind set base.Long = tt
base_kind set base.Short = tt
base_kind set base.Boolean = tt

pub unplaced : (n : ℕ) (texts : List (List ℕ)) (t : List ℕ) → place_from n texts t ≡ None → All (λ u. u ≢ t) texts
unplaced n [] t h = All-nil (λ u. u ≢ t)
unplaced n (u ∷ us) t h =
    elim (bytes_eq u t) as (λ b. bytes_eq u t ≡ b → (if b then Some n else place_from (n + 1) us t) ≡ None → All (λ v. v ≢ t) (u ∷ us)) [
      | true ↦ λ s f. absurd (cc)
      | false ↦ λ s f. All-cons (λ v. v ≢ t) u us (λ same. false≢true (sym s ∙ (bytes_eq-Decides u t).1 same)) (unplaced (n + 1) us t f)
    ] refl h

from_map : (P : List ℕ → Type 0) (cs : List ClassFacts) (n : ℕ) (ts : List (List ℕ)) → take n (map name cs) ≡ ts → All P ts
    → All (λ (c : ClassFacts). P c.shape.name) (take n cs)
from_map P [] n ts e h = nothing n
  where
    nothing : (n : ℕ) → All (λ (c : ClassFacts). P c.shape.name) (take n [])
    nothing zero = All-nil (λ (c : ClassFacts). P c.shape.name)
    nothing (suc n) = All-nil (λ (c : ClassFacts). P c.shape.name)
from_map P (c ∷ cs) zero ts e h = All-nil (λ (k : ClassFacts). P k.shape.name)
from_map P (c ∷ cs) (suc n) ts e h =
    let both : All P (name c ∷ take n (map name cs)) = subst (All P) (sym e) h in
    All-cons (λ (k : ClassFacts). P k.shape.name) c (take n cs) (All-head P (name c) (take n (map name cs)) both)
    (from_map P cs n (take n (map name cs)) refl (All-tail P (name c) (take n (map name cs)) both))

missing_class : (set : Linked) (t : List ℕ) → place_of (class_names set.files) t ≡ None → IsInnermost (facts_of set) (Missing t)
missing_class set t h =
    let count : class_count (facts_of set) ≡ length (class_names set.files) =
    omega (arith, program_counted set.files set.files, class_names_counted set.files) in
    from_map (λ u. u ≢ t) (classes_of (facts_of set)) (class_count (facts_of set)) (class_names set.files)
    (ap (λ n. take n (map name (classes_of (facts_of set)))) count ∙ ap (take (length (class_names set.files))) (names_listed set)
    ∙ take-append_seam (class_names set.files) set.arrays)
    (unplaced 0 (class_names set.files) t h)

class_innermost : (set : Linked) (t : List ℕ) (o : Option ℕ) → place_of (class_names set.files) t ≡ o
    → IsInnermost (facts_of set) (elim o [ None ↦ Missing t | Some k ↦ Objects k ])
class_innermost set t None e = missing_class set t e
class_innermost set t (Some k) e =
    omega (arith, place_below 0 (class_names set.files) t k e, class_names_counted set.files, program_counted set.files set.files)

element_is : (set : Linked) (t : ElementType) → IsInnermost (facts_of set) (innermost_of set.files t)
element_is set (element.Base b) = base_kind set b
element_is set (element.Class n) = class_innermost set n (place_of (class_names set.files) n) refl

-- ---- array types

typed_is : (set : Linked) (text : List ℕ) (t : FieldType) (b : Bool) → nat_lt 0 t.dimensions ≡ b → text ≡ field_bytes t
    → is_some_array (if b then Some (typed_array [] text t) else None) ≡ true
    → IsArrayType (facts_of set) (or_no_array text (if b then Some (typed_array set.files text t) else None))
typed_is set text t true e parts h = record {
  dimensions = (let test : nat_lt 0 t.dimensions ≡ true = e in grind (arith, nat_tests));
  innermost = element_is set t.element;
  descriptor = parts ∙ ap (λ bytes. replicate t.dimensions 91 ++ bytes) (element_spelled set t.element);
}
typed_is set text t false e parts h = absurd (false≢true h)

described_is : (set : Linked) (text : List ℕ) (o : Option Descriptor) → IsModifiedUtf8 text → descriptor_at text ≡ o
    → is_some_array (described_array [] text o) ≡ true → IsArrayType (facts_of set) (or_no_array text (described_array set.files text o))
described_is set text None good e h = absurd (false≢true h)
described_is set text (Some (descriptor.Method parameters result)) good e h = absurd (false≢true h)
described_is set text (Some (descriptor.Field t)) good e h =
    typed_is set text t (nat_lt 0 t.dimensions) refl (descriptor_takes text (descriptor.Field t) good e).parts h

tested_is : (set : Linked) (text : List ℕ) (b : Bool) → is_none (bad_place 0 0 text) ≡ b
    → is_some_array (if b then described_array [] text (descriptor_at text) else None) ≡ true
    → IsArrayType (facts_of set) (or_no_array text (if b then described_array set.files text (descriptor_at text) else None))
tested_is set text true e h = described_is set text (descriptor_at text) (none_is_good text (nothing (bad_place 0 0 text) e)) refl h
  where
    nothing : (o : Option ℕ) → is_none o ≡ true → o ≡ None
    nothing None h = refl
    nothing (Some n) h = absurd (false≢true h)
tested_is set text false e h = absurd (false≢true h)

pub described_type : (set : Linked) (text : List ℕ) → is_array_type text ≡ true → IsArrayType (facts_of set) (array_type set.files text)
described_type set text h = tested_is set text (is_none (bad_place 0 0 text)) refl h

pub described_types : (set : Linked) (texts : List (List ℕ)) → All (λ t. is_array_type t ≡ true) texts
    → All (IsArrayType (facts_of set)) (map (array_type set.files) texts)
described_types set texts h =
    All-map (IsArrayType (facts_of set)) (array_type set.files) texts (λ k d l. described_type set (slice_index_or texts k d) (h k d l))
