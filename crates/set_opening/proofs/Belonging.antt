-- The shapes of a set's own classes and array types agree with it.
use Rattle.std.proofs.Common.{◌≡◌, ⊎_elim, ◌⊎◌, inl, inr, ℕ, zero, suc, ◌<◌, ◌-◌, true, false, ◌||◌, replicate, List, [], ◌∷◌, ◌++◌}
use Rattle.std.proofs.Common.{Option, Some, map, length, take, slice_index_or, refl, sym, ap, ◌∙◌, subst, arith, if◌then◌else◌}
use Rattle.std.specs.Prelude.{Contains}
use Rattle.std.specs.Str.{bytes_eq}
use Rattle.std.proofs.Math.Seq.{take-append_seam}
use Rattle.std.proofs.lemmas.Bool.{false≢true}
use Rattle.std.proofs.lemmas.List.{get_or_append_left, length-append, map-append}
use Rattle.std.proofs.lemmas.List.Elements.{All-contains, Contains-append_left, Contains-get_or}
use Rattle.std.proofs.lemmas.Slice.Eq.{bytes_eq-Decides}
use Rattle.graph_walks.proofs.Lists.{Contains-cons_cases}
use Rattle.ap_base.specs.declared.kind.Kind.TheVariants.{Z, B, C, S, I, J, L, Text}
use Rattle.graph_model.specs.declared.types.Shape.{Shape}
use Rattle.image_meaning.specs.Entries.{is_array_name}
use Rattle.plain_model.specs.BuiltIn.{array_class, built_in_classes}
use Rattle.plain_model.specs.Classes.{ArrayType, ClassFacts, Innermost, Missing, Numbers, Objects, no_class}
use Rattle.plain_model.specs.Consistent.{IsArrayType, IsInnermost, innermost_descriptor}
use Rattle.plain_model.specs.Facts.{SetFacts, class_at, class_count}
use Rattle.class_links.specs.Names.{has_name, name_of}
use Rattle.class_set.specs.ArrayTypes.{begins_with_bracket}
use Rattle.class_set.specs.Facts.{facts_of}
use Rattle.class_set.specs.Linked.{Linked, class_names}
use Rattle.class_set.specs.Sets.{IsLinked}
use Rattle.class_set.proofs.Consistency.{set_consistent}
use Rattle.class_set.proofs.Differ.{built_ins_named, class_plain, name, program_names}
use Rattle.class_set.proofs.GivenArrays.{contains_map}
use Rattle.class_set.proofs.Kept.{all_small}
use Rattle.directories.specs.ClassSets.{Agrees, AgreesAs, HasInnermost, IsClassShape, IsInSet, IsMadeShape, behind_brackets}
use Rattle.directories.specs.ClassSets.{class_between, class_in, field_of, innermost_class, named_classes}
use Rattle.set_opening.proofs.Agreeing.{found_first}
use Rattle.set_opening.proofs.Classes.{own_shape}

-- ---- a class by its name

class_found : (cs : List ClassFacts) (c : ClassFacts) → Contains cs c → (s : Shape) × (class_in cs c.shape.name ≡ Some s)
class_found [] c (n, below, is) = absurd (omega (arith, below))
class_found (d ∷ cs) c there =
    elim (bytes_eq d.shape.name c.shape.name) as (λ b. bytes_eq d.shape.name c.shape.name ≡ b
    → (s : Shape) × ((if b then Some d.shape else class_in cs c.shape.name) ≡ Some s)) [
      | true ↦ λ same. (d.shape, refl)
      | false ↦ λ other. class_found cs c (⊎_elim
          (λ (first : d ≡ c). absurd (false≢true (sym other ∙ (bytes_eq-Decides d.shape.name c.shape.name).1
          (ap (λ (x : ClassFacts). x.shape.name) first))))
          (λ (later : Contains cs c). later)
          (Contains-cons_cases d cs c there))
    ] refl

named : (names : List (List ℕ)) (t : List ℕ) → Contains names t → has_name names t ≡ true
named [] t (n, below, is) = absurd (omega (arith, below))
named (u ∷ us) t there =
    elim (bytes_eq u t) as (λ b. bytes_eq u t ≡ b → (b || has_name us t) ≡ true) [
      | true ↦ λ same. refl
      | false ↦ λ other. named us t (⊎_elim
          (λ (first : u ≡ t). absurd (false≢true (sym other ∙ (bytes_eq-Decides u t).1 first)))
          (λ (later : Contains us t). later)
          (Contains-cons_cases u us t there))
    ] refl

array_bracket : (t : List ℕ) → is_array_name t ≡ begins_with_bracket t
array_bracket [] = refl
array_bracket (b ∷ bs) = refl

-- ---- the innermost class of a descriptor

behind : (d : ℕ) (rest : List ℕ) → behind_brackets (replicate d 91 ++ rest) ≡ behind_brackets rest
behind zero rest = refl
behind (suc d) rest = behind d rest

bracketed : (d : ℕ) (rest : List ℕ) → 0 < d → is_array_name (replicate d 91 ++ rest) ≡ true
bracketed zero rest some = absurd (omega (arith, some))
bracketed (suc d) rest some = refl

but_last : (t : List ℕ) (b : ℕ) → take (length (t ++ b ∷ []) - 1) (t ++ b ∷ []) ≡ t
but_last t b =
    let long = length-append t (b ∷ []) in
    let short : length (t ++ b ∷ []) - 1 ≡ length t = omega (arith, long) in
    ap (λ n. take n (t ++ b ∷ [])) short ∙ take-append_seam t (b ∷ [])

module _ (set : Linked) (linked : IsLinked set) where
  abbrev facts : SetFacts
  facts = facts_of set

  abbrev arrays : List ClassFacts
  arrays = map (array_class (length facts.program)) facts.arrays

  names_are : map name (named_classes facts) ≡ class_names set.files
  names_are =
      map-append name facts.program (built_in_classes (length facts.program))
      ∙ ap (λ ns. ns ++ map name (built_in_classes (length facts.program))) (program_names set.files set.files)
      ∙ ap (λ ns. map name_of set.files ++ ns) (built_ins_named (length facts.program))

  named_counted : length (named_classes facts) ≡ class_count facts
  named_counted = length-append facts.program (built_in_classes (length facts.program))

  class_here : (n : ℕ) → n < class_count facts → class_at facts n ≡ slice_index_or (named_classes facts) n no_class
  class_here n below = get_or_append_left (named_classes facts) arrays no_class n (omega (arith, below, named_counted))

  class_is_plain : (c : ClassFacts) → Contains (named_classes facts) c → is_array_name c.shape.name ≡ false
  class_is_plain c there =
      array_bracket c.shape.name
      ∙ class_plain set.files c.shape.name (all_small set.files linked.readable)
      (named (class_names set.files) c.shape.name
      (subst (λ ns. Contains ns c.shape.name) names_are (contains_map name (named_classes facts) c there)))

  class_agrees : (c : ClassFacts) → Contains (named_classes facts) c → Agrees facts c.shape
  class_agrees c there =
      let found = class_found (named_classes facts) c there in
      let own = own_shape facts c (set_consistent set linked).names_differ
      (Contains-append_left (named_classes facts) arrays c there) in
      let same : found.0 ≡ c.shape =
      sym (found_first (named_classes facts) arrays c.shape.name found.0 found.1) ∙ sym (own.is own.there) in
      subst (λ b. AgreesAs facts b c.shape) (sym (class_is_plain c there))
      (found.0, found.1, ap (λ (s : Shape). map field_of s.fields) same)

  innermost_there : (i : Innermost) → IsInnermost facts i → IsInSet i
      → HasInnermost facts (class_between (behind_brackets (innermost_descriptor facts i)))
  innermost_there (Numbers Z) is there = tt
  innermost_there (Numbers B) is there = tt
  innermost_there (Numbers C) is there = tt
  innermost_there (Numbers S) is there = tt
  innermost_there (Numbers I) is there = tt
  innermost_there (Numbers J) is there = tt
  innermost_there (Numbers L) is there = absurd is
  innermost_there (Numbers Text) is there = absurd is
  innermost_there (Missing missing) is there = absurd there
  innermost_there (Objects n) is there =
      let c = slice_index_or (named_classes facts) n no_class in
      let count = named_counted in
      let below : n < length (named_classes facts) = omega (arith, is, count) in
      let called : (class_at facts n).shape.name ≡ c.shape.name = ap (λ (x : ClassFacts). x.shape.name) (class_here n is) in
      let found = class_found (named_classes facts) c (Contains-get_or (named_classes facts) n no_class below) in
      subst (λ (o : Option (List ℕ)). HasInnermost facts o)
      (ap (λ (t : List ℕ). Some t) (sym (but_last (class_at facts n).shape.name 59 ∙ called)))
      found

  made_agrees : (a : ArrayType) → Contains facts.arrays a → IsInSet a.innermost
      → Agrees facts (array_class (length facts.program) a).shape
  made_agrees a there inner =
      let is = All-contains (IsArrayType facts) facts.arrays a (set_consistent set linked).arrays there in
      let rest = innermost_descriptor facts a.innermost in
      let array : is_array_name a.descriptor ≡ true =
      ap is_array_name is.descriptor ∙ bracketed a.dimensions rest is.dimensions in
      let same : innermost_class a.descriptor ≡ class_between (behind_brackets rest) =
      ap innermost_class is.descriptor ∙ ap class_between (behind a.dimensions rest) in
      subst (λ b. AgreesAs facts b (array_class (length facts.program) a).shape) (sym array)
      (subst (λ (o : Option (List ℕ)). HasInnermost facts o) (sym same) (innermost_there a.innermost is.innermost inner))

  -- so do the shapes of its entries
  pub entry_agrees : (made : List (List ℕ)) (shape : Shape) → IsClassShape facts shape ⊎ IsMadeShape facts made shape → Agrees facts shape
  entry_agrees made shape (inl (c, there, plain, same)) = subst (Agrees facts) (sym same) (class_agrees c there)
  entry_agrees made shape (inr (a, there, is_made, inner, same)) = subst (Agrees facts) (sym same) (made_agrees a there inner)
