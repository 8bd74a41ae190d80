-- The array types that files need, numbered one after the other.
use Rattle.std.proofs.Common.{◌≡◌, ℕ, zero, suc, replicate, nat_lt, ◌<◌, ◌+◌, Bool, true, false, List, [], ◌∷◌, ◌++◌, Option}
use Rattle.std.proofs.Common.{Some, None, drop, length, slice_index_or, refl, ap, sym, ◌∙◌, if◌then◌else◌}
use Rattle.std.specs.Prelude.{filter}
use Rattle.std.specs.List.{flat_map}
use Rattle.std.specs.Option.{is_none}
use Rattle.std.proofs.lemmas.Bool.{false≢true}
use Rattle.std.proofs.lemmas.List.{drop_more}
use Rattle.const_pool.specs.declared.descriptor.FieldType.{FieldType}
use Rattle.const_pool.specs.declared.descriptor.Descriptor.{Descriptor}
use Rattle.const_pool.specs.declared.descriptor.Descriptor.TheVariants as descriptor
use Rattle.const_pool.specs.Parsing.{descriptor_at}
use Rattle.const_pool.specs.Utf8.{IsModifiedUtf8, bad_place}
use Rattle.const_pool.specs.Descriptor.{element_bytes, field_bytes}
use Rattle.const_pool.proofs.Grammar.{descriptor_takes}
use Rattle.const_pool.proofs.Texts.{good_has_none, none_is_good}
use Rattle.text_table.specs.Sorted.{insert_text, insert_texts}
use Rattle.text_table.specs.Texts.{with_texts}
use Rattle.class_set.specs.ArrayTypes.{begins_with_bracket, is_array_type, is_some_array, described_array, typed_array}
use Rattle.class_set.specs.ArrayTypes.{with_arrays}
use Rattle.class_set.proofs.Numbers.{with_texts-append}

pub of_good_text : (text : List ℕ) → IsModifiedUtf8 text → is_array_type text ≡ is_some_array (described_array [] text (descriptor_at text))
of_good_text text good = rw (good_has_none text good) refl

pub of_bad_text : (text : List ℕ) → (IsModifiedUtf8 text → ⊥) → is_array_type text ≡ false
of_bad_text text bad = none_there (bad_place 0 0 text) (λ e. bad (none_is_good text e))
  where
    none_there : (o : Option ℕ) → (o ≡ None → ⊥) → is_some_array (if is_none o then described_array [] text (descriptor_at text) else None) ≡ false
    none_there None h = absurd (h refl)
    none_there (Some n) h = refl

-- ---- one after the other

filter-append : (test : List ℕ → Bool) (one other : List (List ℕ)) → filter test (one ++ other) ≡ filter test one ++ filter test other
filter-append test [] other = refl
filter-append test (t ∷ ts) other =
    elim (test t) as (λ b. (if b then t ∷ filter test (ts ++ other) else filter test (ts ++ other))
    ≡ (if b then t ∷ filter test ts else filter test ts) ++ filter test other)
    [ true ↦ ap (λ xs. t ∷ xs) (filter-append test ts other) | false ↦ filter-append test ts other ]

insert_texts-append : (texts one other : List (List ℕ)) → insert_texts (insert_texts texts one) other ≡ insert_texts texts (one ++ other)
insert_texts-append texts [] other = refl
insert_texts-append texts (t ∷ ts) other = insert_texts-append (insert_text texts t) ts other

pub with_arrays-append : (names one other : List (List ℕ)) → with_arrays (with_arrays names one) other ≡ with_arrays names (one ++ other)
with_arrays-append names one other =
    insert_texts-append names (filter is_array_type one) (filter is_array_type other)
    ∙ ap (insert_texts names) (sym (filter-append is_array_type one other))

-- what one of a list's items needs first, and then what the others do
pub needed_next : {X : Type 0} (f : X → List (List ℕ)) (xs : List X) (i : ℕ) (x : X) (names : List (List ℕ)) → i < length xs
    → x ≡ slice_index_or xs i x
    → with_arrays (with_arrays names (f x)) (flat_map f (drop (i + 1) xs)) ≡ with_arrays names (flat_map f (drop i xs))
needed_next f xs i x names l at =
    with_arrays-append names (f x) (flat_map f (drop (i + 1) xs))
    ∙ ap (λ ys. with_arrays names (flat_map f ys)) (ap (λ y. y ∷ drop (i + 1) xs) at ∙ sym (drop_more xs i x l))

-- ---- texts that don't begin with a bracket

field_none : (text : List ℕ) (t : FieldType) → begins_with_bracket text ≡ false → text ≡ field_bytes t
    → is_some_array (if nat_lt 0 t.dimensions then Some (typed_array [] text t) else None) ≡ false
field_none text t h e = dimensions t.dimensions h (e ∙ refl)
  where
    dimensions : (n : ℕ) → begins_with_bracket text ≡ false → text ≡ replicate n 91 ++ element_bytes t.element
        → is_some_array (if nat_lt 0 n then Some (typed_array [] text t) else None) ≡ false
    dimensions zero h e = refl
    dimensions (suc n) h e = absurd (false≢true (sym h ∙ ap begins_with_bracket e))

described_none : (text : List ℕ) (o : Option Descriptor) → begins_with_bracket text ≡ false → IsModifiedUtf8 text → descriptor_at text ≡ o
    → is_some_array (described_array [] text o) ≡ false
described_none text None h good e = refl
described_none text (Some (descriptor.Field t)) h good e = field_none text t h (descriptor_takes text (descriptor.Field t) good e).parts
described_none text (Some (descriptor.Method parameters result)) h good e = refl

pub no_bracket : (text : List ℕ) → begins_with_bracket text ≡ false → is_array_type text ≡ false
no_bracket text h = at (bad_place 0 0 text) (λ e. none_is_good text e)
  where
    at : (o : Option ℕ) → (o ≡ None → IsModifiedUtf8 text)
        → is_some_array (if is_none o then described_array [] text (descriptor_at text) else None) ≡ false
    at None good = described_none text (descriptor_at text) h (good refl) refl
    at (Some n) good = refl

pub none_added : (names : List (List ℕ)) (text : List ℕ) → is_array_type text ≡ false → names ≡ with_arrays names (text ∷ [])
none_added names text h = rw h refl

-- ---- strings

pub strings_next : {X : Type 0} (f : X → List (List ℕ)) (xs : List X) (i : ℕ) (x : X) (names : List (List ℕ)) → i < length xs
    → x ≡ slice_index_or xs i x
    → with_texts (with_texts names (f x)) (flat_map f (drop (i + 1) xs)) ≡ with_texts names (flat_map f (drop i xs))
strings_next f xs i x names l at =
    with_texts-append names (f x) (flat_map f (drop (i + 1) xs))
    ∙ ap (λ ys. with_texts names (flat_map f ys)) (ap (λ y. y ∷ drop (i + 1) xs) at ∙ sym (drop_more xs i x l))
