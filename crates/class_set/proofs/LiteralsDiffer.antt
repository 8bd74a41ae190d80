-- String literals have chars, and no two are the same.
use Rattle.std.proofs.Common.{◌≡◌, ◌≢◌, ℕ, ◌<◌, ◌^◌, true, false, List, [], ◌∷◌, ◌++◌, map, length, slice_index_or, refl, ap}
use Rattle.std.proofs.Common.{sym, ◌∙◌, arith, if◌then◌else◌}
use Rattle.std.specs.Prelude.{All, AllPairs, is_some}
use Rattle.std.specs.List.{flat_map}
use Rattle.std.proofs.lemmas.List.{get_or-map, length-map}
use Rattle.std.proofs.lemmas.List.Elements.{All-append, All-cons, All-head, All-map, All-nil, All-tail}
use Rattle.const_pool.specs.Utf8.{IsModifiedUtf8, units_bytes}
use Rattle.class_file.specs.declared.class.ClassFile.{ClassFile}
use Rattle.class_file.specs.Classes.{CanBeRead}
use Rattle.text_table.specs.Texts.{place_of, with_text, with_texts}
use Rattle.class_set.specs.Literals.{chars_of, literals_of, strings_in, texts_of}
use Rattle.class_set.proofs.Chars.{small_chars, spelled_again}
use Rattle.class_set.proofs.Differ.{new_pairs}
use Rattle.class_set.proofs.FieldsRead.{class_sound}
use Rattle.class_set.proofs.Numbers.{AreNew, new-append, not_placed, place-has}
use Rattle.class_set.proofs.PoolTexts.{strings_good}

-- ---- texts, each once

added_new : (texts : List (List ℕ)) (t : List ℕ) → AreNew [] texts → AreNew [] (with_text texts t)
added_new texts t h =
    elim (is_some (place_of texts t)) as (λ b. is_some (place_of texts t) ≡ b → AreNew [] (if b then texts else texts ++ t ∷ [])) [
      | true ↦ λ e. h
      | false ↦ λ e. new-append [] texts (t ∷ []) h (not_placed texts t (sym (place-has 0 texts t) ∙ e), tt)
    ] refl

all_new : (texts others : List (List ℕ)) → AreNew [] texts → AreNew [] (with_texts texts others)
all_new texts [] h = h
all_new texts (t ∷ ts) h = all_new (with_text texts t) ts (added_new texts t h)

added_all : (P : List ℕ → Type 0) (texts : List (List ℕ)) (t : List ℕ) → All P texts → P t → All P (with_text texts t)
added_all P texts t h p =
    elim (is_some (place_of texts t)) as (λ b. All P (if b then texts else texts ++ t ∷ []))
    [ true ↦ h | false ↦ All-append P texts (t ∷ []) h (All-cons P t [] p (All-nil P)) ]

pub all_added : (P : List ℕ → Type 0) (texts others : List (List ℕ)) → All P texts → All P others → All P (with_texts texts others)
all_added P texts [] h k = h
all_added P texts (t ∷ ts) h k = all_added P (with_text texts t) ts (added_all P texts t h (All-head P t ts k)) (All-tail P t ts k)

-- ---- the literals of files

files_good : (files : List ClassFile) → All CanBeRead files → All IsModifiedUtf8 (flat_map strings_in files)
files_good [] h = All-nil IsModifiedUtf8
files_good (c ∷ cs) h =
    All-append IsModifiedUtf8 (strings_in c) (flat_map strings_in cs)
    (strings_good c.pool (class_sound c (All-head CanBeRead c cs h)).texts) (files_good cs (All-tail CanBeRead c cs h))

texts_good : (files : List ClassFile) → All CanBeRead files → All IsModifiedUtf8 (texts_of files)
texts_good files h = all_added IsModifiedUtf8 [] (flat_map strings_in files) (All-nil IsModifiedUtf8) (files_good files h)

abbrev AreChars : List ℕ → Type 0
AreChars chars = All (λ c. c < 2 ^ 16) chars

all_small : (texts : List (List ℕ)) → All IsModifiedUtf8 texts → All AreChars (map chars_of texts)
all_small texts h = All-map AreChars chars_of texts (λ k d l. small_chars (slice_index_or texts k d) (h k d l))

pub literals_small : (files : List ClassFile) → All CanBeRead files → All (λ (chars : List ℕ). All (λ c. c < 2 ^ 16) chars) (literals_of files)
literals_small files h = all_small (texts_of files) (texts_good files h)

same_text : (t u : List ℕ) → IsModifiedUtf8 t → IsModifiedUtf8 u → chars_of t ≡ chars_of u → t ≡ u
same_text t u p q e = sym (spelled_again t p) ∙ ap units_bytes e ∙ spelled_again u q

pairs_differ : (texts : List (List ℕ)) → AreNew [] texts → All IsModifiedUtf8 texts
    → AllPairs (λ (left right : List ℕ). left ≢ right) (map chars_of texts)
pairs_differ texts new good i j d l m e =
    let m' : j < length texts = omega (arith, m, length-map texts chars_of) in
    let l' : i < length texts = omega (arith, l, m') in
    new_pairs [] texts new i j d l m'
    (same_text (slice_index_or texts i d) (slice_index_or texts j d) (good i d l') (good j d m')
    (sym (get_or-map chars_of texts i d d l') ∙ e ∙ get_or-map chars_of texts j d d m'))

pub literals_apart : (files : List ClassFile) → All CanBeRead files → AllPairs (λ (left right : List ℕ). left ≢ right) (literals_of files)
literals_apart files h = pairs_differ (texts_of files) (all_new [] (flat_map strings_in files) tt) (texts_good files h)
