-- The words with which literals begin.
use Rattle.std.proofs.Common.{◌≡◌, ℕ, zero, suc, ◌+◌, ◌<◌, true, false, List, [], ◌∷◌, Option, Some, None, length, take}
use Rattle.std.proofs.Common.{slice_index_or, refl, ap, ◌∙◌, arith, if◌then◌else◌}
use Rattle.std.specs.Prelude.{sum_by}
use Rattle.std.specs.List.{fold}
use Rattle.std.specs.Option.{option_map}
use Rattle.std.specs.Str.{bytes_eq}
use Rattle.ap_base.specs.declared.reference.Ref.TheVariants.{Volatile}
use Rattle.const_pool.specs.Pool.{Slots, string_at}
use Rattle.class_file.specs.declared.class.ClassFile.{ClassFile}
use Rattle.text_table.specs.Texts.{place_from, place_of}
use Rattle.class_set.specs.Literals.{index_or_none, indices_from, words_of, words_before, texts_of, literal_place, reference_to}

sum_from : (a : ℕ) (texts : List (List ℕ)) → fold (λ (n : ℕ) (t : List ℕ). n + words_of t) a texts ≡ a + sum_by words_of texts
sum_from a [] = omega arith
sum_from a (t ∷ ts) =
    let one = sum_from (a + words_of t) ts in
    let other = sum_from (0 + words_of t) ts in
    omega (arith, one, other)

sum_first : (n : ℕ) (t : List ℕ) (ts : List (List ℕ)) → (n + words_of t) + sum_by words_of ts ≡ n + sum_by words_of (t ∷ ts)
sum_first n t ts = omega (arith, sum_from (0 + words_of t) ts)

pub indices_at : (n : ℕ) (texts : List (List ℕ)) (k : ℕ) (d : Option ℕ) → k < length texts
    → slice_index_or (indices_from n texts) k d ≡ index_or_none (n + sum_by words_of (take k texts))
indices_at n [] k d l = absurd (omega (arith, l))
indices_at n (t ∷ ts) zero d l = ap index_or_none (omega arith)
indices_at n (t ∷ ts) (suc k) d l =
    indices_at (n + words_of t) ts k d (omega (arith, l)) ∙ ap index_or_none (sum_first n t (take k ts))

pub indices_counted : (n : ℕ) (texts : List (List ℕ)) → length (indices_from n texts) ≡ length texts
indices_counted n [] = refl
indices_counted n (t ∷ ts) = ap (λ k. suc k) (indices_counted (n + words_of t) ts)

pub place_below : (n : ℕ) (texts : List (List ℕ)) (text : List ℕ) (k : ℕ) → place_from n texts text ≡ Some k → k < n + length texts
place_below n [] text k h = absurd (cc)
place_below n (t ∷ ts) text k h =
    elim (bytes_eq t text) as (λ b. (if b then Some n else place_from (n + 1) ts text) ≡ Some k → k < n + length (t ∷ ts)) [
      | true ↦ λ e. (let same : n ≡ k = cc in omega (arith, same))
      | false ↦ λ e. omega (arith, place_below (n + 1) ts text k e)
    ] h

pub index_read : (indices : List (Option ℕ)) (texts : List (List ℕ)) (place : ℕ) (x : Option ℕ) → indices ≡ indices_from 6 texts
    → place < length texts → x ≡ slice_index_or indices place x → x ≡ index_or_none (words_before texts place)
index_read indices texts place x same l at =
    at ∙ ap (λ xs. slice_index_or xs place x) same ∙ indices_at 6 texts place x l

-- the reference of a literal by its text's place
pub literal_found : (files : List ClassFile) (pool : Slots) (i : ℕ) (text : List ℕ) (place : ℕ) (x : Option ℕ)
    → Some text ≡ string_at pool i → Some place ≡ place_of (texts_of files) text
    → x ≡ index_or_none (words_before (texts_of files) place)
    → option_map (λ n. Volatile n) x ≡ reference_to (texts_of files) (literal_place files pool i)
literal_found files pool i text place x t p e =
    ap (option_map (λ n. Volatile n)) e
    ∙ ap (reference_to (texts_of files)) (p ∙ ap (λ (o : Option (List ℕ)). elim o [ None ↦ None | Some found ↦ place_of (texts_of files) found ]) t)
