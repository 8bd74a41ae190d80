-- Signatures are found by their texts.
use Rattle.std.proofs.Common.{true, false, ◌≡◌, ℕ, ◌+◌, List, [], ◌∷◌, ◌++◌, Option, Some, None, map, length, refl, ap, sym}
use Rattle.std.proofs.Common.{◌∙◌, if◌then◌else◌}
use Rattle.std.specs.Prelude.{Bool, ◌&&◌, ◌==◌, is_some}
use Rattle.std.specs.Str.{bytes_eq}
use Rattle.std.proofs.lemmas.List.{length-map, map-append}
use Rattle.class_file.specs.declared.class.ClassFile.{ClassFile}
use Rattle.text_table.specs.Texts.{with_text, with_texts}
use Rattle.text_table.specs.Texts.{place_from as text_from}
use Rattle.class_code.specs.Entries.{Signature, is_same, place_from, run_signature, signature_number, signatures_of}
use Rattle.class_code.specs.Entries.{to_string_signature, with_signatures}
use Rattle.class_code.specs.Signatures.{signature_texts, text_of}

both : (a b c : Bool) → ((a && b) && c) ≡ (a && (b && c))
both true b c = refl
both false b c = refl

same_parts : (m n d e : List ℕ) → bytes_eq (text_of (record { name = m; descriptor = d })) (text_of (record { name = n; descriptor = e }))
    ≡ (bytes_eq m n && bytes_eq d e)
same_parts [] [] d e = refl
same_parts [] (b ∷ n) d e = refl
same_parts (a ∷ m) [] d e = refl
same_parts (a ∷ m) (b ∷ n) d e = ap (λ x. (a == b) && x) (same_parts m n d e) ∙ sym (both (a == b) (bytes_eq m n) (bytes_eq d e))

pub same_text : (t s : Signature) → bytes_eq (text_of t) (text_of s) ≡ is_same t s
same_text t s = same_parts t.name s.name t.descriptor s.descriptor

pub placed : (n : ℕ) (ss : List Signature) (s : Signature) → text_from n (map text_of ss) (text_of s) ≡ place_from n ss s
placed n [] s = refl
placed n (t ∷ ts) s =
    ap (λ b. if b then Some n else text_from (n + 1) (map text_of ts) (text_of s)) (same_text t s)
    ∙ ap (λ o. if is_same t s then Some n else o) (placed (n + 1) ts s)

one_more : (b : Bool) (known : List Signature) (s : Signature)
    → map text_of (if b then known else known ++ s ∷ []) ≡ (if b then map text_of known else map text_of known ++ text_of s ∷ [])
one_more true known s = refl
one_more false known s = map-append text_of known (s ∷ [])

pub texts_with : (known ss : List Signature) → map text_of (with_signatures known ss) ≡ with_texts (map text_of known) (map text_of ss)
texts_with known [] = refl
texts_with known (s ∷ ss) =
    texts_with (if is_some (place_from 0 known s) then known else known ++ s ∷ []) ss
    ∙ ap (λ ts. with_texts ts (map text_of ss)) (one_more (is_some (place_from 0 known s)) known s
    ∙ ap (λ o. if is_some o then map text_of known else map text_of known ++ text_of s ∷ []) (sym (placed 0 known s)))

pub texts_append : (texts one other : List (List ℕ)) → with_texts (with_texts texts one) other ≡ with_texts texts (one ++ other)
texts_append texts [] other = refl
texts_append texts (t ∷ ts) other = texts_append (with_text texts t) ts other

pub texts_more : (texts : List (List ℕ)) (one other : List Signature)
    → with_texts (with_texts texts (map text_of one)) (map text_of other) ≡ with_texts texts (map text_of (one ++ other))
texts_more texts one other =
    texts_append texts (map text_of one) (map text_of other) ∙ ap (with_texts texts) (sym (map-append text_of one other))

abbrev or_count : ℕ → Option ℕ → ℕ
or_count count o = elim o [ None ↦ count | Some n ↦ n ]

pub numbered : (files : List ClassFile) (texts : List (List ℕ)) (s : Signature) → texts ≡ signature_texts files
    → or_count (length texts) (text_from 0 texts (text_of s)) ≡ signature_number files s
numbered files texts s e =
    ap (λ ts. or_count (length ts) (text_from 0 ts (text_of s))) e
    ∙ ap (λ n. or_count n (text_from 0 (signature_texts files) (text_of s))) (length-map (signatures_of files) text_of)
    ∙ ap (or_count (length (signatures_of files))) (placed 0 (signatures_of files) s)

pub number_found : (files : List ClassFile) (texts : List (List ℕ)) (s : Signature) (o : Option ℕ) (n : ℕ) → texts ≡ signature_texts files
    → o ≡ text_from 0 texts (text_of s) → o ≡ Some n → n ≡ signature_number files s
number_found files texts s o n e at is = ap (or_count (length texts)) (sym is ∙ at) ∙ numbered files texts s e

pub number_missing : (files : List ClassFile) (texts : List (List ℕ)) (s : Signature) (o : Option ℕ) → texts ≡ signature_texts files
    → o ≡ text_from 0 texts (text_of s) → o ≡ None → length texts ≡ signature_number files s
number_missing files texts s o e at is = ap (or_count (length texts)) (sym is ∙ at) ∙ numbered files texts s e

-- the two that are always there
abbrev pub first_two : List (List ℕ)
first_two = with_text (with_text [] (text_of run_signature)) (text_of to_string_signature)

pub two_texts : first_two ≡ map text_of (run_signature ∷ to_string_signature ∷ [])
two_texts = refl
