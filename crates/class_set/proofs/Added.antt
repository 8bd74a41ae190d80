-- A class set with an array type more.
use Rattle.std.proofs.Common.{◌≡◌, ℕ, true, false, List, [], ◌∷◌, ◌++◌, Result, Ok, Err, refl, ap, sym, ◌∙◌, append_assoc}
use Rattle.std.proofs.Common.{if◌then◌else◌}
use Rattle.std.specs.Prelude.{is_some, OnOk, OnErr}
use Rattle.class_file.specs.declared.class.ClassFile.{ClassFile}
use Rattle.text_table.specs.Texts.{place_of, with_text}
use Rattle.class_set.specs.Linked.{class_names, names_of, with_array}
use Rattle.class_set.specs.Tables.{linked_of}
use Rattle.class_set.proofs.Above.{arrays_behind}

abbrev pub IsNamed : List ClassFile → List (List ℕ) → Type 0
IsNamed files names = names ≡ names_of (linked_of files names)

pub named_push : (files : List ClassFile) (names : List (List ℕ)) (text : List ℕ) → IsNamed files names
    → linked_of files (names ++ text ∷ []) ≡ record { files = files; arrays = (linked_of files names).arrays ++ text ∷ [] }
named_push files names text h =
    let arrays = (linked_of files names).arrays in
    ap (λ ds. record { files = files; arrays = ds })
    (arrays_behind files (names ++ text ∷ []) (arrays ++ text ∷ []) (ap (λ ns. ns ++ text ∷ []) h ∙ append_assoc (class_names files) arrays (text ∷ [])))

pub array_added : (files : List ClassFile) (names : List (List ℕ)) (text : List ℕ) → IsNamed files names
    → linked_of files (with_text names text) ≡ with_array (linked_of files names) text
array_added files names text h =
    let set = linked_of files names in
    let same : is_some (place_of (names_of set) text) ≡ is_some (place_of names text) = ap (λ ns. is_some (place_of ns text)) (sym h) in
    elim (is_some (place_of names text)) as (λ b. is_some (place_of (names_of set) text) ≡ b
    → linked_of files (if b then names else names ++ text ∷ []) ≡ with_array set text) [
      | true ↦ λ e. rw e refl
      | false ↦ λ e. rw e (named_push files names text h)
    ] same

named_with : (files : List ClassFile) (names : List (List ℕ)) (text : List ℕ) → IsNamed files names → IsNamed files (with_text names text)
named_with files names text h =
    elim (is_some (place_of names text)) as (λ b. IsNamed files (if b then names else names ++ text ∷ [])) [
      | true ↦ h
      | false ↦ ap (λ ns. ns ++ text ∷ []) h ∙ append_assoc (class_names files) (linked_of files names).arrays (text ∷ [])
          ∙ ap names_of (sym (named_push files names text h))
    ]

pub named_after : {A B : Type 0} (r : Result A B) (files : List ClassFile) (names new : List (List ℕ)) (text : List ℕ) → IsNamed files names
    → OnOk r (new ≡ with_text names text) → OnErr r (new ≡ names) → IsNamed files new
named_after (Ok x) files names new text h added same = rw added (named_with files names text h)
named_after (Err x) files names new text h added same = rw same h

pub on_ok : {A B P Q : Type 0} (r : Result A B) → (P → Q) → OnOk r P → OnOk r Q
on_ok (Ok x) f h = f h
on_ok (Err x) f h = h

pub on_err : {A B P Q : Type 0} (r : Result A B) → (P → Q) → OnErr r P → OnErr r Q
on_err (Ok x) f h = h
on_err (Err x) f h = f h
