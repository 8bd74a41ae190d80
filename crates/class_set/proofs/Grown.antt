-- A class set after a call that adds an array type, or leaves it as it was.
use Rattle.std.proofs.Common.{◌≡◌, ℕ, false, List, [], ◌∷◌, ◌++◌, map, ap, sym, ◌∙◌, append_assoc, subst, Result, Ok, Err, true}
use Rattle.std.proofs.Common.{if◌then◌else◌}
use Rattle.std.specs.Prelude.{is_some, OnErr, OnOk}
use Rattle.std.proofs.lemmas.List.{map-append}
use Rattle.graph_model.specs.declared.types.Shape.{Shape}
use Rattle.class_file.specs.declared.class.ClassFile.{ClassFile}
use Rattle.plain_model.specs.Classes.{ClassFacts}
use Rattle.plain_model.specs.Facts.{shapes_of}
use Rattle.text_table.specs.Texts.{place_of, with_text}
use Rattle.class_set.specs.declared.types.ArrayType.{ArrayType as KeptArray}
use Rattle.class_set.specs.Linked.{Linked}
use Rattle.class_set.specs.Sets.{IsLinked}
use Rattle.class_set.specs.ArrayTypes.{array_type, is_array_type}
use Rattle.class_set.specs.Facts.{facts_of, named_classes}
use Rattle.class_set.specs.Tables.{array_now, array_shape, linked_of}
use Rattle.class_set.proofs.Added.{IsNamed, array_added, named_push}
use Rattle.class_set.proofs.Consistency.{array_linked}
use Rattle.class_set.proofs.Shaped.{all_shapes}

pub text_more : (names : List (List ℕ)) (text : List ℕ) → is_some (place_of names text) ≡ false → with_text names text ≡ names ++ text ∷ []
text_more names text e = ap (λ b. if b then names else names ++ text ∷ []) e

pub arrays_grown : {A B : Type 0} (r : Result A B) (files : List ClassFile) (names new : List (List ℕ)) (text : List ℕ) (kept more : List KeptArray)
    → IsNamed files names → is_some (place_of names text) ≡ false → map array_now kept ≡ map (array_type files) (linked_of files names).arrays
    → OnOk r (new ≡ with_text names text) → OnErr r (new ≡ names)
    → OnOk r (map array_now more ≡ map array_now kept ++ array_type files text ∷ []) → OnErr r (more ≡ kept)
    → map array_now more ≡ map (array_type files) (linked_of files new).arrays
arrays_grown (Ok x) files names new text kept more named none same added unnamed pushed left =
    let arrays = (linked_of files names).arrays in
    pushed
    ∙ ap (λ xs. xs ++ array_type files text ∷ []) same
    ∙ sym (map-append (array_type files) arrays (text ∷ []))
    ∙ ap (λ (s : Linked). map (array_type files) s.arrays) (sym (named_push files names text named))
    ∙ ap (λ ns. map (array_type files) (linked_of files ns).arrays) (sym (added ∙ text_more names text none))
arrays_grown (Err x) files names new text kept more named none same added unnamed pushed left =
    ap (map array_now) left ∙ same ∙ ap (λ ns. map (array_type files) (linked_of files ns).arrays) (sym unnamed)

pub shapes_grown : {A B : Type 0} (r : Result A B) (files : List ClassFile) (names new : List (List ℕ)) (text : List ℕ) (kept more : List Shape)
    → IsNamed files names → is_some (place_of names text) ≡ false → kept ≡ shapes_of (facts_of (linked_of files names))
    → OnOk r (new ≡ with_text names text) → OnErr r (new ≡ names)
    → OnOk r (more ≡ kept ++ array_shape (array_type files text) ∷ []) → OnErr r (more ≡ kept)
    → more ≡ shapes_of (facts_of (linked_of files new))
shapes_grown (Ok x) files names new text kept more named none same added unnamed pushed left =
    let set = linked_of files names in
    let classes = map (λ (c : ClassFacts). c.shape) (named_classes files) in
    let types = map array_shape (map (array_type files) set.arrays) in
    pushed
    ∙ ap (λ xs. xs ++ array_shape (array_type files text) ∷ []) (same ∙ all_shapes set)
    ∙ append_assoc classes types (array_shape (array_type files text) ∷ [])
    ∙ ap (λ xs. classes ++ xs) (sym (map-append array_shape (map (array_type files) set.arrays) (array_type files text ∷ [])))
    ∙ ap (λ xs. classes ++ map array_shape xs) (sym (map-append (array_type files) set.arrays (text ∷ [])))
    ∙ sym (all_shapes (record { files = files; arrays = set.arrays ++ text ∷ [] }))
    ∙ ap (λ (s : Linked). shapes_of (facts_of s)) (sym (named_push files names text named))
    ∙ ap (λ ns. shapes_of (facts_of (linked_of files ns))) (sym (added ∙ text_more names text none))
shapes_grown (Err x) files names new text kept more named none same added unnamed pushed left =
    left ∙ same ∙ ap (λ ns. shapes_of (facts_of (linked_of files ns))) (sym unnamed)

pub linked_grown : {A B : Type 0} (r : Result A B) (files : List ClassFile) (names new : List (List ℕ)) (text : List ℕ) → IsNamed files names
    → is_array_type text ≡ true → IsLinked (linked_of files names) → OnOk r (new ≡ with_text names text) → OnErr r (new ≡ names)
    → IsLinked (linked_of files new)
linked_grown (Ok x) files names new text named is linked added unnamed =
    subst IsLinked (sym (ap (linked_of files) added ∙ array_added files names text named)) (array_linked (linked_of files names) text linked is)
linked_grown (Err x) files names new text named is linked added unnamed = subst IsLinked (sym (ap (linked_of files) unnamed)) linked
