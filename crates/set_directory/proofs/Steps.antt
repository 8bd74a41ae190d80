-- Names and entries that are added one after another.
use Rattle.std.proofs.Common.{◌≡◌, ◌<◌, ◌+◌, ℕ, Bool, true, false, List, [], ◌∷◌, ◌++◌, length, map, filter, take, get_or, sym}
use Rattle.std.proofs.Common.{◌∙◌, ap, append_assoc, add-one}
use Rattle.std.specs.Option.{option_to_list}
use Rattle.std.proofs.Math.Seq.{take-suc}
use Rattle.std.proofs.lemmas.List.{map-append}
use Rattle.std.proofs.lemmas.Simd.{map-map}
use Rattle.graph_model.specs.declared.types.Root.{Root}
use Rattle.graph_model.specs.declared.types.Shape.{Shape}
use Rattle.image_meaning.specs.Entries.{DirectoryEntry, ShapeEntry, RootEntry}
use Rattle.plain_model.specs.Classes.{ClassFacts}
use Rattle.plain_model.specs.Facts.{classes_of, shapes_of}
use Rattle.text_table.specs.Sorted.{insert_text, sorted_texts}
use Rattle.class_set.specs.Linked.{Linked, names_of}
use Rattle.class_set.specs.Facts.{facts_of}
use Rattle.class_set.proofs.Differ.{names_listed}
use Rattle.directories.proofs.Plans.{taken_more}
use Rattle.set_directory.specs.Written.{shape_called, shapes_called}
use Rattle.set_directory.proofs.Listed.{called_more, kept_more, left_out}
use Rattle.set_directory.proofs.Sorted.{inserted_last}

next_taken : (xs : List (List ℕ)) (x : List ℕ) (i : ℕ) → i < length xs → x ≡ get_or xs i x → take (i + 1) xs ≡ take i xs ++ x ∷ []
next_taken xs x i below is =
    let next : take (i + 1) xs ≡ take i xs ++ get_or xs i x ∷ [] = rw add-one (take-suc xs i x below) in
    next ∙ ap (λ y. take i xs ++ y ∷ []) (sym is)

abbrev shape_name : Shape → List ℕ
shape_name s = s.name

abbrev root_name : Root → List ℕ
root_name r = r.name

-- ---- names

pub name_kept : (p : List ℕ → Bool) (shapes : List Shape) (shape : Shape) (i : ℕ) (old new : List (List ℕ)) → i < length shapes
    → shape ≡ get_or shapes i shape → p shape.name ≡ true → new ≡ insert_text old shape.name
    → old ≡ sorted_texts (filter p (map (λ (s : Shape). s.name) (take i shapes)))
    → new ≡ sorted_texts (filter p (map (λ (s : Shape). s.name) (take (i + 1) shapes)))
name_kept p shapes shape i old new below is has added so_far =
    added ∙ ap (λ ts. insert_text ts shape.name) so_far
    ∙ sym (ap (λ ns. sorted_texts (filter p ns)) (taken_more shape_name shapes shape i below is)
    ∙ kept_more p (map shape_name (take i shapes)) shape.name has)

pub name_left : (p : List ℕ → Bool) (shapes : List Shape) (shape : Shape) (i : ℕ) (old : List (List ℕ)) → i < length shapes
    → shape ≡ get_or shapes i shape → p shape.name ≡ false
    → old ≡ sorted_texts (filter p (map (λ (s : Shape). s.name) (take i shapes)))
    → old ≡ sorted_texts (filter p (map (λ (s : Shape). s.name) (take (i + 1) shapes)))
name_left p shapes shape i old below is none so_far =
    so_far
    ∙ sym (ap (λ ns. sorted_texts (filter p ns)) (taken_more shape_name shapes shape i below is)
    ∙ left_out p (map shape_name (take i shapes)) shape.name none)

pub root_added : (roots : List Root) (root : Root) (i : ℕ) (old new : List (List ℕ)) → i < length roots → root ≡ get_or roots i root
    → new ≡ insert_text old root.name → old ≡ sorted_texts (map (λ (r : Root). r.name) (take i roots))
    → new ≡ sorted_texts (map (λ (r : Root). r.name) (take (i + 1) roots))
root_added roots root i old new below is added so_far =
    added ∙ ap (λ ts. insert_text ts root.name) so_far
    ∙ sym (ap sorted_texts (taken_more root_name roots root i below is) ∙ inserted_last [] (map root_name (take i roots)) root.name)

pub shapes_named : (set : Linked) → map (λ (s : Shape). s.name) (shapes_of (facts_of set)) ≡ names_of set
shapes_named set = map-map shape_name (λ (c : ClassFacts). c.shape) (classes_of (facts_of set)) ∙ names_listed set

-- ---- entries

pub shape_pushed : (set : Linked) (items : List (List ℕ)) (item text : List ℕ) (i : ℕ) (first old new : List DirectoryEntry) → i < length items
    → item ≡ get_or items i item → text ≡ item → old ≡ first ++ map ShapeEntry (shapes_called set (take i items))
    → new ≡ old ++ map ShapeEntry (option_to_list (shape_called set text))
    → new ≡ first ++ map ShapeEntry (shapes_called set (take (i + 1) items))
shape_pushed set items item text i first old new below is same so_far pushed =
    let before = map ShapeEntry (shapes_called set (take i items)) in
    let one = map ShapeEntry (option_to_list (shape_called set item)) in
    pushed ∙ ap (λ t. old ++ map ShapeEntry (option_to_list (shape_called set t))) same
    ∙ ap (λ es. es ++ one) so_far ∙ append_assoc first before one
    ∙ ap (λ es. first ++ es) (sym (ap (λ ns. map ShapeEntry (shapes_called set ns)) (next_taken items item i below is)
    ∙ called_more set (take i items) item))

pub root_pushed : (items : List (List ℕ)) (item : List ℕ) (i : ℕ) (first old new : List DirectoryEntry) → i < length items
    → item ≡ get_or items i item → old ≡ first ++ map RootEntry (take i items) → new ≡ old ++ RootEntry item ∷ []
    → new ≡ first ++ map RootEntry (take (i + 1) items)
root_pushed items item i first old new below is so_far pushed =
    let before = map RootEntry (take i items) in
    pushed ∙ ap (λ es. es ++ RootEntry item ∷ []) so_far ∙ append_assoc first before (RootEntry item ∷ [])
    ∙ ap (λ es. first ++ es) (sym (taken_more RootEntry items item i below is))
