-- The words before a literal are those of the objects before it in the plain first heap.
use Rattle.std.proofs.Common.{◌≡◌, ℕ, zero, suc, ◌+◌, pos, List, [], ◌∷◌, ◌++◌, map, drop, take, length, refl, ap, sym, ◌∙◌}
use Rattle.std.proofs.Common.{arith}
use Rattle.std.specs.Prelude.{sum_by}
use Rattle.std.proofs.lemmas.List.{length-map}
use Rattle.std.proofs.lemmas.List.Sums.{sum_by-cons}
use Rattle.graph_model.specs.declared.types.Graph.{Graph}
use Rattle.graph_model.specs.declared.types.Obj.{Obj}
use Rattle.graph_model.specs.declared.types.Value.TheVariants.{Int}
use Rattle.plain_model.specs.Facts.{SetFacts, arguments_class, stream_class}
use Rattle.plain_model.specs.First.{first_objects, literal_object, node_object}
use Rattle.class_set.specs.Linked.{Linked}
use Rattle.class_set.specs.Facts.{facts_of}
use Rattle.class_set.specs.Literals.{chars_of, texts_of, words_before, words_of, words_of_object}

past_front : {X Y : Type 0} (f : X → Y) (xs : List X) (ys : List Y) → drop (length xs) (map f xs ++ ys) ≡ ys
past_front f [] ys = refl
past_front f (x ∷ xs) ys = past_front f xs ys

-- literals take as many words as their objects
literals_summed : (set : SetFacts) (opening : Graph) (texts : List (List ℕ)) (place : ℕ)
    → sum_by words_of_object (take place (map (literal_object set opening) (map chars_of texts))) ≡ sum_by words_of (take place texts)
literals_summed set opening texts zero = refl
literals_summed set opening [] (suc place) = refl
literals_summed set opening (t ∷ ts) (suc place) =
    let objects = take place (map (literal_object set opening) (map chars_of ts)) in
    let first : words_of_object (literal_object set opening (chars_of t)) ≡ words_of t =
    ap (λ n. 3 + n) (length-map (chars_of t) (λ c. Int (pos c))) in
    sum_by-cons words_of_object (literal_object set opening (chars_of t)) objects
    ∙ ap (λ n. n + sum_by words_of_object objects) first
    ∙ ap (λ n. words_of t + n) (literals_summed set opening ts place)
    ∙ sym (sum_by-cons words_of t (take place ts))

pub words_counted : (set : Linked) (opening : Graph) (place : ℕ) → words_before (texts_of set.files) place
    ≡ sum_by words_of_object (take (2 + place) (drop (length opening.nodes) (first_objects (facts_of set) opening)))
words_counted set opening place =
    let facts = facts_of set in
    let texts = texts_of set.files in
    let stream : Obj = record { shape = stream_class facts; values = [] } in
    let arguments : Obj = record { shape = arguments_class facts; values = [] } in
    let literals = map (literal_object facts opening) (map chars_of texts) in
    let behind = stream ∷ arguments ∷ literals in
    let two : 2 + place ≡ suc (suc place) = omega arith in
    let one = sum_by-cons words_of_object stream (arguments ∷ take place literals) in
    let other = sum_by-cons words_of_object arguments (take place literals) in
    let all = literals_summed facts opening texts place in
    let sum : words_before texts place ≡ sum_by words_of_object (stream ∷ arguments ∷ take place literals) = omega (arith, one, other, all) in
    sum
    ∙ ap (λ n. sum_by words_of_object (take n behind)) (sym two)
    ∙ ap (λ os. sum_by words_of_object (take (2 + place) os)) (sym (past_front (node_object facts opening) opening.nodes behind))
