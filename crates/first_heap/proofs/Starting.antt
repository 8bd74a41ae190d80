-- The first heap, made part by part.
use Rattle.std.proofs.Common.{◌≡◌, ℕ, List, [], ◌∷◌, ◌++◌, map, ap, sym, ◌∙◌, append_assoc}
use Rattle.graph_model.specs.declared.types.Graph.{Graph}
use Rattle.graph_model.specs.declared.types.Heap.{Heap}
use Rattle.graph_model.specs.declared.types.Node.{Node}
use Rattle.graph_model.specs.declared.types.Obj.{Obj}
use Rattle.graph_model.specs.declared.types.Root.{Root}
use Rattle.graph_model.specs.declared.types.Shape.{Shape}
use Rattle.graph_model.specs.declared.types.Value.{Value}
use Rattle.plain_model.specs.Facts.{SetFacts, arguments_class, shapes_of, stream_class, string_number}
use Rattle.plain_model.specs.First.{first_heap, first_objects, first_statics, literal_object, node_object, roots_from}
use Rattle.first_heap.specs.Objects.{text_object}

pub object_made : (class number : ℕ) (values others : List Value) (o : Obj)
    → o ≡ record { shape = number; values = others } → number ≡ class → others ≡ values
    → o ≡ record { shape = class; values = values }
object_made class number values others o made same_class same_values =
    made ∙ ap (λ n. record { shape = n; values = others }) same_class
    ∙ ap (λ vs. record { shape = class; values = vs }) same_values

abbrev out : SetFacts → Obj
out set = record { shape = stream_class set; values = [] }

abbrev array : SetFacts → Obj
array set = record { shape = arguments_class set; values = [] }

pub objects_listed : (set : SetFacts) (opening : Graph) (nodes : List Node) (texts : List (List ℕ))
    (one two three all : List Obj) (s a : Obj) (string : ℕ)
    → opening.nodes ≡ nodes → texts ≡ set.literals → one ≡ map (node_object set opening) nodes
    → s ≡ out set → a ≡ array set → string ≡ string_number set
    → two ≡ one ++ s ∷ [] → three ≡ two ++ a ∷ [] → all ≡ three ++ map (text_object string) texts
    → all ≡ first_objects set opening
objects_listed set opening nodes texts one two three all s a string same_nodes literals is_one is_s is_a is_string
    is_two is_three is_all =
    let front = map (node_object set opening) nodes in
    let behind = map (text_object string) texts in
    is_all
    ∙ ap (λ os. os ++ behind)
    (is_three ∙ ap (λ os. os ++ a ∷ []) (is_two ∙ ap (λ os. os ++ s ∷ []) is_one))
    ∙ append_assoc (front ++ s ∷ []) (a ∷ []) behind ∙ append_assoc front (s ∷ []) (a ∷ behind)
    ∙ ap (λ o. front ++ o ∷ a ∷ behind) is_s ∙ ap (λ o. front ++ out set ∷ o ∷ behind) is_a
    ∙ ap (λ n. front ++ out set ∷ array set ∷ map (text_object n) texts) is_string
    ∙ ap (λ ts. front ++ out set ∷ array set ∷ map (text_object (string_number set)) ts) literals
    ∙ ap (λ ns. map (node_object set opening) ns ++ out set ∷ array set ∷ map (literal_object set opening) set.literals)
    (sym same_nodes)

-- a heap of these parts
pub heap_made : (set : SetFacts) (opening : Graph) (heap : Heap) → heap.shapes ≡ shapes_of set
    → heap.objects ≡ first_objects set opening → heap.statics ≡ first_statics set opening
    → heap.roots ≡ roots_from set opening 0 opening.roots → heap ≡ first_heap set opening
unfolding first_heap
heap_made set opening heap shapes objects statics roots =
    ap (λ (x : List Shape). record { shapes = x; objects = heap.objects; statics = heap.statics; roots = heap.roots }) shapes
    ∙ ap (λ (x : List Obj). record { shapes = shapes_of set; objects = x; statics = heap.statics; roots = heap.roots }) objects
    ∙ ap (λ (x : List Value). record { shapes = shapes_of set; objects = first_objects set opening; statics = x; roots = heap.roots })
    statics
    ∙ ap (λ (x : List Root). record { shapes = shapes_of set; objects = first_objects set opening; statics = first_statics set opening; roots = x })
    roots
