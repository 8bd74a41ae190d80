-- What is seen before the first act of a run.
use Rattle.std.proofs.Common.{◌≡◌, ℕ, ◌-◌, ◌≤◌, ◌<◌, ◌^◌, Bool, true, false, List, [], ◌∷◌, ◌++◌}
use Rattle.std.proofs.Common.{map, length, take, replicate, refl, ap, ◌∙◌, arith}
use Rattle.std.proofs.lemmas.List.{length-map, length-append, length-replicate, take_all}
use Rattle.graph_model.specs.declared.types.Graph.{Graph}
use Rattle.graph_model.specs.declared.types.Heap.{Heap}
use Rattle.graph_model.specs.declared.types.Obj.{Obj}
use Rattle.graph_model.specs.Heaps.{IsSound}
use Rattle.plain_model.specs.Facts.{SetFacts, arguments_class, stream_class}
use Rattle.plain_model.specs.First.{first_heap, first_objects, literal_object, node_object}
use Rattle.live_heap.specs.Copies.{IsSoundSeen}
use Rattle.live_laws.specs.Firsts.{first_seen}

-- flags of objects of which the first are durable, as they are made
pub flags_made : (durable objects : ℕ) (first all : List Bool) → durable ≤ objects → first ≡ replicate durable true
    → all ≡ take objects first ++ replicate (objects - length first) false
    → all ≡ replicate durable true ++ replicate (objects - durable) false
flags_made durable objects first all few filled more =
    let counted : length (replicate durable true) ≡ durable = length-replicate durable true in
    let fits : length (replicate durable true) ≤ objects = omega (arith, counted, few) in
    more ∙ ap (λ xs. take objects xs ++ replicate (objects - length xs) false) filled
    ∙ ap (λ xs. xs ++ replicate (objects - length (replicate durable true)) false) (take_all objects (replicate durable true) fits)
    ∙ ap (λ k. replicate durable true ++ replicate (objects - k) false) counted

module _ (set : SetFacts) (opening : Graph) where
  objects_counted : length (first_heap set opening).objects ≡ length (first_objects set opening)
  unfolding first_heap
  objects_counted = refl

  pub nodes_few : length opening.nodes ≤ length (first_heap set opening).objects
  nodes_few =
      let nodes = map (node_object set opening) opening.nodes in
      let others : List Obj = record { shape = stream_class set; values = [] }
      ∷ record { shape = arguments_class set; values = [] } ∷ map (literal_object set opening) set.literals in
      omega (arith, objects_counted, length-append nodes others, length-map opening.nodes (node_object set opening))

  pub first_sound : (heap : Heap) (flags : List Bool) → heap ≡ first_heap set opening → IsSound heap
      → length heap.roots < 2 ^ 32
      → flags ≡ replicate (length opening.nodes) true ++ replicate (length heap.objects - length opening.nodes) false
      → IsSoundSeen (record { heap = heap; durable = flags; acts = 0; stores = 0 })
  first_sound heap flags same sound few filled =
      let nodes = length opening.nodes in
      let rest = length heap.objects - nodes in
      let all : length heap.objects ≡ length (first_heap set opening).objects = ap (λ (h : Heap). length h.objects) same in
      let flagged : length flags ≡ length (replicate nodes true ++ replicate rest false) = ap (λ (fs : List Bool). length fs) filled in
      record {
        sound = sound;
        roots = few;
        flags = omega (
          arith,
          all,
          flagged,
          length-append (replicate nodes true) (replicate rest false),
          length-replicate nodes true,
          length-replicate rest false,
          nodes_few,
        );
        stores = omega arith;
      }

  pub first_is : (heap : Heap) (flags : List Bool) → heap ≡ first_heap set opening
      → flags ≡ replicate (length opening.nodes) true ++ replicate (length heap.objects - length opening.nodes) false
      → record { heap = heap; durable = flags; acts = 0; stores = 0 } ≡ first_seen set opening
  first_is heap flags same filled =
      let nodes = length opening.nodes in
      let all : flags ≡ replicate nodes true ++ replicate (length (first_objects set opening) - nodes) false =
      filled ∙ ap (λ (h : Heap). replicate nodes true ++ replicate (length h.objects - nodes) false) same
      ∙ ap (λ k. replicate nodes true ++ replicate (k - nodes) false) objects_counted in
      ap (λ (h : Heap). record { heap = h; durable = flags; acts = 0; stores = 0 }) same
      ∙ ap (λ (fs : List Bool). record { heap = first_heap set opening; durable = fs; acts = 0; stores = 0 }) all
