-- What is seen follows the plain world, act by act.
use Rattle.std.proofs.Common.{◌≡◌, ℕ, ◌+◌, ◌<◌, ◌≤◌, ◌^◌, true, false, List, [], ◌∷◌, ◌++◌, refl, ap, sym, ◌∙◌, length}
use Rattle.std.proofs.Common.{append_assoc, append-nil, arith, length-append, length-set}
use Rattle.std.proofs.lemmas.Grind.{fold-append}
use Rattle.ap_base.specs.declared.place.Place.TheVariants.{Static, Slot}
use Rattle.graph_model.specs.declared.types.Heap.{Heap}
use Rattle.graph_model.specs.declared.types.Graph.{Graph}
use Rattle.graph_model.specs.Heaps.{fresh_values, shape_at, object_at, with_slot}
use Rattle.run_history.specs.declared.act.Op.{Op}
use Rattle.run_history.specs.declared.act.Op.TheVariants as op
use Rattle.run_history.specs.Recorded.{Recorded}
use Rattle.run_history.specs.Worlds.{heap_after_op, heap_after_op_checked}
use Rattle.run_history.specs.Knowing.{Knowledge, next_known, known_after}
use Rattle.plain_model.specs.Facts.{SetFacts}
use Rattle.plain_model.specs.First.{first_known, first_world}
use Rattle.plain_model.specs.Codes.{Code, is_persistent}
use Rattle.plain_model.specs.Runs.{IsPlainRun, known_of}
use Rattle.plain_model.specs.TypeLaws.{FitsItsHeap}
use Rattle.plain_model.proofs.Appended.{known_after-append}
use Rattle.plain_model.proofs.RunSound.{world_next, world_of_next}
use Rattle.live_heap.specs.Seen.{Seen, seen_after, seen_from}
use Rattle.live_laws.specs.Firsts.{first_seen}

-- ---- no act takes an object away

stay : (heap : Heap) (o : Op) → length heap.objects ≤ length (heap_after_op heap o).objects
stay heap (op.Alloc n shape count) =
    omega (arith, length-append heap.objects (record { shape = shape; values = fresh_values (shape_at heap shape) count } ∷ []))
stay heap (op.Throw n class) =
    omega (arith, length-append heap.objects (record { shape = class; values = fresh_values (shape_at heap class) 0 } ∷ []))
stay heap (op.Stored (Static n) value) = omega arith
stay heap (op.Stored (Slot n i) value) = omega (arith, length-set heap.objects n (with_slot (object_at heap n) i value))
stay heap o = omega arith

stay_next : (known : Knowledge) (a : Recorded) → length known.world.heap.objects ≤ length (next_known known a).world.heap.objects
stay_next known a = rw (world_of_next known a) (
    elim (is_persistent a.act.op) as (λ b. length known.world.heap.objects ≤ length (world_next known.world a b).heap.objects)
    [ true ↦ omega arith | false ↦ stay known.world.heap a.act.op ])

pub stay_after : (known : Knowledge) (acts : List Recorded) → length known.world.heap.objects ≤ length (known_after known acts).world.heap.objects
stay_after known [] = omega arith
stay_after known (a ∷ acts) = omega (arith, stay_next known a, stay_after (next_known known a) acts)

-- ---- act by act

heap_next : (first : Seen) (front : List Recorded) (a : Recorded)
    → (seen_from first (front ++ a ∷ [])).heap ≡ heap_after_op_checked (seen_from first front).heap a.act.op
unfolding seen_after
heap_next first front a = ap (λ (s : Seen). s.heap) (fold-append seen_after first front (a ∷ []))

module _ (set : SetFacts) (main : ℕ) (opening : Graph) {Frames : Type 0} (code : Code set main opening Frames)
    (fit : (front : List Recorded) (a : Recorded) (rest : List Recorded) → IsPlainRun set main opening code (front ++ a ∷ rest)
    → length (known_of set main opening code (front ++ a ∷ [])).world.heap.objects < 2 ^ 32
    → FitsItsHeap set main opening code front a) where
  fewer : (front : List Recorded) (a : Recorded) (rest : List Recorded)
      → length (known_of set main opening code (front ++ a ∷ rest)).world.heap.objects < 2 ^ 32
      → length (known_of set main opening code (front ++ a ∷ [])).world.heap.objects < 2 ^ 32
  fewer front a rest few =
      let later = stay_after (known_of set main opening code (front ++ a ∷ [])) rest in
      let regroup : (front ++ a ∷ []) ++ rest ≡ front ++ a ∷ rest = append_assoc front (a ∷ []) rest in
      let all : known_of set main opening code (front ++ a ∷ rest)
      ≡ known_after (known_of set main opening code (front ++ a ∷ [])) rest =
      ap (known_of set main opening code) (sym regroup)
      ∙ known_after-append (first_known set opening) (front ++ a ∷ []) rest in
      omega (arith, later, rw all at few)

  pub follows : (front rest : List Recorded) → IsPlainRun set main opening code (front ++ rest)
      → length (known_of set main opening code (front ++ rest)).world.heap.objects < 2 ^ 32
      → (seen_from (first_seen set opening) front).heap ≡ (known_of set main opening code front).world.heap
      → (seen_from (first_seen set opening) (front ++ rest)).heap ≡ (known_of set main opening code (front ++ rest)).world.heap
  follows front [] run few same = rw (append-nil front) same
  follows front (a ∷ rest) run few same =
      let regroup : (front ++ a ∷ []) ++ rest ≡ front ++ a ∷ rest = append_assoc front (a ∷ []) rest in
      let fits = fit front a rest run (fewer front a rest few) in
      let next : (seen_from (first_seen set opening) (front ++ a ∷ [])).heap
      ≡ (known_of set main opening code (front ++ a ∷ [])).world.heap =
      heap_next (first_seen set opening) front a
      ∙ ap (λ (h : Heap). heap_after_op_checked h a.act.op) same ∙ sym fits.heap in
      rw (← regroup) (follows (front ++ a ∷ []) rest (rw regroup run) (rw regroup few) next)

  pub begins : (seen_from (first_seen set opening) []).heap ≡ (known_of set main opening code []).world.heap
  unfolding first_world
  begins = refl

pub counted : (first : Seen) (acts : List Recorded) → (seen_from first acts).acts ≡ first.acts + length acts
unfolding seen_after
counted first [] = omega arith
counted first (a ∷ acts) =
    let later = counted (seen_after first a) acts in
    omega (arith, later)
