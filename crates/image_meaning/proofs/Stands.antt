-- Words that correspond to a heap stand for the heap's graph.
use Rattle.std.proofs.Common.{◌≡◌, ◌≢◌, ℕ, zero, suc, ◌+◌, ◌<◌, ◌≤◌, ◌==◌, false, List, [], None, Ok, refl, ap, subst, sym, ◌∙◌}
use Rattle.std.proofs.Common.{arith, length, map, take, slice_index_or, inl, inr, nat_eq, nat_le, nat_lt, length-take}
use Rattle.std.specs.Prelude.{not}
use Rattle.std.specs.List.{range_with_len, IsDistinct, list_any}
use Rattle.std.proofs.lemmas.Bool.{cases_lt, le-leb, lt-leb, lt-ltb, le-ltb, eq-eqb, eqb-false, and_left, and_right}
use Rattle.std.proofs.lemmas.List.{get_or-map, get_or-take, length-map}
use Rattle.std.proofs.lemmas.List.Folds.{list_any_none}
use Rattle.std.proofs.lemmas.Map.Keys.{apart_from_distinct}
use Rattle.std.proofs.lemmas.Map.Steps.{length-le_from_distinct_below}
use Rattle.ap_base.specs.declared.kind.Kind.TheVariants.{L}
use Rattle.graph_model.specs.declared.types.Value.{Value}
use Rattle.graph_model.specs.declared.types.Value.TheVariants.{Null}
use Rattle.graph_model.specs.declared.types.Root.{Root}
use Rattle.graph_model.specs.declared.types.NamedValue.{NamedValue}
use Rattle.graph_model.specs.declared.types.Shape.{Shape}
use Rattle.graph_model.specs.declared.types.Heap.{Heap}
use Rattle.graph_model.specs.Heaps.{values_of, root_values}
use Rattle.graph_model.specs.Canon.{with_new, found_after, found_from, renumbered, node_of, root_of, canon_of}
use Rattle.graph_model.proofs.Numbers.{has_number-any, with_new-distinct}
use Rattle.graph_model.proofs.FoundAfter.{found_after-past, found_after-distinct}
use Rattle.image_layout.specs.declared.superblock.BadReason.TheVariants as bad
use Rattle.image_layout.specs.Places.{root_slots, slot_line, first_object_line, lines_of, object_line}
use Rattle.image_meaning.specs.Checks.{Words, first_fault}
use Rattle.image_meaning.specs.Directories.{Directory}
use Rattle.image_meaning.specs.Objects.{is_reference, is_within, shape_number, shape_of, length_at, object_slot, kind_of}
use Rattle.image_meaning.specs.Objects.{values_at, line_fault, slot_fault, object_fault}
use Rattle.image_meaning.specs.Meaning.{root_word, root_fault, roots_fault, root_value, root_values_of, look_at, walk, root_at}
use Rattle.image_meaning.specs.Meaning.{node_at, graph_found, graph_from}
use Rattle.image_meaning.specs.Corresponds.{LiesAt, Holds, Corresponds, root_value_at}
use Rattle.image_meaning.proofs.KeptSlots.{each_slot_is_kept}
use Rattle.image_meaning.proofs.Faults.{first_fault-none, passes_if}
use Rattle.image_meaning.proofs.Ranges.{get_or_any, mapped_alike}
use Rattle.image_meaning.proofs.Pairs.{Pairs, none_left, pair, Alike, pairs-with_new, pairs-at, pairs-length, pairs-object}
use Rattle.image_meaning.proofs.Pairs.{pairs-line, alike-renumbered}
use Rattle.image_meaning.proofs.Words.{reference_passes, word_passes, words_alike, reference_renumbered}

-- a walk goes no further than what it found
pub walk-past : (shapes : List Shape) (size : ℕ) (words : Words) (start : List Value) (k : ℕ) (lines : List ℕ)
    → walk shapes size words start k ≡ Ok lines → length lines ≤ k → (m : ℕ) → k ≤ m
    → walk shapes size words start m ≡ Ok lines
unfolding walk
walk-past shapes size words start k lines e few zero h =
    let z : k ≡ zero = omega (arith, h) in subst (λ n. walk shapes size words start n ≡ Ok lines) z e
walk-past shapes size words start k lines e few (suc m) h = elim (cases_lt m k) [
  | inl l ↦ (let z : k ≡ suc m = omega (arith, l, h) in subst (λ n. walk shapes size words start n ≡ Ok lines) z e)
  | inr l ↦ (let before = walk-past shapes size words start k lines e few m l in
      let past : length lines ≤ m = omega (arith, few, l) in
      rw (before, le-ltb m (length lines) past) refl)
]

module _ (R : LiesAt) (directory : Directory) (size : ℕ) (words : Words) (heap : Heap) (same : Corresponds R directory size words heap) where
  in_image : (a n : ℕ) → R a n → (first_object_line ≤ a) × (a < size)
  in_image a n r = let o = same.objects a n r in (o.low, omega (arith, o.high))

  -- ---- one object: all its slots are kept, so that all of them count in what the image stands for

  slots_hold : (a n : ℕ) → R a n → (j : ℕ) → j < length (values_of heap n)
      → Holds R (kind_of (shape_of directory.shapes words a) (0 + j)) (object_slot words a (0 + j)) (slice_index_or (values_of heap n) j Null)
  slots_hold a n r j h = let e : 0 + j ≡ j = omega arith in rw e ((same.objects a n r).slots j h (each_slot_is_kept heap n j))

  values_alike : (a n : ℕ) → R a n → Alike R (values_at directory.shapes words a) (values_of heap n)
  unfolding in_image
  values_alike a n r =
      rw (same.objects a n r).count
      (words_alike R size in_image (kind_of (shape_of directory.shapes words a)) (object_slot words a) 0 (values_of heap n) (slots_hold a n r))

  slots_pass : (a n : ℕ) → R a n → first_fault (slot_fault size words (shape_of directory.shapes words a) a) (length (values_of heap n)) ≡ None
  slots_pass a n r =
      first_fault-none (slot_fault size words (shape_of directory.shapes words a) a) (length (values_of heap n))
      (λ i h. word_passes R size in_image (kind_of (shape_of directory.shapes words a) i) (object_line a i) (object_slot words a i)
      (slice_index_or (values_of heap n) i Null) ((same.objects a n r).slots i h (each_slot_is_kept heap n i)))

  -- a line of an object belongs to no other
  not_within : (a b m n j : ℕ) → R a m → R b n → a ≢ b → j < lines_of (length_at words b) → is_within words (b + j) a ≡ false
  not_within a b m n j x y apart h = elim (same.apart a b m n x y apart) [
    | inl before ↦ and_right (nat_le a (b + j)) (nat_lt (b + j) (a + lines_of (length_at words a)))
        (le-ltb (b + j) (a + lines_of (length_at words a)) (omega (arith, before)))
    | inr after ↦ and_left (nat_le a (b + j)) (nat_lt (b + j) (a + lines_of (length_at words a)))
        (lt-leb a (b + j) (omega (arith, after, h)))
  ]

  lines_pass : (k : ℕ) (lines numbers : List ℕ) → Pairs R lines numbers → IsDistinct nat_eq lines → k < length lines
      → first_fault (line_fault words (take k lines) (slice_index_or lines k 0)) (lines_of (length_at words (slice_index_or lines k 0))) ≡ None
  lines_pass k lines numbers p distinct h =
      let line = slice_index_or lines k 0 in
      let here : R line (slice_index_or numbers k 0) = pairs-at R same.one_object same.one_line k 0 0 p h in
      first_fault-none (line_fault words (take k lines) line) (lines_of (length_at words line))
      (λ j lt. passes_if (line + j, bad.Overlap) (not (list_any (is_within words (line + j)) (take k lines)))
      (ap not (list_any_none (is_within words (line + j)) (take k lines) (λ i d below.
      let before : i < k = omega (arith, below, length-take k lines) in
      let e : slice_index_or (take k lines) i d ≡ slice_index_or lines i d = get_or-take k lines i d before in
      let i_there : i < length lines = omega (arith, before, h) in
      let at_i : R (slice_index_or lines i d) (slice_index_or numbers i 0) = pairs-at R same.one_object same.one_line i d 0 p i_there in
      let z : slice_index_or lines k d ≡ line = get_or_any lines k d 0 h in
      let ne : slice_index_or lines i d ≢ line = eqb-false (slice_index_or lines i d) line
      (rw z at (apart_from_distinct nat_eq lines i k d distinct before h)) in
      rw e (not_within (slice_index_or lines i d) line (slice_index_or numbers i 0) (slice_index_or numbers k 0) j at_i here ne lt)))))

  object_passes : (k : ℕ) (lines numbers : List ℕ) → Pairs R lines numbers → IsDistinct nat_eq lines → k < length lines
      → object_fault directory.shapes size words (take k lines) (slice_index_or lines k 0) ≡ None
  object_passes k lines numbers p distinct h =
      let line = slice_index_or lines k 0 in
      let n = slice_index_or numbers k 0 in
      let r : R line n = pairs-at R same.one_object same.one_line k 0 0 p h in
      let o = same.objects line n r in
      let free = lines_pass k lines numbers p distinct h in
      let free_lines = rw o.count at free in
      rw (
        lt-ltb (shape_number words line) (length directory.shapes) o.known,
        o.count,
        o.full,
        le-leb (line + lines_of (length (values_of heap n))) size o.high,
        free_lines,
      ) (slots_pass line n r)

  -- ---- the walk

  abbrev Walked : ℕ → Type 0
  Walked k =
      (lines : List ℕ) × (walk directory.shapes size words (root_values_of words (length directory.roots)) k ≡ Ok lines)
      × Pairs R lines (found_after heap (root_values heap) k) × IsDistinct nat_eq lines

  roots_count : length (root_values heap) ≡ length heap.roots
  roots_count = length-map heap.roots (λ (root : Root). slice_index_or heap.statics root.at Null)

  names_count : length directory.roots ≡ length heap.roots
  names_count = ap (λ names. length names) (sym same.names) ∙ length-map heap.roots (λ (root : Root). root.name)

  roots_alike : Alike R (root_values_of words (length directory.roots)) (root_values heap)
  unfolding in_image
  roots_alike =
      rw (names_count, ← roots_count)
      (words_alike R size in_image (λ r. L) (root_word words) 0 (root_values heap)
      (λ j h. let e : 0 + j ≡ j = omega arith in rw e (same.at_roots j (rw roots_count at h))))

  one_more : (k : ℕ) → Walked k → Walked (suc k)
  unfolding walk
  one_more k walked =
      let lines = walked.0 in
      let found = found_after heap (root_values heap) k in
      elim (cases_lt k (length lines)) [
        | inl h ↦ (
            let line = slice_index_or lines k 0 in
            let n = slice_index_or found k (length heap.objects) in
            let r : R line n = pairs-at R same.one_object same.one_line k 0 (length heap.objects) walked.2 h in
            let next = with_new lines (values_at directory.shapes words line) in
            let step : look_at directory.shapes size words k lines ≡ Ok next =
            rw (lt-ltb k (length lines) h, object_passes k lines found walked.2 walked.3 h) refl in (
              next,
              rw walked.1 step,
              pairs-with_new R same.one_object same.one_line (values_alike line n r) walked.2,
              with_new-distinct lines (values_at directory.shapes words line) walked.3,
            ))
        | inr h ↦ (
            let few : length found ≤ k = rw (← pairs-length R same.one_object same.one_line walked.2) h in (
              lines,
              rw (walked.1, le-ltb k (length lines) h) refl,
              rw (found_after-past heap (root_values heap) k few (suc k) (omega arith)) walked.2,
              walked.3,
            ))
      ]

  walked_to : (k : ℕ) → Walked k
  unfolding walk IsDistinct
  walked_to zero = (
    with_new [] (root_values_of words (length directory.roots)),
    refl,
    pairs-with_new R same.one_object same.one_line roots_alike none_left,
    with_new-distinct [] (root_values_of words (length directory.roots)) tt,
  )
  walked_to (suc k) = one_more k (walked_to k)

  -- ---- how far it goes

  lines_few : (k : ℕ) (walked : Walked k) → length walked.0 ≤ size
  unfolding in_image
  lines_few k walked =
      length-le_from_distinct_below walked.0 size walked.3
      (λ q h. let o = pairs-object R same.one_object same.one_line q walked.2 (has_number-any walked.0 q ∙ h) in (in_image q o.0 o.1).1)

  objects_few : (k : ℕ) → length (found_after heap (root_values heap) k) ≤ length heap.objects
  objects_few k =
      let found = found_after heap (root_values heap) k in
      length-le_from_distinct_below found (length heap.objects) (found_after-distinct heap (root_values heap) k)
      (λ q h. let o = pairs-line R same.one_object same.one_line q (walked_to k).2 (has_number-any found q ∙ h) in (same.objects o.0 q o.1).there)

  -- all that is found, as lines and as numbers
  pub found_all : (lines : List ℕ) × (walk directory.shapes size words (root_values_of words (length directory.roots)) size ≡ Ok lines)
      × Pairs R lines (found_from heap (root_values heap))
  unfolding found_from
  found_all =
      let start = root_values_of words (length directory.roots) in
      let N = length heap.objects in
      let mine = walked_to size in
      let far = walked_to (size + N) in
      let same_lines : Ok mine.0 ≡ Ok far.0 =
      sym (walk-past directory.shapes size words start size mine.0 mine.1 (lines_few size mine) (size + N) (omega arith)) ∙ far.1 in
      let lines : far.0 ≡ mine.0 = cc in
      let numbers : found_after heap (root_values heap) (size + N) ≡ found_after heap (root_values heap) N =
      found_after-past heap (root_values heap) N (objects_few N) (size + N) (omega arith) in
      let both : Pairs R far.0 (found_after heap (root_values heap) N) = rw (← numbers) far.2 in
      (mine.0, mine.1, rw (← lines) both)

  -- ---- the graph

  nodes_alike : {ls ns lines numbers : List ℕ} → Pairs R ls ns → Pairs R lines numbers
      → map (node_at directory.shapes words lines) ls ≡ map (node_of heap numbers) ns
  nodes_alike none_left p = refl
  nodes_alike (pair {a = a} {n = n} r rest) p =
      rw (alike-renumbered R same.one_object same.one_line (values_alike a n r) p, (same.objects a n r).shape, nodes_alike rest p) refl

  root_alike : (lines numbers : List ℕ) → Pairs R lines numbers → (r : ℕ) (d : Root) → r < length heap.roots
      → root_at words directory.roots lines r ≡ root_of heap numbers (slice_index_or heap.roots r d)
  unfolding in_image
  root_alike lines numbers p r d h =
      let name : slice_index_or directory.roots r [] ≡ (slice_index_or heap.roots r d).name =
      ap (λ names. slice_index_or names r []) (sym same.names)
      ∙ get_or-map (λ (root : Root). root.name) heap.roots r d [] h in
      let held : root_value_at heap r ≡ slice_index_or heap.statics (slice_index_or heap.roots r d).at Null =
      get_or-map (λ (root : Root). slice_index_or heap.statics root.at Null) heap.roots r d Null h in
      let value : renumbered lines (root_value words r) ≡ renumbered numbers (root_value_at heap r) =
      reference_renumbered R size in_image same.one_object same.one_line (root_word words r) (root_value_at heap r) (same.at_roots r h) p in
      named name (value ∙ ap (renumbered numbers) held)
    where
      named : {a b : List ℕ} {v w : Value} → a ≡ b → v ≡ w
          → let left : NamedValue = record { name = a; value = v } in left ≡ record { name = b; value = w }
      named e f = rw (e, f) refl

  graph_alike : (lines : List ℕ) → Pairs R lines (found_from heap (root_values heap)) → graph_found directory words lines ≡ canon_of heap
  unfolding canon_of
  graph_alike lines p =
      let numbers = found_from heap (root_values heap) in
      let roots : map (root_at words directory.roots lines) (range_with_len 0 (length directory.roots)) ≡ map (root_of heap numbers) heap.roots =
      ap (λ n. map (root_at words directory.roots lines) (range_with_len 0 n)) names_count
      ∙ mapped_alike (root_at words directory.roots lines) (root_of heap numbers) 0 heap.roots
      (λ j d h. let e : 0 + j ≡ j = omega arith in rw e (root_alike lines numbers p j d h)) in
      let nodes : map (node_at directory.shapes words lines) lines ≡ map (node_of heap numbers) numbers = nodes_alike p p in
      rw (roots, nodes) refl

  roots_pass : roots_fault size words (length directory.roots) ≡ None
  unfolding roots_fault in_image
  roots_pass =
      first_fault-none (root_fault size words (length directory.roots)) root_slots
      (λ r h. elim (cases_lt r (length directory.roots)) [
        | inl l ↦ rw (lt-ltb r (length directory.roots) l)
            (passes_if (slot_line r, bad.Reference) (is_reference size (root_word words r))
            (reference_passes R size in_image (root_word words r) (root_value_at heap r) (same.at_roots r (rw names_count at l))))
        | inr l ↦ rw (le-ltb r (length directory.roots) l)
            (passes_if (slot_line r, bad.Reference) (root_word words r == 0)
            (eq-eqb (root_word words r) 0 (same.unused r (rw names_count at l) h)))
      ])

  -- the graph that is found is that of the heap
  pub graph_from-corresponds : graph_from size directory words ≡ Ok (canon_of heap)
  unfolding graph_from
  graph_from-corresponds =
      let all = found_all in
      rw (roots_pass, all.1, graph_alike all.0 all.2) refl
