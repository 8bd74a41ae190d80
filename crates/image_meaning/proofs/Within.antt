-- What an image stands for is told by the words of its lines: those behind its last line say nothing.
use Rattle.std.proofs.Common.{◌≡◌, ◌≢◌, ◌⊎◌, inl, inr, ℕ, zero, suc, ◌+◌, ◌/◌, ◌^◌, ◌<◌, ◌≤◌, ◌&&◌, ◌||◌, Bool, true, false}
use Rattle.std.proofs.Common.{List, [], ◌∷◌, ◌++◌, length, map, take, nat_le, nat_lt, Option, Some, None, Result, Ok, Err, refl}
use Rattle.std.proofs.Common.{sym, ◌∙◌, ap, subst, arith, slice_index_or}
use Rattle.std.specs.Prelude.{not}
use Rattle.std.specs.List.{list_any, range_with_len}
use Rattle.std.proofs.lemmas.Bool.{cases_lt, cases_eq, lt-ltb, lt-leb, le-leb, le-ltb, eq-eqb, ne_eqb}
use Rattle.std.proofs.lemmas.List.{get_or-take, length-take-le}
use Rattle.graph_model.specs.declared.types.Value.{Value}
use Rattle.graph_model.specs.declared.types.Shape.{Shape}
use Rattle.graph_model.specs.declared.types.Graph.{Graph}
use Rattle.graph_model.specs.declared.types.Node.{Node}
use Rattle.graph_model.specs.Heaps.{has_number}
use Rattle.graph_model.specs.Canon.{with_new, renumbered}
use Rattle.graph_model.proofs.Numbers.{has_number-from_Contains}
use Rattle.image_layout.specs.declared.superblock.BadReason.{BadReason}
use Rattle.image_layout.specs.declared.superblock.BadReason.TheVariants as bad
use Rattle.image_layout.specs.Places.{min_lines, root_slots, slot_line, slot_word, directory_words, directory_line}
use Rattle.image_layout.specs.Places.{directory_word, logs, log_entries, log_head_line, log_entry_line, log_entry_word}
use Rattle.image_layout.specs.Places.{lines_of, object_line, object_word, super_check}
use Rattle.image_meaning.specs.Checks.{Words, Bad, fails_unless, then_check, first_fault, after_check, ◌>>=◌}
use Rattle.image_meaning.specs.Directories.{Directory, directory_of}
use Rattle.image_meaning.specs.Logs.{Logged, log_count, logged_at, first_logged, log_of, logs_below, may_be_logged, has_place}
use Rattle.image_meaning.specs.Logs.{entry_fault, log_fault, logs_fault, put_back}
use Rattle.image_meaning.specs.Objects.{value_of, holds_slots, kind_of, object_slot, length_at, shape_of, values_at, is_within}
use Rattle.image_meaning.specs.Objects.{line_fault, slot_fault, object_fault}
use Rattle.image_meaning.specs.Meaning.{root_word, root_value, root_fault, roots_fault, root_values_of, look_at, walk, root_at}
use Rattle.image_meaning.specs.Meaning.{node_at, graph_found, graph_from, graph_after_logs, graph_after_super, meaning}
use Rattle.image_meaning.proofs.Directories.{directory-same}
use Rattle.image_meaning.proofs.Faults.{first_fault-same, both_none}
use Rattle.image_meaning.proofs.FoundImage.{directory-few}
use Rattle.image_meaning.proofs.Opening.{object_passed, values_in_image, roots_in_image}
use Rattle.image_meaning.proofs.Places.{log_passes}
use Rattle.image_meaning.proofs.Ranges.{get_or_any, mapped_same, mapped_alike}
use Rattle.image_meaning.proofs.Standing.{use-within}
use Rattle.image_meaning.proofs.Steps.{AreInImage, Gone, gone_after, all_gone}

none_or : {X : Type 0} (o : Option X) → (o ≡ None) ⊎ ((x : X) × (o ≡ Some x))
none_or None = inl refl
none_or (Some x) = inr (x, refl)

ok_or : {A : Type 0} (r : Result A Bad) → ((x : A) × (r ≡ Ok x)) ⊎ ((e : Bad) × (r ≡ Err e))
ok_or (Ok x) = inl (x, refl)
ok_or (Err e) = inr (e, refl)

and_no : (b : Bool) → (b && false) ≡ false
and_no true = refl
and_no false = refl

-- ---- the logs

-- the check of one entry behind others
abbrev entry_check : ℕ → ℕ → ℕ → List Logged → Logged → Option Bad
entry_check size t n earlier e =
    fails_unless (may_be_logged size (e.place / 8) && not (has_place earlier e.place)) (log_entry_line t n, bad.LogPlace)

module _ (size : ℕ) (c d : Words) (enough : min_lines ≤ size) (same : (l w : ℕ) → l < size → d l w ≡ c l w) where
  count_same : (t : ℕ) → t < logs → log_count d t ≡ log_count c t
  count_same t there = same (log_head_line t) 0 (omega (arith, enough, there))

  entry_same : (t n : ℕ) → t < logs → n < log_entries → logged_at d t n ≡ logged_at c t n
  entry_same t n there few =
      let inside : log_entry_line t n < size = omega (arith, enough, there, few) in
      rw (same (log_entry_line t n) (log_entry_word n) inside, same (log_entry_line t n) (log_entry_word n + 1) inside) refl

  first_same : (t n : ℕ) → t < logs → n ≤ log_entries → first_logged d t n ≡ first_logged c t n
  first_same t n there few = mapped_same (logged_at d t) (logged_at c t) 0 n (λ j low high. entry_same t j there (omega (arith, high, few)))

  log_same : (t : ℕ) → t < logs → logs_below d t ≡ logs_below c t → log_fault size d t ≡ log_fault size c t
  log_same t there below = elim (cases_lt log_entries (log_count c t)) [
    | inl many ↦ (
        let e : nat_le (log_count c t) log_entries ≡ false = lt-leb (log_count c t) log_entries many in
        rw (count_same t there, e) refl)
    | inr few ↦ (
        let checks : first_fault (entry_fault size d t) (log_count c t) ≡ first_fault (entry_fault size c t) (log_count c t) =
        first_fault-same (entry_fault size c t) (entry_fault size d t) (log_count c t)
        (λ n under. let small : n < log_entries = omega (arith, under, few) in
        ap (λ (e : Logged). entry_check size t n (first_logged d t n ++ logs_below d t) e) (entry_same t n there small)
        ∙ ap (λ (ls : List Logged). entry_check size t n (ls ++ logs_below d t) (logged_at c t n)) (first_same t n there (omega (arith, small)))
        ∙ ap (λ (ls : List Logged). entry_check size t n (first_logged c t n ++ ls) (logged_at c t n)) below) in
        ap (λ (k : ℕ). then_check (fails_unless (nat_le k log_entries) (log_head_line t, bad.LogCount)) (first_fault (entry_fault size d t) k))
        (count_same t there)
        ∙ ap (λ (o : Option Bad). then_check (fails_unless (nat_le (log_count c t) log_entries) (log_head_line t, bad.LogCount)) o) checks)
  ]

  logs_so_far : (t : ℕ) → t ≤ logs → (first_fault (log_fault size d) t ≡ first_fault (log_fault size c) t)
      × (first_fault (log_fault size c) t ≡ None → logs_below d t ≡ logs_below c t)
  unfolding first_fault logs_below
  logs_so_far zero there = (refl, λ none. refl)
  logs_so_far (suc t) there =
      let before = logs_so_far t (omega (arith, there)) in
      let under : t < logs = omega (arith, there) in
      elim (none_or (first_fault (log_fault size c) t)) [
        | inl none ↦ (
            let below = before.1 none in
            let step = log_same t under below in (
              ap (λ (o : Option Bad). then_check o (log_fault size d t)) before.0
                  ∙ ap (λ (o : Option Bad). then_check (first_fault (log_fault size c) t) o) step,
              λ all.
                  let few = (log_passes size c t (both_none (first_fault (log_fault size c) t) (log_fault size c t) all).1).0 in
                  ap (λ (n : ℕ). first_logged d t n ++ logs_below d t) (count_same t under)
                  ∙ ap (λ (ls : List Logged). ls ++ logs_below d t) (first_same t (log_count c t) under few)
                  ∙ ap (λ (ls : List Logged). log_of c t ++ ls) below,
            ))
        | inr some ↦ (
          ap (λ (o : Option Bad). then_check o (log_fault size d t)) (before.0 ∙ some.1)
              ∙ sym (ap (λ (o : Option Bad). then_check o (log_fault size c t)) some.1),
          λ all. absurd (
              let none : first_fault (log_fault size c) t ≡ None = (both_none (first_fault (log_fault size c) t) (log_fault size c t) all).0 in
              let e : Some some.0 ≡ None = sym some.1 ∙ none in cc),
        )
      ]

  logs_same : logs_fault size d ≡ logs_fault size c
  unfolding logs_fault
  logs_same = (logs_so_far logs (omega arith)).0

  put_back_same : logs_fault size c ≡ None → (l w : ℕ) → l < size → put_back d l w ≡ put_back c l w
  unfolding logs_fault put_back
  put_back_same none l w below = rw ((logs_so_far logs (omega arith)).1 none, same l w below) refl

-- ---- root slots and objects

-- each number of the list is below the size
abbrev AreBelow : ℕ → List ℕ → Type 0
AreBelow size xs = (j : ℕ) → j < length xs → slice_index_or xs j 0 < size

found_below : (size : ℕ) (xs : List ℕ) → ((q : ℕ) → has_number xs q ≡ true → q < size) → AreBelow size xs
found_below size xs low j h =
    let x = slice_index_or xs j 0 in
    low x (has_number-from_Contains xs x (j, h, get_or_any xs j x 0 h))

taken_below : (size k : ℕ) (xs : List ℕ) → k ≤ length xs → AreBelow size xs → AreBelow size (take k xs)
taken_below size k xs some low j h =
    let under : j < k = omega (arith, h, length-take-le k xs some) in
    rw (get_or-take k xs j 0 under) (low j (omega (arith, under, some)))

any_same : (size : ℕ) (f g : ℕ → Bool) (xs : List ℕ) → AreBelow size xs → ((x : ℕ) → x < size → f x ≡ g x) → list_any f xs ≡ list_any g xs
any_same size f g [] below same = refl
any_same size f g (x ∷ xs) below same =
    let first : f x ≡ g x = same x (below 0 (omega arith)) in
    let rest = any_same size f g xs (λ j h. below (suc j) (omega (arith, h))) same in
    rw (first, rest) refl

module _ (size : ℕ) (a b : Words) (enough : min_lines ≤ size) (same : (l w : ℕ) → l < size → b l w ≡ a l w) where
  root_same : (r : ℕ) → r < root_slots → root_word b r ≡ root_word a r
  root_same r below = same (slot_line r) (slot_word r) (omega (arith, enough, below))

  roots_same : (n : ℕ) → roots_fault size b n ≡ roots_fault size a n
  unfolding roots_fault
  roots_same n = first_fault-same (root_fault size a n) (root_fault size b n) root_slots (λ r below. rw (root_same r below) refl)

  root_values_same : (n : ℕ) → n ≤ root_slots → root_values_of b n ≡ root_values_of a n
  root_values_same n few = mapped_same (root_value b) (root_value a) 0 n (λ r low high. rw (root_same r (omega (arith, high, few))) refl)

  values_same : (shapes : List Shape) (line : ℕ) → line < size → line + lines_of (length_at a line) ≤ size
      → values_at shapes b line ≡ values_at shapes a line
  values_same shapes line below high =
      let head : b line 0 ≡ a line 0 = same line 0 below in
      rw head (mapped_same (λ i. value_of_slot b i) (λ i. value_of_slot a i) 0 (length_at a line)
      (λ i low under. rw (same (object_line line i) (object_word i) (omega (arith, high, under))) refl))
    where
      value_of_slot : Words → ℕ → Value
      value_of_slot words i = value_of (kind_of (shape_of shapes a line) i) (object_slot words line i)

  object_same : (shapes : List Shape) (earlier : List ℕ) (line : ℕ) → line < size → AreBelow size earlier
      → object_fault shapes size b earlier line ≡ object_fault shapes size a earlier line
  object_same shapes earlier line below low =
      let head : b line 0 ≡ a line 0 = same line 0 below in
      let n = length_at a line in
      let shape = shape_of shapes a line in
      elim (cases_lt size (line + lines_of n)) [
        | inl past ↦ (
            let e : nat_le (line + lines_of n) size ≡ false = lt-leb (line + lines_of n) size past in
            rw (head, e, and_no (holds_slots shape.element shape.fields n)) refl)
        | inr high ↦ (
            let lines : first_fault (line_fault b earlier line) (lines_of n) ≡ first_fault (line_fault a earlier line) (lines_of n) =
            first_fault-same (line_fault a earlier line) (line_fault b earlier line) (lines_of n)
            (λ j under. rw (any_same size (is_within b (line + j)) (is_within a (line + j)) earlier low (λ x h. rw (same x 0 h) refl)) refl) in
            let slots : first_fault (slot_fault size b shape line) n ≡ first_fault (slot_fault size a shape line) n =
            first_fault-same (slot_fault size a shape line) (slot_fault size b shape line) n
            (λ i under. rw (same (object_line line i) (object_word i) (omega (arith, high, under))) refl) in
            rw (head, lines, slots) refl)
      ]

  module _ (shapes : List Shape) (start : List Value) (in_image : AreInImage size start) where
    look_same : (k : ℕ) (found : List ℕ) → walk shapes size a start k ≡ Ok found
        → look_at shapes size b k found ≡ look_at shapes size a k found
    look_same k found walked = elim (cases_lt k (length found)) [
      | inr past ↦ (let e : nat_lt k (length found) ≡ false = le-ltb k (length found) past in rw e refl)
      | inl there ↦ (
          let e : nat_lt k (length found) ≡ true = lt-ltb k (length found) there in
          let gone = gone_after shapes size a start in_image (values_in_image shapes size a) k found walked in
          let line = slice_index_or found k 0 in
          let each = found_below size found (λ q has. (gone.within q has).1) in
          let earlier = taken_below size k found (omega (arith, there)) each in
          let fault = object_same shapes (take k found) line (each k there) earlier in
          rw (e, fault) (elim (none_or (object_fault shapes size a (take k found) line)) [
            | inl none ↦ (
                let passes = object_passed shapes size a (take k found) line none in
                ap (λ (vs : List Value). after_check (object_fault shapes size a (take k found) line) (Ok (with_new found vs)))
                (values_same shapes line (each k there) passes.high))
            | inr some ↦ rw some.1 refl
          ]))
    ]

    walk_same : (k : ℕ) → walk shapes size b start k ≡ walk shapes size a start k
    unfolding walk
    walk_same zero = refl
    walk_same (suc k) =
        ap (λ (r : Result (List ℕ) Bad). r >>= look_at shapes size b k) (walk_same k)
        ∙ elim (ok_or (walk shapes size a start k)) [
          | inl found ↦ rw found.1 (look_same k found.0 found.1)
          | inr failed ↦ rw failed.1 refl
        ]

  graph_same : (directory : Directory) (found : List ℕ) → length directory.roots ≤ root_slots
      → ((j : ℕ) → j < length found → (slice_index_or found j 0 < size) × (slice_index_or found j 0 + lines_of (length_at a (slice_index_or found j 0)) ≤ size))
      → graph_found directory b found ≡ graph_found directory a found
  graph_same directory found few within =
      let n = length directory.roots in
      let shapes = directory.shapes in
      let roots : map (root_at b directory.roots found) (range_with_len 0 n) ≡ map (root_at a directory.roots found) (range_with_len 0 n) =
      mapped_same (root_at b directory.roots found) (root_at a directory.roots found) 0 n
      (λ r low high. rw (root_same r (omega (arith, high, few))) refl) in
      let nodes : map (node_at shapes b found) found ≡ map (node_at shapes a found) found =
      sym (mapped_alike (node_of shapes found) (node_at shapes b found) 0 found
      (λ j e h. let z : 0 + j ≡ j = omega arith in
      rw (z, get_or_any found j e 0 h) (sym (node_same shapes found (slice_index_or found j 0) (within j h).0 (within j h).1))))
      ∙ mapped_alike (node_of shapes found) (node_at shapes a found) 0 found
      (λ j e h. let z : 0 + j ≡ j = omega arith in rw (z, get_or_any found j e 0 h) refl) in
      rw (roots, nodes) refl
    where
      node_of : List Shape → List ℕ → ℕ → Node
      node_of shapes found j = node_at shapes a found (slice_index_or found j 0)

      node_same : (shapes : List Shape) (found : List ℕ) (line : ℕ) → line < size → line + lines_of (length_at a line) ≤ size
          → node_at shapes b found line ≡ node_at shapes a found line
      node_same shapes found line below high =
          let make : Shape → List Value → Node = λ s vs. record { shape = s; values = map (renumbered found) vs } in
          let shape : shape_of shapes b line ≡ shape_of shapes a line = rw (same line 0 below) refl in
          ap (λ (s : Shape). make s (values_at shapes b line)) shape ∙ ap (make (shape_of shapes a line)) (values_same shapes line below high)

  graph_from_same : (directory : Directory) → length directory.roots ≤ root_slots → graph_from size directory b ≡ graph_from size directory a
  unfolding graph_from
  graph_from_same directory few =
      let n = length directory.roots in
      let shapes = directory.shapes in
      elim (none_or (roots_fault size a n)) [
        | inr some ↦ rw (roots_same n, some.1) refl
        | inl none ↦ (
            let in_image = roots_in_image size a n none few in
            let start = root_values_of a n in
            let walks = walk_same shapes start in_image size in
            rw (roots_same n, none, root_values_same n few, walks) (elim (ok_or (walk shapes size a start size)) [
              | inl found ↦ (
                  let gone = all_gone shapes size a start in_image (values_in_image shapes size a) found.0 found.1 in
                  let each = found_below size found.0 (λ q has. (gone.1.within q has).1) in
                  let graphs = graph_same directory found.0 few
                  (λ j h. (
                    each j h,
                    (object_passed shapes size a (take j found.0) (slice_index_or found.0 j 0)
                        (gone.1.checked j (omega (arith, h, gone.0)) h)).high,
                  )) in
                  rw (found.1, graphs) refl)
              | inr failed ↦ rw failed.1 refl
            ]))
      ]

-- ---- the whole

module _ (size : ℕ) (c d : Words) (enough : min_lines ≤ size) (same : (l w : ℕ) → l < size → d l w ≡ c l w) where
  after_logs_same : (directory : Directory) → length directory.roots ≤ root_slots
      → graph_after_logs size d directory ≡ graph_after_logs size c directory
  after_logs_same directory few = elim (none_or (logs_fault size c)) [
    | inr some ↦ rw (logs_same size c d enough same, some.1) refl
    | inl none ↦ (
        let graphs = graph_from_same size (put_back c) (put_back d) enough (put_back_same size c d enough same none) directory few in
        rw (logs_same size c d enough same, graphs) refl)
  ]

  after_super_same : super_check (c 0) size ≡ None → graph_after_super size d ≡ graph_after_super size c
  after_super_same passes =
      let first : d 0 0 ≡ c 0 0 = same 0 0 (omega (arith, enough)) in
      elim (cases_eq (c 0 0) 0) [
        | inl blank ↦ rw (eq-eqb (d 0 0) 0 (first ∙ blank), eq-eqb (c 0 0) 0 blank) refl
        | inr used ↦ (
            let most : c 0 3 ≤ directory_words = use-within size (c 0) used passes in
            let entries : directory_of d ≡ directory_of c =
            directory-same c d (same 0 3 (omega (arith, enough)))
            (λ i h. same (directory_line i) (directory_word i) (omega (arith, enough, h, most))) in
            rw (ne_eqb (d 0 0) 0 (λ blank. used (sym first ∙ blank)), ne_eqb (c 0 0) 0 used, entries) (elim (ok_or (directory_of c)) [
              | inl directory ↦ rw directory.1 (after_logs_same directory.0 (directory-few c directory.0 directory.1))
              | inr failed ↦ rw failed.1 refl
            ]))
      ]

  pub meaning-within : meaning size d ≡ meaning size c
  unfolding meaning
  meaning-within =
      let some : 0 < size = omega (arith, enough) in
      let head : super_check (d 0) size ≡ super_check (c 0) size = rw (same 0 0 some, same 0 1 some, same 0 2 some, same 0 3 some) refl in
      elim (none_or (super_check (c 0) size)) [
        | inr fails ↦ rw (head, fails.1) refl
        | inl none ↦ rw (head, none) (after_super_same none)
      ]
