-- What is found once the slots of so many objects were looked at.
use Rattle.std.proofs.Common.{◌≡◌, ◌↔◌, ℕ, zero, suc, ◌+◌, ◌<◌, ◌≤◌, true, List, [], ◌∷◌, ◌++◌, refl, ap, sym, ◌∙◌, subst}
use Rattle.std.proofs.Common.{arith, length, take, drop, slice_index_or, eq-eqb, nat_eq, Some, ◌⊎◌, inl, inr}
use Rattle.std.specs.Prelude.{All, Contains}
use Rattle.std.specs.List.{IsDistinct, flat_map, slice_get}
use Rattle.std.proofs.lemmas.Bool.{cases_lt, false≢true, true≢false}
use Rattle.std.proofs.lemmas.List.{append-nil, append_assoc, get_or_append_left, get_or_past, get_or_at, length-append}
use Rattle.std.proofs.lemmas.List.{take-append-drop, take_all, take_more, flat_map_more}
use Rattle.std.proofs.lemmas.List.Concat.{flat_map-append}
use Rattle.std.proofs.lemmas.Option.{slice_get_within, get_or_from_slice_get}
use Rattle.std.proofs.lemmas.Map.Keys.{apart_from_distinct}
use Rattle.std.proofs.lemmas.List.Elements.{All-nil, All-map, All-weaker, All-contains, Contains-append_left}
use Rattle.std.proofs.lemmas.List.Elements.{Contains-append_right, Contains-get_or}
use Rattle.std.proofs.lemmas.Map.Steps.{length-le_from_distinct_below}
use Rattle.graph_model.specs.declared.types.Value.{Value}
use Rattle.graph_model.specs.declared.types.Value.TheVariants.{Int, Long, Null, Obj as Object}
use Rattle.graph_model.specs.declared.types.Obj.{Obj}
use Rattle.graph_model.specs.declared.types.Root.{Root}
use Rattle.graph_model.specs.declared.types.Heap.{Heap}
use Rattle.graph_model.specs.Heaps.{has_number, values_of, no_object, IsSound, IsBelow, root_values}
use Rattle.graph_model.specs.Canon.{with_new, with_slots_of, found_after, found_from}
use Rattle.graph_model.specs.Reach.{here, along, IsReached}
use Rattle.graph_model.specs.Found.{IsNumbered, IsNode}
use Rattle.graph_model.specs.BreadthFirst.{IsNumbering}
use Rattle.graph_model.proofs.Numbers.{has_number-any, has_number-from_Contains, Contains-from_has_number, with_new-append}
use Rattle.graph_model.proofs.Numbers.{with_new-has, with_new-only, with_new-prefix, with_new-distinct, with_new-below}

-- no slots stand past the objects
values_of-past : (heap : Heap) → values_of heap (length heap.objects) ≡ []
values_of-past heap = ap (λ (o : Obj). o.values) (get_or_past heap.objects (length heap.objects) no_object (omega arith))

-- where no object stands at the place, nothing more is found
pub with_slots_of-past : (heap : Heap) (k : ℕ) (found : List ℕ) → length found ≤ k → with_slots_of heap k found ≡ found
with_slots_of-past heap k found h =
    ap (λ m. with_new found (values_of heap m)) (get_or_past found k (length heap.objects) h)
    ∙ ap (λ values. with_new found values) (values_of-past heap)

pub values_of-below : (heap : Heap) → IsSound heap → (n : ℕ) → All (IsBelow (length heap.objects)) (values_of heap n)
values_of-below heap sound n = elim (cases_lt n (length heap.objects)) [
  | inl h ↦ sound.slots n no_object h
  | inr h ↦ subst (λ (o : Obj). All (IsBelow (length heap.objects)) o.values)
      (sym (get_or_past heap.objects n no_object h)) (All-nil (IsBelow (length heap.objects)))
]

pub root_values-below : (heap : Heap) → IsSound heap → All (IsBelow (length heap.objects)) (root_values heap)
root_values-below heap sound =
    All-map (IsBelow (length heap.objects)) (λ (r : Root). slice_index_or heap.statics r.at Null) heap.roots
    (All-weaker (λ (r : Root). r.at < length heap.statics)
    (λ (r : Root). IsBelow (length heap.objects) (slice_index_or heap.statics r.at Null))
    (λ r h. sound.statics r.at Null h) heap.roots sound.roots)

Contains-flat_map : {X A : Type 0} (f : X → List A) (xs : List X) (x : X) (a : A) → Contains xs x → Contains (f x) a
    → Contains (flat_map f xs) a
Contains-flat_map f [] x a h c = absurd (omega (arith, h.1))
Contains-flat_map f (y ∷ ys) x a (zero, l, e) c =
    Contains-append_left (f y) (flat_map f ys) a (subst (λ z. Contains (f z) a) (sym e) c)
Contains-flat_map f (y ∷ ys) x a (suc k, l, e) c =
    Contains-append_right (f y) (flat_map f ys) a (Contains-flat_map f ys x a (k, omega (arith, l), e) c)

-- a list without doubles goes on with nothing new
nothing_left : (xs rest : List ℕ) → IsDistinct nat_eq (xs ++ rest) → ((n : ℕ) → Contains (xs ++ rest) n → Contains xs n)
    → xs ++ rest ≡ xs
nothing_left xs [] d old = append-nil xs
nothing_left xs (n ∷ rest) d old =
    let c = old n (Contains-append_right xs (n ∷ rest) n (0, omega arith, refl)) in
    let there : length xs < length (xs ++ n ∷ rest) = omega (arith, length-append xs (n ∷ rest)) in
    let apart = apart_from_distinct nat_eq (xs ++ n ∷ rest) c.0 (length xs) n d c.1 there in
    let first : slice_index_or (xs ++ n ∷ rest) c.0 n ≡ n = get_or_append_left xs (n ∷ rest) n c.0 c.1 ∙ c.2 in
    let second : slice_index_or (xs ++ n ∷ rest) (length xs) n ≡ n = get_or_at xs n rest n (length xs) refl in
    absurd (true≢false (sym (eq-eqb n n refl) ∙ sym (ap (λ m. nat_eq m n) first)
    ∙ sym (ap (λ m. nat_eq (slice_index_or (xs ++ n ∷ rest) c.0 n) m) second) ∙ apart))

numbered_value : (found : List ℕ) (v : Value) → ((m : ℕ) → v ≡ Object m → has_number found m ≡ true) → IsNumbered found v
numbered_value found (Object m) h = h m refl
numbered_value found (Int i) h = tt
numbered_value found (Long i) h = tt
numbered_value found Null h = tt

numbered_values : (found : List ℕ) (values : List Value) → ((m : ℕ) → Contains values (Object m) → has_number found m ≡ true)
    → All (IsNumbered found) values
numbered_values found values h k d l =
    numbered_value found (slice_index_or values k d)
    (λ m e. h m (subst (λ v. Contains values v) e (Contains-get_or values k d l)))

module _ (heap : Heap) (start : List Value) where
  pub found_after-past : (k : ℕ) → length (found_after heap start k) ≤ k → (m : ℕ) → k ≤ m
      → found_after heap start m ≡ found_after heap start k
  found_after-past k h zero l = let e : k ≡ zero = omega (arith, l) in ap (found_after heap start) (sym e)
  found_after-past k h (suc m) l = elim (cases_lt m k) [
    | inl a ↦ (let e : suc m ≡ k = omega (arith, a, l) in ap (found_after heap start) e)
    | inr a ↦ (let e = found_after-past k h m a in
        let few : length (found_after heap start m) ≤ m = rw e (omega (arith, h, a)) in
        with_slots_of-past heap m (found_after heap start m) few ∙ e)
  ]

  pub found_after-prefix : (k m : ℕ) → k ≤ m → (extra : List ℕ) × (found_after heap start m ≡ found_after heap start k ++ extra)
  found_after-prefix k zero l =
      let e : k ≡ zero = omega (arith, l) in
      ([], ap (found_after heap start) (sym e) ∙ sym (append-nil (found_after heap start k)))
  found_after-prefix k (suc m) l = elim (cases_lt m k) [
    | inl a ↦ (let e : suc m ≡ k = omega (arith, a, l) in
        ([], ap (found_after heap start) e ∙ sym (append-nil (found_after heap start k))))
    | inr a ↦ (let p = found_after-prefix k m a in
        let before = found_after heap start m in
        let q = with_new-prefix before (values_of heap (slice_index_or before m (length heap.objects))) in
        (p.0 ++ q.0, q.1 ∙ ap (λ xs. xs ++ q.0) p.1 ∙ append_assoc (found_after heap start k) p.0 q.0))
  ]

  pub found_after-distinct : (k : ℕ) → IsDistinct nat_eq (found_after heap start k)
  unfolding IsDistinct
  found_after-distinct zero = with_new-distinct [] start tt
  found_after-distinct (suc k) =
      let before = found_after heap start k in
      with_new-distinct before (values_of heap (slice_index_or before k (length heap.objects))) (found_after-distinct k)

  pub found_after-reached : (k n : ℕ) → has_number (found_after heap start k) n ≡ true → IsReached heap start n
  found_after-reached zero n h =
      with_new-only (λ m. IsReached heap start m) [] start (λ m e. absurd (false≢true e)) (λ m c. here m c) n h
  found_after-reached (suc k) n h =
      let before = found_after heap start k in
      let m = slice_index_or before k (length heap.objects) in
      elim (cases_lt k (length before)) [
        | inl a ↦ (let r : IsReached heap start m =
            found_after-reached k m (has_number-from_Contains before m (Contains-get_or before k (length heap.objects) a)) in
            with_new-only (λ j. IsReached heap start j) before (values_of heap m) (found_after-reached k)
            (λ j c. along m j r c) n h)
        | inr a ↦ found_after-reached k n
            (subst (λ xs. has_number xs n ≡ true) (with_slots_of-past heap k before a) h)
      ]

  pub found_after-below : IsSound heap → All (IsBelow (length heap.objects)) start → (k : ℕ)
      → All (λ n. n < length heap.objects) (found_after heap start k)
  found_after-below sound below zero =
      with_new-below (length heap.objects) [] start (All-nil (λ n. n < length heap.objects)) below
  found_after-below sound below (suc k) =
      let before = found_after heap start k in
      let m = slice_index_or before k (length heap.objects) in
      with_new-below (length heap.objects) before (values_of heap m) (found_after-below sound below k) (values_of-below heap sound m)

  -- no more are found than there are
  pub found_after-few : IsSound heap → All (IsBelow (length heap.objects)) start → (k : ℕ)
      → length (found_after heap start k) ≤ length heap.objects
  found_after-few sound below k =
      let found = found_after heap start k in
      length-le_from_distinct_below found (length heap.objects) (found_after-distinct k)
      (λ q h. All-contains (λ n. n < length heap.objects) found q (found_after-below sound below k)
      (Contains-from_has_number found q (has_number-any found q ∙ h)))

  -- the values and the slots of the first k of these numbers, in one row
  row : List ℕ → ℕ → List Value
  row numbers k = start ++ flat_map (values_of heap) (take k numbers)

  row-more : (numbers : List ℕ) (k d : ℕ) → k < length numbers
      → row numbers (k + 1) ≡ row numbers k ++ values_of heap (slice_index_or numbers k d)
  unfolding row
  row-more numbers k d l =
      ap (λ xs. start ++ flat_map (values_of heap) xs) (take_more numbers k d l)
      ∙ ap (λ xs. start ++ xs) (sym (flat_map_more (values_of heap) [] (take k numbers) (slice_index_or numbers k d)))
      ∙ sym (append_assoc start (flat_map (values_of heap) (take k numbers)) (values_of heap (slice_index_or numbers k d)))

  in_order-none : (numbers : List ℕ) → found_after heap start zero ≡ with_new [] (row numbers zero)
  unfolding row
  in_order-none numbers = ap (λ values. with_new [] values) (sym (append-nil start))

  -- where what is found so far are the first of these numbers, in the order of the row, so is what is found next
  in_order-more : (numbers rest : List ℕ) (k : ℕ) → numbers ≡ found_after heap start k ++ rest → k < length (found_after heap start k)
      → found_after heap start k ≡ with_new [] (row numbers k) → found_after heap start (suc k) ≡ with_new [] (row numbers (k + 1))
  in_order-more numbers rest k goes_on l e =
      let found = found_after heap start k in
      let N = length heap.objects in
      let there : k < length numbers = omega (arith, ap length goes_on ∙ length-append found rest, l) in
      let same : slice_index_or found k N ≡ slice_index_or numbers k N =
      sym (get_or_append_left found rest N k l) ∙ sym (ap (λ xs. slice_index_or xs k N) goes_on) in
      ap (λ m. with_new found (values_of heap m)) same
      ∙ ap (λ xs. with_new xs (values_of heap (slice_index_or numbers k N))) e
      ∙ sym (with_new-append [] (row numbers k) (values_of heap (slice_index_or numbers k N)))
      ∙ sym (ap (λ values. with_new [] values) (row-more numbers k N there))

  -- where all is found
  in_order-past : (numbers : List ℕ) (k : ℕ) → numbers ≡ found_after heap start k → length (found_after heap start k) ≤ k
      → found_after heap start k ≡ with_new [] (row numbers k) → found_after heap start (suc k) ≡ with_new [] (row numbers (k + 1))
  unfolding row
  in_order-past numbers k all h e =
      let l : length numbers ≤ k = rw all h in
      with_slots_of-past heap k (found_after heap start k) h ∙ e
      ∙ ap (λ xs. with_new [] (start ++ flat_map (values_of heap) xs))
      (take_all k numbers l ∙ sym (take_all (k + 1) numbers (omega (arith, l))))

  in_order-found : (k : ℕ) → k ≤ length heap.objects
      → found_after heap start k ≡ with_new [] (row (found_after heap start (length heap.objects)) k)
  in_order-found zero l = in_order-none (found_after heap start (length heap.objects))
  in_order-found (suc k) l =
      let all = found_after heap start (length heap.objects) in
      let below : k ≤ length heap.objects = omega (arith, l) in
      let e = in_order-found k below in
      let f : k + 1 ≡ suc k = omega arith in
      subst (λ j. found_after heap start (suc k) ≡ with_new [] (row all j)) f (elim (cases_lt k (length (found_after heap start k))) [
        | inl a ↦ (let p = found_after-prefix k (length heap.objects) below in in_order-more all p.0 k p.1 a e)
        | inr a ↦ in_order-past all k (found_after-past k a (length heap.objects) below) a e
      ])

  -- numbers that stand in the order of their row have each object that is reached
  has_reached : (numbers : List ℕ) → numbers ≡ with_new [] (start ++ flat_map (values_of heap) numbers) → (n : ℕ)
      → IsReached heap start n → has_number numbers n ≡ true
  has_reached numbers order n (here m c) =
      subst (λ xs. has_number xs n ≡ true) (sym order)
      (with_new-has [] (start ++ flat_map (values_of heap) numbers) n
      (Contains-append_left start (flat_map (values_of heap) numbers) (Object n) c))
  has_reached numbers order n (along m k r c) =
      let h = Contains-from_has_number numbers m (has_reached numbers order m r) in
      subst (λ xs. has_number xs n ≡ true) (sym order)
      (with_new-has [] (start ++ flat_map (values_of heap) numbers) n
      (Contains-append_right start (flat_map (values_of heap) numbers) (Object n)
      (Contains-flat_map (values_of heap) numbers m (Object n) h c)))

  -- What is found is a breadth first numbering of what is reached.
  pub found_from-numbering : IsSound heap → All (IsBelow (length heap.objects)) start → IsNumbering heap start (found_from heap start)
  unfolding found_from row
  found_from-numbering sound below =
      let N = length heap.objects in
      let all = found_after heap start N in
      let few = found_after-few sound below N in
      let order : all ≡ with_new [] (start ++ flat_map (values_of heap) all) =
      in_order-found N (omega arith)
      ∙ ap (λ xs. with_new [] (start ++ flat_map (values_of heap) xs)) (take_all N all few) in
      record {
        reached = λ n. (
          λ c. found_after-reached N n (has_number-from_Contains all n c),
          λ r. Contains-from_has_number all n (has_reached all order n r),
        );
        once = found_after-distinct N;
        in_order = order;
      }

  -- Numbers in the order of their row begin with what is found, and what is found is in that order until all is found.
  abbrev IsFront : List ℕ → ℕ → Type 0
  IsFront numbers k = (rest : List ℕ) × (numbers ≡ found_after heap start k ++ rest)

  front_from_order : (numbers : List ℕ) → numbers ≡ with_new [] (start ++ flat_map (values_of heap) numbers) → (k : ℕ)
      → found_after heap start k ≡ with_new [] (row numbers k) → IsFront numbers k
  unfolding row
  front_from_order numbers order k e =
      let slots = values_of heap in
      let p = with_new-prefix (with_new [] (row numbers k)) (flat_map slots (drop k numbers)) in
      let parts : start ++ flat_map slots numbers ≡ row numbers k ++ flat_map slots (drop k numbers) =
      ap (λ xs. start ++ flat_map slots xs) (sym (take-append-drop k numbers))
      ∙ ap (λ xs. start ++ xs) (flat_map-append slots (take k numbers) (drop k numbers))
      ∙ sym (append_assoc start (flat_map slots (take k numbers)) (flat_map slots (drop k numbers))) in (
        p.0,
        order ∙ ap (λ xs. with_new [] xs) parts
            ∙ with_new-append [] (row numbers k) (flat_map slots (drop k numbers)) ∙ p.1
            ∙ ap (λ xs. xs ++ p.0) (sym e),
      )

  front : (numbers : List ℕ) → numbers ≡ with_new [] (start ++ flat_map (values_of heap) numbers) → (k : ℕ)
      → (found_after heap start k ≡ with_new [] (row numbers k)) ⊎ ((length (found_after heap start k) ≤ k) × IsFront numbers k)
  front numbers order zero = inl (in_order-none numbers)
  front numbers order (suc k) =
      let found = found_after heap start k in
      let f : k + 1 ≡ suc k = omega arith in
      let past : length found ≤ k → IsFront numbers k → (length (found_after heap start (suc k)) ≤ suc k) × IsFront numbers (suc k) =
      λ h p.
      let e : found_after heap start (suc k) ≡ found = with_slots_of-past heap k found h in
      (rw e (omega (arith, h)), (p.0, p.1 ∙ ap (λ xs. xs ++ p.0) (sym e))) in
      elim (front numbers order k) [
        | inr p ↦ inr (past p.0 p.1)
        | inl e ↦ elim (cases_lt k (length found)) [
          | inr a ↦ inr (past a (front_from_order numbers order k e))
          | inl a ↦ inl (let p = front_from_order numbers order k e in
              subst (λ j. found_after heap start (suc k) ≡ with_new [] (row numbers j)) f
              (in_order-more numbers p.0 k p.1 a e))
        ]
      ]

  front-all : (numbers : List ℕ) → numbers ≡ with_new [] (start ++ flat_map (values_of heap) numbers)
      → IsFront numbers (length heap.objects)
  front-all numbers order = elim (front numbers order (length heap.objects)) [
    | inl e ↦ front_from_order numbers order (length heap.objects) e
    | inr p ↦ p.1
  ]

  -- There is no other one.
  pub found_from-only : IsSound heap → All (IsBelow (length heap.objects)) start → (numbers : List ℕ)
      → IsNumbering heap start numbers → numbers ≡ found_from heap start
  unfolding found_from
  found_from-only sound below numbers numbering =
      let all = found_after heap start (length heap.objects) in
      let own = found_from-numbering sound below in
      let p = front-all numbers numbering.in_order in
      p.1 ∙ nothing_left all p.0 (subst (λ xs. IsDistinct nat_eq xs) p.1 numbering.once)
      (λ n c. Contains-from_has_number all n (has_reached all own.in_order n
      ((numbering.reached n).0 (subst (λ xs. Contains xs n) (sym p.1) c))))

  -- what is found has each object that is reached
  pub found_from-has : IsSound heap → All (IsBelow (length heap.objects)) start → (n : ℕ) → IsReached heap start n
      → has_number (found_from heap start) n ≡ true
  found_from-has sound below n r =
      has_number-from_Contains (found_from heap start) n (((found_from-numbering sound below).reached n).1 r)

  found_below : IsSound heap → All (IsBelow (length heap.objects)) start → All (λ n. n < length heap.objects) (found_from heap start)
  unfolding found_from
  found_below sound below = found_after-below sound below (length heap.objects)

  -- a turn of the loop that looks at the slots of the object at the next place
  pub found_after-more : IsSound heap → All (IsBelow (length heap.objects)) start → (numbers : List ℕ) (next object : ℕ)
      → numbers ≡ found_after heap start next → slice_get numbers next ≡ Some object
      → (object < length heap.objects) × (next < length heap.objects)
      × (found_after heap start (next + 1) ≡ with_new numbers (values_of heap object))
  found_after-more sound below numbers next object e at =
      let N = length heap.objects in
      let found = found_after heap start next in
      let get : slice_get found next ≡ Some object = ap (λ xs. slice_get xs next) (sym e) ∙ at in
      let there : next < length found = slice_get_within found next object get in
      let is : slice_index_or found next N ≡ object = get_or_from_slice_get found next object N get in
      let few = found_after-few sound below next in
      let f : suc next ≡ next + 1 = omega arith in (
        subst (λ n. n < N) is (found_after-below sound below next next N there),
        omega (arith, there, few),
        ap (found_after heap start) (sym f) ∙ ap (λ n. with_new found (values_of heap n)) is
            ∙ ap (λ xs. with_new xs (values_of heap object)) (sym e),
      )

  -- where the list ends, all is found
  pub found_after-end : (numbers : List ℕ) (next : ℕ) → numbers ≡ found_after heap start next → length numbers ≤ next
      → next ≤ length heap.objects → numbers ≡ found_from heap start
  unfolding found_from
  found_after-end numbers next e past within =
      let few : length (found_after heap start next) ≤ next = subst (λ xs. length xs ≤ next) e past in
      e ∙ sym (found_after-past next few (length heap.objects) within)

  -- each value of a found object is numbered
  pub values_of-numbered : IsSound heap → All (IsBelow (length heap.objects)) start
      → All (IsNode heap (found_from heap start)) (found_from heap start)
  values_of-numbered sound below =
      let numbers = found_from heap start in
      let numbering = found_from-numbering sound below in
      λ k d l.
      let n = slice_index_or numbers k d in
      let reached : IsReached heap start n = (numbering.reached n).0 (Contains-get_or numbers k d l) in (
        found_below sound below k d l,
        numbered_values numbers (values_of heap n)
            (λ m c. found_from-has sound below m (along n m reached c)),
      )

  pub start-numbered : IsSound heap → All (IsBelow (length heap.objects)) start → All (IsNumbered (found_from heap start)) start
  start-numbered sound below =
      numbered_values (found_from heap start) start (λ m c. found_from-has sound below m (here m c))

  -- what is found stands below the number of objects
  pub found_from-below : IsSound heap → All (IsBelow (length heap.objects)) start → (n : ℕ)
      → has_number (found_from heap start) n ≡ true → n < length heap.objects
  found_from-below sound below n h =
      All-contains (λ m. m < length heap.objects) (found_from heap start) n (found_below sound below)
      (Contains-from_has_number (found_from heap start) n h)

  pub found_from-exact : IsSound heap → All (IsBelow (length heap.objects)) start → (n : ℕ)
      → (has_number (found_from heap start) n ≡ true) ↔ IsReached heap start n
  found_from-exact sound below n = (
    λ h. ((found_from-numbering sound below).reached n).0 (Contains-from_has_number (found_from heap start) n h),
    found_from-has sound below n,
  )
