-- What a group has queued is what its threads have claimed.
use Rattle.std.proofs.Common.{◌≡◌, ◌≢◌, inl, inr, ℕ, zero, suc, ◌<◌, ◌||◌, true, false, List, [], ◌∷◌, ◌++◌, length, map}
use Rattle.std.proofs.Common.{nat_eq, refl, sym, ◌∙◌, ap, subst, arith, eq-eqb, if◌then◌else◌}
use Rattle.std.specs.Prelude.{All, AllPairs, slice_index_or}
use Rattle.std.proofs.lemmas.Bool.{cases_Bool, eqb-true, false≢true, or_cases}
use Rattle.std.proofs.lemmas.List.{length-map}
use Rattle.std.proofs.lemmas.List.Kept.{AllPairs-cons}
use Rattle.graph_model.specs.Heaps.{has_number}
use Rattle.plain_model.proofs.Durable.{has_number-append_left, has_number-append_cases}
use Rattle.twin_forms.specs.Table.{Entry, IsClaimed}
use Rattle.twin_forms.specs.Sights.{view_of}
use Rattle.convert_queue.specs.Queues.{Queued, queue_of}
use Rattle.convert_queue.specs.Threads.{IsGroupOf, has}
use Rattle.convert_words.specs.Agreeing.{item_in}
use Rattle.convert_words.specs.Scenes.{Scene, AgreesAt}
use Rattle.convert_words.specs.Sealing.{OfSet}
use Rattle.convert_words.proofs.Basics.{few_threads}
use Rattle.converter.specs.Laws.{number_at}
use Rattle.converter.proofs.Named.{number_is, queues_name_once}
use Rattle.machine_forms.specs.Naming.{GroupsNameTheirs, HasToSeal, group_names, member_names, names_below, queue_names}

-- ---- numbers in lists

append-right : (xs ys : List ℕ) (n : ℕ) → has_number ys n ≡ true → has_number (xs ++ ys) n ≡ true
append-right [] ys n is = is
append-right (x ∷ xs) ys n is = elim (nat_eq x n) as (λ b. (b || has_number (xs ++ ys) n) ≡ true) [
  | true ↦ refl
  | false ↦ append-right xs ys n is
]

-- different from all that the list has
all-apart : (x : ℕ) (ys : List ℕ) → ((n : ℕ) → has_number ys n ≡ true → x ≢ n) → All (λ n. x ≢ n) ys
all-apart x [] apart k d within = absurd (omega (arith, within))
all-apart x (y ∷ ys) apart zero d within = apart y (ap (λ b. b || has_number ys y) (eq-eqb y y refl))
all-apart x (y ∷ ys) apart (suc k) d within =
    all-apart x ys (λ n is. apart n (append-right (y ∷ []) ys n is)) k d (omega (arith, within))

-- each number of a list is another one
abbrev AreOnce : List ℕ → Type 0
AreOnce xs = AllPairs (λ m n. m ≢ n) xs

once-first : (x : ℕ) (xs : List ℕ) → AreOnce (x ∷ xs) → (n : ℕ) → has_number xs n ≡ true → x ≢ n
once-first x [] once n is = absurd (false≢true is)
once-first x (y ∷ ys) once n is = elim (or_cases (nat_eq y n) (has_number ys n) is) [
  | inl same ↦ subst (λ k. x ≢ k) (eqb-true y n same) (once 0 1 0 (omega arith) (omega arith))
  | inr later ↦ once-first x ys (drop-second x y ys once) n later
]
  where
    drop-second : (x y : ℕ) (ys : List ℕ) → AreOnce (x ∷ y ∷ ys) → AreOnce (x ∷ ys)
    drop-second x y ys once zero zero d before within = absurd (omega (arith, before))
    drop-second x y ys once zero (suc j) d before within =
        once 0 (suc (suc j)) d (omega arith) (omega (arith, within))
    drop-second x y ys once (suc i) zero d before within = absurd (omega (arith, before))
    drop-second x y ys once (suc i) (suc j) d before within =
        once (suc (suc i)) (suc (suc j)) d (omega (arith, before)) (omega (arith, within))

once-rest : (x : ℕ) (xs : List ℕ) → AreOnce (x ∷ xs) → AreOnce xs
once-rest x xs once i j d before within = once (suc i) (suc j) d (omega (arith, before)) (omega (arith, within))

once-append : (xs ys : List ℕ) → AreOnce xs → AreOnce ys
    → ((n : ℕ) → has_number xs n ≡ true → has_number ys n ≡ true → ⊥) → AreOnce (xs ++ ys)
once-append [] ys here there apart = there
once-append (x ∷ xs) ys here there apart =
    AllPairs-cons (λ m n. m ≢ n) x (xs ++ ys)
    (all-apart x (xs ++ ys) (λ n is. elim (has_number-append_cases xs ys n is) [
      | inl mine ↦ once-first x xs here n mine
      | inr other ↦ λ same. apart n (ap (λ b. b || has_number xs n) (eq-eqb x n same)) other
    ]))
    (once-append xs ys (once-rest x xs here) there (λ n mine other. apart n (append-right (x ∷ []) xs n mine) other))

-- ---- numbers of a queue

module _ (f : Queued → ℕ) where
  named-in : (q : List Queued) (n : ℕ) → has_number (map f q) n ≡ true
      → (i : ℕ) × (i < length q) × (f (slice_index_or q i (0, 0)) ≡ n)
  named-in [] n is = absurd (false≢true is)
  named-in (x ∷ q) n is = elim (or_cases (nat_eq (f x) n) (has_number (map f q) n) is) [
    | inl same ↦ (0, omega arith, eqb-true (f x) n same)
    | inr later ↦ (let r = named-in q n later in (suc r.0, (let lt = r.1 in omega (arith, lt)), r.2))
  ]

  in-named : (q : List Queued) (i : ℕ) → i < length q → has_number (map f q) (f (slice_index_or q i (0, 0))) ≡ true
  in-named [] i within = absurd (omega (arith, within))
  in-named (x ∷ q) zero within = ap (λ b. b || has_number (map f q) (f x)) (eq-eqb (f x) (f x) refl)
  in-named (x ∷ q) (suc i) within =
      append-right (f x ∷ []) (map f q) (f (slice_index_or q i (0, 0))) (in-named q i (omega (arith, within)))

  map-at : (q : List Queued) (i d : ℕ) → i < length q → slice_index_or (map f q) i d ≡ f (slice_index_or q i (0, 0))
  map-at [] i d within = absurd (omega (arith, within))
  map-at (x ∷ q) zero d within = refl
  map-at (x ∷ q) (suc i) d within = map-at q i d (omega (arith, within))

  once-map : (q : List Queued) → ((i j : ℕ) → i < length q → j < length q
      → f (slice_index_or q i (0, 0)) ≡ f (slice_index_or q j (0, 0)) → i ≡ j) → AreOnce (map f q)
  once-map q one i j d before within same =
      let long : length (map f q) ≡ length q = length-map q f in
      let lj : j < length q = omega (arith, within, long) in
      let li : i < length q = omega (arith, before, lj) in
      let eq = one i j li lj (sym (map-at q i d li) ∙ same ∙ map-at q j d lj) in
      omega (arith, before, eq)

-- ---- a group's

module _ (s : Scene) (es : List Entry) (set : ℕ) (agrees : AgreesAt s es) where
  abbrev names : ℕ → List ℕ
  names k = names_below s set k

  -- a member that has queued an object of this number
  record IsNamed (k n : ℕ) : Type 0 where
    thread : ℕ
    below : thread < k
    in_set : has set thread ≡ true
    place : ℕ
    within : place < length (queue_of s.queue thread)
    is : number_at s (item_in s.queue.queues thread place).0 ≡ n

  member-named : (u n : ℕ) → has_number (member_names s set u) n ≡ true
      → (has set u ≡ true) × (has_number (queue_names s u) n ≡ true)
  member-named u n is = elim (cases_Bool (has set u)) [
    | inl in_set ↦ (in_set, subst (λ b. has_number (if b then queue_names s u else []) n ≡ true) in_set is)
    | inr out ↦ absurd (false≢true (subst (λ b. has_number (if b then queue_names s u else []) n ≡ true) out is))
  ]

  named-member : (u n : ℕ) → has set u ≡ true → has_number (queue_names s u) n ≡ true
      → has_number (member_names s set u) n ≡ true
  named-member u n in_set is =
      subst (λ b. has_number (if b then queue_names s u else []) n ≡ true) (sym in_set) is

  names-from : (k n : ℕ) → has_number (names k) n ≡ true → IsNamed k n
  names-from zero n is = absurd (false≢true is)
  names-from (suc k) n is = elim (has_number-append_cases (names k) (member_names s set k) n is) [
    | inl earlier ↦
        (let r = names-from k n earlier in
        let lt = r.below in
        record {
          thread = r.thread;
          below = omega (arith, lt);
          in_set = r.in_set;
          place = r.place;
          within = r.within;
          is = r.is;
        })
    | inr here ↦
        (let m = member-named k n here in
        let x = named-in (λ (q : Queued). number_at s q.0) (queue_of s.queue k) n m.1 in
        record { thread = k; below = omega arith; in_set = m.0; place = x.0; within = x.1; is = x.2 })
  ]

  in-names : (k u n : ℕ) → u < k → has set u ≡ true → has_number (queue_names s u) n ≡ true
      → has_number (names k) n ≡ true
  in-names zero u n below in_set is = absurd (omega (arith, below))
  in-names (suc k) u n below in_set is = elim (cases_Bool (nat_eq u k)) [
    | inl same ↦
        (let eq : u ≡ k = eqb-true u k same in
        append-right (names k) (member_names s set k) n
        (subst (λ x. has_number (member_names s set x) n ≡ true) eq (named-member u n in_set is)))
    | inr apart ↦
        (let ne : u ≢ k = λ eq. false≢true (sym apart ∙ eq-eqb u k eq) in
        has_number-append_left (names k) (member_names s set k) n
        (in-names k u n (omega (arith, below, ne)) in_set is))
  ]

  -- ---- once

  queue-once : (u : ℕ) → AreOnce (queue_names s u)
  queue-once u = once-map (λ (q : Queued). number_at s q.0) (queue_of s.queue u)
      (λ i j li lj same. (queues_name_once s es u u i j agrees li lj same).1)

  member-once : (u : ℕ) → AreOnce (member_names s set u)
  member-once u = elim (cases_Bool (has set u)) [
    | inl in_set ↦ subst (λ b. AreOnce (if b then queue_names s u else [])) (sym in_set) (queue-once u)
    | inr out ↦ subst (λ b. AreOnce (if b then queue_names s u else [])) (sym out)
        (λ i j d before within. absurd (omega (arith, within)))
  ]

  names-once : (k : ℕ) → AreOnce (names k)
  names-once zero = λ i j d before within. absurd (omega (arith, within))
  names-once (suc k) = once-append (names k) (member_names s set k) (names-once k) (member-once k) (λ n earlier here.
      let r = names-from k n earlier in
      let m = member-named k n here in
      let x = named-in (λ (q : Queued). number_at s q.0) (queue_of s.queue k) n m.1 in
      let one = (queues_name_once s es r.thread k r.place x.0 agrees r.within x.1 (r.is ∙ sym x.2)).0 in
      let lt = r.below in
      omega (arith, lt, one))

  -- ---- those that are claimed

  names-claimed : (n : ℕ) → has_number (group_names s set) n ≡ true → OfSet es set n
  names-claimed n is =
      let r = names-from 64 n is in
      let x = agrees.queued.there r.thread r.place r.within in
      let same : x.0 ≡ n = sym (number_is s es r.thread r.place x.0 agrees x.1) ∙ r.is in
      (r.thread, r.in_set, subst (IsClaimed es r.thread) same x.1.claimed)

  claimed-names : (n : ℕ) → OfSet es set n → has_number (group_names s set) n ≡ true
  claimed-names n of =
      let u = of.0 in
      let below : u < 64 = few_threads (view_of s.heap) es u n agrees.lies of.2 in
      let x = agrees.queued.all u n of.2 in
      in-names 64 u n below of.1
      (subst (λ k. has_number (queue_names s u) k ≡ true) (number_is s es u x.0 n agrees x.1)
      (in-named (λ (q : Queued). number_at s q.0) (queue_of s.queue u) x.0 x.1.within))

  -- ---- some

  some-there : (q : List Queued) → q ≢ [] → 0 < length q
  some-there [] some = absurd (some refl)
  some-there (x ∷ q) some = omega arith

  some-claimed : (t : ℕ) → t < 64 → IsGroupOf s.queue.needs t set → HasToSeal s t → (n : ℕ) × OfSet es set n
  some-claimed t below group (inl some) =
      let x = agrees.queued.there t 0 (some-there (queue_of s.queue t) some) in
      (x.0, (t, group.member, x.1.claimed))
  some-claimed t below group (inr needs) =
      let x = agrees.real t needs.0 below needs.1 needs.2 in
      (x.0, (needs.0, group.closed t needs.0 group.member needs.2, x.1))

pub groups_name_theirs : GroupsNameTheirs
groups_name_theirs s es t set below agrees group some = record {
  some = λ none. (
      let x = some-claimed s es set agrees t below group some in
      false≢true (sym (ap (λ ns. has_number ns x.0) none) ∙ claimed-names s es set agrees x.0 x.1));
  once = names-once s es set agrees 64;
  those = λ n. (names-claimed s es set agrees n, claimed-names s es set agrees n);
}
