-- A walk marks what its object reaches, and nothing else.
use Rattle.std.proofs.Common.{◌≡◌, ◌⊎◌, inl, inr, ℕ, zero, suc, ◌+◌, ◌-◌, ◌<◌, ◌≤◌, Bool, true, false, nat_eq, List, [], ◌∷◌, ◌++◌, length, drop, length-append, refl, sym, ◌∙◌, ap, subst, arith, get_or, eqb-true, eq-eqb, if◌then◌else◌}
use Rattle.std.specs.Prelude.{Contains, All, slice_set}
use Rattle.std.proofs.lemmas.Bool.{false≢true}
use Rattle.std.proofs.lemmas.List.{get_or-set_same, get_or-set_other, length-set, append-nil, append_assoc}
use Rattle.std.proofs.lemmas.List.Elements.{All-nil, All-cons, All-head, All-tail, All-get_or}
use Rattle.graph_model.specs.declared.types.Value.{Value}
use Rattle.graph_model.specs.declared.types.Value.TheVariants.{Int, Long, Null, Obj as Object}
use Rattle.graph_model.specs.declared.types.Heap.{Heap}
use Rattle.graph_model.specs.Heaps.{has_number, no_object, IsBelow, IsSound, values_of}
use Rattle.graph_model.specs.declared.types.Obj.{Obj}
use Rattle.graph_model.specs.Reach.{Refers, here, along}
use Rattle.plain_model.proofs.Durable.{has_number-append_left, has_number-append_cases, All-has_number}
use Rattle.audit_keeping.specs.Keeping.{is_marked}
use Rattle.audit_keeping.specs.Walking.{marks_met, queue_met, unmarked, IsWalking, AreClosedBut, AreClosedMarks, HaveGrown}
use Rattle.audit_rules.proofs.Closed.{has_number-append_right}
use Rattle.audit_keeping.proofs.Reached.{reaches-within}

abbrev Later : Value → List Value → ℕ → Type 0
Later v vs n = Contains (v ∷ vs) (Object n)

later : (v : Value) (vs : List Value) (n : ℕ) → Contains vs (Object n) → Later v vs n
later v vs n h = let lt = h.1 in (suc h.0, omega (arith, lt), h.2)

first : (n : ℕ) (vs : List Value) → Later (Object n) vs n
first n vs = (zero, omega arith, refl)

-- what is contained comes first or later
parted : (v : Value) (vs : List Value) (n : ℕ) → Later v vs n → (v ≡ Object n) ⊎ Contains vs (Object n)
parted v vs n h = at h.0 h.1 h.2
  where
    at : (k : ℕ) → k < length (v ∷ vs) → get_or (v ∷ vs) k (Object n) ≡ Object n → (v ≡ Object n) ⊎ Contains vs (Object n)
    at zero lt is = inl is
    at (suc k) lt is = inr (k, omega (arith, lt), is)

mark-same : (marks : List Bool) (n : ℕ) → n < length marks → is_marked (slice_set marks n true) n ≡ true
mark-same marks n within = get_or-set_same marks n true false within

mark-cases : (marks : List Bool) (n m : ℕ) → is_marked (slice_set marks n true) m ≡ true → (m ≡ n) ⊎ (is_marked marks m ≡ true)
mark-cases marks n m is = elim (nat_eq m n) as (λ b. nat_eq m n ≡ b → (m ≡ n) ⊎ (is_marked marks m ≡ true)) [
  | true ↦ λ e. inl (eqb-true m n e)
  | false ↦ λ e. inr (sym (get_or-set_other marks n m true false (λ same. false≢true (sym e ∙ eq-eqb m n same))) ∙ is)
] refl

mark-kept : (marks : List Bool) (n m : ℕ) → n < length marks → is_marked marks m ≡ true → is_marked (slice_set marks n true) m ≡ true
mark-kept marks n m within is = elim (nat_eq m n) as (λ b. nat_eq m n ≡ b → is_marked (slice_set marks n true) m ≡ true) [
  | true ↦ λ e. ap (is_marked (slice_set marks n true)) (eqb-true m n e) ∙ mark-same marks n within
  | false ↦ λ e. get_or-set_other marks n m true false (λ same. false≢true (sym e ∙ eq-eqb m n same)) ∙ is
] refl

unmarked-set : (marks : List Bool) (n : ℕ) → n < length marks → is_marked marks n ≡ false → suc (unmarked (slice_set marks n true)) ≡ unmarked marks
unmarked-set [] n within is = absurd (omega (arith, within))
unmarked-set (true ∷ ms) zero within is = absurd (let none : true ≡ false = is in cc)
unmarked-set (false ∷ ms) zero within is = refl
unmarked-set (true ∷ ms) (suc n) within is = unmarked-set ms n (omega (arith, within)) is
unmarked-set (false ∷ ms) (suc n) within is = ap suc (unmarked-set ms n (omega (arith, within)) is)

has-own : (n : ℕ) → has_number (n ∷ []) n ≡ true
has-own n = rw (eq-eqb n n refl) refl

-- what meeting values does, where a queue has this behind it
pub record IsMet (vs : List Value) (marks : List Bool) (queue : List ℕ) (marks' : List Bool) (queue' : List ℕ) : Type 0 where
  pub long : length marks' ≡ length marks
  pub kept : (n : ℕ) → is_marked marks n ≡ true → is_marked marks' n ≡ true
  pub all : (n : ℕ) → Contains vs (Object n) → is_marked marks' n ≡ true
  pub more : List ℕ
  pub queue_is : queue' ≡ queue ++ more
  pub more_are : (n : ℕ) → has_number more n ≡ true → is_marked marks' n ≡ true
  pub more_below : All (λ n. n < length marks) more
  pub new : (n : ℕ) → is_marked marks' n ≡ true → (is_marked marks n ≡ true) ⊎ (Contains vs (Object n) × (has_number more n ≡ true))
  pub balance : unmarked marks' + length queue' ≡ unmarked marks + length queue

met-nil : (marks : List Bool) (queue : List ℕ) → IsMet [] marks queue marks queue
met-nil marks queue = record {
  long = refl;
  kept = λ n is. is;
  all = λ n h. let lt = h.1 in absurd (omega (arith, lt));
  more = [];
  queue_is = sym (append-nil queue);
  more_are = λ n is. absurd (false≢true is);
  more_below = All-nil (λ n. n < length marks);
  new = λ n is. inl is;
  balance = refl;
}

-- a value that changes nothing: no object, or one that is marked
met-same : (v : Value) (vs : List Value) (marks : List Bool) (queue : List ℕ) (marks' : List Bool) (queue' : List ℕ)
    → ((n : ℕ) → v ≡ Object n → is_marked marks n ≡ true) → IsMet vs marks queue marks' queue' → IsMet (v ∷ vs) marks queue marks' queue'
met-same v vs marks queue marks' queue' marked m = record {
  long = m.long;
  kept = m.kept;
  all = λ n h. elim (parted v vs n h) [ inl is ↦ m.kept n (marked n is) | inr rest ↦ m.all n rest ];
  more = m.more;
  queue_is = m.queue_is;
  more_are = m.more_are;
  more_below = m.more_below;
  new = λ n is. elim (m.new n is) [ inl old ↦ inl old | inr now ↦ inr (later v vs n now.0, now.1) ];
  balance = m.balance;
}

met-new : (n : ℕ) (vs : List Value) (marks : List Bool) (queue : List ℕ) (marks' : List Bool) (queue' : List ℕ) → n < length marks → is_marked marks n ≡ false
    → IsMet vs (slice_set marks n true) (queue ++ n ∷ []) marks' queue' → IsMet (Object n ∷ vs) marks queue marks' queue'
met-new n vs marks queue marks' queue' within off m =
    let long_set = length-set marks n true in
    let one_less = unmarked-set marks n within off in
    let pushed = length-append queue (n ∷ []) in
    let balanced = m.balance in
    record {
      long = m.long ∙ long_set;
      kept = λ k is. m.kept k (mark-kept marks n k within is);
      all = λ k h. elim (parted (Object n) vs k h) [
        | inl is ↦ let same : n ≡ k = (let it : Object n ≡ Object k = is in cc) in subst (λ x. is_marked marks' x ≡ true) same (m.kept n (mark-same marks n within))
        | inr rest ↦ m.all k rest
      ];
      more = n ∷ m.more;
      queue_is = m.queue_is ∙ append_assoc queue (n ∷ []) m.more;
      more_are = λ k is. elim (has_number-append_cases (n ∷ []) m.more k is) [
        | inl own ↦ subst (λ x. is_marked marks' x ≡ true) (one n k own) (m.kept n (mark-same marks n within))
        | inr rest ↦ m.more_are k rest
      ];
      more_below = All-cons (λ k. k < length marks) n m.more within (subst (λ x. All (λ k. k < x) m.more) long_set m.more_below);
      new = λ k is. elim (m.new k is) [
        | inl set_ ↦ elim (mark-cases marks n k set_) [
          | inl same ↦ inr (subst (λ x. Later (Object n) vs x) (sym same) (first n vs), subst (λ x. has_number (n ∷ m.more) x ≡ true) (sym same) (has_number-append_left (n ∷ []) m.more n (has-own n)))
          | inr old ↦ inl old
        ]
        | inr now ↦ inr (later (Object n) vs k now.0, has_number-append_right (n ∷ []) m.more k now.1)
      ];
      balance = omega (arith, one_less, pushed, balanced);
    }
  where
    one : (a b : ℕ) → has_number (a ∷ []) b ≡ true → a ≡ b
    one a b is = elim (nat_eq a b) as (λ x. nat_eq a b ≡ x → a ≡ b) [
      | true ↦ λ e. eqb-true a b e
      | false ↦ λ e. absurd (false≢true (sym (rw e refl) ∙ is))
    ] refl

pub is-met : (vs : List Value) (marks : List Bool) (queue : List ℕ) → All (IsBelow (length marks)) vs → IsMet vs marks queue (marks_met vs marks) (queue_met vs marks queue)
is-met [] marks queue below = met-nil marks queue
is-met (Int i ∷ vs) marks queue below = met-same (Int i) vs marks queue _ _ (λ n is. absurd (let it : Int i ≡ Object n = is in cc)) (is-met vs marks queue (All-tail (IsBelow (length marks)) (Int i) vs below))
is-met (Long i ∷ vs) marks queue below = met-same (Long i) vs marks queue _ _ (λ n is. absurd (let it : Long i ≡ Object n = is in cc)) (is-met vs marks queue (All-tail (IsBelow (length marks)) (Long i) vs below))
is-met (Null ∷ vs) marks queue below = met-same Null vs marks queue _ _ (λ n is. absurd (let it : Null ≡ Object n = is in cc)) (is-met vs marks queue (All-tail (IsBelow (length marks)) Null vs below))
is-met (Object n ∷ vs) marks queue below =
    elim (is_marked marks n) as (λ b. is_marked marks n ≡ b → IsMet (Object n ∷ vs) marks queue
    (marks_met vs (if b then marks else slice_set marks n true)) (if b then queue_met vs marks queue else queue_met vs (slice_set marks n true) (queue ++ n ∷ []))) [
      | true ↦ λ e. met-same (Object n) vs marks queue _ _
          (λ k is. let same : n ≡ k = (let it : Object n ≡ Object k = is in cc) in subst (λ x. is_marked marks x ≡ true) same e)
          (is-met vs marks queue rest)
      | false ↦ λ e. met-new n vs marks queue _ _ (All-head (IsBelow (length marks)) (Object n) vs below) e
          (is-met vs (slice_set marks n true) (queue ++ n ∷ []) (subst (λ x. All (IsBelow x) vs) (sym (length-set marks n true)) rest))
    ] refl
  where
    rest : All (IsBelow (length marks)) vs
    rest = All-tail (IsBelow (length marks)) (Object n) vs below

-- ---- fronts of a queue

drop-at : (xs : List ℕ) (k d : ℕ) → k < length xs → drop k xs ≡ get_or xs k d ∷ drop (suc k) xs
drop-at [] k d within = absurd (omega (arith, within))
drop-at (x ∷ xs) zero d within = refl
drop-at (x ∷ xs) (suc k) d within = drop-at xs k d (omega (arith, within))

drop-front : (xs ys : List ℕ) (k : ℕ) → k ≤ length xs → drop k (xs ++ ys) ≡ drop k xs ++ ys
drop-front xs ys zero within = refl
drop-front [] ys (suc k) within = absurd (omega (arith, within))
drop-front (x ∷ xs) ys (suc k) within = drop-front xs ys k (omega (arith, within))

drop-all : (xs : List ℕ) (k : ℕ) → length xs ≤ k → drop k xs ≡ []
drop-all [] zero within = refl
drop-all [] (suc k) within = refl
drop-all (x ∷ xs) zero within = absurd (omega (arith, within))
drop-all (x ∷ xs) (suc k) within = drop-all xs k (omega (arith, within))

has-at : (xs : List ℕ) (k d : ℕ) → k < length xs → has_number xs (get_or xs k d) ≡ true
has-at [] k d within = absurd (omega (arith, within))
has-at (x ∷ xs) zero d within = has-number-first x xs
  where
    has-number-first : (a : ℕ) (rest : List ℕ) → has_number (a ∷ rest) a ≡ true
    has-number-first a rest = rw (eq-eqb a a refl) refl
has-at (x ∷ xs) (suc k) d within = has_number-append_right (x ∷ []) xs (get_or xs k d) (has-at xs k d (omega (arith, within)))

all-both : (P : ℕ → Type 0) (xs ys : List ℕ) → All P xs → All P ys → All P (xs ++ ys)
all-both P [] ys all all' = all'
all-both P (x ∷ xs) ys all all' = All-cons P x (xs ++ ys) (All-head P x xs all) (all-both P xs ys (All-tail P x xs all) all')

only : (start n : ℕ) → Contains (Object start ∷ []) (Object n) → n ≡ start
only start n h = elim (parted (Object start) [] n h) [
  | inl is ↦ (let it : Object start ≡ Object n = is in cc)
  | inr none ↦ let lt = none.1 in absurd (omega (arith, lt))
]

head-or-tail : (x : ℕ) (xs : List ℕ) (n : ℕ) → has_number (x ∷ xs) n ≡ true → (n ≡ x) ⊎ (has_number xs n ≡ true)
head-or-tail x xs n is = elim (nat_eq x n) as (λ b. nat_eq x n ≡ b → has_number (x ∷ xs) n ≡ true → (n ≡ x) ⊎ (has_number xs n ≡ true)) [
  | true ↦ λ e h. inl (sym (eqb-true x n e))
  | false ↦ λ e h. inr (sym (rw e refl) ∙ h)
] refl is

-- ---- the walk

module _ (heap : Heap) (before : List Bool) (start : ℕ) (long : length before ≡ length heap.objects) (closed : AreClosedBut heap before start) where
  pub walk-begins : start < length heap.objects
      → IsWalking heap before start (marks_met (Object start ∷ []) before) (queue_met (Object start ∷ []) before []) 0
  walk-begins inside =
      let met = is-met (Object start ∷ []) before [] (All-cons (IsBelow (length before)) (Object start) [] (omega (arith, inside, long)) (All-nil (IsBelow (length before)))) in
      record {
        long = met.long ∙ long;
        within = omega arith;
        there = subst (All (λ n. n < length heap.objects)) (sym met.queue_is) (subst (λ x. All (λ n. n < x) met.more) long met.more_below);
        kept = met.kept;
        started = met.all start (first start []);
        closed = λ m k is refers. elim (met.new m is) [
          | inl old ↦ elim (closed m k old refers) [
            | inl own ↦ inl (met.kept k own)
            | inr same ↦ inl (met.all k (subst (λ x. Contains (Object start ∷ []) (Object x)) (sym same) (first start [])))
          ]
          | inr now ↦ inr (ap (λ q. has_number q m) met.queue_is ∙ now.1)
        ];
        reached = λ n is. elim (met.new n is) [
          | inl old ↦ inl old
          | inr now ↦ inr (here n (only start n now.0))
        ];
        queued = λ n is. met.more_are n (sym (ap (λ q. has_number q n) met.queue_is) ∙ is);
      }

  pub walk-goes : (marks : List Bool) (queue : List ℕ) (at n : ℕ) → IsWalking heap before start marks queue at → at < length queue
      → n ≡ get_or queue at n → All (IsBelow (length marks)) (values_of heap n)
      → IsWalking heap before start (marks_met (values_of heap n) marks) (queue_met (values_of heap n) marks queue) (suc at)
  walk-goes marks queue at n w inside is_n below =
      let met = is-met (values_of heap n) marks queue below in
      let sum = length-append queue met.more in
      let longer : length (queue_met (values_of heap n) marks queue) ≡ length (queue ++ met.more) = ap length met.queue_is in
      let ahead : drop (suc at) (queue_met (values_of heap n) marks queue) ≡ drop (suc at) queue ++ met.more =
      ap (drop (suc at)) met.queue_is ∙ drop-front queue met.more (suc at) (omega (arith, inside)) in
      let own : is_marked marks n ≡ true = w.queued n (subst (λ x. has_number queue x ≡ true) (sym is_n) (has-at queue at n inside)) in
      record {
        long = met.long ∙ w.long;
        within = omega (arith, inside, sum, longer);
        there = subst (All (λ k. k < length heap.objects)) (sym met.queue_is)
            (all-both (λ k. k < length heap.objects) queue met.more w.there (subst (λ x. All (λ k. k < x) met.more) w.long met.more_below));
        kept = λ k is. met.kept k (w.kept k is);
        started = met.kept start w.started;
        closed = λ m k is refers. elim (met.new m is) [
          | inl old ↦ elim (w.closed m k old refers) [
            | inl marked ↦ inl (met.kept k marked)
            | inr queued ↦ elim (head-or-tail n (drop (suc at) queue) m
                (subst (λ x. has_number (x ∷ drop (suc at) queue) m ≡ true) (sym is_n) (sym (ap (λ q. has_number q m) (drop-at queue at n inside)) ∙ queued))) [
                  | inl same ↦ inl (met.all k (subst (λ x. Refers heap x k) same refers))
                  | inr behind ↦ inr (ap (λ q. has_number q m) ahead ∙ has_number-append_left (drop (suc at) queue) met.more m behind)
                ]
          ]
          | inr now ↦ inr (ap (λ q. has_number q m) ahead ∙ has_number-append_right (drop (suc at) queue) met.more m now.1)
        ];
        reached = λ k is. elim (met.new k is) [
          | inl old ↦ w.reached k old
          | inr now ↦ elim (w.reached n own) [
            | inl old ↦ elim (closed n k old now.0) [
              | inl own ↦ inl own
              | inr same ↦ inr (here k same)
            ]
            | inr r ↦ inr (along n k r now.0)
          ]
        ];
        queued = λ k is. elim (has_number-append_cases queue met.more k (sym (ap (λ q. has_number q k) met.queue_is) ∙ is)) [
          | inl old ↦ met.kept k (w.queued k old)
          | inr new ↦ met.more_are k new
        ];
      }

  -- the values of an object in the queue name objects that have marks
  pub values-below : (marks : List Bool) (queue : List ℕ) (at n : ℕ) → IsSound heap → IsWalking heap before start marks queue at → at < length queue
      → n ≡ get_or queue at n → All (IsBelow (length marks)) (values_of heap n)
  values-below marks queue at n sound w inside is_n =
      let has : has_number queue n ≡ true = subst (λ x. has_number queue x ≡ true) (sym is_n) (has-at queue at n inside) in
      let there = All-has_number (λ k. k < length heap.objects) queue n w.there has in
      subst (λ x. All (IsBelow x) (values_of heap n)) (sym w.long)
      (All-get_or (λ (o : Obj). All (IsBelow (length heap.objects)) o.values) heap.objects n no_object there sound.slots)

  pub walk-ends : (marks : List Bool) (queue : List ℕ) (at : ℕ) → IsWalking heap before start marks queue at → length queue ≤ at
      → HaveGrown heap before start marks
  walk-ends marks queue at w past = record {
    long = w.long;
    closed = all;
    exact = λ n. (
      w.reached n,
      λ is. elim is [
        | inl old ↦ w.kept n old
        | inr r ↦ reaches-within heap (λ m. m ≡ start) (λ m. is_marked marks m ≡ true) (λ m same. subst (λ x. is_marked marks x ≡ true) (sym same) w.started) all n r
      ],
    );
  }
    where
      all : AreClosedMarks heap marks
      all m k is refers = elim (w.closed m k is refers) [
        | inl marked ↦ marked
        | inr queued ↦ absurd (false≢true (sym (ap (λ q. has_number q m) (drop-all queue at past)) ∙ queued))
      ]

pub walk-nears : (vs : List Value) (marks : List Bool) (queue : List ℕ) (at : ℕ) → All (IsBelow (length marks)) vs → at < length queue
    → unmarked (marks_met vs marks) + (length (queue_met vs marks queue) - suc at) < unmarked marks + (length queue - at)
walk-nears vs marks queue at below inside =
    let met = is-met vs marks queue below in
    let balanced = met.balance in
    let sum = length-append queue met.more in
    let longer : length (queue_met vs marks queue) ≡ length (queue ++ met.more) = ap length met.queue_is in
    omega (arith, balanced, sum, longer, inside)
