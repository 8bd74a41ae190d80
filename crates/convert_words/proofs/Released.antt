-- A closed set of settled threads is sealed: its objects one after another, then its queues.
use Rattle.std.proofs.Common.{◌≡◌, ◌⊎◌, inl, inr, ℕ, zero, suc, ◌+◌, ◌<◌, ◌≤◌, Bool, true, false, List, [], ◌∷◌, length, refl}
use Rattle.std.proofs.Common.{sym, ◌∙◌, ap, subst, arith, slice_set, length-set}
use Rattle.std.specs.Prelude.{slice_index_or}
use Rattle.std.proofs.lemmas.Bool.{false≢true}
use Rattle.std.proofs.lemmas.List.Sums.{sum_by-cons}
use Rattle.twin_forms.specs.Table.{Entry, entry, View, lines_of, HasCopied, IsClaimed, InP}
use Rattle.twin_forms.specs.Moves.{Moved, sealed}
use Rattle.twin_forms.proofs.Led.{same_or_not}
use Rattle.twin_forms.proofs.Elsewhere.{entry_here, entry_other}
use Rattle.convert_queue.specs.declared.phase.Phase.{Phase}
use Rattle.convert_queue.specs.declared.phase.Phase.TheVariants.{Copy}
use Rattle.convert_queue.specs.Marks.{mark_at}
use Rattle.convert_queue.specs.Queues.{Queued, Queues, queue_in, queue_of, place_of, phase_of, total, IsSettled}
use Rattle.convert_queue.specs.Threads.{has, needs_of}
use Rattle.convert_words.specs.Agreeing.{Is, Met, current_word, Agrees}
use Rattle.convert_words.specs.Sealing.{SealedBy, AreSealed, OfSet, Released}
use Rattle.convert_words.specs.Steps.{IsQuiet}
use Rattle.convert_words.proofs.Basics.{claimed_once}
use Rattle.convert_words.proofs.Tied.{IsNoted}
use Rattle.convert_words.proofs.Moves.{way_kept, follows_moved, reaches_at, resolved_on}
use Rattle.convert_words.proofs.Settled.{settled_forwarded}

yes_or_no : (b : Bool) → (b ≡ true) ⊎ (b ≡ false)
yes_or_no true = inl refl
yes_or_no false = inr refl

zero_or : (x : ℕ) → (x ≡ 0) ⊎ ((t : ℕ) × (x ≡ t + 1))
zero_or zero = inl refl
zero_or (suc t) = inr (t, omega arith)

-- ---- one object after another

pub none_sealed : (es : List Entry) → AreSealed (λ _. ⊥) es es
none_sealed es = record { long = refl; here = λ n ln no. absurd no; others = λ n ln _. refl }

-- one more
pub one_sealed : (Those : ℕ → Type 0) (es es' : List Entry) (n : ℕ) → n < length es → AreSealed Those es es' → entry es' n
    ≡ entry es n → AreSealed (λ m. Those m ⊎ (m ≡ n)) es (slice_set es' n (sealed (entry es' n)))
one_sealed Those es es' n ln s same =
    let e' = sealed (entry es' n) in
    let long = s.long in
    let here : entry (slice_set es' n e') n ≡ sealed (entry es n) = entry_here es' n e' (omega (arith, ln, long)) ∙ ap sealed same in
    record {
      long = length-set es' n e' ∙ s.long;
      here = λ m lm those. elim (same_or_not m n) [
        | inl eq ↦ ap (entry (slice_set es' n e')) eq ∙ here ∙ ap (λ x. sealed (entry es x)) (sym eq)
        | inr ne ↦ entry_other es' n m e' ne ∙ s.here m lm (elim those [ inl x ↦ x | inr eq ↦ absurd (ne eq) ])
      ];
      others = λ m lm no. entry_other es' n m e' (λ eq. no (inr eq)) ∙ s.others m lm (λ x. no (inl x));
    }

pub sealed_alike : (Those These : ℕ → Type 0) (es es' : List Entry) → ((n : ℕ) → n < length es → Those n → These n) →
    ((n : ℕ) → n < length es → These n → Those n) → AreSealed Those es es' → AreSealed These es es'
sealed_alike Those These es es' on back s = record { long = s.long; here = λ n ln these. s.here n ln (back n ln these); others = λ n ln no. s.others n ln (λ x. no (on n ln x)) }

-- ---- who has claimed what

none_of : (es : List Entry) (set n : ℕ) → (entry es n).owner ≡ 0 → OfSet es set n → ⊥
none_of es set n z x = let o = x.2.1 in omega (arith, z, o)

outside : (es : List Entry) (set t n : ℕ) → IsClaimed es t n → has set t ≡ false → OfSet es set n → ⊥
outside es set t n c out x = let eq : x.0 ≡ t = claimed_once es x.0 t n x.2 c in false≢true (sym out ∙ subst (λ y. has set y ≡ true) eq x.1)

-- an object is sealed, or lies as it did
one_or : (es es' : List Entry) (set n : ℕ) → AreSealed (OfSet es set) es es' → n < length es →
    (OfSet es set n × (entry es' n ≡ sealed (entry es n))) ⊎ ((OfSet es set n → ⊥) × (entry es' n ≡ entry es n))
one_or es es' set n s ln = elim (zero_or (entry es n).owner) [
  | inl z ↦ inr (none_of es set n z, s.others n ln (none_of es set n z))
  | inr x ↦ (let c : IsClaimed es x.0 n = (ln, x.1) in elim (yes_or_no (has set x.0)) [
    | inl y ↦ (let those : OfSet es set n = (x.0, y, c) in inl (those, s.here n ln those))
    | inr out ↦ inr (outside es set x.0 n c out, s.others n ln (outside es set x.0 n c out))
  ])
]

claimed_back : (es es' : List Entry) (set t n : ℕ) → AreSealed (OfSet es set) es es' → IsClaimed es' t n → IsClaimed es t n × (has set t ≡ false) × (entry es' n ≡ entry es n)
claimed_back es es' set t n s c =
    let long = s.long in
    let lt = c.0 in
    let ln : n < length es = omega (arith, lt, long) in
    elim (one_or es es' set n s ln) [
      | inl x ↦ absurd (let o : 0 ≡ t + 1 = sym (ap (λ e. e.owner) x.1) ∙ c.1 in omega (arith, o))
      | inr x ↦ (let d : IsClaimed es t n = (ln, sym (ap (λ e. e.owner) x.1) ∙ c.1) in (d, elim (yes_or_no (has set t)) [ inl y ↦ absurd (x.0 (t, y, d)) | inr out ↦ out ], x.1))
    ]

claimed_on : (es es' : List Entry) (set t n : ℕ) → AreSealed (OfSet es set) es es' → has set t ≡ false → IsClaimed es t n → IsClaimed es' t n × (entry es' n ≡ entry es n)
claimed_on es es' set t n s out c =
    let same = s.others n c.0 (outside es set t n c out) in
    let long = s.long in
    let lt = c.0 in
    ((omega (arith, lt, long), ap (λ e. e.owner) same ∙ c.1), same)

-- ---- what is durable then

-- Exactly what was durable and what the set has claimed is durable.
pub sealed_is : (v : View) (held : ℕ → ℕ → Type 0) (back : ℕ → Type 0) (q : Queues) (free : ℕ) (keys : ℕ → Type 0) (es es' : List Entry) (set n : ℕ) →
    Agrees v held back q free keys es → ((t : ℕ) → has set t ≡ true → IsSettled q t) → AreSealed (OfSet es set) es es' → SealedBy es set n → InP es' n
sealed_is v held back q free keys es es' set n a settled s (inl p) =
    let same = s.others n p.0 (none_of es set n p.2) in
    let long = s.long in
    let lt = p.0 in
    (omega (arith, lt, long), subst (λ e. 1 < e.stage) (sym same) p.1, ap (λ e. e.owner) same ∙ p.2)
sealed_is v held back q free keys es es' set n a settled s (inr x) =
    let two = settled_forwarded v held back q free keys es x.0 n a (settled x.0 x.1) x.2 in
    let ln = x.2.0 in
    let long = s.long in
    let same = s.here n ln x in
    (omega (arith, ln, long), subst (λ e. 1 < e.stage) (sym same) (omega (arith, two)), ap (λ e. e.owner) same)

pub only_sealed : (es es' : List Entry) (set n : ℕ) → AreSealed (OfSet es set) es es' → InP es' n → SealedBy es set n
only_sealed es es' set n s p =
    let long = s.long in
    let lt = p.0 in
    let ln : n < length es = omega (arith, lt, long) in
    elim (one_or es es' set n s ln) [
      | inl x ↦ inr x.0
      | inr x ↦ inl (ln, subst (λ e. 1 < e.stage) x.1 p.1, sym (ap (λ e. e.owner) x.1) ∙ p.2)
    ]

-- ---- the queues

total_less : (xs ys : List (List Queued)) → length xs ≡ length ys → ((t : ℕ) → length (queue_in xs t) ≤ length (queue_in ys t)) → total xs ≤ total ys
total_less [] [] long less = omega arith
total_less [] (y ∷ ys) long less = absurd (omega (arith, long))
total_less (x ∷ xs) [] long less = absurd (omega (arith, long))
total_less (x ∷ xs) (y ∷ ys) long less =
    let here = less 0 in
    let rest = total_less xs ys (omega (arith, long)) (λ t. less (suc t)) in
    let a = sum_by-cons (λ (queue : List Queued). length queue) x xs in
    let b = sum_by-cons (λ (queue : List Queued). length queue) y ys in
    omega (arith, here, rest, a, b)

released_less : (set : ℕ) (q q' : Queues) → Released set q q' → total q'.queues ≤ total q.queues
released_less set q q' r = total_less q'.queues q.queues r.queues
    (λ t. elim (yes_or_no (has set t)) [
      | inl y ↦ (let e : length (queue_of q' t) ≡ 0 = ap length (r.empty t y) in omega (arith, e))
      | inr out ↦ (let e : length (queue_of q' t) ≡ length (queue_of q t) = ap length (r.kept t out) in omega (arith, e))
    ])

on_list : (xs ys : List Queued) (P : List Queued → Type 0) → xs ≡ ys → P ys → P xs
on_list xs ys P e p = subst P (sym e) p

is_back : (es es' : List Entry) (q q' : Queues) (set t i n : ℕ) → AreSealed (OfSet es set) es es' → Released set q q' → Is
    q' es' t i n → Is q es t i n × (has set t ≡ false) × (entry es' n ≡ entry es n)
is_back es es' q q' set t i n s r is =
    let b = claimed_back es es' set t n s is.claimed in
    let same = sym (r.kept t b.1) in (
      record {
        within = on_list (queue_of q t) (queue_of q' t) (λ x. i < length x) same is.within;
        claimed = b.0;
        placed = subst (λ e. 0 < e.stage) b.2 is.placed;
        object = on_list (queue_of q t) (queue_of q' t) (λ x. (slice_index_or x i (0, 0)).0 ≡ (entry es n).at) same (is.object ∙ ap (λ e. e.at) b.2);
        line = on_list (queue_of q t) (queue_of q' t) (λ x. (slice_index_or x i (0, 0)).1 ≡ (entry es n).line) same (is.line ∙ ap (λ e. e.line) b.2);
      },
      b.1,
      b.2,
    )

is_on : (es es' : List Entry) (q q' : Queues) (set t i n : ℕ) → AreSealed (OfSet es set) es es' → Released set q q' → has set t ≡ false → Is q es t i n → Is q' es' t i n
is_on es es' q q' set t i n s r out is =
    let b = claimed_on es es' set t n s out is.claimed in
    let same = r.kept t out in record {
      within = on_list (queue_of q' t) (queue_of q t) (λ x. i < length x) same is.within;
      claimed = b.0;
      placed = subst (λ e. 0 < e.stage) (sym b.1) is.placed;
      object = on_list (queue_of q' t) (queue_of q t) (λ x. (slice_index_or x i (0, 0)).0 ≡ (entry es' n).at) same (is.object ∙ ap (λ e. e.at) (sym b.1));
      line = on_list (queue_of q' t) (queue_of q t) (λ x. (slice_index_or x i (0, 0)).1 ≡ (entry es' n).line) same (is.line ∙ ap (λ e. e.line) (sym b.1));
    }

-- Sealing settled threads keeps the agreement.
pub agrees_sealed : (v v' : View) (held held' : ℕ → ℕ → Type 0) (back back' : ℕ → Type 0) (q q' : Queues) (free : ℕ) (keys : ℕ → Type 0) (es es' : List Entry) (set : ℕ) →
    ((t : ℕ) → has set t ≡ true → IsSettled q t) → Moved v es v' es' → AreSealed (OfSet es set) es es' → IsQuiet v v' held held' back back' → Released set q q' →
    Agrees v held back q free keys es → Agrees v' held' back' q' free keys es'
agrees_sealed v v' held held' back back' q q' free keys es es' set settled moved s quiet r a = record {
  lies = moved.lies;
  sizes = record {
    queues = r.queues ∙ a.sizes.queues;
    places = ap length r.places ∙ a.sizes.places;
    phases = ap length r.phases ∙ a.sizes.phases;
    needs = r.needs ∙ a.sizes.needs;
    marks = ap length r.marks ∙ a.sizes.marks ∙ sym quiet.lines;
  };
  queued = record {
    there = λ t i lt. elim (yes_or_no (has set t)) [
      | inl y ↦ absurd (let e : length (queue_of q' t) ≡ 0 = ap length (r.empty t y) in omega (arith, e, lt))
      | inr out ↦ (let x = a.queued.there t i (on_list (queue_of q t) (queue_of q' t) (λ z. i < length z) (sym (r.kept t out)) lt) in (x.0, is_on es es' q q' set t i x.0 s r out x.1))
    ];
    all = λ t n c. let b = claimed_back es es' set t n s c in let x = a.queued.all t n b.0 in (x.0, is_on es es' q q' set t x.0 n s r b.1 x.1);
    once = λ t i j n x y. a.queued.once t i j n (is_back es es' q q' set t i n s r x).0 (is_back es es' q q' set t j n s r y).0;
  };
  on_way = λ t i n is.
      let b = is_back es es' q q' set t i n s r is in
      let st = a.on_way t i n b.0 in
      let out = b.1 in
      let met : (m : ℕ) → m < length es → Met es (needs_of q.needs) t m → Met es' (needs_of q'.needs) t m = λ m lm x. elim x [
        | inl p ↦ inl (sealed_is v held back q free keys es es' set m a settled s (inl p))
        | inr y ↦ elim y [
          | inl own ↦ inr (inl (claimed_on es es' set t m s out own).0)
          | inr z ↦ elim (yes_or_no (has set z.0)) [
            | inl in_set ↦ inl (sealed_is v held back q free keys es es' set m a settled s (inr (z.0, in_set, z.2)))
            | inr not_in ↦ inr (inr (z.0, r.needed t z.0 out not_in ∙ z.1, (claimed_on es es' set z.0 m s not_in z.2).0))
          ]
        ]
      ] in
      way_kept (λ _. ⊥) v v' held held' back back' q q' es es' t i n quiet a.lies s.long met b.0 b.2 (follows_moved v v' es es' n a.lies moved b.0.claimed.0 b.2)
      (λ c lc hc. (λ x. x, ap (λ y. mark_at y ((entry es n).line + c)) r.marks))
      (reaches_at v es (needs_of q.needs) (phase_of q t) (phase_of q' t) (place_of q t).0 (place_of q' t).0 (place_of q t).1 (place_of q' t).1 t i (entry es n)
      (ap (λ (y : List Phase). slice_index_or y t Copy) r.phases)
      (ap (λ (y : List (ℕ × ℕ)). (slice_index_or y t (0, 0)).0) r.places)
      (ap (λ (y : List (ℕ × ℕ)). (slice_index_or y t (0, 0)).1) r.places) st.reaches)
      st.tied;
  noted = λ t l noted.
      let old : IsNoted q.marks t l = subst (λ y. IsNoted y t l) r.marks noted in
      let x = a.noted t l old in
      elim (yes_or_no (has set t)) [
        | inl y ↦ absurd (elim old [ inl st ↦ (settled t y).clean.written l st | inr w ↦ (settled t y).clean.fenced l w ])
        | inr out ↦ (let b = claimed_on es es' set t x.n s out x.claimed in record {
          n = x.n;
          c = x.c;
          claimed = b.0;
          within = subst (λ e. x.c < lines_of e) (sym b.1) x.within;
          copied = subst (λ e. HasCopied e x.c) (sym b.1) x.copied;
          here = x.here ∙ ap (λ e. e.line + x.c) (sym b.1);
        })
      ];
  real = λ t u lt lu need. elim (yes_or_no (has set t)) [
    | inl y ↦ absurd (false≢true (sym (r.no_more t u lt lu (inl y)) ∙ need))
    | inr t_out ↦ elim (yes_or_no (has set u)) [
      | inl y ↦ absurd (false≢true (sym (r.no_more t u lt lu (inr y)) ∙ need))
      | inr u_out ↦ (let x = a.real t u lt lu (sym (r.needed t u t_out u_out) ∙ need) in (x.0, (claimed_on es es' set u x.0 s u_out x.1).0))
    ]
  ];
  below = λ n ln some.
      let long = s.long in
      let l1 : n < length es = omega (arith, ln, long) in
      elim (one_or es es' set n s l1) [
        | inl x ↦ subst (λ e. e.line + lines_of e ≤ free) (sym x.1) (a.below n l1 (subst (λ e. 0 < e.stage) x.1 some))
        | inr x ↦ subst (λ e. e.line + lines_of e ≤ free) (sym x.1) (a.below n l1 (subst (λ e. 0 < e.stage) x.1 some))
      ];
  few = let less = released_less set q q' r in let old = a.few in omega (arith, less, old);
  resolved = λ w key. resolved_on es es' w s.long
      (λ n ln. elim (one_or es es' set n s ln) [ inl x ↦ ap current_word x.1 | inr x ↦ ap current_word x.1 ])
      (a.resolved w key);
}
