-- An ordinary object is claimed: it takes the first lines that are left, and stands at the end of the thread's queue.
use Rattle.std.proofs.Common.{◌≡◌, ◌≢◌, ◌⊎◌, inl, inr, ℕ, ◌+◌, ◌*◌, ◌<◌, ◌≤◌, ◌++◌, [], ◌∷◌, List, length, refl, sym, ◌∙◌, ap}
use Rattle.std.proofs.Common.{subst, arith, length-set}
use Rattle.std.specs.Prelude.{slice_index_or}
use Rattle.std.proofs.lemmas.Grind.{common_steps}
use Rattle.std.proofs.lemmas.List.{get_or-append-add, get_or_append_left, length-append, get_or-set_same, get_or-set_other}
use Rattle.std.proofs.lemmas.List.Sums.{sum_by-set}
use Rattle.twin_forms.specs.Table.{Entry, entry, View, lines_of, line_of, HasCopied, IsClaimed}
use Rattle.twin_forms.specs.Moves.{Moved}
use Rattle.twin_forms.proofs.Led.{same_or_not}
use Rattle.convert_queue.specs.declared.phase.Phase.TheVariants.{Copy}
use Rattle.convert_queue.specs.Queues.{Queued, Queues, queue_of, place_of, phase_of, total}
use Rattle.convert_queue.specs.Threads.{needs_of}
use Rattle.convert_words.specs.Agreeing.{item_in, Is, Far, Met, IsCopied, current_word, OnItsWay, Agrees}
use Rattle.convert_words.specs.Steps.{IsQuiet, with_object, OneBecomes, claimed_at}
use Rattle.convert_words.proofs.Basics.{young}
use Rattle.convert_words.proofs.Moves.{way_kept, follows_moved, resolved_on}
use Rattle.convert_words.proofs.Copying.{not_mended}

pub queue_own : (q : Queues) (t object line : ℕ) → t < length q.queues → queue_of (with_object q t object line) t ≡ queue_of q t ++ (object, line) ∷ []
queue_own q t object line lt = get_or-set_same q.queues t (queue_of q t ++ (object, line) ∷ []) [] lt

pub queue_other : (q : Queues) (t u object line : ℕ) → u ≢ t → queue_of (with_object q t object line) u ≡ queue_of q u
queue_other q t u object line ne = get_or-set_other q.queues t u (queue_of q t ++ (object, line) ∷ []) [] ne

pub total_more : (q : Queues) (t object line : ℕ) → t < length q.queues → total (with_object q t object line).queues ≡ total q.queues + 1
total_more q t object line lt =
    let x : Queued = (object, line) in
    let sum = sum_by-set (λ (queue : List Queued). length queue) q.queues t (queue_of q t ++ x ∷ []) [] lt in
    let long : length (queue_of q t ++ x ∷ []) ≡ length (queue_of q t) + 1 = length-append (queue_of q t) (x ∷ []) in
    omega (arith, sum, long)

some_end : (i n : ℕ) → i < n + 1 → (i < n) ⊎ (i ≡ n)
some_end i n lt = grind arith

young_word : (e : Entry) → e.stage < 2 → current_word e ≡ 2 * e.at + 1
young_word e lt = grind (arith, common_steps)

pub agrees_claimed : (v v' : View) (held held' : ℕ → ℕ → Type 0) (back back' : ℕ → Type 0) (q : Queues) (free : ℕ) (keys : ℕ → Type 0) (es es' : List Entry) (t n : ℕ) →
    n < length es → (entry es n).stage ≡ 0 → (entry es n).owner ≡ 0 → t < 64 → phase_of q t ≡ Copy →
    ((place_of q t).0 < length (queue_of q t)) ⊎ (((place_of q t).0 ≡ length (queue_of q t)) × ((place_of q t).1 ≡ 0)) →
    Moved v es v' es' → OneBecomes n (claimed_at t free (entry es n)) es es' → IsQuiet v v' held held' back back' →
    Agrees v held back q free keys es → Agrees v' held' back' (with_object q t (entry es n).at free) (free + lines_of (entry es n)) keys es'
agrees_claimed v v' held held' back back' q free keys es es' t n ln zero_stage nobody few_t copying place moved one quiet a = record {
  lies = moved.lies;
  sizes = record {
    queues = length-set q.queues t (queue_of q t ++ x ∷ []) ∙ a.sizes.queues;
    places = a.sizes.places;
    phases = a.sizes.phases;
    needs = a.sizes.needs;
    marks = a.sizes.marks ∙ sym quiet.lines;
  };
  queued = record {
    there = λ u i lt. elim (same_or_not u t) [
      | inl eq ↦ elim (some_end i (length (queue_of q t)) (let y = subst (λ k. i < length (queue_of q' k)) eq lt in omega (arith, y, own_long))) [
        | inl low ↦ (let o = a.queued.there t i low in (o.0, is_on u i o.0 (subst (λ k. Is q es k i o.0) (sym eq) o.1)))
        | inr top ↦ (n, subst (λ k. Is q' es' k i n) (sym eq) (subst (λ k. Is q' es' t k n) (sym top) new_is))
      ]
      | inr ne ↦ (let o = a.queued.there u i (subst (λ z. i < length z) (queue_other q t u e.at free ne) lt) in (o.0, is_on u i o.0 o.1))
    ];
    all = λ u m c. elim (same_or_not m n) [
      | inl eq ↦ (let ut = owner_new u m eq c in (length (queue_of q t), subst (λ k. Is q' es' k (length (queue_of q t)) m) (sym ut) (subst (Is q' es' t (length (queue_of q t))) (sym eq) new_is)))
      | inr ne ↦ (let o = a.queued.all u m (claimed_back u m ne c) in (o.0, is_on u o.0 m o.1))
    ];
    once = λ u i j m x1 y1. elim (same_or_not m n) [
      | inl eq ↦ new_at u i m eq x1 ∙ sym (new_at u j m eq y1)
      | inr ne ↦ a.queued.once u i j m (is_back u i m ne x1) (is_back u j m ne y1)
    ];
  };
  on_way = λ u i m is. elim (same_or_not m n) [
    | inl eq ↦ (
        let ut = owner_new u m eq is.claimed in
        let top = new_at u i m eq is in
        subst (λ k. OnItsWay v' es' held' back' q' u i (entry es' k)) (sym eq)
        (subst (λ k. OnItsWay v' es' held' back' q' k i (entry es' n)) (sym ut)
        (subst (λ k. OnItsWay v' es' held' back' q' t k (entry es' n)) (sym top) new_way)))
    | inr ne ↦ (
        let o = is_back u i m ne is in
        let s = a.on_way u i m o in
        way_kept (λ _. ⊥) v v' held held' back back' q q' es es' u i m quiet a.lies one.long (met_on u) o (one.others m ne) (follows_moved v v' es es' m a.lies moved o.claimed.0 (one.others m ne))
        (λ c lc hc. (λ y. y, refl)) s.reaches s.tied)
  ];
  noted = λ u l noted. copied_on u l (a.noted u l noted);
  real = λ u w lu lw need. let y = a.real u w lu lw need in (y.0, claimed_on w y.0 y.1);
  below = λ m lm some. elim (same_or_not m n) [
    | inl eq ↦ (let l : (entry es' m).line ≡ free = ap (λ k. (entry es' k).line) eq ∙ ap (λ k. k.line) one.here in let s :
        (entry es' m).slots ≡ e.slots = ap (λ k. (entry es' k).slots) eq ∙ ap (λ k. k.slots) one.here in omega
        (arith, l, s))
    | inr ne ↦ (let same = one.others m ne in let long = one.long in let b = a.below m (omega (arith, lm, long))
        (subst (λ k. 0 < k.stage) same some) in subst (λ k. k.line + lines_of k ≤ free + lines_of e) (sym same)
        (omega (arith, b)))
  ];
  few = let sum = total_more q t e.at free tq in let old = a.few in omega (arith, sum, old);
  resolved = λ w key. resolved_on es es' w one.long
      (λ m lm. elim (same_or_not m n) [
        | inl eq ↦ ap (λ k. current_word (entry es' k)) eq ∙ ap current_word one.here ∙ sym (young_word e (omega (arith, zero_stage))) ∙ ap (λ k. current_word (entry es k)) (sym eq)
        | inr ne ↦ ap current_word (one.others m ne)
      ])
      (a.resolved w key);
}
  where
    e : Entry
    e = entry es n

    e' : Entry
    e' = claimed_at t free e

    q' : Queues
    q' = with_object q t e.at free

    x : Queued
    x = (e.at, free)

    tq : t < length q.queues
    tq = let y = a.sizes.queues in omega (arith, few_t, y)

    own_queue : queue_of q' t ≡ queue_of q t ++ x ∷ []
    own_queue = queue_own q t e.at free tq

    own_long : length (queue_of q' t) ≡ length (queue_of q t) + 1
    own_long = ap length own_queue ∙ length-append (queue_of q t) (x ∷ [])

    -- nobody had claimed it
    not_new : (u m : ℕ) → IsClaimed es u m → m ≢ n
    not_new u m c eq = let z : (entry es m).owner ≡ 0 = ap (λ k. (entry es k).owner) eq ∙ nobody in let o = c.1 in omega (arith, z, o)

    claimed_on : (u m : ℕ) → IsClaimed es u m → IsClaimed es' u m
    claimed_on u m c = let lt = c.0 in let long = one.long in (omega (arith, lt, long), ap (λ k. k.owner) (one.others m (not_new u m c)) ∙ c.1)

    claimed_back : (u m : ℕ) → m ≢ n → IsClaimed es' u m → IsClaimed es u m
    claimed_back u m ne c = let lt = c.0 in let long = one.long in (omega (arith, lt, long), ap (λ k. k.owner) (sym (one.others m ne)) ∙ c.1)

    owner_new : (u m : ℕ) → m ≡ n → IsClaimed es' u m → u ≡ t
    owner_new u m eq c = let z : t + 1 ≡ u + 1 = ap (λ k. k.owner) (sym one.here) ∙ ap (λ k. (entry es' k).owner) (sym eq) ∙ c.1 in omega (arith, z)

    copied_on : (u l : ℕ) → IsCopied es u l → IsCopied es' u l
    copied_on u l y =
        let same = one.others y.n (not_new u y.n y.claimed) in
        record {
          n = y.n;
          c = y.c;
          claimed = claimed_on u y.n y.claimed;
          within = subst (λ k. y.c < lines_of k) (sym same) y.within;
          copied = subst (λ k. HasCopied k y.c) (sym same) y.copied;
          here = y.here ∙ ap (λ k. k.line + y.c) (sym same);
        }

    met_on : (u m : ℕ) → m < length es → Met es (needs_of q.needs) u m → Met es' (needs_of q.needs) u m
    met_on u m lm (inl p) =
        let ne : m ≢ n = λ eq. let z : (entry es m).stage ≡ 0 = ap (λ k. (entry es k).stage) eq ∙ zero_stage in let c = p.1 in omega (arith, z, c) in
        let long = one.long in
        inl (omega (arith, lm, long), subst (λ k. 1 < k.stage) (sym (one.others m ne)) p.1, ap (λ k. k.owner) (one.others m ne) ∙ p.2)
    met_on u m lm (inr (inl c)) = inr (inl (claimed_on u m c))
    met_on u m lm (inr (inr y)) = inr (inr (y.0, y.1, claimed_on y.0 m y.2))

    last : slice_index_or (queue_of q t ++ x ∷ []) (length (queue_of q t)) (0, 0) ≡ x
    last = ap (λ k. slice_index_or (queue_of q t ++ x ∷ []) k (0, 0))
        (let z : length (queue_of q t) ≡ length (queue_of q t) + 0 = omega arith in z) ∙ get_or-append-add (queue_of q t)
        (x ∷ []) 0 (0, 0)

    new_item : item_in q'.queues t (length (queue_of q t)) ≡ x
    new_item = ap (λ (k : List Queued). slice_index_or k (length (queue_of q t)) (0, 0)) own_queue ∙ last

    new_is : Is q' es' t (length (queue_of q t)) n
    new_is = record {
      within = omega (arith, own_long);
      claimed = (let long = one.long in omega (arith, ln, long), ap (λ k. k.owner) one.here);
      placed = subst (λ k. 0 < k.stage) (sym one.here) (omega arith);
      object = ap (λ (k : Queued). k.0) new_item ∙ ap (λ k. k.at) (sym one.here);
      line = ap (λ (k : Queued). k.1) new_item ∙ ap (λ k. k.line) (sym one.here);
    }

    item_on : (u i : ℕ) → i < length (queue_of q u) → item_in q'.queues u i ≡ item_in q.queues u i
    item_on u i lt = elim (same_or_not u t) [
      | inl eq ↦ ap (λ k. item_in q'.queues k i) eq ∙ ap (λ (k : List Queued). slice_index_or k i (0, 0)) own_queue ∙
          get_or_append_left (queue_of q t) (x ∷ []) (0, 0) i (subst (λ k. i < length (queue_of q k)) eq lt) ∙ ap
          (λ k. item_in q.queues k i) (sym eq)
      | inr ne ↦ ap (λ (k : List Queued). slice_index_or k i (0, 0)) (queue_other q t u e.at free ne)
    ]

    within_on : (u i : ℕ) → i < length (queue_of q u) → i < length (queue_of q' u)
    within_on u i lt = elim (same_or_not u t) [
      | inl eq ↦ (let y = subst (λ k. i < length (queue_of q k)) eq lt in subst (λ k. i < length (queue_of q' k)) (sym eq) (omega (arith, own_long, y)))
      | inr ne ↦ subst (λ k. i < length k) (sym (queue_other q t u e.at free ne)) lt
    ]

    is_on : (u i m : ℕ) → Is q es u i m → Is q' es' u i m
    is_on u i m is =
        let same = one.others m (not_new u m is.claimed) in
        record {
          within = within_on u i is.within;
          claimed = claimed_on u m is.claimed;
          placed = subst (λ k. 0 < k.stage) (sym same) is.placed;
          object = ap (λ (k : Queued). k.0) (item_on u i is.within) ∙ is.object ∙ ap (λ k. k.at) (sym same);
          line = ap (λ (k : Queued). k.1) (item_on u i is.within) ∙ is.line ∙ ap (λ k. k.line) (sym same);
        }

    -- the new object stands at the end alone
    same_at : (u m : ℕ) → IsClaimed es u m → (entry es m).at ≡ e.at → m ≡ n
    same_at u m c at = elim (same_or_not m n) [
      | inl eq ↦ eq
      | inr ne ↦ absurd
          (elim (a.lies.table.old_apart m n c.0 ln ne (young v es u m a.lies c) (omega (arith, zero_stage)))
          [ inl z ↦ omega (arith, z, at) | inr z ↦ omega (arith, z, at) ])
    ]

    before_not : (u i : ℕ) → i < length (queue_of q u) → (item_in q'.queues u i).0 ≡ e.at → ⊥
    before_not u i lt at =
        let o = a.queued.there u i lt in
        not_new u o.0 o.1.claimed (same_at u o.0 o.1.claimed (sym o.1.object ∙ ap (λ (k : Queued). k.0) (sym (item_on u i lt)) ∙ at))

    below_end : (i : ℕ) → i < length (queue_of q' t) → i < length (queue_of q t) + 1
    below_end i lt = omega (arith, lt, own_long)

    new_at : (u i m : ℕ) → m ≡ n → Is q' es' u i m → i ≡ length (queue_of q t)
    new_at u i m eq is =
        let ut = owner_new u m eq is.claimed in
        let at : (item_in q'.queues u i).0 ≡ e.at = is.object ∙ ap (λ k. (entry es' k).at) eq ∙ ap (λ k. k.at) one.here in
        elim (some_end i (length (queue_of q t)) (below_end i (subst (λ k. i < length (queue_of q' k)) ut is.within))) [
          | inl low ↦ absurd (before_not u i (subst (λ k. i < length (queue_of q k)) (sym ut) low) at)
          | inr top ↦ top
        ]

    is_back : (u i m : ℕ) → m ≢ n → Is q' es' u i m → Is q es u i m
    is_back u i m ne is =
        let same = one.others m ne in
        let c = claimed_back u m ne is.claimed in
        let at : (item_in q'.queues u i).0 ≡ (entry es m).at = is.object ∙ ap (λ k. k.at) same in
        let lt : i < length (queue_of q u) = elim (same_or_not u t) [
          | inl ut ↦ elim (some_end i (length (queue_of q t)) (below_end i (subst (λ k. i < length (queue_of q' k)) ut is.within))) [
            | inl low ↦ subst (λ k. i < length (queue_of q k)) (sym ut) low
            | inr top ↦ absurd (ne (same_at u m c (sym at ∙ ap (λ k. (item_in q'.queues k i).0) ut ∙ ap (λ k. (item_in q'.queues t k).0) top ∙ ap (λ (k : Queued). k.0) new_item)))
          ]
          | inr nu ↦ subst (λ k. i < length k) (queue_other q t u e.at free nu) is.within
        ] in
        record {
          within = lt;
          claimed = c;
          placed = subst (λ k. 0 < k.stage) same is.placed;
          object = ap (λ (k : Queued). k.0) (sym (item_on u i lt)) ∙ at;
          line = ap (λ (k : Queued). k.1) (sym (item_on u i lt)) ∙ is.line ∙ ap (λ k. k.line) same;
        }

    new_way : OnItsWay v' es' held' back' q' t (length (queue_of q t)) (entry es' n)
    new_way = subst (OnItsWay v' es' held' back' q' t (length (queue_of q t))) (sym one.here) (record {
      reaches = record {
        far = subst (λ y. Far y (place_of q t).0 (place_of q t).1 (length (queue_of q t)) e') (sym copying) (
          λ lt. absurd (elim place [ inl z ↦ omega (arith, z, lt) | inr z ↦ (let y = z.0 in omega (arith, y, lt)) ]),
          λ eq. elim place [ inl z ↦ absurd (omega (arith, z, eq)) | inr z ↦ (refl, inl (sym z.1)) ],
          λ lt. (refl, refl),
        );
        met = λ k m ref kept lk hc. absurd (elim hc [ inl z ↦ omega (arith, z) | inr z ↦ (let y = z.1 in omega (arith, y)) ]);
        mended = λ k ref kept lk is_mended. absurd (not_mended (phase_of q t) (place_of q t).0 (place_of q t).1 (length (queue_of q t)) (line_of k) copying is_mended);
      };
      tied = λ c lc hc. absurd (elim hc [ inl z ↦ omega (arith, z) | inr z ↦ (let y = z.1 in omega (arith, y)) ]);
    })
