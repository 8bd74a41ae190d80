-- A new object.
use Rattle.std.proofs.Common.{◌≡◌, ◌⊎◌, inl, inr, ℕ, ◌+◌, ◌%◌, ◌<◌, ◌≤◌, ◌++◌, [], ◌∷◌, true, List, length, sym, ◌∙◌, ap, subst}
use Rattle.std.proofs.Common.{arith}
use Rattle.std.proofs.lemmas.List.{get_or-append-add, get_or_append_left, length-append}
use Rattle.twin_forms.specs.Table.{Entry, no_entry, entry, View, word_of, Names, refers, value_of, shows, lines_of, line_of}
use Rattle.twin_forms.specs.Table.{HasCopied, IsClaimed}
use Rattle.twin_forms.specs.Moves.{Added, fresh}
use Rattle.twin_forms.proofs.Led.{number_is}
use Rattle.twin_forms.proofs.Elsewhere.{positive, value_obj, value_null}
use Rattle.convert_queue.specs.Marks.{mark_at}
use Rattle.convert_queue.specs.Queues.{Queues, place_of, phase_of}
use Rattle.convert_queue.specs.Threads.{needs_of}
use Rattle.convert_words.specs.Agreeing.{Is, Met, Keeps, current_word, OnItsWay, Agrees}
use Rattle.convert_words.specs.Steps.{IsQuiet}
use Rattle.convert_words.proofs.Basics.{room_of, kept_back, keeps_back, word_kept, same_kind, number_plus}
use Rattle.convert_words.proofs.Tied.{tied_kept}
use Rattle.convert_words.proofs.Moves.{mended_two}

below_or_end : (m n : ℕ) → m < n + 1 → (m < n) ⊎ (m ≡ n)
below_or_end m n lt = grind arith

pub agrees_added : (v v' : View) (held held' : ℕ → ℕ → Type 0) (back back' : ℕ → Type 0) (q : Queues) (free : ℕ) (keys : ℕ → Type 0) (es : List Entry) (shape slots : ℕ) →
    Added shape slots v es v' → IsQuiet v v' held held' back back' → Agrees v held back q free keys es → Agrees v' held' back' q free keys (es ++ fresh shape slots v.words ∷ [])
agrees_added v v' held held' back back' q free keys es shape slots added quiet a = record {
  lies = added.lies;
  sizes = record { queues = a.sizes.queues; places = a.sizes.places; phases = a.sizes.phases; needs = a.sizes.needs; marks = a.sizes.marks ∙ sym quiet.lines };
  queued = record {
    there = λ t i lt. let x = a.queued.there t i lt in (x.0, is_on t i x.0 x.1);
    all = λ t n c. let x = a.queued.all t n (claimed_back t n c) in (x.0, is_on t x.0 n x.1);
    once = λ t i j n x y. a.queued.once t i j n (is_back t i n x) (is_back t j n y);
  };
  on_way = λ t i n is.
      let old = is_back t i n is in
      let s = a.on_way t i n old in
      let ln = old.claimed.0 in
      let e = entry es n in
      let room = room_of v es n a.lies ln old.placed in
      subst (OnItsWay v' es' held' back' q t i) (sym (same n ln)) (record {
        reaches = record {
          far = s.reaches.far;
          met = λ k m ref kept lk hc closed lm na.
              let b = leads n k ln lk ref m lm na in
              met_on t m b.0 (s.reaches.met k m (sym (kinds n k ln lk) ∙ ref) (kept_back v v' e k quiet.kept kept) lk hc closed b.0 b.1);
          mended = λ k ref kept lk is_mended.
              let two = mended_two (phase_of q t) (place_of q t).0 (place_of q t).1 i (line_of k) e s.reaches.far is_mended in
              ap (λ x. x % 2) (word_kept (λ _. ⊥) v v' held held' back back' e k quiet two lk room (λ x. x)) ∙
              s.reaches.mended k (sym (kinds n k ln lk) ∙ ref) (kept_back v v' e k quiet.kept kept) lk is_mended;
        };
        tied = λ c lc hc. tied_kept (λ _. ⊥) v v' held held' back back' (Keeps v e) (Keeps v' e) t (e.line + c)
            (mark_at q.marks (e.line + c)) quiet (omega (arith, room, lc)) (λ x. x)
            (λ w kp. keeps_back v v' e w quiet.kept kp) (s.tied c lc hc);
      });
  noted = λ t l noted.
      let x = a.noted t l noted in
      let at = same x.n x.claimed.0 in
      record {
        n = x.n;
        c = x.c;
        claimed = claimed_on t x.n x.claimed;
        within = subst (λ e. x.c < lines_of e) (sym at) x.within;
        copied = subst (λ e. HasCopied e x.c) (sym at) x.copied;
        here = x.here ∙ ap (λ e. e.line + x.c) (sym at);
      };
  real = λ t u lt lu need. let x = a.real t u lt lu need in (x.0, claimed_on u x.0 x.1);
  below = λ n ln some. elim (below_or_end n (length es) (omega (arith, ln, long))) [
    | inl lt ↦ subst (λ e. e.line + lines_of e ≤ free) (sym (same n lt)) (a.below n lt (subst (λ e. 0 < e.stage) (same n lt) some))
    | inr eq ↦ absurd (let z : (entry es' n).stage ≡ 0 = ap (λ k. (entry es' k).stage) eq ∙ ap (λ e. e.stage) last in omega (arith, z, some))
  ];
  few = a.few;
  resolved = λ w key. let x = a.resolved w key in (x.0, (let lt = x.1 in omega (arith, lt, long)), x.2 ∙ ap current_word (sym (same x.0 x.1)));
}
  where
    es' : List Entry
    es' = es ++ fresh shape slots v.words ∷ []

    long : length es' ≡ length es + 1
    long = length-append es (fresh shape slots v.words ∷ [])

    same : (n : ℕ) → n < length es → entry es' n ≡ entry es n
    same n ln = get_or_append_left es (fresh shape slots v.words ∷ []) no_entry n ln

    last : entry es' (length es) ≡ fresh shape slots v.words
    last = ap (entry es') (let z : length es ≡ length es + 0 = omega arith in z) ∙ get_or-append-add es (fresh shape slots v.words ∷ []) 0 no_entry

    claimed_on : (t n : ℕ) → IsClaimed es t n → IsClaimed es' t n
    claimed_on t n c = let lt = c.0 in (omega (arith, lt, long), ap (λ e. e.owner) (same n c.0) ∙ c.1)

    claimed_back : (t n : ℕ) → IsClaimed es' t n → IsClaimed es t n
    claimed_back t n c = let lt = c.0 in elim (below_or_end n (length es) (omega (arith, lt, long))) [
      | inl ln ↦ (ln, ap (λ e. e.owner) (sym (same n ln)) ∙ c.1)
      | inr eq ↦ absurd (let z : 0 ≡ t + 1 = ap (λ e. e.owner) (sym last) ∙ ap (λ k. (entry es' k).owner) (sym eq) ∙ c.1 in omega (arith, z))
    ]

    is_on : (t i n : ℕ) → Is q es t i n → Is q es' t i n
    is_on t i n is = let at = same n is.claimed.0 in record {
      within = is.within;
      claimed = claimed_on t n is.claimed;
      placed = subst (λ e. 0 < e.stage) (sym at) is.placed;
      object = is.object ∙ ap (λ e. e.at) (sym at);
      line = is.line ∙ ap (λ e. e.line) (sym at);
    }

    is_back : (t i n : ℕ) → Is q es' t i n → Is q es t i n
    is_back t i n is = let c = claimed_back t n is.claimed in let at = same n c.0 in record {
      within = is.within;
      claimed = c;
      placed = subst (λ e. 0 < e.stage) at is.placed;
      object = is.object ∙ ap (λ e. e.at) at;
      line = is.line ∙ ap (λ e. e.line) at;
    }

    met_on : (t m : ℕ) → m < length es → Met es (needs_of q.needs) t m → Met es' (needs_of q.needs) t m
    met_on t m lm (inl p) = inl (omega (arith, lm, long), subst (λ e. 1 < e.stage) (sym (same m lm)) p.1, ap (λ e. e.owner) (same m lm) ∙ p.2)
    met_on t m lm (inr (inl c)) = inr (inl (claimed_on t m c))
    met_on t m lm (inr (inr x)) = inr (inr (x.0, x.1, claimed_on x.0 m x.2))

    shown_same : (n k : ℕ) → n < length es → k < (entry es n).slots → value_of v' (refers v' (entry es n) k) (word_of v' (entry es n) k) ≡ shows v es n k
    shown_same n k ln lk = subst (λ e. value_of v' (refers v' e k) (word_of v' e k) ≡ shows v es n k) (same n ln) (added.same n k ln lk)

    kinds : (n k : ℕ) → n < length es → k < (entry es n).slots → refers v' (entry es n) k ≡ refers v (entry es n) k
    kinds n k ln lk = same_kind v' v (refers v' (entry es n) k) (refers v (entry es n) k) (word_of v' (entry es n) k) (word_of v (entry es n) k) (shown_same n k ln lk)

    leads : (n k : ℕ) → n < length es → k < (entry es n).slots → refers v' (entry es n) k ≡ true → (m : ℕ) → m < length es'
        → Names (entry es' m) (word_of v' (entry es n) k) → (m < length es) × Names (entry es m) (word_of v (entry es n) k)
    leads n k ln lk ref m lm na =
        let w = word_of v (entry es n) k in
        let w' = word_of v' (entry es n) k in
        let old : refers v (entry es n) k ≡ true = sym (kinds n k ln lk) ∙ ref in
        let after : number_plus (value_of v' (refers v' (entry es n) k) w') ≡ m + 1 = ap number_plus
        (value_obj v' (refers v' (entry es n) k) w' ref (positive (entry es' m) w' na)) ∙ ap (λ x. x + 1)
        (number_is v' es' m w' added.lies lm na) in
        let before : number_plus (shows v es n k) ≡ m + 1 = ap number_plus (sym (shown_same n k ln lk)) ∙ after in
        elim (a.lies.refs n k ln old lk) [
          | inl z ↦ absurd (let x : number_plus (shows v es n k) ≡ 0 = ap number_plus (value_null v (refers v (entry es n) k) w old z) in omega (arith, x, before))
          | inr x ↦ (let o : number_plus (shows v es n k) ≡ x.0 + 1 = ap number_plus
              (value_obj v (refers v (entry es n) k) w old (positive (entry es x.0) w x.2)) ∙ ap (λ y. y + 1)
              (number_is v es x.0 w a.lies x.1 x.2) in
              let eq : x.0 ≡ m = omega (arith, o, before) in (subst (λ y. y < length es) eq x.1, subst (λ y. Names (entry es y) w) eq x.2))
        ]
