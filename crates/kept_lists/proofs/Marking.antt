-- Marks by what settled them.
use Rattle.std.proofs.Common.{◌≡◌, ◌≢◌, ℕ, zero, suc, ◌+◌, ◌<◌, ◌≤◌, Bool, true, false, nat_eq, List, [], ◌∷◌, ◌++◌, length, length-append, get_or, set, drop, refl, sym, ◌∙◌, ap, subst, arith, eqb-true, eq-eqb, if◌then◌else◌}
use Rattle.std.specs.Prelude.{nat_lt, slice_set}
use Rattle.std.proofs.lemmas.Bool.{false≢true}
use Rattle.std.proofs.lemmas.List.{get_or-set_same, get_or-set_other, length-set}
use Rattle.run_history.specs.declared.act.Op.{Op}
use Rattle.run_history.specs.declared.act.Op.TheVariants as op
use Rattle.run_history.specs.Recorded.{Recorded}
use Rattle.run_history.specs.Worlds.{depth_of}
use Rattle.run_history.specs.Knowing.{Fate, Sure, Open, Closing, Single, Mark, Knowledge, after_end, closed, durable_at, each_fate, ended, fate_of, fenced, is_outermost, known_after, known_after_op, next_known, store_fate, with_sure}
use Rattle.graph_model.specs.Heaps.{has_number}
use Rattle.plain_model.proofs.Appended.{known_after-append}
use Rattle.kept_lists.specs.declared.doubts.Doubt.{Doubt}
use Rattle.kept_lists.specs.declared.doubts.Doubt.TheVariants as doubt
use Rattle.kept_lists.specs.declared.doubts.Last.{Last}
use Rattle.kept_lists.specs.declared.doubts.Doubts.{Doubts}
use Rattle.kept_lists.specs.Doubts.{StandsFor, doubt_of, fate_now, fate_open, last_after, last_of, lasts_after, marks_from, no_last}
use Rattle.kept_lists.specs.Goes.{WereTold, doubt_at}

-- with one more act
marks-push : (lasts : List Last) (i j : ℕ) (xs : List Recorded) (ds : List Doubt) (a : Recorded) (d : Doubt) → length ds ≡ length xs → j ≡ i + length xs
    → marks_from lasts i (xs ++ a ∷ []) (ds ++ d ∷ [])
    ≡ marks_from lasts i xs ds ++ record { fate = fate_now (last_of lasts a.act.thread) j a.act.thread d; op = a.act.op } ∷ []
marks-push lasts i j [] [] a d long is = let same : i ≡ j = omega (arith, is) in
    ap (λ n. record { fate = fate_now (last_of lasts a.act.thread) n a.act.thread d; op = a.act.op } ∷ []) same
marks-push lasts i j [] (x ∷ ds) a d long is = absurd (omega (arith, long))
marks-push lasts i j (b ∷ xs) [] a d long is = absurd (omega (arith, long))
marks-push lasts i j (b ∷ xs) (x ∷ ds) a d long is =
    ap (λ ms. record { fate = fate_now (last_of lasts b.act.thread) i b.act.thread x; op = b.act.op } ∷ ms)
    (marks-push lasts (suc i) j xs ds a d (omega (arith, long)) (omega (arith, is)))

-- fates of acts before act n that change as what settles them does
marks-each : (f : Fate → Fate) (lasts now : List Last) (n i : ℕ) (xs : List Recorded) (ds : List Doubt)
    → ((j u : ℕ) (d : Doubt) → j < n → f (fate_now (last_of lasts u) j u d) ≡ fate_now (last_of now u) j u d) → i + length xs ≤ n
    → each_fate f (marks_from lasts i xs ds) ≡ marks_from now i xs ds
marks-each f lasts now n i [] ds same few = refl
marks-each f lasts now n i (a ∷ xs) [] same few = refl
marks-each f lasts now n i (a ∷ xs) (d ∷ ds) same few =
    ap (λ x. record { fate = x; op = a.act.op } ∷ each_fate f (marks_from lasts (suc i) xs ds)) (same i a.act.thread d (omega (arith, few)))
    ∙ ap (λ ms. record { fate = fate_now (last_of now a.act.thread) i a.act.thread d; op = a.act.op } ∷ ms)
    (marks-each f lasts now n (suc i) xs ds same (omega (arith, few)))

marks-same : (lasts now : List Last) (i : ℕ) (xs : List Recorded) (ds : List Doubt) → ((u : ℕ) → last_of lasts u ≡ last_of now u)
    → marks_from lasts i xs ds ≡ marks_from now i xs ds
marks-same lasts now i [] ds same = refl
marks-same lasts now i (a ∷ xs) [] same = refl
marks-same lasts now i (a ∷ xs) (d ∷ ds) same =
    ap (λ x. record { fate = fate_now x i a.act.thread d; op = a.act.op } ∷ marks_from lasts (suc i) xs ds) (same a.act.thread)
    ∙ ap (λ ms. record { fate = fate_now (last_of now a.act.thread) i a.act.thread d; op = a.act.op } ∷ ms) (marks-same lasts now (suc i) xs ds same)

less : (j n : ℕ) → j < n → nat_lt j n ≡ true
less j n lt = grind (arith, lt)

not-less : (j n : ℕ) → n ≤ j → nat_lt j n ≡ false
not-less j n le = grind (arith, le)

own : (t : ℕ) → nat_eq t t ≡ true
own t = eq-eqb t t refl

-- ---- a fence, a Closing and an End, of the thread itself and of others

fence-own : (l : Last) (n j t : ℕ) (d : Doubt) → j < n → fenced t (fate_now l j t d) ≡ fate_now (record l { fenced = n }) j t d
fence-own l n j t doubt.Never lt = refl
fence-own l n j t doubt.Single lt = elim (nat_lt j l.fenced) as (λ b. fenced t (if b then Sure else Single t) ≡ (if nat_lt j n then Sure else Single t)) [
  | true ↦ rw (less j n lt) refl
  | false ↦ rw (less j n lt, own t) refl
]
fence-own l n j t doubt.Open lt = elim (nat_lt j l.ended) as (λ b. fenced t (if b then Sure else fate_open l j t) ≡ (if b then Sure else fate_open l j t)) [
  | true ↦ refl
  | false ↦ elim (nat_lt j l.closed) as (λ b. fenced t (if b then Closing t else Open t) ≡ (if b then Closing t else Open t)) [ true ↦ refl | false ↦ refl ]
]
fence-own l n j t doubt.Closing lt = elim (nat_lt j l.ended) as (λ b. fenced t (if b then Sure else Closing t) ≡ (if b then Sure else Closing t)) [ true ↦ refl | false ↦ refl ]

fence-other : (l : Last) (j t u : ℕ) (d : Doubt) → nat_eq u t ≡ false → fenced t (fate_now l j u d) ≡ fate_now l j u d
fence-other l j t u doubt.Never other = refl
fence-other l j t u doubt.Single other = elim (nat_lt j l.fenced) as (λ b. fenced t (if b then Sure else Single u) ≡ (if b then Sure else Single u)) [
  | true ↦ refl
  | false ↦ rw other refl
]
fence-other l j t u doubt.Open other = elim (nat_lt j l.ended) as (λ b. fenced t (if b then Sure else fate_open l j u) ≡ (if b then Sure else fate_open l j u)) [
  | true ↦ refl
  | false ↦ elim (nat_lt j l.closed) as (λ b. fenced t (if b then Closing u else Open u) ≡ (if b then Closing u else Open u)) [ true ↦ refl | false ↦ refl ]
]
fence-other l j t u doubt.Closing other = elim (nat_lt j l.ended) as (λ b. fenced t (if b then Sure else Closing u) ≡ (if b then Sure else Closing u)) [ true ↦ refl | false ↦ refl ]

close-own : (l : Last) (n j t : ℕ) (d : Doubt) → j < n → closed t (fate_now l j t d) ≡ fate_now (record l { closed = n }) j t d
close-own l n j t doubt.Never lt = refl
close-own l n j t doubt.Single lt = elim (nat_lt j l.fenced) as (λ b. closed t (if b then Sure else Single t) ≡ (if b then Sure else Single t)) [ true ↦ refl | false ↦ refl ]
close-own l n j t doubt.Open lt = elim (nat_lt j l.ended) as (λ b. closed t (if b then Sure else fate_open l j t) ≡ (if b then Sure else (if nat_lt j n then Closing t else Open t))) [
  | true ↦ refl
  | false ↦ rw (less j n lt) (elim (nat_lt j l.closed) as (λ b. closed t (if b then Closing t else Open t) ≡ Closing t) [ true ↦ refl | false ↦ rw (own t) refl ])
]
close-own l n j t doubt.Closing lt = elim (nat_lt j l.ended) as (λ b. closed t (if b then Sure else Closing t) ≡ (if b then Sure else Closing t)) [ true ↦ refl | false ↦ refl ]

close-other : (l : Last) (j t u : ℕ) (d : Doubt) → nat_eq u t ≡ false → closed t (fate_now l j u d) ≡ fate_now l j u d
close-other l j t u doubt.Never other = refl
close-other l j t u doubt.Single other = elim (nat_lt j l.fenced) as (λ b. closed t (if b then Sure else Single u) ≡ (if b then Sure else Single u)) [ true ↦ refl | false ↦ refl ]
close-other l j t u doubt.Open other = elim (nat_lt j l.ended) as (λ b. closed t (if b then Sure else fate_open l j u) ≡ (if b then Sure else fate_open l j u)) [
  | true ↦ refl
  | false ↦ elim (nat_lt j l.closed) as (λ b. closed t (if b then Closing u else Open u) ≡ (if b then Closing u else Open u)) [ true ↦ refl | false ↦ rw other refl ]
]
close-other l j t u doubt.Closing other = elim (nat_lt j l.ended) as (λ b. closed t (if b then Sure else Closing u) ≡ (if b then Sure else Closing u)) [ true ↦ refl | false ↦ refl ]

end-own : (l : Last) (n j t : ℕ) (d : Doubt) → j < n → ended t (fate_now l j t d) ≡ fate_now (record l { ended = n }) j t d
end-own l n j t doubt.Never lt = refl
end-own l n j t doubt.Single lt = elim (nat_lt j l.fenced) as (λ b. ended t (if b then Sure else Single t) ≡ (if b then Sure else Single t)) [ true ↦ refl | false ↦ refl ]
end-own l n j t doubt.Open lt = rw (less j n lt) (elim (nat_lt j l.ended) as (λ b. ended t (if b then Sure else fate_open l j t) ≡ Sure) [
  | true ↦ refl
  | false ↦ elim (nat_lt j l.closed) as (λ b. ended t (if b then Closing t else Open t) ≡ Sure) [ true ↦ rw (own t) refl | false ↦ rw (own t) refl ]
])
end-own l n j t doubt.Closing lt = rw (less j n lt) (elim (nat_lt j l.ended) as (λ b. ended t (if b then Sure else Closing t) ≡ Sure) [ true ↦ refl | false ↦ rw (own t) refl ])

end-other : (l : Last) (j t u : ℕ) (d : Doubt) → nat_eq u t ≡ false → ended t (fate_now l j u d) ≡ fate_now l j u d
end-other l j t u doubt.Never other = refl
end-other l j t u doubt.Single other = elim (nat_lt j l.fenced) as (λ b. ended t (if b then Sure else Single u) ≡ (if b then Sure else Single u)) [ true ↦ refl | false ↦ refl ]
end-other l j t u doubt.Open other = elim (nat_lt j l.ended) as (λ b. ended t (if b then Sure else fate_open l j u) ≡ (if b then Sure else fate_open l j u)) [
  | true ↦ refl
  | false ↦ elim (nat_lt j l.closed) as (λ b. ended t (if b then Closing u else Open u) ≡ (if b then Closing u else Open u)) [ true ↦ rw other refl | false ↦ rw other refl ]
]
end-other l j t u doubt.Closing other = elim (nat_lt j l.ended) as (λ b. ended t (if b then Sure else Closing u) ≡ (if b then Sure else Closing u)) [ true ↦ refl | false ↦ rw other refl ]

-- ---- the threads' last acts

module _ (lasts : List Last) (t : ℕ) (below : t < length lasts) (l : Last) where
  set-own : last_of (slice_set lasts t l) t ≡ l
  set-own = get_or-set_same lasts t l no_last below

  set-other : (u : ℕ) → nat_eq u t ≡ false → last_of (slice_set lasts t l) u ≡ last_of lasts u
  set-other u other = get_or-set_other lasts t u l no_last (λ same. false≢true (sym other ∙ eq-eqb u t same))

  -- a fact of the thread's own and of each other's
  each-last : (P : ℕ → Last → Type 0) → P t l → ((u : ℕ) → nat_eq u t ≡ false → P u (last_of lasts u)) → (u : ℕ) → P u (last_of (slice_set lasts t l) u)
  each-last P at others u = elim (nat_eq u t) as (λ b. nat_eq u t ≡ b → P u (last_of (slice_set lasts t l) u)) [
    | true ↦ λ e.
        let same : u ≡ t = eqb-true u t e in
        subst (λ v. P v (last_of (slice_set lasts t l) v)) (sym same) (subst (P t) (sym set-own) at)
    | false ↦ λ e. subst (P u) (sym (set-other u e)) (others u e)
  ] refl

-- the marks after an operation
abbrev marks_after : Knowledge → ℕ → Op → List Mark
marks_after known t op.Fenced = with_sure (each_fate (fenced t) known.marks) op.Fenced
marks_after known t op.Closing = with_sure (each_fate (closed t) known.marks) op.Closing
marks_after known t (op.Stored place value) = known.marks ++ record { fate = fate_of known t place; op = op.Stored place value } ∷ []
marks_after known t op.End = if is_outermost known t then with_sure (each_fate (ended t) known.marks) op.End else with_sure known.marks op.End
marks_after known t o = with_sure known.marks o

end-marks : (known : Knowledge) (t : ℕ) (outermost : Bool)
    → (after_end known t outermost).marks ≡ (if outermost then with_sure (each_fate (ended t) known.marks) op.End else with_sure known.marks op.End)
end-marks known t true = refl
end-marks known t false = refl

marks-next : (known : Knowledge) (t : ℕ) (named : List ℕ) (o : Op) → (known_after_op known t named o).marks ≡ marks_after known t o
unfolding known_after_op
marks-next known t named op.End = end-marks known t (is_outermost known t)
marks-next known t named o = refl

store-doubt : (l : Last) (i t depth : ℕ) (durable closing : Bool) → l.fenced ≤ i → l.closed ≤ i → l.ended ≤ i
    → store_fate t durable depth closing ≡ fate_now l i t (doubt_of durable depth closing)
store-doubt l i t depth false closing f c e = refl
store-doubt l i t zero true closing f c e = rw (not-less i l.fenced f) refl
store-doubt l i t (suc depth) true true f c e = rw (not-less i l.ended e) refl
store-doubt l i t (suc depth) true false f c e = rw (not-less i l.ended e, not-less i l.closed c) refl

module _ (first : Knowledge) (acts : List Recorded) (before now : Doubts) (s : StandsFor first acts before) (t at : ℕ) (named : List ℕ) (small : t < 64) where
  abbrev known : Knowledge
  known = known_after first acts

  abbrev act : Op → Recorded
  act o = record { act = record { thread = t; at = at; op = o }; named = named }

  abbrev lasts : List Last
  lasts = before.lasts.items

  abbrev ds : List Doubt
  ds = before.doubts.items

  abbrev old : Last
  old = last_of lasts t

  below : t < length lasts
  below = let threads = s.threads in omega (arith, small, threads)

  -- where these are the threads' last acts, and fates change so
  settled : (o : Op) (f : Fate → Fate) (l : Last) (d : Doubt) → (w : WereTold known (act o) before now)
      → doubt_at known t o ≡ d → last_after old o (nat_eq (depth_of known.world t) 1) (length ds) ≡ l
      → marks_after known t o ≡ each_fate f known.marks ++ record { fate = fate_now l (length acts) t d; op = o } ∷ []
      → ((j : ℕ) (e : Doubt) → j < length acts → f (fate_now old j t e) ≡ fate_now l j t e)
      → ((j u : ℕ) (e : Doubt) → nat_eq u t ≡ false → f (fate_now (last_of lasts u) j u e) ≡ fate_now (last_of lasts u) j u e)
      → l.fenced ≤ length acts → l.closed ≤ length acts → l.ended ≤ length acts
      → StandsFor first (acts ++ act o ∷ []) now
  settled o f l d w is_d is_l marks own_fates other_fates fenced_few closed_few ended_few =
      let long = s.count in
      let more = length-append acts (act o ∷ []) in
      let pushed = length-append ds (d ∷ []) in
      let is_ds : now.doubts.items ≡ ds ++ d ∷ [] = w.doubts ∙ ap (λ x. ds ++ x ∷ []) is_d in
      let is_lasts : now.lasts.items ≡ slice_set lasts t l = w.lasts ∙ ap (slice_set lasts t) is_l in
      let news = slice_set lasts t l in
      let fates : (j u : ℕ) (e : Doubt) → j < length acts → f (fate_now (last_of lasts u) j u e) ≡ fate_now (last_of news u) j u e =
      λ j u e lt. each-last lasts t below l (λ v x. f (fate_now (last_of lasts v) j v e) ≡ fate_now x j v e) (own_fates j e lt) (λ v other. other_fates j v e other) u in
      record {
        count = ap length is_ds ∙ omega (arith, long, more, pushed);
        threads = ap length is_lasts ∙ length-set lasts t l ∙ s.threads;
        marks = ap (λ (k : Knowledge). k.marks) (known_after-append first acts (act o ∷ [])) ∙ marks-next known t named o ∙ marks
            ∙ ap (λ ms. each_fate f ms ++ record { fate = fate_now l (length acts) t d; op = o } ∷ []) s.marks
            ∙ ap (λ ms. ms ++ record { fate = fate_now l (length acts) t d; op = o } ∷ []) (marks-each f lasts news (length acts) 0 acts ds fates (omega arith))
            ∙ ap (λ x. marks_from news 0 acts ds ++ record { fate = fate_now x (length acts) t d; op = o } ∷ []) (sym (set-own lasts t below l))
            ∙ sym (marks-push news 0 (length acts) acts ds (act o) d s.count (omega arith))
            ∙ ap (λ x. marks_from news 0 (acts ++ act o ∷ []) x) (sym is_ds)
            ∙ ap (λ x. marks_from x 0 (acts ++ act o ∷ []) now.doubts.items) (sym is_lasts);
        fenced = λ u. subst (λ x. (last_of x u).fenced ≤ length (acts ++ act o ∷ [])) (sym is_lasts)
            (each-last lasts t below l (λ v x. x.fenced ≤ length (acts ++ act o ∷ [])) (omega (arith, fenced_few, more))
            (λ v other. let few = s.fenced v in omega (arith, few, more)) u);
        closed = λ u. subst (λ x. (last_of x u).closed ≤ length (acts ++ act o ∷ [])) (sym is_lasts)
            (each-last lasts t below l (λ v x. x.closed ≤ length (acts ++ act o ∷ [])) (omega (arith, closed_few, more))
            (λ v other. let few = s.closed v in omega (arith, few, more)) u);
        ended = λ u. subst (λ x. (last_of x u).ended ≤ length (acts ++ act o ∷ [])) (sym is_lasts)
            (each-last lasts t below l (λ v x. x.ended ≤ length (acts ++ act o ∷ [])) (omega (arith, ended_few, more))
            (λ v other. let few = s.ended v in omega (arith, few, more)) u);
      }

  each-same : (ms : List Mark) → each_fate (λ f. f) ms ≡ ms
  each-same [] = refl
  each-same (m ∷ ms) = ap (λ xs. record { fate = m.fate; op = m.op } ∷ xs) (each-same ms)

  abbrev count-is : length ds ≡ length acts
  count-is = s.count

  -- an act that settles nothing
  quiet : (o : Op) (d : Doubt) → (w : WereTold known (act o) before now) → doubt_at known t o ≡ d
      → last_after old o (nat_eq (depth_of known.world t) 1) (length ds) ≡ old
      → marks_after known t o ≡ known.marks ++ record { fate = fate_now old (length acts) t d; op = o } ∷ [] → StandsFor first (acts ++ act o ∷ []) now
  quiet o d w is_d is_l marks = settled o (λ f. f) old d w is_d is_l
      (marks ∙ ap (λ ms. ms ++ record { fate = fate_now old (length acts) t d; op = o } ∷ []) (sym (each-same known.marks)))
      (λ j e lt. refl) (λ j u e other. refl) (s.fenced t) (s.closed t) (s.ended t)

  ending : (outermost : Bool) → nat_eq (depth_of known.world t) 1 ≡ outermost → WereTold known (act op.End) before now → StandsFor first (acts ++ act op.End ∷ []) now
  ending true is w = settled op.End (ended t) (record old { ended = length ds }) doubt.Never w refl (ap (λ b. last_after old op.End b (length ds)) is)
      (ap (λ b. if b then with_sure (each_fate (ended t) known.marks) op.End else with_sure known.marks op.End) is)
      (λ j e lt. end-own old (length ds) j t e (let same = s.count in omega (arith, lt, same))) (λ j u e other. end-other (last_of lasts u) j t u e other)
      (s.fenced t) (s.closed t) (let same = s.count in omega (arith, same))
  ending false is w = quiet op.End doubt.Never w refl (ap (λ b. last_after old op.End b (length ds)) is)
      (ap (λ b. if b then with_sure (each_fate (ended t) known.marks) op.End else with_sure known.marks op.End) is)

  pub goes-on : (o : Op) → WereTold known (act o) before now → StandsFor first (acts ++ act o ∷ []) now
  goes-on op.Fenced w = settled op.Fenced (fenced t) (record old { fenced = length ds }) doubt.Never w refl refl refl
      (λ j e lt. fence-own old (length ds) j t e (let same = s.count in omega (arith, lt, same))) (λ j u e other. fence-other (last_of lasts u) j t u e other)
      (let same = s.count in omega (arith, same)) (s.closed t) (s.ended t)
  goes-on op.Closing w = settled op.Closing (closed t) (record old { closed = length ds }) doubt.Never w refl refl refl
      (λ j e lt. close-own old (length ds) j t e (let same = s.count in omega (arith, lt, same))) (λ j u e other. close-other (last_of lasts u) j t u e other)
      (s.fenced t) (let same = s.count in omega (arith, same)) (s.ended t)
  goes-on op.End w = ending (nat_eq (depth_of known.world t) 1) refl w
  goes-on (op.Stored place value) w = quiet (op.Stored place value) (doubt_at known t (op.Stored place value)) w refl refl
      (ap (λ f. known.marks ++ record { fate = f; op = op.Stored place value } ∷ [])
      (store-doubt old (length acts) t (depth_of known.world t) (durable_at known place) (has_number known.closing t) (s.fenced t) (s.closed t) (s.ended t)))
  goes-on o w = quiet o doubt.Never w refl refl refl
