-- What a reference in a copy leads to, and how places go on.
use Rattle.std.proofs.Common.{◌≡◌, ◌≢◌, ◌⊎◌, inl, inr, ℕ, zero, suc, ◌+◌, ◌-◌, ◌%◌, ◌<◌, ◌≤◌, ◌==◌, Bool, true, false, List}
use Rattle.std.proofs.Common.{length, refl, sym, ◌∙◌, ap, subst, arith}
use Rattle.std.specs.Prelude.{ltb}
use Rattle.std.proofs.lemmas.Grind.{common_steps}
use Rattle.twin_forms.specs.Table.{Entry, entry, View, word_of, Names, refers, kept_at, Lies, lines_of, line_of, IsClaimed}
use Rattle.twin_forms.specs.Moves.{ToRepair, IsRepaired}
use Rattle.twin_forms.proofs.Led.{same_or_not}
use Rattle.convert_queue.specs.declared.phase.Phase.{Phase}
use Rattle.convert_queue.specs.declared.phase.Phase.TheVariants.{Copy, Repair, Flush}
use Rattle.convert_queue.specs.Queues.{Queues, queue_of, place_of, phase_of}
use Rattle.convert_queue.specs.Threads.{needs_of}
use Rattle.convert_words.specs.Agreeing.{Is, Far, IsMended, IsOpen, Met, Reaches, Agrees}
use Rattle.convert_words.specs.Steps.{Asks, Nothing, ToClaim, ToNeed, asks, IsAnswered}
use Rattle.convert_words.proofs.Basics.{is_one}
use Rattle.convert_words.proofs.Copying.{far_copy}

-- ---- what a reference asks

abbrev question : Asks → ℕ
question Nothing = 0
question (ToClaim at) = 1
question (ToNeed u) = 2

abbrev asked_of : Asks → ℕ
asked_of Nothing = 0
asked_of (ToClaim at) = at
asked_of (ToNeed u) = u

zero_or : (x : ℕ) → (x ≡ 0) ⊎ ((t : ℕ) × (x ≡ t + 1))
zero_or zero = inl refl
zero_or (suc t) = inr (t, omega arith)

low_or : (x : ℕ) → (x < 2) ⊎ (1 < x)
low_or x = grind arith

pub asks_claim : (e : Entry) (t : ℕ) → e.owner ≡ 0 → e.stage < 2 → asks e t ≡ ToClaim e.at
asks_claim e t o s = let p : ltb e.stage 2 ≡ true = grind (arith, common_steps) in rw (o, p) refl

pub asks_need : (e : Entry) (t u : ℕ) → e.owner ≡ u + 1 → u ≢ t → asks e t ≡ ToNeed u
asks_need e t u o ne =
    let p : (e.owner == 0) ≡ false = grind (arith, common_steps) in
    let r : (e.owner == t + 1) ≡ false = let z : e.owner ≢ t + 1 = λ x. ne (omega (arith, x, o)) in grind (arith, common_steps) in
    let d : e.owner - 1 ≡ u = omega (arith, o) in
    rw (p, r) (ap ToNeed d)

-- A reference that asks nothing more of the thread is met.
pub answered_is_met : (es : List Entry) (need : ℕ → ℕ → Bool) (t m : ℕ) → m < length es → IsAnswered (entry es m) need t → Met es need t m
answered_is_met es need t m lm answered =
    let e = entry es m in
    elim (zero_or e.owner) [
      | inl z ↦ elim (low_or e.stage) [
        | inl low ↦ (
            let is : question (asks e t) ≡ 1 = ap question (asks_claim e t z low) in
            absurd (elim answered [ inl none ↦ (let x : 1 ≡ 0 = sym is ∙ ap question none in omega (arith, x)) | inr y ↦ (let x : 1 ≡ 2 = sym is ∙ ap question y.1 in omega (arith, x)) ]))
        | inr high ↦ inl (lm, high, z)
      ]
      | inr x ↦ (let c : IsClaimed es x.0 m = (lm, x.1) in elim (same_or_not x.0 t) [
        | inl eq ↦ inr (inl (subst (λ u. IsClaimed es u m) eq c))
        | inr ne ↦ (
            let is = asks_need e t x.0 x.1 ne in
            elim answered [
              | inl none ↦ absurd (let y : 2 ≡ 0 = sym (ap question is) ∙ ap question none in omega (arith, y))
              | inr y ↦ (let same : x.0 ≡ y.0 = sym (ap asked_of is) ∙ ap asked_of y.1 in inr (inr (x.0, subst (λ u. need t u ≡ true) (sym same) y.2, c)))
            ])
      ])
    ]

-- A reference that asks for a claim leads to an ordinary object; one that asks for a need to an object that another
-- thread has claimed.
pub asked_is_ordinary : (v : View) (es : List Entry) (t m at : ℕ) → Lies v es → m < length es → asks (entry es m) t ≡
    ToClaim at → ((entry es m).stage ≡ 0) × ((entry es m).owner ≡ 0) × ((entry es m).at ≡ at)
asked_is_ordinary v es t m at h lm is =
    let e = entry es m in
    elim (zero_or e.owner) [
      | inl z ↦ elim (low_or e.stage) [
        | inl low ↦ (
            let none : e.stage ≢ 1 = λ one. (let o = h.table.copying m lm one in omega (arith, o, z)) in
            (omega (arith, low, none), z, ap asked_of (sym (asks_claim e t z low) ∙ is)))
        | inr high ↦ absurd (let p : ltb e.stage 2 ≡ false = grind (arith, common_steps) in let n : asks e t ≡ Nothing = rw
            (z, p) refl in let x : 0 ≡ 1 = sym (ap question n) ∙ ap question is in omega (arith, x))
      ]
      | inr x ↦ absurd (elim (same_or_not x.0 t) [
        | inl eq ↦ (
            let p : (e.owner == 0) ≡ false = let o = x.1 in grind (arith, common_steps) in
            let r : (e.owner == t + 1) ≡ true = let o : e.owner ≡ t + 1 = x.1 ∙ ap (λ y. y + 1) eq in grind (arith, common_steps) in
            let n : asks e t ≡ Nothing = rw (p, r) refl in let y : 0 ≡ 1 = sym (ap question n) ∙ ap question is in omega (arith, y))
        | inr ne ↦ (let y : 2 ≡ 1 = sym (ap question (asks_need e t x.0 x.1 ne)) ∙ ap question is in omega (arith, y))
      ])
    ]

-- ---- how places go on

-- The references of the copied line at the place are met: the thread goes on to the next line.
pub next_line : (v : View) (held : ℕ → ℕ → Type 0) (back : ℕ → Type 0) (q : Queues) (free : ℕ) (keys : ℕ → Type 0)
    (es : List Entry) (t i0 n0 : ℕ) → Agrees v held back q free keys es → Is q es t i0 n0 →
    phase_of q t ≡ Copy → (place_of q t).0 ≡ i0 → (entry es n0).copied ≡ (place_of q t).1 + 1 →
    ((k m : ℕ) → refers v (entry es n0) k ≡ true → kept_at v (entry es n0) k ≡ true → k < (entry es n0).slots → line_of k ≡
    (place_of q t).1 → m < length es → Names (entry es m) (word_of v (entry es n0) k) → Met es (needs_of q.needs) t m) →
    (i n : ℕ) → Is q es t i n → Reaches v es (needs_of q.needs) Copy i0 ((place_of q t).1 + 1) t i (entry es n)
next_line v held back q free keys es t i0 n0 a is0 copying at copied met i n is =
    let r = (a.on_way t i n is).reaches in
    let pl = place_of q t in
    let one : i ≡ i0 → n ≡ n0 = λ eq. is_one v q es t i0 n n0 a.lies (subst (λ x. Is q es t x n) eq is) is0 in
    let far = far_copy (phase_of q t) pl.0 pl.1 i (entry es n) copying r.far in
    record {
      far = (
        λ lt. far.0 (omega (arith, lt, at)),
        λ eq. (let z = far.1 (omega (arith, eq, at)) in (z.0, inl (ap (λ y. (entry es y).copied) (one eq) ∙ copied))),
        λ lt. far.2 (omega (arith, lt, at)),
      );
      met = λ k m ref kept lk hc closed lm na. elim (same_or_not i i0) [
        | inl eq ↦ (let nn = one eq in elim (same_or_not (line_of k) pl.1) [
          | inl here ↦ met k m (subst (λ y. refers v (entry es y) k ≡ true) nn ref)
              (subst (λ y. kept_at v (entry es y) k ≡ true) nn kept) (subst (λ y. k < (entry es y).slots) nn lk) here lm
              (subst (λ y. Names (entry es m) (word_of v (entry es y) k)) nn na)
          | inr other ↦ r.met k m ref kept lk hc (λ o. other (subst (λ y. IsOpen y pl.0 pl.1 i (line_of k)) copying o).1) lm na
        ])
        | inr ne ↦ r.met k m ref kept lk hc (λ o. ne ((subst (λ y. IsOpen y pl.0 pl.1 i (line_of k)) copying o).0 ∙ at)) lm na
      ];
      mended = λ k ref kept lk is_mended. absurd is_mended;
    }

-- All objects of the queue are forwarded: repair begins.
pub to_repair : (v : View) (held : ℕ → ℕ → Type 0) (back : ℕ → Type 0) (q : Queues) (free : ℕ) (keys : ℕ → Type 0) (es : List Entry) (t : ℕ) → Agrees v held back q free keys es →
    phase_of q t ≡ Copy → length (queue_of q t) ≤ (place_of q t).0 → (i n : ℕ) → Is q es t i n → Reaches v es (needs_of q.needs) Repair 0 0 t i (entry es n)
to_repair v held back q free keys es t a copying at i n is =
    let r = (a.on_way t i n is).reaches in
    let pl = place_of q t in
    let far = far_copy (phase_of q t) pl.0 pl.1 i (entry es n) copying r.far in
    let lt : i < pl.0 = (let w = is.within in omega (arith, w, at)) in
    record {
      far = far.0 lt;
      met = λ k m ref kept lk hc closed lm na. r.met k m ref kept lk hc (λ o. (let e = (subst (λ y. IsOpen y pl.0 pl.1 i (line_of k)) copying o).0 in omega (arith, e, lt))) lm na;
      mended = λ k ref kept lk is_mended. absurd (elim is_mended [ inl x ↦ omega (arith, x) | inr x ↦ (let y = x.1 in omega (arith, y)) ]);
    }

repair_far : (p : Phase) (at l i : ℕ) (e : Entry) → p ≡ Repair → Far p at l i e → e.stage ≡ 2
repair_far p at l i e eq far = subst (λ y. Far y at l i e) eq far

repair_closed : (p : Phase) (at l i c : ℕ) → p ≡ Repair → IsOpen p at l i c → ⊥
repair_closed p at l i c eq o = subst (λ y. IsOpen y at l i c) eq o

repair_mended : (p : Phase) (at l i c : ℕ) → p ≡ Repair → (i < at) ⊎ ((i ≡ at) × (c < l)) → IsMended p at l i c
repair_mended p at l i c eq m = subst (λ y. IsMended y at l i c) (sym eq) m

end_or : (c l : ℕ) → c < l + 1 → (c < l) ⊎ (c ≡ l)
end_or c l lt = grind arith

-- The line at the place is repaired: repair goes on to the next line.
pub next_repair : (v : View) (held : ℕ → ℕ → Type 0) (back : ℕ → Type 0) (q : Queues) (free : ℕ) (keys : ℕ → Type 0)
    (es : List Entry) (t i0 n0 : ℕ) → Agrees v held back q free keys es → Is q es t i0 n0 →
    phase_of q t ≡ Repair → (place_of q t).0 ≡ i0 → IsRepaired (place_of q t).1 v es n0 →
    (i n : ℕ) → Is q es t i n → Reaches v es (needs_of q.needs) Repair i0 ((place_of q t).1 + 1) t i (entry es n)
next_repair v held back q free keys es t i0 n0 a is0 repairing at done i n is =
    let r = (a.on_way t i n is).reaches in
    let p = phase_of q t in
    let pl = place_of q t in
    record {
      far = repair_far p pl.0 pl.1 i (entry es n) repairing r.far;
      met = λ k m ref kept lk hc closed lm na. r.met k m ref kept lk hc (repair_closed p pl.0 pl.1 i (line_of k) repairing) lm na;
      mended = λ k ref kept lk is_mended. elim is_mended [
        | inl x ↦ r.mended k ref kept lk (repair_mended p pl.0 pl.1 i (line_of k) repairing (inl (omega (arith, x, at))))
        | inr x ↦ elim (end_or (line_of k) pl.1 x.1) [
          | inl lt ↦ r.mended k ref kept lk (repair_mended p pl.0 pl.1 i (line_of k) repairing (inr (x.0 ∙ sym at, lt)))
          | inr here ↦ (
              let nn : n ≡ n0 = is_one v q es t i0 n n0 a.lies (subst (λ y. Is q es t y n) x.0 is) is0 in
              ap (λ y. word_of v (entry es y) k % 2) nn ∙ done k (subst (λ y. k < (entry es y).slots) nn lk) here (subst (λ y. refers v (entry es y) k ≡ true) nn ref)
              (subst (λ y. kept_at v (entry es y) k ≡ true) nn kept))
        ]
      ];
    }

-- All lines of the object at the place are repaired: repair goes on to the next object.
pub next_repaired_object : (v : View) (held : ℕ → ℕ → Type 0) (back : ℕ → Type 0) (q : Queues) (free : ℕ)
    (keys : ℕ → Type 0) (es : List Entry) (t i0 n0 : ℕ) → Agrees v held back q free keys es → Is q es t i0 n0 →
    phase_of q t ≡ Repair → (place_of q t).0 ≡ i0 → lines_of (entry es n0) ≤ (place_of q t).1 →
    (i n : ℕ) → Is q es t i n → Reaches v es (needs_of q.needs) Repair (i0 + 1) 0 t i (entry es n)
next_repaired_object v held back q free keys es t i0 n0 a is0 repairing at all i n is =
    let r = (a.on_way t i n is).reaches in
    let p = phase_of q t in
    let pl = place_of q t in
    record {
      far = repair_far p pl.0 pl.1 i (entry es n) repairing r.far;
      met = λ k m ref kept lk hc closed lm na. r.met k m ref kept lk hc (repair_closed p pl.0 pl.1 i (line_of k) repairing) lm na;
      mended = λ k ref kept lk is_mended. elim is_mended [
        | inr x ↦ absurd (let y = x.1 in omega (arith, y))
        | inl x ↦ elim (end_or i i0 x) [
          | inl lt ↦ r.mended k ref kept lk (repair_mended p pl.0 pl.1 i (line_of k) repairing (inl (omega (arith, lt, at))))
          | inr here ↦ (
              let nn : n ≡ n0 = is_one v q es t i0 n n0 a.lies (subst (λ y. Is q es t y n) here is) is0 in
              let lk0 : k < (entry es n0).slots = subst (λ y. k < (entry es y).slots) nn lk in
              r.mended k ref kept lk (repair_mended p pl.0 pl.1 i (line_of k) repairing (inr (here ∙ sym at, omega (arith, lk0, all)))))
        ]
      ];
    }

-- All objects of the queue are repaired: the flush begins.
pub to_flush : (v : View) (held : ℕ → ℕ → Type 0) (back : ℕ → Type 0) (q : Queues) (free : ℕ) (keys : ℕ → Type 0) (es : List Entry) (t : ℕ) → Agrees v held back q free keys es →
    phase_of q t ≡ Repair → length (queue_of q t) ≤ (place_of q t).0 → (i n : ℕ) → Is q es t i n → Reaches v es (needs_of q.needs) Flush 0 0 t i (entry es n)
to_flush v held back q free keys es t a repairing at i n is =
    let r = (a.on_way t i n is).reaches in
    let p = phase_of q t in
    let pl = place_of q t in
    let lt : i < pl.0 = (let w = is.within in omega (arith, w, at)) in
    record {
      far = repair_far p pl.0 pl.1 i (entry es n) repairing r.far;
      met = λ k m ref kept lk hc closed lm na. r.met k m ref kept lk hc (repair_closed p pl.0 pl.1 i (line_of k) repairing) lm na;
      mended = λ k ref kept lk _. r.mended k ref kept lk (repair_mended p pl.0 pl.1 i (line_of k) repairing (inl lt));
    }

-- ---- what a repair needs

-- The line at the place may be repaired, where no object to which it refers is claimed and not forwarded.
pub may_repair : (v : View) (held : ℕ → ℕ → Type 0) (back : ℕ → Type 0) (q : Queues) (free : ℕ) (keys : ℕ → Type 0)
    (es : List Entry) (t i n c : ℕ) → Agrees v held back q free keys es → Is q es t i n →
    phase_of q t ≡ Repair → c < lines_of (entry es n) →
    ((k m : ℕ) → k < (entry es n).slots → line_of k ≡ c → refers v (entry es n) k ≡ true → kept_at v (entry es n) k ≡ true
    → m < length es → Names (entry es m) (word_of v (entry es n) k) → (entry es m).stage ≢ 1) →
    ToRepair (entry es n).at c v es n
may_repair v held back q free keys es t i n c a is repairing lc unclaimed =
    let e = entry es n in
    let r = (a.on_way t i n is).reaches in
    let p = phase_of q t in
    let pl = place_of q t in
    let two = repair_far p pl.0 pl.1 i e repairing r.far in (
      refl,
      two,
      omega (arith, lc),
      λ k m lk here ref kept lm w low.
          let na : Names (entry es m) (word_of v e k) = inl (low, w) in
          let met = r.met k m ref kept lk (inl (omega (arith, two))) (repair_closed p pl.0 pl.1 i (line_of k) repairing) lm na in
          let some : 0 < (entry es m).stage = elim met [
            | inl x ↦ (let y = x.1 in omega (arith, y))
            | inr x ↦ elim x [
              | inl own ↦ (a.queued.all t m own).1.placed
              | inr y ↦ (a.queued.all y.0 m y.2).1.placed
            ]
          ] in
          let ne = unclaimed k m lk here ref kept lm na in
          omega (arith, some, low, ne),
    )
