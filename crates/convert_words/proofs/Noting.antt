-- What a thread may note: places, needs, and stores to the lines of its copies.
use Rattle.std.proofs.Common.{◌≡◌, ◌≢◌, ◌⊎◌, inl, inr, ℕ, ◌+◌, ◌-◌, ◌<◌, true, List, length, refl, sym, ◌∙◌, ap, subst, arith}
use Rattle.std.proofs.Common.{slice_set, length-set}
use Rattle.std.proofs.lemmas.List.{get_or-set_same, get_or-set_other}
use Rattle.twin_forms.specs.Table.{Entry, entry, View, Lies, lines_of, HasCopied, IsClaimed}
use Rattle.twin_forms.proofs.Led.{same_or_not, below_or_not}
use Rattle.convert_queue.specs.declared.phase.Phase.{Phase}
use Rattle.convert_queue.specs.declared.phase.Phase.TheVariants.{Copy, Repair}
use Rattle.convert_queue.specs.Marks.{Mark, clean, stored, written, mark_at, MayNote}
use Rattle.convert_queue.specs.Queues.{Queues, place_of, phase_of}
use Rattle.convert_queue.specs.Threads.{needs_of}
use Rattle.convert_words.specs.Agreeing.{Is, Far, IsTied, Keeps, IsCopied, Agrees}
use Rattle.convert_words.specs.Steps.{GoesTo}
use Rattle.convert_words.proofs.Basics.{line_other}

-- ---- places

pub goes_to : (q : Queues) (t : ℕ) (p : Phase) (n l : ℕ) → t < length q.places → t < length q.phases →
    GoesTo t p n l q (record q { places = slice_set q.places t (n, l); phases = slice_set q.phases t p })
goes_to q t p n l lt lp = record {
  phase = get_or-set_same q.phases t p Copy lp;
  at = ap (λ (x : ℕ × ℕ). x.0) (get_or-set_same q.places t (n, l) (0, 0) lt);
  line = ap (λ (x : ℕ × ℕ). x.1) (get_or-set_same q.places t (n, l) (0, 0) lt);
  other_phases = λ u ne. get_or-set_other q.phases t u p Copy ne;
  other_places = λ u ne. get_or-set_other q.places t u (n, l) (0, 0) ne;
  queues = refl;
  needs = refl;
  marks = refl;
  places = length-set q.places t (n, l);
  phases = length-set q.phases t p;
}

pub goes_on : (q : Queues) (t n l : ℕ) → t < length q.places → GoesTo t (phase_of q t) n l q (record q { places = slice_set q.places t (n, l) })
goes_on q t n l lt = record {
  phase = refl;
  at = ap (λ (x : ℕ × ℕ). x.0) (get_or-set_same q.places t (n, l) (0, 0) lt);
  line = ap (λ (x : ℕ × ℕ). x.1) (get_or-set_same q.places t (n, l) (0, 0) lt);
  other_phases = λ u ne. refl;
  other_places = λ u ne. get_or-set_other q.places t u (n, l) (0, 0) ne;
  queues = refl;
  needs = refl;
  marks = refl;
  places = length-set q.places t (n, l);
  phases = refl;
}

-- ---- needs

pub need_on : (old new : List ℕ) (t u : ℕ) → needs_of new t u ≡ true → ((a b : ℕ) → (a ≡ t → b ≢ u) → needs_of new a b ≡ needs_of old a b) →
    (a b : ℕ) → needs_of old a b ≡ true → needs_of new a b ≡ true
need_on old new t u here others a b need = elim (same_or_not a t) [
  | inr ne ↦ others a b (λ eq. absurd (ne eq)) ∙ need
  | inl ea ↦ elim (same_or_not b u) [
    | inr ne ↦ others a b (λ eq. ne) ∙ need
    | inl eb ↦ ap (λ x. needs_of new x b) ea ∙ ap (needs_of new t) eb ∙ here
  ]
]

pub need_real : (es : List Entry) (old new : List ℕ) (t u n : ℕ) → IsClaimed es u n → ((a b : ℕ) → (a ≡ t → b ≢ u) → needs_of new a b ≡ needs_of old a b) →
    ((a b : ℕ) → a < 64 → b < 64 → needs_of old a b ≡ true → (m : ℕ) × IsClaimed es b m) → (a b : ℕ) → a < 64 → b < 64 → needs_of new a b ≡ true → (m : ℕ) × IsClaimed es b m
need_real es old new t u n c others real a b la lb need = elim (same_or_not a t) [
  | inr ne ↦ real a b la lb (sym (others a b (λ eq. absurd (ne eq))) ∙ need)
  | inl ea ↦ elim (same_or_not b u) [
    | inr ne ↦ real a b la lb (sym (others a b (λ eq. ne)) ∙ need)
    | inl eb ↦ (n, subst (λ x. IsClaimed es x n) (sym eb) c)
  ]
]

-- ---- stores

may_note : (v : View) (held : ℕ → ℕ → Type 0) (back : ℕ → Type 0) (kept : ℕ → Type 0) (t l : ℕ) (m : Mark) → IsTied v held back kept t l m → MayNote t m
may_note v held back kept t l clean tied = tt
may_note v held back kept t l (stored u) tied = tied
may_note v held back kept t l (written u) tied = tied.0

mark_or : (m : Mark) → (m ≡ clean) ⊎ ((u : ℕ) × ((m ≡ stored u) ⊎ (m ≡ written u)))
mark_or clean = inl refl
mark_or (stored u) = inr (u, inl refl)
mark_or (written u) = inr (u, inr refl)

copied_or : (e : Entry) (c : ℕ) → HasCopied e c ⊎ (HasCopied e c → ⊥)
copied_or e c = elim (below_or_not 1 e.stage) [
  | inl lt ↦ inl (inl lt)
  | inr le ↦ elim (same_or_not e.stage 1) [
    | inr ne ↦ inr (λ hc. elim hc [ inl x ↦ omega (arith, x, le) | inr x ↦ ne x.0 ])
    | inl one ↦ elim (below_or_not c e.copied) [
      | inl lt ↦ inl (inr (one, lt))
      | inr past ↦ inr (λ hc. elim hc [ inl x ↦ omega (arith, x, le) | inr x ↦ (let y = x.1 in omega (arith, y, past)) ])
    ]
  ]
]

-- A line of a queued object that isn't copied yet is clean.
pub uncopied_clean : (v : View) (held : ℕ → ℕ → Type 0) (back : ℕ → Type 0) (q : Queues) (free : ℕ) (keys : ℕ → Type 0)
    (es : List Entry) (t i n c : ℕ) → Agrees v held back q free keys es → Is q es t i n →
    c < lines_of (entry es n) → (HasCopied (entry es n) c → ⊥) → mark_at q.marks ((entry es n).line + c) ≡ clean
uncopied_clean v held back q free keys es t i n c a is lc fresh =
    let l = (entry es n).line + c in
    elim (mark_or (mark_at q.marks l)) [
      | inl eq ↦ eq
      | inr x ↦ (
          let y : IsCopied es x.0 l = a.noted x.0 l x.1 in
          let j = a.queued.all x.0 y.n y.claimed in
          elim (same_or_not y.n n) [
            | inl eq ↦ (
                let same : c ≡ y.c = let h = y.here in let at : (entry es y.n).line ≡ (entry es n).line = ap (λ k. (entry es k).line) eq in omega (arith, h, at) in
                absurd (fresh (subst (HasCopied (entry es n)) (sym same) (subst (λ k. HasCopied (entry es k) y.c) eq y.copied))))
            | inr ne ↦ absurd (line_other v es n y.n l y.c a.lies is.claimed.0 y.claimed.0 ne is.placed j.1.placed (omega arith) (omega (arith, lc)) y.within (sym y.here))
          ])
    ]

-- The thread may note a store to each line of its object's copy, and a write of it.
pub may_note_line : (v : View) (held : ℕ → ℕ → Type 0) (back : ℕ → Type 0) (q : Queues) (free : ℕ) (keys : ℕ → Type 0)
    (es : List Entry) (t i n c : ℕ) → Agrees v held back q free keys es → Is q es t i n →
    c < lines_of (entry es n) → MayNote t (mark_at q.marks ((entry es n).line + c))
may_note_line v held back q free keys es t i n c a is lc =
    let e = entry es n in
    elim (copied_or e c) [
      | inl hc ↦ may_note v held back (Keeps v e) t (e.line + c) (mark_at q.marks (e.line + c)) ((a.on_way t i n is).tied c lc hc)
      | inr fresh ↦ subst (MayNote t) (sym (uncopied_clean v held back q free keys es t i n c a is lc fresh)) tt
    ]

-- ---- waits

-- An object that is being copied has a claimer.
pub behind_claimed : (v : View) (es : List Entry) (m : ℕ) → Lies v es → m < length es → (entry es m).stage ≡ 1 → (u : ℕ) × IsClaimed es u m
behind_claimed v es m h lm one = let o = h.table.copying m lm one in ((entry es m).owner - 1, (lm, omega (arith, o)))

-- In phase Repair the thread's own objects are all forwarded: whom it lacks is another thread.
pub own_forwarded : (v : View) (held : ℕ → ℕ → Type 0) (back : ℕ → Type 0) (q : Queues) (free : ℕ) (keys : ℕ → Type 0) (es : List Entry) (t m : ℕ) → Agrees v held back q free keys es →
    phase_of q t ≡ Repair → IsClaimed es t m → (entry es m).stage ≡ 2
own_forwarded v held back q free keys es t m a repairing c =
    let i = a.queued.all t m c in
    subst (λ y. Far y (place_of q t).0 (place_of q t).1 i.0 (entry es m)) repairing (a.on_way t i.0 m i.1).reaches.far
