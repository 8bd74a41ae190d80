-- How places go on, step by step.
use Rattle.std.proofs.Common.{◌≡◌, inl, inr, ℕ, ◌≤◌, true, List, length, refl, sym, ◌∙◌, ap, subst, arith}
use Rattle.std.specs.Prelude.{Option, Some, None, slice_get, slice_index_or}
use Rattle.std.proofs.lemmas.Option.{slice_get_within, get_or_from_slice_get, slice_get-get_or}
use Rattle.twin_forms.specs.Table.{Entry, entry, refers, kept_at, Names, word_of}
use Rattle.twin_forms.specs.Sights.{Twin, view_of}
use Rattle.twin_forms.proofs.Led.{below_or_not}
use Rattle.convert_queue.specs.declared.phase.Phase.{Phase}
use Rattle.convert_queue.specs.Queues.{Queued, Queues, queue_of, place_of, phase_of}
use Rattle.convert_queue.specs.Threads.{needs_of}
use Rattle.convert_words.specs.Agreeing.{Is, Reaches}
use Rattle.convert_words.specs.Steps.{GoesTo}
use Rattle.convert_words.specs.Scenes.{Scene, AgreesAt}
use Rattle.convert_words.specs.Converting.{RefersTo, IsOn, rank, GoesOn}
use Rattle.convert_words.proofs.StepLaws.{places_keep}

pub on_stays : (p : Phase) (at : ℕ × ℕ) → IsOn p at p at
on_stays p at = inr (refl, inr (refl, omega arith))

pub on_on : (p1 p2 p3 : Phase) (a1 a2 a3 : ℕ × ℕ) → IsOn p1 a1 p2 a2 → IsOn p2 a2 p3 a3 → IsOn p1 a1 p3 a3
on_on p1 p2 p3 a1 a2 a3 (inl x) (inl y) = inl (omega (arith, x, y))
on_on p1 p2 p3 a1 a2 a3 (inl x) (inr y) = inl (let e : rank p3 ≡ rank p2 = ap rank y.0 in omega (arith, x, e))
on_on p1 p2 p3 a1 a2 a3 (inr x) (inl y) = inl (let e : rank p2 ≡ rank p1 = ap rank x.0 in omega (arith, y, e))
on_on p1 p2 p3 a1 a2 a3 (inr x) (inr y) = inr (
  y.0 ∙ x.0,
  elim x.1 [
    | inl l ↦ inl (elim y.1 [ inl m ↦ omega (arith, l, m) | inr m ↦ (let e = m.0 in omega (arith, l, e)) ])
    | inr l ↦ elim y.1 [
      | inl m ↦ inl (let e = l.0 in omega (arith, m, e))
      | inr m ↦ inr (m.0 ∙ l.0, let u = l.1 in let v = m.1 in omega (arith, u, v))
    ]
  ],
)

pub stays : (s : Scene) (es : List Entry) (t : ℕ) → AgreesAt s es → GoesOn t s s es
stays s es t a = record {
  heap = refl;
  free = refl;
  keys = refl;
  queues = refl;
  marks = refl;
  other_phases = λ u ne. refl;
  other_places = λ u ne. refl;
  on = on_stays (phase_of s.queue t) (place_of s.queue t);
  kept = λ a b n. n;
  met = λ a b n. inl n;
  agrees = a;
}

refers_on : (s s' : Scene) (es : List Entry) (t n k m : ℕ) → s'.heap ≡ s.heap → RefersTo s' es t n k m → RefersTo s es t n k m
refers_on s s' es t n k m same r = record {
  claimed = r.claimed;
  slot = r.slot;
  reference = subst (λ (h : Twin). refers (view_of h) (entry es n) k ≡ true) same r.reference;
  kept = subst (λ (h : Twin). kept_at (view_of h) (entry es n) k ≡ true) same r.kept;
  copied = r.copied;
  there = r.there;
  leads = subst (λ (h : Twin). Names (entry es m) (word_of (view_of h) (entry es n) k)) same r.leads;
}

pub goes_on_on : (s1 s2 s3 : Scene) (es : List Entry) (t : ℕ) → GoesOn t s1 s2 es → GoesOn t s2 s3 es → GoesOn t s1 s3 es
goes_on_on s1 s2 s3 es t x y = record {
  heap = y.heap ∙ x.heap;
  free = y.free ∙ x.free;
  keys = y.keys ∙ x.keys;
  queues = y.queues ∙ x.queues;
  marks = y.marks ∙ x.marks;
  other_phases = λ u ne. y.other_phases u ne ∙ x.other_phases u ne;
  other_places = λ u ne. y.other_places u ne ∙ x.other_places u ne;
  on = on_on (phase_of s1.queue t) (phase_of s2.queue t) (phase_of s3.queue t) (place_of s1.queue t) (place_of s2.queue t) (place_of s3.queue t) x.on y.on;
  kept = λ a b n. y.kept a b (x.kept a b n);
  met = λ a b n. elim (y.met a b n) [
    | inl old ↦ x.met a b old
    | inr z ↦ inr (z.0, z.1, (let w = z.2 in record { n = w.n; k = w.k; m = w.m; refers_to = refers_on s1 s2 es t w.n w.k w.m x.heap w.refers_to; claimed = w.claimed }))
  ];
  agrees = y.agrees;
}

-- The place goes on, as far as the thread's objects reach.
pub goes_by_place : (s : Scene) (q : Queues) (es : List Entry) (t : ℕ) (p : Phase) (n l : ℕ) → AgreesAt s es → GoesTo t p n l s.queue q →
    IsOn (phase_of s.queue t) (place_of s.queue t) p (n, l) →
    ((i m : ℕ) → Is s.queue es t i m → Reaches (view_of s.heap) es (needs_of s.queue.needs) p n l t i (entry es m)) → GoesOn t s (record s { queue = q }) es
goes_by_place s q es t p n l a goes on reaches = record {
  heap = refl;
  free = refl;
  keys = refl;
  queues = goes.queues;
  marks = goes.marks;
  other_phases = goes.other_phases;
  other_places = goes.other_places;
  on = placed (place_of q t) goes.at goes.line;
  kept = λ a b x. subst (λ (y : List ℕ). needs_of y a b ≡ true) (sym goes.needs) x;
  met = λ a b x. inl (subst (λ (y : List ℕ). needs_of y a b ≡ true) goes.needs x);
  agrees = places_keep s q t p n l es goes reaches a;
}
  where
    placed : (at : ℕ × ℕ) → at.0 ≡ n → at.1 ≡ l → IsOn (phase_of s.queue t) (place_of s.queue t) (phase_of q t) at
    placed at e0 e1 = subst (λ (x : Phase). IsOn (phase_of s.queue t) (place_of s.queue t) x at) (sym goes.phase) (elim on [
      | inl x ↦ inl x
      | inr x ↦ inr (x.0, elim x.1 [ inl y ↦ inl (omega (arith, y, e0)) | inr y ↦ inr (e0 ∙ y.0, let z = y.1 in omega (arith, z, e1)) ])
    ])

-- ---- what stands in a queue

pub found : (s : Scene) (es : List Entry) (t i : ℕ) (x : Queued) → AgreesAt s es → Some x ≡ slice_get (queue_of s.queue t) i →
    (n : ℕ) × Is s.queue es t i n × ((entry es n).at ≡ x.0) × ((entry es n).line ≡ x.1)
found s es t i x a is =
    let lt = slice_get_within (queue_of s.queue t) i x (sym is) in
    let y = a.queued.there t i lt in
    let item : slice_index_or (queue_of s.queue t) i (0, 0) ≡ x = get_or_from_slice_get (queue_of s.queue t) i x (0, 0) (sym is) in
    (y.0, y.1, sym y.1.object ∙ ap (λ (z : Queued). z.0) item, sym y.1.line ∙ ap (λ (z : Queued). z.1) item)

abbrev is_none : Option Queued → ℕ
is_none None = 0
is_none (Some x) = 1

pub past : (xs : List Queued) (i : ℕ) → None ≡ slice_get xs i → length xs ≤ i
past xs i none = elim (below_or_not i (length xs)) [
  | inl lt ↦ absurd (let e : 0 ≡ 1 = ap is_none (none ∙ slice_get-get_or xs i (0, 0) lt) in omega (arith, e))
  | inr le ↦ le
]
