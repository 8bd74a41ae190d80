-- How the place goes on in phase Copy.
use Rattle.std.proofs.Common.{◌≡◌, ◌≢◌, ◌⊎◌, inl, inr, ℕ, ◌+◌, ◌-◌, ◌*◌, ◌<◌, ◌≤◌, true, List, [], ◌∷◌, zero, suc, length, refl}
use Rattle.std.proofs.Common.{sym, ◌∙◌, ap, subst, arith}
use Rattle.std.specs.Prelude.{min, Some, slice_get}
use Rattle.std.proofs.lemmas.List.Sums.{sum_by-cons}
use Rattle.twin_forms.specs.Table.{Entry, entry, lines_of, line_of, IsClaimed}
use Rattle.twin_forms.specs.Sights.{view_of}
use Rattle.convert_queue.specs.declared.phase.Phase.TheVariants.{Copy, Repair, Flush}
use Rattle.convert_queue.specs.Queues.{Queued, Queues, queue_in, queue_of, place_of, phase_of, total}
use Rattle.convert_queue.specs.Threads.{needs_of}
use Rattle.convert_words.specs.Agreeing.{Is, item_in, Met}
use Rattle.convert_words.specs.Steps.{GoesTo}
use Rattle.convert_words.specs.Scenes.{Scene, AgreesAt}
use Rattle.convert_words.specs.Converting.{RefersTo, Meets, IsOn, rank, GoesOn}
use Rattle.convert_words.proofs.Copying.{far_copy}
use Rattle.convert_words.proofs.Basics.{young, is_one}
use Rattle.convert_words.proofs.StepLaws.{needs_keep, met_lines_go_on, forwarded_queues_repair, repaired_objects_go_on}
use Rattle.convert_words.proofs.StepLaws.{repaired_queues_flush}
use Rattle.converter.specs.Looking.{AsksFirst, IsOld, Refers, IsTaken}
use Rattle.converter.specs.Working.{IsAtObject, IsCopying, IsLooking, IsFilling, IsNextOf, IsToClaim, IsToCopy, IsToForward}
use Rattle.converter.specs.Working.{IsToRepair, IsWork}
use Rattle.converter.specs.declared.work.Work.{Work}
use Rattle.converter.specs.declared.work.Work.TheVariants as work
use Rattle.converter.proofs.Goings.{found, goes_by_place, goes_on_on}

-- ---- numbers

-- the slots of a line
pub record Holds (c slots from to : ℕ) : Type 0 where
  pub here : (k : ℕ) → from ≤ k → k < to → (k < slots) × (line_of k ≡ c)
  pub back : (k : ℕ) → k < slots → line_of k ≡ c → (from ≤ k) × (k < to)
  pub most : to ≤ slots

min_or : (a b : ℕ) → ((min a b ≡ a) × (a ≤ b)) ⊎ ((min a b ≡ b) × (b ≤ a))
min_or a b = grind arith

pub holds : (c slots from to : ℕ) → from ≡ min (8 * c - 1) slots → to ≡ min (8 * c + 7) slots → Holds c slots from to
holds c slots from to ef et = elim (min_or (8 * c - 1) slots) [
  | inl x ↦ elim (min_or (8 * c + 7) slots) [
    | inl y ↦ record {
      here = λ k lo hi. (omega (arith, ef, et, x, y, lo, hi), omega (arith, ef, et, x, y, lo, hi));
      back = λ k lt eq. (omega (arith, ef, et, x, y, lt, eq), omega (arith, ef, et, x, y, lt, eq));
      most = omega (arith, et, y);
    }
    | inr y ↦ record {
      here = λ k lo hi. (omega (arith, ef, et, x, y, lo, hi), omega (arith, ef, et, x, y, lo, hi));
      back = λ k lt eq. (omega (arith, ef, et, x, y, lt, eq), omega (arith, ef, et, x, y, lt, eq));
      most = omega (arith, et, y);
    }
  ]
  | inr x ↦ elim (min_or (8 * c + 7) slots) [
    | inl y ↦ record {
      here = λ k lo hi. (omega (arith, ef, et, x, y, lo, hi), omega (arith, ef, et, x, y, lo, hi));
      back = λ k lt eq. (omega (arith, ef, et, x, y, lt, eq), omega (arith, ef, et, x, y, lt, eq));
      most = omega (arith, et, y);
    }
    | inr y ↦ record {
      here = λ k lo hi. (omega (arith, ef, et, x, y, lo, hi), omega (arith, ef, et, x, y, lo, hi));
      back = λ k lt eq. (omega (arith, ef, et, x, y, lt, eq), omega (arith, ef, et, x, y, lt, eq));
      most = omega (arith, et, y);
    }
  ]
]

-- one queue is no longer than all
total_in : (queues : List (List Queued)) (t : ℕ) → length (queue_in queues t) ≤ total queues
total_in [] t = omega arith
total_in (x ∷ xs) zero = let s = sum_by-cons (λ (queue : List Queued). length queue) x xs in omega (arith, s)
total_in (x ∷ xs) (suc t) = let s = sum_by-cons (λ (queue : List Queued). length queue) x xs in let r = total_in xs t in omega (arith, s, r)

pub few_queued : (s : Scene) (es : List Entry) (t : ℕ) → AgreesAt s es → s.free ≤ s.heap.memory.size → length (queue_of s.queue t) < 4294967296
few_queued s es t a le = let few = a.few in let lines = a.lies.table.few_lines in let one = total_in s.queue.queues t in omega (arith, few, lines, one, le)

-- ---- the object at the place

pub copying_here : (s : Scene) (es : List Entry) (t n : ℕ) → AgreesAt s es → Is s.queue es t (place_of s.queue t).0 n → phase_of s.queue t ≡ Copy →
    ((entry es n).stage ≡ 1) × (((entry es n).copied ≡ (place_of s.queue t).1) ⊎ ((entry es n).copied ≡ (place_of s.queue t).1 + 1))
copying_here s es t n a is copying =
    let p = phase_of s.queue t in let pl = place_of s.queue t in
    (far_copy p pl.0 pl.1 pl.0 (entry es n) copying (a.on_way t pl.0 n is).reaches.far).1 refl

pub old_here : (s : Scene) (es : List Entry) (t object copied n slots : ℕ) → AgreesAt s es → IsLooking s es t object copied n → slots ≤ (entry es n).slots → IsOld (view_of s.heap) object slots es n
old_here s es t object copied n slots a x le = record {
  lies = a.lies;
  there = x.is.claimed.0;
  at = x.at;
  young = let one = (copying_here s es t n a x.is x.phase).0 in omega (arith, one);
  long = le;
}

-- a reference of the line at the place is one of a copied line
pub refers_here : (s : Scene) (es : List Entry) (t object copied n k m : ℕ) → AgreesAt s es → IsLooking s es t object copied n → k < (entry es n).slots → line_of k ≡ (place_of s.queue t).1 →
    Refers (view_of s.heap) es n k m → RefersTo s es t n k m
refers_here s es t object copied n k m a x lt here r = record {
  claimed = x.is.claimed;
  slot = lt;
  reference = r.reference;
  kept = refl;
  copied = inr ((copying_here s es t n a x.is x.phase).0, let c = x.count in let l = x.last in omega (arith, c, l, here));
  there = r.there;
  leads = r.names;
}

not_taken : (es : List Entry) (m : ℕ) → IsTaken es m → (entry es m).stage ≡ 0 → (entry es m).owner ≡ 0 → ⊥
not_taken es m taken young nobody = elim taken [
  | inl p ↦ (let high = p.1 in omega (arith, high, young))
  | inr c ↦ (let own = c.1.1 in omega (arith, own, nobody))
]

pub claims_here : (s : Scene) (es : List Entry) (t object copied n from to at : ℕ) → AgreesAt s es → IsLooking s es t object copied n → Holds (place_of s.queue t).1 (entry es n).slots from to →
    AsksFirst (view_of s.heap) t from to at es n → IsToClaim s es t at
claims_here s es t object copied n from to at a x holds hit =
    let k = hit.k in
    let here = holds.here k hit.begin hit.below in
    record {
      m = hit.m;
      there = hit.refers_to.there;
      at = hit.asked.2;
      asked = record {
        phase = x.phase;
        n = n;
        k = k;
        is = x.is;
        refers_to = refers_here s es t object copied n k hit.m a x here.0 here.1 hit.refers_to;
        here = here.1;
        ordinary = hit.asked.0;
        nobody = hit.asked.1;
        first = λ j o lt line r young nobody.
            not_taken es o (hit.first j o (holds.back j r.slot line).0 lt (record { reference = r.reference; there = r.there; names = r.leads })) young nobody;
      };
    }

-- ---- whom the thread needs

pub goes_by_needs : (s : Scene) (needs : List ℕ) (es : List Entry) (t : ℕ) → AgreesAt s es → length needs ≡ length s.queue.needs →
    ((a b : ℕ) → needs_of s.queue.needs a b ≡ true → needs_of needs a b ≡ true) →
    ((a b : ℕ) → needs_of needs a b ≡ true → (needs_of s.queue.needs a b ≡ true) ⊎ ((a ≡ t) × (b ≢ t) × Meets s es t b)) →
    GoesOn t s (record s { queue = record s.queue { needs = needs } }) es
goes_by_needs s needs es t a long kept met = record {
  heap = refl;
  free = refl;
  keys = refl;
  queues = refl;
  marks = refl;
  other_phases = λ u ne. refl;
  other_places = λ u ne. refl;
  on = inr (refl, inr (refl, omega arith));
  kept = kept;
  met = met;
  agrees = needs_keep s needs es long kept
      (λ x y lx ly need. elim (met x y need) [ inl old ↦ a.real x y lx ly old | inr z ↦ (z.2.m, z.2.claimed) ]) a;
}

-- All references of the line are met: the place goes on to the next line.
pub passes : (s : Scene) (q1 q2 : Queues) (es : List Entry) (t object copied n from to place : ℕ) → AgreesAt s es → IsLooking s es t object copied n →
    Holds (place_of s.queue t).1 (entry es n).slots from to →
    ((k m : ℕ) → from ≤ k → k < to → Refers (view_of s.heap) es n k m → IsTaken es m) →
    q1 ≡ record s.queue { needs = q1.needs } → length q1.needs ≡ length s.queue.needs →
    ((a b : ℕ) → needs_of s.queue.needs a b ≡ true → needs_of q1.needs a b ≡ true) →
    ((a b : ℕ) → needs_of q1.needs a b ≡ true → (needs_of s.queue.needs a b ≡ true) ⊎ ((a ≡ t) × (b ≢ t) × ((k m : ℕ) × (from ≤ k) × (k < to) × Refers (view_of s.heap) es n k m × IsClaimed es b m))) →
    ((k m : ℕ) → from ≤ k → k < to → Refers (view_of s.heap) es n k m → IsTaken es m → Met es (needs_of q1.needs) t m) →
    place ≡ (place_of s.queue t).0 → GoesTo t Copy place copied q1 q2 → GoesOn t s (record s { queue = q2 }) es
passes s q1 q2 es t object copied n from to place a x holds taken same long kept met all at goes =
    let s1 : Scene = record s { queue = record s.queue { needs = q1.needs } } in
    let g1 : GoesOn t s s1 es = goes_by_needs s q1.needs es t a long kept
    (λ u b need. elim (met u b need) [
      | inl old ↦ inl old
      | inr z ↦ inr (
        z.0,
        z.1,
        (let w = z.2 in let h = holds.here w.0 w.2 w.3 in record {
          n = n;
          k = w.0;
          m = w.1;
          refers_to = refers_here s es t object copied n w.0 w.1 a x h.0 h.1 w.4;
          claimed = w.5;
        }),
      )
    ]) in
    let is1 : Is s1.queue es t (place_of s.queue t).0 n = record { within = x.is.within; claimed = x.is.claimed; placed = x.is.placed; object = x.is.object; line = x.is.line } in
    let reach = met_lines_go_on s1 es t (place_of s.queue t).0 n g1.agrees is1 x.phase refl (x.count ∙ x.last)
    (λ k m ref kept lt here lm names. let r : Refers (view_of s.heap) es n k m = record { reference = ref; there = lm; names = names } in
    let b = holds.back k lt here in all k m b.0 b.1 r (taken k m b.0 b.1 r)) in
    let goes1 : GoesTo t Copy (place_of s.queue t).0 ((place_of s.queue t).1 + 1) s1.queue q2 =
    subst (λ (q : Queues). GoesTo t Copy (place_of s.queue t).0 ((place_of s.queue t).1 + 1) q q2) same
    (subst (λ y. GoesTo t Copy (place_of s.queue t).0 y q1 q2) x.last (subst (λ y. GoesTo t Copy y copied q1 q2) at goes)) in
    let on : IsOn (phase_of s.queue t) (place_of s.queue t) Copy ((place_of s.queue t).0, (place_of s.queue t).1 + 1) = inr (sym x.phase, inr (refl, omega arith)) in
    goes_on_on s s1 (record s { queue = q2 }) es t g1 (goes_by_place s1 q2 es t Copy (place_of s.queue t).0 ((place_of s.queue t).1 + 1) g1.agrees goes1 on reach)

-- ---- in phase Repair

-- how many lines the object at an index has
abbrev pub Counts : List Entry → ℕ → ℕ → Type 0
Counts es object count = (m : ℕ) → m < length es → (entry es m).stage < 3 → (entry es m).at ≡ object → count ≡ lines_of (entry es m)

-- The object at the place is repaired: the place goes on to the next one.
pub passes_object : (s : Scene) (q : Queues) (es : List Entry) (t object first count : ℕ) → AgreesAt s es → phase_of s.queue t ≡ Repair →
    Some (object, first) ≡ slice_get (queue_of s.queue t) (place_of s.queue t).0 → Counts es object count → count ≤ (place_of s.queue t).1 →
    GoesTo t Repair ((place_of s.queue t).0 + 1) 0 s.queue q → GoesOn t s (record s { queue = q }) es
passes_object s q es t object first count a repairing item counts done goes =
    let f = found s es t (place_of s.queue t).0 (object, first) a item in
    let lines = counts f.0 f.1.claimed.0 (young (view_of s.heap) es t f.0 a.lies f.1.claimed) f.2 in
    goes_by_place s q es t Repair ((place_of s.queue t).0 + 1) 0 a goes (inr (sym repairing, inl (omega arith)))
    (repaired_objects_go_on s es t (place_of s.queue t).0 f.0 a f.1 repairing refl (omega (arith, lines, done)))

-- The line at the place is one of the object's.
pub within_here : (s : Scene) (es : List Entry) (t object first count n : ℕ) → AgreesAt s es → Some (object, first) ≡ slice_get (queue_of s.queue t) (place_of s.queue t).0 → Counts es object count →
    (place_of s.queue t).1 < count → Is s.queue es t (place_of s.queue t).0 n → (place_of s.queue t).1 < lines_of (entry es n)
within_here s es t object first count n a item counts left is =
    let f = found s es t (place_of s.queue t).0 (object, first) a item in
    let same = is_one (view_of s.heap) s.queue es t (place_of s.queue t).0 n f.0 a.lies is f.1 in
    let lines = counts f.0 f.1.claimed.0 (young (view_of s.heap) es t f.0 a.lies f.1.claimed) f.2 in
    subst (λ x. (place_of s.queue t).1 < lines_of (entry es x)) (sym same) (omega (arith, lines, left))

-- All objects are repaired: the flush begins.
pub flushes : (s : Scene) (q : Queues) (es : List Entry) (t : ℕ) → AgreesAt s es → phase_of s.queue t ≡ Repair → length (queue_of s.queue t) ≤ (place_of s.queue t).0 →
    GoesTo t Flush 0 0 s.queue q → GoesOn t s (record s { queue = q }) es
flushes s q es t a repairing all goes = goes_by_place s q es t Flush 0 0 a goes
    (inl (let e : rank (phase_of s.queue t) ≡ 1 = ap rank repairing in omega (arith, e)))
    (repaired_queues_flush s es t a repairing all)

-- All objects are forwarded: the repair begins.
pub repairs : (s : Scene) (q : Queues) (es : List Entry) (t : ℕ) → AgreesAt s es → phase_of s.queue t ≡ Copy → length (queue_of s.queue t) ≤ (place_of s.queue t).0 →
    GoesTo t Repair 0 0 s.queue q → GoesOn t s (record s { queue = q }) es
repairs s q es t a copying all goes = goes_by_place s q es t Repair 0 0 a goes
    (inl (let e : rank (phase_of s.queue t) ≡ 0 = ap rank copying in omega (arith, e)))
    (forwarded_queues_repair s es t a copying all)

-- what is to be repaired there
pub to_repair_here : (s : Scene) (es : List Entry) (t object first : ℕ) → AgreesAt s es → phase_of s.queue t ≡ Repair → Some (object, first) ≡ slice_get (queue_of s.queue t) (place_of s.queue t).0 →
    ((n : ℕ) → Is s.queue es t (place_of s.queue t).0 n → (place_of s.queue t).1 < lines_of (entry es n)) → IsToRepair s es t object first (place_of s.queue t).1
to_repair_here s es t object first a repairing item within =
    let f = found s es t (place_of s.queue t).0 (object, first) a item in
    record { n = f.0; is = f.1; phase = repairing; at = f.2; line = f.3; here = refl; within = within f.0 f.1 }

-- ---- what is done in phase Copy

pub looking_of : (s : Scene) (es : List Entry) (t object first n count : ℕ) → AgreesAt s es → IsAtObject s es t object
    first n → count ≡ (entry es n).copied → count ≢ (place_of s.queue t).1 → IsLooking s es t object count n
looking_of s es t object first n count a x is ne = record {
  is = x.is;
  phase = x.phase;
  at = x.at;
  count = sym is;
  last = elim (copying_here s es t n a x.is x.phase).1 [ inl eq ↦ absurd (ne (is ∙ eq)) | inr eq ↦ is ∙ eq ];
}

pub filling_of : (s : Scene) (es : List Entry) (t object first n count : ℕ) → AgreesAt s es → IsAtObject s es t object
    first n → count ≡ (entry es n).copied → IsFilling (view_of s.heap) object first count es n
filling_of s es t object first n count a x is = record {
  lies = a.lies;
  there = x.is.claimed.0;
  at = x.at;
  young = (copying_here s es t n a x.is x.phase).0;
  line = x.line;
  count = sym is;
}

copying_of : (s : Scene) (es : List Entry) (t object first n count : ℕ) → AgreesAt s es → IsAtObject s es t object first n
    → count ≡ (entry es n).copied → count ≡ (place_of s.queue t).1 → IsCopying s es t object first n
copying_of s es t object first n count a x is at = record {
  is = x.is;
  phase = x.phase;
  at = x.at;
  first = x.line;
  young = (copying_here s es t n a x.is x.phase).0;
  copied = sym is ∙ at;
}

pub next_of : (w : Work) (s : Scene) (es : List Entry) (t object first n count : ℕ) → AgreesAt s es → IsAtObject s es t object first n → count ≡ (entry es n).copied → count ≡ (place_of s.queue t).1 →
    IsNextOf w object first count (entry es n).slots → IsWork w t s es
next_of (work.Claim at) s es t object first n count a x is place next = absurd next
next_of (work.Copy at line) s es t object first n count a x is place next =
    subst (λ o. IsToCopy s es t o line) (sym next.0)
    (record { n = n; first = first; copying = copying_of s es t object first n count a x is place; left = (let l = next.2 in omega (arith, l, is)); here = (let l = next.1 in omega (arith, l, is)) })
next_of (work.Forward at line) s es t object first n count a x is place next =
    subst (λ o. IsToForward s es t o line) (sym next.0) (subst (IsToForward s es t object) (sym next.1)
    (record { n = n; copying = copying_of s es t object first n count a x is place; full = (let l = next.2 in omega (arith, l, is)) }))
next_of (work.Repair at line c) s es t object first n count a x is place next = absurd next
next_of work.Flush s es t object first n count a x is place next = absurd next

-- once the place has gone on to the next line
pub at_after : (s : Scene) (q : Queues) (es : List Entry) (t object first n : ℕ) → IsAtObject s es t object first n →
    q.queues ≡ s.queue.queues → phase_of q t ≡ Copy → (place_of q t).0 ≡ (place_of s.queue t).0 →
    IsAtObject (record s { queue = q }) es t object first n
at_after s q es t object first n x same phase at = record {
  is = subst (λ y. Is q es t y n) (sym at) (record {
    within = subst (λ (y : List (List Queued)). (place_of s.queue t).0 < length (queue_in y t)) (sym same) x.is.within;
    claimed = x.is.claimed;
    placed = x.is.placed;
    object = ap (λ (y : List (List Queued)). (item_in y t (place_of s.queue t).0).0) same ∙ x.is.object;
    line = ap (λ (y : List (List Queued)). (item_in y t (place_of s.queue t).0).1) same ∙ x.is.line;
  });
  phase = phase;
  at = x.at;
  line = x.line;
}

pub object_here : (s : Scene) (es : List Entry) (t : ℕ) (item : Queued) → AgreesAt s es → phase_of s.queue t ≡ Copy → Some item ≡ slice_get (queue_of s.queue t) (place_of s.queue t).0 →
    (n : ℕ) × IsAtObject s es t item.0 item.1 n
object_here s es t item a copying is =
    let f = found s es t (place_of s.queue t).0 item a is in
    (f.0, record { is = f.1; phase = copying; at = f.2; line = f.3 })
