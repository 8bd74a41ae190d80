-- The objects of a group are sealed, one after another.
use Rattle.std.proofs.Common.{◌≡◌, ◌⊎◌, inl, inr, ℕ, ◌+◌, ◌<◌, ◌≤◌, ◌^◌, true, false, List, length, refl, sym, ◌∙◌, ap, subst}
use Rattle.std.proofs.Common.{arith, slice_set}
use Rattle.std.specs.Prelude.{Some, slice_get, slice_index_or}
use Rattle.std.proofs.lemmas.Option.{slice_get_within, get_or_from_slice_get}
use Rattle.std.proofs.lemmas.Bool.{false≢true}
use Rattle.twin_forms.specs.Table.{Entry, entry, View, IsClaimed}
use Rattle.twin_forms.specs.Moves.{Moved, ToSeal, sealed}
use Rattle.twin_forms.specs.Sights.{view_of, held_of, written_of}
use Rattle.twin_forms.proofs.Led.{same_or_not}
use Rattle.convert_queue.specs.Queues.{Queued, Queues, queue_of, AllSettled}
use Rattle.convert_queue.specs.Threads.{has}
use Rattle.convert_words.specs.Agreeing.{Is}
use Rattle.convert_words.specs.Scenes.{Scene, IsKey, AgreesAt}
use Rattle.convert_words.specs.Sealing.{AreSealed, OfSet}
use Rattle.convert_words.proofs.Basics.{claimed_once, few_threads, is_one}
use Rattle.convert_words.proofs.Bridges.{moved_same}
use Rattle.convert_words.proofs.Moves.{moved_on}
use Rattle.convert_words.proofs.Released.{one_sealed, sealed_alike}
use Rattle.convert_words.proofs.Settled.{settled_forwarded}
use Rattle.monitors.specs.declared.monitor.Monitor.{Monitor}
use Rattle.convert_words.specs.declared.step.ConvertStep.TheVariants as step
use Rattle.convert_words.specs.Converting.{Converts, GoesOn}
use Rattle.converter.specs.Stepping.{Event}
use Rattle.converter.specs.Sealing.{IsOfFirst, AreSealedTo}
use Rattle.converter.proofs.Placed.{few_queued}

pub sealed_none : (s : Scene) (es : List Entry) (set : ℕ) → AgreesAt s es → s.free ≤ s.heap.memory.size → AllSettled s.queue set → AreSealedTo s.queue (view_of s.heap) es set 0 0 (view_of s.heap) es
sealed_none s es set a le settled = record {
  lies = a.lies;
  queued = a.queued;
  few = λ t. few_queued s es t a le;
  forwarded = λ t n member c.
      settled_forwarded (view_of s.heap) (held_of s.heap.memory) (written_of s.heap.memory) s.queue s.free (IsKey s.keys) es t n a (settled t (few_threads (view_of s.heap) es t n a.lies c) member) c;
  moved = moved_same (view_of s.heap) es a.lies;
  sealed = record {
    long = refl;
    here = λ n ln those. absurd (elim those [ inl x ↦ (let y = x.1 in omega (arith, y)) | inr x ↦ (let y = x.1 in omega (arith, y)) ]);
    others = λ n ln no. refl;
  };
}

-- The next object of thread u isn't sealed yet.
pub not_yet : (q : Queues) (v0 : View) (es0 : List Entry) (set u i n : ℕ) (v : View) (es : List Entry) → AreSealedTo q v0 es0 set u i v es → Is q es0 u i n → entry es n ≡ entry es0 n
not_yet q v0 es0 set u i n v es s is = s.sealed.others n is.claimed.0 (λ those. elim those [
  | inl x ↦ (let lt = x.1 in let eq = claimed_once es0 x.0 u n x.3 is.claimed in omega (arith, lt, eq))
  | inr x ↦ (let lt = x.1 in let eq = s.queued.once u x.0 i n x.3 is in omega (arith, lt, eq))
])

pub sealed_one : (q : Queues) (v0 : View) (es0 : List Entry) (set u i n : ℕ) (v v' : View) (es : List Entry) → AreSealedTo q v0 es0 set u i v es → has set u ≡ true → Is q es0 u i n →
    Moved v es v' (slice_set es n (sealed (entry es n))) → AreSealedTo q v0 es0 set u (i + 1) v' (slice_set es n (sealed (entry es n)))
sealed_one q v0 es0 set u i n v v' es s member is moved =
    let es' = slice_set es n (sealed (entry es n)) in
    let one = one_sealed (IsOfFirst q es0 set u i) es0 es n is.claimed.0 s.sealed (not_yet q v0 es0 set u i n v es s is) in
    record {
      lies = s.lies;
      queued = s.queued;
      few = s.few;
      forwarded = s.forwarded;
      moved = moved_on v0 v v' es0 es es' s.moved moved;
      sealed = sealed_alike (λ m. IsOfFirst q es0 set u i m ⊎ (m ≡ n)) (IsOfFirst q es0 set u (i + 1)) es0 es'
          (λ m lm those. elim those [
            | inl first ↦ elim first [
              | inl x ↦ inl x
              | inr x ↦ inr (x.0, (let lt = x.1 in omega (arith, lt)), x.2, x.3)
            ]
            | inr eq ↦ inr (i, omega arith, member, subst (λ x. Is q es0 u i x) (sym eq) is)
          ])
          (λ m lm those. elim those [
            | inl x ↦ inl (inl x)
            | inr x ↦ elim (same_or_not x.0 i) [
              | inl eq ↦ inr (is_one v0 q es0 u i m n s.lies (subst (λ z. Is q es0 u z m) eq x.3) is)
              | inr ne ↦ inl (inr (x.0, (let lt = x.1 in omega (arith, lt, ne)), x.2, x.3))
            ]
          ])
          one;
    }

-- All objects of thread u are sealed.
pub sealed_thread : (q : Queues) (v0 : View) (es0 : List Entry) (set u i : ℕ) (v : View) (es : List Entry) → AreSealedTo q v0 es0 set u i v es → has set u ≡ true → length (queue_of q u) ≤ i →
    AreSealedTo q v0 es0 set (u + 1) 0 v es
sealed_thread q v0 es0 set u i v es s member all = record {
  lies = s.lies;
  queued = s.queued;
  few = s.few;
  forwarded = s.forwarded;
  moved = s.moved;
  sealed = sealed_alike (IsOfFirst q es0 set u i) (IsOfFirst q es0 set (u + 1) 0) es0 es
      (λ m lm those. elim those [
        | inl x ↦ inl (x.0, (let lt = x.1 in omega (arith, lt)), x.2, x.3)
        | inr x ↦ inl (u, omega arith, member, x.3.claimed)
      ])
      (λ m lm those. elim those [
        | inl x ↦ elim (same_or_not x.0 u) [
          | inl eq ↦ (let j = s.queued.all u m (subst (λ y. IsClaimed es0 y m) eq x.3) in let w = j.1.within in inr (j.0, omega (arith, w, all), member, j.1))
          | inr ne ↦ inl (x.0, (let lt = x.1 in omega (arith, lt, ne)), x.2, x.3)
        ]
        | inr x ↦ absurd (let lt = x.1 in omega (arith, lt))
      ])
      s.sealed;
}

-- Thread u isn't one of the set.
pub sealed_past : (q : Queues) (v0 : View) (es0 : List Entry) (set u : ℕ) (v : View) (es : List Entry) → AreSealedTo q v0 es0 set u 0 v es → has set u ≡ false → AreSealedTo q v0 es0 set (u + 1) 0 v es
sealed_past q v0 es0 set u v es s out = record {
  lies = s.lies;
  queued = s.queued;
  few = s.few;
  forwarded = s.forwarded;
  moved = s.moved;
  sealed = sealed_alike (IsOfFirst q es0 set u 0) (IsOfFirst q es0 set (u + 1) 0) es0 es
      (λ m lm those. elim those [
        | inl x ↦ inl (x.0, (let lt = x.1 in omega (arith, lt)), x.2, x.3)
        | inr x ↦ absurd (let lt = x.1 in omega (arith, lt))
      ])
      (λ m lm those. elim those [
        | inl x ↦ elim (same_or_not x.0 u) [
          | inl eq ↦ absurd (false≢true (sym out ∙ subst (λ y. has set y ≡ true) eq x.2))
          | inr ne ↦ inl (x.0, (let lt = x.1 in omega (arith, lt, ne)), x.2, x.3)
        ]
        | inr x ↦ absurd (let lt = x.1 in omega (arith, lt))
      ])
      s.sealed;
}

-- All threads are done.
pub sealed_all : (q : Queues) (v0 : View) (es0 : List Entry) (set : ℕ) (v : View) (es : List Entry) →
    ((t n : ℕ) → IsClaimed es0 t n → t < 64) → AreSealedTo q v0 es0 set 64 0 v es → AreSealed (OfSet es0 set) es0 es
sealed_all q v0 es0 set v es few s = sealed_alike (IsOfFirst q es0 set 64 0) (OfSet es0 set) es0 es
    (λ m lm those. elim those [
      | inl x ↦ (x.0, x.2, x.3)
      | inr x ↦ absurd (let lt = x.1 in omega (arith, lt))
    ])
    (λ m lm those. inl (those.0, few those.0 m those.2, those.1, those.2))
    s.sealed

-- what stands at a place of a queue
pub queued_in : (q : Queues) (v0 : View) (es0 : List Entry) (set u i : ℕ) (v : View) (es : List Entry) (x : Queued) → AreSealedTo q v0 es0 set u i v es → Some x ≡ slice_get (queue_of q u) i →
    (n : ℕ) × Is q es0 u i n × ((entry es0 n).at ≡ x.0)
queued_in q v0 es0 set u i v es x s is =
    let lt = slice_get_within (queue_of q u) i x (sym is) in
    let y = s.queued.there u i lt in
    let item : slice_index_or (queue_of q u) i (0, 0) ≡ x = get_or_from_slice_get (queue_of q u) i x (0, 0) (sym is) in
    (y.0, y.1, sym y.1.object ∙ ap (λ (z : Queued). z.0) item)

-- It may be sealed.
pub to_seal : (q : Queues) (v0 : View) (es0 : List Entry) (set u i n object : ℕ) (v : View) (es : List Entry) → AreSealedTo
    q v0 es0 set u i v es → has set u ≡ true → Is q es0 u i n → (entry es0 n).at ≡ object →
    (n < length es) × ToSeal object v es n
to_seal q v0 es0 set u i n object v es s member is at =
    let same = not_yet q v0 es0 set u i n v es s is in
    let long = s.sealed.long in
    let lt = is.claimed.0 in
    let owner = is.claimed.1 in (
      omega (arith, long, lt),
      (
        ap (λ e. e.at) same ∙ at,
        ap (λ e. e.stage) same ∙ s.forwarded u n member is.claimed,
        (let o : (entry es n).owner ≡ u + 1 = ap (λ e. e.owner) same ∙ owner in omega (arith, o)),
      ),
    )

-- the same by another scene of the same heap and queues, in which no more lines are taken than there are
pub sealed_none_of : (s s' : Scene) (es es' : List Entry) (set : ℕ) → AgreesAt s es → AgreesAt s' es' → s'.heap ≡ s.heap → s'.queue ≡ s.queue → s'.free ≤ s'.heap.memory.size → AllSettled s.queue set →
    AreSealedTo s.queue (view_of s.heap) es set 0 0 (view_of s.heap) es
sealed_none_of s s' es es' set a a' heap queue le settled = record {
  lies = a.lies;
  queued = a.queued;
  few = λ t. subst (λ (q : Queues). length (queue_of q t) < 2 ^ 32) queue (few_queued s' es' t a' le);
  forwarded = λ t n member c.
      settled_forwarded (view_of s.heap) (held_of s.heap.memory) (written_of s.heap.memory) s.queue s.free (IsKey s.keys) es t n a (settled t (few_threads (view_of s.heap) es t n a.lies c) member) c;
  moved = moved_same (view_of s.heap) es a.lies;
  sealed = record {
    long = refl;
    here = λ n ln those. absurd (elim those [ inl x ↦ (let y = x.1 in omega (arith, y)) | inr x ↦ (let y = x.1 in omega (arith, y)) ]);
    others = λ n ln not. refl;
  };
}

-- ---- as an event

-- A place may stay where it is.
pub rests : (t : ℕ) (s : Scene) (es : List Entry) → AgreesAt s es → GoesOn t s s es
rests t s es agrees = record {
  heap = refl;
  free = refl;
  keys = refl;
  queues = refl;
  marks = refl;
  other_phases = λ u other. refl;
  other_places = λ u other. refl;
  on = inr (refl, inr (refl, omega arith));
  kept = λ a b needs. needs;
  met = λ a b needs. inl needs;
  agrees = agrees;
}

pub seals_event : (t set : ℕ) (s s' : Scene) (es es' : List Entry) (ms : List Monitor) → AgreesAt s es
    → Converts t (step.Sealed set) s s' es es' → Event t (step.Sealed set) s s' es ms ms
seals_event t set s s' es es' ms agrees converts = record {
  at = s;
  after = es';
  goes_on = rests t s es agrees;
  converts = converts;
  monitors = refl;
  full = λ need left is. absurd (let no : step.Sealed set ≡ step.Full need left = is in cc);
}
