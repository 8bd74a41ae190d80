-- A thread that lacks another waits for it, and no other thread waits.
use Rattle.std.proofs.Common.{◌≡◌, ◌≢◌, ◌⊎◌, inl, inr, ℕ, ◌+◌, ◌%◌, ◌<◌, Bool, true, List, length, refl, sym, ◌∙◌, ap, subst}
use Rattle.std.proofs.Common.{arith}
use Rattle.twin_forms.specs.Table.{Entry, entry, Names, refers, kept_at, word_of, shows, line_of}
use Rattle.twin_forms.specs.Moves.{Moved, SameHeap, IsRepaired}
use Rattle.twin_forms.specs.Sights.{Twin, view_of}
use Rattle.twin_forms.proofs.Led.{same_or_not, below_or_not, one_object, number_is}
use Rattle.twin_forms.proofs.Elsewhere.{positive, value_obj, value_null}
use Rattle.convert_queue.specs.declared.phase.Phase.{Phase}
use Rattle.convert_queue.specs.declared.phase.Phase.TheVariants.{Copy, Repair, Flush}
use Rattle.convert_queue.specs.Marks.{Mark, IsClean}
use Rattle.convert_queue.specs.Queues.{Queued, Queues, IsSettled, IsLeastUnsettled, queue_in, phase_of, place_of}
use Rattle.convert_queue.specs.Threads.{has, needs_of}
use Rattle.convert_words.specs.declared.step.ConvertStep.{ConvertStep}
use Rattle.convert_words.specs.declared.step.ConvertStep.TheVariants as step
use Rattle.convert_words.specs.Agreeing.{Is, item_in, IsMended}
use Rattle.convert_words.specs.Scenes.{Scene, AgreesAt}
use Rattle.convert_words.specs.Converting.{RefersTo, rank, GoesOn, Lacks, Waits, Converts, Says, RepairsLine}
use Rattle.convert_words.proofs.Basics.{few_threads, is_one, leads_moved, refers_moved, number_plus}
use Rattle.converter.specs.Laws.{StoppedThreadsWait, LackingThreadsWait, SettledThreadsWait, WaitingThreadsLack}
use Rattle.converter.proofs.Exact.{clash, flush_stays, in_closed, in_group_back, needs_back}
use Rattle.converter.proofs.Repaired.{even_not_behind}

-- ---- the place doesn't go past what the thread lacks

pub is_still : (q q' : Queues) (es : List Entry) (t i n : ℕ) → q'.queues ≡ q.queues → Is q es t i n → Is q' es t i n
is_still q q' es t i n same x = record {
  within = subst (λ (y : List (List Queued)). i < length (queue_in y t)) (sym same) x.within;
  claimed = x.claimed;
  placed = x.placed;
  object = ap (λ (y : List (List Queued)). (item_in y t i).0) same ∙ x.object;
  line = ap (λ (y : List (List Queued)). (item_in y t i).1) same ∙ x.line;
}

refers_still : (s at : Scene) (es : List Entry) (t n k m : ℕ) → at.heap ≡ s.heap → RefersTo s es t n k m → RefersTo at es t n k m
refers_still s at es t n k m same r = record {
  claimed = r.claimed;
  slot = r.slot;
  reference = subst (λ (h : Twin). refers (view_of h) (entry es n) k ≡ true) (sym same) r.reference;
  kept = subst (λ (h : Twin). kept_at (view_of h) (entry es n) k ≡ true) (sym same) r.kept;
  copied = r.copied;
  there = r.there;
  leads = subst (λ (h : Twin). Names (entry es m) (word_of (view_of h) (entry es n) k)) (sym same) r.leads;
}

pub last : (p : Phase) → 1 < rank p → p ≡ Flush
last Copy lt = absurd (omega (arith, lt))
last Repair lt = absurd (omega (arith, lt))
last Flush lt = refl

mended_in : (p p' : Phase) (at l i c : ℕ) → p ≡ p' → IsMended p' at l i c → IsMended p at l i c
mended_in p p' at l i c eq m = subst (λ y. IsMended y at l i c) (sym eq) m

still_lacks : (s at : Scene) (es : List Entry) (t u : ℕ) → GoesOn t s at es → Lacks s es t u → Lacks at es t u
still_lacks s at es t u goes l =
    let i = (place_of s.queue t).0 in
    let is : Is at.queue es t i l.n = is_still s.queue at.queue es t i l.n goes.queues l.is in
    let r = refers_still s at es t l.n l.k l.m goes.heap l.refers_to in
    let way = (goes.agrees.on_way t i l.n is).reaches in
    let unmended : IsMended (phase_of at.queue t) (place_of at.queue t).0 (place_of at.queue t).1 i (line_of l.k) → ⊥ =
    λ mended. even_not_behind (entry es l.m) (word_of (view_of at.heap) (entry es l.n) l.k) (way.mended l.k r.reference r.kept r.slot mended) r.leads l.behind in
    let here = l.here in
    elim goes.on [
      | inl more ↦ absurd (unmended (mended_in (phase_of at.queue t) Flush (place_of at.queue t).0 (place_of at.queue t).1 i (line_of l.k)
          (last (phase_of at.queue t) (let e : rank (phase_of s.queue t) ≡ 1 = ap rank l.phase in omega (arith, e, more))) tt))
      | inr x ↦ (
          let phase : phase_of at.queue t ≡ Repair = x.0 ∙ l.phase in
          elim x.1 [
            | inl lt ↦ absurd (unmended (mended_in (phase_of at.queue t) Repair (place_of at.queue t).0 (place_of at.queue t).1 i (line_of l.k) phase (inl lt)))
            | inr y ↦ elim (below_or_not (place_of s.queue t).1 (place_of at.queue t).1) [
              | inl lt ↦ absurd (unmended (mended_in (phase_of at.queue t) Repair (place_of at.queue t).0 (place_of at.queue t).1 i (line_of l.k) phase (inr (sym y.0, omega (arith, lt, here)))))
              | inr le ↦ (let on = y.1 in record {
                phase = phase;
                n = l.n;
                k = l.k;
                m = l.m;
                is = subst (λ z. Is at.queue es t z l.n) (sym y.0) is;
                refers_to = r;
                here = omega (arith, here, le, on);
                claimed = l.claimed;
                behind = l.behind;
              })
            ]
          ])
    ]

-- ---- a thread whose repair lacks another

-- A line that lacks another thread isn't repaired.
not_repaired : (t u : ℕ) (s s' : Scene) (es es' : List Entry) → AgreesAt s es → Lacks s es t u → Converts t step.Repaired s s' es es' → RepairsLine s s' es es' t → ⊥
not_repaired t u s s' es es' a l c w =
    let v = view_of s.heap in
    let v' = view_of s'.heap in
    let r = l.refers_to in
    let n = l.n in
    let k = l.k in
    let same : w.n ≡ n = is_one v s.queue es t (place_of s.queue t).0 w.n n a.lies w.is l.is in
    let lies' = subst (λ (x : List Entry). AgreesAt s' x) w.table c.agrees in
    let moved : Moved v es v' es = record { lies = lies'.lies; same = subst (λ (x : List Entry). SameHeap v es v' x) w.table c.shows } in
    let one : refers v' (entry es n) k ≡ true = refers_moved v v' es es n k moved r.claimed.0 r.slot ∙ r.reference in
    let word = word_of v (entry es n) k in
    let word' = word_of v' (entry es n) k in
    let even : word' % 2 ≡ 0 = subst (λ (x : ℕ). IsRepaired (place_of s.queue t).1 v' es x) same w.repaired k r.slot l.here one
    (subst (λ (f : ℕ → ℕ → Bool). f (entry es n).shape k ≡ true) (sym moved.same.kept) r.kept) in
    let some : number_plus (shows v es n k) ≡ l.m + 1 =
    ap number_plus (value_obj v (refers v (entry es n) k) word r.reference (positive (entry es l.m) word r.leads)) ∙ ap (λ x. x + 1) (number_is v es l.m word a.lies r.there r.leads) in
    elim (lies'.lies.refs n k r.claimed.0 one r.slot) [
      | inl z ↦ (let none : number_plus (shows v' es n k) ≡ 0 = ap number_plus (value_null v' (refers v' (entry es n) k) word' one z) in
          let eq = ap number_plus (moved.same.same n k r.claimed.0 r.slot) in omega (arith, some, none, eq))
      | inr x ↦ (
          let back = leads_moved v v' es es n k a.lies moved r.claimed.0 r.slot one x.0 x.1 x.2 in
          let eq : x.0 ≡ l.m = one_object v es x.0 l.m word a.lies x.1 r.there back.1 r.leads in
          even_not_behind (entry es l.m) word' even (subst (λ y. Names (entry es y) word') eq x.2) l.behind)
    ]

stopped_waits : (answer : ConvertStep) (t u : ℕ) (s s' : Scene) (es es' : List Entry) → AgreesAt s es → Lacks s es t u → Converts t answer s s' es es' →
    (answer ≡ step.Touched) ⊎ ((x : ℕ) × (answer ≡ step.Wait x) × Lacks s es t x)
stopped_waits step.Claimed t u s s' es es' a l c = absurd (clash (phase_of s.queue t) Copy Repair c.says.0.asked.phase l.phase (λ e. omega (arith, e)))
stopped_waits (step.Full need left) t u s s' es es' a l c = absurd (clash (phase_of s.queue t) Copy Repair c.says.0.asked.phase l.phase (λ e. omega (arith, e)))
stopped_waits step.CopiedLine t u s s' es es' a l c = absurd (clash (phase_of s.queue t) Copy Repair c.says.0.phase l.phase (λ e. omega (arith, e)))
stopped_waits step.Forwarded t u s s' es es' a l c = absurd (clash (phase_of s.queue t) Copy Repair c.says.0.phase l.phase (λ e. omega (arith, e)))
stopped_waits step.WroteBack t u s s' es es' a l c = absurd (clash (phase_of s.queue t) Flush Repair c.says.0.phase l.phase (λ e. omega (arith, e)))
stopped_waits step.Fenced t u s s' es es' a l c = absurd (clash (phase_of s.queue t) Flush Repair c.says.0.phase l.phase (λ e. omega (arith, e)))
stopped_waits step.Repaired t u s s' es es' a l c = absurd (not_repaired t u s s' es es' a l c c.says.0)
stopped_waits (step.Sealed set) t u s s' es es' a l c =
    absurd (clash (phase_of s.queue t) Flush Repair (c.says.settled t (few_threads (view_of s.heap) es t l.n a.lies l.is.claimed) c.says.group.member).phase l.phase (λ e. omega (arith, e)))
stopped_waits step.Touched t u s s' es es' a l c = inl refl
stopped_waits (step.Wait x) t u s s' es es' a l c = inr (
  x,
  refl,
  elim c.says.0.why [
    | inl w ↦ absurd (clash (phase_of s.queue t) Flush Repair w.settled.phase l.phase (λ e. omega (arith, e)))
    | inr lacks ↦ lacks
  ],
)

pub stopped_threads_wait : StoppedThreadsWait
stopped_threads_wait t u answer s s' es ms ms' a e l = stopped_waits answer t u e.at s' es e.after e.goes_on.agrees l e.converts

pub lacking_threads_wait : LackingThreadsWait
lacking_threads_wait t u answer s s' es ms ms' a e l = stopped_waits answer t u e.at s' es e.after e.goes_on.agrees (still_lacks s e.at es t u e.goes_on l) e.converts

-- ---- a settled thread whose group isn't

-- there is one least member that isn't settled
least_one : (q : Queues) (t x u : ℕ) → IsLeastUnsettled q t x → IsLeastUnsettled q t u → x ≡ u
least_one q t x u a b =
    let need = needs_of q.needs in
    let xb = in_closed need need t (has b.set) (λ i j n. n) b.group.closed b.group.member x (a.group.least x a.member) in
    let ua = in_closed need need t (has a.set) (λ i j n. n) a.group.closed a.group.member u (b.group.least u b.member) in
    elim (below_or_not x u) [
      | inl lt ↦ absurd (a.unsettled (b.least x lt xb))
      | inr le ↦ elim (below_or_not u x) [
        | inl lt ↦ absurd (b.unsettled (a.least u lt ua))
        | inr ge ↦ omega (arith, le, ge)
      ]
    ]

settled_waits : (answer : ConvertStep) (t u : ℕ) (s s' : Scene) (es es' : List Entry) → u < 64 → IsSettled s.queue t → IsLeastUnsettled s.queue t u → Says answer t s s' es es' → answer ≡ step.Wait u
settled_waits step.Claimed t u s s' es es' lu own l says = absurd (clash (phase_of s.queue t) Copy Flush says.0.asked.phase own.phase (λ e. omega (arith, e)))
settled_waits (step.Full need left) t u s s' es es' lu own l says = absurd (clash (phase_of s.queue t) Copy Flush says.0.asked.phase own.phase (λ e. omega (arith, e)))
settled_waits step.CopiedLine t u s s' es es' lu own l says = absurd (clash (phase_of s.queue t) Copy Flush says.0.phase own.phase (λ e. omega (arith, e)))
settled_waits step.Forwarded t u s s' es es' lu own l says = absurd (clash (phase_of s.queue t) Copy Flush says.0.phase own.phase (λ e. omega (arith, e)))
settled_waits step.Repaired t u s s' es es' lu own l says = absurd (clash (phase_of s.queue t) Repair Flush says.0.phase own.phase (λ e. omega (arith, e)))
settled_waits step.WroteBack t u s s' es es' lu own l says = absurd (own.clean.written says.0.line says.0.stored)
settled_waits step.Fenced t u s s' es es' lu own l says = absurd (own.clean.fenced says.0.line says.0.waits)
settled_waits step.Touched t u s s' es es' lu own l says = absurd (elim says.0.needed [
  | inl x ↦ clash (phase_of s.queue t) Copy Flush x.0 own.phase (λ e. omega (arith, e))
  | inr y ↦ elim y [
    | inl x ↦ clash (phase_of s.queue t) Repair Flush x.0 own.phase (λ e. omega (arith, e))
    | inr x ↦ own.clean.written says.0.line x.1
  ]
])
settled_waits (step.Sealed set) t u s s' es es' lu own l says =
    let need = needs_of s.queue.needs in
    let member = in_closed need need t (has set) (λ i j n. n) says.group.closed says.group.member u (l.group.least u l.member) in
    absurd (l.unsettled (says.settled u lu member))
settled_waits (step.Wait x) t u s s' es es' lu own l says = elim says.0.why [
  | inl w ↦ ap step.Wait (least_one s.queue t x u w.unsettled l)
  | inr lacks ↦ absurd (clash (phase_of s.queue t) Repair Flush lacks.phase own.phase (λ e. omega (arith, e)))
]

settled_on : (t w : ℕ) (q q' : Queues) → ((u : ℕ) → u ≢ t → phase_of q' u ≡ phase_of q u) → q'.marks ≡ q.marks → IsSettled q' t → IsSettled q w → IsSettled q' w
settled_on t w q q' phases marks own x = elim (same_or_not w t) [
  | inl eq ↦ subst (IsSettled q') (sym eq) own
  | inr ne ↦ record { phase = phases w ne ∙ x.phase; clean = subst (λ (m : List Mark). IsClean m w) (sym marks) x.clean }
]

pub settled_threads_wait : SettledThreadsWait
settled_threads_wait t u answer s s' es ms ms' a e lu own l =
    let at = e.at in
    let goes = e.goes_on in
    let back = needs_back s at es t a own.phase goes in
    let own' : IsSettled at.queue t = record {
      phase = flush_stays (phase_of s.queue t) (phase_of at.queue t) (place_of s.queue t) (place_of at.queue t) own.phase goes.on;
      clean = subst (λ (m : List Mark). IsClean m t) (sym goes.marks) own.clean;
    } in
    let g = l.group in
    settled_waits answer t u at s' es e.after lu own' (record {
      set = l.set;
      group = record {
        member = g.member;
        least = λ w member. in_group_back (needs_of at.queue.needs) (needs_of s.queue.needs) t goes.kept w (g.least w member);
        closed = λ x y member need. g.closed x y member (back x y need);
      };
      member = l.member;
      unsettled = λ x. l.unsettled (settled_on t u at.queue s.queue (λ w ne. sym (goes.other_phases w ne)) (sym goes.marks) own x);
      least = λ w lt member. settled_on t w s.queue at.queue goes.other_phases goes.marks own' (l.least w lt member);
    }) e.converts.says

-- ---- who waits lacks the other

pub waiting_threads_lack : WaitingThreadsLack
waiting_threads_lack t u s s' es ms ms' e =
    let says = e.converts.says in
    subst (λ (x : Scene). AgreesAt x es × Waits x es t u) (sym says.1) (e.goes_on.agrees, says.0)
