-- Until its flush a thread writes none of its lines back.
use Rattle.std.proofs.Common.{◌≡◌, ◌≢◌, inl, inr, ℕ, ◌+◌, ◌<◌, ◌≤◌, true, List, [], length, refl, sym, ◌∙◌, ap, subst, arith}
use Rattle.std.specs.Prelude.{slice_index_or, zero, suc, ◌⊎◌, ◌/◌}
use Rattle.std.proofs.lemmas.Bool.{cases_Bool, false≢true}
use Rattle.std.proofs.lemmas.List.{get_or-set_other}
use Rattle.twin_forms.specs.Table.{Entry, entry, View, Lies, lines_of, HasCopied, IsClaimed}
use Rattle.twin_forms.specs.Moves.{one_more, forwarded}
use Rattle.twin_forms.specs.Sights.{view_of}
use Rattle.twin_forms.proofs.Led.{same_or_not, below_or_not}
use Rattle.convert_queue.specs.declared.phase.Phase.{Phase}
use Rattle.convert_queue.specs.declared.phase.Phase.TheVariants.{Copy, Repair, Flush}
use Rattle.convert_queue.specs.Marks.{Mark, clean, stored, written, mark_at, after_fence, with_store, IsStored}
use Rattle.convert_queue.specs.Queues.{Queues, queue_of, phase_of, place_of}
use Rattle.convert_queue.specs.Threads.{has}
use Rattle.convert_words.specs.declared.step.ConvertStep.{ConvertStep}
use Rattle.convert_words.specs.declared.step.ConvertStep.TheVariants as step
use Rattle.convert_words.specs.Agreeing.{Is, Far}
use Rattle.convert_words.specs.Scenes.{Scene, AgreesAt}
use Rattle.convert_words.specs.Sealing.{AreSealed, OfSet}
use Rattle.convert_words.specs.Steps.{OneBecomes, claimed_at, told, told_written, told_fenced, with_object}
use Rattle.convert_words.specs.Converting.{GoesOn, Converts, CopiesLine, ForwardsObject, SealsGroup}
use Rattle.convert_words.proofs.Basics.{room_of, claimed_once, line_other}
use Rattle.convert_words.proofs.Tied.{stored_here, stored_other, written_other, fenced_at}
use Rattle.converter.specs.declared.begin.Begun.TheVariants as begun
use Rattle.converter.specs.Beginning.{begun_at, settled_at}
use Rattle.converter.specs.Laws.{AreUnwritten, FirstLinesAreUnwritten, BeginningsStayUnwritten, EventsStayUnwritten}
use Rattle.converter.specs.Laws.{StoresStayUnwritten}
use Rattle.converter.proofs.Exact.{flush_stays}
use Rattle.converter.proofs.Named.{number_is}

-- ---- what two tables of one scene say of a queued object

far_copied : (p : Phase) (at l i c : ℕ) (e e' : Entry) → Far p at l i e → Far p at l i e' → (e.stage ≡ 1 → e'.stage ≡ 1 → e.copied ≡ e'.copied) → HasCopied e' c → HasCopied e c
far_copied Copy at l i c e e' f f' same has = elim (below_or_not i at) [
  | inl lt ↦ inl (let two = f.0 lt in omega (arith, two))
  | inr le ↦ elim (below_or_not at i) [
    | inl gt ↦ absurd (let one = (f'.2 gt).0 in let none = (f'.2 gt).1 in elim has [ inl y ↦ omega (arith, y, one) | inr y ↦ (let z = y.1 in omega (arith, z, none)) ])
    | inr ge ↦ (
        let here : i ≡ at = omega (arith, le, ge) in
        let one = (f.1 here).0 in
        let one' = (f'.1 here).0 in
        elim has [ inl y ↦ absurd (omega (arith, y, one')) | inr y ↦ inr (one, (let z = y.1 in let eq = same one one' in omega (arith, z, eq))) ])
  ]
]
far_copied Repair at l i c e e' f f' same has = inl (omega (arith, f))
far_copied Flush at l i c e e' f f' same has = inl (omega (arith, f))

pub same_item : (s : Scene) (es es' : List Entry) (u i n : ℕ) → AgreesAt s es → AgreesAt s es' → Is s.queue es' u i n → Is s.queue es u i n
same_item s es es' u i n a a' is =
    let x = a.queued.there u i is.within in
    let one : x.0 ≡ n = sym (number_is s es u i x.0 a x.1) ∙ number_is s es' u i n a' is in
    subst (Is s.queue es u i) one x.1

unwritten_same : (s : Scene) (es es' : List Entry) → AgreesAt s es → AgreesAt s es' → length es' ≡ length es →
    ((n : ℕ) → n < length es → (entry es' n).slots ≡ (entry es n).slots) → AreUnwritten s.queue es → AreUnwritten s.queue
    es'
unwritten_same s es es' a a' long slots old u n c claimed early lc has =
    let v = view_of s.heap in
    let i = a'.queued.all u n claimed in
    let x = same_item s es es' u i.0 n a a' i.1 in
    let line : (entry es' n).line ≡ (entry es n).line = sym i.1.line ∙ x.line in
    let far = (a.on_way u i.0 n x).reaches.far in
    let far' = (a'.on_way u i.0 n i.1).reaches.far in
    let copied = far_copied (phase_of s.queue u) (place_of s.queue u).0 (place_of s.queue u).1 i.0 c (entry es n) (entry es' n) far far'
    (λ one one'. sym ((a.lies.sits n x.claimed.0).count one) ∙ ap v.copied (sym line) ∙ (a'.lies.sits n claimed.0).count one') has in
    subst (λ y. IsStored s.queue.marks u (y + c)) (sym line) (old u n c x.claimed early (subst (λ y. c < y / 8 + 1) (slots n x.claimed.0) lc) copied)

-- ---- each kind of step

-- Copied lines are ones that were, at the same places.
unwritten_back : (q q' : Queues) (es es' : List Entry) → q'.marks ≡ q.marks → ((u : ℕ) → phase_of q' u ≢ Flush → phase_of q u ≢ Flush) →
    ((u n c : ℕ) → IsClaimed es' u n → phase_of q' u ≢ Flush → c < lines_of (entry es' n) → HasCopied (entry es' n) c →
    IsClaimed es u n × (c < lines_of (entry es n)) × HasCopied (entry es n) c × ((entry es' n).line ≡ (entry es n).line)) →
    AreUnwritten q es → AreUnwritten q' es'
unwritten_back q q' es es' marks phases back old u n c claimed early lc has =
    let x = back u n c claimed early lc has in
    subst (λ (ms : List Mark). IsStored ms u ((entry es' n).line + c)) (sym marks)
    (subst (λ y. IsStored q.marks u (y + c)) (sym x.3) (old u n c x.0 (phases u early) x.1 x.2))

-- what is stored to by a thread that doesn't flush stays so
unwritten_marks : (q q' : Queues) (es : List Entry) → ((u : ℕ) → phase_of q' u ≢ Flush → phase_of q u ≢ Flush) →
    ((u l : ℕ) → phase_of q u ≢ Flush → IsStored q.marks u l → IsStored q'.marks u l) → AreUnwritten q es → AreUnwritten q' es
unwritten_marks q q' es phases marks old u n c claimed early lc has = marks u ((entry es n).line + c) (phases u early) (old u n c claimed (phases u early) lc has)

some_stage : (e : Entry) (c : ℕ) → HasCopied e c → 0 < e.stage
some_stage e c (inl x) = omega (arith, x)
some_stage e c (inr x) = let y = x.0 in omega (arith, y)

-- a store to a line of thread t's object
unwritten_told : (v : View) (q : Queues) (es : List Entry) (t m l : ℕ) → Lies v es → IsClaimed es t m → 0 < (entry es m).stage →
    (entry es m).line ≤ l → l < (entry es m).line + lines_of (entry es m) → l < length q.marks → AreUnwritten q es → AreUnwritten (told q t l) es
unwritten_told v q es t m l h own some low high within old u n c claimed early lc has = elim (same_or_not ((entry es n).line + c) l) [
  | inr ne ↦ stored_other q.marks t l ((entry es n).line + c) ne ∙ old u n c claimed early lc has
  | inl eq ↦ elim (same_or_not n m) [
    | inr other ↦ absurd (line_other v es m n l c h own.0 claimed.0 other some (some_stage (entry es n) c has) low high lc eq)
    | inl same ↦ (
        let thread : t ≡ u = claimed_once es t u m own (subst (IsClaimed es u) same claimed) in
        ap (mark_at (with_store q.marks t l)) eq ∙ stored_here q.marks t l within ∙ ap stored thread)
  ]
]

pub stores_stay_unwritten : StoresStayUnwritten
stores_stay_unwritten s es t l a own old =
    let room = room_of (view_of s.heap) es own.n a.lies own.claimed.0 own.placed in
    let to = own.to in
    let long = a.sizes.marks in
    unwritten_told (view_of s.heap) s.queue es t own.n l a.lies own.claimed own.placed own.from own.to (omega (arith, room, to, long)) old

pub first_lines_are_unwritten : FirstLinesAreUnwritten
first_lines_are_unwritten q es none u n c claimed early lc has = absurd (let o = claimed.1 in let z = none n claimed.0 in omega (arith, o, z))

-- an ordinary object that is claimed, of which no line is copied
unwritten_claim : (q q' : Queues) (es es' : List Entry) (t m line : ℕ) → q'.marks ≡ q.marks → ((u n : ℕ) → IsClaimed es u n → phase_of q' u ≢ Flush → phase_of q u ≢ Flush) →
    OneBecomes m (claimed_at t line (entry es m)) es es' → AreUnwritten q es → AreUnwritten q' es'
unwritten_claim q q' es es' t m line marks phases becomes old u n c claimed early lc has = elim (same_or_not n m) [
  | inl eq ↦ absurd (
      let here : entry es' n ≡ claimed_at t line (entry es m) = ap (entry es') eq ∙ becomes.here in
      elim (subst (λ (e : Entry). HasCopied e c) here has) [ inl x ↦ omega (arith, x) | inr x ↦ (let y = x.1 in omega (arith, y)) ])
  | inr ne ↦ (
      let same = becomes.others n ne in
      let long = becomes.long in
      let ln = claimed.0 in
      let own : IsClaimed es u n = (omega (arith, ln, long), ap (λ (e : Entry). e.owner) (sym same) ∙ claimed.1) in
      subst (λ (ms : List Mark). IsStored ms u ((entry es' n).line + c)) (sym marks)
      (subst (λ (e : Entry). IsStored q.marks u (e.line + c)) (sym same)
      (old u n c own (phases u n own early) (subst (λ (e : Entry). c < lines_of e) same lc) (subst (λ (e : Entry). HasCopied e c) same has))))
]

unwritten_copied : (t : ℕ) (s s' : Scene) (es es' : List Entry) → AgreesAt s es → CopiesLine s s' es es' t → AreUnwritten s.queue es → AreUnwritten s'.queue es'
unwritten_copied t s s' es es' a w old =
    let v = view_of s.heap in
    let m = w.n in
    let e = entry es m in
    let l = e.line + e.copied in
    let room = room_of v es m a.lies w.is.claimed.0 w.is.placed in
    let left = w.left in
    let long = a.sizes.marks in
    let young = w.young in
    let within : l < length s.queue.marks = omega (arith, room, left, long) in
    let now = unwritten_told v s.queue es t m l a.lies w.is.claimed w.is.placed (omega arith) (omega (arith, left)) within old in
    subst (λ (q : Queues). AreUnwritten q es') (sym w.queue) (λ u n c claimed early lc has. elim (same_or_not n m) [
      | inr ne ↦ (
          let same = w.becomes.others n ne in
          let ln = claimed.0 in
          let sizes = w.becomes.long in
          subst (λ (x : Entry). IsStored (with_store s.queue.marks t l) u (x.line + c)) (sym same)
          (now u n c (omega (arith, ln, sizes), ap (λ (x : Entry). x.owner) (sym same) ∙ claimed.1) early
          (subst (λ (x : Entry). c < lines_of x) same lc) (subst (λ (x : Entry). HasCopied x c) same has)))
      | inl eq ↦ (
          let here : entry es' n ≡ one_more e = ap (entry es') eq ∙ w.becomes.here in
          let more = subst (λ (x : Entry). HasCopied x c) here has in
          let own : u + 1 ≡ t + 1 = sym claimed.1 ∙ ap (λ (x : Entry). x.owner) here ∙ w.is.claimed.1 in
          let thread : u ≡ t = omega (arith, own) in
          let lines : c < lines_of e = subst (λ (x : Entry). c < lines_of x) here lc in
          let count : c < e.copied + 1 = elim more [ inl x ↦ absurd (omega (arith, x, young)) | inr x ↦ x.1 ] in
          subst (λ (x : Entry). IsStored (with_store s.queue.marks t l) u (x.line + c)) (sym here) (elim (below_or_not c e.copied) [
            | inl lt ↦ now u m c (w.is.claimed.0, w.is.claimed.1 ∙ sym own) early lines (inr (young, lt))
            | inr ge ↦ (
                let place : e.line + c ≡ l = omega (arith, ge, count) in
                ap (mark_at (with_store s.queue.marks t l)) place ∙ stored_here s.queue.marks t l within ∙ ap stored (sym thread))
          ]))
    ])

unwritten_forwarded : (t : ℕ) (s s' : Scene) (es es' : List Entry) → ForwardsObject s s' es es' t → AreUnwritten s.queue es → AreUnwritten s'.queue es'
unwritten_forwarded t s s' es es' w old =
    let m = w.n in
    let e = entry es m in
    let full = w.full in
    let phases : (u : ℕ) → phase_of s'.queue u ≢ Flush → phase_of s.queue u ≢ Flush = λ u early. elim (same_or_not u t) [
      | inl eq ↦ (λ flush. early (absurd (copy_not_flush (sym w.phase ∙ subst (λ x. phase_of s.queue x ≡ Flush) eq flush))))
      | inr ne ↦ (λ flush. early (w.goes.other_phases u ne ∙ flush))
    ] in
    unwritten_back s.queue s'.queue es es' w.goes.marks phases
    (λ u n c claimed early lc has. let sizes = w.becomes.long in let ln = claimed.0 in elim (same_or_not n m) [
      | inr ne ↦ (
          let same = w.becomes.others n ne in (
            (omega (arith, ln, sizes), ap (λ (x : Entry). x.owner) (sym same) ∙ claimed.1),
            subst (λ (x : Entry). c < lines_of x) same lc,
            subst (λ (x : Entry). HasCopied x c) same has,
            ap (λ (x : Entry). x.line) same,
          ))
      | inl eq ↦ (
          let here : entry es' n ≡ forwarded e = ap (entry es') eq ∙ w.becomes.here in
          let lines : c < lines_of e = subst (λ (x : Entry). c < lines_of x) here lc in
          let back : IsClaimed es u m × (c < lines_of e) × HasCopied e c × ((entry es' n).line ≡ e.line) = (
            (w.is.claimed.0, ap (λ (x : Entry). x.owner) (sym here) ∙ claimed.1),
            lines,
            inr (w.young, omega (arith, lines, full)),
            ap (λ (x : Entry). x.line) here,
          ) in
          subst (λ y. IsClaimed es u y × (c < lines_of (entry es y)) × HasCopied (entry es y) c × ((entry es' n).line ≡ (entry es y).line)) (sym eq) back)
    ]) old
  where
    copy_not_flush : Copy ≡ Flush → ⊥
    copy_not_flush is = cc

zero_or_more : (n : ℕ) → (n ≡ 0) ⊎ ((k : ℕ) × (n ≡ k + 1))
zero_or_more zero = inl refl
zero_or_more (suc n) = inr (n, omega arith)

-- An object that is still claimed after a seal isn't one of the set.
unsealed : (es es' : List Entry) (set u n : ℕ) → AreSealed (OfSet es set) es es' → IsClaimed es' u n → entry es' n ≡ entry es n
unsealed es es' set u n sealed claimed =
    let ln = claimed.0 in
    let long = sealed.long in
    let lt : n < length es = omega (arith, ln, long) in
    elim (zero_or_more (entry es n).owner) [
      | inl none ↦ sealed.others n lt (λ x. let o = x.2.1 in omega (arith, o, none))
      | inr k ↦ elim (cases_Bool (has set k.0)) [
        | inl there ↦ absurd (let o : 0 ≡ u + 1 = sym (ap (λ (x : Entry). x.owner) (sealed.here n lt (k.0, there, (lt, k.1)))) ∙ claimed.1 in omega (arith, o))
        | inr not ↦ sealed.others n lt (λ x. let o = x.2.1 in let e = k.1 in
            let same : x.0 ≡ k.0 = omega (arith, o, e) in false≢true (sym not ∙ subst (λ y. has set y ≡ true) same x.1))
      ]
    ]

unwritten_sealed : (t set : ℕ) (s s' : Scene) (es es' : List Entry) → SealsGroup s s' es es' t set → AreUnwritten s.queue es → AreUnwritten s'.queue es'
unwritten_sealed t set s s' es es' w old =
    unwritten_back s.queue s'.queue es es' w.released.marks (λ u early flush. early (ap (λ (x : List Phase). slice_index_or x u Copy) w.released.phases ∙ flush))
    (λ u n c claimed early lc has.
    let same = unsealed es es' set u n w.sealed claimed in
    let ln = claimed.0 in
    let long = w.sealed.long in (
      (omega (arith, ln, long), ap (λ (x : Entry). x.owner) (sym same) ∙ claimed.1),
      subst (λ (x : Entry). c < lines_of x) same lc,
      subst (λ (x : Entry). HasCopied x c) same has,
      ap (λ (x : Entry). x.line) same,
    )) old

-- ---- an event

waited : (s s' : Scene) (es es' : List Entry) → AgreesAt s es → AgreesAt s' es' → length es' ≡ length es →
    ((n : ℕ) → n < length es → (entry es' n).slots ≡ (entry es n).slots) → s' ≡ s → AreUnwritten s.queue es → AreUnwritten
    s'.queue es'
waited s s' es es' a a' long slots same old =
    subst (λ (x : Scene). AreUnwritten x.queue es') (sym same) (unwritten_same s es es' a (subst (λ (x : Scene). AgreesAt x es') same a') long slots old)

step_unwritten : (answer : ConvertStep) (t : ℕ) (s s' : Scene) (es es' : List Entry) → AgreesAt s es → Converts t answer s s' es es' → AreUnwritten s.queue es → AreUnwritten s'.queue es'
step_unwritten step.Claimed t s s' es es' a c old =
    let w = c.says.0 in
    subst (λ (q : Queues). AreUnwritten q es') (sym w.queue)
    (unwritten_claim s.queue (with_object s.queue t (entry es w.m).at s.free) es es' t w.m s.free refl (λ u n own early. early) w.becomes old)
step_unwritten step.CopiedLine t s s' es es' a c old = unwritten_copied t s s' es es' a c.says.0 old
step_unwritten step.Forwarded t s s' es es' a c old = unwritten_forwarded t s s' es es' c.says.0 old
step_unwritten step.Repaired t s s' es es' a c old =
    let w = c.says.0 in
    let l = (entry es w.n).line + (place_of s.queue t).1 in
    let room = room_of (view_of s.heap) es w.n a.lies w.is.claimed.0 w.is.placed in
    let long = a.sizes.marks in
    let within = w.within in
    let now = unwritten_told (view_of s.heap) s.queue es t w.n l a.lies w.is.claimed w.is.placed (omega arith) (omega (arith, within)) (omega (arith, room, long, within)) old in
    subst (λ (x : List Entry). AreUnwritten s'.queue x) (sym w.table) (unwritten_back (told s.queue t l) s'.queue es es w.goes.marks
    (λ u early flush. elim (same_or_not u t) [
      | inl eq ↦ repair_not_flush (sym w.phase ∙ subst (λ x. phase_of s.queue x ≡ Flush) eq flush)
      | inr ne ↦ early (w.goes.other_phases u ne ∙ flush)
    ])
    (λ u n c claimed early lc has. (claimed, lc, has, refl)) now)
  where
    repair_not_flush : Repair ≡ Flush → ⊥
    repair_not_flush is = cc
step_unwritten step.WroteBack t s s' es es' a c old =
    let w = c.says.0 in
    subst (λ (x : List Entry). AreUnwritten s'.queue x) (sym w.table) (subst (λ (q : Queues). AreUnwritten q es) (sym w.queue)
    (unwritten_marks s.queue (told_written s.queue w.line) es (λ u early. early)
    (λ u l early is. elim (same_or_not l w.line) [
      | inr ne ↦ written_other s.queue.marks w.line l ne ∙ is
      | inl eq ↦ absurd (early (let same : stored u ≡ stored t = sym is ∙ ap (mark_at s.queue.marks) eq ∙ w.stored in
          subst (λ x. phase_of s.queue x ≡ Flush) (sym (one_thread u t same)) w.phase))
    ]) old))
  where
    thread_in : Mark → ℕ
    thread_in clean = 0
    thread_in (stored u) = u
    thread_in (written u) = u

    one_thread : (u t : ℕ) → stored u ≡ stored t → u ≡ t
    one_thread u t same = ap thread_in same
step_unwritten step.Fenced t s s' es es' a c old =
    let w = c.says.0 in
    subst (λ (x : List Entry). AreUnwritten s'.queue x) (sym w.table) (subst (λ (q : Queues). AreUnwritten q es) (sym w.queue)
    (unwritten_marks s.queue (told_fenced s.queue) es (λ u early. early) (λ u l early is. fenced_at s.queue.marks l ∙ ap after_fence is) old))
step_unwritten step.Touched t s s' es es' a c old =
    let w = c.says.0 in
    subst (λ (x : List Entry). AreUnwritten s'.queue x) (sym w.table) (subst (λ (q : Queues). AreUnwritten q es) (sym w.queue) old)
step_unwritten (step.Sealed set) t s s' es es' a c old = unwritten_sealed t set s s' es es' c.says old
step_unwritten (step.Wait u) t s s' es es' a c old = waited s s' es es' a c.agrees c.shows.long c.shows.slots c.says.1 old
step_unwritten (step.Full need left) t s s' es es' a c old = waited s s' es es' a c.agrees c.shows.long c.shows.slots c.says.1 old

pub going_unwritten : (s at : Scene) (es : List Entry) (t : ℕ) → GoesOn t s at es → AreUnwritten s.queue es → AreUnwritten at.queue es
going_unwritten s at es t goes old = unwritten_back s.queue at.queue es es goes.marks
    (λ u early flush. elim (same_or_not u t) [
      | inl eq ↦ early (subst (λ x. phase_of at.queue x ≡ Flush) (sym eq)
          (flush_stays (phase_of s.queue t) (phase_of at.queue t) (place_of s.queue t) (place_of at.queue t)
          (subst (λ x. phase_of s.queue x ≡ Flush) eq flush) goes.on))
      | inr ne ↦ early (goes.other_phases u ne ∙ flush)
    ])
    (λ u n c claimed early lc has. (claimed, lc, has, refl)) old

pub events_stay_unwritten : EventsStayUnwritten
events_stay_unwritten t answer s s' es ms ms' a e old =
    step_unwritten answer t e.at s' es e.after e.goes_on.agrees e.converts (going_unwritten s e.at es t e.goes_on old)

-- ---- a beginning

-- A thread with nothing queued has claimed nothing.
none_claimed : (s : Scene) (es : List Entry) (t n : ℕ) → AgreesAt s es → queue_of s.queue t ≡ [] → IsClaimed es t n → ⊥
none_claimed s es t n a empty claimed =
    let i = a.queued.all t n claimed in
    let lt = i.1.within in
    let none : length (queue_of s.queue t) ≡ 0 = ap length empty in
    omega (arith, lt, none)

begun_phases : (s : Scene) (es : List Entry) (t : ℕ) → AgreesAt s es → queue_of s.queue t ≡ [] → (u n : ℕ) → IsClaimed es u n → phase_of (begun_at s.queue t) u ≢ Flush → phase_of s.queue u ≢ Flush
begun_phases s es t a empty u n own early flush = elim (same_or_not u t) [
  | inl eq ↦ none_claimed s es t n a empty (subst (λ y. IsClaimed es y n) eq own)
  | inr ne ↦ early (get_or-set_other s.queue.phases t u Copy Copy ne ∙ flush)
]

settled_phases : (s : Scene) (es : List Entry) (t : ℕ) → AgreesAt s es → queue_of s.queue t ≡ [] → (u n : ℕ)
    → IsClaimed es u n → phase_of (settled_at s.queue t) u ≢ Flush → phase_of s.queue u ≢ Flush
settled_phases s es t a empty u n own early flush = elim (same_or_not u t) [
  | inl eq ↦ none_claimed s es t n a empty (subst (λ y. IsClaimed es y n) eq own)
  | inr ne ↦ early (get_or-set_other s.queue.phases t u Flush Copy ne ∙ flush)
]

pub beginnings_stay_unwritten : BeginningsStayUnwritten
beginnings_stay_unwritten t m begun.Claimed s s' es es' a empty b old =
    let x = b.says in
    subst (λ (q : Queues). AreUnwritten q es') (sym x.queue)
    (unwritten_claim s.queue (with_object (begun_at s.queue t) t (entry es m).at s.free) es es' t m s.free refl (begun_phases s es t a empty) x.becomes old)
beginnings_stay_unwritten t m (begun.Needs u) s s' es es' a empty b old =
    let x = b.says in
    subst (λ (y : List Entry). AreUnwritten s'.queue y) (sym x.table) (subst (λ (q : Queues). AreUnwritten q es) (sym x.queue)
    (λ u n c claimed early lc has. old u n c claimed (settled_phases s es t a empty u n claimed early) lc has))
beginnings_stay_unwritten t m (begun.Full need left) s s' es es' a empty b old =
    let x = b.says in
    subst (λ (y : List Entry). AreUnwritten s'.queue y) (sym x.table) (subst (λ (y : Scene). AreUnwritten y.queue es) (sym x.same) old)
