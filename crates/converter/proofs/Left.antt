-- What each event leaves of the work.
use Rattle.std.proofs.Common.{◌≡◌, ◌≢◌, inl, inr, ℕ, zero, suc, ◌+◌, ◌-◌, ◌*◌, ◌<◌, ◌≤◌, ◌++◌, true, List, [], ◌∷◌, length}
use Rattle.std.proofs.Common.{refl, sym, ◌∙◌, ap, subst, arith}
use Rattle.std.specs.Prelude.{min, Option, None, Some, get_or, slice_get, slice_index, slice_index_or, sum_by, drop}
use Rattle.std.proofs.lemmas.Bool.{cases_Bool, false≢true}
use Rattle.std.proofs.lemmas.List.{get_or_append_left, get_or-set_same, get_or-set_other, length-append, take_all, drop_all}
use Rattle.std.proofs.lemmas.List.Sums.{sum_by-cons, sum_by-drop_more, sum_by-take-drop}
use Rattle.std.proofs.lemmas.Option.{slice_get_within, slice_get-get_or}
use Rattle.twin_forms.specs.Table.{Entry, entry, lines_of}
use Rattle.twin_forms.specs.Sights.{Twin, Marks, view_of, held_of, written_of}
use Rattle.twin_forms.proofs.Led.{same_or_not, below_or_not}
use Rattle.convert_queue.specs.declared.phase.Phase.{Phase}
use Rattle.convert_queue.specs.declared.phase.Phase.TheVariants.{Copy, Repair, Flush}
use Rattle.convert_queue.specs.Marks.{IsStored}
use Rattle.convert_queue.specs.Queues.{Queued, Queues, queue_in, queue_of, phase_of, place_of}
use Rattle.convert_queue.specs.Threads.{has}
use Rattle.convert_queue.specs.Work.{line_work, whole_work, lines_in, uncopied_in, thread_work, sum_below, work_left}
use Rattle.convert_queue.proofs.WorkLaws.{work_put, work_stored, sum_changed}
use Rattle.convert_words.specs.declared.step.ConvertStep.{ConvertStep}
use Rattle.convert_words.specs.declared.step.ConvertStep.TheVariants as step
use Rattle.convert_words.specs.Agreeing.{Is, item_in, Far}
use Rattle.convert_words.specs.Scenes.{Scene, IsKey, AgreesAt}
use Rattle.convert_words.specs.Steps.{told, told_written, told_fenced}
use Rattle.convert_words.specs.Converting.{IsOn, rank, GoesOn, Converts, SealsGroup}
use Rattle.convert_words.proofs.Basics.{is_one, room_of}
use Rattle.convert_words.proofs.Noting.{own_forwarded}
use Rattle.converter.specs.declared.begin.Begun.TheVariants as begun
use Rattle.converter.specs.Beginning.{BeginsByClaim, BeginsByNeed}
use Rattle.converter.specs.Laws.{BeginningsAddWork, StoresAddWork, Tells, AreUnwritten, done_in, done_of, done_at, work_of}
use Rattle.converter.specs.Laws.{quiet, EventsTakeWork}
use Rattle.converter.proofs.Exact.{clash}
use Rattle.converter.proofs.Unwritten.{going_unwritten}
use Rattle.converter.proofs.Worked.{copies_take_work, forwards_take_work, repairs_take_work, writes_take_work, fences_take_work}

-- ---- sums

sum_same : (f g : ℕ → ℕ) (n : ℕ) → ((u : ℕ) → u < n → f u ≡ g u) → sum_below f n ≡ sum_below g n
unfolding sum_below
sum_same f g zero same = refl
sum_same f g (suc n) same =
    let a = sum_same f g n (λ u lt. same u (omega (arith, lt))) in
    let b = same n (omega arith) in
    omega (arith, a, b)

sum_less : (f g : ℕ → ℕ) (n : ℕ) → ((u : ℕ) → u < n → f u ≤ g u) → sum_below f n ≤ sum_below g n
unfolding sum_below
sum_less f g zero less = omega arith
sum_less f g (suc n) less =
    let a = sum_less f g n (λ u lt. less u (omega (arith, lt))) in
    let b = less n (omega arith) in
    omega (arith, a, b)

drop_less : {X : Type 0} (f : X → ℕ) (xs : List X) (i j : ℕ) → i ≤ j → sum_by f (drop j xs) ≤ sum_by f (drop i xs)
drop_less f xs zero j le = let x = sum_by-take-drop f xs j in omega (arith, x)
drop_less f [] (suc i) j le = let x = sum_by-take-drop f [] j in omega (arith, x)
drop_less f (x ∷ xs) (suc i) zero le = absurd (omega (arith, le))
drop_less f (x ∷ xs) (suc i) (suc j) le = drop_less f xs i j (omega (arith, le))

-- the work of a thread that has gone past its queue
copied_all : (lines : ℕ → ℕ) (queue : List Queued) (n d : ℕ) → length queue ≤ n → thread_work lines queue Copy n d ≡ lines_in lines queue
copied_all lines queue n d le =
    let front = ap (lines_in lines) (take_all n queue le) in
    let back = ap (uncopied_in lines) (drop_all n queue le) in
    omega (arith, front, back)

repaired_all : (lines : ℕ → ℕ) (queue : List Queued) (n d : ℕ) → length queue ≤ n → thread_work lines queue Repair n d ≡ 0
repaired_all lines queue n d le = let back = ap (lines_in lines) (drop_all n queue le) in omega (arith, back)

min_low : (a b : ℕ) → a ≤ b → min a b ≡ a
min_low a b le = grind (arith, le)

min_high : (a b : ℕ) → b ≤ a → min a b ≡ b
min_high a b le = grind (arith, le)

min_most : (a b : ℕ) → min a b ≤ b
min_most a b = grind arith

min_less : (a b c : ℕ) → a ≤ b → min a c ≤ min b c
min_less a b c le = grind (arith, le)

-- ---- how far a thread is

get_none : (xs : List Queued) (i : ℕ) → length xs ≤ i → slice_get xs i ≡ None
get_none xs i le = none_or (slice_get xs i) (λ x is. absurd (let lt = slice_get_within xs i x is in omega (arith, le, lt)))
  where
    none_or : {X : Type 0} (o : Option X) → ((x : X) → o ≡ Some x → o ≡ None) → o ≡ None
    none_or None f = refl
    none_or (Some x) f = f x refl

done_past : (lines : ℕ → ℕ) (copies : List ℕ) (q : Queues) (t : ℕ) → length (queue_of q t) ≤ (place_of q t).0 → done_at lines copies q t ≡ 0
done_past lines copies q t le = ap (done_of lines copies (phase_of q t) (place_of q t).1) (get_none (queue_of q t) (place_of q t).0 le)

done_item : (lines : ℕ → ℕ) (copies : List ℕ) (q : Queues) (t i : ℕ) (p : Phase) → (place_of q t).0 ≡ i → i < length (queue_of q t) → phase_of q t ≡ p →
    done_at lines copies q t ≡ done_in lines copies p (place_of q t).1 (item_in q.queues t i)
done_item lines copies q t i p at lt phase =
    ap (λ x. done_of lines copies (phase_of q t) (place_of q t).1 (slice_get (queue_of q t) x)) at
    ∙ ap (done_of lines copies (phase_of q t) (place_of q t).1) (slice_get-get_or (queue_of q t) i (0, 0) lt)
    ∙ ap (λ x. done_in lines copies x (place_of q t).1 (item_in q.queues t i)) phase

done_copy : (lines : ℕ → ℕ) (s : Scene) (es : List Entry) (t i n : ℕ) → AgreesAt s es → Is s.queue es t i n → (place_of s.queue t).0 ≡ i → phase_of s.queue t ≡ Copy →
    done_at lines s.heap.marks.copies s.queue t ≡ min (entry es n).copied (lines (entry es n).at)
done_copy lines s es t i n a is at phase =
    let far = subst (λ p. Far p (place_of s.queue t).0 (place_of s.queue t).1 i (entry es n)) phase (a.on_way t i n is).reaches.far in
    let one = (far.1 (sym at)).0 in
    let copies = s.heap.marks.copies in
    done_item lines copies s.queue t i Copy at is.within phase
    ∙ ap (λ x. min (slice_index copies x) (lines (item_in s.queue.queues t i).0)) is.line
    ∙ ap (λ x. min x (lines (item_in s.queue.queues t i).0)) ((a.lies.sits n is.claimed.0).count one)
    ∙ ap (λ x. min (entry es n).copied (lines x)) is.object

done_repair : (lines : ℕ → ℕ) (s : Scene) (es : List Entry) (t i n : ℕ) → Is s.queue es t i n → (place_of s.queue t).0 ≡ i → phase_of s.queue t ≡ Repair →
    done_at lines s.heap.marks.copies s.queue t ≡ min (place_of s.queue t).1 (lines (entry es n).at)
done_repair lines s es t i n is at phase =
    done_item lines s.heap.marks.copies s.queue t i Repair at is.within phase ∙ ap (λ x. min (place_of s.queue t).1 (lines x)) is.object

-- ---- threads that a step leaves as they are

is_carried : (q q' : Queues) (es es' : List Entry) (u i n : ℕ) → queue_of q' u ≡ queue_of q u → n < length es' → entry es' n ≡ entry es n → Is q es u i n → Is q' es' u i n
is_carried q q' es es' u i n queue ln same is = record {
  within = subst (λ (x : List Queued). i < length x) (sym queue) is.within;
  claimed = (ln, ap (λ (e : Entry). e.owner) same ∙ is.claimed.1);
  placed = subst (λ (e : Entry). 0 < e.stage) (sym same) is.placed;
  object = ap (λ (x : List Queued). (slice_index_or x i (0, 0)).0) queue ∙ is.object ∙ ap (λ (e : Entry). e.at) (sym same);
  line = ap (λ (x : List Queued). (slice_index_or x i (0, 0)).1) queue ∙ is.line ∙ ap (λ (e : Entry). e.line) (sym same);
}

abbrev thread_left : (ℕ → ℕ) → Scene → ℕ → ℕ
thread_left lines s u = thread_work lines (queue_of s.queue u) (phase_of s.queue u) (place_of s.queue u).0 (done_at lines s.heap.marks.copies s.queue u)

done_still : (lines : ℕ → ℕ) (s s' : Scene) (es es' : List Entry) (u : ℕ) → AgreesAt s es → AgreesAt s' es' → queue_of s'.queue u ≡ queue_of s.queue u → phase_of s'.queue u ≡ phase_of s.queue u →
    place_of s'.queue u ≡ place_of s.queue u → ((n : ℕ) → Is s.queue es u (place_of s.queue u).0 n → (n < length es') × (entry es' n ≡ entry es n)) →
    done_at lines s'.heap.marks.copies s'.queue u ≡ done_at lines s.heap.marks.copies s.queue u
done_still lines s s' es es' u a a' queue phase place same = elim (below_or_not (place_of s.queue u).0 (length (queue_of s.queue u))) [
  | inr le ↦ (
      let le' : length (queue_of s'.queue u) ≤ (place_of s'.queue u).0 = subst
      (λ (x : List Queued). length x ≤ (place_of s'.queue u).0) (sym queue)
      (subst (λ (x : ℕ × ℕ). length (queue_of s.queue u) ≤ x.0) (sym place) le) in
      done_past lines s'.heap.marks.copies s'.queue u le' ∙ sym (done_past lines s.heap.marks.copies s.queue u le))
  | inl lt ↦ (
      let i = (place_of s.queue u).0 in
      let x = a.queued.there u i lt in
      let n = x.0 in
      let e = same n x.1 in
      let is = is_carried s.queue s'.queue es es' u i n queue e.0 e.1 x.1 in
      let at : (place_of s'.queue u).0 ≡ i = ap (λ (y : ℕ × ℕ). y.0) place in
      still_in (phase_of s.queue u) refl n is x.1 at e.1)
]
  where
    still_in : (p : Phase) → phase_of s.queue u ≡ p → (n : ℕ) → Is s'.queue es' u (place_of s.queue u).0 n → Is s.queue es
        u (place_of s.queue u).0 n → (place_of s'.queue u).0 ≡ (place_of s.queue u).0 → entry es' n ≡ entry es n →
        done_at lines s'.heap.marks.copies s'.queue u ≡ done_at lines s.heap.marks.copies s.queue u
    still_in Copy p n is' is at e =
        done_copy lines s' es' u (place_of s.queue u).0 n a' is' at (phase ∙ p) ∙ ap (λ (x : Entry). min x.copied (lines x.at)) e
        ∙ sym (done_copy lines s es u (place_of s.queue u).0 n a is refl p)
    still_in Repair p n is' is at e =
        done_repair lines s' es' u (place_of s.queue u).0 n is' at (phase ∙ p) ∙ ap (λ (x : Entry). min (place_of s'.queue u).1 (lines x.at)) e
        ∙ ap (λ (x : ℕ × ℕ). min x.1 (lines (entry es n).at)) place ∙ sym (done_repair lines s es u (place_of s.queue u).0 n is refl p)
    still_in Flush p n is' is at e =
        done_item lines s'.heap.marks.copies s'.queue u (place_of s.queue u).0 Flush at is'.within (phase ∙ p)
        ∙ sym (done_item lines s.heap.marks.copies s.queue u (place_of s.queue u).0 Flush refl is.within p)

-- the work of a thread by its queue, its phase, its place and how far it is
work_still : (lines : ℕ → ℕ) (q q' : Queues) (u d d' : ℕ) → queue_of q' u ≡ queue_of q u → phase_of q' u ≡ phase_of q u → place_of q' u ≡ place_of q u → d' ≡ d →
    thread_work lines (queue_of q' u) (phase_of q' u) (place_of q' u).0 d' ≡ thread_work lines (queue_of q u) (phase_of q u) (place_of q u).0 d
work_still lines q q' u d d' queue phase place done =
    ap (λ (x : List Queued). thread_work lines x (phase_of q' u) (place_of q' u).0 d') queue
    ∙ ap (λ x. thread_work lines (queue_of q u) x (place_of q' u).0 d') phase
    ∙ ap (λ (x : ℕ × ℕ). thread_work lines (queue_of q u) (phase_of q u) x.0 d') place
    ∙ ap (λ x. thread_work lines (queue_of q u) (phase_of q u) (place_of q u).0 x) done

-- a thread that flushes has nothing left but its lines
flush_none : (lines : ℕ → ℕ) (queue : List Queued) (p : Phase) (n d : ℕ) → p ≡ Flush → thread_work lines queue p n d ≡ 0
flush_none lines queue p n d flush = ap (λ x. thread_work lines queue x n d) flush

-- ---- how the place goes on

going_in : (lines : ℕ → ℕ) (s at : Scene) (es : List Entry) (t : ℕ) → AgreesAt s es → GoesOn t s at es → (p p' : Phase) → phase_of s.queue t ≡ p → phase_of at.queue t ≡ p' →
    IsOn p (place_of s.queue t) p' (place_of at.queue t) → thread_left lines at t ≤ thread_left lines s t
going_in lines s at es t a goes p Flush is is' on = let none = flush_none lines (queue_of at.queue t) (phase_of at.queue t)
    (place_of at.queue t).0 (done_at lines at.heap.marks.copies at.queue t) is' in omega (arith, none)
going_in lines s at es t a goes Copy Copy is is' (inl x) = absurd (omega (arith, x))
going_in lines s at es t a goes Repair Copy is is' (inl x) = absurd (omega (arith, x))
going_in lines s at es t a goes Flush Copy is is' (inl x) = absurd (omega (arith, x))
going_in lines s at es t a goes Repair Repair is is' (inl x) = absurd (omega (arith, x))
going_in lines s at es t a goes Flush Repair is is' (inl x) = absurd (omega (arith, x))
going_in lines s at es t a goes Repair Copy is is' (inr x) = absurd (let e : 0 ≡ 1 = ap rank x.0 in omega (arith, e))
going_in lines s at es t a goes Flush Copy is is' (inr x) = absurd (let e : 0 ≡ 2 = ap rank x.0 in omega (arith, e))
going_in lines s at es t a goes Copy Repair is is' (inr x) = absurd (let e : 1 ≡ 0 = ap rank x.0 in omega (arith, e))
going_in lines s at es t a goes Flush Repair is is' (inr x) = absurd (let e : 1 ≡ 2 = ap rank x.0 in omega (arith, e))
going_in lines s at es t a goes Copy Repair is is' (inl x) =
    let q = queue_of s.queue t in
    let same : queue_of at.queue t ≡ q = ap (λ (y : List (List Queued)). queue_in y t) goes.queues in
    let past : length q ≤ (place_of s.queue t).0 = elim (below_or_not (place_of s.queue t).0 (length q)) [
      | inr le ↦ le
      | inl lt ↦ absurd (
          let y = a.queued.there t (place_of s.queue t).0 lt in
          let far = subst (λ p. Far p (place_of s.queue t).0 (place_of s.queue t).1 (place_of s.queue t).0 (entry es y.0)) is (a.on_way t (place_of s.queue t).0 y.0 y.1).reaches.far in
          let one = (far.1 refl).0 in
          let two = own_forwarded (view_of at.heap) (held_of at.heap.memory) (written_of at.heap.memory) at.queue at.free (IsKey at.keys) es t y.0 goes.agrees is' y.1.claimed in
          omega (arith, one, two))
    ] in
    let d = done_at lines s.heap.marks.copies s.queue t in
    let d' = done_at lines at.heap.marks.copies at.queue t in
    let before : thread_left lines s t ≡ lines_in lines q = ap (λ y. thread_work lines q y (place_of s.queue t).0 d) is ∙ copied_all lines q (place_of s.queue t).0 d past in
    let after : thread_left lines at t ≡ thread_work lines q Repair (place_of at.queue t).0 d' =
    ap (λ (y : List Queued). thread_work lines y (phase_of at.queue t) (place_of at.queue t).0 d') same ∙ ap (λ y. thread_work lines q y (place_of at.queue t).0 d') is' in
    let sums = sum_by-take-drop (λ (y : Queued). lines y.0) q (place_of at.queue t).0 in
    omega (arith, before, after, sums)
going_in lines s at es t a goes Copy Copy is is' (inr x) =
    let q = queue_of s.queue t in
    let same : queue_of at.queue t ≡ q = ap (λ (y : List (List Queued)). queue_in y t) goes.queues in
    let i = (place_of s.queue t).0 in
    let i' = (place_of at.queue t).0 in
    let d = done_at lines s.heap.marks.copies s.queue t in
    let d' = done_at lines at.heap.marks.copies at.queue t in
    let before : thread_left lines s t ≡ thread_work lines q Copy i d = ap (λ y. thread_work lines q y i d) is in
    let after : thread_left lines at t ≡ thread_work lines q Copy i' d' =
    ap (λ (y : List Queued). thread_work lines y (phase_of at.queue t) i' d') same ∙ ap (λ y. thread_work lines q y i' d') is' in
    elim (below_or_not i (length q)) [
      | inr le ↦ (
          let le' : length q ≤ i' = elim x.1 [ inl lt ↦ omega (arith, lt, le) | inr y ↦ (let e = y.0 in omega (arith, e, le)) ] in
          let all = copied_all lines q i d le in
          let all' = copied_all lines q i' d' le' in
          omega (arith, before, after, all, all'))
      | inl lt ↦ (
          let y = a.queued.there t i lt in
          let far = subst (λ p. Far p i (place_of s.queue t).1 i (entry es y.0)) is (a.on_way t i y.0 y.1).reaches.far in
          let one = (far.1 refl).0 in
          let there : Is at.queue es t i y.0 = is_carried s.queue at.queue es es t i y.0 same y.1.claimed.0 refl y.1 in
          let far' = subst (λ p. Far p i' (place_of at.queue t).1 i (entry es y.0)) is' (goes.agrees.on_way t i y.0 there).reaches.far in
          elim x.1 [
            | inl more ↦ absurd (let two = far'.0 more in omega (arith, one, two))
            | inr z ↦ (
                let done : d' ≡ d = done_copy lines at es t i y.0 goes.agrees there z.0 is' ∙ sym (done_copy lines s es t i y.0 a y.1 refl is) in
                let eq : thread_work lines q Copy i' d' ≡ thread_work lines q Copy i d = ap (λ w. thread_work lines q Copy w d') z.0 ∙ ap (thread_work lines q Copy i) done in
                omega (arith, before, after, eq))
          ])
    ]
going_in lines s at es t a goes Repair Repair is is' (inr x) =
    let q = queue_of s.queue t in
    let same : queue_of at.queue t ≡ q = ap (λ (y : List (List Queued)). queue_in y t) goes.queues in
    let i = (place_of s.queue t).0 in
    let i' = (place_of at.queue t).0 in
    let d = done_at lines s.heap.marks.copies s.queue t in
    let d' = done_at lines at.heap.marks.copies at.queue t in
    let before : thread_left lines s t ≡ thread_work lines q Repair i d = ap (λ y. thread_work lines q y i d) is in
    let after : thread_left lines at t ≡ thread_work lines q Repair i' d' =
    ap (λ (y : List Queued). thread_work lines y (phase_of at.queue t) i' d') same ∙ ap (λ y. thread_work lines q y i' d') is' in
    elim (below_or_not i (length q)) [
      | inr le ↦ (
          let le' : length q ≤ i' = elim x.1 [ inl lt ↦ omega (arith, lt, le) | inr y ↦ (let e = y.0 in omega (arith, e, le)) ] in
          let none = repaired_all lines q i' d' le' in
          omega (arith, before, after, none))
      | inl lt ↦ (
          let y = a.queued.there t i lt in
          let L = lines (entry es y.0).at in
          let done : d ≡ min (place_of s.queue t).1 L = done_repair lines s es t i y.0 y.1 refl is in
          elim x.1 [
            | inl more ↦ (
                let most = min_most (place_of s.queue t).1 L in
                let first = sum_by-drop_more (λ (w : Queued). lines w.0) q i (0, 0) lt in
                let item : lines (get_or q i (0, 0)).0 ≡ L = ap lines y.1.object in
                let rest = drop_less (λ (w : Queued). lines w.0) q (i + 1) i' (omega (arith, more)) in
                omega (arith, before, after, done, most, first, item, rest))
            | inr z ↦ (
                let there : Is at.queue es t i y.0 = is_carried s.queue at.queue es es t i y.0 same y.1.claimed.0 refl y.1 in
                let done' : d' ≡ min (place_of at.queue t).1 L = done_repair lines at es t i y.0 there z.0 is' in
                let less = min_less (place_of s.queue t).1 (place_of at.queue t).1 L z.1 in
                let eq : thread_work lines q Repair i' d' ≡ thread_work lines q Repair i d' = ap (λ w. thread_work lines q Repair w d') z.0 in
                omega (arith, before, after, done, done', less, eq))
          ])
    ]

-- The place goes on without more work.
going_left : (lines : ℕ → ℕ) (s at : Scene) (es : List Entry) (t : ℕ) → AgreesAt s es → GoesOn t s at es → work_of lines at ≤ work_of lines s
going_left lines s at es t a goes =
    let marks : line_work at.queue.marks ≡ line_work s.queue.marks = ap line_work goes.marks in
    let sums = sum_less (thread_left lines at) (thread_left lines s) 64 (λ u lu. elim (same_or_not u t) [
      | inl eq ↦ subst (λ x. thread_left lines at x ≤ thread_left lines s x) (sym eq) (going_in lines s at es t a goes (phase_of s.queue t) (phase_of at.queue t) refl refl goes.on)
      | inr ne ↦ (
          let queue : queue_of at.queue u ≡ queue_of s.queue u = ap (λ (y : List (List Queued)). queue_in y u) goes.queues in
          let phase = goes.other_phases u ne in
          let place = goes.other_places u ne in
          let done : done_at lines at.heap.marks.copies at.queue u ≡ done_at lines s.heap.marks.copies s.queue u =
          done_still lines s at es es u a goes.agrees queue phase place (λ n is. (is.claimed.0, refl)) in
          let eq = work_still lines s.queue at.queue u (done_at lines s.heap.marks.copies s.queue u) (done_at lines at.heap.marks.copies at.queue u) queue phase place done in
          omega (arith, eq))
    ]) in
    omega (arith, marks, sums)

-- ---- steps

-- queues and marks alike leave the same work
work_same : (lines : ℕ → ℕ) (s s' : Scene) (q : Queues) → s'.queue ≡ q → s'.heap.marks ≡ s.heap.marks → work_of lines s' ≡ work_left lines (done_at lines s.heap.marks.copies q) q
work_same lines s s' q queue marks =
    ap (λ (x : Queues). work_left lines (done_at lines s'.heap.marks.copies x) x) queue ∙ ap (λ (x : Marks). work_left lines (done_at lines x.copies q) q) marks

copied_left : (lines : ℕ → ℕ) (t : ℕ) (s s' : Scene) (es es' : List Entry) → t < 64 → AgreesAt s es → Tells lines es →
    Tells lines es' → Converts t step.CopiedLine s s' es es' → work_of lines s' + 1 ≡ work_of lines s
copied_left lines t s s' es es' few a tells tells' c =
    let w = c.says.0 in
    let n = w.n in
    let e = entry es n in
    let i = (place_of s.queue t).0 in
    let d = done_at lines s.heap.marks.copies s.queue in
    let d' = done_at lines s'.heap.marks.copies s'.queue in
    let left = w.left in
    let next = w.next in
    let here = w.becomes.here in
    let long = w.becomes.long in
    let ln = w.is.claimed.0 in
    let queue : (u : ℕ) → queue_of s'.queue u ≡ queue_of s.queue u = λ u. ap (λ (q : Queues). queue_of q u) w.queue in
    let phase : (u : ℕ) → phase_of s'.queue u ≡ phase_of s.queue u = λ u. ap (λ (q : Queues). phase_of q u) w.queue in
    let place : (u : ℕ) → place_of s'.queue u ≡ place_of s.queue u = λ u. ap (λ (q : Queues). place_of q u) w.queue in
    let is' : Is s'.queue es' t i n = record {
      within = subst (λ (x : List Queued). i < length x) (sym (queue t)) w.is.within;
      claimed = (omega (arith, ln, long), ap (λ (x : Entry). x.owner) here ∙ w.is.claimed.1);
      placed = subst (λ (x : Entry). 0 < x.stage) (sym here) w.is.placed;
      object = ap (λ (x : List Queued). (slice_index_or x i (0, 0)).0) (queue t) ∙ w.is.object ∙ ap (λ (x : Entry). x.at) (sym here);
      line = ap (λ (x : List Queued). (slice_index_or x i (0, 0)).1) (queue t) ∙ w.is.line ∙ ap (λ (x : Entry). x.line) (sym here);
    } in
    let told_lines : lines e.at ≡ lines_of e = tells t n w.is.claimed in
    let before : d t ≡ e.copied = done_copy lines s es t i n a w.is refl w.phase ∙ min_low e.copied (lines e.at) (omega (arith, told_lines, left)) in
    let after : d' t ≡ e.copied + 1 =
    done_copy lines s' es' t i n c.agrees is' (ap (λ (x : ℕ × ℕ). x.0) (place t)) (phase t ∙ w.phase) ∙ ap
    (λ (x : Entry). min x.copied (lines x.at)) here ∙ min_low (e.copied + 1) (lines e.at)
    (omega (arith, told_lines, left)) in
    let others : (u : ℕ) → u ≢ t → d' u ≡ d u = λ u ne. done_still lines s s' es es' u a c.agrees (queue u) (phase u) (place u) (λ m is. let lm = is.claimed.0 in
    (omega (arith, lm, long), w.becomes.others m (λ eq. ne (let x : u + 1 ≡ t + 1 = sym is.claimed.1 ∙ ap (λ y. (entry es y).owner) eq ∙ w.is.claimed.1 in omega (arith, x))))) in
    copies_take_work lines d d' t s s' es es' few a tells (before ∙ next) (after ∙ ap (λ x. x + 1) (sym before)) others c

forwarded_left : (lines : ℕ → ℕ) (t : ℕ) (s s' : Scene) (es es' : List Entry) → t < 64 → AgreesAt s es → Tells lines es → Converts t step.Forwarded s s' es es' → work_of lines s' + 1 ≡ work_of lines s
forwarded_left lines t s s' es es' few a tells c =
    let w = c.says.0 in
    let n = w.n in
    let e = entry es n in
    let i = (place_of s.queue t).0 in
    let d = done_at lines s.heap.marks.copies s.queue in
    let d' = done_at lines s'.heap.marks.copies s'.queue in
    let full = w.full in
    let long = w.becomes.long in
    let goes = w.goes in
    let queue : (u : ℕ) → queue_of s'.queue u ≡ queue_of s.queue u = λ u. ap (λ (y : List (List Queued)). queue_in y u) goes.queues in
    let told_lines : lines e.at ≡ lines_of e = tells t n w.is.claimed in
    let whole : (m : ℕ) → Is s.queue es t i m → d t ≡ lines (entry es m).at = λ m is.
    let same = is_one (view_of s.heap) s.queue es t i m n a.lies is w.is in
    done_copy lines s es t i n a w.is refl w.phase ∙ min_high e.copied (lines e.at) (omega (arith, told_lines, full)) ∙ ap (λ x. lines (entry es x).at) (sym same) in
    let begun : d' t ≡ 0 = elim (below_or_not (i + 1) (length (queue_of s'.queue t))) [
      | inr le ↦ done_past lines s'.heap.marks.copies s'.queue t (subst (λ x. length (queue_of s'.queue t) ≤ x) (sym goes.at) le)
      | inl lt ↦ (
          let x = c.agrees.queued.there t (i + 1) lt in
          let far' = subst (λ p. Far p (place_of s'.queue t).0 (place_of s'.queue t).1 (i + 1) (entry es' x.0)) goes.phase (c.agrees.on_way t (i + 1) x.0 x.1).reaches.far in
          let one = (far'.1 (sym goes.at)).0 in
          let other : x.0 ≢ n = λ eq. (let two : (entry es' x.0).stage ≡ 2 = ap (λ y. (entry es' y).stage) eq ∙ ap (λ (y : Entry). y.stage) w.becomes.here in omega (arith, one, two)) in
          let same = w.becomes.others x.0 other in
          let lx = x.1.claimed.0 in
          let was : Is s.queue es t (i + 1) x.0 = is_carried s'.queue s.queue es' es t (i + 1) x.0 (sym (queue t)) (omega (arith, lx, long)) (sym same) x.1 in
          let far = subst (λ p. Far p i (place_of s.queue t).1 (i + 1) (entry es x.0)) w.phase (a.on_way t (i + 1) x.0 was).reaches.far in
          let none = (far.2 (omega arith)).1 in
          done_copy lines s' es' t (i + 1) x.0 c.agrees x.1 goes.at goes.phase ∙ ap (λ (y : Entry). min y.copied (lines y.at)) same
          ∙ min_low (entry es x.0).copied (lines (entry es x.0).at) (omega (arith, none)) ∙ none)
    ] in
    let others : (u : ℕ) → u ≢ t → d' u ≡ d u = λ u ne. done_still lines s s' es es' u a c.agrees (queue u) (goes.other_phases u ne) (goes.other_places u ne) (λ m is. let lm = is.claimed.0 in
    (omega (arith, lm, long), w.becomes.others m (λ eq. ne (let x : u + 1 ≡ t + 1 = sym is.claimed.1 ∙ ap (λ y. (entry es y).owner) eq ∙ w.is.claimed.1 in omega (arith, x))))) in
    forwards_take_work lines d d' t s s' es es' few whole begun others c

repaired_left : (lines : ℕ → ℕ) (t : ℕ) (s s' : Scene) (es es' : List Entry) → t < 64 → AgreesAt s es → AreUnwritten
    s.queue es → Tells lines es → Converts t step.Repaired s s' es es' → work_of lines s' + 1 ≡ work_of lines s
repaired_left lines t s s' es es' few a unwritten tells c =
    let w = c.says.0 in
    let n = w.n in
    let e = entry es n in
    let i = (place_of s.queue t).0 in
    let l = (place_of s.queue t).1 in
    let d = done_at lines s.heap.marks.copies s.queue in
    let d' = done_at lines s'.heap.marks.copies s'.queue in
    let within = w.within in
    let goes = w.goes in
    let agrees' : AgreesAt s' es = subst (AgreesAt s') w.table c.agrees in
    let queue : (u : ℕ) → queue_of s'.queue u ≡ queue_of s.queue u = λ u. ap (λ (y : List (List Queued)). queue_in y u) goes.queues in
    let two = own_forwarded (view_of s.heap) (held_of s.heap.memory) (written_of s.heap.memory) s.queue s.free (IsKey s.keys) es t n a w.phase w.is.claimed in
    let early : phase_of s.queue t ≢ Flush = λ flush. clash (phase_of s.queue t) Repair Flush w.phase flush (λ x. omega (arith, x)) in
    let mark = unwritten t n l w.is.claimed early within (inl (omega (arith, two))) in
    let told_lines : lines e.at ≡ lines_of e = tells t n w.is.claimed in
    let is' : Is s'.queue es t i n = is_carried s.queue s'.queue es es t i n (queue t) w.is.claimed.0 refl w.is in
    let before : d t ≡ l = done_repair lines s es t i n w.is refl w.phase ∙ min_low l (lines e.at) (omega (arith, told_lines, within)) in
    let after : d' t ≡ l + 1 = done_repair lines s' es t i n is' goes.at goes.phase ∙ ap (λ x. min x (lines e.at)) goes.line ∙ min_low (l + 1) (lines e.at) (omega (arith, told_lines, within)) in
    let others : (u : ℕ) → u ≢ t → d' u ≡ d u = λ u ne. done_still lines s s' es es u a agrees' (queue u) (goes.other_phases u ne) (goes.other_places u ne) (λ m is. (is.claimed.0, refl)) in
    repairs_take_work lines d d' t s s' es es' few a tells
    (λ m is. let same = is_one (view_of s.heap) s.queue es t i m n a.lies is w.is in subst (λ x. IsStored s.queue.marks t ((entry es x).line + l)) (sym same) mark)
    before (after ∙ ap (λ x. x + 1) (sym before)) others c

claimed_left : (lines : ℕ → ℕ) (t : ℕ) (s s' : Scene) (es es' : List Entry) → t < 64 → AgreesAt s es → Tells lines es → Tells lines es' → Converts t step.Claimed s s' es es' →
    work_of lines s' + 1 ≤ work_of lines s + 16 * (s'.free - s.free)
claimed_left lines t s s' es es' few a tells tells' c =
    let w = c.says.0 in
    let m = w.m in
    let e = entry es m in
    let n = w.asked.n in
    let i = (place_of s.queue t).0 in
    let at = w.asked.is in
    let q = queue_of s.queue t in
    let item : Queued = (e.at, s.free) in
    let d = done_at lines s.heap.marks.copies s.queue in
    let d' = done_at lines s'.heap.marks.copies s'.queue in
    let long = w.becomes.long in
    let ln = at.claimed.0 in
    let sizes = a.sizes.queues in
    let placed = at.placed in
    let ordinary = w.asked.ordinary in
    let other : n ≢ m = λ eq. (let x : (entry es n).stage ≡ (entry es m).stage = ap (λ y. (entry es y).stage) eq in omega (arith, x, placed, ordinary)) in
    let same = w.becomes.others n other in
    let own : queue_of s'.queue t ≡ q ++ item ∷ [] = ap (λ (y : Queues). queue_of y t) w.queue ∙ get_or-set_same s.queue.queues t (q ++ item ∷ []) [] (omega (arith, few, sizes)) in
    let queue : (u : ℕ) → u ≢ t → queue_of s'.queue u ≡ queue_of s.queue u = λ u ne. ap (λ (y : Queues). queue_of y u) w.queue ∙ get_or-set_other s.queue.queues t u (q ++ item ∷ []) [] ne in
    let phase : (u : ℕ) → phase_of s'.queue u ≡ phase_of s.queue u = λ u. ap (λ (y : Queues). phase_of y u) w.queue in
    let place : (u : ℕ) → place_of s'.queue u ≡ place_of s.queue u = λ u. ap (λ (y : Queues). place_of y u) w.queue in
    let within = at.within in
    let more = length-append q (item ∷ []) in
    let first : slice_index_or (queue_of s'.queue t) i (0, 0) ≡ slice_index_or q i (0, 0) = ap
    (λ (y : List Queued). slice_index_or y i (0, 0)) own ∙ get_or_append_left q (item ∷ []) (0, 0) i within in
    let is' : Is s'.queue es' t i n = record {
      within = subst (λ (y : List Queued). i < length y) (sym own) (omega (arith, within, more));
      claimed = (omega (arith, ln, long), ap (λ (x : Entry). x.owner) same ∙ at.claimed.1);
      placed = subst (λ (x : Entry). 0 < x.stage) (sym same) placed;
      object = ap (λ (y : Queued). y.0) first ∙ at.object ∙ ap (λ (x : Entry). x.at) (sym same);
      line = ap (λ (y : Queued). y.1) first ∙ at.line ∙ ap (λ (x : Entry). x.line) (sym same);
    } in
    let done : d' t ≡ d t =
    done_copy lines s' es' t i n c.agrees is' (ap (λ (x : ℕ × ℕ). x.0) (place t)) (phase t ∙ w.asked.phase) ∙ ap
    (λ (x : Entry). min x.copied (lines x.at)) same ∙ sym (done_copy lines s es t i n a at refl w.asked.phase) in
    let most : d t ≤ lines (entry es n).at = (let x = done_copy lines s es t i n a at refl w.asked.phase in let y = min_most (entry es n).copied (lines (entry es n).at) in omega (arith, x, y)) in
    let head = sum_by-drop_more (λ (y : Queued). whole_work (lines y.0)) q i (0, 0) within in
    let object : lines (get_or q i (0, 0)).0 ≡ lines (entry es n).at = ap lines at.object in
    let put = work_put lines q item i (d t) (omega (arith, within)) (omega (arith, most, head, object)) in
    let f : ℕ → ℕ = thread_left lines s' in
    let g : ℕ → ℕ = thread_left lines s in
    let before : g t ≡ thread_work lines q Copy i (d t) = ap (λ y. thread_work lines q y i (d t)) w.asked.phase in
    let after : f t ≡ thread_work lines (q ++ item ∷ []) Copy i (d t) =
    ap (λ (y : List Queued). thread_work lines y (phase_of s'.queue t) (place_of s'.queue t).0 (d' t)) own
    ∙ ap (λ y. thread_work lines (q ++ item ∷ []) y (place_of s'.queue t).0 (d' t)) (phase t ∙ w.asked.phase)
    ∙ ap (λ (y : ℕ × ℕ). thread_work lines (q ++ item ∷ []) Copy y.0 (d' t)) (place t)
    ∙ ap (thread_work lines (q ++ item ∷ []) Copy i) done in
    let sums = sum_changed f g 64 t few (λ u ne. work_still lines s.queue s'.queue u (d u) (d' u) (queue u ne) (phase u) (place u)
    (done_still lines s s' es es' u a c.agrees (queue u ne) (phase u) (place u) (λ k is. let lk = is.claimed.0 in
    (omega (arith, lk, long), w.becomes.others k (λ eq. let p = is.placed in let x : (entry es k).stage ≡ (entry es m).stage = ap (λ y. (entry es y).stage) eq in omega (arith, x, p, ordinary)))))) in
    let marks : line_work s'.queue.marks ≡ line_work s.queue.marks = ap (λ (y : Queues). line_work y.marks) w.queue in
    let new = w.becomes.here in
    let lm = w.asked.refers_to.there in
    let count : lines e.at ≡ lines_of e = subst (λ (x : Entry). lines x.at ≡ lines_of x) new (tells' t m (omega (arith, lm, long), ap (λ (x : Entry). x.owner) new)) in
    let free = w.free in
    omega (arith, sums, before, after, put, marks, count, free)

sealed_left : (lines : ℕ → ℕ) (t set : ℕ) (s s' : Scene) (es es' : List Entry) → AgreesAt s es → AgreesAt s' es' → SealsGroup s s' es es' t set → work_of lines s' ≡ work_of lines s
sealed_left lines t set s s' es es' a a' w =
    let phase : (u : ℕ) → phase_of s'.queue u ≡ phase_of s.queue u = λ u. ap (λ (x : List Phase). slice_index_or x u Copy) w.released.phases in
    let place : (u : ℕ) → place_of s'.queue u ≡ place_of s.queue u = λ u. ap (λ (x : List (ℕ × ℕ)). slice_index_or x u (0, 0)) w.released.places in
    let d = done_at lines s.heap.marks.copies s.queue in
    let d' = done_at lines s'.heap.marks.copies s'.queue in
    let marks : line_work s'.queue.marks ≡ line_work s.queue.marks = ap line_work w.released.marks in
    let sums = sum_same (thread_left lines s') (thread_left lines s) 64 (λ u lu. elim (cases_Bool (has set u)) [
      | inl there ↦ (let flush = (w.settled u lu there).phase in
          flush_none lines (queue_of s'.queue u) (phase_of s'.queue u) (place_of s'.queue u).0 (d' u) (phase u ∙ flush) ∙
          sym (flush_none lines (queue_of s.queue u) (phase_of s.queue u) (place_of s.queue u).0 (d u) flush))
      | inr not ↦ (let queue = w.released.kept u not in
          work_still lines s.queue s'.queue u (d u) (d' u) queue (phase u) (place u) (done_still lines s s' es es' u a a' queue (phase u) (place u) (λ n is.
          let ln = is.claimed.0 in
          let long = w.sealed.long in (
            omega (arith, ln, long),
            w.sealed.others n ln (λ x. let o = x.2.1 in let e = is.claimed.1 in let same : x.0 ≡ u = omega (arith, o, e) in
                false≢true (sym not ∙ subst (λ y. has set y ≡ true) same x.1)),
          ))))
    ]) in
    omega (arith, marks, sums)

-- ---- events

left_by : (answer : ConvertStep) (lines : ℕ → ℕ) (t : ℕ) (s s' : Scene) (es es' : List Entry) → t < 64 → AgreesAt s es → AreUnwritten s.queue es → Tells lines es → Tells lines es' →
    Converts t answer s s' es es' → work_of lines s' + quiet answer ≤ work_of lines s + 16 * (s'.free - s.free)
left_by step.CopiedLine lines t s s' es es' few a unwritten tells tells' c = let x = copied_left lines t s s' es es' few a tells tells' c in omega (arith, x)
left_by step.Forwarded lines t s s' es es' few a unwritten tells tells' c = let x = forwarded_left lines t s s' es es' few a tells c in omega (arith, x)
left_by step.Repaired lines t s s' es es' few a unwritten tells tells' c = let x = repaired_left lines t s s' es es' few a unwritten tells c in omega (arith, x)
left_by step.WroteBack lines t s s' es es' few a unwritten tells tells' c =
    let w = c.says.0 in
    let d = done_at lines s.heap.marks.copies s.queue in
    let q = told_written s.queue w.line in
    let one = writes_take_work lines d t s s' es es' a c in
    let here : work_left lines d s'.queue ≡ work_left lines d q = ap (work_left lines d) w.queue in
    let there : work_of lines s' ≡ work_left lines d q = work_same lines s s' q w.queue (ap (λ (h : Twin). h.marks) w.heap) in
    omega (arith, one, here, there)
left_by step.Fenced lines t s s' es es' few a unwritten tells tells' c =
    let w = c.says.0 in
    let d = done_at lines s.heap.marks.copies s.queue in
    let q = told_fenced s.queue in
    let less = fences_take_work lines d t s s' es es' a c in
    let here : work_left lines d s'.queue ≡ work_left lines d q = ap (work_left lines d) w.queue in
    let there : work_of lines s' ≡ work_left lines d q = work_same lines s s' q w.queue (ap (λ (h : Twin). h.marks) w.heap) in
    omega (arith, less, here, there)
left_by step.Touched lines t s s' es es' few a unwritten tells tells' c =
    let w = c.says.0 in
    let same = work_same lines s s' s.queue w.queue (ap (λ (h : Twin). h.marks) w.heap) in
    omega (arith, same)
left_by step.Claimed lines t s s' es es' few a unwritten tells tells' c = let x = claimed_left lines t s s' es es' few a tells tells' c in omega (arith, x)
left_by (step.Sealed set) lines t s s' es es' few a unwritten tells tells' c = let x = sealed_left lines t set s s' es es' a c.agrees c.says in omega (arith, x)
left_by (step.Wait u) lines t s s' es es' few a unwritten tells tells' c = let x : work_of lines s' ≡ work_of lines s = ap (work_of lines) c.says.1 in omega (arith, x)
left_by (step.Full need left) lines t s s' es es' few a unwritten tells tells' c = let x : work_of lines s' ≡ work_of lines s = ap (work_of lines) c.says.1 in omega (arith, x)

pub events_take_work : EventsTakeWork
events_take_work lines t answer s s' es ms ms' few a unwritten e tells tells' =
    let goes = e.goes_on in
    let before = going_left lines s e.at es t a goes in
    let after = left_by answer lines t e.at s' es e.after few goes.agrees (going_unwritten s e.at es t goes unwritten) tells tells' e.converts in
    let free = goes.free in
    omega (arith, before, after, free)

-- ---- beginnings and stores

empty_none : (lines : ℕ → ℕ) (queue : List Queued) (p : Phase) (n d : ℕ) → queue ≡ [] → thread_work lines queue p n d ≡ 0
empty_none lines queue Copy n d none =
    let long : length queue ≡ 0 = ap length none in
    let rest : lines_in lines queue ≡ 0 = ap (lines_in lines) none in
    let all = copied_all lines queue n d (omega (arith, long)) in
    omega (arith, all, rest)
empty_none lines queue Repair n d none = let long : length queue ≡ 0 = ap length none in repaired_all lines queue n d (omega (arith, long))
empty_none lines queue Flush n d none = refl

-- one object, of which nothing is done
first_most : (lines : ℕ → ℕ) (x : Queued) (d : ℕ) → thread_work lines (x ∷ []) Copy 0 d ≤ 1 + 4 * lines x.0
first_most lines x d =
    let one = sum_by-cons (λ (y : Queued). whole_work (lines y.0)) x [] in
    let none : lines_in lines [] ≡ 0 = refl in
    let rest : uncopied_in lines [] ≡ 0 = refl in
    omega (arith, one, none, rest)

claim_begun : (lines : ℕ → ℕ) (t m : ℕ) (s s' : Scene) (es es' : List Entry) → t < 64 → AgreesAt s es → AgreesAt s' es' → queue_of s.queue t ≡ [] → Tells lines es' → m < length es →
    BeginsByClaim s s' es es' t m → work_of lines s' + 1 ≤ work_of lines s + 16 * (s'.free - s.free)
claim_begun lines t m s s' es es' few a a' empty tells lm w =
    let e = entry es m in
    let q = queue_of s.queue t in
    let item : Queued = (e.at, s.free) in
    let d = done_at lines s.heap.marks.copies s.queue in
    let d' = done_at lines s'.heap.marks.copies s'.queue in
    let long = w.becomes.long in
    let ordinary = w.ordinary in
    let own : queue_of s'.queue t ≡ item ∷ [] = ap (λ (y : Queues). queue_of y t) w.queue ∙ get_or-set_same s.queue.queues
    t (q ++ item ∷ []) [] (let x = a.sizes.queues in omega (arith, few, x)) ∙ ap (λ (y : List Queued). y ++ item ∷ [])
    empty in
    let phase_t : phase_of s'.queue t ≡ Copy = ap (λ (y : Queues). phase_of y t) w.queue ∙ get_or-set_same s.queue.phases t Copy Copy (let x = a.sizes.phases in omega (arith, few, x)) in
    let place_t : place_of s'.queue t ≡ (0, 0) = ap (λ (y : Queues). place_of y t) w.queue ∙ get_or-set_same s.queue.places t (0, 0) (0, 0) (let x = a.sizes.places in omega (arith, few, x)) in
    let queue : (u : ℕ) → u ≢ t → queue_of s'.queue u ≡ queue_of s.queue u = λ u ne. ap (λ (y : Queues). queue_of y u) w.queue ∙ get_or-set_other s.queue.queues t u (q ++ item ∷ []) [] ne in
    let phase : (u : ℕ) → u ≢ t → phase_of s'.queue u ≡ phase_of s.queue u = λ u ne. ap (λ (y : Queues). phase_of y u) w.queue ∙ get_or-set_other s.queue.phases t u Copy Copy ne in
    let place : (u : ℕ) → u ≢ t → place_of s'.queue u ≡ place_of s.queue u = λ u ne. ap (λ (y : Queues). place_of y u) w.queue ∙ get_or-set_other s.queue.places t u (0, 0) (0, 0) ne in
    let f : ℕ → ℕ = thread_left lines s' in
    let g : ℕ → ℕ = thread_left lines s in
    let after : f t ≡ thread_work lines (item ∷ []) Copy 0 (d' t) =
    ap (λ (y : List Queued). thread_work lines y (phase_of s'.queue t) (place_of s'.queue t).0 (d' t)) own
    ∙ ap (λ y. thread_work lines (item ∷ []) y (place_of s'.queue t).0 (d' t)) phase_t ∙ ap (λ (y : ℕ × ℕ). thread_work lines (item ∷ []) Copy y.0 (d' t)) place_t in
    let most = first_most lines item (d' t) in
    let sums = sum_changed f g 64 t few (λ u ne. work_still lines s.queue s'.queue u (d u) (d' u) (queue u ne) (phase u ne) (place u ne)
    (done_still lines s s' es es' u a a' (queue u ne) (phase u ne) (place u ne) (λ k is. let lk = is.claimed.0 in
    (omega (arith, lk, long), w.becomes.others k (λ eq. let p = is.placed in let x : (entry es k).stage ≡ (entry es m).stage = ap (λ y. (entry es y).stage) eq in omega (arith, x, p, ordinary)))))) in
    let marks : line_work s'.queue.marks ≡ line_work s.queue.marks = ap (λ (y : Queues). line_work y.marks) w.queue in
    let new = w.becomes.here in
    let count : lines e.at ≡ lines_of e = subst (λ (x : Entry). lines x.at ≡ lines_of x) new (tells t m (omega (arith, lm, long), ap (λ (x : Entry). x.owner) new)) in
    let free = w.free in
    omega (arith, sums, after, most, marks, count, free)

need_begun : (lines : ℕ → ℕ) (t m u : ℕ) (s s' : Scene) (es es' : List Entry) → t < 64 → AgreesAt s es → AgreesAt s' es' →
    queue_of s.queue t ≡ [] → BeginsByNeed s s' es es' t m u → work_of lines s' ≤ work_of lines s
need_begun lines t m u s s' es es' few a a' empty w =
    let d = done_at lines s.heap.marks.copies s.queue in
    let d' = done_at lines s'.heap.marks.copies s'.queue in
    let queue : (x : ℕ) → queue_of s'.queue x ≡ queue_of s.queue x = λ x. ap (λ (y : Queues). queue_of y x) w.queue in
    let phase : (x : ℕ) → x ≢ t → phase_of s'.queue x ≡ phase_of s.queue x = λ x ne. ap (λ (y : Queues). phase_of y x) w.queue ∙ get_or-set_other s.queue.phases t x Flush Copy ne in
    let place : (x : ℕ) → x ≢ t → place_of s'.queue x ≡ place_of s.queue x = λ x ne. ap (λ (y : Queues). place_of y x) w.queue ∙ get_or-set_other s.queue.places t x (0, 0) (0, 0) ne in
    let f : ℕ → ℕ = thread_left lines s' in
    let g : ℕ → ℕ = thread_left lines s in
    let after : f t ≡ 0 = empty_none lines (queue_of s'.queue t) (phase_of s'.queue t) (place_of s'.queue t).0 (d' t) (queue t ∙ empty) in
    let sums = sum_changed f g 64 t few (λ x ne. work_still lines s.queue s'.queue x (d x) (d' x) (queue x) (phase x ne) (place x ne)
    (done_still lines s s' es es' x a a' (queue x) (phase x ne) (place x ne) (λ k is. subst (λ (y : List Entry). (k < length y) × (entry y k ≡ entry es k)) (sym w.table) (is.claimed.0, refl)))) in
    let marks : line_work s'.queue.marks ≡ line_work s.queue.marks = ap (λ (y : Queues). line_work y.marks) w.queue in
    omega (arith, sums, after, marks)

pub beginnings_add_work : BeginningsAddWork
beginnings_add_work lines t m begun.Claimed s s' es es' few a empty lm tells b = claim_begun lines t m s s' es es' few a b.agrees empty tells lm b.says
beginnings_add_work lines t m (begun.Needs u) s s' es es' few a empty lm tells b = let x = need_begun lines t m u s s' es es' few a b.agrees empty b.says in omega (arith, x)
beginnings_add_work lines t m (begun.Full need left) s s' es es' few a empty lm tells b = let x : work_of lines s' ≡ work_of lines s = ap (work_of lines) b.says.same in omega (arith, x)

pub stores_add_work : StoresAddWork
stores_add_work lines t l s heap es a own same =
    let room = room_of (view_of s.heap) es own.n a.lies own.claimed.0 own.placed in
    let to = own.to in
    let long = a.sizes.marks in
    let d = done_at lines s.heap.marks.copies s.queue in
    let marks = work_stored s.queue.marks t l (omega (arith, room, to, long)) in
    let eq : work_of lines (record s { heap = heap; queue = told s.queue t l }) ≡ work_left lines d (told s.queue t l) = ap
    (λ (x : Marks). work_left lines (done_at lines x.copies (told s.queue t l)) (told s.queue t l)) same in
    omega (arith, marks, eq)
