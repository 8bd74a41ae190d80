-- A line is copied, an object forwarded, a line repaired.
use Rattle.std.proofs.Common.{◌≡◌, ◌≢◌, ◌⊎◌, inl, inr, ℕ, ◌+◌, ◌*◌, ◌<◌, ◌≤◌, List, length, refl, sym, ◌∙◌, ap, subst, arith}
use Rattle.std.proofs.Common.{slice_set, length-set}
use Rattle.std.proofs.lemmas.Grind.{common_steps}
use Rattle.twin_forms.specs.Table.{Entry, entry, View, lines_of, line_of, HasCopied}
use Rattle.twin_forms.specs.Moves.{Moved, one_more, forwarded}
use Rattle.twin_forms.proofs.Led.{same_or_not}
use Rattle.twin_forms.proofs.Elsewhere.{entry_here, entry_other}
use Rattle.convert_queue.specs.declared.phase.Phase.{Phase}
use Rattle.convert_queue.specs.declared.phase.Phase.TheVariants.{Copy, Repair}
use Rattle.convert_queue.specs.Marks.{mark_at, stored}
use Rattle.convert_queue.specs.Queues.{Queues, place_of, phase_of}
use Rattle.convert_queue.specs.Threads.{needs_of}
use Rattle.convert_words.specs.Agreeing.{Is, Far, IsMended, IsOpen, Reaches, Keeps, IsTied, IsCopied, current_word, OnItsWay}
use Rattle.convert_words.specs.Agreeing.{Agrees}
use Rattle.convert_words.specs.Steps.{IsQuiet, IsOnly, told, GoesTo}
use Rattle.convert_words.proofs.Basics.{room_of, is_one, LeadsBack, leads_moved, kept_back, keeps_back, word_kept}
use Rattle.convert_words.proofs.Tied.{IsNoted, stored_here, stored_other, noted_stored, tied_kept, tied_stored}
use Rattle.convert_words.proofs.Moves.{InPlace, all_still, in_place_set, claimed_on, met_on, copied_on, SameQueues}
use Rattle.convert_words.proofs.Moves.{reaches_kept, follows_moved, agrees_changed, resolved_set, reaches_at}

pub not_open : (p : Phase) (at l i c : ℕ) → p ≡ Copy → c ≢ l → IsOpen p at l i c → ⊥
not_open p at l i c eq ne o = ne (subst (λ y. IsOpen y at l i c) eq o).1

pub not_mended : (p : Phase) (at l i c : ℕ) → p ≡ Copy → IsMended p at l i c → ⊥
not_mended p at l i c eq m = subst (λ y. IsMended y at l i c) eq m

pub far_copy : (p : Phase) (at l i : ℕ) (e : Entry) → p ≡ Copy → Far p at l i e → Far Copy at l i e
far_copy p at l i e eq far = subst (λ y. Far y at l i e) eq far

-- the queue is told of a store by the thread of the object's claim
told_same : (q : Queues) (t l : ℕ) → SameQueues q (told q t l)
told_same q t l = record { queues = refl; needs = refl; places = refl; phases = refl; marks = length-set q.marks l (stored t) }

-- one more line
more_lines : (e : Entry) → InPlace e (one_more e)
more_lines e = record {
  slots = refl;
  at = refl;
  line = refl;
  owner = refl;
  some = λ x. x;
  back = λ x. x;
  moved = λ x. x;
  more = λ c hc. elim hc [ inl x ↦ inl x | inr x ↦ inr (x.0, (let y = x.1 in omega (arith, y))) ];
}

-- The next line of the object at the thread's place is copied, and the queue is told of it.
pub agrees_copied : (v v' : View) (held held' : ℕ → ℕ → Type 0) (back back' : ℕ → Type 0) (q : Queues) (free : ℕ) (keys : ℕ → Type 0) (es : List Entry) (t i n : ℕ) →
    Is q es t i n → phase_of q t ≡ Copy → (place_of q t).0 ≡ i → (entry es n).stage ≡ 1 → (entry es n).copied ≡ (place_of q t).1 → 8 * (entry es n).copied ≤ (entry es n).slots →
    Moved v es v' (slice_set es n (one_more (entry es n))) → IsOnly ((entry es n).line + (entry es n).copied) v v' held held' back back' →
    Agrees v held back q free keys es → Agrees v' held' back' (told q t ((entry es n).line + (entry es n).copied)) free keys (slice_set es n (one_more (entry es n)))
agrees_copied v v' held held' back back' q free keys es t i n is phase at one copied left moved only a =
    let e = entry es n in
    let e' = one_more e in
    let es' = slice_set es n e' in
    let l = e.line + e.copied in
    let q' = told q t l in
    let ln = is.claimed.0 in
    let s = a.on_way t i n is in
    let pl = place_of q t in
    let here : entry es' n ≡ e' = entry_here es n e' ln in
    let room = room_of v es n a.lies ln is.placed in
    let lm : l < length q.marks = omega (arith, room, left, a.sizes.marks) in
    let place = in_place_set es n e' ln (more_lines e) in
    agrees_changed (λ k. k ≡ l) v v' held held' back back' q q' free keys keys es es' t i n only moved.lies place (told_same q t l) is
    (λ k eq. (omega (arith, eq), omega (arith, eq, left)))
    (λ k ne. stored_other q.marks t l k ne)
    (λ m lm1 ne. let same = entry_other es n m e' ne in (same, follows_moved v v' es es' m a.lies moved lm1 same))
    (subst (OnItsWay v' es' held' back' q' t i) (sym here) (record {
      reaches = record {
        far = subst (λ y. Far y pl.0 pl.1 i e') (sym phase) (λ lt. absurd (omega (arith, lt, at)), λ _. (one, inr (omega (arith, copied))), λ lt. absurd (omega (arith, lt, at)));
        met = λ k m ref kept lk hc no lm1 na.
            let lm2 : m < length es = omega (arith, lm1, place.0) in
            let c_ne : line_of k ≢ pl.1 = λ eq. no (subst (λ y. IsOpen y pl.0 pl.1 i (line_of k)) (sym phase) (sym at, eq)) in
            let hc1 : HasCopied e (line_of k) = elim hc [ inl x ↦ inl x | inr x ↦ inr (one, (let y = x.1 in let ne : line_of k ≢ e.copied = λ eq. c_ne (eq ∙ copied) in omega (arith, y, ne))) ] in
            let leads : LeadsBack v v' es es' e e' k = subst (λ x. LeadsBack v v' es es' e x k) here (leads_moved v v' es es' n k a.lies moved ln lk) in
            let b = leads ref m lm2 na in
            met_on es es' (needs_of q.needs) t m place lm2 (s.reaches.met k m b.0 (kept_back v v' e k only.kept kept) lk hc1 (not_open (phase_of q t) pl.0 pl.1 i (line_of k) phase c_ne) lm2 b.1);
        mended = λ k ref kept lk is_mended. absurd (not_mended (phase_of q t) pl.0 pl.1 i (line_of k) phase is_mended);
      };
      tied = λ c lc hc. elim (same_or_not c e.copied) [
        | inl eq ↦ tied_stored v' held' back' (Keeps v' e') t (e.line + c) (mark_at q'.marks (e.line + c)) (ap (λ x. mark_at q'.marks (e.line + x)) eq ∙ stored_here q.marks t l lm)
        | inr ne ↦ (
            let apart : e.line + c ≢ l = λ eq. ne (omega (arith, eq)) in
            let hc1 : HasCopied e c = elim hc [ inl x ↦ inl x | inr x ↦ inr (one, (let y = x.1 in omega (arith, y, ne))) ] in
            subst (IsTied v' held' back' (Keeps v' e') t (e.line + c)) (sym (stored_other q.marks t l (e.line + c) apart))
            (tied_kept (λ k. k ≡ l) v v' held held' back back' (Keeps v e) (Keeps v' e') t (e.line + c)
            (mark_at q.marks (e.line + c)) only (omega (arith, room, lc)) apart
            (λ w kp. keeps_back v v' e w only.kept kp) (s.tied c lc hc1)))
      ];
    }))
    (λ u j m x ne. (a.on_way u j m x).reaches)
    (noted_stored q.marks t l (IsCopied es') lm
    (record {
      n = n;
      c = e.copied;
      claimed = claimed_on es es' t n place is.claimed;
      within = subst (λ x. e.copied < lines_of x) (sym here) (omega (arith, left));
      copied = subst (λ x. HasCopied x e.copied) (sym here) (inr (one, omega arith));
      here = ap (λ x. x.line + e.copied) (sym here);
    })
    (λ u k x. copied_on es es' u k place (a.noted u k x)))
    (λ w key. resolved_set es n e' w ln refl (a.resolved w key))
    a

-- ---- a forward

forwarded_lines : (e : Entry) → e.stage ≡ 1 → InPlace e (forwarded e)
forwarded_lines e one = record {
  slots = refl;
  at = refl;
  line = refl;
  owner = refl;
  some = λ _. omega arith;
  back = λ _. omega (arith, one);
  moved = λ _. omega arith;
  more = λ c _. inl (omega arith);
}

young_word : (e : Entry) → e.stage < 2 → current_word e ≡ 2 * e.at + 1
young_word e lt = grind (arith, common_steps)

-- All lines of the object at the thread's place are copied, and their references are met: it is forwarded, the place goes on
-- to the next object, and the key of its monitor is the reference to the copy.
pub agrees_forwarded : (v v' : View) (held held' : ℕ → ℕ → Type 0) (back back' : ℕ → Type 0) (q q' : Queues) (free : ℕ) (keys keys' : ℕ → Type 0) (es : List Entry) (t i n : ℕ) →
    Is q es t i n → phase_of q t ≡ Copy → (place_of q t).0 ≡ i → (entry es n).stage ≡ 1 → (entry es n).copied ≡ (place_of q t).1 → (entry es n).slots < 8 * (entry es n).copied →
    Moved v es v' (slice_set es n (forwarded (entry es n))) → IsQuiet v v' held held' back back' → GoesTo t Copy (i + 1) 0 q q' →
    ((w : ℕ) → keys' w → (keys w × (w ≢ 2 * (entry es n).at + 1)) ⊎ (w ≡ 2 * (entry es n).line)) →
    Agrees v held back q free keys es → Agrees v' held' back' q' free keys' (slice_set es n (forwarded (entry es n)))
agrees_forwarded v v' held held' back back' q q' free keys keys' es t i n is phase at one copied full moved quiet goes rekeyed a =
    let e = entry es n in
    let e' = forwarded e in
    let es' = slice_set es n e' in
    let ln = is.claimed.0 in
    let s = a.on_way t i n is in
    let pl = place_of q t in
    let here : entry es' n ≡ e' = entry_here es n e' ln in
    let room = room_of v es n a.lies ln is.placed in
    let place = in_place_set es n e' ln (forwarded_lines e one) in
    let mark : (l : ℕ) → mark_at q'.marks l ≡ mark_at q.marks l = λ l. ap (λ x. mark_at x l) goes.marks in
    agrees_changed (λ k. ⊥) v v' held held' back back' q q' free keys keys' es es' t i n quiet moved.lies place
    (record { queues = goes.queues; needs = goes.needs; places = goes.places; phases = goes.phases; marks = ap length goes.marks }) is
    (λ k no. absurd no)
    (λ k _. mark k)
    (λ m lm1 ne. let same = entry_other es n m e' ne in (same, follows_moved v v' es es' m a.lies moved lm1 same))
    (subst (OnItsWay v' es' held' back' q' t i) (sym here) (record {
      reaches = subst (λ x. Reaches v' es' (needs_of x) (phase_of q' t) (place_of q' t).0 (place_of q' t).1 t i e') (sym goes.needs)
          (reaches_at v' es' (needs_of q.needs) Copy (phase_of q' t) (i + 1) (place_of q' t).0 0 (place_of q' t).1 t i e' goes.phase goes.at goes.line (record {
            far = (λ _. refl, λ eq. absurd (omega (arith, eq)), λ lt. absurd (omega (arith, lt)));
            met = λ k m ref kept lk hc no lm1 na.
                let lm2 : m < length es = omega (arith, lm1, place.0) in
                let c_lt : line_of k < e.copied = omega (arith, lk, full) in
                let leads : LeadsBack v v' es es' e e' k = subst (λ x. LeadsBack v v' es es' e x k) here (leads_moved v v' es es' n k a.lies moved ln lk) in
                let b = leads ref m lm2 na in
                met_on es es' (needs_of q.needs) t m place lm2
                (s.reaches.met k m b.0 (kept_back v v' e k quiet.kept kept) lk (inr (one, c_lt))
                (not_open (phase_of q t) pl.0 pl.1 i (line_of k) phase (λ eq. omega (arith, eq, c_lt, copied))) lm2
                b.1);
            mended = λ k ref kept lk is_mended. absurd is_mended;
          }));
      tied = λ c lc hc. subst (IsTied v' held' back' (Keeps v' e') t (e.line + c)) (sym (mark (e.line + c)))
          (tied_kept (λ k. ⊥) v v' held held' back back' (Keeps v e) (Keeps v' e') t (e.line + c)
          (mark_at q.marks (e.line + c)) quiet (omega (arith, room, lc)) (λ x. x)
          (λ w kp. keeps_back v v' e w quiet.kept kp) (s.tied c lc (inr (one, omega (arith, lc, full)))));
    }))
    (λ u j m x ne. let r = (a.on_way u j m x).reaches in let em = entry es m in elim (same_or_not u t) [
      | inl eq ↦ (
          let x1 : Is q es t j m = subst (λ y. Is q es y j m) eq x in
          let r1 : Reaches v es (needs_of q.needs) (phase_of q t) pl.0 pl.1 t j em = (a.on_way t j m x1).reaches in
          let nj : j ≢ i = λ ji. ne (is_one v q es t i m n a.lies (subst (λ y. Is q es t y m) ji x1) is) in
          let f = far_copy (phase_of q t) pl.0 pl.1 j em phase r1.far in
          subst (λ y. Reaches v es (needs_of q.needs) (phase_of q' y) (place_of q' y).0 (place_of q' y).1 y j em) (sym eq)
          (reaches_at v es (needs_of q.needs) Copy (phase_of q' t) (i + 1) (place_of q' t).0 0 (place_of q' t).1 t j em goes.phase goes.at goes.line (record {
            far = (λ lt. f.0 (omega (arith, lt, nj, at)), λ e1. (let z = f.2 (omega (arith, e1, at)) in (z.0, inl z.1)), λ lt. f.2 (omega (arith, lt, at)));
            met = λ k y ref kept lk hc no ly na. r1.met k y ref kept lk hc (λ o. nj ((subst (λ z. IsOpen z pl.0 pl.1 j (line_of k)) phase o).0 ∙ at)) ly na;
            mended = λ k ref kept lk is_mended. absurd is_mended;
          })))
      | inr nu ↦ reaches_at v es (needs_of q.needs) (phase_of q u) (phase_of q' u) (place_of q u).0 (place_of q' u).0 (place_of q u).1 (place_of q' u).1 u j em
          (goes.other_phases u nu) (ap (λ y. y.0) (goes.other_places u nu)) (ap (λ y. y.1) (goes.other_places u nu)) r
    ])
    (λ u k x. copied_on es es' u k place (a.noted u k (subst (λ y. IsNoted y u k) goes.marks x)))
    (λ w key. elim (rekeyed w key) [
      | inr new ↦ (n, (let long = place.0 in omega (arith, long, ln)), new ∙ sym (ap current_word here))
      | inl old ↦ (
          let x = a.resolved w old.0 in
          elim (same_or_not x.0 n) [
            | inl eq ↦ absurd (old.1 (x.2 ∙ ap (λ y. current_word (entry es y)) eq ∙ young_word e (omega (arith, one))))
            | inr ne ↦ (x.0, (let long = place.0 in let lt = x.1 in omega (arith, long, lt)), x.2 ∙ sym (ap current_word (entry_other es n x.0 e' ne)))
          ])
    ])
    a

-- ---- a repair

-- The line at the thread's place is repaired, and the queue is told of it.
pub agrees_repaired : (v v' : View) (held held' : ℕ → ℕ → Type 0) (back back' : ℕ → Type 0) (q : Queues) (free : ℕ) (keys : ℕ → Type 0) (es : List Entry) (t i n c0 : ℕ) →
    Is q es t i n → phase_of q t ≡ Repair → (place_of q t).0 ≡ i → (place_of q t).1 ≡ c0 → c0 < lines_of (entry es n) →
    Moved v es v' es → IsOnly ((entry es n).line + c0) v v' held held' back back' →
    Agrees v held back q free keys es → Agrees v' held' back' (told q t ((entry es n).line + c0)) free keys es
agrees_repaired v v' held held' back back' q free keys es t i n c0 is phase at at_line lc0 moved only a =
    let e = entry es n in
    let l = e.line + c0 in
    let q' = told q t l in
    let ln = is.claimed.0 in
    let s = a.on_way t i n is in
    let pl = place_of q t in
    let room = room_of v es n a.lies ln is.placed in
    let lm : l < length q.marks = omega (arith, room, lc0, a.sizes.marks) in
    let two : e.stage ≡ 2 = subst (λ y. Far y pl.0 pl.1 i e) phase s.reaches.far in
    let follows = follows_moved v v' es es n a.lies moved ln refl in
    agrees_changed (λ k. k ≡ l) v v' held held' back back' q q' free keys keys es es t i n only moved.lies (all_still es) (told_same q t l) is
    (λ k eq. (omega (arith, eq), omega (arith, eq, lc0)))
    (λ k ne. stored_other q.marks t l k ne)
    (λ m lm1 ne. (refl, follows_moved v v' es es m a.lies moved lm1 refl))
    (record {
      reaches = reaches_kept v v' es es (needs_of q.needs) (needs_of q.needs) (phase_of q t) pl.0 pl.1 t i e refl only.kept (λ m lm x. x) follows.leads
          (λ k ref lk mended. (
            sym (follows.kinds k lk) ∙ ref,
            word_kept (λ y. y ≡ l) v v' held held' back back' e k only (omega (arith, two)) lk room
                (λ eq.
                let r : (i < pl.0) ⊎ ((i ≡ pl.0) × (line_of k < pl.1)) = subst (λ y. IsMended y pl.0 pl.1 i (line_of k)) phase mended in
                elim r [ inl x ↦ omega (arith, x, at) | inr x ↦ (let y = x.1 in omega (arith, y, at_line, eq)) ]),
          ))
          s.reaches;
      tied = λ c lc hc. elim (same_or_not c c0) [
        | inl eq ↦ tied_stored v' held' back' (Keeps v' e) t (e.line + c) (mark_at q'.marks (e.line + c)) (ap (λ x. mark_at q'.marks (e.line + x)) eq ∙ stored_here q.marks t l lm)
        | inr ne ↦ (
            let apart : e.line + c ≢ l = λ eq. ne (omega (arith, eq)) in
            subst (IsTied v' held' back' (Keeps v' e) t (e.line + c)) (sym (stored_other q.marks t l (e.line + c) apart))
            (tied_kept (λ k. k ≡ l) v v' held held' back back' (Keeps v e) (Keeps v' e) t (e.line + c)
            (mark_at q.marks (e.line + c)) only (omega (arith, room, lc)) apart
            (λ w kp. keeps_back v v' e w only.kept kp) (s.tied c lc hc)))
      ];
    })
    (λ u j m x ne. (a.on_way u j m x).reaches)
    (noted_stored q.marks t l (IsCopied es) lm (record { n = n; c = c0; claimed = is.claimed; within = lc0; copied = inl (omega (arith, two)); here = refl }) a.noted)
    a.resolved
    a
