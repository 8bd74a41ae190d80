-- Touches, write-backs and fences, needs, and how far a thread has come.
use Rattle.std.proofs.Common.{◌≡◌, inl, inr, ℕ, ◌+◌, ◌*◌, ◌<◌, Bool, true, List, length, refl, sym, ◌∙◌, ap, subst, arith}
use Rattle.std.proofs.Common.{length-set, ◌⊎◌, ◌≤◌}
use Rattle.std.proofs.lemmas.List.{length-map}
use Rattle.twin_forms.specs.Table.{Entry, entry, View, IsClaimed, lines_of}
use Rattle.twin_forms.specs.Moves.{Moved}
use Rattle.twin_forms.proofs.Led.{same_or_not}
use Rattle.convert_queue.specs.declared.phase.Phase.{Phase}
use Rattle.convert_queue.specs.Marks.{mark_at, after_write, after_fence, with_write}
use Rattle.convert_queue.specs.Queues.{Queues, place_of, phase_of}
use Rattle.convert_queue.specs.Threads.{needs_of}
use Rattle.convert_words.specs.Agreeing.{Is, Met, Reaches, Keeps, IsTied, AreTied, Agrees}
use Rattle.convert_words.specs.Steps.{IsQuiet, told_written, told_fenced, GoesTo, IsOnly}
use Rattle.convert_words.proofs.Tied.{IsNoted, written_here, written_other, fenced_at, noted_written, noted_fenced}
use Rattle.convert_words.proofs.Tied.{tied_written, tied_fenced}
use Rattle.convert_words.proofs.Moves.{all_still, same_queues, agrees_over, way_kept, follows_moved, reaches_at, is_back}

-- A step that changes no word of the image, and nothing that the heap shows.
pub agrees_quiet : (v v' : View) (held held' : ℕ → ℕ → Type 0) (back back' : ℕ → Type 0) (q : Queues) (free : ℕ) (keys : ℕ → Type 0) (es : List Entry) →
    Moved v es v' es → IsQuiet v v' held held' back back' → Agrees v held back q free keys es → Agrees v' held' back' q free keys es
agrees_quiet v v' held held' back back' q free keys es moved quiet a =
    agrees_over v v' held held' back back' q q free keys keys es es moved.lies quiet.lines (all_still es) (same_queues q)
    (λ t i n is. let s = a.on_way t i n is in
    way_kept (λ _. ⊥) v v' held held' back back' q q es es t i n quiet a.lies refl (λ m lm x. x) is refl (follows_moved v v' es es n a.lies moved is.claimed.0 refl)
    (λ c lc hc. (λ x. x, refl)) s.reaches s.tied)
    a.noted a.resolved a

-- A store to a line of no object: of a root's slot, or of a log.
pub agrees_elsewhere : (v v' : View) (held held' : ℕ → ℕ → Type 0) (back back' : ℕ → Type 0) (q : Queues) (free : ℕ) (keys : ℕ → Type 0) (es : List Entry) (line : ℕ) →
    Moved v es v' es → IsOnly line v v' held held' back back' →
    ((n : ℕ) → n < length es → 0 < (entry es n).stage → (line < (entry es n).line) ⊎ ((entry es n).line + lines_of (entry es n) ≤ line)) →
    Agrees v held back q free keys es → Agrees v' held' back' q free keys es
agrees_elsewhere v v' held held' back back' q free keys es line moved only apart a =
    agrees_over v v' held held' back back' q q free keys keys es es moved.lies only.lines (all_still es) (same_queues q)
    (λ t i n is. let s = a.on_way t i n is in
    way_kept (λ l. l ≡ line) v v' held held' back back' q q es es t i n only a.lies refl (λ m lm x. x) is refl (follows_moved v v' es es n a.lies moved is.claimed.0 refl)
    (λ c lc hc. (λ eq. elim (apart n is.claimed.0 is.placed) [ inl x ↦ omega (arith, x, eq) | inr x ↦ omega (arith, x, eq, lc) ], refl)) s.reaches s.tied)
    a.noted a.resolved a

-- The queue is told of a write-back of a line to which the thread has stored.
pub agrees_wrote : (v : View) (held : ℕ → ℕ → Type 0) (back : ℕ → Type 0) (q : Queues) (free : ℕ) (keys : ℕ → Type 0) (es : List Entry) (l : ℕ) →
    l < v.lines → ((w : ℕ) → w < 8 → back (8 * l + w)) → Agrees v held back q free keys es → Agrees v held back (told_written q l) free keys es
agrees_wrote v held back q free keys es l lt reads a =
    let lm : l < length q.marks = omega (arith, lt, a.sizes.marks) in
    agrees_over v v held held back back q (told_written q l) free keys keys es es a.lies refl (all_still es)
    (record { queues = refl; needs = refl; places = refl; phases = refl; marks = length-set q.marks l (after_write (mark_at q.marks l)) })
    (λ t i n is. let s = a.on_way t i n is in let e = entry es n in record {
      reaches = s.reaches;
      tied = λ c lc hc. let k = e.line + c in elim (same_or_not k l) [
        | inr ne ↦ subst (IsTied v held back (Keeps v e) t k) (sym (written_other q.marks l k ne)) (s.tied c lc hc)
        | inl eq ↦ (
            let is_now : mark_at (with_write q.marks l) k ≡ after_write (mark_at q.marks k) = ap
            (mark_at (with_write q.marks l)) eq ∙ written_here q.marks l lm ∙ ap (λ x. after_write (mark_at q.marks x))
            (sym eq) in
            subst (IsTied v held back (Keeps v e) t k) (sym is_now)
            (tied_written v held back (Keeps v e) t k (mark_at q.marks k)
            (λ w lw. subst (λ x. back (8 * x + w)) (sym eq) (reads w lw)) (s.tied c lc hc)))
      ];
    })
    (λ u k noted. a.noted u k (noted_written q.marks l lm u k noted)) a.resolved a

-- The queue is told of a fence, whoever made it.
pub agrees_fenced : (v : View) (held : ℕ → ℕ → Type 0) (back : ℕ → Type 0) (q : Queues) (free : ℕ) (keys : ℕ → Type 0) (es : List Entry) →
    ((p x : ℕ) → back p → held p x → x ≡ v.shown p) → Agrees v held back q free keys es → Agrees v held back (told_fenced q) free keys es
agrees_fenced v held back q free keys es fence a =
    agrees_over v v held held back back q (told_fenced q) free keys keys es es a.lies refl (all_still es)
    (record { queues = refl; needs = refl; places = refl; phases = refl; marks = length-map q.marks after_fence })
    (λ t i n is. let s = a.on_way t i n is in let e = entry es n in record {
      reaches = s.reaches;
      tied = λ c lc hc. let k = e.line + c in
          subst (IsTied v held back (Keeps v e) t k) (sym (fenced_at q.marks k)) (tied_fenced v held back (Keeps v e) t k (mark_at q.marks k) fence (s.tied c lc hc));
    })
    (λ u k noted. a.noted u k (noted_fenced q.marks u k noted)) a.resolved a

met_more : (es : List Entry) (need need' : ℕ → ℕ → Bool) (t m : ℕ) → ((u : ℕ) → need t u ≡ true → need' t u ≡ true) → Met es need t m → Met es need' t m
met_more es need need' t m on (inl x) = inl x
met_more es need need' t m on (inr (inl x)) = inr (inl x)
met_more es need need' t m on (inr (inr x)) = inr (inr (x.0, on x.0 x.1, x.2))

pub reaches_more : (v : View) (es : List Entry) (need need' : ℕ → ℕ → Bool) (p : Phase) (at l t i : ℕ) (e : Entry) →
    ((u : ℕ) → need t u ≡ true → need' t u ≡ true) → Reaches v es need p at l t i e → Reaches v es need' p at l t i e
reaches_more v es need need' p at l t i e on r = record {
  far = r.far;
  met = λ k m one kept lk hc no lm na. met_more es need need' t m on (r.met k m one kept lk hc no lm na);
  mended = r.mended;
}

-- A thread needs others more: such as have claimed an object.
pub agrees_need : (v : View) (held : ℕ → ℕ → Type 0) (back : ℕ → Type 0) (q : Queues) (free : ℕ) (keys : ℕ → Type 0) (es : List Entry) (needs' : List ℕ) → length needs' ≡ length q.needs →
    ((t u : ℕ) → needs_of q.needs t u ≡ true → needs_of needs' t u ≡ true) → ((t u : ℕ) → t < 64 → u < 64 → needs_of needs' t u ≡ true → (n : ℕ) × IsClaimed es u n) →
    Agrees v held back q free keys es → Agrees v held back (record q { needs = needs' }) free keys es
agrees_need v held back q free keys es needs' long on real a = record {
  lies = a.lies;
  sizes = record { queues = a.sizes.queues; places = a.sizes.places; phases = a.sizes.phases; needs = long ∙ a.sizes.needs; marks = a.sizes.marks };
  queued = record {
    there = λ t i lt. let x = a.queued.there t i lt in (x.0, is_back (record q { needs = needs' }) q es es t i x.0 refl (all_still es) x.1);
    all = λ t n c. let x = a.queued.all t n c in (x.0, is_back (record q { needs = needs' }) q es es t x.0 n refl (all_still es) x.1);
    once = λ t i j n x y. a.queued.once t i j n (is_back q (record q { needs = needs' }) es es t i n refl (all_still es) x) (is_back q (record q { needs = needs' }) es es t j n refl (all_still es) y);
  };
  on_way = λ t i n is. let s = a.on_way t i n (is_back q (record q { needs = needs' }) es es t i n refl (all_still es) is) in record {
    reaches = reaches_more v es (needs_of q.needs) (needs_of needs') (phase_of q t) (place_of q t).0 (place_of q t).1 t i (entry es n) (on t) s.reaches;
    tied = s.tied;
  };
  noted = a.noted;
  real = real;
  below = a.below;
  few = a.few;
  resolved = a.resolved;
}

-- A thread comes to another place or phase, as far as its objects reach.
pub agrees_progress : (v : View) (held : ℕ → ℕ → Type 0) (back : ℕ → Type 0) (q q' : Queues) (free : ℕ) (keys : ℕ → Type 0) (es : List Entry) (t : ℕ) (p : Phase) (n l : ℕ) → GoesTo t p n l q q' →
    ((i m : ℕ) → Is q es t i m → Reaches v es (needs_of q.needs) p n l t i (entry es m)) →
    Agrees v held back q free keys es → Agrees v held back q' free keys es
agrees_progress v held back q q' free keys es t p n l goes reached a =
    agrees_over v v held held back back q q' free keys keys es es a.lies refl (all_still es)
    (record { queues = goes.queues; needs = goes.needs; places = goes.places; phases = goes.phases; marks = ap length goes.marks })
    (λ u i m is. let s = a.on_way u i m is in let e = entry es m in record {
      reaches = subst (λ x. Reaches v es (needs_of x) (phase_of q' u) (place_of q' u).0 (place_of q' u).1 u i e) (sym goes.needs) (elim (same_or_not u t) [
        | inl eq ↦ reaches_at v es (needs_of q.needs) p (phase_of q' u) n (place_of q' u).0 l (place_of q' u).1 u i e
            (ap (phase_of q') eq ∙ goes.phase) (ap (λ x. (place_of q' x).0) eq ∙ goes.at) (ap (λ x. (place_of q' x).1) eq ∙ goes.line)
            (subst (λ x. Reaches v es (needs_of q.needs) p n l x i e) (sym eq) (reached i m (subst (λ x. Is q es x i m) eq is)))
        | inr ne ↦ reaches_at v es (needs_of q.needs) (phase_of q u) (phase_of q' u) (place_of q u).0 (place_of q' u).0 (place_of q u).1 (place_of q' u).1 u i e
            (goes.other_phases u ne) (ap (λ x. x.0) (goes.other_places u ne)) (ap (λ x. x.1) (goes.other_places u ne)) s.reaches
      ]);
      tied = subst (λ x. AreTied v held back x u e) (sym goes.marks) s.tied;
    })
    (λ u k noted. a.noted u k (subst (λ x. IsNoted x u k) goes.marks noted)) a.resolved a
