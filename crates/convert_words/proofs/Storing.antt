-- Stores of the program while objects are converted.
use Rattle.std.proofs.Common.{◌≡◌, ◌≢◌, ◌⊎◌, inl, inr, ℕ, ◌+◌, ◌%◌, ◌<◌, ◌≤◌, true, List, length, refl, sym, ◌∙◌, ap, subst}
use Rattle.std.proofs.Common.{arith, length-set}
use Rattle.ap_base.specs.declared.kind.Kind.{Kind}
use Rattle.std.specs.Prelude.{Option}
use Rattle.twin_forms.specs.Table.{Entry, entry, View, word_of, Names, refers, kept_at, is_reference, lines_of, line_of}
use Rattle.twin_forms.specs.Table.{HasCopied}
use Rattle.twin_forms.specs.Moves.{Stored}
use Rattle.twin_forms.proofs.Led.{same_or_not}
use Rattle.convert_queue.specs.Marks.{mark_at, stored}
use Rattle.convert_queue.specs.Queues.{Queues, place_of, phase_of}
use Rattle.convert_words.specs.Agreeing.{Is, Keeps, IsTied, IsCopied, Agrees}
use Rattle.convert_words.specs.Steps.{Changes, IsQuiet, IsOnly, told, MayHold}
use Rattle.convert_words.proofs.Basics.{room_of, line_other, LeadsBack, kept_back, keeps_back}
use Rattle.convert_words.proofs.Tied.{stored_here, stored_other, noted_stored, tied_kept, tied_stored}
use Rattle.convert_words.proofs.Moves.{all_still, same_queues, mended_two, Follows, agrees_changed, agrees_over, way_kept}

kind_kept : (v v' : View) (e : Entry) (k : ℕ) → v'.kinds ≡ v.kinds → refers v' e k ≡ refers v e k
kind_kept v v' e k kinds = ap (λ (f : ℕ → ℕ → Option Kind). is_reference (f e.shape k)) kinds

-- a slot to which nothing was stored
leads_stored : (v v' : View) (es : List Entry) (n k w m j : ℕ) → Stored v v' es n k w → v'.kinds ≡ v.kinds → m < length es
    → j < (entry es m).slots → (m ≢ n) ⊎ (j ≢ k) → LeadsBack v v' es es (entry es m) (entry es m) j
leads_stored v v' es n k w m j st kinds lm lj other ref y ly na = (sym (kind_kept v v' (entry es m) j kinds) ∙ ref, subst (Names (entry es y)) (st.same m j lm lj other) na)

follows_stored : (v v' : View) (es : List Entry) (n k w m : ℕ) → Stored v v' es n k w → v'.kinds ≡ v.kinds → m < length es → m ≢ n → Follows v v' es es (entry es m)
follows_stored v v' es n k w m st kinds lm ne = record {
  leads = λ j lj. leads_stored v v' es n k w m j st kinds lm lj (inl ne);
  kinds = λ j lj. kind_kept v v' (entry es m) j kinds;
}

-- A store to a slot whose line has been copied, of which the queue is told.
pub agrees_stored : (v v' : View) (held held' : ℕ → ℕ → Type 0) (back back' : ℕ → Type 0) (q : Queues) (free : ℕ) (keys : ℕ → Type 0) (es : List Entry) (t i n k w : ℕ) →
    Is q es t i n → k < (entry es n).slots → HasCopied (entry es n) (line_of k) → Stored v v' es n k w → v'.kinds ≡ v.kinds →
    IsOnly ((entry es n).line + line_of k) v v' held held' back back' → MayHold v es n k w →
    Agrees v held back q free keys es → Agrees v' held' back' (told q t ((entry es n).line + line_of k)) free keys es
agrees_stored v v' held held' back back' q free keys es t i n k w is lk copied st kinds only may a =
    let e = entry es n in
    let l = e.line + line_of k in
    let q' = told q t l in
    let ln = is.claimed.0 in
    let s = a.on_way t i n is in
    let pl = place_of q t in
    let room = room_of v es n a.lies ln is.placed in
    let lc0 : line_of k < lines_of e = omega (arith, lk) in
    let lm : l < length q.marks = omega (arith, room, lc0, a.sizes.marks) in
    agrees_changed (λ x. x ≡ l) v v' held held' back back' q q' free keys keys es es t i n only st.lies (all_still es)
    (record { queues = refl; needs = refl; places = refl; phases = refl; marks = length-set q.marks l (stored t) }) is
    (λ x eq. (omega (arith, eq), omega (arith, eq, lc0)))
    (λ x ne. stored_other q.marks t l x ne)
    (λ m lm1 ne. (refl, follows_stored v v' es n k w m st kinds lm1 ne))
    (record {
      reaches = record {
        far = s.reaches.far;
        met = λ j m ref kept lj hc closed lm1 na. elim (same_or_not j k) [
          | inl eq ↦ inl ((may (subst (λ x. refers v e x ≡ true) eq (sym (kind_kept v v' e j kinds) ∙ ref))
              (subst (λ x. kept_at v e x ≡ true) eq (kept_back v v' e j only.kept kept))).1 m lm1
              (subst (Names (entry es m)) (ap (word_of v' e) eq ∙ st.here) na))
          | inr ne ↦ (let b = leads_stored v v' es n k w n j st kinds ln lj (inr ne) ref m lm1 na in s.reaches.met j m b.0 (kept_back v v' e j only.kept kept) lj hc closed lm1 b.1)
        ];
        mended = λ j ref kept lj is_mended. elim (same_or_not j k) [
          | inl eq ↦ ap (λ x. x % 2) (ap (word_of v' e) eq ∙ st.here) ∙
              (may (subst (λ x. refers v e x ≡ true) eq (sym (kind_kept v v' e j kinds) ∙ ref))
              (subst (λ x. kept_at v e x ≡ true) eq (kept_back v v' e j only.kept kept))).0
          | inr ne ↦ ap (λ x. x % 2) (st.same n j ln lj (inr ne)) ∙ s.reaches.mended j (sym (kind_kept v v' e j kinds) ∙ ref) (kept_back v v' e j only.kept kept) lj is_mended
        ];
      };
      tied = λ c lc hc. elim (same_or_not c (line_of k)) [
        | inl eq ↦ tied_stored v' held' back' (Keeps v' e) t (e.line + c) (mark_at q'.marks (e.line + c)) (ap (λ x. mark_at q'.marks (e.line + x)) eq ∙ stored_here q.marks t l lm)
        | inr ne ↦ (
            let apart : e.line + c ≢ l = λ eq. ne (omega (arith, eq)) in
            subst (IsTied v' held' back' (Keeps v' e) t (e.line + c)) (sym (stored_other q.marks t l (e.line + c) apart))
            (tied_kept (λ x. x ≡ l) v v' held held' back back' (Keeps v e) (Keeps v' e) t (e.line + c)
            (mark_at q.marks (e.line + c)) only (omega (arith, room, lc)) apart
            (λ y kp. keeps_back v v' e y only.kept kp) (s.tied c lc hc)))
      ];
    })
    (λ u j m x ne. (a.on_way u j m x).reaches)
    (noted_stored q.marks t l (IsCopied es) lm (record { n = n; c = line_of k; claimed = is.claimed; within = lc0; copied = copied; here = refl }) a.noted)
    a.resolved
    a

-- A store to a slot of a queued object whose line hasn't been copied yet: any word, and none of the image.
pub agrees_stored_old : (v v' : View) (held held' : ℕ → ℕ → Type 0) (back back' : ℕ → Type 0) (q : Queues) (free : ℕ) (keys : ℕ → Type 0) (es : List Entry) (t i n k w : ℕ) →
    Is q es t i n → (HasCopied (entry es n) (line_of k) → ⊥) → Stored v v' es n k w → v'.kinds ≡ v.kinds → IsQuiet v v' held held' back back' →
    Agrees v held back q free keys es → Agrees v' held' back' q free keys es
agrees_stored_old v v' held held' back back' q free keys es t i n k w is fresh st kinds quiet a =
    let e = entry es n in
    let ln = is.claimed.0 in
    let s = a.on_way t i n is in
    let room = room_of v es n a.lies ln is.placed in
    let other : (j : ℕ) → HasCopied e (line_of j) → j ≢ k = λ j hc eq. fresh (subst (λ x. HasCopied e (line_of x)) eq hc) in
    agrees_changed (λ _. ⊥) v v' held held' back back' q q free keys keys es es t i n quiet st.lies (all_still es) (same_queues q) is
    (λ x no. absurd no)
    (λ x _. refl)
    (λ m lm1 ne. (refl, follows_stored v v' es n k w m st kinds lm1 ne))
    (record {
      reaches = record {
        far = s.reaches.far;
        met = λ j m ref kept lj hc closed lm1 na. let b = leads_stored v v' es n k w n j st kinds ln lj (inr (other j hc))
            ref m lm1 na in s.reaches.met j m b.0 (kept_back v v' e j quiet.kept kept) lj hc closed lm1 b.1;
        mended = λ j ref kept lj is_mended.
            let ne = other j (inl (mended_two (phase_of q t) (place_of q t).0 (place_of q t).1 i (line_of j) e s.reaches.far is_mended)) in
            ap (λ x. x % 2) (st.same n j ln lj (inr ne)) ∙ s.reaches.mended j (sym (kind_kept v v' e j kinds) ∙ ref) (kept_back v v' e j quiet.kept kept) lj is_mended;
      };
      tied = λ c lc hc. tied_kept (λ _. ⊥) v v' held held' back back' (Keeps v e) (Keeps v' e) t (e.line + c)
          (mark_at q.marks (e.line + c)) quiet (omega (arith, room, lc)) (λ x. x)
          (λ y kp. keeps_back v v' e y quiet.kept kp) (s.tied c lc hc);
    })
    (λ u j m x ne. (a.on_way u j m x).reaches)
    a.noted a.resolved a

-- A store to an object that isn't queued: it is ordinary, or durable and stored to in its own lines alone.
pub agrees_stored_apart : (Line : ℕ → Type 0) (v v' : View) (held held' : ℕ → ℕ → Type 0) (back back' : ℕ → Type 0) (q : Queues) (free : ℕ) (keys : ℕ → Type 0) (es : List Entry) (n k w : ℕ) →
    n < length es → (entry es n).owner ≡ 0 → ((l : ℕ) → Line l → (0 < (entry es n).stage) × ((entry es n).line ≤ l) × (l < (entry es n).line + lines_of (entry es n))) →
    Stored v v' es n k w → v'.kinds ≡ v.kinds → Changes Line v v' held held' back back' →
    Agrees v held back q free keys es → Agrees v' held' back' q free keys es
agrees_stored_apart Line v v' held held' back back' q free keys es n k w ln nobody mine st kinds changes a =
    agrees_over v v' held held' back back' q q free keys keys es es st.lies changes.lines (all_still es) (same_queues q)
    (λ t i m is.
    let s = a.on_way t i m is in
    let ne : m ≢ n = λ eq. (let o = is.claimed.1 in let z : (entry es m).owner ≡ 0 = ap (λ x. (entry es x).owner) eq ∙ nobody in omega (arith, o, z)) in
    way_kept Line v v' held held' back back' q q es es t i m changes a.lies refl (λ y ly x. x) is refl (follows_stored v v' es n k w m st kinds is.claimed.0 ne)
    (λ c lc hc. (
      λ x. let b = mine ((entry es m).line + c) x in line_other v es n m ((entry es m).line + c) c a.lies ln is.claimed.0 ne b.0 is.placed b.1 b.2 lc refl,
      refl,
    ))
    s.reaches s.tied)
    a.noted a.resolved a
