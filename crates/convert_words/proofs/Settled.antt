-- A closed set of settled threads is fenced and closed.
use Rattle.std.proofs.Common.{◌≡◌, inl, inr, ℕ, ◌+◌, ◌*◌, ◌/◌, ◌%◌, ◌<◌, Bool, true, List, sym, ◌∙◌, ap, subst, arith}
use Rattle.twin_forms.specs.Table.{Entry, entry, View, word_of, refers, kept_at, lines_of, line_of, IsClaimed}
use Rattle.twin_forms.proofs.Led.{word_moved}
use Rattle.convert_queue.specs.declared.phase.Phase.{Phase}
use Rattle.convert_queue.specs.declared.phase.Phase.TheVariants.{Flush}
use Rattle.convert_queue.specs.Marks.{Mark, clean, stored, written, mark_at}
use Rattle.convert_queue.specs.Queues.{Queues, place_of, phase_of, IsSettled}
use Rattle.convert_queue.specs.Threads.{has, needs_of, IsClosed}
use Rattle.convert_words.specs.Agreeing.{Far, IsMended, IsOpen, Met, Keeps, IsTied, Agrees}
use Rattle.convert_words.specs.Sealing.{SealedBy, Refers, FencedAndClosed}

-- what a member's object refers to is sealed with it
met_sealed : (es : List Entry) (need : ℕ → ℕ → Bool) (set t m : ℕ) → IsClosed need (has set) → has set t ≡ true → Met es need t m → SealedBy es set m
met_sealed es need set t m g s (inl p) = inl p
met_sealed es need set t m g s (inr (inl c)) = inr (t, s, c)
met_sealed es need set t m g s (inr (inr x)) = inr (x.0, g t x.0 s x.1, x.2)

flush_far : (p : Phase) (at l i : ℕ) (e : Entry) → p ≡ Flush → Far p at l i e → e.stage ≡ 2
flush_far p at l i e eq far = subst (λ y. Far y at l i e) eq far

flush_mended : (p : Phase) (at l i c : ℕ) → p ≡ Flush → IsMended p at l i c
flush_mended p at l i c eq = subst (λ y. IsMended y at l i c) (sym eq) tt

flush_closed : (p : Phase) (at l i c : ℕ) → p ≡ Flush → IsOpen p at l i c → ⊥
flush_closed p at l i c eq o = subst (λ y. IsOpen y at l i c) eq o

-- A line that is clean of its thread's stores is as its mark says where that is clean.
tied_clean : (v : View) (held : ℕ → ℕ → Type 0) (back : ℕ → Type 0) (kept : ℕ → Type 0) (t l : ℕ) (m : Mark) → IsTied v held back kept t l m → (m ≡ stored t → ⊥) → (m ≡ written t → ⊥) →
    (w x : ℕ) → w < 8 → kept (8 * l + w) → held (8 * l + w) x → x ≡ v.shown (8 * l + w)
tied_clean v held back kept t l clean tied s f w x lw kp left = tied w x lw kp left
tied_clean v held back kept t l (stored u) tied s f w x lw kp left = absurd (s (ap stored tied))
tied_clean v held back kept t l (written u) tied s f w x lw kp left = absurd (f (ap written tied.0))

pub settled_forwarded : (v : View) (held : ℕ → ℕ → Type 0) (back : ℕ → Type 0) (q : Queues) (free : ℕ) (keys : ℕ → Type 0) (es : List Entry) (t n : ℕ) →
    Agrees v held back q free keys es → IsSettled q t → IsClaimed es t n → (entry es n).stage ≡ 2
settled_forwarded v held back q free keys es t n a s c =
    let i = a.queued.all t n c in
    flush_far (phase_of q t) (place_of q t).0 (place_of q t).1 i.0 (entry es n) s.phase (a.on_way t i.0 n i.1).reaches.far

-- each kept word of a settled thread's object that a stop may leave is the one that is shown
pub settled_shown : (v : View) (held : ℕ → ℕ → Type 0) (back : ℕ → Type 0) (q : Queues) (free : ℕ) (keys : ℕ → Type 0) (es : List Entry) (t n j x : ℕ) →
    Agrees v held back q free keys es → IsSettled q t → IsClaimed es t n → j < 8 * lines_of (entry es n) → Keeps v (entry es n) (8 * (entry es n).line + j) → held (8 * (entry es n).line + j) x →
    x ≡ v.shown (8 * (entry es n).line + j)
settled_shown v held back q free keys es t n j x a s c lt kp left =
    let e = entry es n in
    let i = a.queued.all t n c in
    let two = settled_forwarded v held back q free keys es t n a s c in
    let l = e.line + j / 8 in
    let at : 8 * e.line + j ≡ 8 * l + j % 8 = omega arith in
    let tied = (a.on_way t i.0 n i.1).tied (j / 8) (omega (arith, lt)) (inl (omega (arith, two))) in
    tied_clean v held back (Keeps v e) t l (mark_at q.marks l) tied (s.clean.written l) (s.clean.fenced l) (j % 8) x
    (omega arith) (subst (Keeps v e) at kp) (subst (λ y. held y x) at left) ∙ ap v.shown (sym at)

slot_refers : (v : View) (held : ℕ → ℕ → Type 0) (back : ℕ → Type 0) (q : Queues) (free : ℕ) (keys : ℕ → Type 0) (es : List Entry) (set t n k : ℕ) →
    Agrees v held back q free keys es → IsClosed (needs_of q.needs) (has set) → has set t ≡ true → IsSettled q t → IsClaimed es t n →
    refers v (entry es n) k ≡ true → kept_at v (entry es n) k ≡ true → k < (entry es n).slots → Refers es (SealedBy es set) (v.shown (8 * (entry es n).line + 1 + k))
slot_refers v held back q free keys es set t n k a g member s c ref kept lk =
    let e = entry es n in
    let i = a.queued.all t n c in
    let r = (a.on_way t i.0 n i.1).reaches in
    let p = phase_of q t in
    let at = (place_of q t).0 in
    let l = (place_of q t).1 in
    let two = settled_forwarded v held back q free keys es t n a s c in
    let is : word_of v e k ≡ v.shown (8 * e.line + 1 + k) = word_moved v e k (omega (arith, two)) in
    let even = r.mended k ref kept lk (flush_mended p at l i.0 (line_of k) s.phase) in
    subst (Refers es (SealedBy es set)) is (elim (a.lies.refs n k c.0 ref lk) [
      | inl z ↦ inl z
      | inr x ↦ (elim x.2 [
        | inl y ↦ absurd (let odd = y.1 in omega (arith, odd, even))
        | inr y ↦ inr (x.0, met_sealed es (needs_of q.needs) set t x.0 g member (r.met k x.0 ref kept lk (inl (omega (arith, two))) (flush_closed p at l i.0 (line_of k) s.phase) x.1 x.2), y.1, y.2)
      ])
    ])

-- What a closed set of settled threads has claimed is fenced, and refers to what is sealed with it.
pub fenced_and_closed : (v : View) (held : ℕ → ℕ → Type 0) (back : ℕ → Type 0) (q : Queues) (free : ℕ) (keys : ℕ → Type 0) (es : List Entry) (set : ℕ) →
    Agrees v held back q free keys es → IsClosed (needs_of q.needs) (has set) → ((t : ℕ) → has set t ≡ true → IsSettled q t) → FencedAndClosed v held es set
fenced_and_closed v held back q free keys es set a g settled = record {
  forwarded = λ t n member c. settled_forwarded v held back q free keys es t n a (settled t member) c;
  shown = λ t n j x member c lt kp left. settled_shown v held back q free keys es t n j x a (settled t member) c lt kp left;
  refers = λ t n k x member c ref kept lk left.
      let at : 8 * (entry es n).line + 1 + k ≡ 8 * (entry es n).line + (1 + k) = omega arith in
      let is = settled_shown v held back q free keys es t n (1 + k) x a (settled t member) c (omega (arith, lk))
      (λ j eq lj. subst (λ y. kept_at v (entry es n) y ≡ true) (let z : k ≡ j = omega (arith, eq) in z) kept) (subst (λ y. held y x) at left) in
      subst (Refers es (SealedBy es set)) (ap v.shown at ∙ sym is) (slot_refers v held back q free keys es set t n k a g member (settled t member) c ref kept lk);
}
