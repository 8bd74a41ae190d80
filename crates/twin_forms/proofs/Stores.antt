-- A store keeps the table, and changes one slot of one object.
use Rattle.std.proofs.Common.{◌≡◌, ◌≢◌, ◌⊎◌, inl, inr, ℕ, ◌+◌, ◌*◌, ◌<◌, ◌≤◌, true, List, length, sym, ◌∙◌, ap, subst, arith}
use Rattle.std.specs.Prelude.{◌^◌}
use Rattle.twin_forms.specs.Table.{Entry, entry, View, word_of, IsRef, refers, Sits, Lies}
use Rattle.twin_forms.specs.Moves.{Stored}
use Rattle.twin_forms.proofs.Led.{same_or_not, word_young, word_moved}
use Rattle.twin_forms.proofs.Frames.{Put, Agree, SameSizes, refers_same, table_same, word_agree, sits_agree, old_elsewhere}
use Rattle.twin_forms.proofs.Frames.{copy_elsewhere}

-- where the numbers, the counts and the sizes are as they were
pub record Rest (v v' : View) : Type 0 where
  pub number : (l : ℕ) → v'.number l ≡ v.number l
  pub copied : (l : ℕ) → v'.copied l ≡ v.copied l
  pub owner : (l : ℕ) → v'.owner l ≡ v.owner l
  pub sizes : SameSizes v v'

-- the parts of a store, put together
whole : (v v' : View) (es : List Entry) (n i w : ℕ) → Lies v es → n < length es → i < (entry es n).slots → (refers v (entry es n) i ≡ true → IsRef es w) → Rest v v' →
    ((m : ℕ) → m < length es → m ≢ n → Agree v v' (entry es m)) → Sits v' n (entry es n) → word_of v' (entry es n) i ≡ w →
    ((k : ℕ) → k < (entry es n).slots → k ≢ i → word_of v' (entry es n) k ≡ word_of v (entry es n) k) → Stored v v' es n i w
whole v v' es n i w h ln li ref rest others mine is slots =
    let same : (m k : ℕ) → m < length es → k < (entry es m).slots → (m ≢ n) ⊎ (k ≢ i) → word_of v' (entry es m) k ≡ word_of v (entry es m) k =
    λ m k lm lk d. elim (same_or_not m n) [
      | inr ne ↦ word_agree v v' (entry es m) k (others m lm ne) lk
      | inl e ↦ (elim d [
        | inl ne ↦ absurd (ne e)
        | inr ne ↦ subst (λ x. word_of v' (entry es x) k ≡ word_of v (entry es x) k) (sym e) (slots k (subst (λ x. k < (entry es x).slots) e lk) ne)
      ])
    ] in
    record {
      lies = record {
        long = h.long ∙ sym rest.sizes.count;
        marked = rest.sizes.marks ∙ h.marked ∙ sym rest.sizes.lines;
        few = subst (λ x. x + v'.room < 2 ^ 32) (sym rest.sizes.count) (subst (λ x. v.count + x < 2 ^ 32) (sym rest.sizes.room) h.few);
        roomy = subst (λ x. x < 3 * v'.room + 3) (sym rest.sizes.left) (subst (λ x. v.left < 3 * x + 3) (sym rest.sizes.room) h.roomy);
        births = record { old = λ m lm t. rest.sizes.birth m ∙ h.births.old m lm t; copy = λ m lm t. rest.sizes.birth m ∙ h.births.copy m lm t };
        table = table_same v v' es rest.sizes h.table;
        sits = λ m lm. elim (same_or_not m n) [
          | inr ne ↦ sits_agree v v' m (entry es m) (others m lm ne) (h.sits m lm)
          | inl e ↦ subst (λ x. Sits v' x (entry es x)) (sym e) mine
        ];
        refs = λ m k lm r' lk. (let r : refers v (entry es m) k ≡ true = sym (refers_same v v' (entry es m) k rest.sizes) ∙ r' in elim (same_or_not m n) [
          | inr ne ↦ subst (IsRef es) (sym (same m k lm lk (inl ne))) (h.refs m k lm r lk)
          | inl e ↦ (elim (same_or_not k i) [
            | inr ne ↦ subst (IsRef es) (sym (same m k lm lk (inr ne))) (h.refs m k lm r lk)
            | inl f ↦ subst (IsRef es)
                (sym (subst (λ x. word_of v' (entry es x) k ≡ w) (sym e)
                (subst (λ x. word_of v' (entry es n) x ≡ w) (sym f) is)))
                (ref (subst (λ x. refers v (entry es n) x ≡ true) f (subst (λ x. refers v (entry es x) k ≡ true) e r)))
          ])
        ]);
      };
      here = is;
      same = same;
      kept = rest.sizes.kept;
    }

-- the copy is current
pub store_moved : (v v' : View) (es : List Entry) (n i w p : ℕ) → Lies v es → n < length es → i < (entry es n).slots → (refers v (entry es n) i ≡ true → IsRef es w) → Rest v v' →
    2 ≤ (entry es n).stage → ((q : ℕ) → v'.old q ≡ v.old q) → p ≡ 8 * (entry es n).line + 1 + i → Put v.shown v'.shown p w → Stored v v' es n i w
store_moved v v' es n i w p h ln li ref rest st old at put =
    let e = entry es n in
    let s = h.sits n ln in
    whole v v' es n i w h ln li ref rest
    (λ m lm ne. record {
      old = λ _ j _. old ((entry es m).at + j);
      shown = λ sm j lj. put.same (8 * (entry es m).line + j) (λ eq. copy_elsewhere h.table m n lm ln ne sm (omega arith) (1 + i) j (omega arith) lj (omega (arith, eq, at)));
      number = λ _. rest.number (entry es m).line;
      copied = λ _. rest.copied (entry es m).line;
      owner = λ _. rest.owner (entry es m).line;
    })
    (record {
      state = λ x. old e.at ∙ s.state x;
      head = λ x. old (e.at + 1) ∙ s.head x;
      number = λ x. old (e.at + 2) ∙ s.number x;
      copy_number = λ x. rest.number e.line ∙ s.copy_number x;
      copy_owner = λ x. rest.owner e.line ∙ s.copy_owner x;
      copy_head = λ x. put.same (8 * e.line) (λ eq. omega (arith, eq, at)) ∙ s.copy_head x;
      count = λ x. absurd (omega (arith, x, st));
      mirrored_head = λ x _. absurd (omega (arith, x, st));
      mirrored = λ k x _ _. absurd (omega (arith, x, st));
    })
    (word_moved v' e i st ∙ ap v'.shown (sym at) ∙ put.here)
    (λ k lk ne. word_moved v' e k st ∙ put.same (8 * e.line + 1 + k) (λ eq. ne (omega (arith, eq, at))) ∙ sym (word_moved v e k st))

-- the old copy is current: it is stored to, and so is a line that is copied
pub store_young : (v v' : View) (es : List Entry) (n i w p : ℕ) → Lies v es → n < length es → i < (entry es n).slots → (refers v (entry es n) i ≡ true → IsRef es w) → Rest v v' →
    (entry es n).stage < 2 → p ≡ (entry es n).at + 3 + i → Put v.old v'.old p w →
    ((entry es n).stage ≡ 0 → (q : ℕ) → v'.shown q ≡ v.shown q) →
    ((q : ℕ) → q ≢ 8 * (entry es n).line + 1 + i → v'.shown q ≡ v.shown q) →
    ((entry es n).stage ≡ 1 → 1 + i < 8 * (entry es n).copied → v'.shown (8 * (entry es n).line + 1 + i) ≡ w) → Stored v v' es n i w
store_young v v' es n i w p h ln li ref rest st at put none other mirror =
    let e = entry es n in
    let s = h.sits n ln in
    whole v v' es n i w h ln li ref rest
    (λ m lm ne. record {
      old = λ sm j lj. put.same ((entry es m).at + j) (λ eq. old_elsewhere h.table m n lm ln ne sm (omega arith) (3 + i) j (omega arith) lj (omega (arith, eq, at)));
      shown = λ sm j lj. elim (same_or_not e.stage 0) [
        | inl z ↦ none z (8 * (entry es m).line + j)
        | inr nz ↦ other (8 * (entry es m).line + j) (λ eq. copy_elsewhere h.table m n lm ln ne sm (omega arith) (1 + i) j (omega arith) lj (omega (arith, eq)))
      ];
      number = λ _. rest.number (entry es m).line;
      copied = λ _. rest.copied (entry es m).line;
      owner = λ _. rest.owner (entry es m).line;
    })
    (record {
      state = λ x. put.same e.at (λ eq. omega (arith, eq, at)) ∙ s.state x;
      head = λ x. put.same (e.at + 1) (λ eq. omega (arith, eq, at)) ∙ s.head x;
      number = λ x. put.same (e.at + 2) (λ eq. omega (arith, eq, at)) ∙ s.number x;
      copy_number = λ x. rest.number e.line ∙ s.copy_number x;
      copy_owner = λ x. rest.owner e.line ∙ s.copy_owner x;
      copy_head = λ x. absurd (omega (arith, x, st));
      count = λ x. rest.copied e.line ∙ s.count x;
      mirrored_head = λ x c. other (8 * e.line) (λ eq. omega (arith, eq)) ∙ s.mirrored_head x c;
      mirrored = λ k x lk c. elim (same_or_not k i) [
        | inl f ↦ subst (λ y. v'.shown (8 * e.line + 1 + y) ≡ v'.old (e.at + 3 + y)) (sym f) (mirror x (subst (λ y. 1 + y < 8 * e.copied) f c) ∙ sym put.here ∙ ap v'.old at)
        | inr ne ↦ other (8 * e.line + 1 + k) (λ eq. ne (omega (arith, eq))) ∙ s.mirrored k x lk c ∙ sym (put.same (e.at + 3 + k) (λ eq. ne (omega (arith, eq, at))))
      ];
    })
    (word_young v' e i st ∙ ap v'.old (sym at) ∙ put.here)
    (λ k lk ne. word_young v' e k st ∙ put.same (e.at + 3 + k) (λ eq. ne (omega (arith, eq, at))) ∙ sym (word_young v e k st))
