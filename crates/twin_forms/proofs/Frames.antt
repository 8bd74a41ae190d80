-- An object whose words stay as they are lies as before.
use Rattle.std.proofs.Common.{◌≡◌, ◌≢◌, inl, inr, ℕ, ◌+◌, ◌*◌, ◌/◌, ◌<◌, ◌≤◌, Bool, true, false, List, length, refl, sym, ◌∙◌}
use Rattle.std.proofs.Common.{ap, subst, arith}
use Rattle.std.specs.Prelude.{ltb}
use Rattle.std.proofs.lemmas.Grind.{common_steps}
use Rattle.twin_forms.specs.Table.{Entry, entry, View, word_of, is_reference, refers, Table, Sits}
use Rattle.twin_forms.proofs.Led.{word_young, word_moved}

pub record Put (f f' : ℕ → ℕ) (p w : ℕ) : Type 0 where
  pub here : f' p ≡ w
  pub same : (q : ℕ) → q ≢ p → f' q ≡ f q

-- what the heap knows of its objects beside where they lie
pub record SameSizes (v v' : View) : Type 0 where
  pub words : v'.words ≡ v.words
  pub left : v'.left ≡ v.left
  pub lines : v'.lines ≡ v.lines
  pub marks : v'.marks ≡ v.marks
  pub birth : (n : ℕ) → v'.birth n ≡ v.birth n
  pub count : v'.count ≡ v.count
  pub shapes : v'.shapes ≡ v.shapes
  pub room : v'.room ≡ v.room
  pub kinds : v'.kinds ≡ v.kinds
  pub kept : v'.kept ≡ v.kept

pub refers_same : (v v' : View) (e : Entry) (k : ℕ) → SameSizes v v' → refers v' e k ≡ refers v e k
refers_same v v' e k sizes = ap (λ kinds. is_reference (kinds e.shape k)) sizes.kinds

pub table_same : (v v' : View) (es : List Entry) → SameSizes v v' → Table v.words v.lines v.shapes es → Table v'.words v'.lines v'.shapes es
table_same v v' es sizes t = subst (λ x. Table x v'.lines v'.shapes es) (sym sizes.words)
    (subst (λ x. Table v.words x v'.shapes es) (sym sizes.lines)
    (subst (λ x. Table v.words v.lines x es) (sym sizes.shapes) t))

-- Each word of each object says what it said.
pub record Agree (v v' : View) (e : Entry) : Type 0 where
  pub old : e.stage < 3 → (j : ℕ) → j < e.slots + 3 → v'.old (e.at + j) ≡ v.old (e.at + j)
  pub shown : 0 < e.stage → (j : ℕ) → j < 8 * (e.slots / 8 + 1) → v'.shown (8 * e.line + j) ≡ v.shown (8 * e.line + j)
  pub number : 0 < e.stage → v'.number e.line ≡ v.number e.line
  pub copied : 0 < e.stage → v'.copied e.line ≡ v.copied e.line
  pub owner : 0 < e.stage → v'.owner e.line ≡ v.owner e.line

old_at : {v v' : View} {e : Entry} → Agree v v' e → e.stage < 3 → (q j : ℕ) → q ≡ e.at + j → j < e.slots + 3 → v'.old q ≡ v.old q
old_at {v} {v'} {e} a s q j eq lt = rw eq (a.old s j lt)

shown_at : {v v' : View} {e : Entry} → Agree v v' e → 0 < e.stage → (q j : ℕ) → q ≡ 8 * e.line + j → j < 8 * (e.slots / 8 + 1) → v'.shown q ≡ v.shown q
shown_at {v} {v'} {e} a s q j eq lt = rw eq (a.shown s j lt)

pub word_agree : (v v' : View) (e : Entry) (k : ℕ) → Agree v v' e → k < e.slots → word_of v' e k ≡ word_of v e k
word_agree v v' e k a lt =
    let by : (b : Bool) → ltb e.stage 2 ≡ b → word_of v' e k ≡ word_of v e k =
    λ b. elim b as (λ x. ltb e.stage 2 ≡ x → word_of v' e k ≡ word_of v e k) [
      | true ↦ λ t. let l : e.stage < 2 = grind (arith, common_steps) in
          word_young v' e k l ∙ old_at a (omega arith) (e.at + 3 + k) (3 + k) (omega arith) (omega arith) ∙ sym (word_young v e k l)
      | false ↦ λ t. let l : 2 ≤ e.stage = grind (arith, common_steps) in
          word_moved v' e k l ∙ shown_at a (omega arith) (8 * e.line + 1 + k) (1 + k) (omega arith) (omega arith) ∙ sym (word_moved v e k l)
    ] in
    by (ltb e.stage 2) refl

pub sits_agree : (v v' : View) (n : ℕ) (e : Entry) → Agree v v' e → Sits v n e → Sits v' n e
sits_agree v v' n e a h = record {
  state = λ s. old_at a s e.at 0 (omega arith) (omega arith) ∙ h.state s;
  head = λ s. old_at a s (e.at + 1) 1 (omega arith) (omega arith) ∙ h.head s;
  number = λ s. old_at a s (e.at + 2) 2 (omega arith) (omega arith) ∙ h.number s;
  copy_number = λ s. a.number s ∙ h.copy_number s;
  copy_owner = λ s. a.owner s ∙ h.copy_owner s;
  copy_head = λ s. shown_at a (omega arith) (8 * e.line) 0 (omega arith) (omega arith) ∙ h.copy_head s;
  count = λ s. a.copied (omega arith) ∙ h.count s;
  mirrored_head = λ s c. shown_at a (omega arith) (8 * e.line) 0 (omega arith) (omega arith) ∙ h.mirrored_head s c;
  mirrored = λ k s lt c. shown_at a (omega arith) (8 * e.line + 1 + k) (1 + k) (omega arith) (omega arith) ∙ h.mirrored k s
      lt c ∙ sym (old_at a (omega arith) (e.at + 3 + k) (3 + k) (omega arith) (omega arith));
}

-- a change of one word of object n's old copy leaves object m alone
pub old_elsewhere : {words lines shapes : ℕ} {es : List Entry} → Table words lines shapes es → (m n : ℕ) → m < length es →
    n < length es → m ≢ n → (entry es m).stage < 3 → (entry es n).stage < 3 → (i j : ℕ) → i < (entry es n).slots + 3 → j <
    (entry es m).slots + 3 → (entry es m).at + j ≢ (entry es n).at + i
old_elsewhere {words} {lines} {shapes} {es} t m n lm ln ne sm sn i j li lj = let a = t.old_apart m n lm ln ne sm sn in
    elim a [ inl x ↦ λ e. omega (arith, x, e) | inr x ↦ λ e. omega (arith, x, e) ]

pub copy_elsewhere : {words lines shapes : ℕ} {es : List Entry} → Table words lines shapes es → (m n : ℕ) → m < length es →
    n < length es → m ≢ n → 0 < (entry es m).stage → 0 < (entry es n).stage → (i j : ℕ) → i < 8 *
    ((entry es n).slots / 8 + 1) → j < 8 * ((entry es m).slots / 8 + 1) → 8 * (entry es m).line + j ≢ 8 * (entry es n).line
    + i
copy_elsewhere {words} {lines} {shapes} {es} t m n lm ln ne sm sn i j li lj = let a = t.copy_apart m n lm ln ne sm sn in
    elim a [ inl x ↦ λ e. omega (arith, x, e) | inr x ↦ λ e. omega (arith, x, e) ]
