-- What the words tell of an object is what a table says of it.
use Rattle.std.proofs.Common.{◌≡◌, ◌⊎◌, inl, inr, ℕ, ◌+◌, ◌*◌, ◌/◌, ◌%◌, ◌<◌, ◌≤◌, ◌^◌, nat_lt, true, false, List, length, refl}
use Rattle.std.proofs.Common.{sym, ◌∙◌, ap, subst, arith}
use Rattle.std.specs.Prelude.{slice_index}
use Rattle.std.proofs.lemmas.Grind.{common_steps}
use Rattle.ap_base.specs.declared.reference.Ref.TheVariants.{Persistent, Volatile}
use Rattle.graph_model.specs.declared.types.Value.{Value}
use Rattle.graph_model.specs.declared.types.Obj.{Obj as ObjectOf}
use Rattle.one_space.specs.Layout.{row}
use Rattle.one_space.proofs.Stores.{row_same}
use Rattle.twin_forms.specs.Table.{Entry, entry, View, Lies, head_word, state_word, is_reference, value_of, word_of}
use Rattle.twin_forms.proofs.Led.{same_or_not, below_or_not, word_young, word_moved}
use Rattle.twin_forms.proofs.Tables.{parts}
use Rattle.twin_heap.specs.Here.{current}
use Rattle.twin_heap.proofs.Reading.{when_old, when_copy}
use Rattle.two_spaces.specs.Seen.{told, told_by, old_told, copy_told, stage_told, slot_value, slot_shown, object_of, objects_in}

-- where the object lies now, and what it is
pub record IsTold (e e' : Entry) : Type 0 where
  pub young : e.stage < 2 → e'.stage < 2
  pub moved : 2 ≤ e.stage → 2 ≤ e'.stage
  pub at : e.stage < 2 → e'.at ≡ e.at
  pub line : 2 ≤ e.stage → e'.line ≡ e.line
  pub slots : e'.slots ≡ e.slots
  pub shape : e'.shape ≡ e.shape

by_line : (v : View) (birth line : ℕ) → birth ≡ 2 * line → told_by v birth ≡ copy_told v line
by_line v birth line e =
    let p : birth % 2 ≡ 0 = omega arith in let q : birth / 2 ≡ line = omega arith in rw (p, q) refl

by_index : (v : View) (birth at : ℕ) → birth ≡ 2 * at + 1 → told_by v birth ≡ old_told v at
by_index v birth at e =
    let p : birth % 2 ≡ 1 = omega arith in let q : birth / 2 ≡ at = omega arith in rw (p, q) refl

stage_low : (s : ℕ) → s % 8 < 3 → stage_told s ≡ 0
stage_low s lt = let p : nat_lt (s % 8) 3 ≡ true = grind (arith, common_steps) in rw p refl

stage_high : (s : ℕ) → 3 ≤ s % 8 → stage_told s ≡ 2
stage_high s le = let p : nat_lt (s % 8) 3 ≡ false = grind (arith, common_steps) in rw p refl

-- a head's parts
head_parts : (h : ℕ) (e : Entry) → e.shape < 2 ^ 32 → h ≡ head_word e → (h % 2 ^ 32 ≡ e.shape) × (h / 2 ^ 32 ≡ e.slots)
head_parts h e few is = (omega (arith, few, is), omega (arith, few, is))

in_copy : (v : View) (e : Entry) → e.shape < 2 ^ 32 → e.stage ≡ 3 → v.shown (8 * e.line) ≡ head_word e
    → IsTold e (copy_told v e.line)
in_copy v e few three head = let p = head_parts (v.shown (8 * e.line)) e few head in record {
  young = λ lt. absurd (omega (arith, lt, three));
  moved = λ _. omega arith;
  at = λ lt. absurd (omega (arith, lt, three));
  line = λ _. refl;
  slots = p.1;
  shape = p.0;
}

-- what a state's word tells
stages : (e : Entry) (w : ℕ) → e.stage < 3 → e.owner ≤ 64 → (e.stage ≡ 1 → 0 < e.owner) → w ≡ state_word e
    → ((e.stage < 2) × (stage_told w ≡ 0)) ⊎ ((e.stage ≡ 2) × (stage_told w ≡ 2) × (w / 2 ^ 32 ≡ e.line))
stages e w lt most some is = elim (parts e w lt most some is) [
  | inl a ↦ inl (omega (arith, a.1), stage_low w (omega (arith, a.0)))
  | inr b ↦ (elim b [
    | inl a ↦ inl (omega (arith, a.1), stage_low w (omega (arith, a.0)))
    | inr b ↦ (elim b [
      | inl a ↦ inl (omega (arith, a.1), stage_low w (omega (arith, a.0)))
      | inr b ↦ (elim b [
        | inl a ↦ inr (a.1, stage_high w (omega (arith, a.0)), omega (arith, a.3))
        | inr a ↦ inr (a.1, stage_high w (omega (arith, a.0)), omega (arith, a.3))
      ])
    ])
  ])
]

in_space : (v : View) (e : Entry) → e.shape < 2 ^ 32 → e.stage < 3 → e.owner ≤ 64 → (e.stage ≡ 1 → 0 < e.owner)
    → v.old e.at ≡ state_word e → v.old (e.at + 1) ≡ head_word e → IsTold e (old_told v e.at)
in_space v e few lt most some state head =
    let p = head_parts (v.old (e.at + 1)) e few head in
    elim (stages e (v.old e.at) lt most some state) [
      | inl a ↦ record {
        young = λ _. omega (arith, a.1);
        moved = λ le. absurd (omega (arith, le, a.0));
        at = λ _. refl;
        line = λ le. absurd (omega (arith, le, a.0));
        slots = p.1;
        shape = p.0;
      }
      | inr a ↦ record {
        young = λ lt. absurd (omega (arith, lt, a.0));
        moved = λ _. omega (arith, a.1);
        at = λ lt. absurd (omega (arith, lt, a.0));
        line = λ _. a.2;
        slots = p.1;
        shape = p.0;
      }
    ]

pub told_is : (v : View) (es : List Entry) (n : ℕ) → Lies v es → n < length es → IsTold (entry es n) (told v n)
unfolding told
told_is v es n h ln =
    let s = h.sits n ln in
    let below = h.table.stages n ln in
    let shape = h.table.shape_in n ln in
    let few : (entry es n).shape < 2 ^ 32 = omega (arith, shape, h.table.few_shapes) in
    elim (same_or_not (entry es n).stage 3) [
      | inl three ↦ subst (IsTold (entry es n)) (sym (by_line v (v.birth n) (entry es n).line (h.births.copy n ln three)))
          (in_copy v (entry es n) few three (s.copy_head (omega (arith, three))))
      | inr ne ↦
          (let lt : (entry es n).stage < 3 = omega (arith, ne, below) in
          subst (IsTold (entry es n)) (sym (by_index v (v.birth n) (entry es n).at (h.births.old n ln lt)))
          (in_space v (entry es n) few lt (h.table.owners n ln) (h.table.copying n ln) (s.state lt) (s.head lt)))
    ]

-- ---- so the current copy is told

pub current_told : (e e' : Entry) → IsTold e e' → current e' ≡ current e
current_told e e' t = elim (below_or_not e.stage 2) [
  | inl lt ↦ when_old e' (t.young lt) ∙ ap Volatile (t.at lt) ∙ sym (when_old e lt)
  | inr le ↦ when_copy e' (t.moved le) ∙ ap Persistent (t.line le) ∙ sym (when_copy e le)
]

pub word_told : (v : View) (e e' : Entry) (k : ℕ) → IsTold e e' → word_of v e' k ≡ word_of v e k
word_told v e e' k t = elim (below_or_not e.stage 2) [
  | inl lt ↦ word_young v e' k (t.young lt) ∙ ap (λ a. v.old (a + 3 + k)) (t.at lt) ∙ sym (word_young v e k lt)
  | inr le ↦ word_moved v e' k (t.moved le) ∙ ap (λ l. v.shown (8 * l + 1 + k)) (t.line le) ∙ sym (word_moved v e k le)
]

slot_told : (v : View) (e e' : Entry) (k : ℕ) → IsTold e e' → slot_shown v e' k ≡ slot_shown v e k
slot_told v e e' k t =
    let shows : ℕ → ℕ → Value = λ shape w.
    slot_value (v.kinds shape k) (value_of v (is_reference (v.kinds shape k)) w) in
    ap (λ s. shows s (word_of v e' k)) t.shape ∙ ap (shows e.shape) (word_told v e e' k t)

pub object_told : (classes : List ℕ) (v : View) (e e' : Entry) → IsTold e e'
    → object_of classes v e' ≡ object_of classes v e
object_told classes v e e' t =
    let make : ℕ → List Value → ObjectOf = λ s vs. record { shape = s; values = vs } in
    ap (λ s. make (slice_index classes s) (row e'.slots (slot_shown v e'))) t.shape
    ∙ ap (λ n. make (slice_index classes e.shape) (row n (slot_shown v e'))) t.slots
    ∙ ap (make (slice_index classes e.shape)) (row_same e.slots (slot_shown v e') (slot_shown v e)
    (λ k _. slot_told v e e' k t))

pub objects_are : (classes : List ℕ) (v : View) (es : List Entry) → Lies v es
    → objects_in classes v ≡ row (length es) (λ n. object_of classes v (entry es n))
unfolding objects_in
objects_are classes v es h =
    ap (λ c. row c (λ n. object_of classes v (told v n))) (sym h.long)
    ∙ row_same (length es) (λ n. object_of classes v (told v n)) (λ n. object_of classes v (entry es n))
    (λ n ln. object_told classes v (entry es n) (told v n) (told_is v es n h ln))
