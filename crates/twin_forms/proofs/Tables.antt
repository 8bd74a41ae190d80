-- Two tables of one heap say the same of each reference.
use Rattle.std.proofs.Common.{◌≡◌, ◌⊎◌, inl, inr, ℕ, ◌+◌, ◌*◌, ◌/◌, ◌%◌, ◌<◌, ◌≤◌, List, length, sym, ◌∙◌, ap, arith}
use Rattle.std.proofs.lemmas.Grind.{common_steps}
use Rattle.std.specs.Prelude.{◌-◌, ◌^◌}
use Rattle.object_header.specs.States.{header_word}
use Rattle.twin_forms.specs.Table.{Entry, entry, View, state_word, head_word, refers, word_of, Names, IsRef, Lies, value_of}
use Rattle.twin_forms.specs.Table.{shows}
use Rattle.twin_forms.proofs.Led.{same_or_not, word_young, word_moved}
use Rattle.twin_forms.proofs.States.{is_ordinary, is_claimed, is_copying, is_converted, is_durable, cases, when_ordinary}
use Rattle.twin_forms.proofs.States.{when_claimed, when_copying, when_converted, when_durable}

-- what counts of an entry is told by the words
pub record Alike (e e' : Entry) : Type 0 where
  pub stage : e'.stage ≡ e.stage
  pub owner : e'.owner ≡ e.owner
  pub at : e.stage < 3 → e'.at ≡ e.at
  pub line : 0 < e.stage → e'.line ≡ e.line
  pub slots : e'.slots ≡ e.slots
  pub shape : e'.shape ≡ e.shape

below : (a : ℕ) → (a < 2) ⊎ (2 ≤ a)
below a = grind (arith, common_steps)

heads_alike : (h : ℕ) (e e' : Entry) → e.shape < 2 ^ 32 → e'.shape < 2 ^ 32 → h ≡ head_word e → h ≡ head_word e' → (e'.slots ≡ e.slots) × (e'.shape ≡ e.shape)
heads_alike h e e' a b x y = (omega (arith, a, b, x, y), omega (arith, a, b, x, y))

-- what a state's word tells of the entry
abbrev kind_of : Entry → ℕ → Type 0
kind_of e w = ((w % 8 ≡ 0) × (e.stage ≡ 0) × (e.owner ≡ 0))
    ⊎ (((w % 8 ≡ 1) × (e.stage ≡ 0) × (e.owner ≡ w / 8 % 64 + 1))
    ⊎ (((w % 8 ≡ 2) × (e.stage ≡ 1) × (e.owner ≡ w / 8 % 64 + 1) × (e.line ≡ w / 4294967296))
    ⊎ (((w % 8 ≡ 3) × (e.stage ≡ 2) × (e.owner ≡ w / 8 % 64 + 1) × (e.line ≡ w / 4294967296))
    ⊎ ((w % 8 ≡ 4) × (e.stage ≡ 2) × (e.owner ≡ 0) × (e.line ≡ w / 4294967296)))))

pub parts : (e : Entry) (w : ℕ) → e.stage < 3 → e.owner ≤ 64 → (e.stage ≡ 1 → 0 < e.owner) → w ≡ state_word e → kind_of e w
parts e w lt most some eq = elim (cases e lt) [
  | is_ordinary s o ↦ (let x : w ≡ 0 = eq ∙ ap header_word (when_ordinary e s o) in inl (omega (arith, x), s, o))
  | is_claimed s o ↦ (let x : w ≡ 1 + 8 * (e.owner - 1) = eq ∙ ap header_word (when_claimed e s o) in inr (inl (omega (arith, x), s, omega (arith, x, o, most))))
  | is_copying s ↦ (let o = some s in let x : w ≡ 2 + 8 * (e.owner - 1) + 4294967296 * e.line = eq ∙ ap header_word
      (when_copying e s) in inr (inr (inl (omega (arith, x), s, omega (arith, x, o, most), omega (arith, x, o, most)))))
  | is_converted s o ↦ (let x : w ≡ 3 + 8 * (e.owner - 1) + 4294967296 * e.line = eq ∙ ap header_word
      (when_converted e s o) in inr
      (inr (inr (inl (omega (arith, x), s, omega (arith, x, o, most), omega (arith, x, o, most))))))
  | is_durable s o ↦ (let x : w ≡ 4 + 4294967296 * e.line = eq ∙ ap header_word (when_durable e s o) in inr (inr (inr (inr (omega (arith, x), s, o, omega (arith, x))))))
]

states_alike : (e e' : Entry) (w : ℕ) → kind_of e w → kind_of e' w → (e'.stage ≡ e.stage) × (e'.owner ≡ e.owner) × (0 < e.stage → e'.line ≡ e.line)
states_alike e e' w a b = (grind (arith, common_steps, a, b), grind (arith, common_steps, a, b), λ p. grind (arith, common_steps, a, b))

pub alike : (v : View) (es es' : List Entry) (n : ℕ) → Lies v es → Lies v es' → n < length es → Alike (entry es n) (entry es' n)
alike v es es' n h k ln =
    let ln' : n < length es' = omega (arith, h.long, k.long) in
    let e = entry es n in
    let e' = entry es' n in
    let a = h.sits n ln in
    let b = k.sits n ln' in
    let s3 = h.table.stages n ln in
    let s3' = k.table.stages n ln' in
    let f = h.table.shape_in n ln in
    let f' = k.table.shape_in n ln' in
    let few : (entry es n).shape < 2 ^ 32 = omega (arith, f, h.table.few_shapes) in
    let few' : (entry es' n).shape < 2 ^ 32 = omega (arith, f', k.table.few_shapes) in
    elim (same_or_not e.stage 3) [
      | inl three ↦
          (let x = h.births.copy n ln three in
          let three' : (entry es' n).stage ≡ 3 =
          (elim (same_or_not (entry es' n).stage 3) [
            | inl y ↦ y
            | inr ne ↦ (let y = k.births.old n ln' (omega (arith, ne, s3')) in absurd (omega (arith, x, y)))
          ]) in
          let y = k.births.copy n ln' three' in
          let line : (entry es' n).line ≡ (entry es n).line = omega (arith, x, y) in
          let head = heads_alike (v.shown (8 * (entry es n).line)) e e' few few' (a.copy_head (omega (arith, three))) (ap (λ l. v.shown (8 * l)) (sym line) ∙ b.copy_head (omega (arith, three'))) in
          record {
            stage = three' ∙ sym three;
            owner = k.table.born n ln' three' ∙ sym (h.table.born n ln three);
            at = λ
                lt. absurd (omega (arith, lt, three));
            line = λ _. line;
            slots = head.0;
            shape = head.1;
          })
      | inr ne ↦
          (let lt : (entry es n).stage < 3 = omega (arith, ne, s3) in
          let x = h.births.old n ln lt in
          let lt' : (entry es' n).stage < 3 =
          (elim (same_or_not (entry es' n).stage 3) [
            | inl y ↦ (let z = k.births.copy n ln' y in absurd (omega (arith, x, z)))
            | inr ne ↦ omega (arith, ne, s3')
          ]) in
          let y = k.births.old n ln' lt' in
          let at : (entry es' n).at ≡ (entry es n).at = omega (arith, x, y) in
          let same = states_alike (entry es n) (entry es' n) (v.old (entry es n).at)
          (parts (entry es n) (v.old (entry es n).at) lt (h.table.owners n ln) (h.table.copying n ln) (a.state lt))
          (parts (entry es' n) (v.old (entry es n).at) lt' (k.table.owners n ln') (k.table.copying n ln') (ap v.old (sym at) ∙ b.state lt')) in
          let head = heads_alike (v.old ((entry es n).at + 1)) e e' few few' (a.head lt) (ap (λ l. v.old (l + 1)) (sym at) ∙ b.head lt') in
          record { stage = same.0; owner = same.1; at = λ _. at; line = same.2; slots = head.0; shape = head.1 })
    ]

pub names_alike : (e e' : Entry) (w : ℕ) → Alike e e' → Names e w → Names e' w
names_alike e e' w a (inl s) = inl (omega (arith, a.stage, s.0), omega (arith, s.1, a.at s.0))
names_alike e e' w a (inr s) = let l = a.line (omega (arith, s.0)) in inr (omega (arith, a.stage, s.0), omega (arith, s.1, l), s.2)

pub ref_alike : (v : View) (es es' : List Entry) (w : ℕ) → Lies v es → Lies v es' → IsRef es w → IsRef es' w
ref_alike v es es' w h k (inl z) = inl z
ref_alike v es es' w h k (inr x) = inr (x.0, omega (arith, x.1, h.long, k.long), names_alike (entry es x.0) (entry es' x.0) w (alike v es es' x.0 h k x.1) x.2)

pub word_alike : (v : View) (e e' : Entry) (k : ℕ) → Alike e e' → word_of v e' k ≡ word_of v e k
word_alike v e e' k a = elim (below e.stage) [
  | inl l ↦ word_young v e' k (omega (arith, a.stage, l)) ∙ ap (λ x. v.old (x + 3 + k)) (a.at (omega (arith, l))) ∙ sym (word_young v e k l)
  | inr l ↦ word_moved v e' k (omega (arith, a.stage, l)) ∙ ap (λ x. v.shown (8 * x + 1 + k)) (a.line (omega (arith, l))) ∙ sym (word_moved v e k l)
]

pub refers_alike : (v : View) (e e' : Entry) (k : ℕ) → Alike e e' → refers v e' k ≡ refers v e k
refers_alike v e e' k a = ap (λ s. refers v (record e { shape = s }) k) a.shape

pub shows_alike : (v : View) (es es' : List Entry) (n k : ℕ) → Lies v es → Lies v es' → n < length es → shows v es' n k ≡ shows v es n k
shows_alike v es es' n k h h' ln =
    let a = alike v es es' n h h' ln in
    ap (λ w. value_of v (refers v (entry es' n) k) w) (word_alike v (entry es n) (entry es' n) k a) ∙ ap (λ r. value_of v r (word_of v (entry es n) k)) (refers_alike v (entry es n) (entry es' n) k a)
