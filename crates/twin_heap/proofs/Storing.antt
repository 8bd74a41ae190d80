-- A store to the current copy, and to a copied line.
use Rattle.std.proofs.Common.{◌≡◌, ◌⊎◌, inl, inr, ℕ, ◌+◌, ◌*◌, ◌/◌, ◌%◌, ◌<◌, List, length, refl, sym, ◌∙◌, ap, subst, arith}
use Rattle.std.proofs.Common.{length-set}
use Rattle.std.specs.Prelude.{Option, None, Some, slice_index, slice_set, IfSome, IsNone}
use Rattle.std.proofs.lemmas.List.{get_or-set_same, get_or-set_other}
use Rattle.ap_base.specs.declared.reference.Ref.{Ref}
use Rattle.volatile_space.specs.Spaces.{Space}
use Rattle.line_memory.specs.Memory.{Memory, shown}
use Rattle.twin_forms.specs.Table.{Entry, entry, HasCopied, line_of}
use Rattle.twin_forms.specs.Moves.{MayStore, Stored}
use Rattle.twin_forms.specs.Sights.{Marks, sight}
use Rattle.twin_forms.proofs.Led.{same_or_not, below_or_not}
use Rattle.twin_forms.proofs.Frames.{Put}
use Rattle.twin_forms.proofs.Stores.{Rest, store_moved, store_young}
use Rattle.twin_heap.specs.Here.{current, old_stored, StoresAt}
use Rattle.twin_heap.proofs.Reading.{spot_is, when_old, when_copy}

pub put : (l : List ℕ) (p w : ℕ) → p < length l → Put (λ q. slice_index l q) (λ q. slice_index (slice_set l p w) q) p w
put l p w lt = record { here = get_or-set_same l p w 0 lt; same = λ q ne. get_or-set_other l p q w 0 ne }

-- the list after a store, given by an equation
pub put_to : (l l' : List ℕ) (p w : ℕ) → l' ≡ slice_set l p w → p < length l → Put (λ q. slice_index l q) (λ q. slice_index l' q) p w
put_to l l' p w eq lt = subst (λ (x : List ℕ). Put (λ q. slice_index l q) (λ q. slice_index x q) p w) (sym eq) (put l p w lt)

-- a store to a word of the image
pub put_shown : (m m' : Memory) (p line word w : ℕ) → p ≡ 8 * line + word → word < 8 → StoresAt line word w m m' → Put (λ q. shown m (q / 8) (q % 8)) (λ q. shown m' (q / 8) (q % 8)) p w
put_shown m m' p line word w eq lt s = record {
  here = spot_is m' p line word eq lt ∙ s.here;
  same = λ q ne. s.others (q / 8) (q % 8) (λ e f. ne (omega (arith, e, f, eq)));
}

pub rest_of : (s s' : Space) (m m' : Memory) (k : Marks) → length s'.words ≡ length s.words → s'.left ≡ s.left → m'.size ≡ m.size → Rest (sight s m k) (sight s' m' k)
rest_of s s' m m' k words left size = record {
  number = λ _. refl;
  copied = λ _. refl;
  owner = λ _. refl;
  sizes = record { words = words; left = left; lines = size; marks = refl; birth = λ _. refl; count = refl; shapes = refl; room = refl; kinds = refl; kept = refl };
}

-- what copied_line tells
pub record TellsLine (e : Entry) (i : ℕ) (line : Option ℕ) : Type 0 where
  pub there : HasCopied e (line_of i) → line ≡ Some (e.line + line_of i)
  pub none : (HasCopied e (line_of i) → ⊥) → line ≡ None

pub is_copied : (e : Entry) (c : ℕ) → HasCopied e c ⊎ (HasCopied e c → ⊥)
is_copied e c = elim (below_or_not 1 e.stage) [
  | inl l ↦ inl (inl l)
  | inr le ↦ (elim (same_or_not e.stage 1) [
    | inr ne ↦ inr (λ h. elim h [ inl x ↦ omega (arith, x, le) | inr x ↦ ne x.0 ])
    | inl one ↦ (elim (below_or_not c e.copied) [ inl l ↦ inl (inr (one, l)) | inr g ↦ inr (λ h. elim h [ inl x ↦ omega (arith, x, le) | inr x ↦ omega (arith, x.1, g) ]) ])
  ])
]

pub store_is : (s s' : Space) (m m' : Memory) (k : Marks) (es : List Entry) (n r i w : ℕ) (place : Ref) (line : Option ℕ) → MayStore (sight s m k) r i w es n →
    place ≡ current (entry es n) → TellsLine (entry es n) i line → s'.words ≡ old_stored place i w s.words → s'.left ≡ s.left →
    ((l : ℕ) → line ≡ Some l → StoresAt l ((1 + i) % 8) w m m') → (line ≡ None → m' ≡ m) → Stored (sight s m k) (sight s' m' k) es n i w
store_is s s' m m' k es n r i w place line may at tells words left stored none =
    let e = entry es n in
    let h = may.lies in
    let ln = may.there in
    let v = sight s m k in
    let v' = sight s' m' k in
    elim (below_or_not e.stage 2) [
      | inr le ↦ (
          let same : s'.words ≡ s.words = words ∙ ap (λ p. old_stored p i w s.words) (at ∙ when_copy e le) in
          let st = stored (e.line + line_of i) (tells.there (inl le)) in
          store_moved v v' es n i w (8 * e.line + 1 + i) h ln may.slot may.reference
          (rest_of s s' m m' k (ap length same) left st.changes.size) le (λ q. ap (λ l. slice_index l q) same) refl
          (put_shown m m' (8 * e.line + 1 + i) (e.line + line_of i) ((1 + i) % 8) w (omega arith) (omega arith) st))
      | inl lt ↦ (
          let now : s'.words ≡ slice_set s.words (e.at + 3 + i) w = words ∙ ap (λ p. old_stored p i w s.words) (at ∙ when_old e lt) in
          let b = h.table.old_in n ln (omega (arith, lt)) in
          let li = may.slot in
          let old : Put v.old v'.old (e.at + 3 + i) w = put_to s.words s'.words (e.at + 3 + i) w now (omega (arith, b, li)) in
          let long : length s'.words ≡ length s.words = ap length now ∙ length-set s.words (e.at + 3 + i) w in
          elim (is_copied e (line_of i)) [
            | inl has ↦ (
                let st = stored (e.line + line_of i) (tells.there has) in
                let p = put_shown m m' (8 * e.line + 1 + i) (e.line + line_of i) ((1 + i) % 8) w (omega arith) (omega arith) st in
                let one : e.stage ≡ 1 = (elim has [ inl x ↦ omega (arith, x, lt) | inr x ↦ x.0 ]) in
                store_young v v' es n i w (e.at + 3 + i) h ln li may.reference (rest_of s s' m m' k long left st.changes.size) lt refl old
                (λ z. absurd (omega (arith, z, one))) (λ q ne. p.same q ne) (λ _ _. p.here))
            | inr not ↦ (
                let quiet : m' ≡ m = none (tells.none not) in
                store_young v v' es n i w (e.at + 3 + i) h ln li may.reference (rest_of s s' m m' k long left (ap (λ (x : Memory). x.size) quiet)) lt refl old
                (λ z q. ap (λ (x : Memory). shown x (q / 8) (q % 8)) quiet) (λ q ne. ap (λ (x : Memory). shown x (q / 8) (q % 8)) quiet)
                (λ one few. absurd (not (inr (one, omega (arith, few))))))
          ])
    ]

pub tells : (e : Entry) (i : ℕ) (line : Option ℕ) → IfSome line (λ l. HasCopied e (line_of i) × (l ≡ e.line + line_of i)) → (IsNone line → HasCopied e (line_of i) → ⊥) → TellsLine e i line
tells e i None a b = record { there = λ h. absurd (b refl h); none = λ _. refl }
tells e i (Some l) a b = record { there = λ _. ap Some a.1; none = λ not. absurd (not a.0) }
