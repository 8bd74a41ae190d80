-- The objects of an image that is opened lie as their heads tell.
use Rattle.std.proofs.Common.{◌≡◌, ◌≢◌, inl, inr, ℕ, zero, suc, ◌+◌, ◌*◌, ◌/◌, ◌%◌, ◌<◌, ◌≤◌, ◌^◌, true, List, [], ◌∷◌, length}
use Rattle.std.proofs.Common.{refl, sym, ◌∙◌, ap, subst, arith}
use Rattle.std.specs.Prelude.{slice_index}
use Rattle.volatile_space.specs.Spaces.{Space}
use Rattle.line_memory.specs.Memory.{Memory, shown}
use Rattle.twin_forms.specs.declared.kinds.ShapeKinds.{ShapeKinds}
use Rattle.twin_forms.specs.Table.{Entry, entry, Lies, Sits, Apart, Names, IsRef, is_reference, refers, word_of, line_of}
use Rattle.twin_forms.specs.Sights.{Marks, sight, slot_kind}
use Rattle.twin_forms.proofs.Led.{word_moved}
use Rattle.twin_heap.specs.Here.{opened, opening, IsOpening, Begins}
use Rattle.twin_heap.proofs.Reading.{spot_is}

pub opening_long : (m : Memory) (lines : List ℕ) → length (opening m lines) ≡ length lines
opening_long m [] = refl
opening_long m (l ∷ lines) = ap (λ n. suc n) (opening_long m lines)

pub opening_at : (m : Memory) (lines : List ℕ) (n : ℕ) → n < length lines → entry (opening m lines) n ≡ opened m (slice_index lines n)
opening_at m [] n lt = absurd (omega (arith, lt))
opening_at m (l ∷ lines) zero lt = refl
opening_at m (l ∷ lines) (suc n) lt = opening_at m lines n (omega (arith, lt))

by_opening : (P : ℕ → Entry → Type 0) (m : Memory) (lines : List ℕ) →
    ((n : ℕ) → n < length lines → P n (opened m (slice_index lines n))) → (n : ℕ) → n < length (opening m lines) → P n
    (entry (opening m lines) n)
by_opening P m lines f n ln = let lt : n < length lines = subst (λ x. n < x) (opening_long m lines) ln in subst (P n) (sym (opening_at m lines n lt)) (f n lt)

pub opens_is : (s : Space) (m : Memory) (k : Marks) (kinds : List ShapeKinds) (lines : List ℕ) (room : ℕ) → s.words ≡ [] →
    IsOpening m kinds lines → Begins kinds lines m.size room k → length lines + room < 2 ^ 32 → s.left < 3 * room + 3 →
    Lies (sight s m k) (opening m lines)
opens_is s m k kinds lines room empty o b few left =
    let es = opening m lines in
    let long = opening_long m lines in
    let v = sight s m k in
    let kind_same : (e : Entry) (i : ℕ) → refers v e i ≡ is_reference (slot_kind kinds e.shape i) = λ e i. ap (λ (x : List ShapeKinds). is_reference (slot_kind x e.shape i)) b.kinds_are in
    let none : length s.words ≡ 0 = ap length empty in
    record {
      long = long ∙ sym b.count;
      marked = b.marked;
      few = omega (arith, b.count, b.room_is, few);
      roomy = omega (arith, b.room_is, left);
      births = record {
        old = by_opening (λ n e. e.stage < 3 → v.birth n ≡ 2 * e.at + 1) m lines (λ n ln st. absurd (omega (arith, st)));
        copy = by_opening (λ n e. e.stage ≡ 3 → v.birth n ≡ 2 * e.line) m lines (λ n ln st. b.births n ln);
      };
      table = record {
        few_words = omega (arith, none);
        few_lines = o.few_lines;
        few_shapes = subst (λ (x : List ShapeKinds). length x ≤ 2 ^ 32) (sym b.kinds_are) o.few_shapes;
        stages = by_opening (λ n e. e.stage ≤ 3) m lines (λ n ln. omega arith);
        owners = by_opening (λ n e. e.owner ≤ 64) m lines (λ n ln. omega arith);
        copying = by_opening (λ n e. e.stage ≡ 1 → 0 < e.owner) m lines (λ n ln st. absurd (omega (arith, st)));
        born = by_opening (λ n e. e.stage ≡ 3 → e.owner ≡ 0) m lines (λ n ln st. refl);
        shape_in = by_opening (λ n e. e.shape < length k.kinds) m lines
            (λ n ln. subst (λ (x : List ShapeKinds). (opened m (slice_index lines n)).shape < length x) (sym b.kinds_are)
            (o.shape_in n ln));
        few_slots = by_opening (λ n e. e.slots < 2 ^ 31) m lines o.few_slots;
        old_in = by_opening (λ n e. e.stage < 3 → e.at + 3 + e.slots ≤ length s.words) m lines (λ n ln st. absurd (omega (arith, st)));
        copy_in = by_opening (λ n e. 0 < e.stage → (0 < e.line) × (e.line + e.slots / 8 + 1 ≤ m.size)) m lines (λ n ln st. o.within n ln);
        old_apart = λ x y lx ly. by_opening
            (λ x e. x ≢ y → e.stage < 3 → (entry es y).stage < 3 → Apart e.at (e.slots + 3) (entry es y).at
            ((entry es y).slots + 3)) m lines (λ n ln ne st _. absurd (omega (arith, st))) x lx;
        copy_apart = λ x y lx ly. by_opening (λ x e. x ≢ y → 0 < e.stage → 0 < (entry es y).stage → Apart e.line (e.slots / 8 + 1) (entry es y).line ((entry es y).slots / 8 + 1)) m lines
            (λ x lx. by_opening (λ y e. x ≢ y → 0 < 3 → 0 < e.stage → Apart (slice_index lines x) ((opened m (slice_index lines x)).slots / 8 + 1) e.line (e.slots / 8 + 1)) m lines
            (λ y ly ne _ _. o.apart x y lx ly ne) y ly) x lx;
      };
      sits = by_opening (λ n e. Sits v n e) m lines (λ n ln.
          let l = slice_index lines n in record {
            state = λ st. absurd (omega (arith, st));
            head = λ st. absurd (omega (arith, st));
            number = λ st. absurd (omega (arith, st));
            copy_number = λ _. b.numbers n ln;
            copy_owner = λ _. b.owners l;
            copy_head = λ _. spot_is m (8 * l) l 0 (omega arith) (omega arith) ∙ omega arith;
            count = λ st. absurd (omega (arith, st));
            mirrored_head = λ st _. absurd (omega (arith, st));
            mirrored = λ i st _ _. absurd (omega (arith, st));
          });
      refs = λ n i ln. by_opening (λ n e. refers v e i ≡ true → i < e.slots → IsRef es (word_of v e i)) m lines
          (λ n ln r li.
          let e = opened m (slice_index lines n) in
          let word : word_of v e i ≡ shown m (slice_index lines n + line_of i) ((1 + i) % 8) =
          word_moved v e i (omega arith) ∙ spot_is m (8 * slice_index lines n + 1 + i) (slice_index lines n + line_of i) ((1 + i) % 8) (omega arith) (omega arith) in
          elim (o.refs n i ln (sym (kind_same e i) ∙ r) li) [
            | inl z ↦ inl (word ∙ z)
            | inr x ↦ (let w = o.within x.0 x.1 in inr (
              x.0,
              omega (arith, long, x.1),
              subst (λ y. Names y (word_of v e i)) (sym (opening_at m lines x.0 x.1))
                  (inr (omega arith, word ∙ x.2, omega (arith, word, x.2, w))),
            ))
          ]) n ln;
    }
