-- What calls on a heap and its memory say of the words.
use Rattle.std.proofs.Common.{◌≡◌, ℕ, ◌+◌, ◌*◌, ◌/◌, ◌%◌, ◌<◌, List, refl, sym, ◌∙◌, ap, subst, arith, ◌⊎◌, inl, inr, ◌≤◌}
use Rattle.std.proofs.Common.{length}
use Rattle.ap_base.specs.declared.kind.Kind.{Kind}
use Rattle.std.specs.Prelude.{Option}
use Rattle.line_memory.specs.Memory.{Memory, shown, CanLeave, IsWritten, ReadsWord}
use Rattle.line_memory.specs.Moments.{KeepsShown}
use Rattle.line_image.specs.Told.{Told}
use Rattle.twin_forms.specs.Table.{Entry, View, Lies, lines_of, entry}
use Rattle.twin_forms.specs.Moves.{Moved, ChangesLine}
use Rattle.twin_forms.specs.Sights.{Twin, Marks, view_of, held_of, written_of, AllKnown, slot_kind}
use Rattle.twin_forms.proofs.Quiet.{still_shows, same_heap}
use Rattle.convert_words.specs.Steps.{IsQuiet, IsOnly}

-- a word of a line
pub word_line : (l w : ℕ) → w < 8 → (8 * l + w) / 8 ≡ l
word_line l w lt = omega arith

-- a call that stores nothing
pub quiet_of : (heap : Twin) (m : Memory) → AllKnown heap.memory → AllKnown m → KeepsShown heap.memory m →
    IsQuiet (view_of heap) (view_of (record heap { memory = m })) (held_of heap.memory) (held_of m) (written_of heap.memory) (written_of m)
quiet_of heap m known known' k = record {
  lines = k.size;
  kept = refl;
  shown = λ l w lt lw no. k.shows ((8 * l + w) / 8) ((8 * l + w) % 8) (known ((8 * l + w) / 8) (omega (arith, lt, lw))) (known' ((8 * l + w) / 8) (let s = k.size in omega (arith, lt, lw, s)));
  leaves = λ l w x lt lw no left. k.leaves ((8 * l + w) / 8) ((8 * l + w) % 8) x left;
  keeps = λ l w lt lw no is. k.written ((8 * l + w) / 8) ((8 * l + w) % 8) is;
}

pub moved_of : (heap : Twin) (m : Memory) (es : List Entry) → AllKnown heap.memory → AllKnown m → KeepsShown heap.memory m
    → Lies (view_of heap) es → Moved (view_of heap) es (view_of (record heap { memory = m })) es
moved_of heap m es known known' k h = still_shows heap.space heap.memory m heap.marks es k.size
    (λ l w lt. k.shows l w (known l lt) (known' l (let s = k.size in omega (arith, lt, s)))) h

-- the same memory
pub quiet_same : (old new : Twin) → new.memory ≡ old.memory → (view_of new).kept ≡ (view_of old).kept → IsQuiet
    (view_of old) (view_of new) (held_of old.memory) (held_of new.memory) (written_of old.memory) (written_of new.memory)
quiet_same old new same kept = record {
  lines = ap (λ (m : Memory). m.size) same;
  kept = kept;
  shown = λ l w lt lw no. ap (λ (m : Memory). shown m ((8 * l + w) / 8) ((8 * l + w) % 8)) same;
  leaves = λ l w x lt lw no left. subst (λ (m : Memory). CanLeave m ((8 * l + w) / 8) ((8 * l + w) % 8) x) same left;
  keeps = λ l w lt lw no is. subst (λ (m : Memory). IsWritten m ((8 * l + w) / 8) ((8 * l + w) % 8)) (sym same) is;
}

-- a store to a line
pub only_of : (old new : Twin) (line : ℕ) → ChangesLine line old.memory new.memory → (view_of new).kept ≡
    (view_of old).kept → IsOnly line (view_of old) (view_of new) (held_of old.memory) (held_of new.memory)
    (written_of old.memory) (written_of new.memory)
only_of old new line c kept = record {
  lines = c.size;
  kept = kept;
  shown = λ l w lt lw no. c.others ((8 * l + w) / 8) ((8 * l + w) % 8) (λ eq. no (sym (word_line l w lw) ∙ eq));
  leaves = λ l w x lt lw no left. c.leaves ((8 * l + w) / 8) ((8 * l + w) % 8) x (λ eq. no (sym (word_line l w lw) ∙ eq)) left;
  keeps = λ l w lt lw no is.
      let p = 8 * l + w in
      let still : shown new.memory (p / 8) (p % 8) ≡ shown old.memory (p / 8) (p % 8) = c.others (p / 8) (p % 8) (λ eq. no (sym (word_line l w lw) ∙ eq)) in
      subst (λ (t : Told). ReadsWord t.trace (p / 8) (p % 8) (shown new.memory (p / 8) (p % 8))) (sym c.same.image)
      (subst (ReadsWord old.memory.image.trace (p / 8) (p % 8)) (sym still) is);
}

-- the kinds are kept beside the words
abbrev kinds_in : Marks → ℕ → ℕ → Option Kind
kinds_in m shape k = slot_kind m.kinds shape k

pub kinds_of : (old new : Twin) → new.marks ≡ old.marks → (view_of new).kinds ≡ (view_of old).kinds
kinds_of old new same = ap kinds_in same

-- nothing moves
pub moved_same : (v : View) (es : List Entry) → Lies v es → Moved v es v es
moved_same v es h = record { lies = h; same = record { long = refl; shapes = λ n ln. refl; slots = λ n ln. refl; led = λ n w ln na. na; same = λ n k ln lk. refl; kept = refl } }

-- a store to a line of no object
pub moved_elsewhere : (heap : Twin) (m : Memory) (line : ℕ) (es : List Entry) → ChangesLine line heap.memory m →
    ((n : ℕ) → n < length es → 0 < (entry es n).stage → (line < (entry es n).line) ⊎ ((entry es n).line + lines_of (entry es n) ≤ line)) →
    Lies (view_of heap) es → Moved (view_of heap) es (view_of (record heap { memory = m })) es
moved_elsewhere heap m line es c apart h = same_heap (view_of heap) (view_of (record heap { memory = m })) es h
    (record { words = refl; left = refl; lines = c.size; marks = refl; birth = λ _. refl; count = refl; shapes = refl; room = refl; kinds = refl; kept = refl })
    (λ n ln. record {
      old = λ _ _ _. refl;
      shown = λ s j lj. c.others ((8 * (entry es n).line + j) / 8) ((8 * (entry es n).line + j) % 8) (λ eq. elim (apart n ln s) [ inl x ↦ omega (arith, x, eq) | inr x ↦ omega (arith, x, eq, lj) ]);
      number = λ _. refl;
      copied = λ _. refl;
      owner = λ _. refl;
    })
