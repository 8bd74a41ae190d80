-- Where the words of all objects say what they said, all objects lie where they lay.
use Rattle.std.proofs.Common.{◌≡◌, ℕ, ◌+◌, ◌*◌, ◌/◌, ◌%◌, ◌<◌, List, length, refl, sym, ◌∙◌, ap, subst, arith}
use Rattle.std.specs.Prelude.{◌^◌}
use Rattle.volatile_space.specs.Spaces.{Space}
use Rattle.line_memory.specs.Memory.{Memory, shown}
use Rattle.twin_forms.specs.Table.{Entry, entry, View, word_of, IsRef, refers, value_of, Lies}
use Rattle.twin_forms.specs.Moves.{Moved}
use Rattle.twin_forms.specs.Sights.{Marks, sight}
use Rattle.twin_forms.proofs.Frames.{Agree, SameSizes, refers_same, table_same, word_agree, sits_agree}
use Rattle.twin_forms.proofs.Elsewhere.{value_same, as_was}

pub lies_same : (v v' : View) (es : List Entry) → Lies v es → SameSizes v v' → ((m : ℕ) → m < length es → Agree v v' (entry es m)) → Lies v' es
lies_same v v' es h sizes agree = record {
  long = h.long ∙ sym sizes.count;
  marked = sizes.marks ∙ h.marked ∙ sym sizes.lines;
  few = subst (λ x. x + v'.room < 2 ^ 32) (sym sizes.count) (subst (λ x. v.count + x < 2 ^ 32) (sym sizes.room) h.few);
  roomy = subst (λ x. x < 3 * v'.room + 3) (sym sizes.left) (subst (λ x. v.left < 3 * x + 3) (sym sizes.room) h.roomy);
  births = record { old = λ m lm s. sizes.birth m ∙ h.births.old m lm s; copy = λ m lm s. sizes.birth m ∙ h.births.copy m lm s };
  table = table_same v v' es sizes h.table;
  sits = λ m lm. sits_agree v v' m (entry es m) (agree m lm) (h.sits m lm);
  refs = λ m k lm r lk. subst (IsRef es) (sym (word_agree v v' (entry es m) k (agree m lm) lk)) (h.refs m k lm (sym (refers_same v v' (entry es m) k sizes) ∙ r) lk);
}

pub same_heap : (v v' : View) (es : List Entry) → Lies v es → SameSizes v v' → ((m : ℕ) → m < length es → Agree v v' (entry es m)) → Moved v es v' es
same_heap v v' es h sizes agree = let lies = lies_same v v' es h sizes agree in record {
  lies = lies;
  same = record {
    long = refl;
    shapes = λ m lm. refl;
    slots = λ m lm. refl;
    led = λ m x lm a. a;
    same = λ m k lm lk. ap (λ r. value_of v' r (word_of v' (entry es m) k)) (refers_same v v' (entry es m) k sizes) ∙
        value_same v v' es es (refers v (entry es m) k) (word_of v (entry es m) k) (word_of v' (entry es m) k) h lies
        (omega arith) (λ n x ln a. a) (λ r. h.refs m k lm r lk)
        (as_was (word_agree v v' (entry es m) k (agree m lm) lk));
    kept = sizes.kept;
  };
}

-- A memory that shows the same in each line shows the same heap.
pub still_shows : (space : Space) (m m' : Memory) (marks : Marks) (es : List Entry) → m'.size ≡ m.size → ((l w : ℕ) → l < m.size → shown m' l w ≡ shown m l w) →
    Lies (sight space m marks) es → Moved (sight space m marks) es (sight space m' marks) es
still_shows space m m' marks es size same h = same_heap (sight space m marks) (sight space m' marks) es h
    (record { words = refl; left = refl; lines = size; marks = refl; birth = λ _. refl; count = refl; shapes = refl; room = refl; kinds = refl; kept = refl })
    (λ n ln. record {
      old = λ _ _ _. refl;
      shown = λ s j lj. let c = h.table.copy_in n ln s in same ((8 * (entry es n).line + j) / 8) ((8 * (entry es n).line + j) % 8) (omega (arith, c, lj));
      number = λ _. refl;
      copied = λ _. refl;
      owner = λ _. refl;
    })
