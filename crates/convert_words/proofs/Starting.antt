-- Where nobody has claimed anything yet, heap and queues agree.
use Rattle.std.proofs.Common.{◌≡◌, inl, inr, ℕ, ◌+◌, ◌<◌, ◌≤◌, false, List, [], length, sym, ◌∙◌, ap, arith}
use Rattle.std.proofs.lemmas.Bool.{false≢true}
use Rattle.twin_forms.specs.Table.{Entry, entry, View, Lies, lines_of, IsClaimed}
use Rattle.convert_queue.specs.Marks.{Mark, clean, stored, written, mark_at}
use Rattle.convert_queue.specs.Queues.{Queues, queue_of, total}
use Rattle.convert_queue.specs.Threads.{needs_of}
use Rattle.convert_words.specs.Agreeing.{HaveSizes, Agrees}

abbrev sort : Mark → ℕ
sort clean = 0
sort (stored t) = 1
sort (written t) = 2

pub starts : (v : View) (held : ℕ → ℕ → Type 0) (back : ℕ → Type 0) (q : Queues) (free : ℕ) (keys : ℕ → Type 0) (es : List Entry) →
    Lies v es → HaveSizes q v.lines → ((t : ℕ) → queue_of q t ≡ []) → ((t u : ℕ) → needs_of q.needs t u ≡ false) → ((l : ℕ) → mark_at q.marks l ≡ clean) → total q.queues ≡ 0 → 0 < free →
    ((n : ℕ) → n < length es → 0 < (entry es n).stage → (entry es n).line + lines_of (entry es n) ≤ free) → ((n : ℕ) → n < length es → (entry es n).owner ≡ 0) → ((w : ℕ) → keys w → ⊥) →
    Agrees v held back q free keys es
starts v held back q free keys es lies sizes empty nobody marks count some below owners unheld = record {
  lies = lies;
  sizes = sizes;
  queued = record {
    there = λ t i lt. absurd (past t i lt);
    all = λ t n c. absurd (unclaimed t n c);
    once = λ t i j n x y. absurd (unclaimed t n x.claimed);
  };
  on_way = λ t i n is. absurd (unclaimed t n is.claimed);
  noted = λ t l noted. absurd (elim noted [
    | inl x ↦ (let e : 0 ≡ 1 = ap sort (sym (marks l) ∙ x) in omega (arith, e))
    | inr x ↦ (let e : 0 ≡ 2 = ap sort (sym (marks l) ∙ x) in omega (arith, e))
  ]);
  real = λ t u lt lu need. absurd (false≢true (sym (nobody t u) ∙ need));
  below = below;
  few = omega (arith, count, some);
  resolved = λ w key. absurd (unheld w key);
}
  where
    past : (t i : ℕ) → i < length (queue_of q t) → ⊥
    past t i lt = let e : length (queue_of q t) ≡ 0 = ap length (empty t) in omega (arith, e, lt)

    unclaimed : (t n : ℕ) → IsClaimed es t n → ⊥
    unclaimed t n c = let o = c.1 in let z = owners n c.0 in omega (arith, o, z)
