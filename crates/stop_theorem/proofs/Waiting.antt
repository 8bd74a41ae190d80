-- A thread's line was written back since its store: a fence will keep it.
use Rattle.std.proofs.Common.{◌≡◌, ◌⊎◌, inl, inr, ⊎_elim, ℕ, ◌<◌, Option, Some, None, sym, ◌∙◌, subst}
use Rattle.std.proofs.lemmas.Bool.{cases_Bool}
use Rattle.ap_base.specs.declared.place.Place.{Place}
use Rattle.graph_model.specs.declared.types.Heap.{Heap}
use Rattle.graph_model.specs.Heaps.{value_at, place_is}
use Rattle.line_image.specs.Trace.{Trace, MayLeave}
use Rattle.line_memory.specs.Memory.{Memory, shown, ReadsWord, CanLeave, IsWritten}
use Rattle.image_meaning.specs.Corresponds.{Holds}
use Rattle.image_meaning.proofs.Recovering.{some_or}
use Rattle.run_history.specs.Knowing.{Knowledge, unfenced_at}
use Rattle.stop_theorem.specs.Choices.{Threads, MayHave, with_thread}
use Rattle.stop_theorem.proofs.Own.{singles_are_placed}
use Rattle.stop_theorem.proofs.Having.{having_whole, having_with}
use Rattle.stop_theorem.proofs.Joint.{same_place}
use Rattle.stop_theorem.specs.Layouts.{Layout, Lies, place_line, place_word, place_kind}
use Rattle.stop_theorem.specs.Stops.{regions_of, named_in, keeps_of, Stands}
use Rattle.stop_theorem.proofs.Stored.{place_lies, not_log, put_back_plain}
use Rattle.stop_theorem.proofs.Held.{shown_holds}

-- what is written back as it is shown, a stop leaves so after a fence
written_left : (m : Memory) (l w v : ℕ) → IsWritten m l w → CanLeave m l w v
    → (v ≡ shown m l w) ⊎ ReadsWord m.image.trace l w v → v ≡ shown m l w
written_left m l w v written can (inl is) = is
written_left m l w v written can (inr read) = by_history m.image.trace written can read
  where
    by_history : (o : Option Trace) → ReadsWord o l w (shown m l w) → (v ≡ shown m l w) ⊎ MayLeave o l w v
        → ReadsWord o l w v → v ≡ shown m l w
    by_history None written can read = ⊎_elim (λ (e : v ≡ shown m l w). e)
        (λ (no : MayLeave None l w v). absurd no) can
    by_history (Some h) written can read = read ∙ sym written

-- Thread t's line was written back: from now on t waits for a fence. Its single store is at p.
pub stands_waits : (first : Heap) (known : Knowledge) (lay : Layout) (Waits : Threads) (m : Memory) (t : ℕ)
    (p : Place)
    → unfenced_at known.unfenced t ≡ Some p
    → place_line lay known.world.heap p < m.size
    → IsWritten m (place_line lay known.world.heap p) (place_word known.world.heap p)
    → Stands first known lay Waits m → Stands first known lay (with_thread t Waits) m
stands_waits first known lay Waits m t p placed inside written s = record {
  orderly = s.orderly;
  size = s.size;
  roots = s.roots;
  shows = s.shows;
  heads = s.heads;
  apart = s.apart;
  no_heads = s.no_heads;
  leaves = s.leaves;
  fenced = λ c left after.
      let covered = s.fenced c left after in
      record {
        opens = covered.opens;
        heads = covered.heads;
        unused = covered.unused;
        named = covered.named;
        free = covered.free;
        places = λ q kept.
            let at = covered.places q kept in
            let line = place_line lay known.world.heap q in
            let word = place_word known.world.heap q in
            elim (some_or (named_in c line word)) [
              | inr some ↦ record {
                value = at.value;
                holds = at.holds;
                has = subst (λ (o : Option ℕ). MayHave first known.marks (regions_of c)
                    (keeps_of (with_thread t Waits) o) q at.value) (sym some.1)
                    (subst (λ (o : Option ℕ). MayHave first known.marks (regions_of c)
                    (keeps_of Waits o) q at.value) some.1 at.has);
              }
              | inl none ↦ elim (cases_Bool (place_is p q)) [
                | inr other ↦ record {
                  value = at.value;
                  holds = at.holds;
                  has = subst (λ (o : Option ℕ). MayHave first known.marks (regions_of c)
                      (keeps_of (with_thread t Waits) o) q at.value) (sym none)
                      (having_with first known.marks (regions_of c) Waits q at.value t s.orderly.lost
                      (singles_are_placed first known t p q s.orderly placed other)
                      (subst (λ (o : Option ℕ). MayHave first known.marks (regions_of c)
                      (keeps_of Waits o) q at.value) none at.has));
                }
                | inl same ↦ (
                    let e : p ≡ q = same_place p q same in
                    let is : c line word ≡ shown m line word =
                    written_left m line word (c line word)
                    (subst (λ (x : Place). IsWritten m (place_line lay known.world.heap x)
                    (place_word known.world.heap x)) e written) (left line word)
                    (after line word (subst
                    (λ (x : Place). place_line lay known.world.heap x < m.size) e inside)) in
                    let plain = put_back_plain c line word (not_log line word
                    (place_lies first known lay Waits m s q kept)) none ∙ is in
                    record {
                      value = value_at known.world.heap q;
                      holds = subst (λ x. Holds (Lies lay known) (place_kind known.world.heap q) x
                          (value_at known.world.heap q)) (sym plain)
                          (shown_holds first known lay Waits m s q kept);
                      has = subst (λ (h : Heap). MayHave first known.marks (regions_of c)
                          (keeps_of (with_thread t Waits) (named_in c line word)) q (value_at h q))
                          (sym s.orderly.heap)
                          (having_whole first known.marks (regions_of c)
                          (keeps_of (with_thread t Waits) (named_in c line word)) q s.orderly.lost
                          (covered.free q kept none));
                    })
              ]
            ];
      };
}
