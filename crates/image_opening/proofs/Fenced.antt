-- An image that was attached and then fenced.
use Rattle.std.proofs.Common.{◌≡◌, ◌⊎◌, inl, inr, ⊎_elim, ℕ, ◌<◌, [], Option, Some, None, get_or, sym, ap, ◌∙◌, subst, arith}
use Rattle.line_image.specs.Told.{Told}
use Rattle.line_image.specs.Trace.{LeavesNow, MayLeave, Trace, read_word, trace_within}
use Rattle.line_image.proofs.Versions.{newest_left}
use Rattle.line_memory.specs.Attached.{Attaches}
use Rattle.line_memory.specs.Memory.{DidNothing, IsDurable, IsResident, IsTelling, IsWritten, Memory, OneCall, ReadsWord, shown}
use Rattle.line_memory.specs.Moments.{Goes, KeepsShown}
use Rattle.line_memory.proofs.Chain.{counts_on, goes_on}
use Rattle.word_changes.specs.Changes.{AllKnown, Tells}
use Rattle.image_recovery.specs.Putting.{AllDurable, AllWritten}
use Rattle.image_opening.specs.declared.not_opened.NotOpened.TheVariants.{ImageFailed}
use Rattle.image_opening.specs.Attached.{IsAttached}
use Rattle.image_opening.specs.Unopened.{IsUnattached}

-- ---- the fence behind the reads

module _ (start : Told) (faults : ℕ) (m n : Memory) (at : Attaches start faults m) (keeps : KeepsShown m n)
    (one : OneCall m n) (within : Goes m.image n.image (LeavesNow m.image.trace))
    (resident : (o : Memory) (l : ℕ) → l < o.size → IsResident o l) where
  known : AllKnown n
  known l below = inl (resident n l below)

  same_word : (l w : ℕ) → l < m.size → shown n l w ≡ shown m l w
  same_word l w below =
      let grown = keeps.size in
      keeps.shows l w (at.known l below) (known l (omega (arith, below, grown)))

  -- a stop within the reads, or within the fence, left what one at the start would have
  moments : Goes start n.image (LeavesNow start.trace)
  moments =
      goes_on start m.image n.image (LeavesNow start.trace) (LeavesNow m.image.trace) (LeavesNow start.trace)
      at.any_moment within (λ c all. all) (λ c all. subst (λ (o : Option Trace). LeavesNow o c) at.trace all)

  pub is_attached : ((l w : ℕ) → IsWritten m l w → IsDurable n l w) → IsAttached start n
  is_attached durable = record {
    size = keeps.size ∙ at.size;
    enough = let enough = at.range.0 in let grown = keeps.size in omega (arith, enough, grown);
    most = let most = at.range.1 in let grown = keeps.size in omega (arith, most, grown);
    known = known;
    shows = λ l w below.
        let sized = at.size in
        let there : l < m.size = omega (arith, below, sized) in
        subst (λ (v : ℕ). ReadsWord start.trace l w v) (sym (same_word l w there)) (at.shows l w there);
    counts = counts_on start.calls m n at.counts one;
    calls =
        let first = at.calls in let most = at.range.1 in let sized = at.size in let next = one.calls in
        omega (arith, first, most, sized, next);
    moments = moments;
    telling = λ tells. keeps.telling (subst IsTelling (sym at.trace) tells);
    durable = λ tells l w below.
        let grown = keeps.size in
        durable l w (subst (λ (o : Option Trace). ReadsWord o l w (shown m l w)) (sym at.trace)
        (at.shows l w (omega (arith, below, grown))));
  }

  -- a fence that failed isn't made
  pub is_unfenced : (after : Told) → after.size ≡ n.size → after ≡ n.image → DidNothing m n
      → IsUnattached start after ImageFailed
  is_unfenced after sized told nothing = record {
    size = sized ∙ keeps.size ∙ at.size;
    trace = ap (λ (t : Told). t.trace) told ∙ nothing ∙ at.trace;
    moments = subst (λ (t : Told). Goes start t (LeavesNow start.trace)) (sym told) moments;
    cause = tt;
    sized = λ wrong.
        let range = at.range in let same = at.size in
        absurd (⊎_elim (λ few. omega (arith, few, range.0, same)) (λ many. omega (arith, many, range.1, same))
        wrong);
  }

-- ---- an image that tells nothing

pub tells_or_not : (o : Option Trace) → IsTelling o ⊎ (¬ IsTelling o)
tells_or_not None = inr (λ tells. tells)
tells_or_not (Some h) = inl tt

leaves_nothing : (o : Option Trace) (l w v : ℕ) → ¬ IsTelling o → ¬ MayLeave o l w v
leaves_nothing None l w v silent may = may
leaves_nothing (Some h) l w v silent may = silent tt

-- each of its words is durable
pub silent_durable : (m : Memory) → ¬ Tells m → AllDurable m
silent_durable m silent l w below v left =
    ⊎_elim (λ is. is) (λ may. absurd (leaves_nothing m.image.trace l w v silent may)) left

-- an image that tells something told it before
told_before : (o p : Option Trace) → trace_within 0 p ≡ trace_within 0 o → IsTelling p → IsTelling o
told_before None None same tells = tells
told_before None (Some k) same tells = absurd cc
told_before (Some h) p same tells = tt

-- ---- each word is durable and written back

-- what a read gives can be left, so nothing else is read than what alone is left
reads_shown : (o : Option Trace) (l w v : ℕ) → ((x : ℕ) → MayLeave o l w x → x ≡ v) → ReadsWord o l w v
reads_shown None l w v only = tt
reads_shown (Some h) l w v only =
    sym (only (read_word h l w) (newest_left (get_or h.first l []) h.done l w))

module _ (start : Told) (m : Memory) (at : IsAttached start m) where
  pub attached_told : Tells m → IsTelling start.trace
  attached_told tells =
      told_before start.trace m.image.trace (at.moments.before 0 (omega arith) (omega arith)) tells

  pub attached_durable : AllDurable m
  attached_durable = ⊎_elim (λ tells. at.durable (attached_told tells)) (λ silent. silent_durable m silent)
      (tells_or_not m.image.trace)

  pub attached_written : AllWritten m
  attached_written l w below = reads_shown m.image.trace l w (shown m l w)
      (λ x may. attached_durable l w below x (inr may))
