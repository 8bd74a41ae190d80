-- Each kind of step as a step of a conversion.
use Rattle.std.proofs.Common.{◌≡◌, ◌≢◌, ◌⊎◌, inl, inr, ℕ, ◌+◌, ◌-◌, ◌*◌, ◌<◌, ◌≤◌, List, length, refl, sym, ap, subst, arith}
use Rattle.std.proofs.Common.{slice_set}
use Rattle.volatile_space.specs.Spaces.{Space}
use Rattle.line_memory.specs.Memory.{Memory, shown, CanLeave, SameImage, SameResident, OneCall, WroteLine, MadeFence}
use Rattle.line_memory.specs.Memory.{IsResident, IsAwaited, IsWritten, IsDurable}
use Rattle.line_memory.specs.Moments.{KeepsShown}
use Rattle.twin_forms.specs.Table.{Entry, entry, lines_of}
use Rattle.twin_forms.specs.Moves.{Moved, ChangesLine, IsRepaired, one_more, forwarded}
use Rattle.twin_forms.specs.Sights.{Twin, Marks, view_of, held_of, written_of, AllKnown}
use Rattle.convert_queue.specs.declared.phase.Phase.TheVariants.{Copy, Repair, Flush}
use Rattle.convert_queue.specs.Marks.{IsStored, IsWritten as Waits}
use Rattle.convert_queue.specs.Queues.{Queues, queue_of, place_of, phase_of}
use Rattle.convert_words.specs.declared.step.ConvertStep.TheVariants as step
use Rattle.convert_words.specs.Agreeing.{Is}
use Rattle.convert_words.specs.Steps.{told, told_written, told_fenced, with_object, GoesTo, OneBecomes, claimed_at}
use Rattle.convert_words.specs.Scenes.{Scene, IsKey, AgreesAt}
use Rattle.convert_words.specs.Converting.{IsLineOf, NeedsLine, ToTakeIn, WaitsFor, Lacks, Exceeds, Converts, Fails}
use Rattle.convert_words.proofs.Bridges.{moved_of, moved_same}
use Rattle.convert_words.proofs.Converted.{durable_set, durable_claimed, one_set}
use Rattle.convert_words.proofs.Noting.{own_forwarded}
use Rattle.convert_words.proofs.Settled.{settled_forwarded}
use Rattle.convert_words.proofs.StepLaws.{calls_keep, told_writes_keep, told_fences_keep, claims_keep, copies_keep}
use Rattle.convert_words.proofs.StepLaws.{forwards_keep, repairs_keep, places_keep, repaired_lines_go_on}

-- ---- calls of the image

still_known : (s : Scene) (m : Memory) → AllKnown s.heap.memory → AllKnown m → KeepsShown s.heap.memory m → (l w : ℕ) → l < s.heap.memory.size → shown m l w ≡ shown s.heap.memory l w
still_known s m known known' keeps l w lt = let same = keeps.size in keeps.shows l w (known l lt) (known' l (omega (arith, lt, same)))

-- A line was touched.
pub touch_converts : (s : Scene) (m : Memory) (line : ℕ) (es : List Entry) (t : ℕ) → AllKnown s.heap.memory → AllKnown m → KeepsShown s.heap.memory m → OneCall s.heap.memory m →
    (own : IsLineOf es t line) → NeedsLine s es t own.n line → (IsResident s.heap.memory line → ⊥) → IsResident m line ⊎ IsAwaited m line → (IsAwaited s.heap.memory line → IsResident m line) →
    AgreesAt s es → Converts t step.Touched s (record s { heap = record s.heap { memory = m } }) es es
touch_converts s m line es t known known' keeps call own needed missing nearer once a = record {
  shows = (moved_of s.heap m es known known' keeps a.lies).same;
  agrees = calls_keep s m es known known' keeps a;
  size = keeps.size;
  kinds = refl;
  left = refl;
  others = λ l w lt _. still_known s m known known' keeps l w lt;
  leaves = λ l w x _ left. keeps.leaves l w x left;
  calls = call;
  says = (
    record {
      line = line;
      own = own;
      needed = needed;
      keeps = keeps;
      heap = refl;
      missing = missing;
      nearer = nearer;
      not_twice = once;
      queue = refl;
      table = refl;
    },
    (λ n. (λ p. p, λ p. p), refl),
  );
}

-- A line was written back, and the queue was told of it.
pub write_converts : (s : Scene) (m : Memory) (l : ℕ) (es : List Entry) (t : ℕ) → AllKnown s.heap.memory → AllKnown m → KeepsShown s.heap.memory m → OneCall s.heap.memory m →
    phase_of s.queue t ≡ Flush → IsStored s.queue.marks t l →
    l < m.size → WroteLine l s.heap.memory m → ((w : ℕ) → IsWritten m l w) → SameResident s.heap.memory m → AgreesAt s es →
    Converts t step.WroteBack s (record s { heap = record s.heap { memory = m }; queue = told_written s.queue l }) es es
write_converts s m l es t known known' keeps call flush stored lt wrote written resident a = record {
  shows = (moved_of s.heap m es known known' keeps a.lies).same;
  agrees = told_writes_keep (record s { heap = record s.heap { memory = m } }) l es lt written (calls_keep s m es known known' keeps a);
  size = keeps.size;
  kinds = refl;
  left = refl;
  others = λ l w lt _. still_known s m known known' keeps l w lt;
  leaves = λ l w x _ left. keeps.leaves l w x left;
  calls = call;
  says = (
    record {
      line = l;
      phase = flush;
      stored = stored;
      keeps = keeps;
      wrote = wrote;
      written = written;
      resident =
          resident;
      heap = refl;
      queue = refl;
      table = refl;
    },
    (λ n. (λ p. p, λ p. p), refl),
  );
}

-- A fence was made, and the queue was told of it.
pub fence_converts : (s : Scene) (m : Memory) (l : ℕ) (es : List Entry) (t : ℕ) → AllKnown s.heap.memory → AllKnown m → KeepsShown s.heap.memory m → OneCall s.heap.memory m →
    phase_of s.queue t ≡ Flush → ((k : ℕ) → IsStored s.queue.marks t k → ⊥) → Waits s.queue.marks t l →
    MadeFence s.heap.memory m → ((l w : ℕ) → IsWritten s.heap.memory l w → IsDurable m l w) → SameResident s.heap.memory m → AgreesAt s es →
    Converts t step.Fenced s (record s { heap = record s.heap { memory = m }; queue = told_fenced s.queue }) es es
fence_converts s m l es t known known' keeps call flush none waits made durable resident a = record {
  shows = (moved_of s.heap m es known known' keeps a.lies).same;
  agrees = told_fences_keep s m es known known' keeps durable a;
  size = keeps.size;
  kinds = refl;
  left = refl;
  others = λ l w lt _. still_known s m known known' keeps l w lt;
  leaves = λ l w x _ left. keeps.leaves l w x left;
  calls = call;
  says = (
    record {
      line = l;
      phase = flush;
      all = none;
      waits = waits;
      keeps = keeps;
      made = made;
      durable = durable;
      resident = resident;
      heap = refl;
      queue = refl;
      table = refl;
    },
    (λ n. (λ p. p, λ p. p), refl),
  );
}

-- A call failed.
pub call_fails : (s : Scene) (m : Memory) (es : List Entry) → AllKnown s.heap.memory → AllKnown m → KeepsShown s.heap.memory m → OneCall s.heap.memory m →
    AgreesAt s es → Fails s (record s { heap = record s.heap { memory = m } }) es
call_fails s m es known known' keeps call a = record {
  shows = (moved_of s.heap m es known known' keeps a.lies).same;
  agrees = calls_keep s m es known known' keeps a;
  keeps = keeps;
  call = call;
  heap = refl;
  queue = refl;
  free = refl;
  keys = refl;
}

-- ---- moves

same_image : (old new : Memory) → new ≡ old → SameImage old new
same_image old new same = record { calls = ap (λ (m : Memory). m.calls) same; image = ap (λ (m : Memory). m.image) same; faults = ap (λ (m : Memory). m.faults) same }

owned_by : (es : List Entry) (q : Queues) (t i n : ℕ) → Is q es t i n → (entry es n).owner ≢ 0
owned_by es q t i n is none = let o = is.claimed.1 in omega (arith, o, none)

-- An ordinary object to which a copied line refers was claimed.
pub claim_converts : (s : Scene) (heap : Twin) (es es' : List Entry) (t m : ℕ) → ToTakeIn s es t m → m < length es → t < 64 → phase_of s.queue t ≡ Copy →
    ((place_of s.queue t).0 < length (queue_of s.queue t)) ⊎ (((place_of s.queue t).0 ≡ length (queue_of s.queue t)) × ((place_of s.queue t).1 ≡ 0)) →
    lines_of (entry es m) ≤ s.heap.memory.size - s.free →
    Moved (view_of s.heap) es (view_of heap) es' → OneBecomes m (claimed_at t s.free (entry es m)) es es' → heap.memory ≡ s.heap.memory → heap.marks.kinds ≡ s.heap.marks.kinds →
    heap.space.left ≡ s.heap.space.left → AgreesAt s es →
    Converts t step.Claimed s (record s { heap = heap; queue = with_object s.queue t (entry es m).at s.free; free = s.free + lines_of (entry es m) }) es es'
claim_converts s heap es es' t m asked lm few copying place fits moved one same kinds left a = record {
  shows = moved.same;
  agrees = claims_keep s heap es es' t m lm asked.ordinary asked.nobody few copying place moved one same a;
  size = ap (λ (y : Memory). y.size) same;
  kinds = kinds;
  left = left;
  others = λ l w _ _. ap (λ (y : Memory). shown y l w) same;
  leaves = λ l w x _ may. subst (λ (y : Memory). CanLeave y l w x) same may;
  calls = same_image s.heap.memory heap.memory same;
  says = (
    record { m = m; asked = asked; fits = fits; becomes = one; free = refl; queue = refl; memory = same },
    λ y. durable_claimed es es' t s.free m lm asked.ordinary one y,
  );
}

-- A line was copied.
pub copy_converts : (s : Scene) (heap : Twin) (es : List Entry) (t i n : ℕ) → Is s.queue es t i n →
    phase_of s.queue t ≡ Copy → (place_of s.queue t).0 ≡ i → (entry es n).stage ≡ 1 → (entry es n).copied ≡ (place_of s.queue t).1 → 8 * (entry es n).copied ≤ (entry es n).slots →
    Moved (view_of s.heap) es (view_of heap) (slice_set es n (one_more (entry es n))) → ChangesLine ((entry es n).line + (entry es n).copied) s.heap.memory heap.memory →
    heap.space ≡ s.heap.space → heap.marks.kinds ≡ s.heap.marks.kinds → AgreesAt s es →
    Converts t step.CopiedLine s (record s { heap = heap; queue = told s.queue t ((entry es n).line + (entry es n).copied) }) es (slice_set es n (one_more (entry es n)))
copy_converts s heap es t i n is copying at one copied left moved changes space kinds a = record {
  shows = moved.same;
  agrees = copies_keep s heap es t i n is copying at one copied left moved changes a;
  size = changes.size;
  kinds = kinds;
  left = ap (λ (y : Space). y.left) space;
  others = λ l w _ out. changes.others l w (λ eq. out (record { n = n; claimed = is.claimed; placed = is.placed; from = omega (arith, eq); to = omega (arith, eq, left) }));
  leaves = λ l w x out may. changes.leaves l w x (λ eq. out (record { n = n; claimed = is.claimed; placed = is.placed; from = omega (arith, eq); to = omega (arith, eq, left) })) may;
  calls = changes.same;
  says = (
    record {
      n = n;
      is = subst (λ x. Is s.queue es t x n) (sym at) is;
      phase = copying;
      young = one;
      next = copied;
      left = left;
      becomes = one_set es n (one_more (entry es n)) is.claimed.0;
      changes = changes;
      space = space;
      queue = refl;
    },
    (λ m. durable_set es n (one_more (entry es n)) is.claimed.0 (owned_by es s.queue t i n is) refl m, refl),
  );
}

-- An object was forwarded.
pub forward_converts : (s : Scene) (heap : Twin) (q : Queues) (keys : List ℕ) (es : List Entry) (t i n : ℕ) → Is s.queue es t i n →
    phase_of s.queue t ≡ Copy → (place_of s.queue t).0 ≡ i → (entry es n).stage ≡ 1 → (entry es n).copied ≡ (place_of s.queue t).1 → (entry es n).slots < 8 * (entry es n).copied →
    Moved (view_of s.heap) es (view_of heap) (slice_set es n (forwarded (entry es n))) → heap.memory ≡ s.heap.memory → heap.marks ≡ s.heap.marks → heap.space.left ≡ s.heap.space.left →
    GoesTo t Copy (i + 1) 0 s.queue q →
    ((w : ℕ) → IsKey keys w → (IsKey s.keys w × (w ≢ 2 * (entry es n).at + 1)) ⊎ (w ≡ 2 * (entry es n).line)) → AgreesAt s es →
    Converts t step.Forwarded s (record { heap = heap; queue = q; free = s.free; keys = keys }) es (slice_set es n (forwarded (entry es n)))
forward_converts s heap q keys es t i n is copying at one copied full moved same marks left goes rekeyed a = record {
  shows = moved.same;
  agrees = forwards_keep s heap q keys es t i n is copying at one copied full moved same goes rekeyed a;
  size = ap (λ (y : Memory). y.size) same;
  kinds = ap (λ (y : Marks). y.kinds) marks;
  left = left;
  others = λ l w _ _. ap (λ (y : Memory). shown y l w) same;
  leaves = λ l w x _ may. subst (λ (y : Memory). CanLeave y l w x) same may;
  calls = same_image s.heap.memory heap.memory same;
  says = (
    record {
      n = n;
      is = subst (λ x. Is s.queue es t x n) (sym at) is;
      phase = copying;
      young = one;
      full = full;
      becomes = one_set es n (forwarded (entry es n)) is.claimed.0;
      memory = same;
      marks = marks;
      goes = subst (λ x. GoesTo t Copy (x + 1) 0 s.queue q) (sym at) goes;
      keys = rekeyed;
    },
    (λ m. durable_set es n (forwarded (entry es n)) is.claimed.0 (owned_by es s.queue t i n is) refl m, refl),
  );
}

-- A line was repaired, and the place went on.
pub repair_converts : (s : Scene) (heap : Twin) (q : Queues) (es : List Entry) (t i n c : ℕ) → Is s.queue es t i n →
    phase_of s.queue t ≡ Repair → (place_of s.queue t).0 ≡ i → (place_of s.queue t).1 ≡ c → c < lines_of (entry es n) →
    Moved (view_of s.heap) es (view_of heap) es → IsRepaired c (view_of heap) es n → ChangesLine ((entry es n).line + c) s.heap.memory heap.memory →
    heap ≡ record s.heap { memory = heap.memory } → GoesTo t Repair i (c + 1) (told s.queue t ((entry es n).line + c)) q → AgreesAt s es →
    Converts t step.Repaired s (record s { heap = heap; queue = q }) es es
repair_converts s heap q es t i n c is repairing at at_line within moved done changes same goes a =
    let s1 : Scene = record s { heap = heap; queue = told s.queue t ((entry es n).line + c) } in
    let a1 : AgreesAt s1 es = repairs_keep s heap es t i n c is repairing at at_line within moved changes a in
    let is1 : Is s1.queue es t i n = record { within = is.within; claimed = is.claimed; placed = is.placed; object = is.object; line = is.line } in
    let on = repaired_lines_go_on s1 es t i n a1 is1 repairing at (subst (λ x. IsRepaired x (view_of heap) es n) (sym at_line) done) in
    let goes1 : GoesTo t Repair i ((place_of s1.queue t).1 + 1) s1.queue q = subst (λ x. GoesTo t Repair i (x + 1) s1.queue q) (sym at_line) goes in
    record {
      shows = moved.same;
      agrees = places_keep s1 q t Repair i ((place_of s1.queue t).1 + 1) es goes1 on a1;
      size = changes.size;
      kinds = ap (λ (y : Twin). y.marks.kinds) same;
      left = ap (λ (y : Twin). y.space.left) same;
      others = λ l w _ out. changes.others l w (λ eq. out (record { n = n; claimed = is.claimed; placed = is.placed; from = omega (arith, eq); to = omega (arith, eq, within) }));
      leaves = λ l w x out may. changes.leaves l w x (λ eq. out (record { n = n; claimed = is.claimed; placed = is.placed; from = omega (arith, eq); to = omega (arith, eq, within) })) may;
      calls = changes.same;
      says = (
        record {
          n = n;
          is = subst (λ x. Is s.queue es t x n) (sym at) is;
          phase = repairing;
          within = subst (λ x. x < lines_of (entry es n)) (sym at_line) within;
          repaired = subst (λ x. IsRepaired x (view_of heap) es n) (sym at_line) done;
          changes = subst (λ x. ChangesLine ((entry es n).line + x) s.heap.memory heap.memory) (sym at_line) changes;
          heap = same;
          goes = subst (λ x. GoesTo t Repair x ((place_of s.queue t).1 + 1) (told s.queue t ((entry es n).line + (place_of s.queue t).1)) q) (sym at)
              (subst (λ x. GoesTo t Repair i (x + 1) (told s.queue t ((entry es n).line + x)) q) (sym at_line) goes);
          table = refl;
        },
        (λ m. (λ p. p, λ p. p), refl),
      );
    }

-- ---- steps that do nothing

pub wait_converts : (s : Scene) (es : List Entry) (t u : ℕ) → WaitsFor s t u ⊎ Lacks s es t u → AgreesAt s es → Converts t (step.Wait u) s s es es
wait_converts s es t u why a = record {
  shows = (moved_same (view_of s.heap) es a.lies).same;
  agrees = a;
  size = refl;
  kinds = refl;
  left = refl;
  others = λ l w _ _. refl;
  leaves = λ l w x _ may. may;
  calls = record { calls = refl; image = refl; faults = refl };
  says = (
    record {
      why = why;
      forwarded = λ n c. elim why [
        | inl w ↦ settled_forwarded (view_of s.heap) (held_of s.heap.memory) (written_of s.heap.memory) s.queue s.free (IsKey s.keys) es t n a w.settled c
        | inr w ↦ own_forwarded (view_of s.heap) (held_of s.heap.memory) (written_of s.heap.memory) s.queue s.free (IsKey s.keys) es t n a w.phase c
      ];
    },
    refl,
  );
}

pub full_converts : (s : Scene) (es : List Entry) (t need left : ℕ) → Exceeds s es t need left → AgreesAt s es → Converts t (step.Full need left) s s es es
full_converts s es t need left why a = record {
  shows = (moved_same (view_of s.heap) es a.lies).same;
  agrees = a;
  size = refl;
  kinds = refl;
  left = refl;
  others = λ l w _ _. refl;
  leaves = λ l w x _ may. may;
  calls = record { calls = refl; image = refl; faults = refl };
  says = (why, refl);
}
