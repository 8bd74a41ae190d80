-- What the calls of a log leave of heap and world: stores to lines of the log, which are no object's and no
-- root slot's, and then a call of the image.
use Rattle.std.proofs.Common.{◌≡◌, inl, inr, ℕ, ◌<◌, ◌≤◌, Bool, true, false, List, [], ◌∷◌, length, refl, sym, ◌∙◌, ap, subst}
use Rattle.std.proofs.Common.{arith, if◌then◌else◌}
use Rattle.std.proofs.lemmas.Bool.{cases_Bool}
use Rattle.image_layout.specs.Places.{logs}
use Rattle.line_memory.specs.Memory.{Memory, IsResident, SameResident}
use Rattle.line_memory.specs.Moments.{KeepsShown}
use Rattle.region_log.specs.Fencing.{FencesAlone, makes_fence}
use Rattle.region_log.specs.Log.{Log}
use Rattle.region_log.specs.Made.{Word, Puts, PutsAll, PutsThenCalls, IsOfLog, AreOfLog}
use Rattle.region_log.proofs.Frames.{put-leaves}
use Rattle.twin_forms.specs.Moves.{ChangesLine}
use Rattle.twin_forms.specs.Sights.{Twin, AllKnown}
use Rattle.twin_forms.specs.Table.{Entry, entry}
use Rattle.two_spaces.specs.Moving.{IsMove}
use Rattle.two_spaces.specs.Quiet.{IsImageCall}
use Rattle.two_spaces.proofs.Moved.{moves_follow}
use Rattle.two_spaces.proofs.Quieted.{stores_quiet, quiet_moves}
use Rattle.convert_words.proofs.StepLaws.{other_stores_keep, told_fences_keep}
use Rattle.machine_forms.specs.Machines.{Opening, Machine, memory_of, scene_of, log_of}
use Rattle.machine_forms.specs.Events.{OnlyImage, with_twin, with_log, with_logged}
use Rattle.machine_laws.specs.HeapLaws.{KeepsShared}
use Rattle.machine_laws.proofs.HeapActing.{SameMemory, memory_changed}
use Rattle.machine_laws.proofs.Called.{quiet, shared_call, agrees_over, shared_after}
use Rattle.machine_laws.proofs.HeapMoving.{heap_arrives, world_arrives, shared_logs}
use Rattle.convert_queue.specs.Marks.{with_fence as marks_fenced}
use Rattle.convert_words.specs.Steps.{told_fenced}
use Rattle.converter.specs.Stepping.{keys_of}

-- The same lines are resident in memories of one size: the cache has room for the whole image.
same_resident : (old new : Memory) → new.size ≡ old.size → SameResident old new
unfolding IsResident
same_resident old new same = record {
  kept = λ l here. subst (λ n. l < n) (sym same) here;
  none_more = λ l here. subst (λ n. l < n) same here;
}

abbrev over : Machine → Memory → Machine
over m memory = with_twin m (record m.spaces.twin { memory = memory })

-- ---- one store

module _ (o : Opening) (m : Machine) (es : List Entry) (kept : KeepsShared o m es) (t : ℕ) (there : t < logs)
    (word : Word) (new : Memory) (put : Puts word (memory_of m) new) (own : IsOfLog t word.line) where
  abbrev twin : Twin
  twin = record m.spaces.twin { memory = new }

  changes : ChangesLine word.line (memory_of m) new
  changes = record {
    others = λ l w ne. put.others l w (λ same. absurd (ne same));
    leaves = λ l w x ne left. put-leaves word (memory_of m) new put l w x (λ same. absurd (ne same)) left;
    size = put.size;
    same = put.same;
    resident = same_resident (memory_of m) new put.size;
  }

  -- objects lie behind all logs
  before : (n : ℕ) → n < length es → 0 < (entry es n).stage → word.line < (entry es n).line
  before n ln placed =
      let low = kept.0.low n ln placed in
      let below = own.below in
      omega (arith, low, below, there)

  move : IsMove m.spaces twin es es
  move =
      quiet_moves m.spaces twin es (stores_quiet m.spaces twin es word.line kept.0.whole (record {
        changes = changes;
        space = refl;
        marks = refl;
        behind = let from = own.from in omega (arith, from);
        apart = λ n ln placed. inl (before n ln placed);
      }))

  memory : SameMemory (memory_of m) new
  memory = memory_changed word.line (memory_of m) new changes

  shared_put : KeepsShared o (over m new) es
  shared_put = (
    heap_arrives o m es es twin m.queue m.free m.rest.monitors kept.0 move (record {
      agrees = other_stores_keep (scene_of m) new word.line es changes
          (λ n ln placed. inl (before n ln placed)) kept.0.agrees;
      sound = kept.0.sound;
      low = kept.0.low;
      behind = kept.0.behind;
      within = subst (λ n. m.free ≤ n) (sym put.size) kept.0.within;
      size = memory.size ∙ kept.0.size;
      known = memory.known kept.0.known;
      telling = λ told. memory.telling (kept.0.telling told);
    }),
    world_arrives o m es es twin m.queue m.free kept.1 move (λ _ _. refl),
  )

-- ---- some stores, and then a call

-- What the image's calls for a log leave: no object has moved.
pub record GoesOn (o : Opening) (m : Machine) (es : List Entry) (now : Twin) : Type 0 where
  pub move : IsMove m.spaces now es es
  pub kept : KeepsShared o (with_twin m now) es

pub rests : (o : Opening) (m : Machine) (es : List Entry) → KeepsShared o m es → GoesOn o m es m.spaces.twin
rests o m es kept = record {
  move = quiet_moves m.spaces m.spaces.twin es (record {
    stands = kept.0.whole;
    space = refl;
    marks = refl;
    size = refl;
    roots = λ slot few. refl;
    lines = λ n l w ln placed from below. refl;
  });
  kept = kept;
}

goes_twice : (o : Opening) (m : Machine) (es : List Entry) (first second : Twin) → GoesOn o m es first
    → GoesOn o (with_twin m first) es second → GoesOn o m es second
goes_twice o m es first second a b = record {
  move = moves_follow m.spaces first es es a.move second es b.move;
  kept = b.kept;
}

puts_go_on : (o : Opening) (es : List Entry) (t : ℕ) → t < logs → (words : List Word) (m : Machine)
    (placed : Memory) → AreOfLog t words → PutsAll words (memory_of m) placed → KeepsShared o m es
    → GoesOn o m es (record m.spaces.twin { memory = placed })
puts_go_on o es t there [] m placed own is kept =
    subst (λ (x : Memory). GoesOn o m es (record m.spaces.twin { memory = x })) (sym is) (rests o m es kept)
puts_go_on o es t there (word ∷ words) m placed own puts kept =
    let next = shared_put o m es kept t there word puts.0 puts.1 own.0 in
    goes_twice o m es (record m.spaces.twin { memory = puts.0 }) (record m.spaces.twin { memory = placed })
    (record { move = move o m es kept t there word puts.0 puts.1 own.0; kept = next })
    (puts_go_on o es t there words (over m puts.0) placed own.1 puts.2 next)

module _ (o : Opening) (m : Machine) (es : List Entry) (kept : KeepsShared o m es) (t : ℕ) (there : t < logs)
    (words : List Word) (own : AreOfLog t words) (twin : Twin) (only : OnlyImage m twin)
    (known : AllKnown twin.memory) (made : PutsThenCalls words (memory_of m) twin.memory) where
  abbrev placed : Twin
  placed = record m.spaces.twin { memory = made.placed }

  stored : GoesOn o m es placed
  stored = puts_go_on o es t there words m made.placed own made.puts kept

  calls : IsImageCall (over m made.placed).spaces twin
  calls =
      let size = stored.kept.0.size in
      let long = stored.kept.0.long in
      record {
        keeps = made.calls;
        space = ap (λ (x : Twin). x.space) only;
        marks = ap (λ (x : Twin). x.marks) only;
        known = stored.kept.0.known;
        known_after = known;
        long = omega (arith, size, long);
      }

  pub logging_goes_on : GoesOn o m es twin
  logging_goes_on =
      goes_twice o m es placed twin stored (record {
        move = quiet o (over m made.placed) es stored.kept twin calls;
        kept = shared_call o (over m made.placed) es stored.kept twin calls;
      })

-- ---- conversions are told of fences

-- What a call of thread t's log leaves: no object has moved, and heap and world stand, with conversions told of the
-- fence that it made.
pub record LogGoesOn (o : Opening) (m : Machine) (es : List Entry) (t : ℕ) (log' : Log) (now : Twin) : Type 0 where
  pub move : IsMove m.spaces now es es
  pub kept : KeepsShared o (with_logged m now t log') es

module _ (o : Opening) (m : Machine) (es : List Entry) (kept : KeepsShared o m es) (t : ℕ) (log' : Log)
    (twin : Twin) (goes : GoesOn o m es twin) where
  abbrev Told : Bool → Type 0
  Told b = KeepsShared o (with_log (record (with_twin m twin) {
    queue = record m.queue { marks = if b then marks_fenced m.queue.marks else m.queue.marks };
  }) t log') es

  abbrev its_logs : List Log
  its_logs = (with_log m t log').logs

  by_told : (b : Bool) → makes_fence (log_of m t) log' ≡ b → Told b → LogGoesOn o m es t log' twin
  by_told b is told = record { move = goes.move; kept = subst Told (sym is) told }

  fence_told : OnlyImage m twin → FencesAlone (memory_of m) twin.memory
      → KeepsShared o (record (with_twin m twin) { queue = told_fenced m.queue }) es
  fence_told only alone =
      let same : alone.memory.placed ≡ memory_of m = alone.memory.puts in
      let keeps = subst (λ (x : Memory). KeepsShown x twin.memory) same alone.memory.calls in
      let space = ap (λ (x : Twin). x.space) only in
      let marks = ap (λ (x : Twin). x.marks) only in
      let known = goes.kept.0.known in
      let long = kept.0.long in
      let size = kept.0.size in
      shared_after o m es kept twin (record {
        keeps = keeps;
        space = space;
        marks = marks;
        known = kept.0.known;
        known_after = known;
        long = omega (arith, size, long);
      }) (told_fenced m.queue)
      (agrees_over m.spaces.twin.space twin.space twin.memory m.spaces.twin.marks twin.marks (told_fenced m.queue) m.free
      (keys_of m.rest.monitors) es space marks
      (told_fences_keep (scene_of m) twin.memory es kept.0.known known keeps alone.fences.durable kept.0.agrees))

  -- a call that made no fence
  pub unfenced_goes_on : makes_fence (log_of m t) log' ≡ false → LogGoesOn o m es t log' twin
  unfenced_goes_on none = by_told false none (shared_logs o (with_twin m twin) es its_logs goes.kept)

  -- one that made a fence, if it did, and nothing else
  pub told_goes_on : OnlyImage m twin
      → (makes_fence (log_of m t) log' ≡ true → FencesAlone (memory_of m) twin.memory)
      → LogGoesOn o m es t log' twin
  told_goes_on only alone = elim (cases_Bool (makes_fence (log_of m t) log')) [
    | inl is ↦ by_told true is (shared_logs o (record (with_twin m twin) { queue = told_fenced m.queue }) es its_logs
        (fence_told only (alone is)))
    | inr none ↦ unfenced_goes_on none
  ]
