-- What each step that ends a region comes to.
use Rattle.std.proofs.Common.{◌≡◌, ◌≢◌, ◌⊎◌, inl, inr, ⊎_elim, ◌<◌, ◌≤◌, ◌+◌, ◌-◌, ℕ, true, false, List, [], length}
use Rattle.std.proofs.Common.{slice_index_or, refl, sym, ◌∙◌, ap, subst, arith}
use Rattle.std.specs.Prelude.{nat_lt, if◌then◌else◌}
use Rattle.std.proofs.lemmas.Bool.{cases_Bool, ltb-true}
use Rattle.std.proofs.lemmas.Bool.Decides.{nat_tests}
use Rattle.std.proofs.lemmas.Option.{slice_get_past}
use Rattle.image_meaning.specs.Logs.{may_be_logged}
use Rattle.line_image.specs.Trace.{Outcome}
use Rattle.line_image.specs.Told.{Told}
use Rattle.line_memory.specs.Memory.{Memory, IsTelling, CanLeave, CanLeaveAll}
use Rattle.line_memory.specs.Moments.{KeepsShown}
use Rattle.region_log.specs.declared.entry.Entry.{Entry}
use Rattle.region_log.specs.declared.entry.EndStage.{EndStage}
use Rattle.region_log.specs.declared.entry.EndStage.TheVariants.{Writing, AllFenced, Clearing, Cleared}
use Rattle.region_log.specs.declared.entry.Underway.{Underway}
use Rattle.region_log.specs.declared.entry.Underway.TheVariants.{Nothing, Adding, Ending}
use Rattle.region_log.specs.Kept.{HoldsEnding, HoldsUnderway, FitsUnderway, KeepsLog}
use Rattle.region_log.specs.Log.{Log, LeftLog, LeftEnding}
use Rattle.region_log.specs.Made.{PutsThenCalls, Fences, IsOfLog}
use Rattle.region_log.specs.Stages.{CanEnd, end_stage, next_end, failed_end, words_to_end, HasEnded}
use Rattle.region_log.specs.Steps.{StepsOn, FencesRegion}
use Rattle.region_log.proofs.Frames.{undisturbed-call, ending-on}
use Rattle.region_log.proofs.Left.{underway_left, ending_left}
use Rattle.region_log.proofs.Placed.{puts-image, puts-size, puts-elsewhere, end_words_of_log, fails-ending, placed-ending}
use Rattle.region_log.proofs.Placed.{made-ending, ended-last}
use Rattle.line_memory.proofs.Keeps.{keeps_itself}
use Rattle.region_log.proofs.Stepping.{steps-by}

ends : (m : Memory) (t : ℕ) (entries : List Entry) (underway : Underway) → CanEnd underway
    → HoldsUnderway m t entries underway → HoldsEnding m t entries (end_stage underway)
ends m t entries Nothing can is = is
ends m t entries (Adding e stage) can is = absurd can
ends m t entries (Ending stage) can is = is

-- what is left before the count is lowered is left after it
next_left : (t : ℕ) (entries : List Entry) (stage : EndStage) (c : Outcome)
    → LeftEnding t entries (failed_end stage) c
    → LeftEnding t entries (next_end (length entries) stage) c
next_left t entries (Writing lines) c left =
    elim (nat_lt lines (length entries)) as (λ b. LeftEnding t entries
    (if b then Writing (lines + 1) else AllFenced) c) [ true ↦ left | false ↦ left ]
next_left t entries AllFenced c left = left
next_left t entries Clearing c left = left
next_left t entries Cleared c left = left

-- a stage fits where no more lines are written than there are entries
abbrev FitsStage : List Entry → EndStage → Type 0
FitsStage entries (Writing lines) = lines ≤ length entries
FitsStage entries AllFenced = Unit {0}
FitsStage entries Clearing = Unit {0}
FitsStage entries Cleared = Unit {0}

neither : (depth : ℕ) (entries : List Entry) → (1 < depth) ⊎ (entries ≡ []) → depth ≡ 1 → entries ≢ [] → ⊥
neither depth entries (inl more) one some = omega (arith, more, one)
neither depth entries (inr none) one some = some none

fits-ending : (size depth : ℕ) (entries : List Entry) (stage : EndStage) → depth ≡ 1 → entries ≢ []
    → FitsStage entries stage
    → FitsUnderway size depth entries (Ending stage)
fits-ending size depth entries (Writing lines) one some fits = (one, some, fits)
fits-ending size depth entries AllFenced one some fits = (one, some)
fits-ending size depth entries Clearing one some fits = (one, some)
fits-ending size depth entries Cleared one some fits = (one, some)

fits-stage : (size depth : ℕ) (entries : List Entry) (underway : Underway) → CanEnd underway
    → FitsUnderway size depth entries underway
    → FitsStage entries (end_stage underway)
fits-stage size depth entries Nothing can fits = omega arith
fits-stage size depth entries (Adding e stage) can fits = absurd can
fits-stage size depth entries (Ending (Writing lines)) can fits = fits.2
fits-stage size depth entries (Ending AllFenced) can fits = tt
fits-stage size depth entries (Ending Clearing) can fits = tt
fits-stage size depth entries (Ending Cleared) can fits = tt

fits-failed : (entries : List Entry) (stage : EndStage) → FitsStage entries stage
    → FitsStage entries (failed_end stage)
fits-failed entries (Writing lines) fits = fits
fits-failed entries AllFenced fits = tt
fits-failed entries Clearing fits = tt
fits-failed entries Cleared fits = tt

fits-next : (entries : List Entry) (stage : EndStage) → FitsStage entries (next_end (length entries) stage)
fits-next entries (Writing lines) =
    elim (cases_Bool (nat_lt lines (length entries))) [
      | inl less ↦ let below : lines < length entries = ltb-true lines (length entries) less in
          rw less (omega (arith, below))
      | inr other ↦ rw other tt
    ]
fits-next entries AllFenced = tt
fits-next entries Clearing = tt
fits-next entries Cleared = tt

module _ (before : Log) (old new : Memory) (keeps : KeepsLog before old) (can : CanEnd before.underway)
    (one : before.depth ≡ 1) (some : before.entries ≢ []) where
  abbrev t : ℕ
  t = before.thread

  abbrev at : EndStage
  at = end_stage before.underway

  abbrev ending : EndStage → Log
  ending stage = record before { underway = Ending stage }

  fits-at : FitsStage before.entries at
  fits-at = fits-stage old.size before.depth before.entries before.underway can keeps.fits

  keeps-ending : (stage : EndStage) → FitsStage before.entries stage → new.size ≡ old.size
      → (IsTelling new.image.trace → HoldsEnding new t before.entries stage) → KeepsLog (ending stage) new
  keeps-ending stage fits size words = record {
    thread = keeps.thread;
    size = omega (arith, keeps.size, size);
    room = keeps.room;
    places = λ k d below. subst (λ (s : ℕ). may_be_logged s (slice_index_or before.entries k d).spot.line ≡
        true) (sym size) (keeps.places k d below);
    once = keeps.once;
    fits = fits-ending new.size before.depth before.entries stage one some fits;
    words = words;
  }

  was : IsTelling old.image.trace → HoldsEnding old t before.entries at
  was tells = ends old t before.entries before.underway can (keeps.words tells)

  left_before : (c : Outcome) → IsTelling old.image.trace → CanLeaveAll old c → LeftLog before c
  left_before c tells all = underway_left old c all t before.entries before.underway (keeps.words tells)

  calls_of : PutsThenCalls [] old new → KeepsShown old new
  calls_of made = subst (λ (m : Memory). KeepsShown m new) made.puts made.calls

  -- a call with no store before it
  stays : (stage : EndStage) → FitsStage before.entries stage → KeepsShown old new
      → ((m : Memory) → HoldsEnding m t before.entries at → HoldsEnding m t before.entries stage)
      → StepsOn before (ending stage) old new
  stays stage fits calls weaker = steps-by before (ending stage) old old new refl refl calls
      (keeps-ending stage fits calls.size (λ tells.
      ending-on t old new (undisturbed-call t old new calls) tells before.entries stage keeps.room
      (weaker old (was (calls.silent tells)))))
      (λ c tells all. inl (left_before c tells all))
      (λ l w v outside left. left)

  pub ends-touch : PutsThenCalls [] old new → StepsOn before (ending at) old new
  ends-touch made = stays at fits-at (calls_of made) (λ m is. is)

  -- some words of the stage stored, and a call
  module _ (made : PutsThenCalls (words_to_end t at) old new) where
    image : made.placed.image ≡ old.image
    image = puts-image (words_to_end t at) old made.placed made.puts

    placed_size : made.placed.size ≡ old.size
    placed_size = puts-size (words_to_end t at) old made.placed made.puts

    size : new.size ≡ old.size
    size = made.calls.size ∙ puts-size (words_to_end t at) old made.placed made.puts

    tells_old : IsTelling made.placed.image.trace → IsTelling old.image.trace
    tells_old tells = subst (λ (told : Told). IsTelling told.trace) image tells

    placed : IsTelling made.placed.image.trace → HoldsEnding made.placed t before.entries (failed_end at)
    placed tells = placed-ending t before.entries old made.placed at (was (tells_old tells)) made.puts

    after : IsTelling new.image.trace → HoldsEnding new t before.entries (failed_end at)
    after tells = ending-on t made.placed new (undisturbed-call t made.placed new made.calls) tells
        before.entries (failed_end at) keeps.room (placed (made.calls.silent tells))

    elsewhere : (l w v : ℕ) → (IsOfLog t l → ⊥) → CanLeave made.placed l w v → CanLeave old l w v
    elsewhere = puts-elsewhere t (words_to_end t at) old made.placed (end_words_of_log t at) made.puts

    fails-made : StepsOn before (ending (failed_end at)) old new
    fails-made = steps-by before (ending (failed_end at)) old made.placed new image placed_size made.calls
        (keeps-ending (failed_end at) (fits-failed before.entries at fits-at) size after)
        (λ c tells all. inr (ending_left made.placed c all t before.entries (failed_end at) (placed tells)))
        elsewhere

    pub ends-on : HasEnded t before.entries at old new
        → StepsOn before (ending (next_end (length before.entries) at)) old new
    ends-on has = steps-by before (ending (next_end (length before.entries) at)) old made.placed new image
        placed_size made.calls
        (keeps-ending (next_end (length before.entries) at) (fits-next before.entries at) size (λ tells.
        made-ending t before.entries old new at (after tells) has))
        (λ c tells all. inr (next_left t before.entries at c
        (ending_left made.placed c all t before.entries (failed_end at) (placed tells))))
        elsewhere

  pub ends-fail : PutsThenCalls [] old new ⊎ PutsThenCalls (words_to_end t at) old new
      → StepsOn before (ending (failed_end at)) old new
  ends-fail (inl touched) = stays (failed_end at) (fits-failed before.entries at fits-at) (calls_of touched)
      (λ m is. fails-ending t before.entries m at is)
  ends-fail (inr made) = fails-made made

  abbrev over : Log
  over = record before { depth = 0; entries = []; underway = Nothing }

  pub ends-last : at ≡ Cleared → PutsThenCalls [] old new → Fences old new → StepsOn before over old new
  ends-last last made fences =
      let calls = calls_of made in
      steps-by before over old old new refl refl calls (record {
        thread = keeps.thread;
        size = omega (arith, keeps.size, calls.size);
        room = omega arith;
        places = λ k d below. absurd (omega (arith, below));
        once = λ i j d low below. absurd (omega (arith, below));
        fits = tt;
        words = λ tells.
            let before_it : HoldsEnding old t before.entries Cleared = subst
            (λ (s : EndStage). HoldsEnding old t before.entries s) last (was (calls.silent tells)) in
            let after_it = ending-on t old new (undisturbed-call t old new calls) tells before.entries
            Cleared keeps.room before_it in
            ended-last t before.entries old new before_it after_it fences;
      })
      (λ c tells all. inl (left_before c tells all))
      (λ l w v outside left. left)

-- A region within another, or one that logged nothing, ends at once.
fits-depth : (bound depth other : ℕ) (entries : List Entry) (underway : Underway) → CanEnd underway
    → (1 < depth) ⊎ (entries ≡ [])
    → FitsUnderway bound depth entries underway → FitsUnderway bound other entries underway
fits-depth bound depth other entries Nothing can at_once fits = tt
fits-depth bound depth other entries (Adding e stage) can at_once fits = absurd can
fits-depth bound depth other entries (Ending (Writing lines)) can at_once fits = absurd
    (neither depth entries at_once fits.0 fits.1)
fits-depth bound depth other entries (Ending AllFenced) can at_once fits = absurd
    (neither depth entries at_once fits.0 fits.1)
fits-depth bound depth other entries (Ending Clearing) can at_once fits = absurd
    (neither depth entries at_once fits.0 fits.1)
fits-depth bound depth other entries (Ending Cleared) can at_once fits = absurd
    (neither depth entries at_once fits.0 fits.1)

ends-at_once : (log : Log) (m : Memory) → KeepsLog log m → CanEnd log.underway
    → (1 < log.depth) ⊎ (log.entries ≡ [])
    → StepsOn log (record log { depth = log.depth - 1 }) m m
ends-at_once log m keeps can at_once =
    let after : Log = record log { depth = log.depth - 1 } in
    steps-by log after m m m refl refl (keeps_itself m) (record {
      thread = keeps.thread;
      size = keeps.size;
      room = keeps.room;
      places = keeps.places;
      once = keeps.once;
      fits = fits-depth m.size log.depth (log.depth - 1) log.entries log.underway can at_once keeps.fits;
      words = keeps.words;
    })
    (λ c tells all. inl (underway_left m c all log.thread log.entries log.underway (keeps.words tells)))
    (λ l w v outside left. left)

pub now-at_once : (before now : Log) (m : Memory) → before ≡ now → KeepsLog now m → CanEnd now.underway
    → (1 < before.depth) ⊎ (before.entries ≡ [])
    → StepsOn now (record before { depth = before.depth - 1 }) m m
now-at_once before now m is keeps can at_once =
    subst (λ (log : Log). StepsOn log (record before { depth = before.depth - 1 }) m m) is
    (ends-at_once before m (subst (λ (log : Log). KeepsLog log m) (sym is) keeps)
    (subst (λ (log : Log). CanEnd log.underway) (sym is) can) at_once)

-- the stage before all are fenced
fence-next : (entries : List Entry) (stage : EndStage) → FitsStage entries stage
    → next_end (length entries) stage ≡ AllFenced → stage ≡ Writing (length entries)
fence-next entries (Writing lines) fits is = elim (cases_Bool (nat_lt lines (length entries))) [
  | inl less ↦ (let wrong : Writing (lines + 1) ≡ AllFenced = rw less at is in cc)
  | inr none ↦
      (let at : lines ≡ length entries = grind (arith, nat_tests) in
      ap Writing at)
]
fence-next entries AllFenced fits is = cc
fence-next entries Clearing fits is = cc
fence-next entries Cleared fits is = cc

-- the same, as the code names what it goes by
module _ (before now : Log) (old new : Memory) (is : before ≡ now) (keeps : KeepsLog now old)
    (can : CanEnd now.underway)
    (one : before.depth ≡ 1) (some : before.entries ≢ []) (stage : EndStage)
    (is_stage : stage ≡ end_stage before.underway) where
  held : KeepsLog before old
  held = subst (λ (log : Log). KeepsLog log old) (sym is) keeps

  can_end : CanEnd before.underway
  can_end = subst (λ (log : Log). CanEnd log.underway) (sym is) can

  from_now : (after : Log) → StepsOn before after old new → StepsOn now after old new
  from_now after steps = subst (λ (log : Log). StepsOn log after old new) is steps

  words : PutsThenCalls (words_to_end before.thread stage) old new
      → PutsThenCalls (words_to_end before.thread (end_stage before.underway)) old new
  words made = subst (λ (s : EndStage). PutsThenCalls (words_to_end before.thread s) old new) is_stage made

  pub now-touch : PutsThenCalls [] old new → StepsOn now (record before { underway = Ending stage }) old new
  now-touch made = from_now (record before { underway = Ending stage })
      (subst (λ (s : EndStage). StepsOn before (record before { underway = Ending s }) old new) (sym is_stage)
      (ends-touch before old new held can_end one some made))

  pub now-on : (next : EndStage) → next ≡ next_end (length before.entries) stage
      → PutsThenCalls (words_to_end before.thread stage) old new
      → HasEnded before.thread before.entries stage old new
      → StepsOn now (record before { underway = Ending next }) old new
  now-on next is_next made has =
      let there : HasEnded before.thread before.entries (end_stage before.underway) old new =
      subst (λ (s : EndStage). HasEnded before.thread before.entries s old new) is_stage has in
      let same : next_end (length before.entries) (end_stage before.underway) ≡ next =
      ap (next_end (length before.entries)) (sym is_stage) ∙ sym is_next in
      from_now (record before { underway = Ending next })
      (subst (λ (s : EndStage). StepsOn before (record before { underway = Ending s }) old new) same
      (ends-on before old new held can_end one some (words made) there))

  pub now-fail : (failed : EndStage) → failed ≡ failed_end stage
      → PutsThenCalls [] old new ⊎ PutsThenCalls (words_to_end before.thread stage) old new
      → StepsOn now (record before { underway = Ending failed }) old new
  now-fail failed is_failed either =
      let same : failed_end (end_stage before.underway) ≡ failed = ap failed_end (sym is_stage)
      ∙ sym is_failed in
      from_now (record before { underway = Ending failed })
      (subst (λ (s : EndStage). StepsOn before (record before { underway = Ending s }) old new) same
      (ends-fail before old new held can_end one some
      (⊎_elim (λ touched. inl touched) (λ made. inr (words made)) either)))

  pub now-last : (entries : List Entry) → entries ≡ [] → stage ≡ Cleared
      → PutsThenCalls (words_to_end before.thread stage) old new
      → HasEnded before.thread before.entries stage old new
      → StepsOn now (record before { depth = 0; entries = entries; underway = Nothing }) old new
  now-last entries is_entries last made has =
      let none : PutsThenCalls [] old new = subst
      (λ (s : EndStage). PutsThenCalls (words_to_end before.thread s) old new) last made in
      let fences : Fences old new = subst (λ (s : EndStage). HasEnded before.thread before.entries s old new)
      last has in
      from_now (record before { depth = 0; entries = entries; underway = Nothing })
      (subst (λ (es : List Entry). StepsOn before
      (record before { depth = 0; entries = es; underway = Nothing }) old new) (sym is_entries)
      (ends-last before old new held can_end one some (sym is_stage ∙ last) none fences))

  pub now-fenced : (next : EndStage) → next ≡ next_end (length before.entries) stage → next ≡ AllFenced
      → PutsThenCalls (words_to_end before.thread stage) old new
      → HasEnded before.thread before.entries stage old new
      → FencesRegion now (record before { underway = Ending next }) old new
  now-fenced next is_next fenced made has =
      let fits : FitsStage before.entries stage =
      subst (λ (s : EndStage). FitsStage before.entries s) (sym is_stage)
      (fits-stage old.size before.depth before.entries before.underway can_end held.fits) in
      let at : stage ≡ Writing (length before.entries) = fence-next before.entries stage fits (sym is_next
      ∙ fenced) in
      let there : HasEnded before.thread before.entries (Writing (length before.entries)) old new =
      subst (λ (s : EndStage). HasEnded before.thread before.entries s old new) at has in
      subst (λ (log : Log). FencesRegion log (record before { underway = Ending next }) old new) is (record {
        log = ap (λ (s : EndStage). record before { underway = Ending s }) fenced;
        next = sym is_stage ∙ at;
        memory = subst (λ (s : EndStage). PutsThenCalls (words_to_end before.thread s) old new) at made;
        made = rw (slice_get_past before.entries (length before.entries) (omega arith)) at there;
      })
