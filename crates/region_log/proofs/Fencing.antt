-- The fences that a log's calls make are those that its stages tell.
use Rattle.std.proofs.Common.{◌≡◌, ◌≢◌, ◌⊎◌, inl, inr, ℕ, ◌+◌, ◌≤◌, true, false, List, [], ◌∷◌, length, refl, sym, ◌∙◌, ap}
use Rattle.std.proofs.Common.{subst, arith, if◌then◌else◌}
use Rattle.std.specs.Prelude.{MatchOption, nat_eq, nat_lt}
use Rattle.std.proofs.lemmas.Bool.{cases_Bool}
use Rattle.std.proofs.lemmas.Bool.Decides.{nat_tests}
use Rattle.std.proofs.lemmas.Option.{slice_get_past}
use Rattle.line_memory.specs.Memory.{Memory}
use Rattle.region_log.specs.declared.entry.Entry.{Entry}
use Rattle.region_log.specs.declared.entry.EntryStage.{EntryStage}
use Rattle.region_log.specs.declared.entry.EntryStage.TheVariants.{Begun, Written, Fenced, Counting, Counted}
use Rattle.region_log.specs.declared.entry.EndStage.TheVariants.{Writing, AllFenced, Clearing, Cleared}
use Rattle.region_log.specs.declared.entry.Underway.{Underway}
use Rattle.region_log.specs.declared.entry.Underway.TheVariants.{Nothing, Adding, Ending}
use Rattle.region_log.specs.Fencing.{FencesAlone, LoggingSeesFences, EndingSeesFences, is_fence_next, fences_next}
use Rattle.region_log.specs.Fencing.{leads_by_fence, makes_fence}
use Rattle.region_log.specs.Kept.{FitsUnderway, KeepsLog}
use Rattle.region_log.specs.Log.{Log}
use Rattle.region_log.specs.Made.{PutsThenCalls, Touches}
use Rattle.region_log.specs.Stages.{CanAdd, CanEnd, entry_stage, next_stage, failed_stage, words_at, TouchesLine, HasMade}
use Rattle.region_log.specs.Stages.{end_stage, next_end, failed_end, TouchesLineToEnd}
use Rattle.region_log.specs.Steps.{TouchesFor, AddsOn, AddsEntry, FailsToAdd, TouchesToEnd, EndsOn, FencesRegion, EndsLog}
use Rattle.region_log.specs.Steps.{FailsToEnd}

-- what is under way in a log that is told by a record of it
underway-is : (before after : Log) (u : Underway) → after ≡ record before { underway = u } → after.underway ≡ u
underway-is before after u is = ap (λ (log : Log). log.underway) is

-- ---- an entry is added

-- a fence touches no line, and no touch is a fence
touched-stage : (t n : ℕ) (e e' : Entry) (stage : EntryStage) (old new : Memory) → TouchesLine t n stage old new
    → (leads_by_fence (Adding e' stage) (Adding e stage) ≡ false) × (is_fence_next n (Adding e' stage) ≡ false)
touched-stage t n e e' Begun old new touches = (refl, refl)
touched-stage t n e e' Written old new touches = absurd touches
touched-stage t n e e' Fenced old new touches = (refl, refl)
touched-stage t n e e' Counting old new touches = (refl, refl)
touched-stage t n e e' Counted old new touches = absurd touches

touched-adding : (t n : ℕ) (e : Entry) (u : Underway) (old new : Memory) → CanAdd u e
    → TouchesLine t n (entry_stage u) old new
    → (leads_by_fence u (Adding e (entry_stage u)) ≡ false) × (is_fence_next n u ≡ false)
touched-adding t n e Nothing old new can touches = (refl, refl)
touched-adding t n e (Adding other stage) old new can touches = touched-stage t n e other stage old new touches
touched-adding t n e (Ending stage) old new can touches = absurd can

added-stage : (t n : ℕ) (e e' : Entry) (stage : EntryStage) (old new : Memory) → stage ≢ Counted
    → PutsThenCalls (words_at t n e stage) old new → HasMade t n e stage old new
    → (leads_by_fence (Adding e' stage) (Adding e (next_stage stage)) ≡ is_fence_next n (Adding e' stage))
    × (leads_by_fence (Adding e' stage) (Adding e (next_stage stage)) ≡ true → FencesAlone old new)
added-stage t n e e' Begun old new other memory made = (refl, λ wrong. absurd (let no : false ≡ true = wrong in cc))
added-stage t n e e' Written old new other memory made = (refl, λ is. record { memory = memory; fences = made })
added-stage t n e e' Fenced old new other memory made = (refl, λ wrong. absurd (let no : false ≡ true = wrong in cc))
added-stage t n e e' Counting old new other memory made = (refl, λ wrong. absurd (let no : false ≡ true = wrong in cc))
added-stage t n e e' Counted old new other memory made = absurd (other refl)

added-adding : (t n : ℕ) (e : Entry) (u : Underway) (old new : Memory) → CanAdd u e → entry_stage u ≢ Counted
    → PutsThenCalls (words_at t n e (entry_stage u)) old new → HasMade t n e (entry_stage u) old new
    → (leads_by_fence u (Adding e (next_stage (entry_stage u))) ≡ is_fence_next n u)
    × (leads_by_fence u (Adding e (next_stage (entry_stage u))) ≡ true → FencesAlone old new)
added-adding t n e Nothing old new can other memory made = (refl, λ wrong. absurd (let no : false ≡ true = wrong in cc))
added-adding t n e (Adding its stage) old new can other memory made = added-stage t n e its stage old new other memory made
added-adding t n e (Ending stage) old new can other memory made = absurd can

counted-stage : (n : ℕ) (e : Entry) (stage : EntryStage) → stage ≡ Counted
    → (leads_by_fence (Adding e stage) Nothing ≡ true) × (is_fence_next n (Adding e stage) ≡ true)
counted-stage n e Begun is = absurd (let no = is in cc)
counted-stage n e Written is = absurd (let no = is in cc)
counted-stage n e Fenced is = absurd (let no = is in cc)
counted-stage n e Counting is = absurd (let no = is in cc)
counted-stage n e Counted is = (refl, refl)

counted-adding : (n : ℕ) (e : Entry) (u : Underway) → CanAdd u e → entry_stage u ≡ Counted
    → (leads_by_fence u Nothing ≡ true) × (is_fence_next n u ≡ true)
counted-adding n e Nothing can is = absurd (let no = is in cc)
counted-adding n e (Adding other stage) can is = counted-stage n other stage is
counted-adding n e (Ending stage) can is = absurd can

failed-adding : (e : Entry) (u : Underway) → leads_by_fence u (Adding e (failed_stage (entry_stage u))) ≡ false
failed-adding e Nothing = refl
failed-adding e (Adding other Begun) = refl
failed-adding e (Adding other Written) = refl
failed-adding e (Adding other Fenced) = refl
failed-adding e (Adding other Counting) = refl
failed-adding e (Adding other Counted) = refl
failed-adding e (Ending (Writing lines)) = refl
failed-adding e (Ending AllFenced) = refl
failed-adding e (Ending Clearing) = refl
failed-adding e (Ending Cleared) = refl

pub logging-sees : LoggingSeesFences
logging-sees = record {
  touched = λ e before after old new can made. subst
      (λ (u : Underway). (leads_by_fence before.underway u ≡ false) × (fences_next before ≡ false))
      (sym (underway-is before after _ made.log))
      (touched-adding before.thread (length before.entries) e before.underway old new can made.touches);
  added = λ e before after old new can made. subst
      (λ (u : Underway). (leads_by_fence before.underway u ≡ fences_next before)
      × (leads_by_fence before.underway u ≡ true → FencesAlone old new))
      (sym (underway-is before after _ made.log))
      (added-adding before.thread (length before.entries) e before.underway old new can made.not_last made.memory
      made.made);
  counted = λ e before after old new can made. (
      let seen = counted-adding (length before.entries) e before.underway can made.last in (
        ap (λ (log : Log). leads_by_fence before.underway log.underway) made.log ∙ seen.0,
        seen.1,
        record { memory = made.memory; fences = made.made },
      ));
  failed = λ e before after old new made.
      ap (λ (log : Log). leads_by_fence before.underway log.underway) made.log ∙ failed-adding e before.underway;
}

-- ---- a region is ended

touched-ending : (t : ℕ) (entries : List Entry) (u : Underway) (old new : Memory) → CanEnd u
    → TouchesLineToEnd t entries (end_stage u) old new
    → (leads_by_fence u (Ending (end_stage u)) ≡ false) × (is_fence_next (length entries) u ≡ false)
touched-ending t entries Nothing old new can touches = (refl, refl)
touched-ending t entries (Adding e stage) old new can touches = absurd can
touched-ending t entries (Ending (Writing lines)) old new can touches = (
  refl,
  elim (cases_Bool (nat_eq lines (length entries))) [
    | inl same ↦
        (let all : lines ≡ length entries = grind (arith, nat_tests, same) in
        absurd (subst (λ o. MatchOption o ⊥ (λ (e : Entry). Touches e.spot.line old new))
        (slice_get_past entries lines (omega (arith, all))) touches))
    | inr other ↦ other
  ],
)
touched-ending t entries (Ending AllFenced) old new can touches = (refl, refl)
touched-ending t entries (Ending Clearing) old new can touches = (refl, refl)
touched-ending t entries (Ending Cleared) old new can touches = absurd touches

differs : (lines n : ℕ) → Writing lines ≢ Writing n → nat_eq lines n ≡ false
differs lines n other = elim (cases_Bool (nat_eq lines n)) [
  | inl same ↦ (let all : lines ≡ n = grind (arith, nat_tests, same) in absurd (other (ap (λ k. Writing k) all)))
  | inr is ↦ is
]

-- not all lines are written back yet
writes-one : (lines n : ℕ) → lines ≤ n → nat_eq lines n ≡ false
    → leads_by_fence (Ending (Writing lines)) (Ending (if nat_lt lines n then Writing (lines + 1) else AllFenced)) ≡ false
writes-one lines n most other = elim (cases_Bool (nat_lt lines n)) [
  | inl less ↦ subst (λ b. leads_by_fence (Ending (Writing lines)) (Ending (if b then Writing (lines + 1) else AllFenced))
      ≡ false) (sym less) refl
  | inr past ↦ absurd (let wrong = other in grind (arith, nat_tests, most, past, wrong))
]

ended-ending : (size depth : ℕ) (entries : List Entry) (u : Underway) → CanEnd u
    → FitsUnderway size depth entries u → end_stage u ≢ Writing (length entries) → u ≢ Ending Cleared
    → (leads_by_fence u (Ending (next_end (length entries) (end_stage u))) ≡ false)
    × (is_fence_next (length entries) u ≡ false)
ended-ending size depth entries Nothing can fits other not_last = (refl, refl)
ended-ending size depth entries (Adding e stage) can fits other not_last = absurd can
ended-ending size depth entries (Ending (Writing lines)) can fits other not_last =
    let no = differs lines (length entries) other in (writes-one lines (length entries) fits.2 no, no)
ended-ending size depth entries (Ending AllFenced) can fits other not_last = (refl, refl)
ended-ending size depth entries (Ending Clearing) can fits other not_last = (refl, refl)
ended-ending size depth entries (Ending Cleared) can fits other not_last = absurd (not_last refl)

fenced-writing : (entries : List Entry) (lines : ℕ) → Writing lines ≡ Writing (length entries)
    → nat_eq lines (length entries) ≡ true
fenced-writing entries lines is = let same : lines ≡ length entries = cc in grind (arith, nat_tests, same)

fenced-ending : (entries : List Entry) (u : Underway) → CanEnd u → entries ≢ []
    → end_stage u ≡ Writing (length entries)
    → (leads_by_fence u (Ending AllFenced) ≡ true) × (is_fence_next (length entries) u ≡ true)
fenced-ending [] Nothing can some is = absurd (some refl)
fenced-ending (e ∷ entries) Nothing can some is =
    absurd (let none : 0 ≡ length (e ∷ entries) = cc in omega (arith, none))
fenced-ending entries (Adding e stage) can some is = absurd can
fenced-ending entries (Ending (Writing lines)) can some is = (refl, fenced-writing entries lines is)
fenced-ending entries (Ending AllFenced) can some is = absurd (let no = is in cc)
fenced-ending entries (Ending Clearing) can some is = absurd (let no = is in cc)
fenced-ending entries (Ending Cleared) can some is = absurd (let no = is in cc)

failed-ending : (u : Underway) → leads_by_fence u (Ending (failed_end (end_stage u))) ≡ false
failed-ending Nothing = refl
failed-ending (Adding e Begun) = refl
failed-ending (Adding e Written) = refl
failed-ending (Adding e Fenced) = refl
failed-ending (Adding e Counting) = refl
failed-ending (Adding e Counted) = refl
failed-ending (Ending (Writing lines)) = refl
failed-ending (Ending AllFenced) = refl
failed-ending (Ending Clearing) = refl
failed-ending (Ending Cleared) = refl

fenced-alone : (before after : Log) (old new : Memory) → FencesRegion before after old new → FencesAlone old new
fenced-alone before after old new made = record { memory = made.memory; fences = made.made }

fenced-seen : (before after : Log) (old new : Memory) → CanEnd before.underway → KeepsLog after new
    → FencesRegion before after old new → (makes_fence before after ≡ true) × (fences_next before ≡ true)
fenced-seen before after old new can keeps made =
    let kept : KeepsLog (record before { underway = Ending AllFenced }) new
    = subst (λ (log : Log). KeepsLog log new) made.log keeps in
    let seen = fenced-ending before.entries before.underway can kept.fits.1 made.next in
    (ap (λ (log : Log). leads_by_fence before.underway log.underway) made.log ∙ seen.0, seen.1)

emptied-seen : (before after : Log) (old new : Memory) → EndsLog before after old new
    → (makes_fence before after ≡ true) × (fences_next before ≡ true)
emptied-seen before after old new made = (
  ap (λ (log : Log). leads_by_fence before.underway log.underway) made.log
      ∙ ap (λ (u : Underway). leads_by_fence u Nothing) made.last,
  ap (is_fence_next (length before.entries)) made.last,
)

pub ending-sees : EndingSeesFences
ending-sees = record {
  touched = λ before after old new can made. subst
      (λ (u : Underway). (leads_by_fence before.underway u ≡ false) × (fences_next before ≡ false))
      (sym (underway-is before after _ made.log))
      (touched-ending before.thread before.entries before.underway old new can made.touches);
  ended = λ before after old new can keeps made. subst
      (λ (u : Underway). (leads_by_fence before.underway u ≡ false) × (fences_next before ≡ false))
      (sym (underway-is before after _ made.log))
      (ended-ending old.size before.depth before.entries before.underway can keeps.fits made.no_fence made.not_last);
  fenced = λ before after old new can keeps made. (
      let seen = fenced-seen before after old new can keeps made in
      (seen.0, seen.1, fenced-alone before after old new made));
  emptied = λ before after old new made. (
      let seen = emptied-seen before after old new made in
      (seen.0, seen.1, record { memory = made.memory; fences = made.made }));
  failed = λ before after old new made.
      ap (λ (log : Log). leads_by_fence before.underway log.underway) made.log ∙ failed-ending before.underway;
}

-- ---- of a call, whatever came of it

no-fence : (before after : Log) (old new : Memory) → makes_fence before after ≡ false
    → makes_fence before after ≡ true → FencesAlone old new
no-fence before after old new none is = absurd (let wrong : false ≡ true = sym none ∙ is in cc)

-- where it made a fence, it did nothing else
pub logging-fences : (e : Entry) (before after : Log) (old new : Memory) → CanAdd before.underway e
    → TouchesFor e before after old new ⊎ (AddsOn e before after old new
    ⊎ (AddsEntry e before after old new ⊎ FailsToAdd e before after old new))
    → makes_fence before after ≡ true → FencesAlone old new
logging-fences e before after old new can (inl touches) =
    no-fence before after old new (logging-sees.touched e before after old new can touches).0
logging-fences e before after old new can (inr (inl adds)) = (logging-sees.added e before after old new can adds).1
logging-fences e before after old new can (inr (inr (inl counts))) = λ is.
    (logging-sees.counted e before after old new can counts).2
logging-fences e before after old new can (inr (inr (inr fails))) =
    no-fence before after old new (logging-sees.failed e before after old new fails)

-- neither the fence behind all that was logged nor the last one
pub part-fences-none : (before after : Log) (old new : Memory) → CanEnd before.underway → KeepsLog before old
    → TouchesToEnd before after old new ⊎ (EndsOn before after old new ⊎ FailsToEnd before after old new)
    → makes_fence before after ≡ false
part-fences-none before after old new can keeps (inl touches) =
    (ending-sees.touched before after old new can touches).0
part-fences-none before after old new can keeps (inr (inl ends)) =
    (ending-sees.ended before after old new can keeps ends).0
part-fences-none before after old new can keeps (inr (inr fails)) =
    ending-sees.failed before after old new fails

-- with nothing under way before and after no call was made
pub idle-fences-none : (before after : Log) → before.underway ≡ Nothing → makes_fence before after ≡ false
idle-fences-none before after idle =
    ap (λ (u : Underway). leads_by_fence u after.underway) idle ∙ nothing after.underway
  where
    nothing : (u : Underway) → leads_by_fence Nothing u ≡ false
    nothing Nothing = refl
    nothing (Adding e stage) = refl
    nothing (Ending stage) = refl
