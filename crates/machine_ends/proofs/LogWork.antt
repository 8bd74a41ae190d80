-- What a log has left to do: each call that is made lowers it, one that fails leaves it; no line is touched.
use Rattle.std.proofs.Common.{◌≡◌, ◌≢◌, inl, inr, ℕ, ◌+◌, ◌-◌, ◌<◌, ◌≤◌, true, List, [], ◌∷◌, ◌++◌, length, refl, sym, ◌∙◌, ap}
use Rattle.std.proofs.Common.{subst, arith, lt-ltb, if◌then◌else◌}
use Rattle.std.specs.Prelude.{slice_set, slice_index_or, sum_by, MatchOption}
use Rattle.std.proofs.lemmas.Bool.{cases_lt, le-ltb}
use Rattle.std.proofs.lemmas.Bool.Decides.{nat_tests}
use Rattle.std.proofs.lemmas.List.{length_push}
use Rattle.std.proofs.lemmas.Option.{slice_get-get_or, slice_get_past}
use Rattle.std.proofs.lemmas.List.Sums.{sum_by-set}
use Rattle.line_memory.specs.Memory.{Memory}
use Rattle.line_memory.proofs.Residence.{every_line_is_resident}
use Rattle.image_layout.specs.Places.{logs, log_entries, min_lines, log_head_line, log_entry_line}
use Rattle.image_meaning.specs.Logs.{may_be_logged}
use Rattle.region_log.specs.declared.entry.Entry.{Entry}
use Rattle.region_log.specs.declared.entry.EntryStage.{EntryStage}
use Rattle.region_log.specs.declared.entry.EntryStage.TheVariants.{Begun, Written, Fenced, Counting, Counted}
use Rattle.region_log.specs.declared.entry.EndStage.{EndStage}
use Rattle.region_log.specs.declared.entry.EndStage.TheVariants.{Writing, AllFenced, Clearing, Cleared}
use Rattle.region_log.specs.declared.entry.Underway.{Underway}
use Rattle.region_log.specs.declared.entry.Underway.TheVariants.{Nothing, Adding, Ending}
use Rattle.region_log.specs.Kept.{FitsUnderway, KeepsLog}
use Rattle.region_log.specs.Log.{Log}
use Rattle.region_log.specs.Made.{Touches}
use Rattle.region_log.specs.Stages.{CanEnd, entry_stage, next_stage, failed_stage, TouchesLine, end_stage, next_end, failed_end}
use Rattle.region_log.specs.Stages.{TouchesLineToEnd}
use Rattle.region_log.specs.Steps.{TouchesFor, AddsOn, AddsEntry, FailsToAdd, TouchesToEnd, EndsOn, FencesRegion, EndsLog}
use Rattle.region_log.specs.Steps.{FailsToEnd}
use Rattle.region_events.specs.Laws.{LogsOn, CallsToEnd, with_entry}
use Rattle.region_events.proofs.Places.{head_inside, entry_inside}
use Rattle.machine_laws.specs.Passed.{empty_log}
use Rattle.machine_ends.specs.Work.{adding_work, ending_work, logged_work, underway_work, log_work}

-- ---- all logs

abbrev pub logs_left : List Log → ℕ
logs_left all = sum_by log_work all

pub log-set : (all : List Log) (t : ℕ) (log : Log) → t < length all
    → logs_left (slice_set all t log) + log_work (slice_index_or all t (empty_log t))
    ≡ logs_left all + log_work log
log-set all t log within = sum_by-set log_work all t log (empty_log t) within

-- ---- an entry is added

next-less : (stage : EntryStage) → stage ≢ Counted → adding_work (next_stage stage) + 1 ≤ adding_work stage
next-less Begun other = omega arith
next-less Written other = omega arith
next-less Fenced other = omega arith
next-less Counting other = omega arith
next-less Counted other = absurd (other refl)

failed-same : (stage : EntryStage) → adding_work (failed_stage stage) ≡ adding_work stage
failed-same Begun = refl
failed-same Written = refl
failed-same Fenced = refl
failed-same Counting = refl
failed-same Counted = refl

-- once the entry counts
counts-less : (entries : List Entry) (e : Entry) → logged_work (entries ++ e ∷ []) ≡ (length entries + 1) + 3
counts-less [] e = refl
counts-less (x ∷ entries) e = let more = length_push entries e in omega (arith, more)

module _ (log log' : Log) (e : Entry) (old new : Memory) (l : LogsOn log log' e old new) where
  -- the stage of the entry, and what is left with it
  at-stage : entry_stage log.underway ≡ l.adding.0
  at-stage = ap entry_stage l.adding.1

  left-now : log_work log ≡ (length log.entries + 1) + 3 + adding_work (entry_stage log.underway)
  left-now = ap (underway_work log.entries) l.adding.1
      ∙ ap (λ stage. (length log.entries + 1) + 3 + adding_work stage) (sym at-stage)

  pub added-less : AddsOn e log log' old new → log_work log' + 1 ≤ log_work log
  added-less made =
      let now : log_work log'
      ≡ (length log.entries + 1) + 3 + adding_work (next_stage (entry_stage log.underway))
      = ap log_work made.log in
      let less = next-less (entry_stage log.underway) made.not_last in
      let was = left-now in
      omega (arith, now, less, was)

  pub logged-less : AddsEntry e log log' old new → log_work log' + 1 ≤ log_work log
  logged-less made =
      let now : log_work log' ≡ (length log.entries + 1) + 3
      = ap log_work made.log ∙ counts-less log.entries e in
      let last : adding_work (entry_stage log.underway) ≡ 1 = ap adding_work made.last in
      let was = left-now in
      omega (arith, now, last, was)

  pub unlogged-same : FailsToAdd e log log' old new → log_work log' ≡ log_work log
  unlogged-same made =
      ap log_work made.log
      ∙ ap (λ k. (length log.entries + 1) + 3 + k) (failed-same (entry_stage log.underway)) ∙ sym left-now

  -- the line that its stage needs is there
  stage-there : (stage : EntryStage) → log.thread < logs → length log.entries < log_entries
      → min_lines ≤ old.size → TouchesLine log.thread (length log.entries) stage old new → ⊥
  stage-there Begun below room long touches = touches.lacking (every_line_is_resident old
      (log_entry_line log.thread (length log.entries))
      (entry_inside log.thread (length log.entries) old.size below room long))
  stage-there Written below room long touches = touches
  stage-there Fenced below room long touches = touches.lacking (every_line_is_resident old
      (log_head_line log.thread) (head_inside log.thread old.size below long))
  stage-there Counting below room long touches = touches.lacking (every_line_is_resident old
      (log_head_line log.thread) (head_inside log.thread old.size below long))
  stage-there Counted below room long touches = touches

  pub untouched : KeepsLog log old → TouchesFor e log log' old new → ⊥
  untouched keeps made =
      let fits : FitsUnderway old.size log.depth log.entries (Adding e l.adding.0)
      = subst (FitsUnderway old.size log.depth log.entries) l.adding.1 keeps.fits in
      stage-there (entry_stage log.underway) keeps.thread fits.1 keeps.size made.touches

-- ---- a place is guarded

-- its entry's four calls, and where it is the first one the four by which the region ends
pub guarded-more : (log : Log) (e : Entry) → log.underway ≡ Nothing
    → log_work (with_entry log e) ≤ log_work log + 8
guarded-more log e idle = by-entries log.entries (ap (underway_work log.entries) idle)
  where
    by-entries : (entries : List Entry) → underway_work entries log.underway ≡ logged_work entries
        → underway_work entries (Adding e Begun) ≤ underway_work entries log.underway + 8
    by-entries [] was = omega (arith, was)
    by-entries (x ∷ entries) was = omega (arith, was)

-- ---- a region is ended

-- it has logged something
some-logged : (size depth : ℕ) (entries : List Entry) (stage : EndStage)
    → FitsUnderway size depth entries (Ending stage) → entries ≢ []
some-logged size depth entries (Writing lines) fits = fits.1
some-logged size depth entries AllFenced fits = fits.1
some-logged size depth entries Clearing fits = fits.1
some-logged size depth entries Cleared fits = fits.1

-- what is left as the end begins is what is left of it
begins-same : (entries : List Entry) (underway : Underway) → CanEnd underway → entries ≢ []
    → underway_work entries underway ≡ ending_work (length entries) (end_stage underway)
begins-same [] Nothing can some = absurd (some refl)
begins-same (e ∷ entries) Nothing can some = omega arith
begins-same entries (Adding e stage) can some = absurd can
begins-same entries (Ending stage) can some = refl

next-end-less : (n : ℕ) (stage : EndStage) → stage ≢ Cleared
    → ending_work n (next_end n stage) + 1 ≤ ending_work n stage
next-end-less n (Writing lines) other = elim (cases_lt lines n) [
  | inl less ↦ subst (λ b. ending_work n (if b then Writing (lines + 1) else AllFenced) + 1
      ≤ (n - lines) + 3) (sym (lt-ltb lines n less)) (omega (arith, less))
  | inr most ↦ subst (λ b. ending_work n (if b then Writing (lines + 1) else AllFenced) + 1
      ≤ (n - lines) + 3) (sym (le-ltb lines n most)) (omega arith)
]
next-end-less n AllFenced other = omega arith
next-end-less n Clearing other = omega arith
next-end-less n Cleared other = absurd (other refl)

failed-end-same : (n : ℕ) (stage : EndStage) → ending_work n (failed_end stage) ≡ ending_work n stage
failed-end-same n (Writing lines) = refl
failed-end-same n AllFenced = refl
failed-end-same n Clearing = refl
failed-end-same n Cleared = refl

-- the stage before the last is that of an end that is under way
last-is : (underway : Underway) → CanEnd underway → end_stage underway ≡ Cleared → underway ≡ Ending Cleared
last-is Nothing can is = absurd (let wrong : Writing 0 ≡ Cleared = is in cc)
last-is (Adding e stage) can is = absurd can
last-is (Ending stage) can is = ap (λ s. Ending s) is

no_entry : Entry
no_entry = record { spot = record { line = 0; word = 0; in_line = omega arith }; old = 0 }

-- a word that may be logged lies in the image
place-inside : (size line : ℕ) → min_lines ≤ size → may_be_logged size line ≡ true → line < size
place-inside size line long may = grind (arith, nat_tests)

module _ (log log' : Log) (old new : Memory) (c : CallsToEnd log log' old new) where
  -- the log is at a stage of its end then
  some-then : (stage : EndStage) → log' ≡ record log { underway = Ending stage } → log.entries ≢ []
  some-then stage is =
      let keeps : KeepsLog (record log { underway = Ending stage }) new
      = subst (λ (x : Log). KeepsLog x new) is c.steps.keeps in
      some-logged new.size log.depth log.entries stage keeps.fits

  left-first : log.entries ≢ [] → log_work log ≡ ending_work (length log.entries) (end_stage log.underway)
  left-first some = begins-same log.entries log.underway c.can some

  pub ended-less : EndsOn log log' old new → log_work log' + 1 ≤ log_work log
  ended-less made =
      let now : log_work log'
      ≡ ending_work (length log.entries) (next_end (length log.entries) (end_stage log.underway))
      = ap log_work made.log in
      let less = next-end-less (length log.entries) (end_stage log.underway)
      (λ last. made.not_last (last-is log.underway c.can last)) in
      let was = left-first (some-then _ made.log) in
      omega (arith, now, less, was)

  pub closed-less : FencesRegion log log' old new → log_work log' + 1 ≤ log_work log
  closed-less made =
      let now : log_work log' ≡ 2 = ap log_work made.log in
      let was : log_work log ≡ (length log.entries - length log.entries) + 3
      = left-first (some-then AllFenced made.log) ∙ ap (ending_work (length log.entries)) made.next in
      omega (arith, now, was)

  pub unended-same : FailsToEnd log log' old new → log_work log' ≡ log_work log
  unended-same made =
      ap log_work made.log ∙ failed-end-same (length log.entries) (end_stage log.underway)
      ∙ sym (left-first (some-then _ made.log))

  pub emptied-less : EndsLog log log' old new → log_work log' + 1 ≤ log_work log
  emptied-less made =
      let now : log_work log' ≡ 0 = ap log_work made.log in
      let was : log_work log ≡ 1 = ap (underway_work log.entries) made.last in
      omega (arith, now, was)

  -- the line that a stage of the end needs is there
  logged-there : KeepsLog log old → (lines : ℕ)
      → TouchesLineToEnd log.thread log.entries (Writing lines) old new → ⊥
  logged-there keeps lines touches = elim (cases_lt lines (length log.entries)) [
    | inl room ↦
        (let e = slice_index_or log.entries lines no_entry in
        let at : Touches e.spot.line old new
        = subst (λ o. MatchOption o ⊥ (λ (x : Entry). Touches x.spot.line old new))
        (slice_get-get_or log.entries lines no_entry room) touches in
        at.lacking (every_line_is_resident old e.spot.line
        (place-inside old.size e.spot.line keeps.size (keeps.places lines no_entry room))))
    | inr past ↦ subst (λ o. MatchOption o ⊥ (λ (x : Entry). Touches x.spot.line old new))
        (slice_get_past log.entries lines past) touches
  ]

  end-there : KeepsLog log old → (stage : EndStage)
      → TouchesLineToEnd log.thread log.entries stage old new → ⊥
  end-there keeps (Writing lines) touches = logged-there keeps lines touches
  end-there keeps AllFenced touches = touches.lacking (every_line_is_resident old (log_head_line log.thread)
      (head_inside log.thread old.size keeps.thread keeps.size))
  end-there keeps Clearing touches = touches.lacking (every_line_is_resident old (log_head_line log.thread)
      (head_inside log.thread old.size keeps.thread keeps.size))
  end-there keeps Cleared touches = touches

  pub untouched-end : KeepsLog log old → TouchesToEnd log log' old new → ⊥
  untouched-end keeps made = end-there keeps (end_stage log.underway) made.touches
