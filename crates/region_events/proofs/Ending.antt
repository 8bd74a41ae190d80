-- A region is ended, a call at a time.
use Rattle.std.proofs.Common.{◌≡◌, ◌≢◌, ◌⊎◌, inl, inr, ℕ, ◌<◌, ◌≤◌, false, List, [], length, refl, sym, ◌∙◌, ap, subst, arith}
use Rattle.std.proofs.Common.{lt-ltb, eq-eqb}
use Rattle.image_layout.specs.Places.{log_head_line}
use Rattle.line_memory.specs.Memory.{Memory}
use Rattle.run_history.specs.declared.act.Op.TheVariants as op
use Rattle.run_history.specs.Worlds.{depth_of}
use Rattle.run_history.specs.Knowing.{Knowledge}
use Rattle.stop_theorem.specs.Layouts.{Layout}
use Rattle.stop_theorem.specs.Running.{State, known_at, with_act, with_memory, Events, none, more, Closing, Ended}
use Rattle.region_log.specs.declared.entry.Entry.{Entry}
use Rattle.region_log.specs.declared.entry.EndStage.{EndStage}
use Rattle.region_log.specs.declared.entry.EndStage.TheVariants.{Writing, AllFenced, Clearing, Cleared}
use Rattle.region_log.specs.declared.entry.Underway.{Underway}
use Rattle.region_log.specs.declared.entry.Underway.TheVariants.{Nothing, Adding, Ending}
use Rattle.region_log.specs.Guarding.{is_closing}
use Rattle.region_log.specs.Kept.{IsWhole, IsClearing, FitsUnderway, KeepsLog, KeepsRegion}
use Rattle.region_log.specs.Log.{Log}
use Rattle.region_log.specs.Made.{PutsAll, PutsThenCalls}
use Rattle.region_log.specs.Stages.{CanEnd, end_stage, failed_end, next_end, words_to_end}
use Rattle.region_log.specs.Steps.{TouchesToEnd, EndsOn, FailsToEnd, FencesRegion, EndsLog}
use Rattle.region_events.specs.Guards.{KeepsGuards, StandsWith}
use Rattle.region_events.specs.Laws.{GoesWith, CallsToEnd, EndingIsEvents, FencesAreClosings, LastCallsAreEnds}
use Rattle.region_events.proofs.Calls.{one_event, quiet_event, calls_behind, only_calls}
use Rattle.region_events.proofs.Going.{standing_of, goes}
use Rattle.region_events.proofs.Acts.{closing_keeps, end_keeps}
use Rattle.region_events.proofs.Kept.{log_with, same_words}
use Rattle.region_events.proofs.Rules.{writing_open}
use Rattle.region_events.proofs.Standing.{by_act}
use Rattle.region_events.proofs.Words.{count_lowered, counts_some, counts_none, some_length}

-- ---- stages

pub ending_one : (size depth : ℕ) (entries : List Entry) (stage : EndStage)
    → FitsUnderway size depth entries (Ending stage) → (depth ≡ 1) × (entries ≢ [])
ending_one size depth entries (Writing lines) fits = (fits.0, fits.1)
ending_one size depth entries AllFenced fits = fits
ending_one size depth entries Clearing fits = fits
ending_one size depth entries Cleared fits = fits

pub touched_closing : (underway : Underway) → CanEnd underway
    → is_closing (Ending (end_stage underway)) ≡ is_closing underway
touched_closing Nothing can = refl
touched_closing (Adding e stage) can = absurd can
touched_closing (Ending stage) can = refl

pub failed_closing : (underway : Underway) → CanEnd underway
    → is_closing (Ending (failed_end (end_stage underway))) ≡ is_closing underway
failed_closing Nothing can = refl
failed_closing (Adding e stage) can = absurd can
failed_closing (Ending (Writing lines)) can = refl
failed_closing (Ending AllFenced) can = refl
failed_closing (Ending Clearing) can = refl
failed_closing (Ending Cleared) can = refl

-- one more line is written back
one_line : (n lines : ℕ) → lines ≤ n → Writing lines ≢ Writing n
    → is_closing (Ending (next_end n (Writing lines))) ≡ false
one_line n lines most other =
    let apart : lines ≢ n = λ same. other (ap (λ k. Writing k) same) in
    let less : lines < n = omega (arith, most, apart) in
    rw (lt-ltb lines n less) refl

pub next_closing : (size depth : ℕ) (entries : List Entry) (underway : Underway) → CanEnd underway
    → FitsUnderway size depth entries underway → end_stage underway ≢ Writing (length entries)
    → underway ≢ Ending Cleared
    → is_closing (Ending (next_end (length entries) (end_stage underway))) ≡ is_closing underway
next_closing size depth entries Nothing can fits other last =
    one_line (length entries) 0 (omega arith) other
next_closing size depth entries (Adding e stage) can fits other last = absurd can
next_closing size depth entries (Ending (Writing lines)) can fits other last =
    one_line (length entries) lines fits.2 other
next_closing size depth entries (Ending AllFenced) can fits other last = refl
next_closing size depth entries (Ending Clearing) can fits other last = refl
next_closing size depth entries (Ending Cleared) can fits other last = absurd (last refl)

-- ---- the log

-- the end is at another stage
pub further : (known : Knowledge) (lay : Layout) (t depth : ℕ) (entries : List Entry) (underway : Underway)
    (next : EndStage) → CanEnd underway → is_closing (Ending next) ≡ is_closing underway → depth ≢ 0
    → KeepsGuards known lay (log_with t depth entries underway)
    → KeepsGuards known lay (log_with t depth entries (Ending next))
further known lay t depth entries Nothing next can closing some g =
    same_words known lay t depth entries Nothing (Ending next) closing refl (λ spot is. is) (λ spot is. is)
    (λ zero. absurd (some zero)) g
further known lay t depth entries (Adding e stage) next can closing some g = absurd can
further known lay t depth entries (Ending stage) next can closing some g =
    same_words known lay t depth entries (Ending stage) (Ending next) closing refl (λ spot is. is)
    (λ spot is. is) (λ zero. absurd (some zero)) g

module _ (first : Knowledge) (s : State) (t depth : ℕ) (entries : List Entry) where
  -- ---- the words of a stage

  words_stored : (stage : EndStage) → StandsWith first (log_with t depth entries (Ending stage)) s
      → (placed : Memory) → PutsAll (words_to_end t stage) s.memory placed
      → Events first s (with_memory s placed)
  words_stored (Writing lines) w placed puts =
      subst (λ m. Events first s (with_memory s m)) (sym puts) (none s)
  words_stored AllFenced w placed puts =
      let whole : IsWhole s.memory t entries = w.keeps.words w.telling in
      subst (λ m. Events first s (with_memory s m)) (sym puts.2)
      (one_event first s (with_memory s puts.0)
      (count_lowered first s t depth entries AllFenced w.keeps.thread w.keeps.size refl w.keeps.fits.1
      whole.count w.guards w.region puts.0 puts.1))
  words_stored Clearing w placed puts =
      let is : IsClearing s.memory t entries = w.keeps.words w.telling in
      subst (λ m. Events first s (with_memory s m)) (sym puts.2)
      (one_event first s (with_memory s puts.0) (elim is.lowered [
        | inl shows ↦ quiet_event first s (record { line = log_head_line t; word = 0; value = 0 }) puts.0
            puts.1 shows
        | inr only ↦ count_lowered first s t depth entries Clearing w.keeps.thread w.keeps.size refl
            w.keeps.fits.1 only w.guards w.region puts.0 puts.1
      ]))
  words_stored Cleared w placed puts = subst (λ m. Events first s (with_memory s m)) (sym puts) (none s)

  any_words : (underway : Underway) → CanEnd underway → StandsWith first (log_with t depth entries underway) s
      → (placed : Memory) → PutsAll (words_to_end t (end_stage underway)) s.memory placed
      → Events first s (with_memory s placed)
  any_words Nothing can w placed puts = subst (λ m. Events first s (with_memory s m)) (sym puts) (none s)
  any_words (Adding e stage) can w placed puts = absurd can
  any_words (Ending stage) can w placed puts = words_stored stage w placed puts

  module _ (underway : Underway) (w : StandsWith first (log_with t depth entries underway) s) (log' : Log)
      (new : Memory) (c : CallsToEnd (log_with t depth entries underway) log' s.memory new) where
    no_words : PutsThenCalls [] s.memory new → Events first s (with_memory s new)
    no_words made = only_calls first s new made c.call c.later

    all_words : PutsThenCalls (words_to_end t (end_stage underway)) s.memory new
        → Events first s (with_memory s new)
    all_words made =
        calls_behind first s (words_to_end t (end_stage underway)) made.placed new made.puts
        (any_words underway c.can w made.placed made.puts) made.calls c.call c.later

    -- the end is at some stage then
    on : (next : EndStage) → log' ≡ log_with t depth entries (Ending next)
        → is_closing (Ending next) ≡ is_closing underway → Events first s (with_memory s new)
        → GoesWith first log' s (with_memory s new)
    on next is closing events =
        subst (λ (l : Log). KeepsLog l new → KeepsRegion l new → GoesWith first l s (with_memory s new))
        (sym is)
        (λ kept region.
        let one : depth ≡ 1 = (ending_one new.size depth entries next kept.fits).0 in
        goes first (log_with t depth entries (Ending next)) s (with_memory s new)
        (standing_of first (log_with t depth entries underway) s w) events
        (further (known_at first s) s.layout t depth entries underway next c.can closing
        (λ zero. absurd (omega (arith, one, zero))) w.guards) kept region tt)
        c.steps.keeps (c.region w.region)

    pub ends_on : TouchesToEnd (log_with t depth entries underway) log' s.memory new
        ⊎ (EndsOn (log_with t depth entries underway) log' s.memory new
        ⊎ FailsToEnd (log_with t depth entries underway) log' s.memory new)
        → GoesWith first log' s (with_memory s new)
    ends_on (inl made) = on (end_stage underway) made.log (touched_closing underway c.can)
        (no_words made.memory)
    ends_on (inr (inl made)) = on (next_end (length entries) (end_stage underway)) made.log
        (next_closing s.memory.size depth entries underway c.can w.keeps.fits made.no_fence made.not_last)
        (all_words made.memory)
    ends_on (inr (inr made)) = on (failed_end (end_stage underway)) made.log
        (failed_closing underway c.can) (elim made.memory [
          | inl touch ↦ no_words touch
          | inr all ↦ all_words all
        ])

    -- ---- all logged lines are fenced

    pub fences : FencesRegion (log_with t depth entries underway) log' s.memory new
        → GoesWith first log' s (with_act (with_memory s new) t op.Closing [])
    fences made =
        subst (λ (l : Log). KeepsLog l new → KeepsRegion l new
        → GoesWith first l s (with_act (with_memory s new) t op.Closing [])) (sym made.log)
        (λ kept region.
        let fits = ending_one new.size depth entries AllFenced kept.fits in
        let one = fits.0 in
        let whole : IsWhole new t entries = kept.words (c.steps.telling w.telling) in
        goes first (log_with t depth entries (Ending AllFenced)) s
        (with_act (with_memory s new) t op.Closing [])
        (standing_of first (log_with t depth entries underway) s w)
        (more s (with_memory s new) (with_act (with_memory s new) t op.Closing []) (no_words made.memory)
        (Closing (with_memory s new) t
        (counts_some t kept.thread new (length entries) whole.count (some_length entries fits.1))))
        (by_act first (with_memory s new) t op.Closing []
        (λ k. KeepsGuards k s.layout (log_with t depth entries (Ending AllFenced)))
        (closing_keeps (known_at first s) s.layout t depth new.calls 0 entries
        (further (known_at first s) s.layout t depth entries underway (Writing 0) c.can
        (sym (writing_open underway (length entries) made.next)) (λ zero. absurd (omega (arith, one, zero)))
        w.guards))) kept region tt)
        c.steps.keeps (c.region w.region)

  -- ---- the last call

  pub last_ends : (w : StandsWith first (log_with t depth entries (Ending Cleared)) s) (log' : Log)
      (new : Memory) → CallsToEnd (log_with t depth entries (Ending Cleared)) log' s.memory new
      → EndsLog (log_with t depth entries (Ending Cleared)) log' s.memory new
      → GoesWith first log' s (with_act (with_memory s new) t op.End [])
  last_ends w log' new c made =
      subst (λ (l : Log). KeepsLog l new → KeepsRegion l new
      → GoesWith first l s (with_act (with_memory s new) t op.End [])) (sym made.log)
      (λ kept region.
      let one : depth_of (known_at first s).world t ≡ 1 = sym w.guards.depth ∙ w.keeps.fits.0 in
      let outermost = eq-eqb (depth_of (known_at first s).world t) 1 one in
      let whole : IsWhole new t [] = kept.words (c.steps.telling w.telling) in
      goes first (log_with t 0 [] Nothing) s (with_act (with_memory s new) t op.End [])
      (standing_of first (log_with t depth entries (Ending Cleared)) s w)
      (more s (with_memory s new) (with_act (with_memory s new) t op.End [])
      (only_calls first s new made.memory c.call c.later)
      (Ended (with_memory s new) t (record {
        outermost = outermost;
        is_closing = λ some. sym w.guards.closing;
        empty = counts_none t kept.thread new whole.count;
      })))
      (by_act first (with_memory s new) t op.End [] (λ k. KeepsGuards k s.layout (log_with t 0 [] Nothing))
      (end_keeps (known_at first s) s.layout t new.calls one)) kept region tt)
      c.steps.keeps (c.region w.region)

pub ending_is_events : EndingIsEvents
ending_is_events first log s w log' new c went =
    ends_on first s log.thread log.depth log.entries log.underway w log' new c went

pub fences_are_closings : FencesAreClosings
fences_are_closings first log s w log' new c made =
    fences first s log.thread log.depth log.entries log.underway w log' new c made

pub last_calls_are_ends : LastCallsAreEnds
last_calls_are_ends first log s w log' new c made =
    let At : Underway → Type 0 = λ (u : Underway). StandsWith first (record log { underway = u }) s
    → CallsToEnd (record log { underway = u }) log' s.memory new
    → EndsLog (record log { underway = u }) log' s.memory new
    → GoesWith first log' s (with_act (with_memory s new) log.thread op.End []) in
    let there : At (Ending Cleared) = λ stands calls ends.
    last_ends first s log.thread log.depth log.entries stands log' new calls ends in
    subst At (sym made.last) there w c made
