-- The words that a region logged, as it is ended.
use Rattle.std.proofs.Common.{◌≡◌, ◌≢◌, ◌⊎◌, inl, inr, ⊎_elim, ◌<◌, ◌≤◌, ◌+◌, ℕ, true, List, [], length, All, slice_index_or}
use Rattle.std.proofs.Common.{refl, sym, ◌∙◌, ap, subst, arith}
use Rattle.std.specs.Prelude.{nat_lt, slice_get, MatchOption}
use Rattle.std.specs.List.{AllWithin}
use Rattle.std.proofs.lemmas.Bool.{cases_Bool, ltb-true, cases_lt}
use Rattle.std.proofs.lemmas.Bool.Decides.{nat_tests}
use Rattle.std.proofs.lemmas.Option.{slice_get-get_or, slice_get_past}
use Rattle.image_layout.specs.Places.{logs, log_head_line}
use Rattle.image_meaning.specs.Logs.{may_be_logged}
use Rattle.line_memory.specs.Memory.{Memory, shown, IsWritten, IsDurable}
use Rattle.line_memory.specs.Moments.{KeepsShown}
use Rattle.region_log.specs.declared.entry.Entry.{Entry}
use Rattle.region_log.specs.declared.entry.EndStage.{EndStage}
use Rattle.region_log.specs.declared.entry.EndStage.TheVariants.{Writing, AllFenced, Clearing, Cleared}
use Rattle.region_log.specs.declared.entry.Underway.{Underway}
use Rattle.region_log.specs.declared.entry.Underway.TheVariants.{Nothing, Adding, Ending}
use Rattle.region_log.specs.Kept.{HoldsEnded, HoldsRegion, KeepsLog, KeepsRegion}
use Rattle.region_log.specs.Log.{Log}
use Rattle.region_log.specs.Made.{Puts, PutsThenCalls, Fences}
use Rattle.region_log.specs.Stages.{CanEnd, end_stage, next_end, failed_end, words_to_end, HasEnded}
use Rattle.region_log.proofs.Frames.{put-durable}

abbrev WordsWritten : Memory → List Entry → ℕ → Type 0
WordsWritten m entries n = AllWithin (λ (e : Entry). IsWritten m e.spot.line e.spot.word) entries 0 n

abbrev WordsDurable : Memory → List Entry → Type 0
WordsDurable m entries = All (λ (e : Entry). IsDurable m e.spot.line e.spot.word) entries

begins : (m : Memory) (entries : List Entry) (underway : Underway) → CanEnd underway
    → HoldsRegion m entries underway → HoldsEnded m entries (end_stage underway)
begins m entries Nothing can holds = λ k d low below. absurd (omega (arith, below))
begins m entries (Adding e stage) can holds = absurd can
begins m entries (Ending stage) can holds = holds

-- what a call keeps
durable-call : (old new : Memory) → KeepsShown old new → (l w : ℕ) → IsDurable old l w → IsDurable new l w
durable-call old new keeps l w durable v left =
    let now : shown new l w ≡ shown old l w = durable (shown new l w)
    (keeps.leaves l w (shown new l w) (inl refl)) in
    durable v (keeps.leaves l w v left) ∙ sym now

ended-call : (old new : Memory) → KeepsShown old new → (entries : List Entry) (stage : EndStage)
    → HoldsEnded old entries stage → HoldsEnded new entries stage
ended-call old new keeps entries (Writing lines) holds = λ k d low below.
    keeps.written (slice_index_or entries k d).spot.line (slice_index_or entries k d).spot.word
    (holds k d low below)
ended-call old new keeps entries AllFenced holds = λ k d below.
    durable-call old new keeps (slice_index_or entries k d).spot.line (slice_index_or entries k d).spot.word
    (holds k d below)
ended-call old new keeps entries Clearing holds = λ k d below.
    durable-call old new keeps (slice_index_or entries k d).spot.line (slice_index_or entries k d).spot.word
    (holds k d below)
ended-call old new keeps entries Cleared holds = λ k d below.
    durable-call old new keeps (slice_index_or entries k d).spot.line (slice_index_or entries k d).spot.word
    (holds k d below)

pub region-call : (old new : Memory) → KeepsShown old new → (entries : List Entry) (underway : Underway)
    → HoldsRegion old entries underway
    → HoldsRegion new entries underway
region-call old new keeps entries Nothing holds = tt
region-call old new keeps entries (Adding e stage) holds = tt
region-call old new keeps entries (Ending stage) holds = ended-call old new keeps entries stage holds

-- no logged word is a count's
pub not_head : (size line t : ℕ) → may_be_logged size line ≡ true → t < logs → line ≢ log_head_line t
not_head size line t may below same = grind (arith, nat_tests)

count-put : (t n : ℕ) (entries : List Entry) (old placed : Memory)
    → ((k : ℕ) (d : Entry) → k < length entries → (slice_index_or entries k d).spot.line ≢ log_head_line t)
    → Puts (record { line = log_head_line t; word = 0; value = n }) old placed → WordsDurable old entries
    → WordsDurable placed entries
count-put t n entries old placed places put durable = λ k d below.
    put-durable (record { line = log_head_line t; word = 0; value = n }) old placed put
    (slice_index_or entries k d).spot.line (slice_index_or entries k d).spot.word
    (λ same. absurd (places k d below same)) (durable k d below)

-- the words that are logged are all written back, and a fence is made
all-durable : (old new : Memory) (entries : List Entry) (n : ℕ) → length entries ≤ n → Fences old new
    → WordsWritten old entries n → WordsDurable new entries
all-durable old new entries n enough fences written = λ k d below.
    fences.durable (slice_index_or entries k d).spot.line (slice_index_or entries k d).spot.word
    (written k d (omega arith) (omega (arith, enough, below)))

-- one more is
one-more : (old new : Memory) (entries : List Entry) (n : ℕ) → n < length entries → KeepsShown old new
    → WordsWritten old entries n
    → MatchOption (slice_get entries n) (Fences old new) (λ e. (w : ℕ) → IsWritten new e.spot.line w)
    → WordsWritten new entries (n + 1)
one-more old new entries n room keeps written made = λ k d low below. elim (cases_lt k n) [
  | inl before ↦ keeps.written (slice_index_or entries k d).spot.line (slice_index_or entries k d).spot.word
      (written k d low before)
  | inr above ↦
      (let at : k ≡ n = omega (arith, above, below) in
      let here : (w : ℕ) → IsWritten new (slice_index_or entries n d).spot.line w = rw
      (slice_get-get_or entries n d room) at made in
      rw at (here (slice_index_or entries n d).spot.word))
]

module _ (t : ℕ) (entries : List Entry) (old new : Memory)
    (places : (k : ℕ) (d : Entry) → k < length entries
    → (slice_index_or entries k d).spot.line ≢ log_head_line t)
    (underway : Underway) (can : CanEnd underway) where
  abbrev at : EndStage
  at = end_stage underway

  calls_of : PutsThenCalls [] old new → KeepsShown old new
  calls_of made = subst (λ (m : Memory). KeepsShown m new) made.puts made.calls

  pub region-touch : PutsThenCalls [] old new → HoldsRegion old entries underway → HoldsEnded new entries at
  region-touch made holds = ended-call old new (calls_of made) entries at
      (begins old entries underway can holds)

  lowers : PutsThenCalls (words_to_end t AllFenced) old new → WordsDurable old entries
      → WordsDurable new entries
  lowers made durable =
      let there : WordsDurable made.puts.0 entries = count-put t 0 entries old made.puts.0 places made.puts.1
      durable in
      ended-call made.placed new made.calls entries AllFenced
      (subst (λ (m : Memory). WordsDurable m entries) (sym made.puts.2) there)

  made-at : (stage : EndStage) → PutsThenCalls (words_to_end t stage) old new
      → HasEnded t entries stage old new → HoldsEnded old entries stage
      → HoldsEnded new entries (next_end (length entries) stage)
  made-at (Writing lines) made has holds = elim (cases_Bool (nat_lt lines (length entries))) [
    | inl less ↦
        (let below : lines < length entries = ltb-true lines (length entries) less in
        let keeps : KeepsShown old new = calls_of made in
        rw less (one-more old new entries lines below keeps holds has))
    | inr none ↦
        (let above : length entries ≤ lines = grind (arith, nat_tests) in
        let fences : Fences old new = rw (slice_get_past entries lines above) at has in
        rw none (all-durable old new entries lines above fences holds))
  ]
  made-at AllFenced made has holds = lowers made holds
  made-at Clearing made has holds = lowers made holds
  made-at Cleared made has holds = ended-call old new (calls_of made) entries Cleared holds

  pub region-on : PutsThenCalls (words_to_end t at) old new → HasEnded t entries at old new
      → HoldsRegion old entries underway
      → HoldsEnded new entries (next_end (length entries) at)
  region-on made has holds = made-at at made has (begins old entries underway can holds)

  to-failed : (m : Memory) (stage : EndStage) → HoldsEnded m entries stage
      → HoldsEnded m entries (failed_end stage)
  to-failed m (Writing lines) holds = holds
  to-failed m AllFenced holds = holds
  to-failed m Clearing holds = holds
  to-failed m Cleared holds = holds

  failed-at : (stage : EndStage) → PutsThenCalls (words_to_end t stage) old new
      → HoldsEnded old entries stage → HoldsEnded new entries (failed_end stage)
  failed-at (Writing lines) made holds = ended-call old new (calls_of made) entries (Writing lines) holds
  failed-at AllFenced made holds = lowers made holds
  failed-at Clearing made holds = lowers made holds
  failed-at Cleared made holds = ended-call old new (calls_of made) entries Cleared holds

  pub region-fail : PutsThenCalls [] old new ⊎ PutsThenCalls (words_to_end t at) old new
      → HoldsRegion old entries underway
      → HoldsEnded new entries (failed_end at)
  region-fail (inl touched) holds = to-failed new at (region-touch touched holds)
  region-fail (inr made) holds = failed-at at made (begins old entries underway can holds)

-- the same, as the code names what it goes by
module _ (before now : Log) (old new : Memory) (is : before ≡ now) (keeps : KeepsLog now old)
    (can : CanEnd now.underway)
    (stage : EndStage) (is_stage : stage ≡ end_stage before.underway) (region : KeepsRegion now old) where
  held : KeepsLog before old
  held = subst (λ (log : Log). KeepsLog log old) (sym is) keeps

  can_end : CanEnd before.underway
  can_end = subst (λ (log : Log). CanEnd log.underway) (sym is) can

  holds : HoldsRegion old before.entries before.underway
  holds = subst (λ (log : Log). KeepsRegion log old) (sym is) region

  no_heads : (k : ℕ) (d : Entry) → k < length before.entries
      → (slice_index_or before.entries k d).spot.line ≢ log_head_line before.thread
  no_heads k d below = not_head old.size (slice_index_or before.entries k d).spot.line before.thread
      (held.places k d below) held.thread

  words : PutsThenCalls (words_to_end before.thread stage) old new
      → PutsThenCalls (words_to_end before.thread (end_stage before.underway)) old new
  words made = subst (λ (s : EndStage). PutsThenCalls (words_to_end before.thread s) old new) is_stage made

  pub now-touch : PutsThenCalls [] old new → HoldsEnded new before.entries stage
  now-touch made = subst (λ (s : EndStage). HoldsEnded new before.entries s) (sym is_stage)
      (region-touch before.thread before.entries old new no_heads before.underway can_end made holds)

  pub now-on : (next : EndStage) → next ≡ next_end (length before.entries) stage
      → PutsThenCalls (words_to_end before.thread stage) old new
      → HasEnded before.thread before.entries stage old new → HoldsEnded new before.entries next
  now-on next is_next made has =
      let there : HasEnded before.thread before.entries (end_stage before.underway) old new =
      subst (λ (s : EndStage). HasEnded before.thread before.entries s old new) is_stage has in
      let same : next_end (length before.entries) (end_stage before.underway) ≡ next =
      ap (next_end (length before.entries)) (sym is_stage) ∙ sym is_next in
      subst (λ (s : EndStage). HoldsEnded new before.entries s) same
      (region-on before.thread before.entries old new no_heads before.underway can_end (words made) there
      holds)

  pub now-fail : (failed : EndStage) → failed ≡ failed_end stage
      → PutsThenCalls [] old new ⊎ PutsThenCalls (words_to_end before.thread stage) old new
      → HoldsEnded new before.entries failed
  now-fail failed is_failed either =
      let same : failed_end (end_stage before.underway) ≡ failed = ap failed_end (sym is_stage)
      ∙ sym is_failed in
      subst (λ (s : EndStage). HoldsEnded new before.entries s) same
      (region-fail before.thread before.entries old new no_heads before.underway can_end
      (⊎_elim (λ touched. inl touched) (λ made. inr (words made)) either) holds)
