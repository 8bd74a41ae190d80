-- What each step of a log comes to: the log is kept, and each moment leaves of it what it may.
use Rattle.std.proofs.Common.{◌≡◌, ◌⊎◌, inl, inr, ⊎_elim, ◌<◌, ℕ, true, List, [], ◌∷◌, ◌++◌, length, slice_index_or, Option}
use Rattle.std.proofs.Common.{Some, None, refl, sym, ◌∙◌, ap, subst, arith}
use Rattle.std.proofs.lemmas.List.{length_push, get_or_default}
use Rattle.std.proofs.lemmas.List.Elements.{All-push}
use Rattle.std.proofs.lemmas.List.Quantifiers.{all_pairs_push}
use Rattle.image_layout.specs.Places.{log_entries}
use Rattle.image_meaning.specs.Logs.{may_be_logged}
use Rattle.line_image.specs.Trace.{Trace, Outcome, LeftWithin}
use Rattle.line_image.specs.Told.{Told}
use Rattle.line_memory.specs.Memory.{Memory, IsTelling, CanLeave, CanLeaveAll}
use Rattle.line_memory.specs.Moments.{Goes, KeepsShown}
use Rattle.line_memory.proofs.Keeps.{keeps_itself}
use Rattle.region_log.specs.declared.entry.Entry.{Entry}
use Rattle.region_log.specs.declared.entry.EntryStage.{EntryStage}
use Rattle.region_log.specs.declared.entry.EntryStage.TheVariants.{Begun, Written, Fenced, Counting, Counted}
use Rattle.region_log.specs.declared.entry.Underway.{Underway}
use Rattle.region_log.specs.declared.entry.Underway.TheVariants.{Nothing, Adding, Ending}
use Rattle.region_log.specs.Kept.{HoldsAdding, HoldsUnderway, MayBeAdded, KeepsLog}
use Rattle.region_log.specs.Log.{Log, SameWord, IsLogged, LeftLog, LeftAdding}
use Rattle.region_log.specs.Made.{PutsThenCalls, Fences, IsOfLog, LeavesElsewhere}
use Rattle.region_log.specs.Stages.{CanAdd, entry_stage, next_stage, failed_stage, words_at, HasMade}
use Rattle.region_log.specs.Steps.{StepsOn}
use Rattle.region_log.proofs.Frames.{undisturbed-call, adding-on}
use Rattle.region_log.proofs.Left.{underway_left, adding_left}
use Rattle.region_log.proofs.Placed.{puts-image, puts-size, puts-elsewhere, words_of_log, fails-adding, placed-adding}
use Rattle.region_log.proofs.Placed.{made-adding, made-last}

-- a stop leaves something only where the image tells what was done to it
left_tells : (o : Option Trace) (n : ℕ) (c : Outcome) → LeftWithin o n c → IsTelling o
left_tells None n c left = absurd (left 0 0)
left_tells (Some h) n c left = tt

-- some words were stored, and then the image was called
module _ (before after : Log) (old placed new : Memory) (same : placed.image ≡ old.image)
    (same_size : placed.size ≡ old.size) (calls : KeepsShown placed new) where
  pub steps-by : KeepsLog after new
      → ((c : Outcome) → IsTelling placed.image.trace → CanLeaveAll placed c
      → LeftLog before c ⊎ LeftLog after c)
      → ((l w v : ℕ) → (IsOfLog before.thread l → ⊥) → CanLeave placed l w v → CanLeave old l w v)
      → StepsOn before after old new
  steps-by keeps left elsewhere =
      let Holds : Outcome → Type 0 = λ c. (LeftLog before c ⊎ LeftLog after c) × LeavesElsewhere
      before.thread old c in
      record {
        keeps = keeps;
        leaves = λ tells c all. underway_left new c all after.thread after.entries after.underway
            (keeps.words tells);
        any_moment = subst (λ (told : Told). Goes told new.image Holds) same (record {
          later = calls.any_moment.later;
          before = calls.any_moment.before;
          during = λ n gt le lt c within.
              let all = calls.any_moment.during n gt le lt c within in
              let tells = calls.silent (left_tells new.image.trace n c within) in
              (left c tells all, λ l w outside. elsewhere l w (c l w) outside (all l w));
        });
        elsewhere = λ c all l w outside. elsewhere l w (c l w) outside (calls.leaves l w (c l w) (all l w));
        size = calls.size ∙ same_size;
        telling = λ tells. calls.telling (subst (λ (told : Told). IsTelling told.trace) (sym same) tells);
        silent = λ tells. subst (λ (told : Told). IsTelling told.trace) same (calls.silent tells);
      }

-- no call
pub steps-nowhere : (log : Log) (m : Memory) → KeepsLog log m → StepsOn log log m m
steps-nowhere log m keeps = steps-by log log m m m refl refl (keeps_itself m) keeps
    (λ c tells all. inl (underway_left m c all log.thread log.entries log.underway (keeps.words tells)))
    (λ l w v outside left. left)

-- ---- an entry is added

-- the words that the memory holds while nothing is under way are those of an entry that begins
begins : (m : Memory) (t : ℕ) (entries : List Entry) (e : Entry) (underway : Underway) → CanAdd underway e
    → HoldsUnderway m t entries underway → HoldsAdding m t entries e (entry_stage underway)
begins m t entries e Nothing can is = is
begins m t entries e (Adding other stage) can is = subst (λ (x : Entry). HoldsAdding m t entries x stage) can
    is
begins m t entries e (Ending stage) can is = absurd can

-- what is left before a count is written over an entry is left after it
next_left : (t : ℕ) (entries : List Entry) (e : Entry) (stage : EntryStage) (c : Outcome)
    → LeftAdding t entries e (failed_stage stage) c
    → LeftAdding t entries e (next_stage stage) c
next_left t entries e Begun c left = left
next_left t entries e Written c left = left
next_left t entries e Fenced c left = left
next_left t entries e Counting c left = left
next_left t entries e Counted c left = left

module _ (before : Log) (e : Entry) (old new : Memory) (keeps : KeepsLog before old)
    (can : CanAdd before.underway e)
    (room : length before.entries < log_entries) (may : MayBeAdded old.size before.entries e) where
  abbrev t : ℕ
  t = before.thread

  abbrev at : EntryStage
  at = entry_stage before.underway

  abbrev adding : EntryStage → Log
  adding stage = record before { underway = Adding e stage }

  -- the log is kept with the entry at a stage
  keeps-adding : (stage : EntryStage) → new.size ≡ old.size → (IsTelling new.image.trace
      → HoldsAdding new t before.entries e stage) → KeepsLog (adding stage) new
  keeps-adding stage size words = record {
    thread = keeps.thread;
    size = omega (arith, keeps.size, size);
    room = keeps.room;
    places = λ k d below. subst (λ (s : ℕ). may_be_logged s (slice_index_or before.entries k d).spot.line ≡
        true) (sym size) (keeps.places k d below);
    once = keeps.once;
    fits = (subst (λ (s : ℕ). MayBeAdded s before.entries e) (sym size) may, room);
    words = words;
  }

  was : IsTelling old.image.trace → HoldsAdding old t before.entries e at
  was tells = begins old t before.entries e before.underway can (keeps.words tells)

  left_before : (c : Outcome) → IsTelling old.image.trace → CanLeaveAll old c → LeftLog before c
  left_before c tells all = underway_left old c all t before.entries before.underway (keeps.words tells)

  -- a call with no store before it
  stays : (stage : EntryStage) → KeepsShown old new → ((m : Memory) → HoldsAdding m t before.entries e at
      → HoldsAdding m t before.entries e stage)
      → StepsOn before (adding stage) old new
  stays stage calls weaker = steps-by before (adding stage) old old new refl refl calls
      (keeps-adding stage calls.size (λ tells. adding-on t old new (undisturbed-call t old new calls) tells
      before.entries e stage room (weaker old (was (calls.silent tells)))))
      (λ c tells all. inl (left_before c tells all))
      (λ l w v outside left. left)

  calls_of : PutsThenCalls [] old new → KeepsShown old new
  calls_of made = subst (λ (m : Memory). KeepsShown m new) made.puts made.calls

  pub adds-touch : PutsThenCalls [] old new → StepsOn before (adding at) old new
  adds-touch made = stays at (calls_of made) (λ m is. is)

  -- some words of the stage stored, and a call
  module _ (made : PutsThenCalls (words_at t (length before.entries) e at) old new) where
    image : made.placed.image ≡ old.image
    image = puts-image (words_at t (length before.entries) e at) old made.placed made.puts

    placed_size : made.placed.size ≡ old.size
    placed_size = puts-size (words_at t (length before.entries) e at) old made.placed made.puts

    size : new.size ≡ old.size
    size = made.calls.size ∙ puts-size (words_at t (length before.entries) e at) old made.placed made.puts

    tells_old : IsTelling made.placed.image.trace → IsTelling old.image.trace
    tells_old tells = subst (λ (told : Told). IsTelling told.trace) image tells

    placed : IsTelling made.placed.image.trace → HoldsAdding made.placed t before.entries e (failed_stage at)
    placed tells = placed-adding t before.entries e old made.placed at (was (tells_old tells)) made.puts

    after : IsTelling new.image.trace → HoldsAdding new t before.entries e (failed_stage at)
    after tells = adding-on t made.placed new (undisturbed-call t made.placed new made.calls) tells
        before.entries e (failed_stage at) room (placed (made.calls.silent tells))

    elsewhere : (l w v : ℕ) → (IsOfLog t l → ⊥) → CanLeave made.placed l w v → CanLeave old l w v
    elsewhere = puts-elsewhere t (words_at t (length before.entries) e at) old made.placed
        (words_of_log t (length before.entries) e at room) made.puts

    fails-made : StepsOn before (adding (failed_stage at)) old new
    fails-made = steps-by before (adding (failed_stage at)) old made.placed new image placed_size made.calls
        (keeps-adding (failed_stage at) size after)
        (λ c tells all. inr (adding_left made.placed c all t before.entries e (failed_stage at)
        (placed tells)))
        elsewhere

    pub adds-on : HasMade t (length before.entries) e at old new
        → StepsOn before (adding (next_stage at)) old new
    adds-on has = steps-by before (adding (next_stage at)) old made.placed new image placed_size made.calls
        (keeps-adding (next_stage at) size (λ tells.
        made-adding t before.entries e old new at (was (tells_old (made.calls.silent tells))) (after tells)
        has))
        (λ c tells all. inr (next_left t before.entries e at c
        (adding_left made.placed c all t before.entries e (failed_stage at) (placed tells))))
        elsewhere

  pub adds-fail : PutsThenCalls [] old new ⊎ PutsThenCalls (words_at t (length before.entries) e at) old new
      → StepsOn before (adding (failed_stage at)) old new
  adds-fail (inl touched) = stays (failed_stage at) (calls_of touched)
      (λ m is. fails-adding t before.entries e m at is)
  adds-fail (inr made) = fails-made made

  abbrev counted : Log
  counted = record before { entries = before.entries ++ e ∷ []; underway = Nothing }

  pub adds-last : at ≡ Counted → PutsThenCalls [] old new → Fences old new → StepsOn before counted old new
  adds-last last made fences =
      let calls = calls_of made in
      steps-by before counted old old new refl refl calls (record {
        thread = keeps.thread;
        size = omega (arith, keeps.size, calls.size);
        room = omega (arith, room, length_push before.entries e);
        places = All-push (λ (x : Entry). may_be_logged new.size x.spot.line ≡ true) before.entries e
            (λ k d below. subst (λ (s : ℕ). may_be_logged s (slice_index_or before.entries k d).spot.line ≡
            true) (sym calls.size) (keeps.places k d below))
            (subst (λ (s : ℕ). may_be_logged s e.spot.line ≡ true) (sym calls.size) may.place);
        once = all_pairs_push (λ (a b : Entry). SameWord a.spot b.spot
            → ⊥) before.entries e keeps.once (λ k d below. unlike k d below);
        fits = tt;
        words = λ tells.
            let before_it : HoldsAdding old t before.entries e Counted = subst
            (λ (s : EntryStage). HoldsAdding old t before.entries e s) last (was (calls.silent tells)) in
            let after_it = adding-on t old new (undisturbed-call t old new calls) tells before.entries e
            Counted room before_it in
            made-last t before.entries e old new before_it after_it fences;
      })
      (λ c tells all. inl (left_before c tells all))
      (λ l w v outside left. left)
    where
      unlike : (k : ℕ) (d : Entry) → k < length before.entries
          → SameWord (slice_index_or before.entries k d).spot e.spot → ⊥
      unlike k d below same = may.unlogged (
        k,
        slice_index_or before.entries k d,
        below,
        get_or_default before.entries k
            (slice_index_or before.entries k d) d below,
        same,
      )

-- the same, as the code names what it goes by
module _ (before now : Log) (e : Entry) (old new : Memory) (is : before ≡ now) (keeps : KeepsLog now old)
    (can : CanAdd now.underway e)
    (room : length before.entries < log_entries) (place : may_be_logged old.size e.spot.line ≡ true)
    (unlogged : IsLogged now.entries e.spot → ⊥)
    (n : ℕ) (stage : EntryStage) (is_n : n ≡ length before.entries)
    (is_stage : stage ≡ entry_stage before.underway) where
  held : KeepsLog before old
  held = subst (λ (log : Log). KeepsLog log old) (sym is) keeps

  can_add : CanAdd before.underway e
  can_add = subst (λ (log : Log). CanAdd log.underway e) (sym is) can

  may_add : MayBeAdded old.size before.entries e
  may_add = record {
    place = place;
    unlogged = subst (λ (log : Log). IsLogged log.entries e.spot
        → ⊥) (sym is) unlogged;
  }

  from_now : (after : Log) → StepsOn before after old new → StepsOn now after old new
  from_now after steps = subst (λ (log : Log). StepsOn log after old new) is steps

  words : PutsThenCalls (words_at before.thread n e stage) old new
      → PutsThenCalls (words_at before.thread (length before.entries) e (entry_stage before.underway)) old new
  words made = subst (λ (s : EntryStage). PutsThenCalls (words_at before.thread (length before.entries) e s)
      old new) is_stage
      (subst (λ (k : ℕ). PutsThenCalls (words_at before.thread k e stage) old new) is_n made)

  pub now-touch : PutsThenCalls [] old new → StepsOn now (record before { underway = Adding e stage }) old new
  now-touch made = from_now (record before { underway = Adding e stage })
      (subst (λ (s : EntryStage). StepsOn before (record before { underway = Adding e s }) old new)
      (sym is_stage)
      (adds-touch before e old new held can_add room may_add made))

  pub now-on : (next : EntryStage) → next ≡ next_stage stage
      → PutsThenCalls (words_at before.thread n e stage) old new
      → HasMade before.thread n e stage old new
      → StepsOn now (record before { underway = Adding e next }) old new
  now-on next is_next made has =
      let there : HasMade before.thread (length before.entries) e (entry_stage before.underway) old new =
      subst (λ (s : EntryStage). HasMade before.thread (length before.entries) e s old new) is_stage
      (subst (λ (k : ℕ). HasMade before.thread k e stage old new) is_n has) in
      let same : next_stage (entry_stage before.underway) ≡ next = ap next_stage (sym is_stage)
      ∙ sym is_next in
      from_now (record before { underway = Adding e next })
      (subst (λ (s : EntryStage). StepsOn before (record before { underway = Adding e s }) old new) same
      (adds-on before e old new held can_add room may_add (words made) there))

  pub now-fail : (failed : EntryStage) → failed ≡ failed_stage stage
      → PutsThenCalls [] old new ⊎ PutsThenCalls (words_at before.thread n e stage) old new
      → StepsOn now (record before { underway = Adding e failed }) old new
  now-fail failed is_failed either =
      let same : failed_stage (entry_stage before.underway) ≡ failed = ap failed_stage (sym is_stage)
      ∙ sym is_failed in
      from_now (record before { underway = Adding e failed })
      (subst (λ (s : EntryStage). StepsOn before (record before { underway = Adding e s }) old new) same
      (adds-fail before e old new held can_add room may_add
      (⊎_elim (λ touched. inl touched) (λ made. inr (words made)) either)))

  pub now-last : (entries : List Entry) → entries ≡ before.entries ++ e ∷ [] → stage ≡ Counted
      → PutsThenCalls (words_at before.thread n e stage) old new → HasMade before.thread n e stage old new
      → StepsOn now (record before { entries = entries; underway = Nothing }) old new
  now-last entries is_entries last made has =
      let none : PutsThenCalls [] old new = subst
      (λ (s : EntryStage). PutsThenCalls (words_at before.thread n e s) old new) last made in
      let fences : Fences old new = subst (λ (s : EntryStage). HasMade before.thread n e s old new) last has
      in
      from_now (record before { entries = entries; underway = Nothing })
      (subst (λ (es : List Entry). StepsOn before (record before { entries = es; underway = Nothing }) old
      new) (sym is_entries)
      (adds-last before e old new held can_add room may_add (sym is_stage ∙ last) none fences))
