-- What a stop may do to each act, from how each was in doubt as it came and what its thread did since.
use Rattle.std.specs.Prelude.{◌≡◌, ◌≤◌, ℕ, zero, suc, Bool, true, false, nat_lt, List, [], ◌∷◌, length, get_or, slice_set, if◌then◌else◌}
use Rattle.run_history.specs.declared.act.Op.{Op}
use Rattle.run_history.specs.declared.act.Op.TheVariants as op
use Rattle.run_history.specs.Recorded.{Recorded}
use Rattle.run_history.specs.Knowing.{Fate, Sure, Open, Closing, Single, Mark, Knowledge, known_after}
use Rattle.kept_lists.specs.declared.doubts.Doubt.{Doubt}
use Rattle.kept_lists.specs.declared.doubts.Doubt.TheVariants as doubt
use Rattle.kept_lists.specs.declared.doubts.Last.{Last}
use Rattle.kept_lists.specs.declared.doubts.Doubts.{Doubts}

abbrev pub no_last : Last
no_last = record { fenced = 0; closed = 0; ended = 0 }

abbrev pub last_of : List Last → ℕ → Last
last_of lasts t = get_or lasts t no_last

abbrev pub last_ended : Last → Bool → ℕ → Last
last_ended last true count = record last { ended = count }
last_ended last false count = last

abbrev pub last_after : Last → Op → Bool → ℕ → Last
last_after last op.Fenced outermost count = record last { fenced = count }
last_after last op.Closing outermost count = record last { closed = count }
last_after last op.End outermost count = last_ended last outermost count
last_after last o outermost count = last

abbrev pub lasts_after : List Last → ℕ → Op → Bool → ℕ → List Last
lasts_after lasts t o outermost count = slice_set lasts t (last_after (last_of lasts t) o outermost count)

-- the doubt of a store, by whether its place is durable, how deep its thread's region is, and whether that is closing
abbrev pub doubt_of : Bool → ℕ → Bool → Doubt
doubt_of false depth closing = doubt.Never
doubt_of true zero closing = doubt.Single
doubt_of true (suc depth) true = doubt.Closing
doubt_of true (suc depth) false = doubt.Open

abbrev pub fate_open : Last → ℕ → ℕ → Fate
fate_open last i t = if nat_lt i last.closed then Closing t else Open t

-- the fate of act i of thread t: what its doubt is unless the thread has fenced, closed or ended it since
abbrev pub fate_now : Last → ℕ → ℕ → Doubt → Fate
fate_now last i t doubt.Never = Sure
fate_now last i t doubt.Single = if nat_lt i last.fenced then Sure else Single t
fate_now last i t doubt.Open = if nat_lt i last.ended then Sure else fate_open last i t
fate_now last i t doubt.Closing = if nat_lt i last.ended then Sure else Closing t

-- the marks of these acts, the first of which has this number
abbrev pub marks_from : List Last → ℕ → List Recorded → List Doubt → List Mark
marks_from lasts i [] ds = []
marks_from lasts i (a ∷ xs) [] = []
marks_from lasts i (a ∷ xs) (d ∷ ds) =
    record { fate = fate_now (last_of lasts a.act.thread) i a.act.thread d; op = a.act.op } ∷ marks_from lasts (suc i) xs ds

-- The doubts stand for these acts.
pub record StandsFor (first : Knowledge) (acts : List Recorded) (d : Doubts) : Type 0 where
  pub count : length d.doubts.items ≡ length acts
  pub threads : length d.lasts.items ≡ 64
  pub marks : (known_after first acts).marks ≡ marks_from d.lasts.items 0 acts d.doubts.items
  pub fenced : (t : ℕ) → (last_of d.lasts.items t).fenced ≤ length acts
  pub closed : (t : ℕ) → (last_of d.lasts.items t).closed ≤ length acts
  pub ended : (t : ℕ) → (last_of d.lasts.items t).ended ≤ length acts
