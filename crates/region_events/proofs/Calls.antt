-- Words that are stored, and the call of the image behind them, as events.
use Rattle.std.proofs.Common.{◌≡◌, inl, inr, ℕ, ◌≤◌, List, [], ◌∷◌, refl, sym, ◌∙◌, ap, subst, arith}
use Rattle.std.proofs.lemmas.Bool.{cases_eq}
use Rattle.ap_base.specs.Causes.{next_count}
use Rattle.line_image.specs.Trace.{MayLeave}
use Rattle.line_image.specs.Told.{Told}
use Rattle.line_memory.specs.Memory.{Memory, shown, IsTelling, ReadsWord, CanLeave, CanLeaveAll, OneCall}
use Rattle.line_memory.specs.Moments.{Goes, KeepsShown}
use Rattle.run_history.specs.Knowing.{Knowledge}
use Rattle.stop_theorem.specs.InvariantEvents.{Puts as PutsWord}
use Rattle.region_log.specs.Made.{Word, Puts, PutsAll, PutsThenCalls, IsOfLog, AreOfLog}
use Rattle.stop_theorem.specs.Running.{State, Event, Events, none, more, with_memory, Called}

pub as_puts : (word : Word) (old new : Memory) → Puts word old new
    → PutsWord word.line word.word word.value old new
as_puts word old new put = record { size = put.size; same = put.same; here = put.here; others = put.others }

-- no store is a call
pub same_counts : (words : List Word) (old placed : Memory) → PutsAll words old placed
    → (placed.calls ≡ old.calls) × (placed.image ≡ old.image)
same_counts [] old placed is = (ap (λ (m : Memory). m.calls) is, ap (λ (m : Memory). m.image) is)
same_counts (word ∷ words) old placed puts =
    let rest = same_counts words puts.0 placed puts.2 in
    (rest.0 ∙ puts.1.same.calls, rest.1 ∙ puts.1.same.image)

-- a store that changes no word is like a call that does nothing
module _ (word : Word) (old new : Memory) (put : Puts word old new)
    (was : shown old word.line word.word ≡ word.value) where
  shows_same : (l w : ℕ) → shown new l w ≡ shown old l w
  shows_same l w = elim (cases_eq l word.line) [
    | inr other ↦ put.others l w (λ same. absurd (other same))
    | inl line ↦ elim (cases_eq w word.word) [
      | inr other ↦ put.others l w (λ _. other)
      | inl here ↦ rw (line, here) (put.here ∙ sym was)
    ]
  ]

  leaves_same : (l w v : ℕ) → CanLeave new l w v → CanLeave old l w v
  leaves_same l w v (inl is) = inl (is ∙ shows_same l w)
  leaves_same l w v (inr left) = inr (subst (λ (told : Told). MayLeave told.trace l w v) put.same.image left)

  pub quiet : KeepsShown old new
  quiet = record {
    size = put.size;
    shows = λ l w before now. shows_same l w;
    telling = subst (λ (told : Told). IsTelling told.trace) (sym put.same.image);
    leaves = leaves_same;
    reads = λ l w v reads. inl (subst (λ (told : Told). ReadsWord told.trace l w v) put.same.image reads);
    any_moment = subst (λ (told : Told). Goes old.image told (CanLeaveAll old)) (sym put.same.image) (record {
      later = omega arith;
      before = λ n low below. refl;
      during = λ n above low below c left. absurd (omega (arith, above, low));
    });
    silent = subst (λ (told : Told). IsTelling told.trace) put.same.image;
    written = λ l w is. subst (λ v. ReadsWord new.image.trace l w v) (sym (shows_same l w))
        (subst (λ (told : Told). ReadsWord told.trace l w (shown old l w)) (sym put.same.image) is);
  }

module _ (first : Knowledge) (s : State) where
  pub one_event : (next : State) → Event first s next → Events first s next
  one_event next event = more s s next (none s) event

  pub quiet_event : (word : Word) (new : Memory) → Puts word s.memory new
      → shown s.memory word.line word.word ≡ word.value → Event first s (with_memory s new)
  quiet_event word new put was =
      let same = put.same.calls in
      Called s new (quiet word s.memory new put was) (inl put.same) (omega (arith, same))

  -- the call behind words that are stored
  pub calls_behind : (words : List Word) (placed new : Memory) → PutsAll words s.memory placed
      → Events first s (with_memory s placed) → KeepsShown placed new → OneCall s.memory new
      → s.memory.calls ≤ new.calls → Events first s (with_memory s new)
  calls_behind words placed new puts before keeps one later =
      let same = same_counts words s.memory placed puts in
      let calls = same.0 in
      more s (with_memory s placed) (with_memory s new) before
      (Called (with_memory s placed) new keeps (inr (record {
        calls = one.calls ∙ ap next_count (sym same.0);
        image = one.image ∙ ap (λ (told : Told). next_count told.calls) (sym same.1);
      })) (omega (arith, calls, later)))

  pub only_calls : (new : Memory) → PutsThenCalls [] s.memory new → OneCall s.memory new
      → s.memory.calls ≤ new.calls → Events first s (with_memory s new)
  only_calls new made one later =
      calls_behind [] made.placed new made.puts (subst (λ m. Events first s (with_memory s m)) (sym made.puts)
      (none s)) made.calls one later

-- ---- a word elsewhere

shown_apart : (t : ℕ) (words : List Word) (old placed : Memory) → AreOfLog t words → PutsAll words old placed
    → (l w : ℕ) → (IsOfLog t l → ⊥) → shown placed l w ≡ shown old l w
shown_apart t [] old placed of_log is l w elsewhere = ap (λ (m : Memory). shown m l w) is
shown_apart t (word ∷ words) old placed of_log puts l w elsewhere =
    shown_apart t words puts.0 placed of_log.1 puts.2 l w elsewhere
    ∙ puts.1.others l w (λ same. absurd (elsewhere (subst (IsOfLog t) (sym same) of_log.0)))

-- A step of a log shows it as before, where the image tells what is done to it.
pub shown_elsewhere : (t : ℕ) (words : List Word) (old new : Memory) → AreOfLog t words
    → PutsThenCalls words old new → IsTelling old.image.trace → (l w : ℕ) → (IsOfLog t l → ⊥)
    → shown new l w ≡ shown old l w
shown_elsewhere t words old new of_log made tells l w elsewhere =
    let told : IsTelling made.placed.image.trace = subst (λ (told : Told). IsTelling told.trace)
    (sym (same_counts words old made.placed made.puts).1) tells in
    made.calls.shows l w (inr told) (inr (made.calls.telling told))
    ∙ shown_apart t words old made.placed of_log made.puts l w elsewhere
