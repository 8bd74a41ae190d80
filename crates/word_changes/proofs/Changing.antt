-- Steps that store to some words, one after another.
use Rattle.std.proofs.Common.{◌≡◌, ◌≢◌, ◌⊎◌, inl, inr, ⊎_elim, ◌<◌, ℕ, Option, Some, None, refl, sym, ◌∙◌, subst, arith}
use Rattle.line_image.specs.Trace.{Trace, Outcome, read_word}
use Rattle.line_image.specs.Told.{Told}
use Rattle.line_memory.specs.Memory.{Memory, shown, IsResident, IsTelling, CanLeave, CanLeaveAll, IsWritten, IsDurable}
use Rattle.line_memory.specs.Memory.{ReadsWord, SameResident, SameImage, KeepsTelling}
use Rattle.line_memory.specs.Moments.{Goes, KeepsShown}
use Rattle.line_memory.proofs.Chain.{goes_on, goes_nowhere}
use Rattle.word_changes.specs.Changes.{Tells, AllKnown, IsFixed, IsWrittenAs, Nothing, IsGiven, IsLeft, OldOrGiven, ChangesTo}
use Rattle.word_changes.specs.Changes.{CallsGoOn, StopsLeave}

-- ---- what is known

tells_or : (o : Option Trace) → IsTelling o ⊎ (IsTelling o → ⊥)
tells_or None = inr (λ tells. tells)
tells_or (Some h) = inl tt

-- where the image tells, each line is known
pub telling_knows : (m : Memory) → Tells m → AllKnown m
telling_knows m tells l below = inr tells

-- what is known stays so over a step that keeps what is resident unless the image tells
pub stays_known : (old new : Memory) → new.size ≡ old.size → KeepsTelling old new
    → (((l : ℕ) → l < old.size → IsResident old l) → SameResident old new) → AllKnown old → AllKnown new
stays_known old new size telling resident known = ⊎_elim
    (λ tells l below. inr (telling tells))
    (λ silent l below.
    let here : (k : ℕ) → k < old.size → IsResident old k = λ k under. ⊎_elim (λ is. is) (λ tells. absurd (silent tells)) (known k under) in
    inl ((resident here).kept l (here l (omega (arith, below, size)))))
    (tells_or old.image.trace)

-- ---- single steps

pub changes_nothing : (Gives : ℕ → ℕ → ℕ → Type 0) (m : Memory) → ChangesTo Gives m m
changes_nothing Gives m = record {
  size = refl;
  known = λ known. known;
  shows = λ known l w below out. refl;
  written = λ tells l w below out written. written;
  leaves = λ l w v left. inl left;
  any_moment = goes_nowhere m.image (OldOrGiven Gives m);
  telling = λ tells. tells;
}

-- a read gives of the word what it shows, where it is written back
read_again : (o p : Option Trace) (l w old new : ℕ) → IsTelling o → new ≡ old → ReadsWord o l w old
    → ((v : ℕ) → ReadsWord p l w v → ReadsWord o l w v ⊎ (v ≡ old)) → ReadsWord p l w new
read_again None p l w old new tells same written reads = absurd tells
read_again (Some h) None l w old new tells same written reads = tt
read_again (Some h) (Some k) l w old new tells same written reads = same ∙ ⊎_elim
    (λ (was : read_word k l w ≡ read_word h l w). written ∙ sym was)
    (λ (is : read_word k l w ≡ old). sym is)
    (reads (read_word k l w) refl)

-- write-backs, fences and touches
pub keeps_changes : (old new : Memory) → KeepsShown old new → (AllKnown old → AllKnown new) → ChangesTo Nothing old new
keeps_changes old new keeps known = record {
  size = keeps.size;
  known = known;
  shows = λ all l w below out. keeps.shows l w (all l below) (known all l (omega (arith, below, keeps.size)));
  written = λ tells l w below out written.
      read_again old.image.trace new.image.trace l w (shown old l w) (shown new l w) tells
      (keeps.shows l w (inr tells) (inr (keeps.telling tells))) written (λ v. keeps.reads l w v);
  leaves = λ l w v left. inl (keeps.leaves l w v left);
  any_moment = goes_on old.image old.image new.image (CanLeaveAll old) (CanLeaveAll old) (OldOrGiven Nothing old)
      (goes_nowhere old.image (CanLeaveAll old)) keeps.any_moment (λ c all l w. inl (all l w)) (λ c all l w. inl (all l w));
  telling = keeps.telling;
}

-- a write-back or a fence
pub call_changes : (old new : Memory) → KeepsShown old new → SameResident old new → ChangesTo Nothing old new
call_changes old new keeps resident =
    keeps_changes old new keeps (stays_known old new keeps.size keeps.telling (λ all. resident))

-- a touch of a line
pub touch_changes : (old new : Memory) (line : ℕ) → line < old.size → KeepsShown old new → (IsResident old line → SameResident old new)
    → ChangesTo Nothing old new
touch_changes old new line below keeps resident =
    keeps_changes old new keeps (stays_known old new keeps.size keeps.telling (λ all. resident (all line below)))

-- a store
pub store_changes : (old new : Memory) (line word v : ℕ) → new.size ≡ old.size → SameResident old new → SameImage old new
    → ((l w : ℕ) → (l ≡ line → w ≢ word) → shown new l w ≡ shown old l w)
    → ((l w x : ℕ) → CanLeave new l w x → CanLeave old l w x ⊎ ((l ≡ line) × (w ≡ word) × (x ≡ v)))
    → ChangesTo (IsGiven line word v) old new
store_changes old new line word v size resident same others leaves =
    let telling : KeepsTelling old new = subst (λ (told : Told). IsTelling old.image.trace → IsTelling told.trace) (sym same.image) (λ tells. tells) in
    record {
      size = size;
      known = stays_known old new size telling (λ all. resident);
      shows = λ known l w below out. others l w (λ at is. out v (at, is, refl));
      written = λ tells l w below out written.
          subst (λ (x : ℕ). ReadsWord new.image.trace l w x) (sym (others l w (λ at is. out v (at, is, refl))))
          (subst (λ (told : Told). ReadsWord told.trace l w (shown old l w)) (sym same.image) written);
      leaves = λ l w x left. ⊎_elim (λ was. inl was) (λ put. inr put) (leaves l w x left);
      any_moment = subst (λ (told : Told). Goes old.image told (OldOrGiven (IsGiven line word v) old)) (sym same.image)
          (goes_nowhere old.image (OldOrGiven (IsGiven line word v) old));
      telling = telling;
    }

-- ---- steps in a row

pub changes_weaker : (Gives More : ℕ → ℕ → ℕ → Type 0) (old new : Memory) → ((l w v : ℕ) → Gives l w v → More l w v) → ChangesTo Gives old new
    → ChangesTo More old new
changes_weaker Gives More old new weaker changes = record {
  size = changes.size;
  known = changes.known;
  shows = λ known l w below out. changes.shows known l w below (λ v at. out v (weaker l w v at));
  written = λ tells l w below out written. changes.written tells l w below (λ v at. out v (weaker l w v at)) written;
  leaves = λ l w v left. ⊎_elim (λ was. inl was) (λ at. inr (weaker l w v at)) (changes.leaves l w v left);
  any_moment = goes_on old.image old.image new.image (OldOrGiven Gives old) (OldOrGiven Gives old) (OldOrGiven More old)
      (goes_nowhere old.image (OldOrGiven Gives old)) changes.any_moment
      (λ c all l w. ⊎_elim (λ was. inl was) (λ at. inr (weaker l w (c l w) at)) (all l w))
      (λ c all l w. ⊎_elim (λ was. inl was) (λ at. inr (weaker l w (c l w) at)) (all l w));
  telling = changes.telling;
}

pub changes_nowhere : (Gives : ℕ → ℕ → ℕ → Type 0) (old new : Memory) → ChangesTo Nothing old new → ChangesTo Gives old new
changes_nowhere Gives old new changes = changes_weaker Nothing Gives old new (λ l w v none. absurd none) changes

pub changes_more : (Gives : ℕ → ℕ → ℕ → Type 0) (a b c : Memory) → ChangesTo Gives a b → ChangesTo Gives b c → ChangesTo Gives a c
changes_more Gives a b c first second = record {
  size = second.size ∙ first.size;
  known = λ known. second.known (first.known known);
  shows = λ known l w below out.
      second.shows (first.known known) l w (omega (arith, below, first.size)) out ∙ first.shows known l w below out;
  written = λ tells l w below out written.
      second.written (first.telling tells) l w (omega (arith, below, first.size)) out (first.written tells l w below out written);
  leaves = λ l w v left. ⊎_elim (λ was. first.leaves l w v was) (λ at. inr at) (second.leaves l w v left);
  any_moment = goes_on a.image b.image c.image (OldOrGiven Gives a) (OldOrGiven Gives b) (OldOrGiven Gives a)
      first.any_moment second.any_moment (λ k all. all)
      (λ k all l w. ⊎_elim (λ was. first.leaves l w (k l w) was) (λ at. inr at) (all l w));
  telling = λ tells. second.telling (first.telling tells);
}

-- ---- what is fixed or written

-- a fixed word outside the changes stays so
pub stays_fixed : (Gives : ℕ → ℕ → ℕ → Type 0) (old new : Memory) (l w v : ℕ) → ChangesTo Gives old new → IsLeft Gives l w → IsFixed old l w v
    → IsFixed new l w v
stays_fixed Gives old new l w v changes out fixed x left = ⊎_elim (λ was. fixed x was) (λ at. absurd (out x at)) (changes.leaves l w x left)

-- and each stop meanwhile leaves it so
pub left_fixed : (Gives : ℕ → ℕ → ℕ → Type 0) (old : Memory) (c : Outcome) (l w v : ℕ) → OldOrGiven Gives old c → IsLeft Gives l w
    → IsFixed old l w v → c l w ≡ v
left_fixed Gives old c l w v all out fixed = ⊎_elim (λ was. fixed (c l w) was) (λ at. absurd (out (c l w) at)) (all l w)

pub stays_written : (Gives : ℕ → ℕ → ℕ → Type 0) (old new : Memory) (l w v : ℕ) → ChangesTo Gives old new → Tells old → l < old.size
    → IsLeft Gives l w → IsWrittenAs old l w v → IsWrittenAs new l w v
stays_written Gives old new l w v changes tells below out was = record {
  shows = changes.shows (telling_knows old tells) l w below out ∙ was.shows;
  written = changes.written tells l w below out was.written;
}

-- a fence makes what is written back fixed
pub fence_fixes : (old new : Memory) (l w v : ℕ) → ChangesTo Nothing old new → Tells old → l < old.size
    → ((line word : ℕ) → IsWritten old line word → IsDurable new line word) → IsWrittenAs old l w v → IsFixed new l w v
fence_fixes old new l w v changes tells below durable was x left =
    durable l w was.written x left ∙ changes.shows (telling_knows old tells) l w below (λ v none. none) ∙ was.shows

-- ---- what stops leave

pub stops_then : (a b c : Memory) (P : Outcome → Type 0) → StopsLeave a b P → StopsLeave b c P → StopsLeave a c P
stops_then a b c P first second = record {
  within = goes_on a.image b.image c.image P P P first.within second.within (λ k p. p) (λ k p. p);
  after = second.after;
}

pub stops_weaker : (a b : Memory) (P Q : Outcome → Type 0) → StopsLeave a b P → ((k : Outcome) → P k → Q k) → StopsLeave a b Q
stops_weaker a b P Q stops weaker = record {
  within = goes_on a.image a.image b.image P P Q (goes_nowhere a.image P) stops.within weaker weaker;
  after = λ k all. weaker k (stops.after k all);
}

-- what each of the moments of such steps leaves, and what is left after them
pub changes_stops : (Gives : ℕ → ℕ → ℕ → Type 0) (old new : Memory) (P : Outcome → Type 0) → ChangesTo Gives old new
    → ((c : Outcome) → OldOrGiven Gives old c → P c) → StopsLeave old new P
changes_stops Gives old new P changes leaves = record {
  within = goes_on old.image old.image new.image (OldOrGiven Gives old) (OldOrGiven Gives old) P
      (goes_nowhere old.image (OldOrGiven Gives old)) changes.any_moment leaves leaves;
  after = λ c all. leaves c (λ l w. changes.leaves l w (c l w) (all l w));
}

-- the count of calls goes on
pub calls_more : (a b c : Memory) → CallsGoOn a b → CallsGoOn b c → CallsGoOn a c
calls_more a b c first second fits =
    let there = first fits in
    let after = second there.1 in
    (omega (arith, there.0, after.0), after.1)
