-- Words that are given values and written back, and steps behind that.
use Rattle.std.proofs.Common.{inl, refl, ◌≡◌, ◌⊎◌, ⊎_elim, ◌<◌, ℕ, sym, ◌∙◌, subst, arith}
use Rattle.line_image.specs.Trace.{Outcome}
use Rattle.line_memory.specs.Memory.{Memory, shown, IsWritten, IsDurable, SameImage, OneCall}
use Rattle.line_memory.specs.Moments.{CountsFrom}
use Rattle.word_changes.specs.Changes.{Tells, AllKnown, IsFixed, Nothing, OldOrGiven, ChangesTo, CallsGoOn, GoesOn, WritesAll}
use Rattle.word_changes.specs.Changes.{AllFixed}
use Rattle.word_changes.proofs.Changing.{telling_knows, changes_more, changes_nowhere, stays_written, stays_fixed, left_fixed}
use Rattle.word_changes.proofs.Changing.{fence_fixes}
use Rattle.word_changes.proofs.Going.{goes_more, goes_by_fetch, goes_by_store, goes_by_call}

-- the words lie in an image of so many lines
abbrev pub AreWithin : (ℕ → ℕ → ℕ → Type 0) → ℕ → Type 0
AreWithin Gives size = (l w v : ℕ) → Gives l w v → l < size

-- no word is given a value by both
abbrev pub AreApart : (ℕ → ℕ → ℕ → Type 0) → (ℕ → ℕ → ℕ → Type 0) → Type 0
AreApart Done Gives = (l w v x : ℕ) → Done l w v → Gives l w x → ⊥

module _ (Done Gives : ℕ → ℕ → ℕ → Type 0) (a b c : Memory) (apart : AreApart Done Gives) (next : ChangesTo Gives b c) where
  -- what was written stays so
  pub still_wrote : (Before : ℕ → ℕ → ℕ → Type 0) → ChangesTo Before a b → AreWithin Done b.size → WritesAll Done a b → WritesAll Done a c
  still_wrote Before first within wrote = record {
    shows = λ known l w v done. next.shows (first.known known) l w (within l w v done) (λ x put. apart l w v x done put) ∙ wrote.shows known l w v done;
    written = λ tells l w v done. stays_written Gives b c l w v next (first.telling tells) (within l w v done) (λ x put. apart l w v x done put)
        (wrote.written tells l w v done);
  }

  -- and what is fixed
  pub still_fixed : AllFixed Done b → AllFixed Done c
  still_fixed fixed l w v done = stays_fixed Gives b c l w v next (λ x put. apart l w v x done put) (fixed l w v done)

  -- also in each stop meanwhile
  pub left_as_fixed : (k : Outcome) → OldOrGiven Gives b k → AllFixed Done b → (l w v : ℕ) → Done l w v → k l w ≡ v
  left_as_fixed k all fixed l w v done = left_fixed Gives b k l w v all (λ x put. apart l w v x done put) (fixed l w v done)

-- what is written behind other steps
pub wrote_after : (Before Gives : ℕ → ℕ → ℕ → Type 0) (a b c : Memory) → ChangesTo Before a b → WritesAll Gives b c → WritesAll Gives a c
wrote_after Before Gives a b c first wrote = record {
  shows = λ known. wrote.shows (first.known known);
  written = λ tells. wrote.written (first.telling tells);
}

-- of two kinds of words
pub wrote_both : (First Second Both : ℕ → ℕ → ℕ → Type 0) (a b : Memory) → ((l w v : ℕ) → Both l w v → First l w v ⊎ Second l w v)
    → WritesAll First a b → WritesAll Second a b → WritesAll Both a b
wrote_both First Second Both a b either first second = record {
  shows = λ known l w v given. ⊎_elim (λ one. first.shows known l w v one) (λ other. second.shows known l w v other) (either l w v given);
  written = λ tells l w v given. ⊎_elim (λ one. first.written tells l w v one) (λ other. second.written tells l w v other) (either l w v given);
}

-- a fence fixes what is written
pub fence_wrote : (Before Gives : ℕ → ℕ → ℕ → Type 0) (a b c : Memory) → ChangesTo Before a b → AreWithin Gives b.size → WritesAll Gives a b
    → ChangesTo Nothing b c → ((l w : ℕ) → IsWritten b l w → IsDurable c l w) → Tells a → AllFixed Gives c
fence_wrote Before Gives a b c first within wrote fence durable tells l w v given =
    fence_fixes b c l w v fence (first.telling tells) (within l w v given) durable (wrote.written tells l w v given)

-- what was durable is so after steps whose words are fixed
pub durable_stays : (Gives : ℕ → ℕ → ℕ → Type 0) (old new : Memory) → ChangesTo Gives old new → AllFixed Gives new → (l w : ℕ)
    → IsDurable old l w → IsDurable new l w
durable_stays Gives old new changes fixed l w durable v left = ⊎_elim
    (λ was. ⊎_elim
    (λ before. durable v before ∙ sym (durable (shown new l w) was))
    (λ given. sym (fixed l w v given (shown new l w) (inl refl)))
    (changes.leaves l w v left))
    (λ given. fixed l w (shown new l w) given v left)
    (changes.leaves l w (shown new l w) (inl refl))

-- ---- words of one line: it is fetched, they are stored, and it is written back

module _ (Gives : ℕ → ℕ → ℕ → Type 0) (line : ℕ) (old ready stored new : Memory) (first : ChangesTo Nothing old ready)
    (puts : ChangesTo Gives ready stored) (last : ChangesTo Nothing stored new) where
  pub line_changes : ChangesTo Gives old new
  line_changes =
      changes_more Gives old stored new
      (changes_more Gives old ready stored (changes_nowhere Gives old ready first) puts)
      (changes_nowhere Gives stored new last)

  pub line_wrote : line < old.size → ((l w v : ℕ) → Gives l w v → l ≡ line) → ((l w v : ℕ) → Gives l w v → shown stored l w ≡ v)
      → ((w : ℕ) → IsWritten new line w) → WritesAll Gives old new
  line_wrote below one shows written =
      let show : AllKnown old → (l w v : ℕ) → Gives l w v → shown new l w ≡ v = λ known l w v given.
      last.shows (puts.known (first.known known)) l w (omega (arith, below, one l w v given, first.size, puts.size)) (λ x none. none)
      ∙ shows l w v given in
      record {
        shows = show;
        written = λ tells l w v given. record {
          shows = show (telling_knows old tells) l w v given;
          written = subst (λ (k : ℕ). IsWritten new k w) (sym (one l w v given)) (written w);
        };
      }

  pub line_goes : ((begin : ℕ) → CountsFrom begin old → CountsFrom begin ready) → CallsGoOn old ready → SameImage ready stored
      → OneCall stored new → GoesOn old new
  line_goes counts calls same one =
      goes_more old stored new
      (goes_more old ready stored (goes_by_fetch Nothing old ready first counts calls) (goes_by_store Gives ready stored puts same))
      (goes_by_call Nothing stored new last one)
