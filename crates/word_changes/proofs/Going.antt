-- What each call keeps.
use Rattle.std.proofs.Common.{◌≡◌, ◌∙◌, ℕ, Option, Some, None, refl, arith}
use Rattle.line_image.specs.Trace.{Trace, trace_within}
use Rattle.line_memory.specs.Memory.{Memory, IsTelling, KeepsTelling, SameImage, OneCall}
use Rattle.line_memory.specs.Moments.{CountsFrom}
use Rattle.line_memory.proofs.Chain.{counts_on, counts_same}
use Rattle.word_changes.specs.Changes.{ChangesTo, CallsGoOn, GoesOn}
use Rattle.word_changes.proofs.Changing.{calls_more}

-- an image that tells something told it before
told_before : (o p : Option Trace) → trace_within 0 p ≡ trace_within 0 o → IsTelling p → IsTelling o
told_before None None same tells = tells
told_before None (Some k) same tells = absurd cc
told_before (Some h) p same tells = tt

pub changes_silent : (Gives : ℕ → ℕ → ℕ → Type 0) (old new : Memory) → ChangesTo Gives old new → KeepsTelling new old
changes_silent Gives old new changes tells =
    told_before old.image.trace new.image.trace (changes.any_moment.before 0 (omega arith) (omega arith)) tells

pub goes_nowhere : (m : Memory) → GoesOn m m
goes_nowhere m = record { size = refl; telling = λ tells. tells; silent = λ tells. tells; counts = λ begin counts. counts; calls = λ fits. (omega arith, fits) }

pub goes_more : (a b c : Memory) → GoesOn a b → GoesOn b c → GoesOn a c
goes_more a b c first second = record {
  size = second.size ∙ first.size;
  telling = λ tells. second.telling (first.telling tells);
  silent = λ tells. first.silent (second.silent tells);
  counts = λ begin counts. second.counts begin (first.counts begin counts);
  calls = calls_more a b c first.calls second.calls;
}

pub goes_by_call : (Gives : ℕ → ℕ → ℕ → Type 0) (a b : Memory) → ChangesTo Gives a b → OneCall a b → GoesOn a b
goes_by_call Gives a b changes one = record {
  size = changes.size;
  telling = changes.telling;
  silent = changes_silent Gives a b changes;
  counts = λ begin counts. counts_on begin a b counts one;
  calls = λ fits. (omega (arith, fits, one.calls), omega (arith, fits, one.calls));
}

pub goes_by_store : (Gives : ℕ → ℕ → ℕ → Type 0) (a b : Memory) → ChangesTo Gives a b → SameImage a b → GoesOn a b
goes_by_store Gives a b changes same = record {
  size = changes.size;
  telling = changes.telling;
  silent = changes_silent Gives a b changes;
  counts = λ begin counts. counts_same begin a b counts same;
  calls = λ fits. (omega (arith, same.calls), omega (arith, fits, same.calls));
}

pub goes_by_fetch : (Gives : ℕ → ℕ → ℕ → Type 0) (a b : Memory) → ChangesTo Gives a b
    → ((begin : ℕ) → CountsFrom begin a → CountsFrom begin b) → CallsGoOn a b → GoesOn a b
goes_by_fetch Gives a b changes counts calls = record { size = changes.size; telling = changes.telling; silent = changes_silent Gives a b changes; counts = counts; calls = calls }
