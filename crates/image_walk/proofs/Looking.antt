-- Memories that are only looked at.
use Rattle.std.proofs.Common.{◌≡◌, ◌<◌, ◌≤◌, ◌∙◌, ℕ, refl, arith}
use Rattle.line_memory.specs.Memory.{Memory}
use Rattle.line_memory.specs.Moments.{CountsFrom}
use Rattle.image_meaning.specs.Checks.{Words}
use Rattle.word_changes.specs.Changes.{Nothing, ChangesTo}
use Rattle.word_changes.proofs.Changing.{changes_nothing, changes_more}
use Rattle.image_walk.specs.Walking.{Shows, Looks}

shows_on : (words : Words) (a b : Memory) → ChangesTo Nothing a b → Shows a words → Shows b words
shows_on words a b changes so = record {
  known = changes.known so.known;
  same = λ l w below outside.
      let under : l < a.size = omega (arith, below, changes.size) in
      changes.shows so.known l w under (λ v none. none) ∙ so.same l w under outside;
}

pub looks_by : (a b : Memory) → ChangesTo Nothing a b → ((begin : ℕ) → CountsFrom begin a → CountsFrom begin b) → b.calls ≡ a.calls
    → a.faults ≤ b.faults → Looks a b
looks_by a b changes counts calls later = record {
  changes = changes;
  keeps = λ words so. shows_on words a b changes so;
  counts = counts;
  calls = calls;
  later = later;
}

pub looks_nowhere : (m : Memory) → Looks m m
looks_nowhere m = looks_by m m (changes_nothing Nothing m) (λ begin counts. counts) refl (omega arith)

pub looks_more : (a b c : Memory) → Looks a b → Looks b c → Looks a c
looks_more a b c first second = record {
  changes = changes_more Nothing a b c first.changes second.changes;
  keeps = λ words so. second.keeps words (first.keeps words so);
  counts = λ begin counts. second.counts begin (first.counts begin counts);
  calls = second.calls ∙ first.calls;
  later = omega (arith, first.later, second.later);
}

pub looks_size : (a b : Memory) → Looks a b → b.size ≡ a.size
looks_size a b looks = looks.changes.size
