-- Each event of a machine leaves the lines that its objects took; and what a refusal comes to.
use Rattle.std.specs.Prelude.{◌≡◌, ◌↔◌, ℕ, ◌<◌, List, length, None}
use Rattle.plain_model.specs.Limits.{object_lines}
use Rattle.plain_model.specs.Ends.{fault_after, FaultComes}
use Rattle.run_forms.specs.Standing.{plain_code}
use Rattle.twin_forms.specs.Table.{Entry, entry, lines_of, IsClaimed, InP}
use Rattle.convert_words.specs.declared.step.ConvertStep.TheVariants as step
use Rattle.converter.specs.declared.begin.Begun.TheVariants as begun
use Rattle.machine_laws.specs.Passed.{Opening, Machine, known_in}
use Rattle.machine_laws.specs.Passed.{KeepsRun}
use Rattle.machine_laws.specs.Passed.{ConvertsOn, BeginsOn}
use Rattle.machine_laws.specs.Happening.{OfEvents}
use Rattle.machine_laws.specs.AskLaws.{OfRuns}
use Rattle.machine_ends.specs.Lines.{nodes_of, TakesLines, lines_from, lines_fault, IsRefused}

-- ---- lines and the plain heap

-- An object has as many lines as the plain heap's object takes.
abbrev pub LinesAreThoseOfObjects : Type 0
LinesAreThoseOfObjects = OfRuns (λ o m es. (n : ℕ) → n < length es
    → lines_of (entry es n) ≡ object_lines (known_in o m).world.heap n)

-- ---- the start

-- Exactly the objects of the opened image have lines, and nobody has claimed one.
abbrev pub StartsTakeNoLines : Type 0
StartsTakeNoLines = OfRuns (λ o m es. ((n : ℕ) → InP es n ↔ (n < nodes_of o))
    → ((t n : ℕ) → IsClaimed es t n → ⊥) → TakesLines o m.free m es)

-- ---- events

-- of every machine that keeps its run, and whose objects took lines from the first one on
abbrev pub OfTaken : (Opening → Machine → List Entry → ℕ → Type 0) → Type 0
OfTaken P = (o : Opening) (m : Machine) (es : List Entry) (first : ℕ) → KeepsRun o m es
    → TakesLines o first m es → P o m es first

-- A claim takes the lines of its object, and no other event takes any.
abbrev pub EventsKeepLines : Type 0
EventsKeepLines = OfEvents (λ o m es m' es'. (first : ℕ) → TakesLines o first m es → TakesLines o first m' es')

-- ---- the refusal

-- A claim that is refused for want of lines is that of a wanted object, which has more lines than are left
-- beside those that the run's objects took.
abbrev pub RefusedStepsFillTheImage : Type 0
RefusedStepsFillTheImage = OfTaken (λ o m es first. (m' : Machine) (t need left : ℕ)
    → ConvertsOn t (step.Full need left) m m' es → IsRefused o m first t need left)

abbrev pub RefusedBeginningsFillTheImage : Type 0
RefusedBeginningsFillTheImage = OfTaken (λ o m es first. (m' : Machine) (es' : List Entry)
    (t n word need left : ℕ) → BeginsOn t n word (begun.Full need left) o m m' es es'
    → IsRefused o m first t need left)

-- Where the acts tell of no fault, that fault ends the run.
abbrev pub RefusalsEndTheRun : Type 0
RefusalsEndTheRun = (o : Opening) (m : Machine) (first t need left : ℕ) → IsRefused o m first t need left
    → fault_after o.launch.set o.launch.main o.launch.opening (plain_code o.launch) o.launch.limits
    (lines_from m first) m.acts t ≡ None
    → FaultComes o.launch.set o.launch.main o.launch.opening (plain_code o.launch) o.launch.limits
    (lines_from m first) m.acts t (lines_fault need left)
