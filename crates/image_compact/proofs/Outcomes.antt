-- What writing a graph comes to, step by step.
use Rattle.std.proofs.Common.{◌≡◌, ◌≤◌, ℕ, Some, None, Err, refl, sym, ◌∙◌, ap, subst, arith}
use Rattle.std.specs.Prelude.{Result, OnErr}
use Rattle.ap_base.specs.Causes.{next_count, HasCause, IsCauseOf}
use Rattle.graph_model.specs.declared.types.Graph.{Graph}
use Rattle.line_memory.specs.Memory.{Memory, shown}
use Rattle.image_layout.specs.Places.{min_lines, max_lines}
use Rattle.word_changes.specs.Changes.{Tells, AllKnown, Nothing, ChangesTo, WritesAll, AllFixed, StopsLeave, GoesOn}
use Rattle.word_changes.proofs.Changing.{stops_then}
use Rattle.word_changes.proofs.Going.{goes_more}
use Rattle.dense_image.specs.Graphs.{CanBeStoodFor}
use Rattle.dense_image.specs.Written.{no_room, HasRoom, IsWhole}
use Rattle.image_compact.specs.declared.fault.WriteFault.{WriteFault}
use Rattle.image_compact.specs.declared.fault.WriteFault.TheVariants.{NotBlank, Full, ImageFailed, OutOfMemory}
use Rattle.image_compact.specs.Planning.{IsWant}
use Rattle.image_compact.specs.Writing.{OfImage}
use Rattle.image_compact.specs.Outcomes.{IsBlankOrWhole, StopsKeepBlankOrWhole, Writes, IsRefused, FailsToWrite}
use Rattle.image_compact.proofs.ImageWords.{whole_given, look_stops, still_blank}

-- a call that failed is the next in the count
pub next_by : {A B : Type 0} (r : Result A B) (e : B) (before now : ℕ) → r ≡ Err e → HasCause before now r → now ≡ next_count before
next_by {A = A} {B = B} r e before now is cause = subst (λ (x : Result A B). OnErr x (now ≡ next_count before)) is cause.failed

-- it failed for this reason
pub by_this : {E : Type 0} (why : E) (before now : ℕ) → before ≤ now → now ≡ next_count before → IsCauseOf why why before now
by_this why before now later next = record { later = later; spared = λ other. absurd (other refl); failed = λ is. next }

-- or for another
pub by_other : {E : Type 0} (why fault : E) (before now : ℕ) → (fault ≡ why → ⊥) → now ≡ before → IsCauseOf why fault before now
by_other why fault before now other same = record { later = omega (arith, same); spared = λ o. same; failed = λ is. absurd (other is) }

-- the fault was passed on as another that says the same
pub passed_on : {E F : Type 0} (why fault : E) (reason told : F) (before now : ℕ) → (fault ≡ why → told ≡ reason)
    → (told ≡ reason → fault ≡ why) → IsCauseOf why fault before now → IsCauseOf reason told before now
passed_on why fault reason told before now on back cause = record {
  later = cause.later;
  spared = λ other. cause.spared (λ is. other (on is));
  failed = λ is. cause.failed (back is);
}

module _ (graph : Graph) (a b : Memory) (enough : min_lines ≤ a.size) (most : a.size ≤ max_lines) (look : ChangesTo Nothing a b)
    (goes : GoesOn a b) where
  -- nothing was written
  pub unwritten : (fault : WriteFault) → IsRefused graph fault a b → IsCauseOf ImageFailed fault a.faults b.faults → FailsToWrite graph fault a b
  unwritten fault refused cause = record {
    refused = refused;
    not_blank = λ known used. look;
    stops = λ tells blank. look_stops a b a.size graph enough most look blank;
    goes_on = goes;
    cause = cause;
  }

  -- there was no room, or no memory
  pub unplanned : (fault : WriteFault) → b.faults ≡ a.faults → (AllKnown a → shown a 0 0 ≡ 0) → IsWant (no_room b.size graph) fault
      → FailsToWrite graph fault a b
  unplanned NotBlank spared was want = absurd want
  unplanned (Full full) spared was want =
      unwritten (Full full) (was, subst (λ (n : ℕ). no_room n graph ≡ Some full) look.size want, look)
      (by_other ImageFailed (Full full) a.faults b.faults (λ is. cc) spared)
  unplanned ImageFailed spared was want = absurd want
  unplanned OutOfMemory spared was want = unwritten OutOfMemory look (by_other ImageFailed OutOfMemory a.faults b.faults (λ is. cc) spared)

  module _ (spared : b.faults ≡ a.faults) (c : Memory) (was : AllKnown a → shown a 0 0 ≡ 0) (stops : StopsKeepBlankOrWhole graph b c) (on : GoesOn b c) where
    all_stops : StopsKeepBlankOrWhole graph a c
    all_stops tells blank =
        stops_then a b c (IsBlankOrWhole a.size graph) (look_stops a b a.size graph enough most look blank)
        (subst (λ (n : ℕ). StopsLeave b c (IsBlankOrWhole n graph)) look.size (stops (look.telling tells) (still_blank a b look blank)))

    -- the image failed
    pub broken_off : b.faults ≤ c.faults → c.faults ≡ next_count b.faults → FailsToWrite graph ImageFailed a c
    broken_off later next = record {
      refused = tt;
      not_blank = λ known used. absurd (used (was known));
      stops = all_stops;
      goes_on = goes_more a b c goes on;
      cause = by_this ImageFailed a.faults c.faults (omega (arith, spared, later)) (next ∙ ap next_count spared);
    }

    enough_still : min_lines ≤ b.size
    enough_still = subst (λ (n : ℕ). min_lines ≤ n) (sym look.size) enough

    most_still : b.size ≤ max_lines
    most_still = subst (λ (n : ℕ). n ≤ max_lines) (sym look.size) most

    -- it is written
    pub written : CanBeStoodFor graph → HasRoom b.size graph → no_room b.size graph ≡ None
        → ChangesTo (OfImage b.size graph) b c → WritesAll (OfImage b.size graph) b c
        → (Tells b → AllFixed (OfImage b.size graph) c) → c.faults ≡ b.faults → Writes graph a c
    written can room none changes wrote fixed after = record {
      was_blank = was;
      room = subst (λ (n : ℕ). no_room n graph ≡ None) look.size none;
      whole = λ known.
          subst (λ (n : ℕ). IsWhole n (shown c) graph) (sym changes.size)
          (whole_given b.size graph enough_still most_still can room (shown c) (λ l w v given. wrote.shows (look.known known) l w v given));
      stops = all_stops;
      kept = λ tells k all.
          subst (λ (n : ℕ). IsWhole n k graph) look.size
          (whole_given b.size graph enough_still most_still can room k (λ l w v given. fixed (look.telling tells) l w v given (k l w) (all l w)));
      goes_on = goes_more a b c goes on;
      spared = after ∙ spared;
    }
