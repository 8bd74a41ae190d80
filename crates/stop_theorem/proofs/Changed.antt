-- Words that change where nothing durable depends on them, or at one durable place.
use Rattle.image_meaning.proofs.Naming.{log_same}
use Rattle.std.proofs.Common.{◌≡◌, inl, inr, ℕ, ◌<◌, ◌≤◌, Bool, true, List, length, Option, refl, sym, ◌∙◌, ap, subst}
use Rattle.std.proofs.Math.Path.{fun_ext}
use Rattle.std.proofs.lemmas.Bool.{cases_lt, le-ltb}
use Rattle.ap_base.specs.declared.place.Place.{Place}
use Rattle.graph_model.specs.declared.types.Heap.{Heap}
use Rattle.graph_model.specs.Heaps.{has_number}
use Rattle.line_image.specs.Trace.{Outcome}
use Rattle.image_layout.specs.Places.{logs, root_slots, slot_line, slot_word}
use Rattle.image_meaning.specs.Checks.{Words}
use Rattle.image_meaning.specs.Logs.{Logged, old_word, SameLogs}
use Rattle.image_meaning.specs.Corresponds.{Holds}
use Rattle.image_meaning.specs.Laws.{SameFront}
use Rattle.image_meaning.proofs.Logs.{logs_below-same, put_back-same}
use Rattle.image_meaning.proofs.Opened.{opens-same}
use Rattle.run_history.specs.Knowing.{Knowledge}
use Rattle.stop_theorem.specs.Choices.{Threads, MayHave, AllKept}
use Rattle.stop_theorem.specs.Layouts.{Layout, Lies, place_line, place_word, place_kind, is_kept_place}
use Rattle.stop_theorem.specs.Stops.{regions_of, named_in, keeps_of, PlaceIsCovered, IsCovered}

region_same : (c d : Words) → SameLogs c d → (t : ℕ) → regions_of d t ≡ regions_of c t
region_same c d same t = elim (cases_lt t logs) [
  | inl below ↦ rw (same.counts t below) refl
  | inr past ↦ rw (le-ltb t logs past) refl
]

pub regions_same : (c d : Words) → SameLogs c d → regions_of d ≡ regions_of c
regions_same c d same = fun_ext (region_same c d same)

pub named_same : (c d : Words) → SameLogs c d → (line word : ℕ) → named_in d line word ≡ named_in c line word
named_same c d same line word = ap (λ (entries : List Logged). old_word entries line word)
    (logs_below-same c d same)

-- ---- what is covered, where the logs are the same

module _ (first : Heap) (known : Knowledge) (lay : Layout) (K : Threads) (c d : Outcome)
    (logs_are : SameLogs c d) (front : SameFront c d) where
  -- each word that counts is the same but that of one place, if any
  pub covered_same_logs : ((n : ℕ) → has_number known.durable n ≡ true
      → d (lay.line_of n) 0 ≡ c (lay.line_of n) 0)
      → ((r : ℕ) → length known.world.heap.roots ≤ r → r < root_slots
      → d (slot_line r) (slot_word r) ≡ c (slot_line r) (slot_word r))
      → ((p : Place) → is_kept_place known p ≡ true → PlaceIsCovered first known lay K c p
      → PlaceIsCovered first known lay K d p)
      → IsCovered first known lay K c → IsCovered first known lay K d
  covered_same_logs heads unused places covered = record {
    opens = opens-same lay.size c d lay.directory covered.opens front logs_are;
    heads = λ n is. put_back-same c d logs_are (lay.line_of n) 0 (heads n is) ∙ covered.heads n is;
    unused = λ r low high. put_back-same c d logs_are (slot_line r) (slot_word r) (unused r low high)
        ∙ covered.unused r low high;
    named = λ t line word old below is. covered.named t line word old below
        (ap (λ (entries : List Logged). old_word entries line word) (sym (log_same c d logs_are t below))
        ∙ is);
    free = λ p is none. subst (λ (r : ℕ → Bool). AllKept r p known.marks) (sym (regions_same c d logs_are))
        (covered.free p is (sym (named_same c d logs_are (place_line lay known.world.heap p)
        (place_word known.world.heap p)) ∙ none));
    places = λ p is. places p is (covered.places p is);
  }

  -- a place whose word is the same
  pub place_still : (p : Place) → d (place_line lay known.world.heap p)
      (place_word known.world.heap p) ≡ c (place_line lay known.world.heap p) (place_word known.world.heap p)
      → PlaceIsCovered first known lay K c p → PlaceIsCovered first known lay K d p
  place_still p same at =
      let line = place_line lay known.world.heap p in
      let word = place_word known.world.heap p in
      record {
        value = at.value;
        holds = subst (λ x. Holds (Lies lay known) (place_kind known.world.heap p) x at.value)
            (sym (put_back-same c d logs_are line word same)) at.holds;
        has = subst (λ (o : Option ℕ). MayHave first known.marks (regions_of d) (keeps_of K o) p at.value)
            (sym (named_same c d logs_are line word))
            (subst (λ (r : ℕ → Bool). MayHave first known.marks r
            (keeps_of K (named_in c line word)) p at.value) (sym (regions_same c d logs_are)) at.has);
      }
