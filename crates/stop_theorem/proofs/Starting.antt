-- A run starts in the invariant.
use Rattle.std.proofs.Common.{◌≡◌, ℕ, true, false, Some, None, refl, sym, ◌∙◌, ap, subst, arith}
use Rattle.std.proofs.lemmas.Bool.{eq-eqb}
use Rattle.ap_base.specs.declared.place.Place.{Place}
use Rattle.ap_base.specs.declared.place.Place.TheVariants.{Static, Slot}
use Rattle.graph_model.specs.Heaps.{value_at}
use Rattle.line_image.specs.Trace.{Outcome}
use Rattle.line_memory.specs.Memory.{Memory, IsDurable, shown, CanLeaveAll}
use Rattle.image_layout.specs.Places.{slot_line, slot_word, directory_line, directory_word, log_head_line}
use Rattle.image_meaning.specs.Logs.{log_count, first_logged, old_word, is_log_line, put_back, SameLogs, NoneLogged}
use Rattle.image_meaning.specs.Laws.{SameFront}
use Rattle.image_meaning.specs.Corresponds.{Holds}
use Rattle.image_meaning.proofs.Logs.{put_back-none, not_log_after, not_log_before}
use Rattle.image_meaning.proofs.Opened.{opens-same}
use Rattle.run_history.specs.Knowing.{Knowledge}
use Rattle.stop_theorem.specs.Choices.{Threads, NoThread, AllKept, left_heap}
use Rattle.stop_theorem.specs.Orderly.{IsOrderly}
use Rattle.stop_theorem.specs.Layouts.{Layout, Lies, place_line, place_word, place_kind, is_kept_place}
use Rattle.stop_theorem.specs.Stops.{IsCovered, Stands, regions_of}
use Rattle.stop_theorem.specs.Starts.{Starts}
use Rattle.stop_theorem.proofs.Apart.{places_apart, heads_apart}
use Rattle.stop_theorem.proofs.Stored.{root_below}
use Rattle.stop_theorem.proofs.Held.{holds_shown}
use Rattle.stop_theorem.proofs.KeptPlaces.{slot_parts, root_parts, lies_there}

module _ (known : Knowledge) (lay : Layout) (m : Memory) (s : Starts known lay m) (K : Threads) (c : Outcome)
    (left : CanLeaveAll m c) where
  same : (l w : ℕ) → IsDurable m l w → c l w ≡ shown m l w
  same l w durable = durable (c l w) (left l w)

  front : SameFront (shown m) c
  front = record {
    super = λ w below. same 0 w (s.super w below);
    directory = λ i below. same (directory_line i) (directory_word i) (s.entries i below);
  }

  unlogged : NoneLogged c
  unlogged t below = same (log_head_line t) 0 (s.counts t below) ∙ s.unlogged t below

  logs_are : SameLogs (shown m) c
  logs_are = record {
    counts = λ t below. unlogged t below ∙ sym (s.unlogged t below);
    entries = λ t n below few. absurd (let e = s.unlogged t below in omega (arith, few, e));
  }

  line_outside : (p : Place) → is_kept_place known p ≡ true
      → is_log_line (place_line lay known.world.heap p) ≡ false
  line_outside (Static n) is =
      let root = (root_parts known n is).0 in
      let below = root_below known.world.heap.roots n root in
      let few = s.shows.few in
      not_log_before (place_line lay known.world.heap (Static n)) (omega (arith, below, few))
  line_outside (Slot n i) is =
      let o = s.shows.objects (lay.line_of n) n
      (lies_there lay known n (slot_parts known n i is).durable) in
      not_log_after (place_line lay known.world.heap (Slot n i)) (let low = o.low in omega (arith, low))

  covered_first : IsCovered known.world.heap known lay K c
  covered_first = record {
    opens = opens-same lay.size (shown m) c lay.directory s.opens front logs_are;
    heads = λ n is.
        let o = s.shows.objects (lay.line_of n) n
        (rw (is, eq-eqb (lay.line_of n) (lay.line_of n) refl) refl) in
        put_back-none c unlogged (lay.line_of n) 0 (not_log_after (lay.line_of n) o.low)
        ∙ same (lay.line_of n) 0 (s.durable_heads n is) ∙ s.heads n is;
    unused = λ r low high.
        put_back-none c unlogged (slot_line r) (slot_word r)
        (not_log_before (slot_line r) (omega (arith, high)))
        ∙ same (slot_line r) (slot_word r) (s.slots r high) ∙ s.shows.unused r low high;
    named = λ t line word old below is. absurd (
        let none : log_count c t ≡ 0 = unlogged t below in
        let wrong : None ≡ Some old = sym (ap (λ k. old_word (first_logged c t k) line word) none) ∙ is in
        cc);
    free = λ p is none. subst (λ ms. AllKept (regions_of c) p ms) (sym s.no_marks) tt;
    places = λ p is.
        let line = place_line lay known.world.heap p in
        let word = place_word known.world.heap p in
        let out = line_outside p is in
        let word_is : put_back c line word ≡ shown m line word = put_back-none c unlogged line word out
        ∙ same line word (s.durable_places p is) in
        record {
          value = value_at known.world.heap p;
          holds = subst (λ x. Holds (Lies lay known) (place_kind known.world.heap p) x
              (value_at known.world.heap p)) (sym word_is) (holds_shown known lay (shown m) s.shows p is);
          has = record {
            singles = λ t. true;
            keeps = λ t _. refl;
            is = ap
                (λ ms. value_at (left_heap known.world.heap ms (regions_of c) (λ t. true)) p)
                (sym s.no_marks);
          };
        };
  }

pub stands_first : (known : Knowledge) (lay : Layout) (m : Memory) → Starts known lay m
    → IsOrderly known.world.heap known → Stands known.world.heap known lay NoThread m
stands_first known lay m s orderly = record {
  orderly = orderly;
  size = s.size;
  roots = s.roots;
  shows = s.shows;
  heads = s.heads;
  apart = places_apart known lay (shown m) s.shows s.roots;
  no_heads = heads_apart known lay (shown m) s.shows;
  leaves = λ c left. covered_first known lay m s NoThread c left;
  fenced = λ c left after. covered_first known lay m s NoThread c left;
}
