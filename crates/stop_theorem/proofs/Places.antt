-- Places after an act that makes no object durable: each lies where it lay.
use Rattle.std.proofs.Common.{◌≡◌, ◌≢◌, ℕ, ◌<◌, ◌==◌, true, ◌&&◌, List, Some, None, refl, sym, ◌∙◌, ap, subst, slice_index_or}
use Rattle.ap_base.specs.declared.place.Place.{Place}
use Rattle.ap_base.specs.declared.place.Place.TheVariants.{Static, Slot}
use Rattle.graph_model.specs.declared.types.Value.{Value}
use Rattle.graph_model.specs.declared.types.Root.{Root}
use Rattle.graph_model.specs.declared.types.Shape.{Shape}
use Rattle.graph_model.specs.declared.types.Heap.{Heap}
use Rattle.graph_model.specs.Heaps.{has_number, object_at, shape_at, no_shape, is_kept_slot}
use Rattle.line_image.specs.Trace.{Outcome}
use Rattle.line_memory.specs.Memory.{Memory, shown, CanLeaveAll}
use Rattle.image_layout.specs.Places.{slot_line, slot_word, logs}
use Rattle.image_meaning.specs.Objects.{kind_of}
use Rattle.image_meaning.specs.Logs.{put_back, log_of, old_word}
use Rattle.image_meaning.specs.Corresponds.{Holds, Corresponds}
use Rattle.run_history.specs.Worlds.{has_place}
use Rattle.run_history.specs.Knowing.{Knowledge, guard_of}
use Rattle.stop_theorem.specs.Choices.{Threads, NoThread, MayHave, AllKept}
use Rattle.stop_theorem.specs.Orderly.{IsOrderly}
use Rattle.run_history.specs.Sizes.{SameSizes}
use Rattle.run_history.proofs.Sizes.{same_has}
use Rattle.stop_theorem.specs.Layouts.{Layout, Lies, HasRootSlots, root_number, place_line, place_word, place_kind}
use Rattle.stop_theorem.specs.Layouts.{is_kept_place, KeepsPlaces, SamePlaces}
use Rattle.stop_theorem.specs.Stops.{regions_of, named_in, keeps_of, IsCovered, IsAfterFence, Stands}
use Rattle.stop_theorem.proofs.KeptPlaces.{mark_same}

kept_same : (known next : Knowledge) → SamePlaces known next → (p : Place)
    → is_kept_place next p ≡ is_kept_place known p
kept_same known next s (Static n) =
    rw (s.sizes.roots, same_has known.world.heap next.world.heap (Static n) s.sizes) refl
kept_same known next s (Slot n i) =
    ap (λ b. (b && has_number next.durable n) && has_place next.world.heap (Slot n i))
    (mark_same known.world.heap next.world.heap s.sizes n i)
    ∙ ap (λ (ns : List ℕ). (is_kept_slot known.world.heap n i && has_number ns n)
    && has_place next.world.heap (Slot n i)) s.durable
    ∙ ap (λ b. (is_kept_slot known.world.heap n i && has_number known.durable n) && b)
    (same_has known.world.heap next.world.heap (Slot n i) s.sizes)

kind_same : (h k : Heap) → SameSizes h k → (p : Place) → place_kind k p ≡ place_kind h p
kind_same h k s (Static n) = refl
kind_same h k s (Slot n i) =
    ap (λ (shapes : List Shape). kind_of (slice_index_or shapes (object_at k n).shape no_shape) i) s.shapes
    ∙ ap (λ j. kind_of (shape_at h j) i) (s.shape n)

pub keeps_same : (lay : Layout) (known next : Knowledge) → SamePlaces known next → KeepsPlaces known next
keeps_same lay known next s = record {
  durable = s.durable;
  roots = s.sizes.roots;
  statics = s.sizes.statics;
  kept = kept_same known next s;
  kind = λ p is. kind_same known.world.heap next.world.heap s.sizes p;
}

pub line_same : (lay : Layout) (h k : Heap) → k.roots ≡ h.roots → (p : Place)
    → place_line lay k p ≡ place_line lay h p
line_same lay h k same (Static n) = ap (λ (rs : List Root). slot_line (root_number rs n)) same
line_same lay h k same (Slot n i) = refl

pub word_same : (h k : Heap) → k.roots ≡ h.roots → (p : Place) → place_word k p ≡ place_word h p
word_same h k same (Static n) = ap (λ (rs : List Root). slot_word (root_number rs n)) same
word_same h k same (Slot n i) = refl

pub holds_same : (known next : Knowledge) (lay : Layout) → KeepsPlaces known next → (c : Outcome) (p : Place)
    (value : Value) → is_kept_place known p ≡ true
    → Holds (Lies lay known) (place_kind known.world.heap p)
    (put_back c (place_line lay known.world.heap p) (place_word known.world.heap p)) value
    → Holds (Lies lay next) (place_kind next.world.heap p)
    (put_back c (place_line lay next.world.heap p) (place_word next.world.heap p)) value
holds_same known next lay places c p value was holds =
    let kind = places.kind p was in
    let line = line_same lay known.world.heap next.world.heap places.roots p in
    let word = word_same known.world.heap next.world.heap places.roots p in
    subst (λ (ns : List ℕ). Holds (λ l n. (has_number ns n && lay.line_of n == l) ≡ true)
    (place_kind next.world.heap p) (put_back c (place_line lay next.world.heap p)
    (place_word next.world.heap p)) value) (sym places.durable)
    (rw (kind, line, word) holds)

pub has_same : (first : Heap) (known next : Knowledge) (lay : Layout) (K : Threads) (c : Outcome) (p : Place)
    (v : Value) → next.world.heap.roots ≡ known.world.heap.roots
    → MayHave first next.marks (regions_of c)
    (keeps_of K (named_in c (place_line lay known.world.heap p) (place_word known.world.heap p))) p v
    → MayHave first next.marks (regions_of c)
    (keeps_of K (named_in c (place_line lay next.world.heap p) (place_word next.world.heap p))) p v
has_same first known next lay K c p v roots has =
    rw (
      line_same lay known.world.heap next.world.heap roots p,
      word_same known.world.heap next.world.heap
          roots p,
    ) has

module _ (first : Heap) (known next : Knowledge) (lay : Layout) (K K' : Threads) (c : Outcome)
    (places : KeepsPlaces known next) where
  named_before : (p : Place) → named_in c (place_line lay next.world.heap p)
      (place_word next.world.heap p) ≡ None
      → named_in c (place_line lay known.world.heap p) (place_word known.world.heap p) ≡ None
  named_before p none = ap (λ l. named_in c l (place_word known.world.heap p))
      (sym (line_same lay known.world.heap next.world.heap places.roots p))
      ∙ ap (λ w. named_in c (place_line lay next.world.heap p) w)
      (sym (word_same known.world.heap next.world.heap places.roots p)) ∙ none

  -- What was covered is covered after an act that stores nothing in memory.
  pub covered_act : ((p : Place) (t line word old : ℕ) → guard_of known.guards p ≡ Some t → t < logs
      → old_word (log_of c t) line word ≡ Some old
      → guard_of next.guards p ≡ Some t)
      → ((p : Place) → is_kept_place known p ≡ true
      → named_in c (place_line lay known.world.heap p) (place_word known.world.heap p) ≡ None
      → AllKept (regions_of c) p known.marks → AllKept (regions_of c) p next.marks)
      → ((p : Place) (v : Value) → is_kept_place known p ≡ true
      → MayHave first known.marks (regions_of c)
      (keeps_of K (named_in c (place_line lay known.world.heap p) (place_word known.world.heap p))) p v
      → MayHave first next.marks (regions_of c)
      (keeps_of K' (named_in c (place_line lay known.world.heap p) (place_word known.world.heap p))) p v)
      → IsCovered first known lay K c → IsCovered first next lay K' c
  covered_act guards free have covered = record {
    opens = covered.opens;
    heads = λ n is. covered.heads n (ap (λ (ns : List ℕ). has_number ns n) (sym places.durable) ∙ is);
    unused = λ r low high. covered.unused r (rw places.roots at low) high;
    named = λ t line word old below is.
        let g = covered.named t line word old below is in
        record {
          place = g.place;
          is_kept = places.kept g.place ∙ g.is_kept;
          line_is = g.line_is ∙ sym (line_same lay known.world.heap next.world.heap places.roots g.place);
          word_is = g.word_is ∙ sym (word_same known.world.heap next.world.heap places.roots g.place);
          guard = guards g.place t line word old g.guard below is;
        };
    free = λ p is none.
        let was : is_kept_place known p ≡ true = sym (places.kept p) ∙ is in
        free p was (named_before p none) (covered.free p was (named_before p none));
    places = λ p is.
        let was : is_kept_place known p ≡ true = sym (places.kept p) ∙ is in
        let at = covered.places p was in
        record {
          value = at.value;
          holds = holds_same known next lay places c p at.value was at.holds;
          has = has_same first known next lay K' c p at.value places.roots (have p at.value was at.has);
        };
  }

module _ (first : Heap) (known next : Knowledge) (lay : Layout) (Waits Waits' : Threads) (m : Memory)
    (places : KeepsPlaces known next) where
  pub roots_still : HasRootSlots known.world.heap → HasRootSlots next.world.heap
  roots_still has = record {
    numbers = λ r below. let b = rw places.roots at below in rw places.roots (has.numbers r b);
    statics = λ r below. let b = rw places.roots at below in
        rw (places.roots, places.statics) (has.statics r b);
    roots = λ r below. let b = rw places.roots at below in rw places.roots (has.roots r b);
  }

  abbrev pub AreApart : Knowledge → Type 0
  AreApart k = (p q : Place) → is_kept_place k p ≡ true → is_kept_place k q ≡ true
      → place_line lay k.world.heap p ≡ place_line lay k.world.heap q
      → place_word k.world.heap p ≡ place_word k.world.heap q → p ≡ q

  pub apart_still : AreApart known → AreApart next
  apart_still apart p q is_p is_q line word =
      apart p q (sym (places.kept p) ∙ is_p) (sym (places.kept q) ∙ is_q)
      (sym (line_same lay known.world.heap next.world.heap places.roots p) ∙ line
      ∙ line_same lay known.world.heap next.world.heap places.roots q)
      (sym (word_same known.world.heap next.world.heap places.roots p) ∙ word
      ∙ word_same known.world.heap next.world.heap places.roots q)

  abbrev pub NoHeads : Knowledge → Type 0
  NoHeads k = (p : Place) (n : ℕ) → is_kept_place k p ≡ true → has_number k.durable n ≡ true
      → place_line lay k.world.heap p ≡ lay.line_of n → place_word k.world.heap p ≢ 0

  pub no_heads_still : NoHeads known → NoHeads next
  no_heads_still none p n is durable line word =
      none p n (sym (places.kept p) ∙ is)
      (subst (λ (ns : List ℕ). has_number ns n ≡ true) places.durable durable)
      (sym (line_same lay known.world.heap next.world.heap places.roots p) ∙ line)
      (sym (word_same known.world.heap next.world.heap places.roots p) ∙ word)

  -- An act that stores nothing in memory.
  pub stands_act : Stands first known lay Waits m → IsOrderly first next
      → Corresponds (Lies lay next) lay.directory lay.size (shown m) next.world.heap
      → ((c : Outcome) → CanLeaveAll m c → IsCovered first known lay NoThread c
      → IsCovered first next lay NoThread c)
      → ((c : Outcome) → CanLeaveAll m c → IsAfterFence m c → IsCovered first known lay Waits c
      → IsCovered first next lay Waits' c)
      → Stands first next lay Waits' m
  stands_act s orderly shows leaves fenced = record {
    orderly = orderly;
    size = s.size;
    roots = roots_still s.roots;
    shows = shows;
    heads = λ n is. s.heads n (subst (λ (ns : List ℕ). has_number ns n ≡ true) places.durable is);
    apart = apart_still s.apart;
    no_heads = no_heads_still s.no_heads;
    leaves = λ c left. leaves c left (s.leaves c left);
    fenced = λ c left after. fenced c left after (s.fenced c left after);
  }
