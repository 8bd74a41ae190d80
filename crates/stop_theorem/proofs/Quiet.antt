-- Acts that change no durable place.
use Rattle.std.proofs.Common.{◌≡◌, inl, inr, ℕ, zero, suc, ◌<◌, Bool, true, false, ◌&&◌, ◌||◌, List, [], ◌∷◌, ◌++◌, length, map}
use Rattle.std.proofs.Common.{refl, sym, ◌∙◌, ap, arith, nat_eq, eq-eqb, slice_index_or}
use Rattle.std.proofs.lemmas.Bool.{cases_Bool, true≢false, and_parts}
use Rattle.ap_base.specs.declared.place.Place.{Place}
use Rattle.ap_base.specs.declared.place.Place.TheVariants.{Static, Slot}
use Rattle.graph_model.specs.declared.types.Value.{Value}
use Rattle.graph_model.specs.declared.types.Root.{Root}
use Rattle.graph_model.specs.Heaps.{has_number, is_kept_slot, stored, place_is}
use Rattle.line_memory.specs.Memory.{Memory, shown}
use Rattle.image_meaning.specs.Corresponds.{Corresponds}
use Rattle.image_meaning.proofs.Elsewhere.{corresponds-fresh, corresponds-other_slot, corresponds-other_static}
use Rattle.run_history.specs.declared.act.Op.{Op}
use Rattle.run_history.specs.declared.act.Op.TheVariants as op
use Rattle.run_history.specs.Worlds.{has_place, depth_of}
use Rattle.run_history.specs.Knowing.{Knowledge, durable_at, is_root, is_outermost, store_fate, after_end, known_after_op}
use Rattle.run_history.proofs.Sizes.{stored-sizes, sizes_refl}
use Rattle.stop_theorem.specs.Choices.{stores_at}
use Rattle.stop_theorem.proofs.Joint.{same_place}
use Rattle.stop_theorem.specs.Layouts.{Layout, Lies, is_kept_place}
use Rattle.stop_theorem.specs.InvariantEvents.{known_by, ShowsKnown}
use Rattle.stop_theorem.proofs.Allowed.{lies_parts}
use Rattle.stop_theorem.proofs.KeptPlaces.{lies_there}
use Rattle.stop_theorem.proofs.Places.{keeps_same}
use Rattle.stop_theorem.proofs.Visible.{keeps_fresh}
use Rattle.stop_theorem.specs.Conditions.{IsSureAct}
use Rattle.stop_theorem.specs.Running.{known_at, Acted}
use Rattle.stop_theorem.specs.GivenCopies.{IsQuiet, QuietActsAreEvents}

-- a root's static is a root
root_there : (roots : List Root) (r : ℕ) → r < length roots
    → is_root roots (slice_index_or (map (λ (root : Root). root.at) roots) r 0) ≡ true
root_there [] r below = absurd (omega (arith, below))
root_there (root ∷ roots) zero below = rw (eq-eqb root.at root.at refl) refl
root_there (root ∷ roots) (suc r) below =
    or_true (nat_eq root.at (slice_index_or (map (λ (one : Root). one.at) roots) r 0))
    (is_root roots (slice_index_or (map (λ (one : Root). one.at) roots) r 0))
    (root_there roots r (omega (arith, below)))
  where
    or_true : (a b : Bool) → b ≡ true → (a || b) ≡ true
    or_true true b is = refl
    or_true false b is = is

not_both : (a b : Bool) → (a && b) ≡ false → b ≡ true → a ≡ false
not_both true b none is = absurd (true≢false (sym is ∙ none))
not_both false b none is = refl

module _ (known : Knowledge) (lay : Layout) (m : Memory) (shows : ShowsKnown lay known m) where
  -- durable objects are there
  there : (n : ℕ) → has_number known.durable n ≡ true → n < length known.world.heap.objects
  there n is = (shows.objects (lay.line_of n) n (lies_there lay known n is)).there

  -- a store at a place that isn't durable changes nothing that is shown
  shows_stored : (p : Place) (v : Value) → durable_at known p ≡ false
      → Corresponds (Lies lay known) lay.directory lay.size (shown m) (stored known.world.heap p v)
  shows_stored (Static n) v isnt =
      corresponds-other_static (Lies lay known) lay.directory lay.size (shown m) known.world.heap n v shows
      (λ r below same. true≢false (sym (root_there known.world.heap.roots r below)
      ∙ ap (λ s. is_root known.world.heap.roots s) same ∙ isnt))
  shows_stored (Slot n i) v isnt =
      corresponds-other_slot (Lies lay known) lay.directory lay.size (shown m) known.world.heap n i v shows
      (λ line lies. not_both (is_kept_slot known.world.heap n i) (has_number known.durable n) isnt
      (lies_parts lay known line n lies).0)

  -- it stores at no kept place
  no_store : (p : Place) (v : Value) → durable_at known p ≡ false → (q : Place) → is_kept_place known q ≡ true
      → stores_at q (op.Stored p v) ≡ false
  no_store p v isnt q kept = elim (cases_Bool (place_is p q)) [
    | inr other ↦ other
    | inl same ↦ absurd (true≢false (
        sym (and_parts (durable_at known q) (has_place known.world.heap q) kept).0
        ∙ ap (λ (x : Place). durable_at known x) (sym (same_place p q same)) ∙ isnt))
  ]

  end_sure : (t at : ℕ) (b : Bool) → b ≡ false
      → IsSureAct known (record (after_end known t b) { at = at }) lay m t op.End
  end_sure t at true isnt = absurd (true≢false isnt)
  end_sure t at false isnt = record {
    rule = tt;
    places = keeps_same lay known (record (after_end known t false) { at = at })
        (record { durable = refl; sizes = sizes_refl known.world.heap });
    marks = refl;
    guards = λ p u guard. guard;
    elsewhere = λ p kept. refl;
    shows = shows;
  }

  -- the act is sure
  quiet_sure : (t at : ℕ) (o : Op) → IsQuiet known t o → IsSureAct known (known_by known t at o []) lay m t o
  unfolding known_after_op
  quiet_sure t at (op.Stored p v) quiet = record {
    rule = (quiet.0, λ durable. absurd (true≢false (sym durable ∙ quiet.1)));
    places = keeps_same lay known (known_by known t at (op.Stored p v) [])
        (record { durable = refl; sizes = stored-sizes known.world.heap p v });
    marks = ap (λ b. known.marks ++ record {
      fate = store_fate t b (depth_of known.world t) (has_number known.closing t);
      op = op.Stored p v;
    } ∷ []) quiet.1;
    guards = λ q u guard. guard;
    elsewhere = no_store p v quiet.1;
    shows = shows_stored p v quiet.1;
  }
  quiet_sure t at (op.Alloc n shape count) quiet = record {
    rule = tt;
    places = keeps_fresh known (known_by known t at
        (op.Alloc n shape count) []) lay shape count refl refl there;
    marks = refl;
    guards = λ p u guard. guard;
    elsewhere = λ p kept. refl;
    shows = corresponds-fresh (Lies lay known) lay.directory lay.size (shown m) known.world.heap shape count
        shows;
  }
  quiet_sure t at (op.Throw n class) quiet = record {
    rule = tt;
    places = keeps_fresh known (known_by known t at (op.Throw n class) []) lay class 0 refl refl there;
    marks = refl;
    guards = λ p u guard. guard;
    elsewhere = λ p kept. refl;
    shows = corresponds-fresh (Lies lay known) lay.directory lay.size
        (shown m) known.world.heap class 0 shows;
  }
  quiet_sure t at op.End quiet = end_sure t at (is_outermost known t) quiet
  quiet_sure t at (op.Guarded p) never = absurd never
  quiet_sure t at op.Joined never = absurd never
  quiet_sure t at op.Closing never = absurd never
  quiet_sure t at op.Fenced never = absurd never
  quiet_sure t at o quiet = record {
    rule = tt;
    places = keeps_same lay known (known_by known t at o [])
        (record { durable = refl; sizes = sizes_refl known.world.heap });
    marks = refl;
    guards = λ p u guard. guard;
    elsewhere = λ p kept. refl;
    shows = shows;
  }

pub quiet_acts : QuietActsAreEvents
quiet_acts first s t o quiet shows =
    Acted s t o [] (quiet_sure (known_at first s) s.layout s.memory shows t s.memory.calls o quiet)
