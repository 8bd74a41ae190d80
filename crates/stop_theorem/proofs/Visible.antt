-- Acts that are sure and store at no durable place: the visible ones, Asked and Guarded.
use Rattle.std.proofs.Common.{◌≡◌, inl, inr, ℕ, ◌<◌, nat_lt, Bool, true, false, ◌&&◌, ◌∙◌, List, [], length, Some, refl, sym}
use Rattle.std.proofs.Common.{ap, subst, arith}
use Rattle.std.proofs.lemmas.Bool.{cases_Bool, lt-ltb, and_left, and_right}
use Rattle.std.proofs.lemmas.List.{length_push}
use Rattle.ap_base.specs.declared.place.Place.{Place}
use Rattle.ap_base.specs.declared.place.Place.TheVariants.{Static, Slot}
use Rattle.graph_model.specs.declared.types.Obj.{Obj}
use Rattle.graph_model.specs.declared.types.Heap.{Heap}
use Rattle.graph_model.specs.Heaps.{has_number, shape_at, values_of, is_kept_slot, with_fresh, fresh_values}
use Rattle.line_image.specs.Trace.{Outcome}
use Rattle.line_memory.specs.Memory.{Memory, shown}
use Rattle.image_meaning.specs.Objects.{kind_of}
use Rattle.image_meaning.proofs.KeptSlots.{kept_by_shape}
use Rattle.image_meaning.specs.Corresponds.{Corresponds}
use Rattle.run_history.specs.declared.act.Op.{Op}
use Rattle.run_history.specs.declared.act.Op.TheVariants as op
use Rattle.run_history.specs.Worlds.{has_place}
use Rattle.run_history.specs.Knowing.{Sure, Mark, Knowledge, guard_of, with_sure, known_after_op, next_known}
use Rattle.stop_theorem.specs.Choices.{Threads, NoThread, MayHave, AllKept, stores_at}
use Rattle.stop_theorem.specs.Orderly.{IsOrderly}
use Rattle.stop_theorem.proofs.Having.{having_elsewhere}
use Rattle.run_history.proofs.Sizes.{fresh_low, sizes_refl}
use Rattle.stop_theorem.proofs.Marks.{all_sure, guard_added}
use Rattle.stop_theorem.specs.Layouts.{Layout, Lies, place_line, place_word, place_kind, is_kept_place, KeepsPlaces}
use Rattle.stop_theorem.specs.Stops.{regions_of, named_in, keeps_of, IsCovered, Stands}
use Rattle.stop_theorem.proofs.KeptPlaces.{slot_parts}
use Rattle.stop_theorem.proofs.Places.{keeps_same, covered_act, stands_act}
use Rattle.stop_theorem.proofs.Acting.{kept_there, act_of, order_by}
use Rattle.stop_theorem.specs.InvariantLaws.{GuardsKeep}

module _ (first : Heap) (known next : Knowledge) (lay : Layout) (Waits : Threads) (m : Memory) (o : Op) where
  -- A sure act, which stores at no durable place, and gives no guard up.
  pub stands_sure : KeepsPlaces known next → next.marks ≡ with_sure known.marks o
      → ((p : Place) (t : ℕ) → guard_of known.guards p ≡ Some t → guard_of next.guards p ≡ Some t)
      → ((p : Place) → is_kept_place known p ≡ true → stores_at p o ≡ false)
      → Stands first known lay Waits m → IsOrderly first next
      → Corresponds (Lies lay next) lay.directory lay.size (shown m) next.world.heap
      → Stands first next lay Waits m
  stands_sure places marks guards none s orderly shows =
      let to : (K : Threads) (c : Outcome) → IsCovered first known lay K c → IsCovered first next lay K c =
      λ K c covered.
      covered_act first known next lay K K c places (λ p u line word old guard below is. guards p u guard)
      (λ p is none free. subst (λ (ms : List Mark). AllKept (regions_of c) p ms) (sym marks)
      (all_sure (regions_of c) p o known.marks free))
      (λ p v is has. subst (λ (ms : List Mark). MayHave first ms (regions_of c)
      (keeps_of K (named_in c (place_line lay known.world.heap p) (place_word known.world.heap p))) p v)
      (sym marks)
      (having_elsewhere first known.marks (regions_of c)
      (keeps_of K (named_in c (place_line lay known.world.heap p)
      (place_word known.world.heap p))) p v Sure o s.orderly.lost
      (kept_there first known p s.orderly is) (none p is) has))
      covered in
      stands_act first known next lay Waits Waits m places s orderly shows
      (λ c left covered. to NoThread c covered) (λ c left after covered. to Waits c covered)

-- Thread t's region guards a place.
pub stands_guarded : (first : Heap) (known : Knowledge) (lay : Layout) (Waits : Threads) (m : Memory)
    (t at : ℕ) (p : Place)
    → Stands first known lay Waits m → IsOrderly first (next_known known (act_of t at (op.Guarded p) []))
    → Stands first (next_known known (act_of t at (op.Guarded p) [])) lay Waits m
unfolding known_after_op
stands_guarded first known lay Waits m t at p s orderly =
    let next = next_known known (act_of t at (op.Guarded p) []) in
    stands_sure first known next lay Waits m (op.Guarded p)
    (keeps_same lay known next (record { durable = refl; sizes = sizes_refl known.world.heap })) refl
    (λ q u is. guard_added known.guards (record { thread = t; place = p }) q u is)
    (λ q is. refl) s orderly s.shows

-- one more object, which isn't durable
pub keeps_fresh : (known next : Knowledge) (lay : Layout) (shape count : ℕ) → next.durable ≡ known.durable
    → next.world.heap ≡ with_fresh known.world.heap shape count
    → ((n : ℕ) → has_number known.durable n ≡ true → n < length known.world.heap.objects)
    → KeepsPlaces known next
keeps_fresh known next lay shape count durable heap low =
    subst (λ (h : Heap). KeepsPlaces known (record next { world = record next.world { heap = h } }))
    (sym heap)
    (record {
      durable = durable;
      roots = refl;
      statics = refl;
      kept = kept;
      kind = kind;
    })
  where
    not_among : (a b c : Bool) → b ≡ false → ((a && b) && c) ≡ false
    not_among a b c isnt = and_left (a && b) c (and_right a b isnt)

    kept : (p : Place)
        → is_kept_place (record next {
          world =
              record next.world { heap = with_fresh known.world.heap shape count };
        }) p ≡ is_kept_place known p
    kept (Static n) = refl
    kept (Slot n i) = elim (cases_Bool (has_number known.durable n)) [
      | inr isnt ↦
          not_among (is_kept_slot (with_fresh known.world.heap shape count) n i) (has_number next.durable n)
          (has_place (with_fresh known.world.heap shape count) (Slot n i))
          (ap (λ (ns : List ℕ). has_number ns n) durable ∙ isnt)
          ∙ sym (not_among (is_kept_slot known.world.heap n i) (has_number known.durable n)
          (has_place known.world.heap (Slot n i)) isnt)
      | inl is ↦ (
          let below = low n is in
          let same = fresh_low known.world.heap shape count n below in
          let more = length_push known.world.heap.objects
          (record { shape = shape; values = fresh_values (shape_at known.world.heap shape) count }) in
          let there : has_place (with_fresh known.world.heap shape count)
          (Slot n i) ≡ has_place known.world.heap (Slot n i) =
          ap (λ (o : Obj). nat_lt n (length (with_fresh known.world.heap shape count).objects) && nat_lt i
          (length o.values)) same
          ∙ ap (λ b. b && nat_lt i (length (values_of known.world.heap n)))
          (lt-ltb n (length (with_fresh known.world.heap shape count).objects) (omega (arith, below, more))
          ∙ sym (lt-ltb n (length known.world.heap.objects) below)) in
          ap (λ b. (b && has_number next.durable n) && has_place (with_fresh known.world.heap shape count)
          (Slot n i))
          (kept_by_shape known.world.heap (with_fresh known.world.heap shape count) n i
          (ap (λ (o : Obj). shape_at known.world.heap o.shape) same))
          ∙ ap (λ (ns : List ℕ). (is_kept_slot known.world.heap n i && has_number ns n)
          && has_place (with_fresh known.world.heap shape count) (Slot n i)) durable
          ∙ ap (λ b. (is_kept_slot known.world.heap n i && has_number known.durable n) && b) there)
    ]

    kind : (p : Place) → is_kept_place known p ≡ true
        → place_kind (with_fresh known.world.heap shape count) p ≡ place_kind known.world.heap p
    kind (Static n) is = refl
    kind (Slot n i) is =
        let durable_n = (slot_parts known n i is).durable in
        ap (λ (o : Obj). kind_of (shape_at known.world.heap o.shape) i)
        (fresh_low known.world.heap shape count n (low n durable_n))

pub guards_keep : GuardsKeep
guards_keep first known lay Waits m t at p s =
    stands_guarded first known lay Waits m t at p s (order_by first known t at [] (op.Guarded p) s.orderly tt)
