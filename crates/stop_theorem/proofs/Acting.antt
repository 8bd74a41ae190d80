-- An act and what is known after it.
use Rattle.stop_theorem.proofs.Marks.{ops_each}
use Rattle.std.proofs.Common.{◌≡◌, ℕ, Bool, true, false, List, [], Option, Some, None, refl, sym, ◌∙◌, ap, nat_eq}
use Rattle.std.proofs.Common.{if◌then◌else◌}
use Rattle.std.specs.List.{AllByRecursion}
use Rattle.std.proofs.lemmas.Bool.{true≢false, and_parts}
use Rattle.ap_base.specs.declared.place.Place.{Place}
use Rattle.graph_model.specs.declared.types.Value.{Value}
use Rattle.graph_model.specs.declared.types.Heap.{Heap}
use Rattle.line_memory.specs.Memory.{Memory}
use Rattle.run_history.specs.declared.act.Op.{Op}
use Rattle.run_history.specs.declared.act.Op.TheVariants as op
use Rattle.run_history.specs.Recorded.{Recorded}
use Rattle.run_history.specs.Worlds.{heap_after, has_place}
use Rattle.run_history.specs.Knowing.{Fate, Sure, Knowledge, each_fate, with_sure, durable_at, known_after_op, next_known}
use Rattle.stop_theorem.specs.Choices.{Threads, NoThread, MayHave, stores_at, without_thread}
use Rattle.stop_theorem.specs.Orderly.{ops_of_marks, LosesStores, IsOrderly, KeepsRule}
use Rattle.stop_theorem.proofs.Having.{having_elsewhere, having_fewer}
use Rattle.stop_theorem.proofs.Ordered.{orderly_next}
use Rattle.run_history.proofs.Sizes.{stored-sizes}
use Rattle.stop_theorem.specs.Layouts.{Layout, is_kept_place, KeepsPlaces}
use Rattle.stop_theorem.specs.Stops.{keeps_of}
use Rattle.stop_theorem.proofs.Places.{keeps_same}
use Rattle.stop_theorem.specs.InvariantEvents.{known_by}

-- the heap has a kept place
pub kept_there : (first : Heap) (known : Knowledge) (p : Place) → IsOrderly first known
    → is_kept_place known p ≡ true → has_place (heap_after first (ops_of_marks known.marks)) p ≡ true
kept_there first known p orderly is = ap (λ (h : Heap). has_place h p) (sym orderly.heap)
    ∙ (and_parts (durable_at known p) (has_place known.world.heap p) is).1

pub keeps_more : (K : Threads) (n : Option ℕ) (t : ℕ) → K t ≡ true → keeps_of K n t ≡ true
keeps_more K None t is = is
keeps_more K (Some old) t is = refl

pub keeps_fewer : (K K' : Threads) → ((t : ℕ) → K' t ≡ true → K t ≡ true) → (n : Option ℕ) (t : ℕ)
    → keeps_of K' n t ≡ true → keeps_of K n t ≡ true
keeps_fewer K K' fewer None t is = fewer t is
keeps_fewer K K' fewer (Some old) t is = refl

abbrev pub act_of : ℕ → ℕ → Op → List ℕ → Recorded
act_of t at o named = record { act = record { thread = t; at = at; op = o }; named = named }

pub without_fewer : (t : ℕ) (K : Threads) (u : ℕ) → without_thread t K u ≡ true → K u ≡ true
without_fewer t K u = elim (nat_eq u t) as (λ b. (if b then false else K u) ≡ true
    → K u ≡ true) [ true ↦ λ e. absurd (true≢false (sym e)) | false ↦ λ e. e ]

pub none_fewer : (K : Threads) (u : ℕ) → NoThread u ≡ true → K u ≡ true
none_fewer K u is = absurd (true≢false (sym is))

module _ (first : Heap) (known : Knowledge) (lay : Layout) (m : Memory) where
  -- fates change, and a sure act is added, which stores at no durable place
  pub changed : (r : ℕ → Bool) (K K' : Threads) (f : Fate → Fate) (o : Op) (p : Place) (v : Value)
      (n : Option ℕ) → IsOrderly first known → AllByRecursion LosesStores (each_fate f known.marks)
      → is_kept_place known p ≡ true → stores_at p o ≡ false → ((u : ℕ) → K' u ≡ true → K u ≡ true)
      → MayHave first (each_fate f known.marks) r (keeps_of K n) p v
      → MayHave first (with_sure (each_fate f known.marks) o) r (keeps_of K' n) p v
  changed r K K' f o p v n orderly lost is other fewer has =
      having_fewer first (with_sure (each_fate f known.marks) o) r (keeps_of K n) p v (keeps_of K' n)
      (keeps_fewer K K' fewer n)
      (having_elsewhere first (each_fate f known.marks) r (keeps_of K n) p v Sure o lost
      (ap (λ ops. has_place (heap_after first ops) p) (ops_each f known.marks)
      ∙ kept_there first known p orderly is) other has)

-- a store leaves each durable place where it was
pub store_places : (known : Knowledge) (lay : Layout) (t at : ℕ) (p : Place) (v : Value)
    → KeepsPlaces known (next_known known (act_of t at (op.Stored p v) []))
unfolding known_after_op
store_places known lay t at p v =
    keeps_same lay known (next_known known (act_of t at (op.Stored p v) []))
    (record { durable = refl; sizes = stored-sizes known.world.heap p v })

-- an act that keeps the rule keeps the order
pub order_by : (first : Heap) (known : Knowledge) (t at : ℕ) (named : List ℕ) (o : Op) → IsOrderly first known
    → KeepsRule known t o → IsOrderly first (known_by known t at o named)
order_by first known t at named o s rule =
    orderly_next first known (record { act = record { thread = t; at = at; op = o }; named = named }) s rule
