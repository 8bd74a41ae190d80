-- What words that correspond to a heap hold at a durable place.
use Rattle.std.proofs.Common.{◌≡◌, ℕ, ◌<◌, true, false, ◌||◌, List, [], ◌∷◌, length, map, refl, sym, ◌∙◌, ap, subst, arith}
use Rattle.std.proofs.Common.{nat_eq, if◌then◌else◌, slice_index_or}
use Rattle.std.proofs.lemmas.Bool.{true≢false, eqb-true}
use Rattle.ap_base.specs.declared.place.Place.{Place}
use Rattle.ap_base.specs.declared.place.Place.TheVariants.{Static, Slot}
use Rattle.graph_model.specs.declared.types.Root.{Root}
use Rattle.graph_model.specs.declared.types.Shape.{Shape}
use Rattle.graph_model.specs.declared.types.Heap.{Heap}
use Rattle.graph_model.specs.Heaps.{object_at, shape_at, value_at}
use Rattle.line_memory.specs.Memory.{Memory, shown}
use Rattle.image_layout.specs.Places.{slot_line, slot_word}
use Rattle.image_meaning.specs.Checks.{Words}
use Rattle.image_meaning.specs.Objects.{kind_of, shape_of}
use Rattle.image_meaning.specs.Corresponds.{Holds, HoldsReference, Corresponds}
use Rattle.image_meaning.proofs.Agreeing.{root_value_is}
use Rattle.run_history.specs.Knowing.{Knowledge, is_root}
use Rattle.stop_theorem.specs.Choices.{Threads}
use Rattle.stop_theorem.specs.Layouts.{Layout, Lies, root_number, place_line, place_word, place_kind, is_kept_place}
use Rattle.stop_theorem.specs.Stops.{Stands}
use Rattle.stop_theorem.proofs.KeptPlaces.{slot_parts, root_parts, lies_there}

pub root_is : (roots : List Root) (s : ℕ) → is_root roots s ≡ true
    → (root_number roots s < length roots) × (slice_index_or (map (λ (r : Root). r.at) roots)
    (root_number roots s) 0 ≡ s)
root_is [] s is = absurd (true≢false (sym is))
root_is (r ∷ rs) s is = elim (nat_eq r.at s) as (λ b. nat_eq r.at s ≡ b → (b || is_root rs s) ≡ true
    → ((if b then 0 else ℕ.suc (root_number rs s)) < ℕ.suc (length rs)) × (slice_index_or
    (r.at ∷ map (λ (q : Root). q.at) rs) (if b then 0 else ℕ.suc (root_number rs s)) 0 ≡ s)) [
      | true ↦ λ e _. (omega arith, eqb-true r.at s e)
      | false ↦ λ e rest. let more = root_is rs s rest in (omega (arith, more.0), more.1)
    ] refl is

-- of any words that correspond
pub holds_shown : (known : Knowledge) (lay : Layout) (words : Words)
    → Corresponds (Lies lay known) lay.directory lay.size words known.world.heap → (p : Place)
    → is_kept_place known p ≡ true
    → Holds (Lies lay known) (place_kind known.world.heap p)
    (words (place_line lay known.world.heap p) (place_word known.world.heap p)) (value_at known.world.heap p)
holds_shown known lay words shows (Static n) is =
    let root = (root_parts known n is).0 in
    let r = root_number known.world.heap.roots n in
    let found = root_is known.world.heap.roots n root in
    let value = root_value_is known.world.heap r found.0
    ∙ ap (λ k. value_at known.world.heap (Static k)) found.1 in
    subst (λ v. HoldsReference (Lies lay known) (words (slot_line r) (slot_word r)) v) value
    (shows.at_roots r found.0)
holds_shown known lay words shows (Slot n i) is =
    let slot = slot_parts known n i is in
    let o = shows.objects (lay.line_of n) n (lies_there lay known n slot.durable) in
    let kind : kind_of (shape_of lay.directory.shapes words (lay.line_of n)) i ≡ kind_of
    (shape_at known.world.heap (object_at known.world.heap n).shape) i =
    ap (λ (shape : Shape). kind_of shape i) o.shape in
    subst (λ k. Holds (Lies lay known) k
    (words (place_line lay known.world.heap (Slot n i)) (place_word known.world.heap (Slot n i)))
    (value_at known.world.heap (Slot n i))) kind (o.slots i slot.inside slot.mark)

-- what a kept place shows is its value
pub shown_holds : (first : Heap) (known : Knowledge) (lay : Layout) (Waits : Threads) (m : Memory)
    → Stands first known lay Waits m → (p : Place) → is_kept_place known p ≡ true
    → Holds (Lies lay known) (place_kind known.world.heap p)
    (shown m (place_line lay known.world.heap p) (place_word known.world.heap p))
    (value_at known.world.heap p)
shown_holds first known lay Waits m s p is = holds_shown known lay (shown m) s.shows p is
