-- The answers of a machine that keeps its run.
use Rattle.std.proofs.Common.{◌≡◌, ◌⊎◌, inl, inr, ℕ, suc, ◌-◌, ◌<◌, ◌||◌, true, false, nat_eq, not, List, [], ◌∷◌, length, map}
use Rattle.std.proofs.Common.{Option, Some, None, refl, sym, ◌∙◌, ap, subst, arith, rules, if◌then◌else◌}
use Rattle.std.specs.Prelude.{slice_index_or, ◌↔◌}
use Rattle.std.proofs.lemmas.Bool.{false≢true}
use Rattle.std.proofs.lemmas.List.{get_or_past}
use Rattle.ap_base.specs.declared.place.Place.{Place}
use Rattle.ap_base.specs.declared.place.Place.TheVariants as place
use Rattle.ap_base.specs.declared.reference.Ref.{Ref}
use Rattle.ap_base.specs.declared.reference.Item.{Item}
use Rattle.ap_base.specs.declared.reference.Item.TheVariants.{Int as IntItem, Long as LongItem, Ref as RefItem}
use Rattle.graph_model.specs.declared.types.Root.{Root as DurableRoot}
use Rattle.graph_model.specs.declared.types.Heap.{Heap}
use Rattle.ap_base.specs.declared.place.Spot.{Spot}
use Rattle.image_layout.specs.Places.{slot_line, slot_word}
use Rattle.run_history.specs.Knowing.{durable_at, is_root}
use Rattle.plain_model.specs.Runs.{is_volatile}
use Rattle.shared_objects.specs.Shown.{item_value, number_value}
use Rattle.stop_theorem.specs.InvariantEvents.{line_at, word_at}
use Rattle.stop_theorem.specs.Layouts.{root_number}
use Rattle.object_steps.specs.declared.storing.Store.{Store}
use Rattle.object_steps.specs.Stores.{place_of}
use Rattle.twin_forms.specs.Sights.{view_of}
use Rattle.twin_forms.specs.Table.{Entry, entry, HasCopied, InP, no_entry}
use Rattle.twin_forms.proofs.Led.{same_or_not, below_or_not}
use Rattle.machine_forms.specs.Passed.{Root}
use Rattle.machine_forms.specs.Passed.{number_in}
use Rattle.machine_forms.proofs.Passed.{named_number, number_named}
use Rattle.machine_forms.specs.Machines.{Machine, Opening, known_in, layout_in}
use Rattle.machine_forms.specs.Keeping.{KeepsRun}
use Rattle.machine_forms.specs.Events.{IsSlotOfClaimed, value_in}
use Rattle.machine_forms.proofs.Layouts.{layouts}
use Rattle.region_events.specs.Guards.{IsWordOf}
use Rattle.store_barrier.specs.Barriers.{ConvertsFirst, HoldsDurable, IsDurablePlace, IsRoot, IsSpotAt, IsVolatile}
use Rattle.store_barrier.specs.Barriers.{line_of_place, line_of_static, static_at, word_of_place, word_of_static}
use Rattle.store_barrier.specs.Laws.{Asks, ConversionsAreAsked, DurableLinesAgree, DurablePlacesAgree, DurableWordsAgree}
use Rattle.store_barrier.specs.Laws.{StoresKeepDurable}
use Rattle.store_barrier.proofs.Holders.{durable_or_not}

-- ---- roots

static_of : List DurableRoot → ℕ → ℕ
static_of rs r = slice_index_or (map (λ (root : DurableRoot). root.at) rs) r 0

-- the first root that has the static
record IsRootAt (rs : List DurableRoot) (f r : ℕ) : Type 0 where
  below : r < length rs
  static : static_of rs r ≡ f

root_at : (rs : List DurableRoot) (f : ℕ) → is_root rs f ≡ true → IsRootAt rs f (root_number rs f)
unfolding static_of
root_at [] f is = absurd (false≢true is)
root_at (r ∷ rs) f is = elim (nat_eq r.at f) as (λ b. nat_eq r.at f ≡ b → (b || is_root rs f) ≡ true
    → IsRootAt (r ∷ rs) f (if b then 0 else suc (root_number rs f))) [
      | true ↦ λ same e. record { below = omega arith; static = search (rules, same) }
      | false ↦ λ same e. (let rest = root_at rs f e in let lt = rest.below in
          record { below = omega (arith, lt); static = rest.static })
    ] refl is

-- ---- one machine

-- where a durable object lies
pub line_of_durable : (o : Opening) (es : List Entry) (n : ℕ) → InP es n
    → (layout_in o es).line_of n ≡ (entry es n).line
line_of_durable o es n durable = rw ((layouts.durable es n).1 durable) refl

module _ (o : Opening) (m : Machine) (es : List Entry) (k : KeepsRun o m es) where
  abbrev heap : Heap
  heap = (known_in o m).world.heap

  root_durable : (f : ℕ) → is_root heap.roots f ≡ true → IsRoot (static_at m.spaces f)
  unfolding static_of
  root_durable f is =
      let at = root_at heap.roots f is in (
        root_number heap.roots f,
        subst (λ g. static_at m.spaces g ≡ Root (root_number heap.roots f)) at.static
            (k.world.roots.there (root_number heap.roots f) at.below),
      )

  durable_root : (f : ℕ) → IsRoot (static_at m.spaces f) → is_root heap.roots f ≡ true
  durable_root f root =
      let of = k.world.roots.others f root.0 root.1 in
      subst (λ g. is_root heap.roots g ≡ true) of.1 (k.world.roots.sized.roots root.0 of.0)

  place_agrees : (p : Place) → (durable_at (known_in o m) p ≡ true) ↔ IsDurablePlace m.spaces es p
  place_agrees (place.Static f) = (root_durable f, durable_root f)
  place_agrees (place.Slot n i) = k.asked.durable n

  line_agrees : (p : Place) → IsDurablePlace m.spaces es p
      → line_of_place m.spaces es p ≡ line_at (layout_in o es) (known_in o m) p
  line_agrees (place.Static f) root =
      let of = k.world.roots.others f root.0 root.1 in
      ap line_of_static root.1 ∙ ap slot_line (sym (ap (root_number heap.roots) (sym of.1)
      ∙ k.world.roots.sized.numbers root.0 of.0))
  line_agrees (place.Slot n i) durable =
      let at = line_of_durable o es n durable in
      omega (arith, at)

  word_agrees : (p : Place) → IsDurablePlace m.spaces es p → word_of_place m.spaces p ≡ word_at (known_in o m) p
  word_agrees (place.Static f) root =
      let of = k.world.roots.others f root.0 root.1 in
      ap word_of_static root.1 ∙ ap slot_word (sym (ap (root_number heap.roots) (sym of.1)
      ∙ k.world.roots.sized.numbers root.0 of.0))
  word_agrees (place.Slot n i) durable = refl

  pub word_is : (p : Place) (spot : Spot) → IsSpotAt m.spaces es p spot → IsWordOf (known_in o m) (layout_in o es) spot p
  word_is p spot at = record {
    line = at.line ∙ line_agrees p at.durable;
    word = at.word ∙ word_agrees p at.durable;
  }

  pub spot_is : (p : Place) (spot : Spot) → IsDurablePlace m.spaces es p → IsWordOf (known_in o m) (layout_in o es) spot p
      → IsSpotAt m.spaces es p spot
  spot_is p spot durable at = record {
    durable = durable;
    line = at.line ∙ sym (line_agrees p durable);
    word = at.word ∙ sym (word_agrees p durable);
  }

  -- an object of which a line has been copied is durable, or some thread has claimed it
  there : (n c : ℕ) → HasCopied (entry es n) c → n < length es
  there n c copied = elim (below_or_not n (length es)) [
    | inl lt ↦ lt
    | inr past ↦ (let none = ap (λ (e : Entry). e.stage) (get_or_past es n no_entry past) in
        absurd (elim copied [
          | inl moved ↦ omega (arith, moved, none)
          | inr p ↦ (let one = p.0 in omega (arith, one, none))
        ]))
  ]

  copied_by : (n i c : ℕ) → HasCopied (entry es n) c → InP es n ⊎ IsSlotOfClaimed es (place.Slot n i)
  copied_by n i c copied = let lt = there n c copied in elim (same_or_not (entry es n).owner 0) [
    | inr own ↦ inr (record {
      object = n;
      slot = i;
      thread = (entry es n).owner - 1;
      is = refl;
      claimed = (lt, omega (arith, own));
    })
    | inl free ↦ (elim copied [
      | inl moved ↦ inl (lt, moved, free)
      | inr p ↦ (let own = k.heap.whole.lies.table.copying n lt p.0 in absurd (omega (arith, own, free)))
    ])
  ]

  holder_asks : (p : Place) → HoldsDurable m.spaces es p
      → (durable_at (known_in o m) p ≡ true) ⊎ IsSlotOfClaimed es p
  holder_asks (place.Static f) root = inl (durable_root f root)
  holder_asks (place.Slot n i) (inl durable) = inl ((k.asked.durable n).1 durable)
  holder_asks (place.Slot n i) (inr x) = elim (copied_by n i x.0 x.1) [
    | inl durable ↦ inl ((k.asked.durable n).1 durable)
    | inr claimed ↦ inr claimed
  ]

  asks_for : (store : Store) (object : Ref) → ConvertsFirst m.spaces es store object → Asks o m es store
  asks_for store object first =
      let v = first.item in
      record {
        object = v.number;
        value = ap (item_value (number_in (view_of m.spaces.twin))) v.reference
            ∙ ap number_value (named_number (view_of m.spaces.twin) es v.number object k.heap.whole.lies
            v.asked.there v.asked.names);
        volatile = v.asked.outside;
        holder = holder_asks (place_of store.target) first.holder;
      }

  -- the value of a reference to no object that isn't durable
  number_kept : (r : Ref) (number : Option ℕ) → number_in (view_of m.spaces.twin) r ≡ number
      → ((object : Ref) → IsVolatile es (RefItem r) object → ⊥)
      → is_volatile (known_in o m).durable (number_value number) ≡ false
  number_kept r None is none = refl
  number_kept r (Some n) is none =
      let named = number_named (view_of m.spaces.twin) es n r k.heap.whole.lies is in
      elim (durable_or_not es n named.0) [
        | inl durable ↦ ap not ((k.asked.durable n).1 durable)
        | inr outside ↦ absurd (none r (record {
          reference = refl;
          number = n;
          asked = record { there = named.0; names = named.1; outside = outside };
        }))
      ]

  item_kept : (item : Item) → ((object : Ref) → IsVolatile es item object → ⊥)
      → is_volatile (known_in o m).durable (value_in m item) ≡ false
  item_kept (IntItem i) none = refl
  item_kept (LongItem i) none = refl
  item_kept (RefItem r) none = number_kept r (number_in (view_of m.spaces.twin) r) refl none

-- ---- all machines

pub durable_places : DurablePlacesAgree
durable_places o m es k = place_agrees o m es k

pub durable_lines : DurableLinesAgree
durable_lines o m es k = line_agrees o m es k

pub durable_words : DurableWordsAgree
durable_words o m es k = word_is o m es k

pub asked : ConversionsAreAsked
asked o m es k = asks_for o m es k

pub stores_keep : StoresKeepDurable
stores_keep o m es k store follows holds = item_kept o m es k store.kept (λ object volatile.
    follows es object k.heap.whole (record { holder = holds; item = volatile }))
