-- Durable roots in their slots: each root's static is there, and no two have the same one.
use Rattle.std.proofs.Common.{◌≡◌, inl, inr, ℕ, zero, suc, ◌<◌, Bool, true, false, ◌||◌, List, [], ◌∷◌, length, refl, ap, sym}
use Rattle.std.proofs.Common.{◌∙◌, arith, nat_eq, slice_index_or, if◌then◌else◌}
use Rattle.std.proofs.lemmas.Bool.{cases_lt, eq-eqb, eqb-true}
use Rattle.std.proofs.lemmas.List.{get_or-map, get_or_past}
use Rattle.graph_model.specs.declared.types.Root.{Root}
use Rattle.graph_model.specs.declared.types.Heap.{Heap}
use Rattle.image_meaning.specs.Corresponds.{root_static}
use Rattle.run_history.specs.Knowing.{is_root}
use Rattle.stop_theorem.specs.Layouts.{HasRootSlots, root_number}
use Rattle.two_spaces.specs.declared.spaces.Static.{Static}
use Rattle.two_spaces.specs.declared.spaces.Static.TheVariants.{Beside, Root as InSlot}
use Rattle.two_spaces.specs.Seen.{Spaces}
use Rattle.two_spaces.specs.Whole.{no_static}
use Rattle.machine_laws.specs.Passed.{HasSlotsOfRoots}
use Rattle.first_spaces.specs.Beginnings.{RootsLieInSlots}
use Rattle.first_spaces.specs.Slots.{IsRootAt, no_root}

abbrev at : List Root → ℕ → ℕ
at roots r = (slice_index_or roots r no_root).at

-- the only root with this static is the first with it
only_number : (roots : List Root) (k f : ℕ) → k < length roots → at roots k ≡ f
    → ((j : ℕ) → j < length roots → at roots j ≡ f → j ≡ k) → root_number roots f ≡ k
only_number [] k f below is only = absurd (omega (arith, below))
only_number (r ∷ rs) zero f below is only = rw (eq-eqb r.at f is) refl
only_number (r ∷ rs) (suc k) f below is only =
    elim (nat_eq r.at f) as (λ b. nat_eq r.at f ≡ b → (if b then 0 else suc (root_number rs f)) ≡ suc k) [
      | true ↦ λ same. absurd (
          let first = only 0 (omega arith) (eqb-true r.at f same) in omega (arith, first))
      | false ↦ λ other. ap suc (only_number rs k f (omega (arith, below)) is
          (λ j lt e. let same = only (suc j) (omega (arith, lt)) e in omega (arith, same)))
    ] refl

or_true : (b : Bool) → (b || true) ≡ true
or_true true = refl
or_true false = refl

has_root : (roots : List Root) (k f : ℕ) → k < length roots → at roots k ≡ f → is_root roots f ≡ true
has_root [] k f below is = absurd (omega (arith, below))
has_root (r ∷ rs) zero f below is = rw (eq-eqb r.at f is) refl
has_root (r ∷ rs) (suc k) f below is =
    rw (has_root rs k f (omega (arith, below)) is) (or_true (nat_eq r.at f))

abbrev slot_in : Static → ℕ
slot_in (Beside item) = 0
slot_in (InSlot slot) = slot

module _ (heap : Heap) (s : Spaces) (many : length heap.statics ≡ length s.statics)
    (lie : RootsLieInSlots heap.roots s.statics) where
  static_is : (r : ℕ) → r < length heap.roots → root_static heap r ≡ at heap.roots r
  static_is r lt = get_or-map (λ (root : Root). root.at) heap.roots r no_root 0 lt

  its_static : (r : ℕ) → r < length heap.roots → IsRootAt heap.roots r (root_static heap r)
  its_static r lt = record { there = lt; at = sym (static_is r lt) }

  in_slot : (r : ℕ) → r < length heap.roots
      → slice_index_or s.statics (root_static heap r) no_static ≡ InSlot r
  in_slot r lt = (lie (root_static heap r) r).1 (its_static r lt)

  same_root : (r j : ℕ) → r < length heap.roots → j < length heap.roots → at heap.roots j ≡ root_static heap r
      → j ≡ r
  same_root r j lt below is =
      ap slot_in (sym ((lie (root_static heap r) j).1 (record { there = below; at = is })) ∙ in_slot r lt)

  static_there : (r : ℕ) → r < length heap.roots → root_static heap r < length heap.statics
  static_there r lt = elim (cases_lt (root_static heap r) (length s.statics)) [
    | inl below ↦ omega (arith, below, many)
    | inr past ↦ absurd (
        let bad : no_static ≡ InSlot r =
        sym (get_or_past s.statics (root_static heap r) no_static past) ∙ in_slot r lt in cc)
  ]

  sized : HasRootSlots heap
  sized = record {
    numbers = λ r lt. only_number heap.roots r (root_static heap r) lt (sym (static_is r lt))
        (λ j below is. same_root r j lt below is);
    statics = static_there;
    roots = λ r lt. has_root heap.roots r (root_static heap r) lt (sym (static_is r lt));
  }

  pub roots_in_slots : HasSlotsOfRoots heap s
  roots_in_slots = record {
    sized = sized;
    there = in_slot;
    others = λ f r is. let root = (lie f r).0 is in (root.there, static_is r root.there ∙ root.at);
  }
