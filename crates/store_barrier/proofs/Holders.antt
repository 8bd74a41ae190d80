-- Holders and items of stores, by the tables that say where objects lie.
use Rattle.std.proofs.Common.{◌≡◌, ◌≢◌, ◌⊎◌, inl, inr, ℕ, ◌<◌, Bool, List, length, Option, None, Some, refl, sym, ◌∙◌, subst}
use Rattle.std.proofs.Common.{arith}
use Rattle.std.specs.Prelude.{IfSome, IsNone, IsTrue, is_some}
use Rattle.std.proofs.lemmas.Bool.{false≢true}
use Rattle.ap_base.specs.References.{reference_word}
use Rattle.ap_base.specs.declared.place.Place.{Place}
use Rattle.ap_base.specs.declared.place.Place.TheVariants as place
use Rattle.ap_base.specs.declared.reference.Ref.{Ref}
use Rattle.ap_base.specs.declared.reference.Ref.TheVariants.{Null as NoRef, Persistent, Volatile}
use Rattle.ap_base.specs.declared.reference.Item.{Item}
use Rattle.ap_base.specs.declared.reference.Item.TheVariants.{Int as IntItem, Long as LongItem, Ref as RefItem}
use Rattle.shared_objects.specs.Shown.{IfNumber, item_value, object_in}
use Rattle.object_steps.specs.declared.storing.Store.{Store}
use Rattle.object_steps.specs.declared.storing.Target.{Target}
use Rattle.object_steps.specs.declared.storing.Target.TheVariants as target
use Rattle.object_steps.specs.Stores.{CanStore, CanTake, place_of}
use Rattle.twin_forms.specs.Table.{Entry, entry, HasCopied, HasSlot, InP, Leads, Names, line_of}
use Rattle.twin_forms.specs.Sights.{view_of}
use Rattle.twin_forms.proofs.Led.{same_or_not, below_or_not}
use Rattle.machine_forms.specs.Passed.{Spaces, shown_of}
use Rattle.machine_forms.specs.Passed.{HasLine, IsTo, MayStoreIn, NeedsLine, Stands}
use Rattle.machine_forms.proofs.Passed.{At, at_number, slot_there}
use Rattle.store_barrier.specs.Barriers.{HoldsDurable, IsVolatile, MayFollow}

-- ---- the holder of a slot

pub record Held (s : Spaces) (es : List Entry) (holder : Ref) (n i : ℕ) : Type 0 where
  pub at : At s holder es n
  pub slot : i < (entry es n).slots

pub held : (s : Spaces) (store : Store) (es : List Entry) (holder : Ref) (n i : ℕ)
    → CanStore (shown_of s) store → store.target ≡ target.Slot holder n i → Stands s es → Held s es holder n i
held s store es holder n i can is stands =
    let take : CanTake (shown_of s) (target.Slot holder n i) (item_value (shown_of s).number store.kept) =
    subst (λ (x : Target). CanTake (shown_of s) x (item_value (shown_of s).number store.kept)) is can.place in
    let at = at_number s holder es n stands take.0 in
    record {
      at = at;
      slot = slot_there s holder i es n at
          (subst (λ o. IfNumber o (λ m. i < length (object_in (shown_of s) m).values)) (sym take.0) take.1);
    }

pub leads : (s : Spaces) (es : List Entry) (holder : Ref) (n i : ℕ) → Held s es holder n i
    → Leads (view_of s.twin) (reference_word holder)
leads s es holder n i h = (es, n, h.at.stands.lies, h.at.below, h.at.names)

pub has_slot : (s : Spaces) (es : List Entry) (holder : Ref) (n i : ℕ) → Held s es holder n i
    → HasSlot (view_of s.twin) (reference_word holder) i
has_slot s es holder n i h = (es, n, h.at.stands.lies, h.at.below, h.at.names, h.slot)

pub has_first : (s : Spaces) (es : List Entry) (holder : Ref) (n i : ℕ) → Held s es holder n i
    → HasSlot (view_of s.twin) (reference_word holder) 0
has_first s es holder n i h =
    let lt = h.slot in (es, n, h.at.stands.lies, h.at.below, h.at.names, omega (arith, lt))

-- ---- copied lines

pub first_copied : (e : Entry) (c : ℕ) → HasCopied e c → HasCopied e (line_of 0)
first_copied e c (inl moved) = inl moved
first_copied e c (inr p) = inr (p.0, (let lt = p.1 in omega (arith, lt)))

slot_copied : (s : Spaces) (es : List Entry) (n i : ℕ) → HoldsDurable s es (place.Slot n i)
    → HasCopied (entry es n) (line_of 0)
slot_copied s es n i (inl p) = inl p.1
slot_copied s es n i (inr x) = first_copied (entry es n) x.0 x.1

-- a slot of an object of which a line has been copied is to hold durable objects
pub holds_where : (s : Spaces) (store : Store) (es : List Entry) (holder : Ref) (n i : ℕ) (b : Bool)
    → store.target ≡ target.Slot holder n i → (IsTrue b → HasCopied (entry es n) (line_of 0))
    → (HasCopied (entry es n) (line_of 0) → IsTrue b)
    → (IsTrue b → HoldsDurable s es (place_of store.target))
    × (HoldsDurable s es (place_of store.target) → IsTrue b)
holds_where s store es holder n i b is there back = subst (λ (x : Target).
    (IsTrue b → HoldsDurable s es (place_of x)) × (HoldsDurable s es (place_of x) → IsTrue b)) (sym is)
    ((λ t. inr (line_of 0, there t)), (λ h. back (slot_copied s es n i h)))

-- ---- items

pub same_ref : (a b : Ref) → RefItem a ≡ RefItem b → a ≡ b
same_ref a b e = cc

pub to_object : (es : List Entry) (r : Ref) → IsTo es r → r ≢ NoRef
    → (m : ℕ) × (m < length es) × Names (entry es m) (reference_word r)
to_object es NoRef to some = absurd (some refl)
to_object es (Persistent line) to some = to
to_object es (Volatile at) to some = to

pub durable_or_not : (es : List Entry) (n : ℕ) → n < length es → InP es n ⊎ (InP es n → ⊥)
durable_or_not es n ln = elim (same_or_not (entry es n).owner 0) [
  | inr ne ↦ inr (λ p. ne p.2)
  | inl free ↦ (elim (below_or_not 1 (entry es n).stage) [
    | inl moved ↦ inl (ln, moved, free)
    | inr young ↦ inr (λ p. let m = p.1 in omega (arith, m, young))
  ])
]

has_line : (es : List Entry) (item : Item) → ((object : Ref) → IsVolatile es item object → ⊥)
    → HasLine es item
has_line es (IntItem i) none = tt
has_line es (LongItem i) none = tt
has_line es (RefItem r) none = λ m lm names. elim (durable_or_not es m lm) [
  | inl p ↦ p.1
  | inr outside ↦ absurd (none r
      (record {
        reference = refl;
        number = m;
        asked = record { there = lm; names = names; outside = outside };
      }))
]

line_holds : (s : Spaces) (es : List Entry) (p : Place) → NeedsLine s es p → HoldsDurable s es p
line_holds s es (place.Static f) needs = needs
line_holds s es (place.Slot n i) needs = inr (line_of i, needs.1)

-- Where nothing is to be converted first, the heap may make the store.
pub may_store : (s : Spaces) (store : Store) → MayFollow s store
    → MayStoreIn s (place_of store.target) store.kept
may_store s store follows es stands needs = has_line es store.kept (λ object volatile.
    follows es object stands
    (record { holder = line_holds s es (place_of store.target) needs; item = volatile }))

-- The line has been copied exactly where there is one.
pub told_where : (o : Option ℕ) (P : ℕ → Type 0) (C : Type 0) (b : Bool) → b ≡ is_some o
    → IfSome o (λ line. C × P line) → (IsNone o → C → ⊥) → (IsTrue b → C) × (C → IsTrue b)
told_where None P C b is some none = ((λ t. absurd (false≢true (sym is ∙ t))), (λ x. absurd (none refl x)))
told_where (Some line) P C b is some none = ((λ t. some.0), (λ x. is))
