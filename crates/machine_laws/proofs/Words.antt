-- What the words of a slot show, and what the plain heap's object keeps there.
use Rattle.std.proofs.Common.{◌≡◌, inl, inr, ℕ, ◌<◌, Bool, true, false, List, length, Option, None, refl, sym, ◌∙◌, ap, subst}
use Rattle.std.proofs.Common.{arith}
use Rattle.std.specs.Prelude.{Contains, slice_index_or}
use Rattle.std.proofs.lemmas.Option.{slice_get-get_or}
use Rattle.ap_base.specs.declared.kind.Kind.{Kind}
use Rattle.ap_base.specs.declared.reference.Item.{Item}
use Rattle.ap_base.specs.declared.reference.Item.TheVariants.{Int as IntItem, Long as LongItem, Ref as RefItem}
use Rattle.graph_model.specs.declared.types.Value.{Value}
use Rattle.graph_model.specs.declared.types.Value.TheVariants.{Null, Obj as Object}
use Rattle.graph_model.specs.declared.types.Obj.{Obj}
use Rattle.graph_model.specs.declared.types.Heap.{Heap}
use Rattle.graph_model.specs.declared.types.Root.{Root}
use Rattle.graph_model.specs.Heaps.{values_of}
use Rattle.graph_model.specs.Reach.{Refers}
use Rattle.one_space.specs.Layout.{item_in}
use Rattle.shared_objects.specs.Shown.{item_value}
use Rattle.shared_objects.specs.Worlds.{heap_of}
use Rattle.twin_forms.specs.Table.{Entry, entry, View, Names, Lies, refers, word_of, value_of, kind_at, number_of}
use Rattle.twin_forms.specs.Sights.{view_of}
use Rattle.twin_forms.proofs.Led.{same_or_not, number_is}
use Rattle.twin_forms.proofs.Elsewhere.{positive, value_obj, value_null}
use Rattle.two_spaces.specs.Seen.{Spaces, shown_of, object_of, slot_value, slot_shown}
use Rattle.two_spaces.proofs.Shifting.{object_is, values_long, value_at}

-- within a list it doesn't matter what stands for its end
pub read-same : {X : Type 0} (xs : List X) (i : ℕ) (d e : X) → i < length xs → slice_index_or xs i d
    ≡ slice_index_or xs i e
read-same xs i d e lt =
    let x = sym (slice_get-get_or xs i d lt) ∙ slice_get-get_or xs i e lt in cc

-- ---- a slot's value

no-item : (item : Item) (n : ℕ) → item_value (λ _. None) item ≡ Object n → ⊥
no-item (IntItem i) n e = let no = e in cc
no-item (LongItem i) n e = let no = e in cc
no-item (RefItem r) n e = let no = e in cc

-- the word is a reference to the object of a number
pub record LeadsTo (v : View) (e : Entry) (k n : ℕ) : Type 0 where
  pub reference : refers v e k ≡ true
  pub some : 0 < word_of v e k
  pub number : number_of v (word_of v e k) ≡ n

leads-by : (v : View) (kind : Option Kind) (b : Bool) (w n : ℕ) → slot_value kind (value_of v b w) ≡ Object n
    → (b ≡ true) × (0 < w) × (number_of v w ≡ n)
leads-by v kind false w n e = absurd (no-item (item_in kind w) n e)
leads-by v kind true w n e = elim (same_or_not w 0) [
  | inl zero_word ↦ absurd (
      let none : slot_value kind (value_of v true w) ≡ Null
      = ap (slot_value kind) (value_null v true w refl zero_word) in
      let no : Null ≡ Object n = sym none ∙ e in cc)
  | inr some ↦
      let below : 0 < w = omega (arith, some) in
      let is : slot_value kind (value_of v true w) ≡ Object (number_of v w)
      = ap (slot_value kind) (value_obj v true w refl below) in
      let it : Object (number_of v w) ≡ Object n = sym is ∙ e in
      (refl, below, cc)
]

pub leads-to : (v : View) (e : Entry) (k n : ℕ) → slot_shown v e k ≡ Object n → LeadsTo v e k n
leads-to v e k n is =
    let parts = leads-by v (kind_at v e k) (refers v e k) (word_of v e k) n is in
    record { reference = parts.0; some = parts.1; number = parts.2 }

pub leads-shown : (v : View) (e : Entry) (k n : ℕ) → LeadsTo v e k n → slot_shown v e k ≡ Object n
leads-shown v e k n leads =
    ap (slot_value (kind_at v e k)) (value_obj v (refers v e k) (word_of v e k) leads.reference leads.some)
    ∙ ap Object leads.number

-- the word of a reference to an object leads to it
pub leads-named : (v : View) (es : List Entry) (e : Entry) (k n : ℕ) → Lies v es → n < length es
    → refers v e k ≡ true → Names (entry es n) (word_of v e k) → LeadsTo v e k n
leads-named v es e k n lies there reference names = record {
  reference = reference;
  some = positive (entry es n) (word_of v e k) names;
  number = number_is v es n (word_of v e k) lies there names;
}

-- ---- the object of the plain heap

module _ (s : Spaces) (roots : List Root) (es : List Entry) (lies : Lies (view_of s.twin) es) where
  abbrev heap : Heap
  heap = heap_of roots (shown_of s)

  values-are : (n : ℕ) → n < length es
      → values_of heap n ≡ (object_of s.classes (view_of s.twin) (entry es n)).values
  values-are n there = ap (λ (o : Obj). o.values) (object_is s.classes (view_of s.twin) es n lies there)

  -- a reference of a slot is one of the plain heap
  pub slot-refers : (n k m : ℕ) → n < length es → k < (entry es n).slots
      → LeadsTo (view_of s.twin) (entry es n) k m → Refers heap n m
  slot-refers n k m there slot leads =
      let long = values_long s.classes (view_of s.twin) (entry es n) in
      let own = (object_of s.classes (view_of s.twin) (entry es n)).values in
      let within : k < length own = omega (arith, slot, long) in
      subst (λ (vs : List Value). Contains vs (Object m)) (sym (values-are n there)) (
        k,
        within,
        read-same own k (Object m) Null within
            ∙ value_at s.classes (view_of s.twin) (entry es n) k slot
            ∙ leads-shown (view_of s.twin) (entry es n) k m leads,
      )

  -- and each of the plain heap is one of a slot
  pub refers-slot : (n m : ℕ) → n < length es → Refers heap n m
      → (k : ℕ) × (k < (entry es n).slots) × LeadsTo (view_of s.twin) (entry es n) k m
  refers-slot n m there refers =
      let long = values_long s.classes (view_of s.twin) (entry es n) in
      let own = (object_of s.classes (view_of s.twin) (entry es n)).values in
      let has : Contains own (Object m)
      = subst (λ (vs : List Value). Contains vs (Object m)) (values-are n there) refers in
      let lt = has.1 in
      let slot : has.0 < (entry es n).slots = omega (arith, lt, long) in (
        has.0,
        slot,
        leads-to (view_of s.twin) (entry es n) has.0 m
            (sym (value_at s.classes (view_of s.twin) (entry es n) has.0 slot)
            ∙ read-same own has.0 Null (Object m) has.1 ∙ has.2),
      )
