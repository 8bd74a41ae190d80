-- A world holds as it begins.
use Rattle.std.proofs.Common.{◌≡◌, ◌⊎◌, inl, inr, ℕ, zero, suc, pos, ◌+◌, ◌*◌, ◌-◌, ◌/◌, ◌%◌, ◌^◌, ◌<◌, ◌≤◌, true, List, []}
use Rattle.std.proofs.Common.{◌∷◌, map, length, Option, Some, None, refl, sym, ◌∙◌, ap, subst, arith}
use Rattle.std.specs.Prelude.{All, slice_index, slice_index_or}
use Rattle.std.proofs.lemmas.List.{length-map}
use Rattle.std.proofs.lemmas.List.Elements.{All-cons, All-nil, All-push, All-weaker}
use Rattle.ap_base.specs.declared.kind.Kind.{Kind}
use Rattle.ap_base.specs.declared.kind.Kind.TheVariants.{I, L}
use Rattle.ap_base.specs.declared.reference.Ref.TheVariants.{Persistent}
use Rattle.ap_base.specs.declared.reference.Item.TheVariants.{Ref as RefItem}
use Rattle.graph_model.specs.declared.types.Obj.{Obj}
use Rattle.graph_model.specs.declared.types.Shape.{Shape}
use Rattle.graph_model.specs.declared.types.Value.{Value}
use Rattle.graph_model.specs.declared.types.Value.TheVariants.{Int, Null}
use Rattle.graph_model.specs.Heaps.{no_shape}
use Rattle.line_memory.specs.Memory.{Memory, shown}
use Rattle.monitors.specs.declared.monitor.Monitor.{Monitor}
use Rattle.one_space.specs.Layout.{ref_in, row}
use Rattle.plain_model.specs.Facts.{SetFacts, class_at}
use Rattle.plain_model.specs.Kinds.{AreOf, IsOf}
use Rattle.plain_model.specs.Laws.{HasItsSlots}
use Rattle.plain_model.specs.TypeLaws.{IsOfSet}
use Rattle.plain_model.specs.Typed.{IsOfItsClass, IsTyped, static_kind}
use Rattle.plain_model.proofs.SetHeaps.{shape_is}
use Rattle.shared_objects.specs.declared.rest.Rest.{Rest}
use Rattle.shared_objects.specs.declared.threads.ThreadState.{ThreadState}
use Rattle.shared_objects.specs.Shown.{IsKnown, item_value, number_value}
use Rattle.std.specs.List.{AllByRecursion}
use Rattle.shared_objects.specs.Worlds.{IsHeldKey, heap_of}
use Rattle.twin_forms.specs.Sights.{slot_kind, view_of}
use Rattle.twin_forms.specs.Table.{Entry, is_reference, kind_at, value_of, word_of}
use Rattle.twin_forms.specs.declared.kinds.ShapeKinds.{ShapeKinds}
use Rattle.twin_heap.specs.Here.{IsOpening, kinds_of, opened, opening}
use Rattle.two_spaces.specs.declared.spaces.Static.TheVariants.{Root}
use Rattle.two_spaces.specs.Laws.{null_is_no_object}
use Rattle.two_spaces.specs.Seen.{Spaces, number_in, object_of, objects_in, root_word, shown_of, slot_shown, slot_value}
use Rattle.two_spaces.specs.Seen.{static_value}
use Rattle.two_spaces.specs.Whole.{IsAlone, Stands, no_static}
use Rattle.two_spaces.specs.Starts.{Begins, IsFirstStatic}
use Rattle.two_spaces.proofs.Numbering.{is_some, named_number}
use Rattle.two_spaces.proofs.Starting.{beginnings_stand, own_classes}
use Rattle.two_spaces.proofs.Telling.{objects_are}
use Rattle.space_rows.specs.Beginnings.{HasArray, HasInts, IsFirst, first_statics}
use Rattle.space_rows.specs.Worlds.{HoldsOf, LieBelow}

-- ---- kinds

-- the kind of each slot of the array
module _ (shapes : List Shape) (shape : ℕ) (h : HasInts shapes shape) where
  kinds_there : (xs : List Shape) (n : ℕ) (d : Shape) (e : ShapeKinds) → n < length xs
      → slice_index_or (map kinds_of xs) n e ≡ kinds_of (slice_index_or xs n d)
  kinds_there [] n d e lt = absurd (omega (arith, lt))
  kinds_there (x ∷ xs) zero d e lt = refl
  kinds_there (x ∷ xs) (suc n) d e lt = kinds_there xs n d e (omega (arith, lt))

  kind_by : (x : Shape) → x.element ≡ Some I → (k : ℕ) → slot_kind (kinds_of x ∷ []) 0 k ≡ Some I
  kind_by x is k = rw is refl

  pub int_kind : (k : ℕ) → slot_kind (map kinds_of shapes) shape k ≡ Some I
  int_kind k = ap (λ x. slot_kind (x ∷ []) 0 k) (kinds_there shapes shape no_shape _ h.below)
      ∙ kind_by (slice_index_or shapes shape no_shape) h.ints k

-- ---- the array

module _ (m : Memory) (shape : ℕ) (few : shape < 4294967296) (a : HasArray m shape) where
  pub slots_nine : (opened m 20577).slots ≡ 9
  slots_nine = let head = a.head in omega (arith, head, few)

  pub shape_same : (opened m 20577).shape ≡ shape
  shape_same = let head = a.head in omega (arith, head, few)

not_both : (o : Option Kind) → o ≡ None → o ≡ Some I → ⊥
not_both None a b = cc
not_both (Some k) a b = cc

only_one : (P : ℕ → ℕ → Type 0) (n : ℕ) → n < 1 → P 0 20577 → P n (slice_index (20577 ∷ []) n)
only_one P zero lt p = p
only_one P (suc n) lt p = absurd (omega (arith, lt))

pub opens : (m : Memory) (shapes : List Shape) (shape : ℕ) → HasArray m shape → HasInts shapes shape
    → IsOpening m (map kinds_of shapes) (20577 ∷ [])
opens m shapes shape a h =
    let long = a.long in
    let most = a.few in
    let below = h.below in
    let count = h.few in
    let kinds = length-map shapes kinds_of in
    let few : shape < 4294967296 = omega (arith, below, count) in
    let slots = slots_nine m shape few a in
    let same = shape_same m shape few a in
    record {
      few_lines = omega (arith, most);
      few_shapes = omega (arith, count, kinds);
      within = λ n lt. only_one (λ n line. (0 < line) × (line + (opened m line).slots / 8 + 1 ≤ m.size)) n lt
          (omega arith, omega (arith, slots, long));
      shape_in = λ n lt. only_one (λ n line. (opened m line).shape < length (map kinds_of shapes)) n lt
          (omega (arith, same, below, kinds));
      few_slots = λ n lt. only_one (λ n line. (opened m line).slots < 2 ^ 31) n lt (omega (arith, slots));
      apart = λ i j li lj ne. absurd (ne (omega (arith, li, lj)));
      refs = λ n k lt. only_one (λ n line. is_reference (slot_kind (map kinds_of shapes) (opened m line).shape k) ≡ true
          → k < (opened m line).slots
          → (shown m (line + (1 + k) / 8) ((1 + k) % 8) ≡ 0)
          ⊎ ((i : ℕ) × (i < 1) × (shown m (line + (1 + k) / 8) ((1 + k) % 8) ≡ 2 * slice_index (20577 ∷ []) i))) n lt
          (λ is. (let int : slot_kind (map kinds_of shapes) (opened m 20577).shape k ≡ Some I =
          ap (λ x. slot_kind (map kinds_of shapes) x k) same ∙ int_kind shapes shape h k in
          let no : is_reference (Some I) ≡ true = ap is_reference (sym int) ∙ is in cc));
    }

-- ---- the world

module _ (set : SetFacts) (s : Spaces) (rest : Rest) (shape : ℕ) (h : IsFirst set s rest shape) where
  few : shape < 4294967296
  few = let below = h.ints.below in let count = h.ints.few in omega (arith, below, count)

  slots : (opened s.twin.memory 20577).slots ≡ 9
  slots = slots_nine s.twin.memory shape few h.array

  same : (opened s.twin.memory 20577).shape ≡ shape
  same = shape_same s.twin.memory shape few h.array

  static_first : (f : ℕ) → f < 3 → IsFirstStatic s.twin (20577 ∷ []) (slice_index_or first_statics f no_static)
  static_first zero lt = refl
  static_first (suc zero) lt = (omega arith, inl h.array.root)
  static_first (suc (suc zero)) lt = tt
  static_first (suc (suc (suc f))) lt = absurd (omega (arith, lt))

  others : (g : ℕ) → g < 3 → (g ≡ 1 → ⊥) → (slice_index_or first_statics g no_static ≡ Root 5 → ⊥)
  others zero lg ne e = cc
  others (suc zero) lg ne e = ne refl
  others (suc (suc zero)) lg ne e = cc
  others (suc (suc (suc g))) lg ne e = absurd (omega (arith, lg))

  alone_first : (f : ℕ) → f < 3 → IsAlone first_statics f (slice_index_or first_statics f no_static)
  alone_first zero lt = tt
  alone_first (suc zero) lt = others
  alone_first (suc (suc zero)) lt = tt
  alone_first (suc (suc (suc f))) lt = absurd (omega (arith, lt))

  begins : Begins s s.shapes (20577 ∷ [])
  begins = record {
    valid = h.valid;
    kinds = h.kinds;
    behind = λ n lt. only_one (λ n line. 33 ≤ line) n lt (omega arith);
    classed = λ n lt. only_one (λ n line. slice_index s.classes (opened s.twin.memory line).shape < length s.shapes) n lt
        (let is : slice_index s.classes (opened s.twin.memory 20577).shape ≡ shape =
        ap (λ x. slice_index s.classes x) same ∙ h.classes.same shape h.ints.below in
        let below = h.ints.below in omega (arith, is, below));
    classes = own_classes s.shapes s.classes s.numbers h.classes h.numbers;
    statics = subst (λ st. (f : ℕ) → f < length st → IsFirstStatic s.twin (20577 ∷ []) (slice_index_or st f no_static))
        (sym h.statics) static_first;
    alone = subst (λ st. (f : ℕ) → f < length st → IsAlone st f (slice_index_or st f no_static))
        (sym h.statics) alone_first;
  }

  stands : Stands s (opening s.twin.memory (20577 ∷ []))
  stands = beginnings_stand s s.shapes (20577 ∷ []) begins

  e : Entry
  e = opened s.twin.memory 20577

  objects_one : objects_in s.classes (view_of s.twin) ≡ object_of s.classes (view_of s.twin) (opened s.twin.memory 20577) ∷ []
  objects_one = objects_are s.classes (view_of s.twin) (opening s.twin.memory (20577 ∷ [])) stands.lies

  class_is : slice_index s.classes (opened s.twin.memory 20577).shape ≡ shape
  class_is = ap (λ x. slice_index s.classes x) same ∙ h.classes.same shape h.ints.below

  kind_int : (k : ℕ) → kind_at (view_of s.twin) (opened s.twin.memory 20577) k ≡ Some I
  kind_int k = ap (λ ks. slot_kind ks (opened s.twin.memory 20577).shape k) h.kinds
      ∙ ap (λ x. slot_kind (map kinds_of s.shapes) x k) same ∙ int_kind s.shapes shape h.ints k

  int_by : (o : Option Kind) (w : ℕ) → o ≡ Some I → IsOf I (slot_value o (value_of (view_of s.twin) (is_reference o) w))
  int_by o w is = subst (λ x. IsOf I (slot_value x (value_of (view_of s.twin) (is_reference x) w))) (sym is)
      (record { form = tt; range = tt })

  int_shown : (k : ℕ) → IsOf I (slot_shown (view_of s.twin) (opened s.twin.memory 20577) k)
  int_shown k = int_by (kind_at (view_of s.twin) (opened s.twin.memory 20577) k)
      (word_of (view_of s.twin) (opened s.twin.memory 20577) k) (kind_int k)

  all_row : (n : ℕ) → All (IsOf I) (row n (slot_shown (view_of s.twin) (opened s.twin.memory 20577)))
  all_row zero = All-nil (IsOf I)
  all_row (suc n) = All-push (IsOf I) (row n (slot_shown (view_of s.twin) (opened s.twin.memory 20577)))
      (slot_shown (view_of s.twin) (opened s.twin.memory 20577) n) (all_row n) (int_shown n)

  ints_of_set : (class_at set shape).shape.element ≡ Some I
  ints_of_set = ap (λ (x : Shape). x.element) (sym (shape_is set (heap_of [] (shown_of s)) h.shapes shape)) ∙ h.ints.ints

  are_ints : (n : ℕ) (values : List Value) → n ≡ shape → All (IsOf I) values
      → AreOf (class_at set n).shape.element (class_at set n).shape.fields values
  are_ints n values is all =
      subst (λ x. AreOf x (class_at set n).shape.fields values)
      (sym (ap (λ x. (class_at set x).shape.element) is ∙ ints_of_set)) all

  no_slots : (n : ℕ) (values : List Value) → n ≡ shape → HasItsSlots (heap_of [] (shown_of s)) (record { shape = n; values = values })
  no_slots n values is none =
      let some : (slice_index_or s.shapes n no_shape).element ≡ Some I =
      ap (λ x. (slice_index_or s.shapes x no_shape).element) is ∙ h.ints.ints in
      absurd (not_both (slice_index_or s.shapes n no_shape).element none some)

  one : Obj
  one = object_of s.classes (view_of s.twin) (opened s.twin.memory 20577)

  statics_by : (n : ℕ) → n < 3
      → IsOf (static_kind set n) (slice_index_or (map (static_value (view_of s.twin)) first_statics) n Null)
  statics_by zero lt =
      subst (λ o. IsOf L (number_value o)) (sym (null_is_no_object (view_of s.twin))) (record { form = tt; range = tt })
  statics_by (suc zero) lt =
      let root : root_word (view_of s.twin) 5 ≡ 0 = h.array.root in
      subst (λ k. IsOf k (static_value (view_of s.twin) (Root 5))) (sym h.kept.first)
      (subst (λ w. IsOf L (item_value (number_in (view_of s.twin)) (RefItem (ref_in w)))) (sym root)
      (subst (λ o. IsOf L (number_value o)) (sym (null_is_no_object (view_of s.twin))) (record { form = tt; range = tt })))
  statics_by (suc (suc zero)) lt =
      subst (λ k. IsOf k (Int (pos 0))) (sym h.kept.second) (record { form = tt; range = tt })
  statics_by (suc (suc (suc n))) lt = absurd (omega (arith, lt))

  three : length (shown_of s).statics ≡ 3
  three = length-map s.statics (static_value (view_of s.twin)) ∙ ap length h.statics

  statics_typed : (n : ℕ) → n < length (shown_of s).statics
      → IsOf (static_kind set n) (slice_index_or (shown_of s).statics n Null)
  statics_typed n lt =
      let long = three in
      subst (λ st. IsOf (static_kind set n) (slice_index_or (map (static_value (view_of s.twin)) st) n Null)) (sym h.statics)
      (statics_by n (omega (arith, lt, long)))

  of_set : IsOfSet set (heap_of [] (shown_of s))
  unfolding one
  of_set = record {
    shapes = h.shapes;
    statics = (let long = three in let two = h.kept.two in omega (arith, long, two));
    slots = subst (All (HasItsSlots (heap_of [] (shown_of s)))) (sym objects_one)
        (All-cons (HasItsSlots (heap_of [] (shown_of s))) one [] (no_slots one.shape one.values class_is)
        (All-nil (HasItsSlots (heap_of [] (shown_of s)))));
  }

  typed : IsTyped set (heap_of [] (shown_of s))
  unfolding one
  typed = record {
    objects = subst (All (IsOfItsClass set)) (sym objects_one)
        (All-cons (IsOfItsClass set) one []
        (are_ints one.shape one.values class_is (all_row (opened s.twin.memory 20577).slots))
        (All-nil (IsOfItsClass set)));
    statics = statics_typed;
  }

  named : IsKnown (shown_of s).number (Persistent 20577)
  named = is_some (number_in (view_of s.twin) (Persistent 20577)) 0
      (named_number (view_of s.twin) (opening s.twin.memory (20577 ∷ [])) 0 (Persistent 20577) stands.lies (omega arith)
      (inr (omega arith, refl, omega arith)))

  below : LieBelow 20579 (opening s.twin.memory (20577 ∷ []))
  below zero lt placed = let nine = slots in omega (arith, nine)
  below (suc n) lt placed = absurd (omega (arith, lt))

  none_held : (P : Monitor → Type 0) → All P rest.monitors
  none_held P = subst (All P) (sym h.rested.monitors) (All-nil P)

  pub first_holds : HoldsOf set s rest (Persistent 20577 ∷ []) 20579 0 0
  first_holds = record {
    table = opening s.twin.memory (20577 ∷ []);
    whole = record {
      stands = stands;
      below = below;
      long = (let long = h.array.long in omega (arith, long));
      behind = omega arith;
    };
    agrees = record {
      heap = record { consistent = h.consistent; of_set = of_set; typed = typed };
      classes = h.rested.classes;
      monitors = subst (λ ms. AllByRecursion (λ (m : Monitor). IsHeldKey (shown_of s) m.key) ms) (sym h.rested.monitors) tt;
      counts = record {
        monitors = none_held (λ m. m.count < 2 ^ 64 - 1);
        threads = All-weaker (λ (t : ThreadState). t.depth ≤ 0) (λ t. t.depth < 2 ^ 64 - 1)
            (λ t le. omega (arith, le)) rest.threads h.rested.threads;
      };
    };
    counted = record { monitors = none_held (λ m. m.count ≤ 0); threads = h.rested.threads };
    few = (let none = ap length h.rested.monitors in omega (arith, none));
    known = All-cons (IsKnown (shown_of s).number) (Persistent 20577) [] named (All-nil (IsKnown (shown_of s).number));
  }
