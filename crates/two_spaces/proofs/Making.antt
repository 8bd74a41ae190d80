-- One more object.
use Rattle.std.proofs.Common.{◌≡◌, inl, inr, ℕ, suc, ◌+◌, ◌-◌, ◌*◌, ◌/◌, ◌%◌, ◌<◌, ◌≤◌, true, List, [], ◌∷◌, ◌++◌, length}
use Rattle.std.proofs.Common.{slice_get, Option, Some, None, refl, sym, ◌∙◌, ap, subst, arith, rules, length-append, add-one}
use Rattle.std.specs.Prelude.{slice_index, slice_index_or}
use Rattle.std.proofs.Math.ListN.{get_or-append}
use Rattle.std.proofs.Math.Seq.{get_or-append_seam}
use Rattle.ap_base.specs.References.{reference_word}
use Rattle.ap_base.specs.declared.kind.Kind.{Kind}
use Rattle.ap_base.specs.declared.kind.Kind.TheVariants.{Z, B, C, S, I, J, L, Text}
use Rattle.ap_base.specs.declared.reference.Ref.TheVariants.{Null as NoRef, Persistent, Volatile}
use Rattle.ap_base.specs.declared.reference.Item.{Item}
use Rattle.ap_base.specs.declared.reference.Item.TheVariants.{Int as IntItem, Long as LongItem, Ref as RefItem}
use Rattle.graph_model.specs.declared.types.Field.{Field}
use Rattle.graph_model.specs.declared.types.Shape.{Shape}
use Rattle.graph_model.specs.declared.types.Value.{Value}
use Rattle.graph_model.specs.declared.types.Obj.{Obj as ObjectOf}
use Rattle.graph_model.specs.Heaps.{default_of, fresh_values, no_shape}
use Rattle.run_history.specs.Worlds.{may_have}
use Rattle.one_space.specs.Layout.{row}
use Rattle.one_space.proofs.Adds.{row_fields, row_replicate}
use Rattle.one_space.proofs.Stores.{row_same}
use Rattle.shared_objects.specs.Shown.{Keeps, field_kind, kind_in}
use Rattle.shared_objects.specs.Changes.{Allocates}
use Rattle.line_memory.specs.Memory.{shown}
use Rattle.twin_forms.specs.Sights.{Twin, view_of, slot_kind}
use Rattle.twin_forms.specs.Sights.{kind_in as kind_among}
use Rattle.twin_forms.specs.Table.{Entry, no_entry, entry, View, Names, IsRef, is_reference, kind_at, refers, word_of, value_of}
use Rattle.twin_forms.specs.Moves.{Added, fresh}
use Rattle.twin_forms.proofs.Led.{word_young}
use Rattle.twin_heap.proofs.Adding.{by_new}
use Rattle.two_spaces.specs.declared.spaces.Static.{Static}
use Rattle.two_spaces.specs.declared.spaces.Static.TheVariants.{Beside, Root}
use Rattle.two_spaces.specs.Seen.{Spaces, shown_of, number_in, slot_value, slot_shown, object_of, objects_in, root_word}
use Rattle.two_spaces.specs.Seen.{current_word}
use Rattle.two_spaces.specs.Whole.{Stands, IsStatic, IsItem, IsNamed, IsHereIn, Made, no_static}
use Rattle.twin_heap.specs.Here.{IsHere}
use Rattle.two_spaces.proofs.Telling.{objects_are}
use Rattle.two_spaces.proofs.Numbering.{named_number, keeps_numbers}
use Rattle.two_spaces.proofs.Shifting.{alike_object, keys_same, make, objects_long}
use Rattle.two_spaces.proofs.Finding.{kinds_alike}
use Rattle.two_spaces.proofs.Keeping.{SameRoots, all_same, classes_on, kinds_same}

-- ---- values of new slots

zero_shown : (v : View) (kind : Kind) (w : ℕ) → w ≡ 0
    → slot_value (Some kind) (value_of v (is_reference (Some kind)) w) ≡ default_of kind
zero_shown v Z w e = rw e refl
zero_shown v B w e = rw e refl
zero_shown v C w e = rw e refl
zero_shown v S w e = rw e refl
zero_shown v I w e = rw e refl
zero_shown v J w e = rw e refl
zero_shown v L w e = rw e refl
zero_shown v Text w e = rw e refl

-- what a word 0 shows by a kind
zero_value : View → Option Kind → Value
zero_value v kind = slot_value kind (value_of v (is_reference kind) 0)

fresh_by : (v : View) (name : List ℕ) (fields : List Field) (element : Option Kind) (slots : ℕ)
    → may_have (record { name = name; fields = fields; element = element }) slots ≡ true
    → row slots (λ k. zero_value v (kind_in (record { name = name; fields = fields; element = element }) k))
    ≡ fresh_values (record { name = name; fields = fields; element = element }) slots
unfolding zero_value
fresh_by v name fields None slots may =
    let count : slots ≡ length fields = search (rules, may) in
    ap (λ n. row n (λ k. zero_value v (field_kind (slice_get fields k)))) count
    ∙ row_fields fields (λ f. zero_value v (field_kind f)) (λ f. default_of f.kind) (λ f. zero_shown v f.kind 0 refl)
fresh_by v name fields (Some kind) slots may =
    row_same slots (λ k. zero_value v (Some kind)) (λ k. default_of kind) (λ k _. zero_shown v kind 0 refl)
    ∙ row_replicate slots (default_of kind)

fresh_is : (v : View) (shape : Shape) (slots : ℕ) → may_have shape slots ≡ true
    → row slots (λ k. zero_value v (kind_in shape k)) ≡ fresh_values shape slots
fresh_is v shape slots may = fresh_by v shape.name shape.fields shape.element slots may

-- the new object's slots
fresh_slots : (v : View) (e : Entry) (shape : Shape) → ((k : ℕ) → k < e.slots → word_of v e k ≡ 0)
    → ((k : ℕ) → kind_at v e k ≡ kind_in shape k) → may_have shape e.slots ≡ true
    → row e.slots (slot_shown v e) ≡ fresh_values shape e.slots
unfolding zero_value
fresh_slots v e shape zeros kinds may =
    row_same e.slots (slot_shown v e) (λ k. zero_value v (kind_in shape k)) (λ k lk.
    ap (λ w. slot_value (kind_at v e k) (value_of v (refers v e k) w)) (zeros k lk)
    ∙ ap (zero_value v) (kinds k))
    ∙ fresh_is v shape e.slots may

-- ---- the table

new_entry : (es : List Entry) (e : Entry) → entry (es ++ e ∷ []) (length es) ≡ e
new_entry es e = get_or-append_seam es e [] no_entry

old_entry : (es : List Entry) (e : Entry) (n : ℕ) → n < length es → entry (es ++ e ∷ []) n ≡ entry es n
old_entry es e n ln = get_or-append es (e ∷ []) no_entry n ln

longer : (es : List Entry) (e : Entry) → length (es ++ e ∷ []) ≡ suc (length es)
longer es e = length-append es (e ∷ []) ∙ add-one (length es)

names_on : (es : List Entry) (e : Entry) (n w : ℕ) → n < length es → Names (entry es n) w
    → Names (entry (es ++ e ∷ []) n) w
names_on es e n w ln names = subst (λ x. Names x w) (sym (old_entry es e n ln)) names

named_on : (es : List Entry) (e : Entry) (w : ℕ) → IsNamed es w → IsNamed (es ++ e ∷ []) w
named_on es e w named =
    let long = longer es e in (named.0, omega (arith, named.1, long), names_on es e named.0 w named.1 named.2)

ref_on : (es : List Entry) (e : Entry) (w : ℕ) → IsRef es w → IsRef (es ++ e ∷ []) w
ref_on es e w (inl z) = inl z
ref_on es e w (inr named) = inr (named_on es e w named)

item_on : (es : List Entry) (e : Entry) (item : Item) → IsItem es item → IsItem (es ++ e ∷ []) item
item_on es e (IntItem i) to = tt
item_on es e (LongItem i) to = tt
item_on es e (RefItem NoRef) to = tt
item_on es e (RefItem (Persistent line)) to = named_on es e (reference_word (Persistent line)) to
item_on es e (RefItem (Volatile at)) to = named_on es e (reference_word (Volatile at)) to

static_on : (s : Spaces) (t' : Twin) (es : List Entry) (e : Entry) (st : Static) → t'.memory ≡ s.twin.memory
    → IsStatic s es st → IsStatic (record s { twin = t' }) (es ++ e ∷ []) st
static_on s t' es e (Beside item) memory is = item_on es e item is
static_on s t' es e (Root slot) memory is =
    let same : root_word (view_of t') slot ≡ root_word (view_of s.twin) slot =
    ap (λ m. shown m ((8 + slot) / 8) ((8 + slot) % 8)) memory in (
      is.0,
      subst (λ w. w % 2 ≡ 0) (sym same) is.1,
      subst (IsRef (es ++ e ∷ [])) (sym same) (ref_on es e (root_word (view_of s.twin) slot) is.2),
    )

-- ---- the heap with the new object

abbrev fresh_in : Spaces → ℕ → ℕ → Entry
fresh_in s shape slots = fresh shape slots (length s.twin.space.words)

abbrev with_fresh : Spaces → List Entry → ℕ → ℕ → List Entry
with_fresh s es shape slots = es ++ fresh_in s shape slots ∷ []

-- what the call of the heap of words leaves
pub record IsAdding (s : Spaces) (t' : Twin) (es : List Entry) (class shape slots : ℕ) : Type 0 where
  pub stands : Stands s es
  pub there : class < length s.shapes
  pub is : shape ≡ slice_index s.numbers class
  pub may : may_have (slice_index_or s.shapes class no_shape) slots ≡ true
  pub added : Added shape slots (view_of s.twin) es (view_of t')
  pub memory : t'.memory ≡ s.twin.memory
  pub kinds : t'.marks.kinds ≡ s.twin.marks.kinds
  pub left : t'.space.left ≡ s.twin.space.left - (3 + slots)

pub record Makes (s : Spaces) (t' : Twin) (es : List Entry) (class slots : ℕ) : Type 0 where
  pub made : Allocates class slots (Volatile (length s.twin.space.words)) (shown_of s) (shown_of (record s { twin = t' }))
  pub becomes : Made s es (record s { twin = t' })

module _ (s : Spaces) (t' : Twin) (es : List Entry) (class shape slots : ℕ)
    (a : IsAdding s t' es class shape slots) where
  -- the class of the new object's shape
  numbered : class < length s.numbers
  numbered = let all = a.stands.classes.all in let lt = a.there in omega (arith, all, lt)

  class_is : slice_index s.classes shape ≡ class
  class_is = ap (slice_index s.classes) a.is ∙ a.stands.classes.back class numbered

  shape_there : shape < length s.classes
  shape_there =
      let within = a.stands.classes.within class numbered in
      let is = a.is in
      let long = a.stands.classes.long in
      omega (arith, within, is, long)

  class_there : slice_index s.classes shape < length s.shapes
  class_there = subst (λ c. c < length s.shapes) (sym class_is) a.there

  kind_new : (k : ℕ) → kind_at (view_of t') (fresh_in s shape slots) k
      ≡ kind_in (slice_index_or s.shapes class no_shape) k
  kind_new k =
      ap (λ ks. slot_kind ks shape k) a.kinds
      ∙ ap (λ x. kind_among x k) (a.stands.classes.kinds_are shape shape_there class_there)
      ∙ kinds_alike (slice_index_or s.shapes (slice_index s.classes shape) no_shape) k
      ∙ ap (λ c. kind_in (slice_index_or s.shapes c no_shape) k) class_is

  new_object : object_of s.classes (view_of t') (fresh_in s shape slots)
      ≡ record { shape = class; values = fresh_values (slice_index_or s.shapes class no_shape) slots }
  unfolding make
  new_object =
      ap (λ c. make c (row slots (slot_shown (view_of t') (fresh_in s shape slots)))) class_is
      ∙ ap (make class) (fresh_slots (view_of t') (fresh_in s shape slots) (slice_index_or s.shapes class no_shape)
      (λ k lk. word_young (view_of t') (fresh_in s shape slots) k (omega arith) ∙ a.added.zeros k lk)
      kind_new a.may)

  old_object : (n : ℕ) → n < length es → object_of s.classes (view_of t') (entry (with_fresh s es shape slots) n)
      ≡ object_of s.classes (view_of s.twin) (entry es n)
  old_object n ln =
      alike_object s.classes (view_of s.twin) (view_of t') (entry es n) (entry (with_fresh s es shape slots) n)
      (kinds_same s.twin t' a.kinds)
      (ap (λ e. e.shape) (old_entry es (fresh_in s shape slots) n ln))
      (ap (λ e. e.slots) (old_entry es (fresh_in s shape slots) n ln))
      (λ k lk. a.added.same n k ln lk)

  objects_made : objects_in s.classes (view_of t')
      ≡ objects_in s.classes (view_of s.twin)
      ++ record { shape = class; values = fresh_values (slice_index_or s.shapes class no_shape) slots } ∷ []
  objects_made =
      let f : ℕ → ObjectOf = λ n. object_of s.classes (view_of t') (entry (with_fresh s es shape slots) n) in
      let g : ℕ → ObjectOf = λ n. object_of s.classes (view_of s.twin) (entry es n) in
      objects_are s.classes (view_of t') (with_fresh s es shape slots) a.added.lies
      ∙ ap (λ n. row n f) (longer es (fresh_in s shape slots))
      ∙ ap (λ os. os ++ f (length es) ∷ []) (row_same (length es) f g (λ n ln. old_object n ln))
      ∙ ap (λ o. row (length es) g ++ o ∷ [])
      (ap (object_of s.classes (view_of t')) (new_entry es (fresh_in s shape slots)) ∙ new_object)
      ∙ ap (λ os. os ++ record { shape = class; values = fresh_values (slice_index_or s.shapes class no_shape) slots } ∷ [])
      (sym (objects_are s.classes (view_of s.twin) es a.stands.lies))

  few : length es ≤ length (with_fresh s es shape slots)
  few = let long = longer es (fresh_in s shape slots) in omega (arith, long)

  keeps_made : Keeps (number_in (view_of s.twin)) (number_in (view_of t'))
  keeps_made = keeps_numbers (view_of s.twin) (view_of t') es (with_fresh s es shape slots) a.stands.lies a.added.lies
      few (λ n w ln names. names_on es (fresh_in s shape slots) n w ln names)

  number_made : number_in (view_of t') (Volatile (length s.twin.space.words)) ≡ Some (length es)
  number_made =
      let long = longer es (fresh_in s shape slots) in
      named_number (view_of t') (with_fresh s es shape slots) (length es) (Volatile (length s.twin.space.words))
      a.added.lies (omega (arith, long))
      (subst (λ e. Names e (2 * length s.twin.space.words + 1)) (sym (new_entry es (fresh_in s shape slots)))
      (inl (omega arith, refl)))

  roots_made : SameRoots s.twin t'
  unfolding SameRoots
  roots_made slot lt = ap (λ m. shown m ((8 + slot) / 8) ((8 + slot) % 8)) a.memory

  stands_made : Stands (record s { twin = t' }) (with_fresh s es shape slots)
  stands_made = record {
    lies = a.added.lies;
    behind = by_new (λ n e. 0 < e.stage → 33 ≤ e.line) es (fresh_in s shape slots) (λ placed. absurd (omega (arith, placed)))
        a.stands.behind;
    classes = classes_on s.shapes s.twin.marks.kinds t'.marks.kinds s.classes s.numbers a.kinds a.stands.classes;
    classed = by_new (λ n e. slice_index s.classes e.shape < length s.shapes) es (fresh_in s shape slots) class_there
        a.stands.classed;
    statics = λ f lf. static_on s t' es (fresh_in s shape slots) (slice_index_or s.statics f no_static) a.memory
        (a.stands.statics f lf);
    alone = a.stands.alone;
  }

  pub makes_object : Makes s t' es class slots
  makes_object = record {
    made = record {
      goes_on = record {
        shapes = refl;
        keeps = keeps_made;
        keys = keys_same (view_of s.twin) (view_of t') es (with_fresh s es shape slots) a.stands.lies a.added.lies few
            (λ n ln. ap current_word (old_entry es (fresh_in s shape slots) n ln));
      };
      objects = objects_made;
      number = number_made ∙ ap Some (sym (objects_long s.classes (view_of s.twin) es a.stands.lies));
      statics = all_same s t' es a.stands roots_made keeps_made;
      left = a.left;
    };
    becomes = record {
      shape = shape;
      slots = slots;
      of_class = a.is ∙ ap (slice_index s.numbers) (sym class_is);
      stands = stands_made;
      added = a.added;
      memory = a.memory;
      classes = record { shapes = refl; classes = refl; numbers = refl; kinds = a.kinds };
      statics = refl;
    };
  }

  -- the new object has no lines
  pub here_made : IsHereIn (record s { twin = t' }) (length (objects_in s.classes (view_of s.twin))) 0
  here_made = (
    with_fresh s es shape slots,
    stands_made,
    subst (λ n. IsHere t'.memory (entry (with_fresh s es shape slots) n) 0)
        (sym (objects_long s.classes (view_of s.twin) es a.stands.lies))
        (subst (λ e. IsHere t'.memory e 0) (sym (new_entry es (fresh_in s shape slots)))
        (λ placed. absurd (omega (arith, placed)))),
  )
