-- From one view of a heap to another: what is shown of its objects, static fields, references and keys.
use Rattle.std.proofs.Common.{◌≡◌, ◌≢◌, ◌⊎◌, inl, inr, ℕ, zero, suc, ◌<◌, ◌≤◌, true, List, [], ◌∷◌, length, map, set, get_or}
use Rattle.std.proofs.Common.{refl, sym, ◌∙◌, ap, subst, arith}
use Rattle.std.specs.Prelude.{slice_index, slice_index_or, slice_set}
use Rattle.std.proofs.lemmas.List.{get_or-set_same, get_or-set_other, length-set, length-map, ext_get_or}
use Rattle.ap_base.specs.declared.reference.Ref.{Ref}
use Rattle.ap_base.specs.declared.reference.Ref.TheVariants.{Null as NoRef, Persistent, Volatile}
use Rattle.ap_base.specs.declared.reference.Item.{Item}
use Rattle.ap_base.specs.declared.reference.Item.TheVariants.{Int as IntItem, Long as LongItem, Ref as RefItem}
use Rattle.graph_model.specs.declared.types.Value.{Value}
use Rattle.graph_model.specs.declared.types.Value.TheVariants.{Null}
use Rattle.graph_model.specs.declared.types.Obj.{Obj as ObjectOf}
use Rattle.graph_model.specs.Heaps.{no_object, with_slot}
use Rattle.one_space.specs.Layout.{row}
use Rattle.one_space.proofs.Laid.{length-row, get_or-row, get_or-map}
use Rattle.one_space.proofs.Stores.{row_same, row_set}
use Rattle.shared_objects.specs.Shown.{Keeps, item_value, ref_value, number_value}
use Rattle.twin_forms.specs.Table.{Entry, entry, View, Lies, is_reference, kind_at, refers, word_of, value_of}
use Rattle.twin_forms.specs.Moves.{SameHeap, Stored}
use Rattle.twin_forms.proofs.Led.{same_or_not}
use Rattle.twin_forms.proofs.Elsewhere.{value_same, as_was}
use Rattle.two_spaces.specs.declared.spaces.Static.{Static}
use Rattle.two_spaces.specs.Seen.{current_word, number_in, is_key_in, slot_value, slot_shown, object_of, objects_in}
use Rattle.two_spaces.specs.Seen.{static_item, static_value}
use Rattle.two_spaces.specs.Laws.{null_is_no_object}
use Rattle.two_spaces.specs.Whole.{IsTo, IsItem, no_static}
use Rattle.two_spaces.proofs.Telling.{objects_are}
use Rattle.two_spaces.proofs.Numbering.{named_number, number_named, key_named, named_key, key_number}

-- ---- objects by their numbers

pub object_is : (classes : List ℕ) (v : View) (es : List Entry) (n : ℕ) → Lies v es → n < length es
    → slice_index_or (objects_in classes v) n no_object ≡ object_of classes v (entry es n)
object_is classes v es n h ln =
    ap (λ os. slice_index_or os n no_object) (objects_are classes v es h)
    ∙ get_or-row (length es) (λ m. object_of classes v (entry es m)) n no_object ln

pub objects_long : (classes : List ℕ) (v : View) (es : List Entry) → Lies v es
    → length (objects_in classes v) ≡ length es
objects_long classes v es h =
    ap length (objects_are classes v es h) ∙ length-row (length es) (λ m. object_of classes v (entry es m))

pub values_long : (classes : List ℕ) (v : View) (e : Entry) → length (object_of classes v e).values ≡ e.slots
values_long classes v e = length-row e.slots (slot_shown v e)

pub value_at : (classes : List ℕ) (v : View) (e : Entry) (i : ℕ) → i < e.slots
    → slice_index_or (object_of classes v e).values i Null ≡ slot_shown v e i
value_at classes v e i lt = get_or-row e.slots (slot_shown v e) i Null lt

unfoldable pub make : ℕ → List Value → ObjectOf
make s vs = record { shape = s; values = vs }

-- the same slots are shown alike
pub object_same : (classes : List ℕ) (v v' : View) (e : Entry)
    → ((k : ℕ) → k < e.slots → slot_shown v' e k ≡ slot_shown v e k) → object_of classes v' e ≡ object_of classes v e
unfolding make
object_same classes v v' e same =
    ap (make (slice_index classes e.shape)) (row_same e.slots (slot_shown v' e) (slot_shown v e) same)

-- ---- a store to a slot

pub slot_same : (v v' : View) (es : List Entry) (n i w m k : ℕ) → Lies v es → v'.kinds ≡ v.kinds
    → Stored v v' es n i w → m < length es → k < (entry es m).slots → (m ≢ n) ⊎ (k ≢ i)
    → slot_shown v' (entry es m) k ≡ slot_shown v (entry es m) k
slot_same v v' es n i w m k h kinds stored lm lk apart =
    let e = entry es m in
    ap (λ ks. slot_value (ks e.shape k) (value_of v' (is_reference (ks e.shape k)) (word_of v' e k))) kinds
    ∙ ap (slot_value (kind_at v e k)) (value_same v v' es es (refers v e k) (word_of v e k) (word_of v' e k) h
    stored.lies (omega arith) (λ _ _ _ a. a) (λ r. h.refs m k lm r lk) (as_was (stored.same m k lm lk apart)))

object_set : (classes : List ℕ) (v v' : View) (e : Entry) (i : ℕ) (x : Value) → i < e.slots → slot_shown v' e i ≡ x
    → ((k : ℕ) → k < e.slots → k ≢ i → slot_shown v' e k ≡ slot_shown v e k)
    → object_of classes v' e ≡ with_slot (object_of classes v e) i x
unfolding make
object_set classes v v' e i x li here same =
    ap (make (slice_index classes e.shape)) (row_set e.slots (slot_shown v e) (slot_shown v' e) i x li here same)

pub objects_stored : (classes : List ℕ) (v v' : View) (es : List Entry) (n i w : ℕ) (x : Value) → Lies v es
    → v'.kinds ≡ v.kinds → Stored v v' es n i w → n < length es → i < (entry es n).slots
    → slot_shown v' (entry es n) i ≡ x
    → objects_in classes v' ≡ slice_set (objects_in classes v) n
    (with_slot (slice_index_or (objects_in classes v) n no_object) i x)
objects_stored classes v v' es n i w x h kinds stored ln li here =
    let f : ℕ → ObjectOf = λ m. object_of classes v (entry es m) in
    let g : ℕ → ObjectOf = λ m. object_of classes v' (entry es m) in
    objects_are classes v' es stored.lies
    ∙ row_set (length es) f g n (with_slot (object_of classes v (entry es n)) i x) ln
    (object_set classes v v' (entry es n) i x li here
    (λ k lk ne. slot_same v v' es n i w n k h kinds stored ln lk (inr ne)))
    (λ m lm ne. object_same classes v v' (entry es m)
    (λ k lk. slot_same v v' es n i w m k h kinds stored lm lk (inl ne)))
    ∙ ap (λ o. slice_set (row (length es) f) n (with_slot o i x)) (sym (object_is classes v es n h ln))
    ∙ ap (λ os. slice_set os n (with_slot (slice_index_or (objects_in classes v) n no_object) i x))
    (sym (objects_are classes v es h))

-- ---- a move

-- an object whose slots show the same is shown alike
pub alike_object : (classes : List ℕ) (v v' : View) (e e' : Entry) → v'.kinds ≡ v.kinds → e'.shape ≡ e.shape
    → e'.slots ≡ e.slots
    → ((k : ℕ) → k < e.slots
    → value_of v' (refers v' e' k) (word_of v' e' k) ≡ value_of v (refers v e k) (word_of v e k))
    → object_of classes v' e' ≡ object_of classes v e
unfolding make
alike_object classes v v' e e' kinds shape slots same =
    ap (λ s. make (slice_index classes s) (row e'.slots (slot_shown v' e'))) shape
    ∙ ap (λ c. make (slice_index classes e.shape) (row c (slot_shown v' e'))) slots
    ∙ ap (make (slice_index classes e.shape)) (row_same e.slots (slot_shown v' e') (slot_shown v e) (λ k lk.
    ap (λ ks. slot_value (ks e'.shape k) (value_of v' (refers v' e' k) (word_of v' e' k))) kinds
    ∙ ap (λ s. slot_value (v.kinds s k) (value_of v' (refers v' e' k) (word_of v' e' k))) shape
    ∙ ap (slot_value (kind_at v e k)) (same k lk)))

moved_object : (classes : List ℕ) (v v' : View) (es es' : List Entry) (n : ℕ) → v'.kinds ≡ v.kinds
    → SameHeap v es v' es' → n < length es → object_of classes v' (entry es' n) ≡ object_of classes v (entry es n)
moved_object classes v v' es es' n kinds same ln =
    alike_object classes v v' (entry es n) (entry es' n) kinds (same.shapes n ln) (same.slots n ln)
    (λ k lk. same.same n k ln lk)

pub objects_moved : (classes : List ℕ) (v v' : View) (es es' : List Entry) → Lies v es → Lies v' es'
    → v'.kinds ≡ v.kinds → SameHeap v es v' es' → objects_in classes v' ≡ objects_in classes v
objects_moved classes v v' es es' h h' kinds same =
    objects_are classes v' es' h'
    ∙ ap (λ c. row c (λ n. object_of classes v' (entry es' n))) same.long
    ∙ row_same (length es) (λ n. object_of classes v' (entry es' n)) (λ n. object_of classes v (entry es n))
    (λ n ln. moved_object classes v v' es es' n kinds same ln)
    ∙ sym (objects_are classes v es h)

-- ---- static fields

-- what stands for a number stands for it still
pub ref_same : (v v' : View) (es : List Entry) (r : Ref) → Lies v es → Keeps (number_in v) (number_in v') → IsTo es r
    → ref_value (number_in v') r ≡ ref_value (number_in v) r
ref_same v v' es NoRef h keeps to =
    ap number_value (null_is_no_object v') ∙ sym (ap number_value (null_is_no_object v))
ref_same v v' es (Persistent line) h keeps to =
    let is = named_number v es to.0 (Persistent line) h to.1 to.2 in
    ap number_value (keeps (Persistent line) to.0 is) ∙ sym (ap number_value is)
ref_same v v' es (Volatile at) h keeps to =
    let is = named_number v es to.0 (Volatile at) h to.1 to.2 in
    ap number_value (keeps (Volatile at) to.0 is) ∙ sym (ap number_value is)

pub item_same : (v v' : View) (es : List Entry) (item : Item) → Lies v es → Keeps (number_in v) (number_in v')
    → IsItem es item → item_value (number_in v') item ≡ item_value (number_in v) item
item_same v v' es (IntItem i) h keeps to = refl
item_same v v' es (LongItem i) h keeps to = refl
item_same v v' es (RefItem r) h keeps to = ref_same v v' es r h keeps to

pub static_same : (v v' : View) (es : List Entry) (s : Static) → Lies v es → Keeps (number_in v) (number_in v')
    → IsItem es (static_item v s) → static_item v' s ≡ static_item v s → static_value v' s ≡ static_value v s
static_same v v' es s h keeps held is =
    ap (item_value (number_in v')) is ∙ item_same v v' es (static_item v s) h keeps held

map_same : {A B : Type 0} (f g : A → B) (xs : List A) (d : A)
    → ((i : ℕ) → i < length xs → f (get_or xs i d) ≡ g (get_or xs i d)) → map f xs ≡ map g xs
map_same f g [] d same = refl
map_same f g (x ∷ xs) d same =
    ap (λ y. y ∷ map f xs) (same 0 (omega arith))
    ∙ ap (λ ys. g x ∷ ys) (map_same f g xs d (λ i lt. same (suc i) (omega (arith, lt))))

pub statics_same : (v v' : View) (es : List Entry) (statics : List Static) → Lies v es
    → Keeps (number_in v) (number_in v')
    → ((f : ℕ) → f < length statics → IsItem es (static_item v (slice_index_or statics f no_static)))
    → ((f : ℕ) → f < length statics → static_item v' (slice_index_or statics f no_static)
    ≡ static_item v (slice_index_or statics f no_static))
    → map (static_value v') statics ≡ map (static_value v) statics
statics_same v v' es statics h keeps held same =
    map_same (static_value v') (static_value v) statics no_static
    (λ f lt. static_same v v' es (slice_index_or statics f no_static) h keeps (held f lt) (same f lt))

pub map_set : {A B : Type 0} (f : A → B) (xs : List A) (i : ℕ) (x : A) → map f (set xs i x) ≡ set (map f xs) i (f x)
map_set f [] i x = refl
map_set f (y ∷ ys) zero x = refl
map_set f (y ∷ ys) (suc i) x = ap (λ zs. f y ∷ zs) (map_set f ys i x)

-- one place of a list shows otherwise
pub map_at : {A B : Type 0} (f g : A → B) (xs : List A) (i : ℕ) (x : B) (d : A) → i < length xs → g (get_or xs i d) ≡ x
    → ((k : ℕ) → k < length xs → k ≢ i → g (get_or xs k d) ≡ f (get_or xs k d)) → map g xs ≡ set (map f xs) i x
map_at f g xs i x d li here same =
    let long : length (map g xs) ≡ length xs = length-map xs g in
    let long_f : length (map f xs) ≡ length xs = length-map xs f in
    ext_get_or x (map g xs) (set (map f xs) i x) (long ∙ sym (length-set (map f xs) i x ∙ long_f)) (λ k inside.
    let lk : k < length xs = subst (λ (y : ℕ). k < y) long inside in
    get_or-map g xs k d x lk ∙ (elim (same_or_not k i) [
      | inl e ↦ ap (λ j. g (get_or xs j d)) e ∙ here
          ∙ sym (get_or-set_same (map f xs) i x x (subst (λ (y : ℕ). i < y) (sym long_f) li))
          ∙ ap (λ j. get_or (set (map f xs) i x) j x) (sym e)
      | inr ne ↦ same k lk ne ∙ sym (get_or-map f xs k d x lk) ∙ sym (get_or-set_other (map f xs) i k x x ne)
    ]))

-- ---- keys

pub keys_same : (v v' : View) (es es' : List Entry) → Lies v es → Lies v' es' → length es ≤ length es'
    → ((n : ℕ) → n < length es → current_word (entry es' n) ≡ current_word (entry es n))
    → (r : Ref) → is_key_in v r ≡ true → is_key_in v' r ≡ true
keys_same v v' es es' h h' long same r key =
    let n = key_number v r key in
    let named = number_named v es n.0 r h n.1 in
    named_key v' es' n.0 r h' (omega (arith, named.0, long))
    (key_named v es n.0 r h key n.1 ∙ sym (same n.0 named.0))
