-- What a store leaves: to a slot, to a root slot, beside.
use Rattle.std.proofs.Common.{◌≡◌, ◌≢◌, ◌⊎◌, inl, inr, ℕ, ◌+◌, ◌*◌, ◌/◌, ◌%◌, ◌<◌, ◌≤◌, List, length, map, set, Option, None}
use Rattle.std.proofs.Common.{Some, refl, sym, ◌∙◌, ap, subst, arith}
use Rattle.std.specs.Prelude.{slice_index_or, slice_set}
use Rattle.std.proofs.lemmas.List.{get_or-set_same, get_or-set_other, length-set}
use Rattle.ap_base.specs.declared.kind.Kind.{Kind}
use Rattle.ap_base.specs.declared.kind.Kind.TheVariants.{L}
use Rattle.ap_base.specs.declared.reference.Ref.{Ref}
use Rattle.ap_base.specs.declared.reference.Item.{Item}
use Rattle.ap_base.specs.declared.reference.Item.TheVariants.{Ref as RefItem}
use Rattle.image_layout.specs.Places.{slot_line, slot_word, root_slots}
use Rattle.line_memory.specs.Memory.{Memory, shown}
use Rattle.one_space.specs.Layout.{item_in, ref_in}
use Rattle.one_space.specs.Laws.{some_same}
use Rattle.plain_model.specs.Kinds.{HasKind}
use Rattle.graph_model.specs.declared.types.Shape.{Shape}
use Rattle.graph_model.specs.declared.types.Value.{Value}
use Rattle.twin_forms.specs.declared.kinds.ShapeKinds.{ShapeKinds}
use Rattle.graph_model.specs.declared.types.Value.TheVariants.{Null}
use Rattle.graph_model.specs.Heaps.{no_object, with_slot}
use Rattle.one_space.proofs.Laid.{get_or-map}
use Rattle.shared_objects.specs.Shown.{IsOfKindIn, IsSameForm, Keeps, item_value, number_value, ref_value, static_in}
use Rattle.shared_objects.specs.Changes.{StoresSlot, StoresStatic}
use Rattle.twin_forms.specs.Sights.{Twin, view_of, slot_kind}
use Rattle.twin_forms.specs.Table.{Entry, entry, Lies, IsRef, is_reference, kind_at, refers, value_of, word_of, HasCopied}
use Rattle.twin_forms.specs.Table.{line_of}
use Rattle.twin_forms.specs.Moves.{Moved, Stored}
use Rattle.twin_forms.proofs.Led.{below_or_not, same_or_not}
use Rattle.twin_forms.proofs.Frames.{Agree}
use Rattle.twin_forms.proofs.Quiet.{same_heap}
use Rattle.twin_heap.specs.Here.{StoresAt}
use Rattle.twin_heap.proofs.Reading.{spot_is}
use Rattle.two_spaces.specs.declared.spaces.Static.{Static}
use Rattle.two_spaces.specs.declared.spaces.Static.TheVariants.{Beside, Root}
use Rattle.two_spaces.specs.Seen.{Spaces, shown_of, number_in, objects_in, root_word, slot_value, static_item, static_value}
use Rattle.two_spaces.specs.Whole.{Stands, AreClasses, IsStatic, IsAlone, IsItem, IsWordOf, IsNumberOf, HasLine, SlotStored}
use Rattle.two_spaces.specs.Whole.{RootStored, BesideStored, no_static}
use Rattle.two_spaces.proofs.Numbering.{keeps_numbers, known_to}
use Rattle.two_spaces.proofs.Valuing.{is_to, item_ref, item_shown, stored_shown, word_ref}
use Rattle.two_spaces.proofs.Finding.{even_word}
use Rattle.two_spaces.proofs.Shifting.{objects_stored, objects_moved, statics_same, static_same, keys_same, map_at, map_set}

-- ---- root slots

-- Each root slot has the word that it had.
unfoldable pub SameRoots : Twin → Twin → Type 0
SameRoots t t' = (slot : ℕ) → slot < root_slots → root_word (view_of t') slot ≡ root_word (view_of t) slot

pub kinds_same : (t t' : Twin) → t'.marks.kinds ≡ t.marks.kinds → (view_of t').kinds ≡ (view_of t).kinds
kinds_same t t' is = ap (λ kinds. λ shape k. slot_kind kinds shape k) is

pub same_item : (s : Spaces) (t' : Twin) (es : List Entry) (st : Static) → SameRoots s.twin t' → IsStatic s es st
    → static_item (view_of t') st ≡ static_item (view_of s.twin) st
unfolding SameRoots
same_item s t' es (Beside item) same is = refl
same_item s t' es (Root slot) same is = ap (λ w. RefItem (ref_in w)) (same slot is.0)

pub held_item : (s : Spaces) (es : List Entry) (st : Static) → Lies (view_of s.twin) es → IsStatic s es st
    → IsItem es (static_item (view_of s.twin) st)
held_item s es (Beside item) h is = is
held_item s es (Root slot) h is =
    known_to (view_of s.twin) es (ref_in (root_word (view_of s.twin) slot)) h
    (is_to (view_of s.twin) es (root_word (view_of s.twin) slot) h is.2)

pub static_on : (s : Spaces) (t' : Twin) (es : List Entry) (st : Static) → SameRoots s.twin t' → IsStatic s es st
    → IsStatic (record s { twin = t' }) es st
unfolding SameRoots
static_on s t' es (Beside item) same is = is
static_on s t' es (Root slot) same is = (
  is.0,
  subst (λ w. w % 2 ≡ 0) (sym (same slot is.0)) is.1,
  subst (IsRef es) (sym (same slot is.0)) is.2,
)

pub all_same : (s : Spaces) (t' : Twin) (es : List Entry) → Stands s es → SameRoots s.twin t'
    → Keeps (number_in (view_of s.twin)) (number_in (view_of t'))
    → map (static_value (view_of t')) s.statics ≡ map (static_value (view_of s.twin)) s.statics
all_same s t' es h same keeps =
    statics_same (view_of s.twin) (view_of t') es s.statics h.lies keeps
    (λ f lt. held_item s es (slice_index_or s.statics f no_static) h.lies (h.statics f lt))
    (λ f lt. same_item s t' es (slice_index_or s.statics f no_static) same (h.statics f lt))

-- the same kinds of shapes
pub classes_on : (shapes : List Shape) (kinds kinds' : List ShapeKinds) (classes numbers : List ℕ) → kinds' ≡ kinds
    → AreClasses shapes kinds classes numbers → AreClasses shapes kinds' classes numbers
classes_on shapes kinds kinds' classes numbers is h =
    subst (λ ks. AreClasses shapes ks classes numbers) (sym is) h

-- the heap is whole still, by the same table
pub stands_on : (s : Spaces) (t' : Twin) (es : List Entry) → Stands s es → Lies (view_of t') es
    → t'.marks.kinds ≡ s.twin.marks.kinds → SameRoots s.twin t' → Stands (record s { twin = t' }) es
stands_on s t' es h lies kinds same = record {
  lies = lies;
  behind = h.behind;
  classes = classes_on s.shapes s.twin.marks.kinds t'.marks.kinds s.classes s.numbers kinds h.classes;
  classed = h.classed;
  statics = λ f lt. static_on s t' es (slice_index_or s.statics f no_static) same (h.statics f lt);
  alone = h.alone;
}

-- ---- a store to a slot

pub copied_or_not : (e : Entry) (c : ℕ) → HasCopied e c ⊎ (HasCopied e c → ⊥)
copied_or_not e c = elim (below_or_not 1 e.stage) [
  | inl moved ↦ inl (inl moved)
  | inr young ↦ (elim (same_or_not e.stage 1) [
    | inr ne ↦ inr (λ h. elim h [ inl m ↦ absurd (omega (arith, m, young)) | inr p ↦ ne p.0 ])
    | inl one ↦ (elim (below_or_not c e.copied) [
      | inl lt ↦ inl (inr (one, lt))
      | inr ge ↦ inr (λ h. elim h [ inl m ↦ absurd (omega (arith, m, young)) | inr p ↦ absurd (omega (arith, p.1, ge)) ])
    ])
  ])
]

placed : (e : Entry) (c : ℕ) → HasCopied e c → 0 < e.stage
placed e c (inl moved) = omega (arith, moved)
placed e c (inr p) = omega (arith, p.0)

slot_roots : (t t' : Twin) (es : List Entry) (n i w : ℕ) → ((0 < (entry es n).stage) → 33 ≤ (entry es n).line)
    → (HasCopied (entry es n) (line_of i)
    → StoresAt ((entry es n).line + line_of i) ((1 + i) % 8) w t.memory t'.memory)
    → ((HasCopied (entry es n) (line_of i) → ⊥) → t'.memory ≡ t.memory) → SameRoots t t'
unfolding SameRoots
slot_roots t t' es n i w behind line same slot lt = elim (copied_or_not (entry es n) (line_of i)) [
  | inr none ↦ ap (λ m. shown m ((8 + slot) / 8) ((8 + slot) % 8)) (same none)
  | inl has ↦
      (let far = behind (placed (entry es n) (line_of i) has) in
      (line has).others ((8 + slot) / 8) ((8 + slot) % 8) (λ eq _. absurd (omega (arith, eq, far, lt))))
]

-- what is shown and what becomes of the heap
pub record KeepsSlot (s : Spaces) (t' : Twin) (es : List Entry) (r : Ref) (n i w : ℕ) (item : Item) : Type 0 where
  pub stored : StoresSlot r i item (shown_of s) (shown_of (record s { twin = t' }))
  pub becomes : SlotStored s es n i w (record s { twin = t' })

pub keeps_slot : (s : Spaces) (t' : Twin) (es : List Entry) (r : Ref) (n i w : ℕ) (item : Item) → Stands s es
    → n < length es → i < (entry es n).slots → number_in (view_of s.twin) r ≡ Some n
    → Stored (view_of s.twin) (view_of t') es n i w → t'.marks ≡ s.twin.marks
    → t'.space.left ≡ s.twin.space.left
    → (HasCopied (entry es n) (line_of i)
    → StoresAt ((entry es n).line + line_of i) ((1 + i) % 8) w s.twin.memory t'.memory)
    → ((HasCopied (entry es n) (line_of i) → ⊥) → t'.memory ≡ s.twin.memory)
    → IsItem es item → IsWordOf es item w → ((k : Kind) → IsNumberOf k item → item_in (Some k) w ≡ item)
    → IsOfKindIn (kind_at (view_of s.twin) (entry es n) i) (item_value (number_in (view_of s.twin)) item)
    → KeepsSlot s t' es r n i w item
keeps_slot s t' es r n i w item h ln li number stored marks left line same to is again of =
    let v = view_of s.twin in
    let v' = view_of t' in
    let kinds : t'.marks.kinds ≡ s.twin.marks.kinds = ap (λ m. m.kinds) marks in
    let roots : SameRoots s.twin t' = slot_roots s.twin t' es n i w (h.behind n ln) line same in
    let keeps : Keeps (number_in v) (number_in v') =
    keeps_numbers v v' es es h.lies stored.lies (omega arith) (λ _ _ _ a. a) in
    let shows = ap (λ ks. slot_value (ks (entry es n).shape i)
    (value_of v' (is_reference (ks (entry es n).shape i)) (word_of v' (entry es n) i))) (kinds_same s.twin t' kinds)
    ∙ ap (λ x. slot_value (kind_at v (entry es n) i) (value_of v' (refers v (entry es n) i) x)) stored.here
    ∙ stored_shown v v' es (kind_at v (entry es n) i) item w h.lies stored.lies to is again of in
    let objects = objects_stored s.classes v v' es n i w (item_value (number_in v) item) h.lies
    (kinds_same s.twin t' kinds) stored ln li shows in
    record {
      stored = record {
        goes_on = record {
          shapes = refl;
          keeps = keeps;
          keys = keys_same v v' es es h.lies stored.lies (omega arith) (λ _ _. refl);
        };
        objects = λ m number_m. subst (λ k. objects_in s.classes v' ≡ slice_set (objects_in s.classes v) k
            (with_slot (slice_index_or (objects_in s.classes v) k no_object) i (item_value (number_in v) item)))
            (some_same (sym number ∙ number_m)) objects;
        statics = all_same s t' es h roots keeps;
        left = left;
      };
      becomes = record {
        stands = stands_on s t' es h stored.lies kinds roots;
        stored = stored;
        line = line;
        same = same;
        marks = marks;
        classes = record { shapes = refl; classes = refl; numbers = refl; kinds = kinds };
        statics = refl;
      };
    }

-- ---- a store to a root slot

-- the word of a root slot, by its number
pub root_is : (m : Memory) (slot : ℕ) → shown m ((8 + slot) / 8) ((8 + slot) % 8) ≡ shown m (slot_line slot) (slot_word slot)
root_is m slot = spot_is m (8 + slot) (slot_line slot) (slot_word slot) (omega arith) (omega arith)

-- no object has a word of the line
other_lines : (t : Twin) (m' : Memory) (es : List Entry) (slot w : ℕ) → Lies (view_of t) es
    → ((n : ℕ) → n < length es → 0 < (entry es n).stage → 33 ≤ (entry es n).line) → slot < root_slots
    → StoresAt (slot_line slot) (slot_word slot) w t.memory m'
    → (n : ℕ) → n < length es → Agree (view_of t) (view_of (record t { memory = m' })) (entry es n)
other_lines t m' es slot w h behind lt stores n ln = record {
  old = λ _ _ _. refl;
  shown = λ placed j lj.
      (let far = behind n ln placed in
      stores.others ((8 * (entry es n).line + j) / 8) ((8 * (entry es n).line + j) % 8)
      (λ eq _. absurd (omega (arith, eq, far, lt))));
  number = λ _. refl;
  copied = λ _. refl;
  owner = λ _. refl;
}

-- Another static field doesn't lie in the slot.
other_item : (s : Spaces) (m' : Memory) (es : List Entry) (slot w : ℕ) (st : Static) → slot < root_slots
    → StoresAt (slot_line slot) (slot_word slot) w s.twin.memory m' → (st ≡ Root slot → ⊥) → IsStatic s es st
    → static_item (view_of (record s.twin { memory = m' })) st ≡ static_item (view_of s.twin) st
other_item s m' es slot w (Beside item) lt stores apart is = refl
other_item s m' es slot w (Root other) lt stores apart is =
    ap (λ x. RefItem (ref_in x)) (stores.others ((8 + other) / 8) ((8 + other) % 8)
    (λ line word. let e : other ≡ slot = omega (arith, line, word) in apart (ap Root e)))

other_on : (s : Spaces) (m' : Memory) (es : List Entry) (slot w : ℕ) (st : Static)
    → StoresAt (slot_line slot) (slot_word slot) w s.twin.memory m' → (st ≡ Root slot → ⊥) → IsStatic s es st
    → IsStatic (record s { twin = record s.twin { memory = m' } }) es st
other_on s m' es slot w (Beside item) stores apart is = is
other_on s m' es slot w (Root other) stores apart is =
    let same : root_word (view_of (record s.twin { memory = m' })) other ≡ root_word (view_of s.twin) other =
    stores.others ((8 + other) / 8) ((8 + other) % 8)
    (λ line word. let e : other ≡ slot = omega (arith, line, word) in apart (ap Root e)) in (
      is.0,
      subst (λ x. x % 2 ≡ 0) (sym same) is.1,
      subst (IsRef es) (sym same) is.2,
    )

-- a root slot holds a reference
root_form : (o : Option ℕ) (value : Value) → IsSameForm (number_value o) value → HasKind L value
root_form None value same = same
root_form (Some n) value same = same

pub root_kind : (s : Spaces) (f slot : ℕ) (value : Value) → f < length s.statics
    → slice_index_or s.statics f no_static ≡ Root slot → IsSameForm (static_in (shown_of s) f) value → HasKind L value
root_kind s f slot value lf is same =
    let held : static_in (shown_of s) f ≡ static_value (view_of s.twin) (Root slot) =
    get_or-map (static_value (view_of s.twin)) s.statics f no_static Null lf
    ∙ ap (static_value (view_of s.twin)) is in
    root_form (number_in (view_of s.twin) (ref_in (root_word (view_of s.twin) slot))) value
    (subst (λ x. IsSameForm x value) held same)

pub record KeepsRoot (s : Spaces) (m' : Memory) (es : List Entry) (f slot w : ℕ) (item : Item) : Type 0 where
  pub stored : StoresStatic f item (shown_of s) (shown_of (record s { twin = record s.twin { memory = m' } }))
  pub becomes : RootStored s es slot w (record s { twin = record s.twin { memory = m' } })

pub keeps_root : (s : Spaces) (m' : Memory) (es : List Entry) (f slot w : ℕ) (item : Item) → Stands s es
    → f < length s.statics → slice_index_or s.statics f no_static ≡ Root slot
    → StoresAt (slot_line slot) (slot_word slot) w s.twin.memory m'
    → IsItem es item → IsWordOf es item w → HasLine es item
    → HasKind L (item_value (number_in (view_of s.twin)) item) → KeepsRoot s m' es f slot w item
keeps_root s m' es f slot w item h lf is stores to word line kind =
    let t' : Twin = record s.twin { memory = m' } in
    let v = view_of s.twin in
    let v' = view_of t' in
    let slot_is = subst (IsStatic s es) is (h.statics f lf) in
    let moved : Moved v es v' es = same_heap v v' es h.lies
    (record { words = refl; left = refl; lines = stores.changes.size; marks = refl; birth = λ _. refl; count = refl; shapes = refl; room = refl; kinds = refl; kept = refl })
    (other_lines s.twin m' es slot w h.lies h.behind slot_is.0 stores) in
    let lies : Lies v' es = moved.lies in
    let keeps : Keeps (number_in v) (number_in v') =
    keeps_numbers v v' es es h.lies lies (omega arith) (λ _ _ _ a. a) in
    let r = item_ref (number_in v) (Some L) item refl kind in
    let to_r = subst (IsItem es) r.1 to in
    let word_r = subst (λ x. IsWordOf es x w) r.1 word in
    let ref : IsRef es w = word_ref v es r.0 w h.lies to_r word_r in
    let even : w % 2 ≡ 0 = even_word es r.0 w to_r word_r (subst (HasLine es) r.1 line) in
    let now : root_word v' slot ≡ w = root_is m' slot ∙ stores.here in
    let again : (k : Kind) → IsNumberOf k item → item_in (Some k) w ≡ item =
    λ k number. absurd (subst (IsNumberOf k) r.1 number) in
    let here : static_value v' (slice_index_or s.statics f no_static) ≡ item_value (number_in v) item =
    ap (static_value v') is ∙ ap (λ x. ref_value (number_in v') (ref_in x)) now
    ∙ item_shown v' es (Some L) w lies (λ _. ref)
    ∙ stored_shown v v' es (Some L) item w h.lies lies to word again kind in
    let apart : (g : ℕ) → g < length s.statics → g ≢ f → slice_index_or s.statics g no_static ≡ Root slot → ⊥ =
    λ g lg ne. subst (IsAlone s.statics f) is (h.alone f lf) g lg ne in
    record {
      stored = record {
        goes_on = record {
          shapes = refl;
          keeps = keeps;
          keys = keys_same v v' es es h.lies lies (omega arith) (λ _ _. refl);
        };
        objects = objects_moved s.classes v v' es es h.lies lies refl moved.same;
        statics = map_at (static_value v) (static_value v') s.statics f (item_value (number_in v) item) no_static lf here
            (λ g lg ne. static_same v v' es (slice_index_or s.statics g no_static) h.lies keeps
            (held_item s es (slice_index_or s.statics g no_static) h.lies (h.statics g lg))
            (other_item s m' es slot w (slice_index_or s.statics g no_static) slot_is.0 stores (apart g lg ne) (h.statics g lg)));
        left = refl;
      };
      becomes = record {
        stands = record {
          lies = lies;
          behind = h.behind;
          classes = h.classes;
          classed = h.classed;
          statics = λ g lg. elim (same_or_not g f) [
            | inl e ↦ subst (λ k. IsStatic (record s { twin = t' }) es (slice_index_or s.statics k no_static)) (sym e)
                (subst (IsStatic (record s { twin = t' }) es) (sym is) (
                  slot_is.0,
                  subst (λ x. x % 2 ≡ 0) (sym now) even,
                  subst (IsRef es) (sym now) ref,
                ))
            | inr ne ↦ other_on s m' es slot w (slice_index_or s.statics g no_static) stores (apart g lg ne) (h.statics g lg)
          ];
          alone = h.alone;
        };
        line = stores;
        space = refl;
        marks = refl;
        classes = record { shapes = refl; classes = refl; numbers = refl; kinds = refl };
        statics = refl;
      };
    }

-- ---- a store beside

pub record KeepsBeside (s : Spaces) (es : List Entry) (f : ℕ) (item : Item) : Type 0 where
  pub stored : StoresStatic f item (shown_of s) (shown_of (record s { statics = slice_set s.statics f (Beside item) }))
  pub becomes : BesideStored s es f item (record s { statics = slice_set s.statics f (Beside item) })

beside_root : {A : Type 0} (item : Item) (slot : ℕ) → Beside item ≡ Root slot → A
beside_root item slot e = cc

static_other : (s : Spaces) (statics : List Static) (es : List Entry) (st : Static) → IsStatic s es st
    → IsStatic (record s { statics = statics }) es st
static_other s statics es (Beside item) is = is
static_other s statics es (Root slot) is = is

beside_alone : (statics : List Static) (f : ℕ) (item : Item) (g : ℕ) (st : Static) → IsAlone statics g st
    → IsAlone (set statics f (Beside item)) g st
beside_alone statics f item g (Beside old) alone = tt
beside_alone statics f item g (Root slot) alone = λ k lk ne.
    (let long = length-set statics f (Beside item) in
    elim (same_or_not k f) [
      | inl e ↦ λ is. beside_root item slot (sym (get_or-set_same statics f (Beside item) no_static
          (omega (arith, lk, long, e))) ∙ ap (λ j. slice_index_or (set statics f (Beside item)) j no_static) (sym e) ∙ is)
      | inr nf ↦ λ is. alone k (omega (arith, lk, long)) ne
          (sym (get_or-set_other statics f k (Beside item) no_static nf) ∙ is)
    ])

pub keeps_beside : (s : Spaces) (es : List Entry) (f : ℕ) (item : Item) → Stands s es → f < length s.statics
    → IsItem es item → KeepsBeside s es f item
keeps_beside s es f item h lf to =
    let statics' = slice_set s.statics f (Beside item) in
    let long : length statics' ≡ length s.statics = length-set s.statics f (Beside item) in
    let set_here : slice_index_or statics' f no_static ≡ Beside item =
    get_or-set_same s.statics f (Beside item) no_static lf in
    let set_other : (g : ℕ) → g ≢ f → slice_index_or statics' g no_static ≡ slice_index_or s.statics g no_static =
    λ g ne. get_or-set_other s.statics f g (Beside item) no_static ne in
    record {
      stored = record {
        goes_on = record { shapes = refl; keeps = λ r n is. is; keys = λ r key. key };
        objects = refl;
        statics = map_set (static_value (view_of s.twin)) s.statics f (Beside item);
        left = refl;
      };
      becomes = record {
        stands = record {
          lies = h.lies;
          behind = h.behind;
          classes = h.classes;
          classed = h.classed;
          statics = λ g lg. elim (same_or_not g f) [
            | inl e ↦ subst (λ k. IsStatic (record s { statics = statics' }) es (slice_index_or statics' k no_static)) (sym e)
                (subst (IsStatic (record s { statics = statics' }) es) (sym set_here) to)
            | inr ne ↦ subst (IsStatic (record s { statics = statics' }) es) (sym (set_other g ne))
                (static_other s statics' es (slice_index_or s.statics g no_static) (h.statics g (omega (arith, lg, long))))
          ];
          alone = λ g lg. elim (same_or_not g f) [
            | inl e ↦ subst (λ k. IsAlone statics' k (slice_index_or statics' k no_static)) (sym e)
                (subst (IsAlone statics' f) (sym set_here) tt)
            | inr ne ↦ subst (IsAlone statics' g) (sym (set_other g ne))
                (beside_alone s.statics f item g (slice_index_or s.statics g no_static) (h.alone g (omega (arith, lg, long))))
          ];
        };
        is = refl;
      };
    }
