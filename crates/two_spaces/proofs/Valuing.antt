-- What a slot's word shows is the value of the item that it holds.
use Rattle.std.proofs.Common.{◌≡◌, inl, inr, ℕ, ◌+◌, ◌*◌, ◌/◌, ◌%◌, ◌<◌, ◌^◌, true, false, nat_eq, nat_lt, List, length, Option}
use Rattle.std.proofs.Common.{Some, None, refl, sym, ◌∙◌, ap, subst, arith}
use Rattle.std.proofs.lemmas.Grind.{common_steps}
use Rattle.ap_base.specs.References.{reference_word}
use Rattle.ap_base.specs.declared.kind.Kind.{Kind}
use Rattle.ap_base.specs.declared.kind.Kind.TheVariants.{Z, B, C, S, I, J, L, Text}
use Rattle.ap_base.specs.declared.reference.Ref.{Ref}
use Rattle.ap_base.specs.declared.reference.Ref.TheVariants.{Null as NoRef, Persistent, Volatile}
use Rattle.ap_base.specs.declared.reference.Item.{Item}
use Rattle.ap_base.specs.declared.reference.Item.TheVariants.{Int as IntItem, Long as LongItem, Ref as RefItem}
use Rattle.one_space.specs.Layout.{HasItemKind, item_in, ref_in}
use Rattle.one_space.proofs.Stored.{item_kind}
use Rattle.shared_objects.specs.Shown.{Numbers, IsKnown, IsKnownItem, IsOfKindIn, item_value, ref_value, number_value}
use Rattle.twin_forms.specs.Table.{Entry, entry, View, Lies, Names, IsRef, is_reference, value_of}
use Rattle.twin_forms.specs.Table.{Obj as OfNumber}
use Rattle.twin_forms.proofs.Led.{number_is}
use Rattle.twin_forms.proofs.Elsewhere.{positive, value_obj, value_null, value_plain}
use Rattle.two_spaces.specs.Seen.{current_word, number_in, slot_value}
use Rattle.two_spaces.specs.Laws.{null_is_no_object}
use Rattle.two_spaces.specs.Whole.{IsTo, IsItem, IsWordOf, IsNumberOf}
use Rattle.two_spaces.proofs.Numbering.{named_number, known_to, to_known, is_some, names_current}

-- ---- the reference of a word

ref_zero : (w : ℕ) → w ≡ 0 → ref_in w ≡ NoRef
ref_zero w e = rw e refl

ref_even : (w line : ℕ) → w ≡ 2 * line → 0 < line → line < 2 ^ 32 → ref_in w ≡ Persistent line
ref_even w line e pos few =
    let a : nat_eq w 0 ≡ false = grind (arith, common_steps) in
    let h : w / 2 ≡ line = omega arith in
    let b : nat_lt line (2 ^ 32) ≡ true = grind (arith, common_steps) in
    let r : w % 2 ≡ 0 = omega arith in
    rw (a, h, b, r) refl

ref_odd : (w at : ℕ) → w ≡ 2 * at + 1 → at < 2 ^ 32 → ref_in w ≡ Volatile at
ref_odd w at e few =
    let a : nat_eq w 0 ≡ false = grind (arith, common_steps) in
    let h : w / 2 ≡ at = omega arith in
    let b : nat_lt at (2 ^ 32) ≡ true = grind (arith, common_steps) in
    let r : w % 2 ≡ 1 = omega arith in
    rw (a, h, b, r) refl

-- of the word of an object's reference, that reference
pub record IsRefOf (w : ℕ) (r : Ref) : Type 0 where
  pub is : ref_in w ≡ r
  pub word : reference_word r ≡ w

pub ref_named : (v : View) (es : List Entry) (n w : ℕ) → Lies v es → n < length es → Names (entry es n) w
    → IsRefOf w (ref_in w)
ref_named v es n w h ln (inl s) =
    let t = h.table.old_in n ln s.0 in
    let few = h.table.few_words in
    let lt : (entry es n).at < 2 ^ 32 = omega (arith, t, few) in
    let is = ref_odd w (entry es n).at s.1 lt in
    record { is = refl; word = ap reference_word is ∙ sym s.1 }
ref_named v es n w h ln (inr s) =
    let t = h.table.copy_in n ln (omega (arith, s.0)) in
    let few = h.table.few_lines in
    let lt : (entry es n).line < 2 ^ 32 = omega (arith, t, few) in
    let is = ref_even w (entry es n).line s.1 t.0 lt in
    record { is = refl; word = ap reference_word is ∙ sym s.1 }

pub ref_number : (v : View) (es : List Entry) (n w : ℕ) → Lies v es → n < length es → Names (entry es n) w
    → number_in v (ref_in w) ≡ Some n
ref_number v es n w h ln names =
    named_number v es n (ref_in w) h ln (subst (Names (entry es n)) (sym (ref_named v es n w h ln names).word) names)

-- ---- what a word of a kind holds

ref_shown : (v : View) (es : List Entry) (w : ℕ) → Lies v es → IsRef es w
    → ref_value (number_in v) (ref_in w) ≡ slot_value (Some L) (value_of v true w)
ref_shown v es w h (inl z) =
    ap (ref_value (number_in v)) (ref_zero w z) ∙ ap number_value (null_is_no_object v)
    ∙ sym (ap (slot_value (Some L)) (value_null v true w refl z))
ref_shown v es w h (inr x) =
    ap number_value (ref_number v es x.0 w h x.1 x.2)
    ∙ sym (ap (slot_value (Some L)) (value_obj v true w refl (positive (entry es x.0) w x.2)
    ∙ ap OfNumber (number_is v es x.0 w h x.1 x.2)))

pub item_shown : (v : View) (es : List Entry) (kind : Option Kind) (w : ℕ) → Lies v es
    → (is_reference kind ≡ true → IsRef es w)
    → item_value (number_in v) (item_in kind w) ≡ slot_value kind (value_of v (is_reference kind) w)
item_shown v es None w h ref = refl
item_shown v es (Some Z) w h ref = refl
item_shown v es (Some B) w h ref = refl
item_shown v es (Some C) w h ref = refl
item_shown v es (Some S) w h ref = refl
item_shown v es (Some I) w h ref = refl
item_shown v es (Some J) w h ref = refl
item_shown v es (Some L) w h ref = ref_shown v es w h (ref refl)
item_shown v es (Some Text) w h ref = refl

pub known_by : (v : View) (r : Ref) (n : ℕ) → number_in v r ≡ Some n → IsKnown (number_in v) r
known_by v NoRef n is = tt
known_by v (Persistent line) n is = is_some (number_in v (Persistent line)) n is
known_by v (Volatile at) n is = is_some (number_in v (Volatile at)) n is

pub is_to : (v : View) (es : List Entry) (w : ℕ) → Lies v es → IsRef es w → IsKnown (number_in v) (ref_in w)
is_to v es w h (inl z) = subst (IsKnown (number_in v)) (sym (ref_zero w z)) tt
is_to v es w h (inr x) = known_by v (ref_in w) x.0 (ref_number v es x.0 w h x.1 x.2)

pub item_known : (v : View) (es : List Entry) (kind : Option Kind) (w : ℕ) → Lies v es
    → (is_reference kind ≡ true → IsRef es w) → IsKnownItem (number_in v) (item_in kind w)
item_known v es None w h ref = tt
item_known v es (Some Z) w h ref = tt
item_known v es (Some B) w h ref = tt
item_known v es (Some C) w h ref = tt
item_known v es (Some S) w h ref = tt
item_known v es (Some I) w h ref = tt
item_known v es (Some J) w h ref = tt
item_known v es (Some L) w h ref = is_to v es w h (ref refl)
item_known v es (Some Text) w h ref = tt

-- ---- items and their words

pub item_to : (v : View) (es : List Entry) (item : Item) → Lies v es → IsKnownItem (number_in v) item → IsItem es item
item_to v es (IntItem i) h known = tt
item_to v es (LongItem i) h known = tt
item_to v es (RefItem r) h known = known_to v es r h known

pub item_from : (v : View) (es : List Entry) (item : Item) → Lies v es → IsItem es item → IsKnownItem (number_in v) item
item_from v es (IntItem i) h to = tt
item_from v es (LongItem i) h to = tt
item_from v es (RefItem r) h to = to_known v es r h to

-- the word that is kept of a reference
pub word_ref : (v : View) (es : List Entry) (r : Ref) (w : ℕ) → Lies v es → IsTo es r → IsWordOf es (RefItem r) w → IsRef es w
word_ref v es NoRef w h to is = inl is
word_ref v es (Persistent line) w h to is =
    inr (to.0, to.1, subst (Names (entry es to.0)) (sym (is to.0 to.1 to.2)) (names_current v es to.0 h to.1))
word_ref v es (Volatile at) w h to is =
    inr (to.0, to.1, subst (Names (entry es to.0)) (sym (is to.0 to.1 to.2)) (names_current v es to.0 h to.1))

object_shown : (v v' : View) (es : List Entry) (n : ℕ) (r : Ref) (w : ℕ) → Lies v es → Lies v' es → n < length es
    → Names (entry es n) (reference_word r) → w ≡ current_word (entry es n)
    → slot_value (Some L) (value_of v' true w) ≡ ref_value (number_in v) r
object_shown v v' es n r w h h' ln names is =
    let current : Names (entry es n) w = subst (Names (entry es n)) (sym is) (names_current v es n h ln) in
    ap (slot_value (Some L)) (value_obj v' true w refl (positive (entry es n) w current)
    ∙ ap OfNumber (number_is v' es n w h' ln current))
    ∙ sym (ap number_value (named_number v es n r h ln names))

-- what it shows
word_shown : (v v' : View) (es : List Entry) (r : Ref) (w : ℕ) → Lies v es → Lies v' es → IsTo es r
    → IsWordOf es (RefItem r) w → slot_value (Some L) (value_of v' true w) ≡ ref_value (number_in v) r
word_shown v v' es NoRef w h h' to is =
    ap (slot_value (Some L)) (value_null v' true w refl is) ∙ sym (ap number_value (null_is_no_object v))
word_shown v v' es (Persistent line) w h h' to is =
    object_shown v v' es to.0 (Persistent line) w h h' to.1 to.2 (is to.0 to.1 to.2)
word_shown v v' es (Volatile at) w h h' to is =
    object_shown v v' es to.0 (Volatile at) w h h' to.1 to.2 (is to.0 to.1 to.2)

-- ---- numbers

number_shown : (v v' : View) (kind : Kind) (item : Item) (w : ℕ) → IsNumberOf kind item
    → item_in (Some kind) w ≡ item → is_reference (Some kind) ≡ false
    → slot_value (Some kind) (value_of v' (is_reference (Some kind)) w) ≡ item_value (number_in v) item
number_shown v v' kind (IntItem i) w is back plain =
    ap (slot_value (Some kind)) (value_plain v' (is_reference (Some kind)) w plain) ∙ ap (item_value (λ _. None)) back
number_shown v v' kind (LongItem i) w is back plain =
    ap (slot_value (Some kind)) (value_plain v' (is_reference (Some kind)) w plain) ∙ ap (item_value (λ _. None)) back
number_shown v v' kind (RefItem r) w is back plain = absurd is

-- An item of the slot's kind is shown by the word that is kept of it.
shown_by_kind : (v v' : View) (es : List Entry) (kind : Kind) (item : Item) (w : ℕ) → Lies v es → Lies v' es
    → IsItem es item → IsWordOf es item w → ((k : Kind) → IsNumberOf k item → item_in (Some k) w ≡ item)
    → HasItemKind kind item
    → slot_value (Some kind) (value_of v' (is_reference (Some kind)) w) ≡ item_value (number_in v) item
shown_by_kind v v' es L (RefItem r) w h h' to is again has = word_shown v v' es r w h h' to is
shown_by_kind v v' es L (IntItem i) w h h' to is again has = absurd has
shown_by_kind v v' es L (LongItem i) w h h' to is again has = absurd has
shown_by_kind v v' es Z (RefItem r) w h h' to is again has = absurd has
shown_by_kind v v' es Z (IntItem i) w h h' to is again has = number_shown v v' Z (IntItem i) w has (again Z has) refl
shown_by_kind v v' es Z (LongItem i) w h h' to is again has = absurd has
shown_by_kind v v' es B (RefItem r) w h h' to is again has = absurd has
shown_by_kind v v' es B (IntItem i) w h h' to is again has = number_shown v v' B (IntItem i) w has (again B has) refl
shown_by_kind v v' es B (LongItem i) w h h' to is again has = absurd has
shown_by_kind v v' es C (RefItem r) w h h' to is again has = absurd has
shown_by_kind v v' es C (IntItem i) w h h' to is again has = number_shown v v' C (IntItem i) w has (again C has) refl
shown_by_kind v v' es C (LongItem i) w h h' to is again has = absurd has
shown_by_kind v v' es S (RefItem r) w h h' to is again has = absurd has
shown_by_kind v v' es S (IntItem i) w h h' to is again has = number_shown v v' S (IntItem i) w has (again S has) refl
shown_by_kind v v' es S (LongItem i) w h h' to is again has = absurd has
shown_by_kind v v' es I (RefItem r) w h h' to is again has = absurd has
shown_by_kind v v' es I (IntItem i) w h h' to is again has = number_shown v v' I (IntItem i) w has (again I has) refl
shown_by_kind v v' es I (LongItem i) w h h' to is again has = absurd has
shown_by_kind v v' es J (RefItem r) w h h' to is again has = absurd has
shown_by_kind v v' es J (IntItem i) w h h' to is again has = absurd has
shown_by_kind v v' es J (LongItem i) w h h' to is again has = number_shown v v' J (LongItem i) w has (again J has) refl
shown_by_kind v v' es Text (RefItem r) w h h' to is again has = absurd has
shown_by_kind v v' es Text (IntItem i) w h h' to is again has = number_shown v v' Text (IntItem i) w has (again Text has) refl
shown_by_kind v v' es Text (LongItem i) w h h' to is again has = absurd has

pub stored_shown : (v v' : View) (es : List Entry) (kind : Option Kind) (item : Item) (w : ℕ) → Lies v es → Lies v' es
    → IsItem es item → IsWordOf es item w → ((k : Kind) → IsNumberOf k item → item_in (Some k) w ≡ item)
    → IsOfKindIn kind (item_value (number_in v) item)
    → slot_value kind (value_of v' (is_reference kind) w) ≡ item_value (number_in v) item
stored_shown v v' es None item w h h' to is again of = absurd of
stored_shown v v' es (Some kind) item w h h' to is again of =
    shown_by_kind v v' es kind item w h h' to is again (item_kind (number_in v) kind item of)

-- where a reference may stand, one stands
kind_ref : (kind : Option Kind) → is_reference kind ≡ true → kind ≡ Some L
kind_ref None e = cc
kind_ref (Some Z) e = cc
kind_ref (Some B) e = cc
kind_ref (Some C) e = cc
kind_ref (Some S) e = cc
kind_ref (Some I) e = cc
kind_ref (Some J) e = cc
kind_ref (Some L) e = refl
kind_ref (Some Text) e = cc

ref_item : (number : Numbers) (item : Item) → HasItemKind L item → (r : Ref) × (item ≡ RefItem r)
ref_item number (IntItem i) has = absurd has
ref_item number (LongItem i) has = absurd has
ref_item number (RefItem r) has = (r, refl)

pub item_ref : (number : Numbers) (kind : Option Kind) (item : Item) → is_reference kind ≡ true
    → IsOfKindIn kind (item_value number item) → (r : Ref) × (item ≡ RefItem r)
item_ref number kind item ref of =
    ref_item number item (item_kind number L item
    (subst (λ k. IsOfKindIn k (item_value number item)) (kind_ref kind ref) of))

-- ---- words of references

-- what is kept of a reference that isn't null
pub ref_word_of : (v : View) (es : List Entry) (r : Ref) (w : ℕ) → Lies v es → IsItem es (RefItem r)
    → ((m : ℕ) → m < length es → Names (entry es m) (reference_word r) → w ≡ current_word (entry es m))
    → (r ≡ NoRef → ⊥) → IsWordOf es (RefItem r) w
ref_word_of v es NoRef w h to is not = absurd (not refl)
ref_word_of v es (Persistent line) w h to is not = is
ref_word_of v es (Volatile at) w h to is not = is
