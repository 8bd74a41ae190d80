-- Every line is resident, so that what a request reads and stores to is at hand.
use Rattle.std.proofs.Common.{◌≡◌, ◌⊎◌, inl, inr, ℕ, ℤ, ◌+◌, ◌<◌, ◌≤◌, List, length, refl, sym, ap, subst, arith}
use Rattle.std.specs.Prelude.{[], slice_index_or}
use Rattle.std.proofs.lemmas.List.{get_or_past, length-map}
use Rattle.ap_base.specs.declared.reference.Ref.{Ref}
use Rattle.ap_base.specs.declared.reference.Item.{Item}
use Rattle.run_types.specs.declared.key.Key.TheVariants as key
use Rattle.run_types.specs.declared.resolved.FieldAt.{FieldAt}
use Rattle.graph_model.specs.declared.types.Value.{Value}
use Rattle.image_layout.specs.Places.{slot_line}
use Rattle.line_memory.proofs.Residence.{every_line_is_resident}
use Rattle.natives.specs.declared.requests.Request.{Request}
use Rattle.natives.specs.declared.requests.Request.TheVariants as ask
use Rattle.plain_model.specs.Duties.{IsFit, IsStaticField}
use Rattle.plain_model.specs.Facts.{SetFacts}
use Rattle.plain_model.proofs.SetHeaps.{static_there}
use Rattle.shared_objects.specs.declared.rest.Rest.{Rest}
use Rattle.shared_objects.specs.Plain.{plain_request}
use Rattle.shared_objects.specs.Shown.{IfNumber, object_in, static_in}
use Rattle.shared_objects.specs.Worlds.{world_of}
use Rattle.step_forms.specs.Needs.{ElementIsHere, HeadIsHere, IsHere, ReferredElementIsHere, ReferredIsHere, SlotIsHere}
use Rattle.step_forms.specs.Needs.{ValueIsHere}
use Rattle.twin_forms.specs.Sights.{view_of}
use Rattle.twin_forms.specs.Table.{Entry, entry, line_of, no_entry}
use Rattle.twin_forms.proofs.Led.{below_or_not}
use Rattle.twin_heap.specs.Here.{IsHere as IsHereOf}
use Rattle.two_spaces.specs.declared.spaces.Static.{Static}
use Rattle.two_spaces.specs.declared.spaces.Static.TheVariants.{Beside, Root}
use Rattle.two_spaces.specs.Seen.{Spaces, shown_of, static_value}
use Rattle.two_spaces.specs.Whole.{HasResident, IsHereIn, IsStatic, IsStaticHereIn, Stands, no_static}
use Rattle.two_spaces.proofs.Finding.{at_number, slot_there}

module _ (s : Spaces) (es : List Entry) (h : Stands s es) (long : 33 ≤ s.twin.memory.size) where
  within : (n : ℕ) → 0 < (entry es n).stage → n < length es
  within n placed = elim (below_or_not n (length es)) [
    | inl lt ↦ lt
    | inr le ↦
        (let none : (entry es n).stage ≡ 0 = ap (λ (e : Entry). e.stage) (get_or_past es n no_entry le) in
        absurd (omega (arith, placed, none)))
  ]

  line_there : (n i : ℕ) → n < length es → 0 < (entry es n).stage → (i < (entry es n).slots) ⊎ (i ≡ 0)
      → (entry es n).line + line_of i < s.twin.memory.size
  line_there n i ln placed (inl lt) = let c = h.lies.table.copy_in n ln placed in omega (arith, c, lt)
  line_there n i ln placed (inr z) = let c = h.lies.table.copy_in n ln placed in omega (arith, c, z)

  at_slot : (n i : ℕ) → (i < (entry es n).slots) ⊎ (i ≡ 0) → IsHereIn s n i
  at_slot n i some = (
    es,
    h,
    λ placed.
        (let ln = within n placed in
        let first : (entry es n).line < s.twin.memory.size =
        (let c = h.lies.table.copy_in n ln placed in omega (arith, c)) in (
          every_line_is_resident s.twin.memory (entry es n).line first,
          every_line_is_resident s.twin.memory ((entry es n).line + line_of i) (line_there n i ln placed some),
        )),
  )

  pub head_here : (n : ℕ) → IsHereOf s.twin.memory (entry es n) 0
  unfolding at_slot
  head_here n = (at_slot n 0 (inr refl)).2

  pub slot_here : (n i : ℕ) → i < (entry es n).slots → IsHereOf s.twin.memory (entry es n) i
  unfolding at_slot
  slot_here n i lt = (at_slot n i (inl lt)).2

  head : (r : Ref) → HeadIsHere (IsHereIn s) (shown_of s) r
  head r n is = at_slot n 0 (inr refl)

  value : (v : Value) → ValueIsHere (IsHereIn s) v
  value v n is = at_slot n 0 (inr refl)

  slot : (r : Ref) (i : ℕ) → SlotIsHere (IsHereIn s) (shown_of s) r i
  slot r i n is lt = at_slot n i (inl (slot_there s r i es n (at_number s r es n h is)
      (subst (λ o. IfNumber o (λ m. i < length (object_in (shown_of s) m).values)) (sym is) lt)))

  referred : (r : Ref) (i : ℕ) → ReferredIsHere (IsHereIn s) (shown_of s) r i
  referred r i n is m same = at_slot m 0 (inr refl)

  element : (r : Ref) (index : ℤ) → ElementIsHere (IsHereIn s) (shown_of s) r index
  element r index i is = slot r i

  referred_element : (r : Ref) (index : ℤ) → ReferredElementIsHere (IsHereIn s) (shown_of s) r index
  referred_element r index i is = referred r i

  static_line : (st : Static) → IsStatic s es st → HasResident s st
  static_line (Beside item) is = tt
  static_line (Root place) is =
      let lt = is.0 in every_line_is_resident s.twin.memory (slot_line place) (omega (arith, lt, long))

  static : (f : ℕ) → f < length s.statics → IsStaticHereIn s f
  static f lf = (es, h, static_line (slice_index_or s.statics f no_static) (h.statics f lf))

  module _ (set : SetFacts) (rest : Rest) (t : ℕ) (more : length set.statics < length (shown_of s).statics) where
    field_here : (field : FieldAt) → IsStaticField set field → IsStaticHereIn s field.at
    field_here field is =
        let most = static_there set field is in
        let same : length (shown_of s).statics ≡ length s.statics = length-map s.statics (static_value (view_of s.twin)) in
        static field.at (omega (arith, most, more, same))

    pub all_here : (request : Request Ref Item)
        → IsFit set (world_of [] (shown_of s) rest) t (plain_request (shown_of s).number request)
        → IsHere (IsHereIn s) (IsStaticHereIn s) (shown_of s) request
    all_here (ask.GetStatic from field) fit = (field_here field fit, value (static_in (shown_of s) field.at))
    all_here (ask.PutStatic from field v) fit = (field_here field fit.0, λ n is. at_slot n 0 (inr refl))
    all_here (ask.GetField from holder field) fit = (head holder, slot holder field.at, referred holder field.at)
    all_here (ask.PutField from holder field v) fit =
        (head holder, slot holder field.at, λ n is. at_slot n 0 (inr refl))
    all_here (ask.GetElement from array index kind) fit =
        (head array, element array index, referred_element array index)
    all_here (ask.PutElement from array index kind v) fit =
        (head array, element array index, λ n is. at_slot n 0 (inr refl))
    all_here (ask.Length from array) fit = head array
    all_here (ask.ClassOf from object class) fit = head object
    all_here (ask.Cast from object target) fit = head object
    all_here (ask.IsA from object target) fit = head object
    all_here (ask.Same from left right) fit = (head left, head right)
    all_here (ask.Enter from (key.Object r)) fit = head r
    all_here (ask.Enter from (key.Class n)) fit = tt
    all_here (ask.Exit from (key.Object r)) fit = head r
    all_here (ask.Exit from (key.Class n)) fit = tt
    all_here (ask.Start from thread) fit = head thread
    all_here (ask.Join from thread) fit = head thread
    all_here ask.Pause fit = tt
    all_here (ask.Broken f) fit = tt
    all_here (ask.New from class) fit = tt
    all_here (ask.NewArray from shape count) fit = tt
    all_here (ask.NewText from count) fit = tt
    all_here (ask.Init from class) fit = tt
    all_here (ask.InitDone from class) fit = tt
    all_here (ask.Print from piece) fit = tt
    all_here (ask.Raise from class) fit = tt
    all_here (ask.Begin from) fit = tt
    all_here (ask.End from) fit = tt
    all_here (ask.Leave uncaught) fit = tt
