-- Every line is resident, so that what a request reads and stores to is at hand.
use Rattle.std.proofs.Common.{◌≡◌, ◌⊎◌, inl, inr, ℕ, ℤ, ◌+◌, ◌<◌, ◌≤◌, List, length, refl, ap, subst, sym, arith}
use Rattle.std.specs.Prelude.{[], slice_index_or}
use Rattle.std.proofs.lemmas.List.{get_or_past, length-map}
use Rattle.ap_base.specs.declared.reference.Ref.{Ref}
use Rattle.ap_base.specs.declared.reference.Item.{Item}
use Rattle.run_types.specs.declared.key.Key.TheVariants as key
use Rattle.run_types.specs.declared.resolved.FieldAt.{FieldAt}
use Rattle.graph_model.specs.declared.types.Value.{Value}
use Rattle.image_layout.specs.Places.{slot_line}
use Rattle.line_memory.proofs.Residence.{every_line_is_resident}
use Rattle.natives.specs.declared.requests.Request.{Request}
use Rattle.natives.specs.declared.requests.Request.TheVariants as ask
use Rattle.run_history.specs.Worlds.{World}
use Rattle.plain_model.specs.Duties.{IsFit, IsStaticField}
use Rattle.plain_model.specs.Facts.{SetFacts}
use Rattle.plain_model.proofs.SetHeaps.{static_there}
use Rattle.shared_objects.specs.declared.rest.Rest.{Rest}
use Rattle.shared_objects.specs.Plain.{plain_request}
use Rattle.shared_objects.specs.Shown.{IfNumber, object_in, static_in}
use Rattle.shared_objects.specs.Worlds.{world_of}
use Rattle.step_forms.specs.Follows.{Agrees}
use Rattle.step_forms.specs.Needs.{ElementIsHere, HeadIsHere, IsAskable, IsHere, ReferredElementIsHere, ReferredIsHere}
use Rattle.step_forms.specs.Needs.{SlotIsHere, ValueIsHere}
use Rattle.twin_forms.specs.Sights.{view_of}
use Rattle.twin_forms.specs.Table.{Entry, entry, line_of, no_entry}
use Rattle.twin_forms.proofs.Led.{below_or_not}
use Rattle.two_spaces.specs.declared.spaces.Static.{Static}
use Rattle.two_spaces.specs.declared.spaces.Static.TheVariants.{Beside, Root}
use Rattle.two_spaces.specs.Seen.{Spaces, shown_of, static_value}
use Rattle.two_spaces.specs.Whole.{HasResident, IsHereIn, IsStatic, IsStaticHereIn, IsWhole, Stands, no_static}
use Rattle.two_spaces.proofs.Finding.{at_number, slot_there}
use Rattle.store_barrier.specs.Passed.{Machine, memory_of, shown_in}
use Rattle.shared_heap.specs.Requests.{MayRequest}

module _ (s : Spaces) (es : List Entry) (h : Stands s es) where
  within : (n : ℕ) → 0 < (entry es n).stage → n < length es
  within n placed = elim (below_or_not n (length es)) [
    | inl lt ↦ lt
    | inr le ↦
        (let none : (entry es n).stage ≡ 0 = ap (λ (e : Entry). e.stage) (get_or_past es n no_entry le) in
        absurd (omega (arith, placed, none)))
  ]

  line_there : (n i : ℕ) → n < length es → 0 < (entry es n).stage → (i < (entry es n).slots) ⊎ (i ≡ 0)
      → (entry es n).line + line_of i < s.twin.memory.size
  line_there n i ln placed (inl lt) = let c = h.lies.table.copy_in n ln placed in omega (arith, c, lt)
  line_there n i ln placed (inr z) = let c = h.lies.table.copy_in n ln placed in omega (arith, c, z)

  at_slot : (n i : ℕ) → (i < (entry es n).slots) ⊎ (i ≡ 0) → IsHereIn s n i
  at_slot n i some = (
    es,
    h,
    λ placed.
        (let ln = within n placed in
        let first : (entry es n).line < s.twin.memory.size =
        (let c = h.lies.table.copy_in n ln placed in omega (arith, c)) in (
          every_line_is_resident s.twin.memory (entry es n).line first,
          every_line_is_resident s.twin.memory ((entry es n).line + line_of i)
              (line_there n i ln placed some),
        )),
  )

  head : (r : Ref) → HeadIsHere (IsHereIn s) (shown_of s) r
  head r n is = at_slot n 0 (inr refl)

  -- the head of the object to which a value refers
  pub value_here : (v : Value) → ValueIsHere (IsHereIn s) v
  value_here v n is = at_slot n 0 (inr refl)

  slot : (r : Ref) (i : ℕ) → SlotIsHere (IsHereIn s) (shown_of s) r i
  slot r i n is lt = at_slot n i (inl (slot_there s r i es n (at_number s r es n h is)
      (subst (λ o. IfNumber o (λ m. i < length (object_in (shown_of s) m).values)) (sym is) lt)))

  referred : (r : Ref) (i : ℕ) → ReferredIsHere (IsHereIn s) (shown_of s) r i
  referred r i n is m same = at_slot m 0 (inr refl)

  element : (r : Ref) (index : ℤ) → ElementIsHere (IsHereIn s) (shown_of s) r index
  element r index i is = slot r i

  referred_element : (r : Ref) (index : ℤ) → ReferredElementIsHere (IsHereIn s) (shown_of s) r index
  referred_element r index i is = referred r i

  module _ (long : 33 ≤ s.twin.memory.size) where
    static_line : (st : Static) → IsStatic s es st → HasResident s st
    static_line (Beside item) is = tt
    static_line (Root place) is =
        let lt = is.0 in every_line_is_resident s.twin.memory (slot_line place) (omega (arith, lt, long))

    static : (f : ℕ) → f < length s.statics → IsStaticHereIn s f
    static f lf = (es, h, static_line (slice_index_or s.statics f no_static) (h.statics f lf))

    module _ (set : SetFacts) (rest : Rest) (agrees : Agrees set (shown_of s) rest) where
      field_here : (field : FieldAt) → IsStaticField set field → IsStaticHereIn s field.at
      field_here field is =
          let most = static_there set field is in
          let more = agrees.heap.of_set.statics in
          let same : length (shown_of s).statics ≡ length s.statics =
          length-map s.statics (static_value (view_of s.twin)) in
          static field.at (omega (arith, most, more, same))

      fit_here : (world : World) (t : ℕ) (request : Request Ref Item)
          → IsFit set world t (plain_request (shown_of s).number request)
          → IsHere (IsHereIn s) (IsStaticHereIn s) (shown_of s) request
      fit_here w t (ask.GetStatic from field) fit =
          (field_here field fit, value_here (static_in (shown_of s) field.at))
      fit_here w t (ask.PutStatic from field v) fit = (field_here field fit.0, λ n is. at_slot n 0 (inr refl))
      fit_here w t (ask.GetField from holder field) fit =
          (head holder, slot holder field.at, referred holder field.at)
      fit_here w t (ask.PutField from holder field v) fit =
          (head holder, slot holder field.at, λ n is. at_slot n 0 (inr refl))
      fit_here w t (ask.GetElement from array index kind) fit =
          (head array, element array index, referred_element array index)
      fit_here w t (ask.PutElement from array index kind v) fit =
          (head array, element array index, λ n is. at_slot n 0 (inr refl))
      fit_here w t (ask.Length from array) fit = head array
      fit_here w t (ask.ClassOf from object class) fit = head object
      fit_here w t (ask.Cast from object target) fit = head object
      fit_here w t (ask.IsA from object target) fit = head object
      fit_here w t (ask.Same from left right) fit = (head left, head right)
      fit_here w t (ask.Enter from (key.Object r)) fit = head r
      fit_here w t (ask.Enter from (key.Class n)) fit = tt
      fit_here w t (ask.Exit from (key.Object r)) fit = head r
      fit_here w t (ask.Exit from (key.Class n)) fit = tt
      fit_here w t (ask.Start from thread) fit = head thread
      fit_here w t (ask.Join from thread) fit = head thread
      fit_here w t ask.Pause fit = tt
      fit_here w t (ask.Broken f) fit = tt
      fit_here w t (ask.New from class) fit = tt
      fit_here w t (ask.NewArray from shape count) fit = tt
      fit_here w t (ask.NewText from count) fit = tt
      fit_here w t (ask.Init from class) fit = tt
      fit_here w t (ask.InitDone from class) fit = tt
      fit_here w t (ask.Print from piece) fit = tt
      fit_here w t (ask.Raise from class) fit = tt
      fit_here w t (ask.Begin from) fit = tt
      fit_here w t (ask.End from) fit = tt
      fit_here w t (ask.Leave uncaught) fit = tt

-- A thread of a whole heap that may ask can ask.
pub is_askable : (set : SetFacts) (m : Machine) (t : ℕ) (request : Request Ref Item) → IsWhole m.spaces
    → 33 ≤ (memory_of m).size → Agrees set (shown_in m) m.rest → MayRequest set m t request
    → IsAskable set (IsHereIn m.spaces) (IsStaticHereIn m.spaces) (shown_in m) m.rest t request
is_askable set m t request whole long agrees may = record {
  thread = may.thread;
  fit = may.fit;
  known = may.known;
  here = fit_here m.spaces whole.0 whole.1 long set m.rest agrees (world_of [] (shown_in m) m.rest) t request
      may.fit;
}
