-- What every step is given holds of the first heap, with what a world has first beside it.
use Rattle.std.proofs.Common.{◌≡◌, ℕ, zero, suc, ◌+◌, ◌-◌, ◌<◌, ◌≤◌, ◌^◌, true, false, List, [], ◌∷◌, map, length, replicate}
use Rattle.std.proofs.Common.{slice_index_or, Option, Some, None, refl, ap, ◌∙◌, sym, subst, arith, length-append}
use Rattle.std.specs.Prelude.{All, Contains, sum_by}
use Rattle.std.specs.List.{AllByRecursion}
use Rattle.std.proofs.lemmas.List.{length-map, length-replicate}
use Rattle.std.proofs.lemmas.List.Sums.{sum_by-cons}
use Rattle.std.proofs.lemmas.List.Elements.{All-nil, All-cons, All-weaker}
use Rattle.std.proofs.lemmas.Slice.Zip.{AllZip-long}
use Rattle.ap_base.specs.declared.kind.Kind.{Kind}
use Rattle.monitors.specs.declared.monitor.Monitor.{Monitor}
use Rattle.run_history.specs.declared.plain.Progress.{Progress}
use Rattle.run_history.specs.declared.plain.Progress.TheVariants.{Untouched, Finished}
use Rattle.graph_model.specs.declared.types.Value.{Value}
use Rattle.graph_model.specs.declared.types.Obj.{Obj}
use Rattle.graph_model.specs.declared.types.Field.{Field}
use Rattle.graph_model.specs.declared.types.Shape.{Shape}
use Rattle.graph_model.specs.Heaps.{no_shape}
use Rattle.plain_model.specs.Classes.{ClassFacts, no_class}
use Rattle.plain_model.specs.Facts.{SetFacts, StaticFacts, classes_of, class_at}
use Rattle.plain_model.specs.Kinds.{AreOf, IsOf}
use Rattle.plain_model.specs.Consistent.{IsConsistent}
use Rattle.plain_model.specs.First.{IsOpening, first_heap, first_objects, first_progress, static_value}
use Rattle.plain_model.specs.Laws.{HasItsSlots}
use Rattle.plain_model.specs.Limits.{words_of}
use Rattle.plain_model.specs.Typed.{IsTyped, IsOfItsClass}
use Rattle.plain_model.specs.TypeLaws.{IsOfSet}
use Rattle.plain_model.proofs.Consistent.{counted}
use Rattle.plain_model.proofs.Typing.{first_heap_is_typed}
use Rattle.shared_objects.specs.declared.rest.Rest.{Rest}
use Rattle.shared_objects.specs.declared.threads.ThreadState.{ThreadState}
use Rattle.shared_objects.specs.Shown.{Shown}
use Rattle.shared_objects.specs.Threads.{new_state}
use Rattle.shared_objects.specs.Worlds.{IsHeldKey}
use Rattle.step_forms.specs.Follows.{Agrees}
use Rattle.one_space.specs.Beside.{IsFirstRest}
use Rattle.one_space.specs.First.{ShowsFirst, no_graph}

objects_below : (os : List Obj) → length os ≤ sum_by words_of os
objects_below [] = omega arith
objects_below (o ∷ os) = omega (arith, sum_by-cons words_of o os, objects_below os)

not_both : (s : StaticFacts) → s.is_root ≡ false → s.is_root ≡ true → Contains {X = List ℕ} [] s.name
not_both s plain root = absurd (let both : false ≡ true = sym plain ∙ root in cc)

no_nodes : (set : SetFacts) → All (λ (s : StaticFacts). s.is_root ≡ false) set.statics
    → length (first_objects set no_graph) < 2 ^ 32
    → IsOpening set no_graph
no_nodes set plain few = record {
  shapes = λ k d below. absurd (omega (arith, below));
  agree = λ k d below. absurd (omega (arith, below));
  values = λ k d below. absurd (omega (arith, below));
  has_roots = All-weaker (λ (s : StaticFacts). s.is_root ≡ false)
      (λ (s : StaticFacts). s.is_root ≡ true → Contains {X = List ℕ} [] s.name) not_both set.statics plain;
  names_differ = λ i j d less below. absurd (omega (arith, below));
  references = λ k d below. absurd (omega (arith, below));
  in_roots = λ k d below. absurd (omega (arith, below));
  in_nodes = λ k d below. absurd (omega (arith, below));
  few = few;
}

filled : (element : Option Kind) (fields : List Field) (values : List Value) → AreOf element fields values
    → element ≡ None → length values ≡ length fields
filled None fields values fills none = AllZip-long (λ (f : Field) value. IsOf f.kind value) fields values
    fills
filled (Some kind) fields values fills none = absurd (let no : ◌≡◌ {A = Option Kind} (Some kind) None = none in
    cc)

shape_here : (classes : List ClassFacts) (n : ℕ) → slice_index_or (map (λ (c : ClassFacts). c.shape) classes)
    n no_shape ≡ (slice_index_or classes n no_class).shape
shape_here [] n = refl
shape_here (c ∷ cs) zero = refl
shape_here (c ∷ cs) (suc n) = shape_here cs n

module _ (set : SetFacts) (consistent : IsConsistent set) (opening : IsOpening set no_graph) where
  object_slots : (o : Obj) → IsOfItsClass set o → HasItsSlots (first_heap set no_graph) o
  unfolding first_heap
  object_slots o is none =
      let same = shape_here (classes_of set) o.shape in
      filled (class_at set o.shape).shape.element (class_at set o.shape).shape.fields o.values is
      (sym (ap (λ (s : Shape). s.element) same) ∙ none)
      ∙ ap (λ (s : Shape). length s.fields) (sym same)

  first_is_of_set : IsOfSet set (first_heap set no_graph)
  unfolding first_heap
  first_is_of_set = record {
    shapes = refl;
    statics = omega (
      arith,
      length-append (map (static_value set no_graph) set.statics) [],
      length-map
          set.statics (static_value set no_graph),
    );
    slots = All-weaker (IsOfItsClass set) (HasItsSlots (first_heap set no_graph)) object_slots
        (first_heap set no_graph).objects
        (first_heap_is_typed set no_graph consistent opening).objects;
  }

  progress_counted : length (first_progress set no_graph) ≡ length (classes_of set)
  progress_counted = omega (
    arith,
    length-append (replicate (length set.program) Untouched) (replicate (28 + length set.arrays) Finished),
    length-replicate (length set.program) Untouched,
    length-replicate (28 + length set.arrays) Finished,
    counted set,
  )

few_objects : (set : SetFacts) (words : ℕ) (shown : Shown) → ShowsFirst set words shown → words < 2 ^ 32
    → length (first_objects set no_graph) < 2 ^ 32
unfolding first_heap
few_objects set words shown first few = let within = first.within in
    omega (arith, within, few, objects_below (first_objects set no_graph))

pub first_agrees : (set : SetFacts) (words : ℕ) (shown : Shown) (rest : Rest) → IsConsistent set
    → All (λ (s : StaticFacts). s.is_root ≡ false) set.statics → words < 2 ^ 32 → ShowsFirst set words shown
    → IsFirstRest set rest
    → Agrees set shown rest
first_agrees set words shown rest consistent plain few first beside =
    let opening = no_nodes set plain (few_objects set words shown first few) in
    record {
      heap = record {
        consistent = consistent;
        of_set = subst (IsOfSet set) (sym first.heap) (first_is_of_set set consistent opening);
        typed = subst (IsTyped set) (sym first.heap) (first_heap_is_typed set no_graph consistent opening);
      };
      classes = ap (λ (ps : List Progress). length ps) beside.classes
          ∙ progress_counted set consistent opening;
      monitors = subst (λ (ms : List Monitor). AllByRecursion (λ (m : Monitor). IsHeldKey shown m.key) ms)
          (sym beside.monitors) tt;
      counts = record {
        monitors = subst (All (λ (m : Monitor). m.count < 2 ^ 64 - 1)) (sym beside.monitors)
            (All-nil (λ (m : Monitor). m.count < 2 ^ 64 - 1));
        threads = subst (All (λ (t : ThreadState). t.depth < 2 ^ 64 - 1)) (sym beside.threads)
            (All-cons (λ (t : ThreadState). t.depth < 2 ^ 64 - 1) (new_state None) [] (omega arith)
            (All-nil (λ (t : ThreadState). t.depth < 2 ^ 64 - 1)));
      };
    }
