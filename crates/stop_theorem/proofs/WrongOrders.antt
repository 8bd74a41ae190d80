-- What wrong orders leave isn't allowed, by computation.
use Rattle.std.proofs.Common.{◌≡◌, ℕ, pos, Bool, true, false, List, [], ◌∷◌, map, refl, ap, sym, ◌∙◌, ◌⊎◌, inl, inr, ⊎_elim}
use Rattle.std.proofs.Common.{subst, eq-eqb, arith, if◌then◌else◌}
use Rattle.std.specs.Prelude.{Result, Ok, Err}
use Rattle.graph_model.specs.declared.types.Value.{Value}
use Rattle.graph_model.specs.declared.types.Value.TheVariants.{Int, Null, Obj as Object}
use Rattle.graph_model.specs.declared.types.Heap.{Heap}
use Rattle.graph_model.specs.declared.types.Node.{Node}
use Rattle.graph_model.specs.declared.types.Graph.{Graph}
use Rattle.graph_model.specs.Canon.{canon_of, found_from}
use Rattle.graph_model.specs.declared.types.Shape.{Shape}
use Rattle.ap_base.specs.declared.kind.Kind.{Kind}
use Rattle.ap_base.specs.declared.kind.Kind.TheVariants.{L}
use Rattle.line_memory.specs.Memory.{Memory, shown}
use Rattle.image_meaning.specs.Objects.{kind_of, shape_of, object_slot}
use Rattle.image_meaning.specs.Corresponds.{Holds}
use Rattle.stop_theorem.specs.Layouts.{Layout, Lies}
use Rattle.stop_theorem.specs.Stops.{IsAllowedImage}
use Rattle.stop_theorem.specs.StoreEvents.{Joins, joined}
use Rattle.stop_theorem.proofs.Running.{allowed_stops}
use Rattle.stop_theorem.proofs.Images.{of_an_image}
use Rattle.image_meaning.specs.Checks.{Bad}
use Rattle.image_meaning.specs.Meaning.{meaning}
use Rattle.image_meaning.specs.Laws.{told_by}
use Rattle.image_meaning.proofs.Opened.{stands}
use Rattle.run_history.specs.declared.act.Op.{Op}
use Rattle.run_history.specs.declared.act.Op.TheVariants as op
use Rattle.run_history.specs.Recorded.{Recorded}
use Rattle.run_history.specs.Worlds.{heap_after}
use Rattle.run_history.specs.Knowing.{known_after, known_after_op}
use Rattle.run_history.specs.Laws.{graph_left}
use Rattle.run_history.proofs.KeptLists.{left_by}
use Rattle.stop_theorem.specs.WrongOrders.{nodes_known, MayNotBeLeft, RunsNowhere, IsOfAnImage, IsRefused}
use Rattle.stop_theorem.specs.WrongOrders.{WrongOrdersAreRefused, root_acts, does, store_9, store_itself, object_0_with}
use Rattle.stop_theorem.specs.WrongOrders.{object_1_with}
use Rattle.ap_base.specs.declared.place.Place.TheVariants.{Static, Slot}

or_graph : Graph → Result Graph Bad → Graph
or_graph g (Ok h) = h
or_graph g (Err bad) = g

same_ok : (g h : Graph) (r : Result Graph Bad) → r ≡ Ok g → r ≡ Ok h → g ≡ h
unfolding or_graph
same_ok g h r a b = ap (or_graph g) (sym a ∙ b)

-- no kept list gives the heap's graph
never : (acts : List Recorded) (lost : Heap)
    → ((regions singles : ℕ → Bool) → canon_of lost ≡ graph_left nodes_known.world.heap
    (known_after nodes_known acts).marks regions singles → ⊥)
    → MayNotBeLeft acts lost
never acts lost none lies size c directory kept opens corresponds allowed =
    let told = stands (told_by lies) size c directory lost opens corresponds in
    let same : canon_of lost ≡ allowed.graph = same_ok (canon_of lost) allowed.graph
    (meaning size c) told allowed.stands in
    let left = left_by nodes_known.world.heap
    (known_after nodes_known acts).marks allowed.graph allowed.allowed in
    none left.0 left.1 (same ∙ left.2)

-- and no run comes to it
nowhere : (acts : List Recorded) (lost : Heap) → MayNotBeLeft acts lost → RunsNowhere acts lost
nowhere acts lost not lies size begin start s c directory kept same left opens corresponds runs =
    let all = allowed_stops nodes_known size kept begin start s runs in
    not lies size c directory kept opens corresponds
    (subst (λ done. IsAllowedImage nodes_known size kept done c) same (all.now c left))

refused : (acts : List Recorded) (lost : Heap) → IsOfAnImage lost
    → ((regions singles : ℕ → Bool) → canon_of lost ≡ graph_left nodes_known.world.heap
    (known_after nodes_known acts).marks regions singles → ⊥)
    → IsRefused acts lost
refused acts lost image none = record {
  of_an_image = image;
  not_left = never acts lost none;
  runs_nowhere = nowhere acts lost (never acts lost none);
}

-- what the graph's nodes hold
values_in : Graph → List (List Value)
values_in g = map (λ (n : Node). n.values) g.nodes

abbrev first : Heap
first = nodes_known.world.heap

-- the graph of the first heap after these operations
abbrev after : List Op → Graph
after ops = canon_of (heap_after first ops)

-- ---- the root

abbrev set_root : List Op
set_root = op.Stored (Static 0) (Object 1) ∷ []

at_first : values_in (after []) ≡ (Int (pos 5) ∷ Null ∷ []) ∷ []
unfolding values_in canon_of found_from
at_first = refl

with_root : values_in (after set_root) ≡ (Int (pos 6) ∷ Object 1 ∷ []) ∷ (Int (pos 7) ∷ Null ∷ []) ∷ []
unfolding values_in canon_of found_from
with_root = refl

no_copy : values_in (canon_of (object_1_with (Int (pos 0) ∷ Object 2 ∷ []) (Int (pos 7) ∷ Null ∷ [])))
    ≡ (Int (pos 0) ∷ Object 1 ∷ []) ∷ (Int (pos 7) ∷ Null ∷ []) ∷ []
unfolding values_in canon_of found_from
no_copy = refl

no_group : values_in (canon_of (object_1_with (Int (pos 6) ∷ Object 2 ∷ []) (Int (pos 0) ∷ Null ∷ [])))
    ≡ (Int (pos 6) ∷ Object 1 ∷ []) ∷ (Int (pos 0) ∷ Null ∷ []) ∷ []
unfolding values_in canon_of found_from
no_group = refl

-- either list of operations leaves something else
either_root : (b : Bool) (g : Graph) → g ≡ after (if b then set_root else [])
    → (values_in g ≡ values_in (after [])) ⊎ (values_in g ≡ values_in (after set_root))
either_root true g e = inr (ap values_in e)
either_root false g e = inl (ap values_in e)

copy_is_there : (b : Bool) → canon_of (object_1_with (Int (pos 0) ∷ Object 2 ∷ [])
    (Int (pos 7) ∷ Null ∷ [])) ≡ after (if b then set_root else []) → ⊥
copy_is_there b e = ⊎_elim
    (λ (old : values_in (canon_of (object_1_with (Int (pos 0) ∷ Object 2 ∷ [])
    (Int (pos 7) ∷ Null ∷ []))) ≡ values_in (after [])).
    let no = sym no_copy ∙ old ∙ at_first in cc)
    (λ (new : values_in (canon_of (object_1_with (Int (pos 0) ∷ Object 2 ∷ [])
    (Int (pos 7) ∷ Null ∷ []))) ≡ values_in (after set_root)).
    let no = sym no_copy ∙ new ∙ with_root in cc)
    (either_root b (canon_of (object_1_with (Int (pos 0) ∷ Object 2 ∷ []) (Int (pos 7) ∷ Null ∷ []))) e)

group_is_there : (b : Bool) → canon_of (object_1_with (Int (pos 6) ∷ Object 2 ∷ [])
    (Int (pos 0) ∷ Null ∷ [])) ≡ after (if b then set_root else []) → ⊥
group_is_there b e = ⊎_elim
    (λ (old : values_in (canon_of (object_1_with (Int (pos 6) ∷ Object 2 ∷ [])
    (Int (pos 0) ∷ Null ∷ []))) ≡ values_in (after [])).
    let no = sym no_group ∙ old ∙ at_first in cc)
    (λ (new : values_in (canon_of (object_1_with (Int (pos 6) ∷ Object 2 ∷ [])
    (Int (pos 0) ∷ Null ∷ []))) ≡ values_in (after set_root)).
    let no = sym no_group ∙ new ∙ with_root in cc)
    (either_root b (canon_of (object_1_with (Int (pos 6) ∷ Object 2 ∷ []) (Int (pos 0) ∷ Null ∷ []))) e)

-- ---- object 0

abbrev set_9 : Op
set_9 = op.Stored (Slot 0 0) (Int (pos 9))

abbrev set_itself : Op
set_itself = op.Stored (Slot 0 1) (Object 0)

-- what the graph of object 0 holds
holds_zero : values_in (canon_of (object_0_with (Int (pos 0) ∷ Null ∷ []))) ≡ (Int (pos 0) ∷ Null ∷ []) ∷ []
unfolding values_in canon_of found_from
holds_zero = refl

holds_9 : values_in (canon_of (object_0_with (Int (pos 9) ∷ Null ∷ []))) ≡ (Int (pos 9) ∷ Null ∷ []) ∷ []
unfolding values_in canon_of found_from
holds_9 = refl

holds_itself : values_in (canon_of (object_0_with (Int (pos 5) ∷ Object 0 ∷ []))) ≡ (Int
    (pos 5) ∷ Object 0 ∷ []) ∷ []
unfolding values_in canon_of found_from
holds_itself = refl

both_set : values_in (after (set_9 ∷ set_itself ∷ [])) ≡ (Int (pos 9) ∷ Object 0 ∷ []) ∷ []
unfolding values_in canon_of found_from
both_set = refl

set_alone : values_in (after (set_9 ∷ [])) ≡ (Int (pos 9) ∷ Null ∷ []) ∷ []
unfolding values_in canon_of found_from
set_alone = refl

-- an open region leaves nothing
zero_is_never : canon_of (object_0_with (Int (pos 0) ∷ Null ∷ [])) ≡ after [] → ⊥
zero_is_never e = let no = sym holds_zero ∙ ap values_in e ∙ at_first in cc

nine_is_never : canon_of (object_0_with (Int (pos 9) ∷ Null ∷ [])) ≡ after [] → ⊥
nine_is_never e = let no = sym holds_9 ∙ ap values_in e ∙ at_first in cc

-- a closing one leaves both stores or none
one_is_never : (b : Bool) → canon_of (object_0_with (Int (pos 9) ∷ Null ∷ [])) ≡ after
    (if b then set_9 ∷ set_itself ∷ [] else []) → ⊥
one_is_never true e = let no = sym holds_9 ∙ ap values_in e ∙ both_set in cc
one_is_never false e = nine_is_never e

-- the first store was fenced
second_is_never : (b : Bool) → canon_of (object_0_with (Int (pos 5) ∷ Object 0 ∷ [])) ≡ after
    (set_9 ∷ (if b then set_itself ∷ [] else [])) → ⊥
second_is_never true e = let no = sym holds_itself ∙ ap values_in e ∙ both_set in cc
second_is_never false e = let no = sym holds_itself ∙ ap values_in e ∙ set_alone in cc

-- Object 1 refers to object 2, which its act leaves out.
sealed_alone : (lay new : Layout) (m : Memory) (t at : ℕ)
    → Joins (known_after nodes_known (does (op.Asked (Static 0) (Object 1)) ∷ [])) lay new m t at (1 ∷ []) → ⊥
unfolding known_after_op
sealed_alone lay new m t at joins =
    let line = new.line_of 1 in
    let object = joins.shows.objects line 1 (eq-eqb line line refl) in
    let kind : kind_of (shape_of new.directory.shapes (shown m) line) 1 ≡ L = ap
    (λ (shape : Shape). kind_of shape 1) object.shape in
    let holds = subst (λ (k : Kind). Holds (Lies new
    (joined (known_after nodes_known (does (op.Asked (Static 0) (Object 1)) ∷ [])) t at (1 ∷ []))) k
    (object_slot (shown m) line 1) (Object 2)) kind (object.slots 1 (omega arith) refl) in
    let no = holds.2 in cc

pub wrong_orders : WrongOrdersAreRefused
unfolding known_after_op
wrong_orders = record {
  root_before_copy_is_fenced = refused (root_acts (1 ∷ 2 ∷ []))
      (object_1_with (Int (pos 0) ∷ Object 2 ∷ []) (Int (pos 7) ∷ Null ∷ []))
      (of_an_image (Object 1) 5 0 7 Null (Object 2) Null refl (refl, refl) (refl, refl)
      (refl, refl) refl refl refl)
      (λ regions singles e. copy_is_there (singles 0) e);
  seal_without_group = refused (root_acts (1 ∷ []))
      (object_1_with (Int (pos 6) ∷ Object 2 ∷ []) (Int (pos 0) ∷ Null ∷ []))
      (of_an_image (Object 1) 5 6 0 Null (Object 2) Null refl (refl, refl) (refl, refl)
      (refl, refl) refl refl refl)
      (λ regions singles e. group_is_there (singles 0) e);
  no_seal_without_group = sealed_alone;
  count_before_entry_is_fenced = refused (does op.Begin ∷ does (op.Guarded (Slot 0 0)) ∷ store_9 ∷ [])
      (object_0_with (Int (pos 0) ∷ Null ∷ []))
      (of_an_image (Object 0) 0 6 7 Null (Object 2) Null refl (refl, refl) (refl, refl)
      (refl, refl) refl refl refl)
      (λ regions singles e. zero_is_never e);
  log_cleared_before_region_is_fenced =
      refused (does op.Begin ∷ does (op.Guarded (Slot 0 0)) ∷ store_9 ∷ does
      (op.Guarded (Slot 0 1)) ∷ store_itself ∷ does op.Closing ∷ [])
      (object_0_with (Int (pos 9) ∷ Null ∷ []))
      (of_an_image (Object 0) 9 6 7 Null (Object 2) Null refl (refl, refl) (refl, refl)
      (refl, refl) refl refl refl)
      (λ regions singles e. closing (regions 0) e);
  inner_end_commits = refused (does op.Begin ∷ does op.Begin ∷ does
      (op.Guarded (Slot 0 0)) ∷ store_9 ∷ does op.End ∷ [])
      (object_0_with (Int (pos 9) ∷ Null ∷ []))
      (of_an_image (Object 0) 9 6 7 Null (Object 2) Null refl (refl, refl) (refl, refl)
      (refl, refl) refl refl refl)
      (λ regions singles e. nine_is_never e);
  store_without_fence = refused (store_9 ∷ does op.Fenced ∷ store_itself ∷ [])
      (object_0_with (Int (pos 5) ∷ Object 0 ∷ []))
      (of_an_image (Object 0) 5 6 7 (Object 0) (Object 2) Null refl (refl, refl) (refl, refl)
      (refl, refl) refl refl refl)
      (λ regions singles e. second_is_never (singles 0) e);
}
  where
    closing : (b : Bool) → canon_of (object_0_with (Int (pos 9) ∷ Null ∷ []))
        ≡ canon_of (heap_after first (op.Begin ∷ op.Guarded
        (Slot 0 0) ∷ (if b then set_9 ∷ op.Guarded
        (Slot 0 1) ∷ (if b then set_itself ∷ op.Closing ∷ [] else op.Closing ∷ []) else op.Guarded
        (Slot 0 1) ∷ (if b then set_itself ∷ op.Closing ∷ [] else op.Closing ∷ [])))) → ⊥
    closing true e = one_is_never true e
    closing false e = one_is_never false e
