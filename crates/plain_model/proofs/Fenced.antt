-- Stores that are fenced, and values that are asked.
use Rattle.std.proofs.Common.{◌≡◌, true, false, [], ◌∷◌, refl, inl, inr, sym, subst, lit<}
use Rattle.std.specs.Prelude.{Option, Some, None}
use Rattle.ap_base.specs.declared.place.Place.TheVariants.{Slot}
use Rattle.graph_model.specs.declared.types.Value.TheVariants.{Obj as Object}
use Rattle.graph_model.specs.Reach.{here}
use Rattle.natives.specs.declared.requests.Request.TheVariants as ask
use Rattle.run_history.specs.declared.act.Op.{Op}
use Rattle.run_history.specs.declared.act.Op.TheVariants as op
use Rattle.run_history.specs.Knowing.{Pending, known_after_op}
use Rattle.graph_model.specs.Heaps.{has_number}
use Rattle.plain_model.specs.First.{first_world, first_heap}
use Rattle.plain_model.specs.Steps.{step}
use Rattle.plain_model.specs.Codes.{frames_after_op}
use Rattle.plain_model.specs.StepWorld.{here as at_main, content}
use Rattle.plain_model.specs.RunRows.{Do, RefuseToDo, by, joining, leaves, puts_amount, puts, fences, puts_worker, asks_worker}
use Rattle.plain_model.specs.RunRows.{puts_in_box, puts_target, StoresAreFenced, OnlyDurablePlacesAreAsked}
use Rattle.plain_model.proofs.RunParts.{◌▸◌, may, alone, ask_rule, join_rule}
use Rattle.plain_model.proofs.Started.{go_on, gone_on}

pub stores_fenced : Do (puts_amount 0 7 ∷ []) (puts_amount 1 8 ∷ [])
    (puts 0 0 7 ∷ puts 1 1 8 ∷ fences 0 ∷ fences 1 ∷ leaves 1 ∷ leaves 0 ∷ [])
unfolding first_world first_heap known_after_op frames_after_op step
stores_fenced = go_on (puts_amount 0 7 ∷ []) (puts_amount 1 8 ∷ [])
    (puts 0 0 7 ∷ puts 1 1 8 ∷ fences 0 ∷ fences 1 ∷ leaves 1 ∷ leaves 0 ∷ [])
    (may refl (alone refl refl refl) refl refl refl
    ▸ may refl (alone refl refl refl) refl refl refl
    ▸ may refl tt refl refl refl
    ▸ may refl tt refl refl refl
    ▸ may refl refl refl refl refl
    ▸ may refl refl refl refl refl
    ▸ tt)

pub fenced_by_another : RefuseToDo (puts_amount 0 7 ∷ []) (puts_amount 1 8 ∷ [])
    (puts 0 0 7 ∷ fences 1 ∷ [])
unfolding first_world first_heap known_after_op frames_after_op step
fenced_by_another run =
    let rest = gone_on (puts_amount 0 7 ∷ []) (puts_amount 1 8 ∷ [])
    (puts 0 0 7 ∷ fences 1 ∷ []) run in
    let no : true ≡ false = rest.1.0.fence in cc

pub fenced_twice : RefuseToDo (puts_amount 0 7 ∷ []) ([])
    (puts 0 0 7 ∷ fences 0 ∷ fences 0 ∷ [])
unfolding first_world first_heap known_after_op frames_after_op step
fenced_twice run =
    let rest = gone_on (puts_amount 0 7 ∷ []) ([])
    (puts 0 0 7 ∷ fences 0 ∷ fences 0 ∷ []) run in
    let no : true ≡ false = rest.1.1.0.fence in cc

pub not_fenced : RefuseToDo (puts_amount 0 7 ∷ []) ([])
    (puts 0 0 7 ∷ leaves 0 ∷ [])
unfolding first_world first_heap known_after_op frames_after_op step
not_fenced run =
    let rest = gone_on (puts_amount 0 7 ∷ []) ([])
    (puts 0 0 7 ∷ leaves 0 ∷ []) run in
    let no : false ≡ true = rest.1.0.fence in cc

pub fenced_before : RefuseToDo (puts_amount 0 7 ∷ []) ([])
    (fences 0 ∷ puts 0 0 7 ∷ [])
unfolding first_world first_heap known_after_op frames_after_op step
fenced_before run =
    let rest = gone_on (puts_amount 0 7 ∷ []) ([])
    (fences 0 ∷ puts 0 0 7 ∷ []) run in
    let no : true ≡ false = rest.0.fence in cc

pub stores_are_fenced : StoresAreFenced
stores_are_fenced = record {
  run = stores_fenced;
  by_another = fenced_by_another;
  twice = fenced_twice;
  not_at_all = not_fenced;
  before = fenced_before;
}

pub worker_published : Do (puts_worker ∷ []) ([])
    (asks_worker ∷ joining 0 3 (4 ∷ []) ∷ puts_in_box ∷ by 0 4 op.Fenced ∷ [])
unfolding first_world first_heap known_after_op frames_after_op step
worker_published = go_on (puts_worker ∷ []) ([])
    (asks_worker ∷ joining 0 3 (4 ∷ []) ∷ puts_in_box ∷ by 0 4 op.Fenced ∷ [])
    (may refl (ask_rule 4 refl refl refl refl refl) refl refl refl
    ▸ may refl (join_rule 4 0 refl (here 4 (inl refl))) tt refl refl
    ▸ may refl (alone refl refl refl) refl refl refl
    ▸ may refl tt refl refl refl
    ▸ tt)

pub volatile_place : RefuseToDo (puts_target ∷ []) [] (by 0 2 (op.Asked (Slot 4 0) (Object 4)) ∷ [])
unfolding first_world first_heap known_after_op frames_after_op step
volatile_place run =
    let rest = gone_on (puts_target ∷ []) [] (by 0 2 (op.Asked (Slot 4 0) (Object 4)) ∷ []) run in
    elim rest.0.rule.holder [
      | inl durable ↦ (let no : false ≡ true = durable in cc)
      | inr wanted ↦ wanted.wanted
    ]

pub asked_twice : RefuseToDo (puts_worker ∷ []) ([])
    (asks_worker ∷ asks_worker ∷ [])
unfolding first_world first_heap known_after_op frames_after_op step
asked_twice run =
    let rest = gone_on (puts_worker ∷ []) ([])
    (asks_worker ∷ asks_worker ∷ []) run in
    let no : ◌≡◌ {A = Option Pending}
    (Some (record { thread = 0; place = Slot 0 1; value = Object 4 })) None =
    rest.1.0.rule.none_pending in cc

pub durable_value : RefuseToDo (ask.PutField at_main (Object 0) content (Object 1) ∷ []) []
    (by 0 2 (op.Asked (Slot 0 1) (Object 1)) ∷ [])
unfolding first_world first_heap known_after_op frames_after_op step
durable_value run =
    let rest = gone_on (ask.PutField at_main (Object 0) content (Object 1) ∷ []) []
    (by 0 2 (op.Asked (Slot 0 1) (Object 1)) ∷ []) run in
    let (n, is, volatile) = rest.0.rule.volatile in
    let same : Object 1 ≡ Object n = is in
    let one : 1 ≡ n = cc in
    let no : true ≡ false = (subst (λ m. has_number (0 ∷ 1 ∷ []) m ≡ false) (sym one) volatile) in cc

pub asked_by_another : RefuseToDo (puts_worker ∷ []) ([])
    (by 1 2 (op.Asked (Slot 0 1) (Object 4)) ∷ [])
unfolding first_world first_heap known_after_op frames_after_op step
asked_by_another run =
    let rest = gone_on (puts_worker ∷ []) ([])
    (by 1 2 (op.Asked (Slot 0 1) (Object 4)) ∷ []) run in
    let no : ◌≡◌ {A = Option Op} (Some (op.Ended None)) (Some (op.Stored (Slot 0 1) (Object 4))) =
    rest.0.rule.is_about in cc

pub joined_again : RefuseToDo (puts_worker ∷ []) []
    (asks_worker ∷ joining 0 3 (4 ∷ []) ∷ joining 0 3 (4 ∷ []) ∷ [])
unfolding first_world first_heap known_after_op frames_after_op step
joined_again run =
    let rest = gone_on (puts_worker ∷ []) [] (asks_worker ∷ joining 0 3 (4 ∷ []) ∷ joining 0 3 (4 ∷ [])
    ∷ []) run in
    let no : true ≡ false = rest.1.1.0.rule.volatile 0 4 (lit< tt) in cc

pub joined_doubly : RefuseToDo (puts_worker ∷ []) [] (asks_worker ∷ joining 0 3 (4 ∷ 4 ∷ []) ∷ [])
unfolding first_world first_heap known_after_op frames_after_op step
joined_doubly run =
    let rest = gone_on (puts_worker ∷ []) [] (asks_worker ∷ joining 0 3 (4 ∷ 4 ∷ []) ∷ []) run in
    rest.1.0.rule.once 0 1 4 (lit< tt) (lit< tt) refl

pub joined_unasked : RefuseToDo (puts_worker ∷ []) [] (joining 0 3 (4 ∷ []) ∷ [])
unfolding first_world first_heap known_after_op frames_after_op step
joined_unasked run =
    let rest = gone_on (puts_worker ∷ []) [] (joining 0 3 (4 ∷ []) ∷ []) run in
    (rest.0.rule.wanted 0 4 (lit< tt)).1

pub only_durable_places_are_asked : OnlyDurablePlacesAreAsked
only_durable_places_are_asked = record {
  run = worker_published;
  volatile_place = volatile_place;
  asked_twice = asked_twice;
  durable_value = durable_value;
  by_another = asked_by_another;
  joined_again = joined_again;
  joined_doubly = joined_doubly;
  joined_unasked = joined_unasked;
}
