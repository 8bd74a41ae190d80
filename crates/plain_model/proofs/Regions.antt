-- Regions that guard, nest, close and end.
use Rattle.std.proofs.Common.{◌≡◌, ◌⊎◌, ℕ, true, false, [], ◌∷◌, ◌++◌, refl, inl, inr}
use Rattle.std.specs.Prelude.{Option, Some, None}
use Rattle.run_history.specs.declared.act.Op.TheVariants as op
use Rattle.run_history.specs.Knowing.{known_after_op}
use Rattle.plain_model.specs.First.{first_world, first_heap}
use Rattle.plain_model.specs.Steps.{step}
use Rattle.plain_model.specs.Codes.{frames_after_op}
use Rattle.plain_model.specs.StepWorld.{int}
use Rattle.plain_model.specs.RunRows.{Do, RefuseToDo, amount_of, puts_amount, in_region, region_of, begins, ends, guards, puts}
use Rattle.plain_model.specs.RunRows.{closes, leaves, begin, end, nested, inner_ended, RegionsGuard, RegionsNest}
use Rattle.plain_model.proofs.RunParts.{◌▸◌, may, guard_rule, to_guarded, close_rule, end_rule, inner_end}
use Rattle.plain_model.proofs.Started.{go_on, gone_on}

pub one_after_the_other : Do (in_region 7) (in_region 8)
    (region_of 0 7 ++ region_of 1 8 ++ leaves 0 ∷ leaves 1 ∷ [])
unfolding first_world first_heap known_after_op frames_after_op step
one_after_the_other = go_on (in_region 7) (in_region 8)
    (region_of 0 7 ++ region_of 1 8 ++ leaves 0 ∷ leaves 1 ∷ [])
    (may refl refl refl refl refl
    ▸ may refl (guard_rule (int 7) refl refl refl refl refl refl) refl refl refl
    ▸ may refl (to_guarded refl refl) refl refl refl
    ▸ may refl (close_rule refl refl refl refl) refl refl refl
    ▸ may refl (end_rule refl refl) refl refl refl
    ▸ may refl refl refl refl refl
    ▸ may refl (guard_rule (int 8) refl refl refl refl refl refl) refl refl refl
    ▸ may refl (to_guarded refl refl) refl refl refl
    ▸ may refl (close_rule refl refl refl refl) refl refl refl
    ▸ may refl (end_rule refl refl) refl refl refl
    ▸ may refl refl refl refl refl
    ▸ may refl refl refl refl refl
    ▸ tt)

pub both_guard_refused : RefuseToDo (in_region 7) (in_region 8)
    (begins 0 ∷ begins 1 ∷ guards 0 0 ∷ guards 1 0 ∷ [])
unfolding first_world first_heap known_after_op frames_after_op step
both_guard_refused run =
    let rest = gone_on (in_region 7) (in_region 8)
    (begins 0 ∷ begins 1 ∷ guards 0 0 ∷ guards 1 0 ∷ []) run in
    let no : ◌≡◌ {A = Option ℕ} (Some 0) None = rest.1.1.1.0.rule.unguarded in cc

pub another_stores_refused : RefuseToDo (in_region 7) (puts_amount 0 8 ∷ []) (begins 0 ∷ guards 0 0
    ∷ puts 1 0 8 ∷ [])
unfolding first_world first_heap known_after_op frames_after_op step
another_stores_refused run =
    let rest = gone_on (in_region 7) (puts_amount 0 8 ∷ [])
    (begins 0 ∷ guards 0 0 ∷ puts 1 0 8 ∷ []) run in
    let race : (◌≡◌ {A = Option ℕ} (Some 0) None) ⊎ (false ≡ true) = rest.1.1.0.rule.no_race refl in
    elim race [ inl free ↦ cc | inr own ↦ cc ]

pub in_turn : Do (in_region 7 ++ in_region 9) ([])
    (region_of 0 7 ++ region_of 0 9)
unfolding first_world first_heap known_after_op frames_after_op step
in_turn = go_on (in_region 7 ++ in_region 9) ([])
    (region_of 0 7 ++ region_of 0 9)
    (may refl refl refl refl refl
    ▸ may refl (guard_rule (int 7) refl refl refl refl refl refl) refl refl refl
    ▸ may refl (to_guarded refl refl) refl refl refl
    ▸ may refl (close_rule refl refl refl refl) refl refl refl
    ▸ may refl (end_rule refl refl) refl refl refl
    ▸ may refl refl refl refl refl
    ▸ may refl (guard_rule (int 9) refl refl refl refl refl refl) refl refl refl
    ▸ may refl (to_guarded refl refl) refl refl refl
    ▸ may refl (close_rule refl refl refl refl) refl refl refl
    ▸ may refl (end_rule refl refl) refl refl refl
    ▸ tt)

pub not_again_refused : RefuseToDo (in_region 7 ++ in_region 9) ([])
    (region_of 0 7 ++ begins 0 ∷ puts 0 0 9 ∷ [])
unfolding first_world first_heap known_after_op frames_after_op step
not_again_refused run =
    let rest = gone_on (in_region 7 ++ in_region 9) ([])
    (region_of 0 7 ++ begins 0 ∷ puts 0 0 9 ∷ []) run in
    let no : false ≡ true = rest.1.1.1.1.1.1.0.rule.guarded refl (λ none. let zero_is : 1 ≡ 0 = none in
    cc) in cc

pub guards_twice_refused : RefuseToDo (in_region 7) ([])
    (begins 0 ∷ guards 0 0 ∷ guards 0 0 ∷ [])
unfolding first_world first_heap known_after_op frames_after_op step
guards_twice_refused run =
    let rest = gone_on (in_region 7) ([])
    (begins 0 ∷ guards 0 0 ∷ guards 0 0 ∷ []) run in
    let no : ◌≡◌ {A = Option ℕ} (Some 0) None = rest.1.1.0.rule.unguarded in cc

pub guards_outside_refused : RefuseToDo (puts_amount 0 7 ∷ []) [] (guards 0 0 ∷ [])
unfolding first_world first_heap known_after_op frames_after_op step
guards_outside_refused run = (gone_on (puts_amount 0 7 ∷ []) [] (guards 0 0 ∷ []) run).0.rule.is_open refl

pub guards_another_place_refused : RefuseToDo (in_region 7) [] (begins 0 ∷ guards 0 1 ∷ [])
unfolding first_world first_heap known_after_op frames_after_op step
guards_another_place_refused run =
    let (value, about, kept) = (gone_on (in_region 7) [] (begins 0 ∷ guards 0 1 ∷ []) run).1.0.rule.is_about in
    let no : Some (op.Stored (amount_of 0) (int 7)) ≡ Some (op.Stored (amount_of 1) value) = about in cc

pub closes_twice_refused : RefuseToDo (in_region 7) ([])
    (begins 0 ∷ guards 0 0 ∷ puts 0 0 7 ∷ closes 0 ∷ closes 0 ∷ [])
unfolding first_world first_heap known_after_op frames_after_op step
closes_twice_refused run =
    let rest = gone_on (in_region 7) ([])
    (begins 0 ∷ guards 0 0 ∷ puts 0 0 7 ∷ closes 0 ∷ closes 0 ∷ []) run in
    let no : true ≡ false = rest.1.1.1.1.0.rule.not_closing in cc

pub closes_unguarded_refused : RefuseToDo (begin ∷ end ∷ []) ([])
    (begins 0 ∷ closes 0 ∷ [])
unfolding first_world first_heap known_after_op frames_after_op step
closes_unguarded_refused run =
    let rest = gone_on (begin ∷ end ∷ []) ([])
    (begins 0 ∷ closes 0 ∷ []) run in
    let no : false ≡ true = rest.1.0.rule.guards in cc

pub closes_early_refused : RefuseToDo (in_region 7) ([])
    (begins 0 ∷ guards 0 0 ∷ closes 0 ∷ [])
unfolding first_world first_heap known_after_op frames_after_op step
closes_early_refused run =
    let rest = gone_on (in_region 7) ([])
    (begins 0 ∷ guards 0 0 ∷ closes 0 ∷ []) run in
    let no : Some (op.Stored (amount_of 0) (int 7)) ≡ Some op.End = rest.1.1.0.rule.is_about in cc

pub nested_run : Do (nested) ([])
    (inner_ended ++ closes 0 ∷ ends 0 ∷ leaves 0 ∷ [])
unfolding first_world first_heap known_after_op frames_after_op step
nested_run = go_on (nested) ([])
    (inner_ended ++ closes 0 ∷ ends 0 ∷ leaves 0 ∷ [])
    (may refl refl refl refl refl
    ▸ may refl refl refl refl refl
    ▸ may refl (guard_rule (int 7) refl refl refl refl refl refl) refl refl refl
    ▸ may refl (to_guarded refl refl) refl refl refl
    ▸ may refl (inner_end refl refl) refl refl refl
    ▸ may refl (close_rule refl refl refl refl) refl refl refl
    ▸ may refl (end_rule refl refl) refl refl refl
    ▸ may refl refl refl refl refl
    ▸ tt)

pub closes_inner_refused : RefuseToDo (nested) ([])
    (begins 0 ∷ begins 0 ∷ guards 0 0 ∷ puts 0 0 7 ∷ closes 0 ∷ [])
unfolding first_world first_heap known_after_op frames_after_op step
closes_inner_refused run =
    let rest = gone_on (nested) ([])
    (begins 0 ∷ begins 0 ∷ guards 0 0 ∷ puts 0 0 7 ∷ closes 0 ∷ []) run in
    let no : false ≡ true = rest.1.1.1.1.0.rule.outermost in cc

pub unclosed_refused : RefuseToDo (nested) ([])
    (inner_ended ++ ends 0 ∷ [])
unfolding first_world first_heap known_after_op frames_after_op step
unclosed_refused run =
    let rest = gone_on (nested) ([])
    (inner_ended ++ ends 0 ∷ []) run in
    let no : false ≡ true = rest.1.1.1.1.1.0.rule.closing refl refl in cc

pub stores_meanwhile_refused : RefuseToDo nested (puts_amount 0 8 ∷ []) (inner_ended ++ puts 1 0 8 ∷ [])
unfolding first_world first_heap known_after_op frames_after_op step
stores_meanwhile_refused run =
    let rest = gone_on nested (puts_amount 0 8 ∷ []) (inner_ended ++ puts 1 0 8 ∷ []) run in
    let race : (◌≡◌ {A = Option ℕ} (Some 0) None) ⊎ (false ≡ true) = rest.1.1.1.1.1.0.rule.no_race refl in
    elim race [ inl free ↦ cc | inr own ↦ cc ]

pub regions_guard : RegionsGuard
regions_guard = record {
  one_after_the_other = one_after_the_other;
  both_guard = both_guard_refused;
  another_stores = another_stores_refused;
  in_turn = in_turn;
  not_again = not_again_refused;
  guards_twice = guards_twice_refused;
  guards_outside = guards_outside_refused;
  guards_another_place = guards_another_place_refused;
  closes_twice = closes_twice_refused;
  closes_unguarded = closes_unguarded_refused;
  closes_early = closes_early_refused;
}

pub regions_nest : RegionsNest
regions_nest = record {
  run = nested_run;
  closes_inner = closes_inner_refused;
  unclosed = unclosed_refused;
  another_stores = stores_meanwhile_refused;
}
