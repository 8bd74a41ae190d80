-- Threads that wait, monitors that exclude, and acts in order.
use Rattle.std.proofs.Common.{◌≡◌, ℕ, ◌≤◌, List, [], ◌∷◌, refl, arith}
use Rattle.std.specs.Prelude.{Option, Some, None}
use Rattle.natives.specs.declared.requests.Request.TheVariants as ask
use Rattle.run_history.specs.declared.act.PlainKey.TheVariants.{Object as ObjectKey}
use Rattle.run_history.specs.declared.act.Op.{Op}
use Rattle.run_history.specs.declared.act.Op.TheVariants as op
use Rattle.run_history.specs.declared.act.Stage.TheVariants as stage
use Rattle.run_history.specs.Knowing.{known_after_op}
use Rattle.plain_model.specs.First.{first_world, first_heap}
use Rattle.plain_model.specs.Steps.{step}
use Rattle.plain_model.specs.Codes.{frames_after_op}
use Rattle.plain_model.specs.StepWorld.{illegal_thread_state, illegal_monitor_state, main_class, late_class}
use Rattle.plain_model.specs.RunRows.{Do, RefuseToDo, by, leaves, begin, end, starts, awaits, makes_late, late_makers}
use Rattle.plain_model.specs.RunRows.{begins_late, late_done, allocates_late, enters, exits, entered, exited, enter_twice}
use Rattle.plain_model.specs.RunRows.{ActsAreInOrder, ThreadsWait, MonitorsExclude}
use Rattle.plain_model.proofs.RunParts.{◌▸◌, may}
use Rattle.plain_model.proofs.Started.{go_on, gone_on}

pub falls : RefuseToDo (begin ∷ end ∷ []) ([])
    (by 0 5 op.Begin ∷ by 0 4 op.End ∷ [])
unfolding first_world first_heap known_after_op frames_after_op step
falls run =
    let rest = gone_on (begin ∷ end ∷ []) ([])
    (by 0 5 op.Begin ∷ by 0 4 op.End ∷ []) run in
    let no : 5 ≤ 4 = rest.1.0.later in absurd (omega arith)

pub falls_between : RefuseToDo (begin ∷ []) (begin ∷ [])
    (by 0 5 op.Begin ∷ by 1 4 op.Begin ∷ [])
unfolding first_world first_heap known_after_op frames_after_op step
falls_between run =
    let rest = gone_on (begin ∷ []) (begin ∷ [])
    (by 0 5 op.Begin ∷ by 1 4 op.Begin ∷ []) run in
    let no : 5 ≤ 4 = rest.1.0.later in absurd (omega arith)

pub names_refused : RefuseToDo (begin ∷ []) ([])
    (record { act = record { thread = 0; at = 2; op = op.Begin }; named = 0 ∷ [] } ∷ [])
unfolding first_world first_heap known_after_op frames_after_op step
names_refused run =
    let rest = gone_on (begin ∷ []) ([])
    (record { act = record { thread = 0; at = 2; op = op.Begin }; named = 0 ∷ [] } ∷ []) run in
    let no : ◌≡◌ {A = List ℕ} (0 ∷ []) [] = rest.0.named in cc

pub acts_are_in_order : ActsAreInOrder
acts_are_in_order = record {
  falls = falls;
  of_another_thread = falls_between;
  names = names_refused;
}

pub joins : Do (awaits ∷ []) (ask.Pause ∷ [])
    (by 1 2 op.Pause ∷ leaves 1 ∷ by 0 2 (op.Join 4) ∷ leaves 0 ∷ [])
unfolding first_world first_heap known_after_op frames_after_op step
joins = go_on (awaits ∷ []) (ask.Pause ∷ [])
    (by 1 2 op.Pause ∷ leaves 1 ∷ by 0 2 (op.Join 4) ∷ leaves 0 ∷ [])
    (may refl refl refl refl refl
    ▸ may refl refl refl refl refl
    ▸ may refl refl refl refl refl
    ▸ may refl refl refl refl refl
    ▸ tt)

pub joins_early : RefuseToDo (awaits ∷ []) (ask.Pause ∷ [])
    (by 1 2 op.Pause ∷ by 0 2 (op.Join 4) ∷ [])
unfolding first_world first_heap known_after_op frames_after_op step
joins_early run =
    let rest = gone_on (awaits ∷ []) (ask.Pause ∷ [])
    (by 1 2 op.Pause ∷ by 0 2 (op.Join 4) ∷ []) run in
    let no : ◌≡◌ {A = Option Op} None (Some (op.Join 4)) = rest.1.0.rule in cc

pub initialises : Do (late_makers) (makes_late ∷ [])
    (begins_late 0 ∷ late_done 0 ∷ allocates_late 1 5 ∷ allocates_late 0 6 ∷ [])
unfolding first_world first_heap known_after_op frames_after_op step
initialises = go_on (late_makers) (makes_late ∷ [])
    (begins_late 0 ∷ late_done 0 ∷ allocates_late 1 5 ∷ allocates_late 0 6 ∷ [])
    (may refl refl refl refl refl
    ▸ may refl refl refl refl refl
    ▸ may refl refl refl refl refl
    ▸ may refl refl refl refl refl
    ▸ tt)

pub begun_twice : RefuseToDo (late_makers) (makes_late ∷ [])
    (begins_late 0 ∷ begins_late 1 ∷ [])
unfolding first_world first_heap known_after_op frames_after_op step
begun_twice run =
    let rest = gone_on (late_makers) (makes_late ∷ [])
    (begins_late 0 ∷ begins_late 1 ∷ []) run in
    let no : ◌≡◌ {A = Option Op} None (Some (op.Init late_class stage.Begun)) = rest.1.0.rule in cc

pub made_early : RefuseToDo (late_makers) (makes_late ∷ [])
    (begins_late 0 ∷ allocates_late 1 5 ∷ [])
unfolding first_world first_heap known_after_op frames_after_op step
made_early run =
    let rest = gone_on (late_makers) (makes_late ∷ [])
    (begins_late 0 ∷ allocates_late 1 5 ∷ []) run in
    let no : ◌≡◌ {A = Option Op} None (Some (op.Alloc 5 late_class 0)) = rest.1.0.rule in cc

pub starts_again : Do (starts ∷ []) ([])
    (by 0 2 (op.Throw 5 illegal_thread_state) ∷ leaves 0 ∷ [])
unfolding first_world first_heap known_after_op frames_after_op step
starts_again = go_on (starts ∷ []) ([])
    (by 0 2 (op.Throw 5 illegal_thread_state) ∷ leaves 0 ∷ [])
    (may refl refl refl refl refl
    ▸ may refl refl refl refl refl
    ▸ tt)

pub started_twice : RefuseToDo (starts ∷ []) ([])
    (by 0 2 (op.Start 4 2) ∷ [])
unfolding first_world first_heap known_after_op frames_after_op step
started_twice run =
    let rest = gone_on (starts ∷ []) ([])
    (by 0 2 (op.Start 4 2) ∷ []) run in
    let no : ◌≡◌ {A = Option Op} (Some (op.Throw 5 illegal_thread_state)) (Some (op.Start 4 2)) =
    rest.0.rule in cc

pub after_its_end : RefuseToDo ([]) (ask.Pause ∷ ask.Pause ∷ [])
    (by 1 2 op.Pause ∷ by 1 2 op.Pause ∷ leaves 1 ∷ leaves 1 ∷ [])
unfolding first_world first_heap known_after_op frames_after_op step
after_its_end run =
    let rest = gone_on ([]) (ask.Pause ∷ ask.Pause ∷ [])
    (by 1 2 op.Pause ∷ by 1 2 op.Pause ∷ leaves 1 ∷ leaves 1 ∷ []) run in
    let no : ◌≡◌ {A = Option Op} None (Some (op.Ended None)) = rest.1.1.1.0.rule in cc

pub not_started : RefuseToDo ([]) ([])
    (leaves 2 ∷ [])
unfolding first_world first_heap known_after_op frames_after_op step
not_started run =
    let rest = gone_on ([]) ([])
    (leaves 2 ∷ []) run in
    let no : ◌≡◌ {A = Option Op} None (Some (op.Ended None)) = rest.0.rule in cc

pub of_main : RefuseToDo ([]) (ask.Pause ∷ [])
    (by 1 2 (op.Init main_class stage.Ready) ∷ [])
unfolding first_world first_heap known_after_op frames_after_op step
of_main run =
    let rest = gone_on ([]) (ask.Pause ∷ [])
    (by 1 2 (op.Init main_class stage.Ready) ∷ []) run in
    let no : ◌≡◌ {A = Option Op} (Some op.Pause) (Some (op.Init main_class stage.Ready)) = rest.0.rule in cc

pub threads_wait : ThreadsWait
threads_wait = record {
  joins = joins;
  joins_early = joins_early;
  initialises = initialises;
  begun_twice = begun_twice;
  made_early = made_early;
  starts_again = starts_again;
  started_twice = started_twice;
  after_its_end = after_its_end;
  not_started = not_started;
  of_main = of_main;
}

pub taken_in_turn : Do (enter_twice) (enters 0 ∷ [])
    (entered 0 0 ∷ entered 0 0 ∷ exited 0 0 ∷ exited 0 0 ∷ entered 1 0 ∷ [])
unfolding first_world first_heap known_after_op frames_after_op step
taken_in_turn = go_on (enter_twice) (enters 0 ∷ [])
    (entered 0 0 ∷ entered 0 0 ∷ exited 0 0 ∷ exited 0 0 ∷ entered 1 0 ∷ [])
    (may refl refl refl refl refl
    ▸ may refl refl refl refl refl
    ▸ may refl refl refl refl refl
    ▸ may refl refl refl refl refl
    ▸ may refl refl refl refl refl
    ▸ tt)

pub both_enter : RefuseToDo (enter_twice) (enters 0 ∷ [])
    (entered 0 0 ∷ entered 1 0 ∷ [])
unfolding first_world first_heap known_after_op frames_after_op step
both_enter run =
    let rest = gone_on (enter_twice) (enters 0 ∷ [])
    (entered 0 0 ∷ entered 1 0 ∷ []) run in
    let no : ◌≡◌ {A = Option Op} None (Some (op.Enter (ObjectKey 0))) = rest.1.0.rule in cc

pub once_left : RefuseToDo (enter_twice) (enters 0 ∷ [])
    (entered 0 0 ∷ entered 0 0 ∷ exited 0 0 ∷ entered 1 0 ∷ [])
unfolding first_world first_heap known_after_op frames_after_op step
once_left run =
    let rest = gone_on (enter_twice) (enters 0 ∷ [])
    (entered 0 0 ∷ entered 0 0 ∷ exited 0 0 ∷ entered 1 0 ∷ []) run in
    let no : ◌≡◌ {A = Option Op} None (Some (op.Enter (ObjectKey 0))) = rest.1.1.1.0.rule in cc

pub not_owned : RefuseToDo (enter_twice) (exits 0 ∷ [])
    (entered 0 0 ∷ exited 1 0 ∷ [])
unfolding first_world first_heap known_after_op frames_after_op step
not_owned run =
    let rest = gone_on (enter_twice) (exits 0 ∷ [])
    (entered 0 0 ∷ exited 1 0 ∷ []) run in
    let no : ◌≡◌ {A = Option Op} (Some (op.Throw 5 illegal_monitor_state)) (Some (op.Exit (ObjectKey 0))) =
    rest.1.0.rule in cc

pub monitors_exclude : MonitorsExclude
monitors_exclude = record {
  run = taken_in_turn;
  both = both_enter;
  once_left = once_left;
  not_owned = not_owned;
}
