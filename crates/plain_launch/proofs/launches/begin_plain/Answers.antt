use Rattle.std.proofs.Common.{◌∙◌, ℕ, List, [], ap, sym, subst, refl, length}
use Rattle.ap_base.specs.declared.reference.Ref.{Ref}
use Rattle.ap_base.specs.declared.reference.Item.{Item}
use Rattle.run_types.specs.declared.known.Known.{Known}
use Rattle.natives.specs.declared.methods.Native.{Native}
use Rattle.natives.specs.declared.states.NativeState.{NativeState}
use Rattle.natives.specs.Methods.{native_at}
use Rattle.frames.specs.declared.program.Program.{Program}
use Rattle.frames.specs.Settings.{Setting}
use Rattle.class_set.specs.Facts.{facts_of}
use Rattle.plain_model.specs.Facts.{known_classes}
use Rattle.plain_heap.specs.Heaps.{shown_of}
use Rattle.plain_machine.specs.Standing.{Stands}
use Rattle.program_host.specs.Settings.{setting_of}
use Rattle.program_launch.specs.Launches.{set_program}
use Rattle.plain_launch.specs.Launches.{launch_of, references_to}
use Rattle.plain_launch.proofs.Starting.{begins, first_short, some_limits}
use Rattle.plain_launch.proofs.launches.begin_plain.Goals as goal

pub begin-requires-clause-begins : goal.begin-requires-clause-begins
begin-requires-clause-begins c =
    let set = c.args.set.now in
    let linked = c.shapes-linked.ensures.linked in (
      launch_of set c.args.main.now c.args.opening.now some_limits,
      begins set c.args.main.now c.args.opening.now some_limits _
          (record {
            consistent = c.linked_sets_are_consistent.ensures.consistent set linked;
            names = c.programs_name_what_is_there.ensures native_at set linked;
            graph = c.requires.opening;
            class = c.requires.main;
          })
          (record {
            shapes = c.from_vec.ensures ∙ c.in_ok-first_shapes.ensures;
            objects = c.in_ok-first_objects.ensures c.args.opening.now (sym c.as_slice.ensures);
            statics = c.in_ok-first_statics.ensures;
            classes = c.in_ok-first_progress.ensures c.args.opening.now;
            class_is = refl;
            method_is = refl;
            array = c.arguments_number.ensures (facts_of set);
          }),
    )

pub begin-requires-clause-short : goal.begin-requires-clause-short
begin-requires-clause-short c =
    let set = c.args.set.now in
    first_short (facts_of set) c.args.opening.now c.in_ok-first_objects.field-0.items
    (c.in_ok-first_objects.ensures c.args.opening.now (sym c.as_slice.ensures)) c.requires.short
    (c.literals_are_short.ensures set c.shapes-linked.ensures.linked)

pub returns-clause-stands : goal.returns-clause-stands
returns-clause-stands c = λ limits.
    let set = c.args.set.now in
    let main = c.args.main.now in
    let opening = c.args.opening.now in
    let linked = c.shapes-linked.ensures.linked in
    let launch = launch_of set main opening limits in
    let plain = c.in_ok-begin.field-0 in
    let known = known_classes (facts_of set) in
    let host = c.in_ok-host.ensures
    ∙ ap (λ (p : Program Native). setting_of p main.method c.known.result c.from_vec-2.result)
    c.in_ok-program.ensures.program
    ∙ ap (λ (k : Known). setting_of (set_program set) main.method k c.from_vec-2.result) c.known.ensures
    ∙ ap (λ (rs : List Ref). setting_of (set_program set) main.method known rs)
    (c.from_vec-2.ensures ∙ c.in_ok-references.ensures (facts_of set)
    ∙ ap (λ (ts : List (List ℕ)). references_to (facts_of set) opening (length ts))
    (c.as_slice-texts.ensures ∙ c.in_ok-literals.ensures)) in
    subst (λ (x : Setting Native Ref (NativeState Ref) Item). Stands launch [] (facts_of set) x
    (shown_of plain.world.heap) plain.world.rest plain.world.steps plain.lanes.items) (sym host)
    (c.in_ok-begin.ensures launch
    (begins set main opening limits _
    (record {
      consistent = c.linked_sets_are_consistent.ensures.consistent set linked;
      names = c.programs_name_what_is_there.ensures native_at set linked;
      graph = c.requires.opening;
      class = c.requires.main;
    })
    (record {
      shapes = c.from_vec.ensures ∙ c.in_ok-first_shapes.ensures;
      objects = c.in_ok-first_objects.ensures opening (sym c.as_slice.ensures);
      statics = c.in_ok-first_statics.ensures;
      classes = c.in_ok-first_progress.ensures opening;
      class_is = refl;
      method_is = refl;
      array = c.arguments_number.ensures (facts_of set);
    })))
