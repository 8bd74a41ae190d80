use Rattle.std.proofs.Common.{ap, ◌∙◌}
use Rattle.natives.specs.Methods.{native_at}
use Rattle.program_host.specs.Hosts.{setting_in}
use Rattle.workers.specs.Passed.{memory_of, work_left}
use Rattle.set_opening.specs.Passed.{spaces_of}
use Rattle.workers.specs.Passed.{Shared}
use Rattle.durable_launch.proofs.Launching.{ready_as}
use Rattle.durable_launch.proofs.launches.launch.Goals as goal

pub returns-in-Ok-new-clause-ready : goal.returns-in-Ok-new-clause-ready
returns-in-Ok-new-clause-ready g c start old can =
    let set = c.args.set.now in
    let main = c.args.main.now in
    let limits = c.args.limits.now in
    let heap = c.args.opened in
    let linked = c.shapes-linked.ensures.linked in
    let ready = ready_as start old set main limits heap c.in-Ok.beside.rest
    (record {
      keep = c.first_machines_keep_their_run.ensures;
      plain = c.first_machines_run_as_plain_runs.ensures;
      directories = c.first_heaps_have_their_directory.ensures;
      lines = c.events_keep_lines.ensures.starts;
      unwritten = c.lines_stay_unwritten.ensures.starts;
      arrays = c.asked_arrays_are_written.ensures.threads;
      begin = c.others_keep_theirs.ensures.begin;
    })
    can
    (record {
      linked = linked;
      consistent = c.linked_sets_are_consistent.ensures.consistent set linked;
      names = c.programs_name_what_is_there.ensures native_at set linked;
      class = c.requires.main;
      beside = c.in-Ok.ensures.rest;
    })
    (setting_in c.in-Ok.beside.host) c.in-Ok-new.heap c.in-Ok.beside.frames.items c.in-Ok.ensures.host
    c.in-Ok-new.ensures.made c.in-Ok.ensures.many c.in-Ok.ensures.main in record {
      literals = heap.literals.items;
      ready = ready;
      empty = ap (λ (s : Shared). s.history.acts) c.in-Ok-new.ensures.made;
      work = ap (λ (s : Shared). work_left s.machine) c.in-Ok-new.ensures.made
          ∙ c.quiet_steps_are_few.ensures.first (spaces_of heap.spaces) heap.free c.in-Ok.beside.rest limits.acts;
      memory = ap (λ (s : Shared). memory_of s.machine) c.in-Ok-new.ensures.made;
    }
