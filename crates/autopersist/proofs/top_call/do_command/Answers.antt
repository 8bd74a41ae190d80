use Rattle.std.proofs.Common.{◌≡◌, Option, Some, refl, ap, ◌∙◌}
use Rattle.command_words.specs.Commands.{texts}
use Rattle.command_words.specs.declared.command.Command.{Command}
use Rattle.command_words.specs.declared.command.Command.TheVariants.{Check, Dump, Make}
use Rattle.image_report.specs.Reports.{IsChecked, IsDumped}
use Rattle.autopersist.proofs.Promises.{reports_meet, run_meets}
use Rattle.autopersist.proofs.top_call.do_command.Goals as goal

-- what was read is this command
read_so : (asked : Option Command) (read command : Command) → asked ≡ Some read → read ≡ command → asked ≡ Some command
read_so asked read command is same = is ∙ ap (λ (c : Command). Some c) same

pub returns-in-Ok-Run : goal.returns-in-Ok-Run
returns-in-Ok-Run g c =
    let did = c.run_class.ensures in
    record {
      meets = run_meets (texts c.args.words.now.items) _ _ _ _ c.run_class.result.status c.run_class.result.opening
          c.run_class.result.acts.acts c.in-Ok-Run.run' c.as_slice.result.now c.as_slice.ensures.same (read_so _ _ _ c.in-Ok-Run.ensures.command c.in-Ok-Run.field-0-is)
          did.cause did.answers did.whole did.left did.theorem did.early did.told did.source_fault did.image_fault did.image_spared did.sink_fault did.sink_spared
          did.no_memory did.opening did.size;
    }

pub run_workload-requires-clause-range : goal.run_workload-requires-clause-range
run_workload-requires-clause-range g c = λ κs below.
    (c.numbers_are_in_range.ensures (texts c.args.words.now.items) (Make c.in-Ok-Make.make) (read_so _ _ _ c.in-Ok-Make.ensures.command c.in-Ok-Make.field-0-is)).count

pub returns-in-Ok-Check : goal.returns-in-Ok-Check
returns-in-Ok-Check g c =
    let did = c.check_image-done.ensures in
    rw (
      c.idle.ensures.status,
      c.idle.ensures.opening,
      c.idle.ensures.acts,
      c.idle.ensures.source,
      c.idle.ensures.image,
      c.idle.ensures.sink,
      c.idle.ensures.watcher,
      c.of_report.ensures,
    )
    (record {
      meets = reports_meet (texts c.args.words.now.items) _ _ _ _ IsChecked c.check_image-done.result.how
          (Check c.in-Ok-Check.field-0-0) (read_so _ _ _ c.in-Ok-Check.ensures.command c.in-Ok-Check.field-0-is) (λ r. r) refl did.printed did.unreported did.left did.stops
          did.image_fault did.image_spared did.sink_fault did.sink_spared refl did.size;
    })

pub returns-in-Ok-Dump : goal.returns-in-Ok-Dump
returns-in-Ok-Dump g c =
    let did = c.dump_image-done.ensures in
    let idle = c.idle-in-Ok-Dump.ensures in
    rw (idle.status, idle.opening, idle.acts, idle.source, idle.image, idle.sink, idle.watcher, c.of_report-in-Ok-Dump.ensures)
    (record {
      meets = reports_meet (texts c.args.words.now.items) _ _ _ _ IsDumped c.dump_image-done.result.how
          (Dump c.in-Ok-Dump.field-0-0) (read_so _ _ _ c.in-Ok-Dump.ensures.command c.in-Ok-Dump.field-0-is) (λ r. r) refl did.printed did.unreported did.left did.stops
          did.image_fault did.image_spared did.sink_fault did.sink_spared refl did.size;
    })
