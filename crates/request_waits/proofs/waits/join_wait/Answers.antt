use Rattle.std.proofs.Common.{rules, ◌≡◌, true, false, sym, ◌∙◌, ap}
use Rattle.run_types.specs.declared.known.Known.{Known}
use Rattle.plain_model.specs.Ends.{wait_of}
use Rattle.plain_model.specs.Facts.{is_sub}
use Rattle.plain_model.specs.Steps.{joins_thread}
use Rattle.shared_objects.specs.Threads.{started_from}
use Rattle.shared_objects.specs.Worlds.{world_of}
use Rattle.world_steps.proofs.Running.{found_plain}
use Rattle.world_steps.proofs.Worldly.{join_null, join_right, join_wrong}
use Rattle.request_waits.specs.Waiting.{end_wait}
use Rattle.request_waits.proofs.Waited.{joins-wait}
use Rattle.request_waits.proofs.waits.join_wait.Goals as goal

pub returns-then-is_sub : goal.returns-then-is_sub
returns-then-is_sub g c = record {
  wait = λ t roots from.
      let facts = g.C.Types.facts c.args.set.now in
      let shown = g.O.Objects.shown c.args.objects.now in
      let rest = c.args.rest.now in
      let world = world_of roots shown rest in
      let n = c.in-Some.object in
      let test : is_sub facts c.shape_of.result c.known.result.thread ≡ true = search rules in
      c.end_wait.ensures.wait ∙ ap end_wait c.started.ensures.found
      ∙ sym (joins-wait facts world t n (started_from 0 rest.threads n))
      ∙ ap (λ o. wait_of (joins_thread facts world n o)) (sym (found_plain 0 n rest.threads))
      ∙ ap wait_of (sym (join_right facts world t 1 from (shown.number c.args.thread) n c.in-Some.ensures.number
      c.in-Some.ensures.below c.shape_of.result c.known.result.thread
      (c.shape_of.ensures.shape n c.in-Some.ensures.number) (ap (λ (k : Known). k.thread) c.known.ensures) test));
}

pub returns-else-is_sub : goal.returns-else-is_sub
returns-else-is_sub g c = record {
  wait = λ t roots from.
      let facts = g.C.Types.facts c.args.set.now in
      let shown = g.O.Objects.shown c.args.objects.now in
      let world = world_of roots shown c.args.rest.now in
      let n = c.in-Some.object in
      let test : is_sub facts c.shape_of.result c.known.result.thread ≡ false = search rules in
      ap wait_of (sym (join_wrong facts world t 1 from (shown.number c.args.thread) n c.in-Some.ensures.number
      c.in-Some.ensures.below c.shape_of.result c.known.result.thread
      (c.shape_of.ensures.shape n c.in-Some.ensures.number) (ap (λ (k : Known). k.thread) c.known.ensures) test));
}

pub returns-in-None : goal.returns-in-None
returns-in-None g c = record {
  wait = λ t roots from.
      let facts = g.C.Types.facts c.args.set.now in
      let shown = g.O.Objects.shown c.args.objects.now in
      let world = world_of roots shown c.args.rest.now in
      ap wait_of (sym (join_null facts world t 1 from (shown.number c.args.thread) c.in-None.ensures.number));
}
