use Rattle.convert_queue.specs.Threads.{needs_of}
use Rattle.convert_queue.proofs.Sets.{has_one, only_itself}
use Rattle.convert_queue.proofs.groups.group.Goals as goal

pub loop-more-init : goal.loop-more-init
loop-more-init c = record {
  member = has_one _ c.with_member-set.ensures.here;
  least = λ u h. only_itself (needs_of c.args.needs.now) c.with_member-set.result c.args.t c.with_member-set.ensures.others u h;
  adds = c.add_needs-more.ensures.adds;
  all = c.add_needs-more.ensures.all;
}
