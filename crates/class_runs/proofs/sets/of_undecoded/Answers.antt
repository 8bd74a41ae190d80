use Rattle.class_runs.proofs.sets.of_undecoded.Goals as goal

pub unreachable-requires : goal.unreachable-requires
unreachable-requires c =
    c.accepted_sets_have_room.ensures.files c.args.set.now.linked c.file_count-count.ensures.few
    c.file_count-count.ensures.linked.readable c.args.set.now.small (c.requires.large c.in-TooLarge.is)
