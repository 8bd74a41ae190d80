use Rattle.std.proofs.Common.{inl}
use Rattle.convert_words.specs.Scenes.{scene}
use Rattle.convert_words.proofs.StepKinds.{wait_converts}
use Rattle.converter.proofs.seals.seal_next.Goals as goal

pub seal_group-requires-clause-group : goal.seal_group-requires-clause-group
seal_group-requires-clause-group g c = c.in-Ok.ensures.group

pub seal_group-requires-clause-settled : goal.seal_group-requires-clause-settled
seal_group-requires-clause-settled g c = c.in-Ok.ensures.settled

pub returns-in-Err-clause-converts : goal.returns-in-Err-clause-converts
returns-in-Err-clause-converts g c = λ free keys es a.
    let h = c.args.heap.now in (
      es,
      wait_converts (scene h.space h.memory h.marks c.args.queue.now free keys) es c.args.t c.in-Err.unready.thread
          (inl (record { settled = record { phase = c.requires.phase; clean = c.requires.clean }; unsettled = c.in-Err.ensures.unready })) a,
    )
