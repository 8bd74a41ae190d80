use Rattle.std.proofs.Common.{inl, inr, ap, refl, sym, ◌∙◌}
use Rattle.run_types.specs.declared.fault.LinkKind.{LinkKind}
use Rattle.statuses.specs.Names.{main_text, shortened}
use Rattle.statuses.specs.declared.status.Status.TheVariants as status
use Rattle.class_runs.proofs.Outside.{tells_nothing}
use Rattle.class_runs.proofs.SetRan.{unbegun_ran}
use Rattle.class_runs.proofs.sets.run_main.Goals as goal

pub run_complete-requires-clause-main : goal.run_complete-requires-clause-main
run_complete-requires-clause-main g c = λ κs below. sym c.in-Ok.ensures.found

pub returns-in-Err-clause-ran : goal.returns-in-Err-clause-ran
returns-in-Err-clause-ran g c = λ start old is.
    let name = c.args.class.now in
    let found = c.args.found in
    rw (c.unbegun.ensures.opening, c.unbegun.ensures.acts, c.unbegun.ensures.image, c.unbegun.ensures.status)
    (unbegun_ran old c.args.set.now.linked start found.memory found.directory found.lines found.graph found.free is name
    c.args.limits.now (g.I.Image.told c.into_image-image.result) c.main_status-status.result c.into_image-image.ensures.told
    c.into_image-image.ensures.size
    (inr (inl (record {
      fits = c.requires.fits;
      none = c.in-Err.none;
      missing = sym c.in-Err.ensures.found;
      is = c.main_status-status.ensures.status
          ∙ ap (λ (kind : LinkKind). status.LinkFault kind (shortened (main_text kind name))) c.kind_of.ensures;
    }))))

pub returns-in-Err-clause-told : goal.returns-in-Err-clause-told
returns-in-Err-clause-told g c =
    rw (c.unbegun.ensures.acts, c.unbegun.ensures.watcher, c.unbegun.ensures.sink)
    (tells_nothing (g.W.Watcher.seen c.args.watcher) (g.S.Sink.taken c.args.sink) (g.S.Sink.takes c.args.sink))

pub returns-in-Err-clause-sink_spared : goal.returns-in-Err-clause-sink_spared
returns-in-Err-clause-sink_spared g c = λ isnt. rw c.unbegun.ensures.sink refl

pub returns-in-Err-clause-image_spared : goal.returns-in-Err-clause-image_spared
returns-in-Err-clause-image_spared g c = λ isnt. rw c.unbegun.ensures.image (c.into_image-image.ensures.faults)
