use Rattle.std.proofs.Common.{inl, refl, arith}
use Rattle.image_recovery.specs.Recovered.{entries_in}
use Rattle.directories.specs.Planning.{lacking}
use Rattle.set_opening.proofs.Opened.{agree_whole, is_opened_for, unappended}
use Rattle.set_opening.proofs.opening.complete.Goals as goal

pub append_all-requires-clause-enough : goal.append_all-requires-clause-enough
append_all-requires-clause-enough g c =
    let is = c.requires.found.3.found_is in
    let size = is.goes_on.size in
    let enough = is.attached.enough in
    omega (arith, size, enough)

pub returns-in-Ok-clause-opened : goal.returns-in-Ok-clause-opened
returns-in-Ok-clause-opened g c start old set is =
    let f = c.args.found in
    let all = c.append_all.ensures in
    is_opened_for start is.before f.memory c.append_all.new.memory is.found f.directory
    c.append_all.new.directory is.stood f.graph f.lines f.free old set is.found_is is.fitted is.continues
    all.entries all.goes_on all.appended
    c.a_run_can_begin_over_recovered_images.ensures.appended c.in-Ok.ensures.done
    (λ l below. inl (c.every_line_is_resident.ensures c.append_all.new.memory l below))

pub returns-in-Err-clause-unappended : goal.returns-in-Err-clause-unappended
returns-in-Err-clause-unappended g c start old set is =
    let f = c.args.found in
    let all = c.append_all.ensures in record {
      before = is.before;
      memory = c.append_all.new.memory;
      found = entries_in is.found;
      found_is = is.found_is.found_is;
      entries = is.fitted.planned.entries;
      are_its = is.fitted.planned.are_its;
      added = lacking (entries_in is.found) is.fitted.planned.entries;
      added_is = refl;
      left = unappended start is.before f.memory c.append_all.new.memory is.found f.directory
          c.append_all.new.directory is.stood f.graph f.lines f.free old set is.found_is is.fitted is.continues
          all.entries all.goes_on all.appended (g.I.Image.told c.into_image.result) c.into_image.ensures.size
          c.into_image.ensures.told;
      set_is = is.fitted.set_is;
      agree = agree_whole start is.before f.memory c.append_all.new.memory is.found f.directory c.append_all.new.directory
          is.stood f.graph f.lines f.free old set is.found_is is.fitted is.continues all.entries all.goes_on all.appended;
    }
