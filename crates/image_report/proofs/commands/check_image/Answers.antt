use Rattle.std.proofs.Common.{◌∙◌, ℕ, List}
use Rattle.line_memory.specs.Memory.{shown}
use Rattle.image_report.proofs.Reporting.{is_checked, left_open, still_kept}
use Rattle.image_report.proofs.commands.check_image.Goals as goal

pub returns-in-Err-check_text-clause-stops : goal.returns-in-Err-check_text-clause-stops
returns-in-Err-check_text-clause-stops g c =
    still_kept (g.I.Image.told c.args.image) _ c.in-Ok.found.memory.image c.give_back-image.ensures.told
    c.in-Ok.ensures.stops

pub returns-in-Ok-put_all-clause-printed : goal.returns-in-Ok-put_all-clause-printed
returns-in-Ok-put_all-clause-printed g c =
    let r = c.in-Ok.found in
    let opened = c.in-Ok.ensures.opened in
    let text : List ℕ = c.as_slice.result.now in
    record {
      words = shown opened.0;
      read = opened.1.attached.shows;
      text = text;
      says = is_checked (g.I.Image.told c.args.image) opened.0 r.memory r.version r.directory r.graph r.lines r.free
          r.undone opened.1 text (c.as_slice.ensures.value ∙ c.in-Ok-check_text.ensures.text);
      put = c.in-Ok-put_all.ensures.all;
    }

pub returns-in-Ok-put_all-clause-stops : goal.returns-in-Ok-put_all-clause-stops
returns-in-Ok-put_all-clause-stops g c =
    still_kept (g.I.Image.told c.args.image) _ c.in-Ok.found.memory.image c.give_back-image-2.ensures.told
    c.in-Ok.ensures.stops

pub returns-clause-unreported : goal.returns-clause-unreported
returns-clause-unreported g c =
    let r = c.in-Ok.found in
    let opened = c.in-Ok.ensures.opened in
    let text : List ℕ = c.as_slice.result.now in
    let some = c.in-Err-put_all.ensures.some in
    record {
      words = shown opened.0;
      read = opened.1.attached.shows;
      text = text;
      says = is_checked (g.I.Image.told c.args.image) opened.0 r.memory r.version r.directory r.graph r.lines r.free
          r.undone opened.1 text (c.as_slice.ensures.value ∙ c.in-Ok-check_text.ensures.text);
      many = some.0;
      less = some.1;
      put = some.2;
    }

pub returns-clause-stops : goal.returns-clause-stops
returns-clause-stops g c =
    still_kept (g.I.Image.told c.args.image) _ c.in-Ok.found.memory.image c.give_back-image-2.ensures.told
    c.in-Ok.ensures.stops

pub returns-in-Ok-put_all-clause-left : goal.returns-in-Ok-put_all-clause-left
returns-in-Ok-put_all-clause-left g c = λ put.
    let r = c.in-Ok.found in
    left_open (g.I.Image.told c.args.image) _ c.in-Ok.ensures.opened.0 r.memory r.version r.directory r.graph r.lines r.free r.undone
    c.in-Ok.ensures.opened.1 c.give_back-image-2.ensures.told

pub returns-clause-left : goal.returns-clause-left
returns-clause-left g c = λ put.
    let r = c.in-Ok.found in
    left_open (g.I.Image.told c.args.image) _ c.in-Ok.ensures.opened.0 r.memory r.version r.directory r.graph r.lines r.free r.undone
    c.in-Ok.ensures.opened.1 c.give_back-image-2.ensures.told
