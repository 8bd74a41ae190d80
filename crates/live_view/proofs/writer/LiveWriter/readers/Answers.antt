use Rattle.std.proofs.Common.{◌∙◌, [], ◌∷◌, ap, arith, length}
use Rattle.std.proofs.lemmas.List.{length-append}
use Rattle.live_view.specs.Watching.{Learned}
use Rattle.std.specs.Prelude.{List}
use Rattle.live_view.proofs.Watched.{readers_more}
use Rattle.live_view.proofs.writer.LiveWriter.readers.Goals as goal

pub loop-number-preserved : goal.loop-number-preserved
loop-number-preserved g c =
    let items = c.loop-number.readers.items in
    let all = ap (λ (rs : List Learned). length rs) c.in_ok-push.ensures.items in
    let so_far = c.loop-number.invariant.count in
    record {
      same = c.reader.ensures.same ∙ c.loop-number.invariant.same;
      count = omega (arith, all, so_far, length-append items (c.in_ok-reader.field-0 ∷ []));
      readers = readers_more c.loop-number.self c.reader.new.self items c.push.new.self.items c.in_ok-reader.field-0
          c.reader.ensures.same c.loop-number.invariant.readers c.in_ok-reader.ensures.reader c.in_ok-push.ensures.items;
    }
