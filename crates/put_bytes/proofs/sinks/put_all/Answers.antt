use Rattle.std.proofs.Common.{◌≡◌, ◌∙◌, List, ℕ, ap, take, length, arith}
use Rattle.std.proofs.lemmas.List.{length-drop, take_rest}
use Rattle.ap_base.specs.Sinks.{with_bytes}
use Rattle.put_bytes.proofs.Taking.{took-more}
use Rattle.put_bytes.proofs.sinks.put_all.Goals as goal

pub loop-taken-preserved : goal.loop-taken-preserved
loop-taken-preserved g c =
    let bytes = c.args.bytes.now in
    let k = c.loop-taken.taken in
    let n = c.in_ok-taken.field-0 in
    let rest = take_rest bytes k in
    record {
      within = (let fits = c.in_ok-taken.ensures.some.1 in let within = c.loop-taken.invariant.within in
          let same = ap (λ (xs : List ℕ). length xs) rest in let left = length-drop k bytes in
          omega (arith, fits, within, same, left));
      took = took-more (g.S.Sink.taken c.args.sink.now) (g.S.Sink.taken c.loop-taken.sink) (g.S.Sink.taken c.put.new.self)
          bytes k n c.loop-taken.invariant.took (c.in_ok-taken.ensures.taken
          ∙ ap (λ (xs : List ℕ). with_bytes (g.S.Sink.taken c.loop-taken.sink) (take n xs)) rest);
      unfailed = c.in_ok-taken.ensures.unfailed ∙ c.loop-taken.invariant.unfailed;
    }
