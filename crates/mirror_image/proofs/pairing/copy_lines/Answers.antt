use Rattle.std.proofs.Common.{◌∙◌, inl, arith}
use Rattle.mirror_image.proofs.Halfway.{keeps_low_then, keeps_low_did, alike_more}
use Rattle.mirror_image.proofs.pairing.copy_lines.Goals as goal

pub loop-line-preserved : goal.loop-line-preserved
loop-line-preserved g c = record {
  from_size = c.read_line.ensures.size ∙ c.loop-line.invariant.from_size;
  to_size = c.write_line.ensures.size ∙ c.loop-line.invariant.to_size;
  same = c.read_line.ensures.same ∙ c.loop-line.invariant.same;
  alike = alike_more c.loop-line.line _ _ _ _ _ _ c.loop-line.invariant.alike c.loop-line.invariant.same c.in_ok-read_line.ensures.words c.in_ok-write_line.ensures.written;
  from_calls = omega (arith, c.read_line.ensures.counted, c.loop-line.invariant.from_calls);
  to_calls = omega (arith, c.write_line.ensures.counted, c.loop-line.invariant.to_calls);
  low = keeps_low_then c.args.count _ _ _ c.loop-line.invariant.low (keeps_low_did c.args.count c.loop-line.line _ _ _ _ c.loop-line-test.true (inl c.in_ok-write_line.ensures.written));
  from_spared = c.in_ok-read_line.ensures.cause.spared ∙ c.loop-line.invariant.from_spared;
  to_spared = c.in_ok-write_line.ensures.cause.spared ∙ c.loop-line.invariant.to_spared;
}

pub returns-in_err-write_line-clause-low : goal.returns-in_err-write_line-clause-low
returns-in_err-write_line-clause-low g c = keeps_low_then c.args.count _ _ _ c.loop-line.invariant.low (keeps_low_did c.args.count c.loop-line.line _ _ _ _ c.loop-line-test.true c.in_err-write_line.ensures.failed)
