use Rattle.std.proofs.Common.{◌≡◌, ◌+◌, min}
use Rattle.mirror_image.specs.Joint.{most}
use Rattle.mirror_image.specs.Sound.{ReadsAlike}
use Rattle.mirror_image.specs.Halfway.{KeepsLow}
use Rattle.mirror_image.proofs.pairing.copy_lines.Given as goal

abbrev pub invariant-loop-line : goal.invariant-loop-line
invariant-loop-line g l = record {
  from_size : (g.A.Image.told l.from).size ≡ (g.A.Image.told l.fn.from).size;
  to_size : (g.B.Image.told l.to).size ≡ (g.B.Image.told l.fn.to).size;
  same : (g.A.Image.told l.from).trace ≡ (g.A.Image.told l.fn.from).trace;
  alike : ReadsAlike l.line (g.B.Image.told l.to).trace (g.A.Image.told l.fn.from).trace;
  from_calls : (g.A.Image.told l.from).calls ≡ min ((g.A.Image.told l.fn.from).calls + l.line) most;
  to_calls : (g.B.Image.told l.to).calls ≡ min ((g.B.Image.told l.fn.to).calls + l.line) most;
  low : KeepsLow l.count (g.B.Image.told l.fn.to).trace (g.B.Image.told l.to).trace;
  from_spared : g.A.Image.faults l.from ≡ g.A.Image.faults l.fn.from;
  to_spared : g.B.Image.faults l.to ≡ g.B.Image.faults l.fn.to;
}
