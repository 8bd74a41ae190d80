use Rattle.std.proofs.Common.{◌≡◌, ◌<◌, ◌≤◌, ◌+◌, ◌-◌, ◌^◌, min, ℕ, [], length, get_or}
use Rattle.line_image.specs.Trace.{Reads}
use Rattle.line_memory.proofs.attach.read_lines.Given as goal

abbrev pub invariant-loop-line : goal.invariant-loop-line
invariant-loop-line g l = record {
  count : length l.lines.items ≡ l.line;
  size : (g.I.Image.told l.image).size ≡ (g.I.Image.told l.fn.image).size;
  same : (g.I.Image.told l.image).trace ≡ (g.I.Image.told l.fn.image).trace;
  reads : (k : ℕ) → k < l.line → Reads (g.I.Image.told l.fn.image).trace k (get_or l.lines.items k []);
  calls : (g.I.Image.told l.image).calls ≡ min ((g.I.Image.told l.fn.image).calls + l.line) (2 ^ 64 - 1);
  faults : g.I.Image.faults l.image ≡ g.I.Image.faults l.fn.image;
}
