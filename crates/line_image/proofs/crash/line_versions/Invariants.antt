use Rattle.std.proofs.Common.{◌≡◌, ◌<◌, take, reverse, length}
use Rattle.line_image.specs.Trace.{versions_from}
use Rattle.line_image.proofs.crash.line_versions.Given as goal

abbrev pub invariant-loop-effect : goal.invariant-loop-effect
invariant-loop-effect l = record {
  some : 0 < length l.found.items;
  found : l.found.items ≡ reverse (versions_from l.fn.first (reverse (take l.effect-index l.done)) l.line);
}
