use Rattle.std.proofs.Common.{◌≡◌, drop}
use Rattle.frames.specs.Tables.{target_of}
use Rattle.frame_thread.proofs.tables.target.Given as goal

-- no row so far has the signature
abbrev pub invariant-loop-row : goal.invariant-loop-row
invariant-loop-row l = target_of l.rows l.signature ≡ target_of (drop l.row-index l.rows) l.signature
