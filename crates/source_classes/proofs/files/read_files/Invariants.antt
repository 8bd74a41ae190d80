-- The files so far were read, and as many may follow.
use Rattle.std.proofs.Common.{◌≤◌, ◌-◌}
use Rattle.std.specs.Prelude.{All}
use Rattle.class_file.specs.Classes.{CanBeRead, HasAtMost}
use Rattle.source_classes.proofs.SourceFiles.{HasRead}
use Rattle.source_classes.proofs.files.read_files.Given as goal

abbrev pub invariant-loop : goal.invariant-loop
invariant-loop g l = record {
  read : HasRead (g.C.ClassSource.left l.fn.source) (g.C.ClassSource.left l.source) (4096 - l.counter) l.classes.items;
  readable : All CanBeRead l.classes.items;
  small : All (HasAtMost 1048576) l.classes.items;
  later : g.C.ClassSource.faults l.fn.source ≤ g.C.ClassSource.faults l.source;
}
