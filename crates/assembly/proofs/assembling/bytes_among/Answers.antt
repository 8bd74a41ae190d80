use Rattle.std.proofs.Common.{sym}
use Rattle.class_file.specs.Classes.{CanBeRead}
use Rattle.assembly.proofs.Named.{found_holds}
use Rattle.assembly.proofs.assembling.bytes_among.Goals as goal

pub write_class-requires : goal.write_class-requires
write_class-requires c =
    found_holds CanBeRead c.as_slice.result.now c.args.classes.now c.in-Some.found.now c.requires.readable (sym c.in-Some.ensures)
