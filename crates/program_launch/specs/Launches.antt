-- The code that a run of a class set begins with.
use Rattle.natives.specs.declared.methods.Native.{Native}
use Rattle.natives.specs.Methods.{native_at}
use Rattle.frames.specs.declared.program.Program.{Program}
use Rattle.class_set.specs.Linked.{Linked}
use Rattle.class_code.specs.Programs.{program_of}

-- the decoded code of the set's class files, and of the built-in methods
abbrev pub set_program : Linked → Program Native
set_program set = program_of native_at set
