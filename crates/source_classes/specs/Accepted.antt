-- Which class files are accepted.
use Rattle.std.specs.Prelude.{◌≤◌, List, All, length}
use Rattle.class_file.specs.Classes.{CanBeRead, HasAtMost}
use Rattle.class_file.specs.declared.class.ClassFile.{ClassFile}

-- as many as a source may have, each of which can be read and has as many bytes as a file may have
pub record AreAccepted (files : List ClassFile) : Type 0 where
  pub few : length files ≤ 4096
  pub readable : All CanBeRead files
  pub small : All (HasAtMost 1048576) files
