-- What the names of a member are.
use Rattle.class_code.specs.declared.names.Named.{Named}
use Rattle.class_code.specs.Entries.{MemberName}

abbrev pub name_of : Named → MemberName
name_of n = record { class = n.class.now; name = n.name.now; descriptor = n.descriptor.now }
