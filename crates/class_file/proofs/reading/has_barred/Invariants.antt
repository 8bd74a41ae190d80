use Rattle.std.proofs.Common.{◌≡◌, drop}
use Rattle.std.specs.List.{list_any}
use Rattle.class_file.specs.Classes.{is_barred}
use Rattle.class_file.proofs.reading.has_barred.Given as goal

abbrev pub invariant-loop-b : goal.invariant-loop-b
invariant-loop-b l = list_any is_barred l.name ≡ list_any is_barred (drop l.b-index l.name)
