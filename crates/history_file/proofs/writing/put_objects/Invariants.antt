use Rattle.std.proofs.Common.{◌≡◌, ◌++◌, take}
use Rattle.history_file.specs.Spelling.{words}
use Rattle.history_file.proofs.writing.put_objects.Given as goal

abbrev pub invariant-loop-object : goal.invariant-loop-object
invariant-loop-object l = l.out.items ≡ l.initial.out.items ++ words (take l.object-index l.objects)
