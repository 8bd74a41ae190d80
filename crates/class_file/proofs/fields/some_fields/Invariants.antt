use Rattle.std.proofs.Common.{◌≡◌, ℕ, ◌-◌, List, []}
use Rattle.class_file.specs.Members.{fields_from}
use Rattle.class_file.specs.RootNames.{AreTexts}
use Rattle.parsing.proofs.Loops.{with_front}
use Rattle.class_file.proofs.fields.some_fields.Given as goal

abbrev pub invariant-loop-number : goal.invariant-loop-number
invariant-loop-number l =
    (roots : List ℕ) × AreTexts l.pool roots l.roots
    × (with_front l.fields.items (fields_from l.pool roots l.number (l.count - l.number) l.file) ≡ fields_from l.pool [] 0 l.count l.fn.file)
