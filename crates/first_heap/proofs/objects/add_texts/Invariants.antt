use Rattle.std.proofs.Common.{◌≡◌, ◌++◌, map, take}
use Rattle.first_heap.specs.Objects.{text_object}
use Rattle.first_heap.proofs.objects.add_texts.Given as goal

abbrev pub invariant-loop-text : goal.invariant-loop-text
invariant-loop-text l =
    l.objects.items ≡ l.initial.objects.items ++ map (text_object l.class) (take l.text-index l.texts)
