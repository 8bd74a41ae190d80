use Rattle.std.proofs.Common.{◌≡◌, map, take}
use Rattle.std.specs.List.{flat_map}
use Rattle.class_links.specs.Names.{class_name, file_from}
use Rattle.class_links.proofs.classes.Classes.super_files.Given as goal

abbrev pub invariant-loop-index : goal.invariant-loop-index
invariant-loop-index l =
    l.numbers.items ≡ flat_map (file_from 0 l.self) (map (class_name l.file.pool) (take l.index-index l.index-items))
