use Rattle.std.proofs.Common.{◌≡◌, ◌++◌, drop, map}
use Rattle.std.specs.List.{flat_map}
use Rattle.std.specs.Option.{option_to_list}
use Rattle.class_links.specs.Names.{class_name}
use Rattle.text_table.specs.Texts.{place_of}
use Rattle.class_set.proofs.interfaces.numbers_of.Given as goal

abbrev pub invariant-loop-index : goal.invariant-loop-index
invariant-loop-index l =
    l.numbers.items ++ flat_map (λ name. option_to_list (place_of l.names name)) (map (class_name l.file.pool) (drop l.index-index l.index-items))
    ≡ flat_map (λ name. option_to_list (place_of l.names name)) (map (class_name l.file.pool) l.index-items)
