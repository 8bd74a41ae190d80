use Rattle.std.proofs.Common.{map, take}
use Rattle.class_links.specs.Names.{super_files}
use Rattle.graph_walks.specs.Paths.{HaveSameEdges}
use Rattle.class_links.proofs.classes.Classes.super_edges.Given as goal

abbrev pub invariant-loop-file : goal.invariant-loop-file
invariant-loop-file l = HaveSameEdges l.edges.items (map (super_files l.self) (take l.file-index l.self))
