use Rattle.std.proofs.Common.{◌≡◌, drop}
use Rattle.std.specs.Prelude.{reverse}
use Rattle.std.specs.List.{flat_map}
use Rattle.class_set.specs.Members.{own_layout}
use Rattle.class_set.proofs.layouts.layout.Given as goal

abbrev pub invariant-loop-place : goal.invariant-loop-place
invariant-loop-place l = l.fields ≡ flat_map (own_layout l.files) (reverse (drop l.place l.chain.items))
