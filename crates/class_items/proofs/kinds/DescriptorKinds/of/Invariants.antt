use Rattle.std.proofs.Common.{◌≡◌, ℕ, ◌<◌, vec_len, slice_index_or}
use Rattle.class_items.specs.declared.kinds.DescriptorKind.TheVariants.{Neither}
use Rattle.class_items.specs.Kinds.{kind_at}
use Rattle.class_items.proofs.kinds.DescriptorKinds.of.Given as goal

abbrev pub invariant-loop-index : goal.invariant-loop-index
invariant-loop-index l = record {
  count : vec_len l.kinds ≡ l.index;
  each : (i : ℕ) → i < l.index → slice_index_or l.kinds.items i Neither ≡ kind_at l.pool i;
}
