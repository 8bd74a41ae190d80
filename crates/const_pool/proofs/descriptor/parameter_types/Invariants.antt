use Rattle.std.proofs.Common.{◌≡◌, ◌≤◌, ◌+◌, ◌-◌, length, vec_len}
use Rattle.const_pool.specs.Utf8.{IsModifiedUtf8}
use Rattle.const_pool.specs.Parsing.{parameters_at}
use Rattle.parsing.proofs.Options.{with_front}
use Rattle.const_pool.proofs.descriptor.parameter_types.Given as goal

abbrev pub invariant-parameters : goal.invariant-parameters
invariant-parameters l = record {
  good : IsModifiedUtf8 l.rest;
  room : length l.rest + vec_len l.types ≤ length l.bytes;
  so_far : with_front l.types.items (parameters_at (length l.bytes - vec_len l.types) l.rest) ≡ parameters_at (length l.bytes) l.bytes;
}

abbrev pub decreases-parameters : goal.decreases-parameters
decreases-parameters l = length l.rest
