use Rattle.std.proofs.Common.{◌++◌}
use Rattle.std.proofs.lemmas.List.{drop_at}
use Rattle.const_pool.specs.Pool.{spelling}
use Rattle.const_pool.proofs.Pools.{pool_again}
use Rattle.const_pool.proofs.reading.each_pool_is_read_back.Goals as goal

pub returns : goal.returns
returns c = λ pool head rest is len. pool_again (head ++ (spelling pool ++ rest)) rest pool is (drop_at head (spelling pool ++ rest) 8 len)
