use Rattle.std.proofs.Common.{◌≡◌, ◌+◌, ◌++◌, length, drop, subst, arith}
use Rattle.std.proofs.lemmas.Result.{IfOk-weaker}
use Rattle.const_pool.specs.Pool.{IsPool, spelling}
use Rattle.const_pool.specs.Reading.{Gives}
use Rattle.const_pool.proofs.Pools.{StandsIn, read_stands, pool_again}
use Rattle.const_pool.proofs.reading.read_pool.Goals as goal

pub returns-clause-pool : goal.returns-clause-pool
returns-clause-pool c =
    let stands = read_stands c.args.bytes.now c.pool.result (λ i. omega (arith, c.type_inv.bytes i)) c.pool.ensures in
    IfOk-weaker c.pool.result (λ x. StandsIn c.args.bytes.now x) (λ x. IsPool x.0) (λ x s. s.pool) stands

pub returns-clause-found : goal.returns-clause-found
returns-clause-found c =
    let bytes = c.args.bytes.now in
    let stands = read_stands bytes c.pool.result (λ i. omega (arith, c.type_inv.bytes i)) c.pool.ensures in
    IfOk-weaker c.pool.result (λ x. StandsIn bytes x) (λ x. drop 8 bytes ≡ spelling x.0 ++ drop x.1 bytes) (λ x s. s.parts) stands

pub returns-clause-offset : goal.returns-clause-offset
returns-clause-offset c =
    let stands = read_stands c.args.bytes.now c.pool.result (λ i. omega (arith, c.type_inv.bytes i)) c.pool.ensures in
    IfOk-weaker c.pool.result (λ x. StandsIn c.args.bytes.now x) (λ x. x.1 ≡ 8 + length (spelling x.0)) (λ x s. s.ends) stands

pub returns-clause-only : goal.returns-clause-only
returns-clause-only c = λ pool rest is e.
    subst (λ f. Gives (λ x. x) c.pool.result f) (pool_again c.args.bytes.now rest pool is e) c.pool.ensures
