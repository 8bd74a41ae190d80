-- A refusal of a Code's content, or of the pool, is placed in the class file.
use Rattle.std.proofs.Common.{◌≡◌, ◌⊎◌, ℕ, Result, Err}
use Rattle.parsing.specs.Results.{placed}
use Rattle.parsing.proofs.Steps.{refused_placed}
use Rattle.const_pool.specs.declared.refusal.PoolRefusal.{PoolRefusal}
use Rattle.const_pool.specs.declared.refusal.PoolRefusal.TheVariants as pool
use Rattle.code_attribute.specs.declared.code.Code.{Code}
use Rattle.code_attribute.specs.declared.fault.CodeFault.{CodeFault}
use Rattle.code_attribute.specs.declared.fault.CodeFault.TheVariants as fault
use Rattle.class_file.specs.declared.refusal.ClassRefusal.TheVariants.{OutOfMemory}
use Rattle.class_file.specs.Refusals.{of_code, of_pool}

pub code_err : (method at : ℕ) (e : CodeFault) (read : Result Code CodeFault)
    → (e ≡ fault.OutOfMemory) ⊎ (read ≡ Err e)
    → (of_code method at e ≡ OutOfMemory) ⊎ (placed (of_code method at) read ≡ Err (of_code method at e))
code_err method at e read refused = refused_placed (of_code method at) fault.OutOfMemory e read refused

pub pool_err : {A : Type 0} (e : PoolRefusal) (read : Result A PoolRefusal) → (e ≡ pool.OutOfMemory) ⊎ (read ≡ Err e)
    → (of_pool e ≡ OutOfMemory) ⊎ (placed of_pool read ≡ Err (of_pool e))
pool_err e read refused = refused_placed of_pool pool.OutOfMemory e read refused
