use Rattle.std.proofs.Common.{◌≡◌, List, ℕ, Result, Ok, Err, arith}
use Rattle.std.specs.Prelude.{IfOk}
use Rattle.parsing.specs.Bytes.{IsBytes}
use Rattle.class_file.specs.declared.class.ClassFile.{ClassFile}
use Rattle.class_file.specs.declared.refusal.ClassRefusal.{ClassRefusal}
use Rattle.class_file.specs.Refusals.{Gives}
use Rattle.class_file.specs.Classes.{CanBeRead, class_in, class_bytes}
use Rattle.class_file.proofs.Spelled.{class_spelled}
use Rattle.class_file.proofs.reading.read_class.Goals as goal

is_found : (bytes : List ℕ) (r : Result ClassFile ClassRefusal) → IsBytes bytes
    → Gives (λ c. c) r (class_in bytes) → IfOk r (λ c. bytes ≡ class_bytes c)
is_found bytes (Ok c) fits given = (class_spelled bytes c fits given).0
is_found bytes (Err e) fits given = tt

can_be_read : (bytes : List ℕ) (r : Result ClassFile ClassRefusal) → IsBytes bytes
    → Gives (λ c. c) r (class_in bytes) → IfOk r CanBeRead
can_be_read bytes (Ok c) fits given = record { bytes = bytes; are_bytes = fits; read = given }
can_be_read bytes (Err e) fits given = tt

pub returns-clause-found : goal.returns-clause-found
returns-clause-found c = is_found c.args.bytes.now c.class.result (λ i. omega (arith, c.type_inv.bytes i)) c.class.ensures

pub returns-clause-readable : goal.returns-clause-readable
returns-clause-readable c = can_be_read c.args.bytes.now c.class.result (λ i. omega (arith, c.type_inv.bytes i)) c.class.ensures
