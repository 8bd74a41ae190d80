-- The `main` that a look-up by name finds, by the number of its class.
use Rattle.std.proofs.Common.{◌≡◌, ℕ, true, false, if◌then◌else◌, Option, Some, None, Result, Ok, Err, refl, sym, ap, subst, ◌∙◌}
use Rattle.std.specs.Prelude.{codes}
use Rattle.run_types.specs.declared.resolved.MethodAt.{MethodAt}
use Rattle.class_set.specs.Linked.{Linked}
use Rattle.class_set.specs.Lookups.{find_method}
use Rattle.class_code.specs.Methods.{method_number}
use Rattle.program_launch.specs.declared.mains.Main.{Main}
use Rattle.program_launch.specs.declared.mains.NoMain.{NoMain}
use Rattle.program_launch.specs.declared.mains.NoMain.TheVariants.{Method}
use Rattle.program_launch.specs.Mains.{main_at, main_from}

abbrev class_in : Result Main NoMain → ℕ → ℕ
class_in (Ok main) n = main.class
class_in (Err none) n = n

class_at : (set : Linked) (n : ℕ) (m : Option MethodAt) → class_in (main_at set n m) n ≡ n
class_at set n None = refl
class_at set n (Some m) = elim m.is_static
    as (λ b. class_in (if b then Ok (record { class = n; method = method_number set m }) else Err Method) n ≡ n) [
      | true ↦ refl
      | false ↦ refl
    ]

-- it has the number of its class
pub main_known : (set : Linked) (o : Option ℕ) (main : Main) → main_from set o ≡ Ok main → main_from set (Some main.class) ≡ Ok main
main_known set None main is = absurd cc
main_known set (Some n) main is =
    let same : main.class ≡ n = sym (ap (λ (r : Result Main NoMain). class_in r n) is)
    ∙ class_at set n (find_method set n (codes "main") (codes "([Ljava/lang/String;)V")) in
    subst (λ (k : ℕ). main_from set (Some k) ≡ Ok main) (sym same) is
