-- Calls find what a class declares, and then what is found from its superclass on (JVMS 5.4.3.3, 6.5).
use Rattle.std.specs.Prelude.{◌≡◌, ◌⊎◌, ℕ, ◌<◌, codes, false, true, length, All, IfSome, Option, Some, None}
use Rattle.run_types.specs.declared.fault.LinkKind.TheVariants.{MissingMethod}
use Rattle.run_types.specs.declared.resolved.MethodAt.{MethodAt}
use Rattle.plain_model.specs.Facts as facts
use Rattle.class_set.specs.Linked.{Linked}
use Rattle.class_set.specs.Facts.{facts_of}
use Rattle.class_set.specs.Lookups.{own_method}
use Rattle.frames.specs.Tables.{class_at, dispatched}
use Rattle.frames.specs.declared.program.Dispatch.{Dispatch}
use Rattle.frames.specs.declared.program.Program.{Program}
use Rattle.frames.specs.declared.program.Target.{Target}
use Rattle.frames.specs.declared.program.Target.TheVariants as target
use Rattle.class_code.specs.Declarations.{target_at}
use Rattle.class_code.specs.Methods.{can_run, method_count, method_number}

-- what calls of the signature with a number find from a superclass on
abbrev pub found_above : {M : Type 0} → Program M → Option ℕ → (signature : ℕ) → Target
found_above p None signature = target.Fails MissingMethod
found_above p (Some super) signature = dispatched p super signature

module _ (set : Linked) where
  -- a call comes to a method that the class itself declares
  pub record IsOwnTarget (n : ℕ) (t : Target) : Type 0 where
    pub method : MethodAt
    pub own : method.class ≡ n
    pub there : method.method < method_count set n
    pub target : t ≡ target_at set method

  -- a method that is called is there, isn't static, and has code or is built in
  pub record IsRunnable (number : ℕ) : Type 0 where
    pub method : MethodAt
    pub there : method.method < method_count set method.class
    pub of_instance : method.is_static ≡ false
    pub runs : can_run set method ≡ true
    pub numbered : number ≡ method_number set method

  abbrev pub IsTargetOf : Target → Type 0
  IsTargetOf (target.Method number) = IsRunnable number
  IsTargetOf (target.Fails kind) = Unit {0}

  -- the static method `<clinit>` that the class declares itself
  pub record IsInitialiserOf (n number : ℕ) : Type 0 where
    pub method : MethodAt
    pub own : own_method set (codes "<clinit>") (codes "()V") n ≡ Some method
    pub class : method.class ≡ n
    pub there : method.method < method_count set n
    pub static : method.is_static ≡ true
    pub of_program : n < length set.files
    pub numbered : number ≡ method_number set method

  -- the row of a class or an array type
  pub record IsInherited {M : Type 0} (p : Program M) (n : ℕ) : Type 0 where
    pub inherited : (signature : ℕ) → IsOwnTarget n (dispatched p n signature)
        ⊎ (dispatched p n signature ≡ found_above p (facts.class_at (facts_of set) n).superclass signature)
    pub targets : All (λ (d : Dispatch). IsTargetOf d.target) (class_at p n).dispatch
    pub initialiser : IfSome (class_at p n).initialiser (IsInitialiserOf n)
