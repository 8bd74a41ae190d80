-- The numbers of the first methods of classes, by the numbers of the classes.
use Rattle.std.specs.Prelude.{◌≡◌, ℕ, ◌+◌, ◌<◌, ◌^◌, List, slice_index_or}
use Rattle.class_set.specs.Linked.{Linked}
use Rattle.class_code.specs.Methods.{first_method, method_count}

pub record AreFirsts (set : Linked) (firsts : List ℕ) : Type 0 where
  -- each class that declares a method has its first one's number
  pub first : (class : ℕ) → 0 < method_count set class
      → slice_index_or firsts class 0 ≡ first_method set class
  pub room : (class method : ℕ) → method < method_count set class → first_method set class + method < 2 ^ 32
