-- The class of a name is one of the classes.
use Rattle.std.proofs.Common.{◌≡◌, ℕ, suc, Bool, true, false, List, [], ◌∷◌, Option, Some, if◌then◌else◌, subst, arith}
use Rattle.std.specs.Prelude.{All}
use Rattle.std.specs.Str.{bytes_eq}
use Rattle.class_file.specs.declared.class.ClassFile.{ClassFile}
use Rattle.class_links.specs.Names.{name_of}
use Rattle.assembly.specs.Assembling.{named_class}

either : (P : ClassFile → Type 0) (is : Bool) (first class : ClassFile) (others : Option ClassFile) → P first
    → (others ≡ Some class → P class) → (if is then Some first else others) ≡ Some class → P class
either P true first class others holds later found =
    let same : first ≡ class = cc in subst P same holds
either P false first class others holds later found = later found

-- what holds of all of them holds of it
pub found_holds : (P : ClassFile → Type 0) (name : List ℕ) (classes : List ClassFile) (class : ClassFile) → All P classes
    → named_class name classes ≡ Some class → P class
found_holds P name [] class all found = absurd cc
found_holds P name (first ∷ classes) class all found =
    either P (bytes_eq (name_of first) name) first class (named_class name classes) (all 0 first (omega arith))
    (found_holds P name classes class (λ k d below. all (suc k) d (omega (arith, below)))) found
