-- The arguments that lie on top of a stack, one by one.
use Rattle.std.specs.Prelude.{◌≡◌, ℕ, ◌≤◌, List, [], length, Option, Some}
use Rattle.code_form.specs.declared.ins.Sort.{Sort}
use Rattle.code_form.specs.declared.ins.Sort.TheVariants as sort
use Rattle.frame_cells.specs.declared.cell.Cell.{Cell}
use Rattle.frame_cells.specs.Own.{Own, int_at, long_at, reference_at}
use Rattle.frames.specs.declared.given.Given.{Given}
use Rattle.frames.specs.declared.given.Given.TheVariants as given
use Rattle.frames.specs.Calls.{cells_taken, arguments_on, given_of}

-- how many cells an argument takes
abbrev pub argument_width : Sort → ℕ
argument_width sort.Long = 2
argument_width other = 1

module _ {R : Type 0} where
  -- the argument of this type that has so many cells of the stack above it, if there is one
  abbrev pub argument_at : Sort → ℕ → Own R → Option (Given R)
  argument_at sort.Int n own = given_of (int_at n own) given.Int
  argument_at sort.Long n own = given_of (long_at n own) given.Long
  argument_at sort.Reference n own = given_of (reference_at n own) given.Reference

  -- all arguments are there, and take so many cells
  pub record IsTaken (sorts : List Sort) (cells : List (Cell R)) (n : ℕ) : Type 0 where
    pub arguments : List (Given R)
    pub are : arguments_on sorts cells [] ≡ Some arguments
    pub count : n ≡ cells_taken sorts
    pub within : n ≤ length cells
