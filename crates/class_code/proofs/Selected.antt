-- The selectors of entries, and the cells of their arguments.
use Rattle.std.proofs.Common.{true, false, ◌≡◌, ℕ, ◌+◌, ◌<◌, List, [], ◌∷◌, Option, Some, None, refl, ap, if◌then◌else◌, arith}
use Rattle.std.specs.Prelude.{Bool, Result, Ok, Err, filter, nat_lt}
use Rattle.std.specs.Option.{option_to_list}
use Rattle.std.proofs.lemmas.Bool.Decides.{nat_tests}
use Rattle.run_types.specs.declared.fault.LinkKind.{LinkKind}
use Rattle.code_form.specs.declared.ins.Sort.{Sort}
use Rattle.code_form.specs.declared.ins.Sort.TheVariants as sort
use Rattle.frames.specs.Calls.{cells_taken}
use Rattle.frames.specs.declared.program.Selector.{Selector}
use Rattle.class_code.specs.Entries.{is_callable, row_of}
use Rattle.class_code.specs.Selected.{if_callable, on_stack}

pub cells_more : (s : Sort) (ss : List Sort) → cells_taken (s ∷ ss) ≡ cells_taken (s ∷ []) + cells_taken ss
cells_more sort.Long ss = omega arith
cells_more sort.Int ss = omega arith
cells_more sort.Reference ss = omega arith

pub too_many : (cells : ℕ) → 65535 < cells → on_stack cells ≡ None
too_many cells h = let no : nat_lt cells 65536 ≡ false = grind (arith, nat_tests) in ap (λ b. if b then Some cells else None) no

pub few_cells : (cells : ℕ) → cells < 65536 → on_stack cells ≡ Some cells
few_cells cells h = let yes : nat_lt cells 65536 ≡ true = grind (arith, nat_tests) in ap (λ b. if b then Some cells else None) yes

-- the rows of a selector that was made
abbrev pub rows_made : Result (Option Selector) LinkKind → List Selector
rows_made (Err kind) = []
rows_made (Ok o) = option_to_list o

chosen : (b : Bool) (s : Selector) → (if b then s ∷ [] else []) ≡ option_to_list (if b then Some s else None)
chosen true s = refl
chosen false s = refl

pub rows_callable : (r : Result Selector LinkKind) → filter is_callable (row_of r) ≡ rows_made (if_callable r)
rows_callable (Err kind) = refl
rows_callable (Ok s) = chosen (is_callable s) s
