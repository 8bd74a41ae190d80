-- The table of starts, and the jumps that it is asked about.
use Rattle.std.proofs.Common.{◌≡◌, ℕ, zero, suc, ◌+◌, ◌<◌, true, false, not, List, ◌∷◌, length, get_or, drop, replicate, map}
use Rattle.std.proofs.Common.{Option, Some, refl, sym, ap, ◌∙◌}
use Rattle.std.specs.List.{list_all, find}
use Rattle.std.proofs.lemmas.List.{drop_more}
use Rattle.std.proofs.lemmas.List.Folds.{list_all-map}
use Rattle.code_form.specs.declared.ins.Case.{Case}
use Rattle.code_form.specs.declared.ins.Placed.{Placed}
use Rattle.code_form.specs.Spelling.{is_start, jumps_to_starts}
use Rattle.code_form.specs.Marks.{is_marked}

pub list_all_of_map : (code : List Placed) (cases : List Case)
    → list_all (is_start code) (map (λ c. c.target) cases) ≡ list_all (λ c. is_start code c.target) cases
list_all_of_map code cases = list_all-map (is_start code) (λ c. c.target) cases

pub none_marked : (n pc : ℕ) → is_marked (replicate n false) pc ≡ false
none_marked zero pc = refl
none_marked (suc n) zero = refl
none_marked (suc n) (suc pc) = none_marked n pc

module _ (code : List Placed) (i : ℕ) (within : i < length code) (p : Placed) (item : p ≡ get_or code i p)
    (first : Option Placed) (so_far : find (λ q. not (jumps_to_starts code q)) (drop i code) ≡ first) where
  next : drop i code ≡ p ∷ drop (i + 1) code
  next = drop_more code i p within ∙ ap (λ (q : Placed). q ∷ drop (i + 1) code) (sym item)

  -- an instruction that jumps astray is the first
  pub found_astray : jumps_to_starts code p ≡ false → first ≡ Some p
  found_astray test = sym so_far ∙ rw (next, test) refl

  -- one that doesn't isn't
  pub not_astray : jumps_to_starts code p ≡ true
      → find (λ q. not (jumps_to_starts code q)) (drop (i + 1) code) ≡ first
  not_astray test =
      let skipped : find (λ q. not (jumps_to_starts code q)) (drop i code) ≡ find
      (λ q. not (jumps_to_starts code q)) (drop (i + 1) code) = rw (next, test) refl in
      sym skipped ∙ so_far
