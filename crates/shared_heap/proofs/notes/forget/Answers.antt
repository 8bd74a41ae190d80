use Rattle.std.proofs.Common.{◌≡◌, ℕ, true, false, List, Option, None, Some, get_or, is_some, not, slice_set, sym, ◌∙◌, ap}
use Rattle.std.proofs.lemmas.List.{set-get_or}
use Rattle.shared_heap.proofs.notes.forget.Goals as goal

-- where nothing is noted, a list is what it is once nothing is
none-there : {X : Type 0} (xs : List (Option X)) (at : ℕ) (x : Option X) → x ≡ get_or xs at x → is_some x ≡ false
    → slice_set xs at None ≡ xs
none-there xs at None is none = ap (slice_set xs at) is ∙ set-get_or xs at None
none-there xs at (Some y) is none = absurd (let no : true ≡ false = none in cc)

pub returns-then-is_none : goal.returns-then-is_none
returns-then-is_none g c = record {
  none = sym (none-there c.args.noted.now.items c.args.at c.index.result.now c.index.ensures
      (c.is_none.ensures ∙ ap not c.if-is_none.true));
}
