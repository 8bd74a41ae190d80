use Rattle.std.proofs.Common.{◌≡◌, nat_eq, subst, sym, ◌∙◌}
use Rattle.std.specs.Prelude.{Contains}
use Rattle.std.specs.List.{dedup}
use Rattle.std.proofs.lemmas.List.Filters.{dedup_is}
use Rattle.std.proofs.lemmas.List.Kept.{Contains-dedup_nat, Contains-from_dedup}
use Rattle.std.proofs.lemmas.List.Sorted.{Contains-permutation, IsPermutation-sym}
use Rattle.class_links.proofs.classes.each_once.Goals as goal

pub returns : goal.returns
returns c =
    let numbers = c.args.numbers.items in
    let sorted = c.sort_unstable.new.self.items in
    let same : c.from_vec.result ≡ dedup nat_eq sorted =
    c.from_vec.ensures ∙ dedup_is nat_eq sorted c.dedup.new.self.items c.dedup.ensures.filtered in
    λ n. (
      λ h. Contains-permutation sorted numbers n (IsPermutation-sym numbers sorted c.sort_unstable.ensures.permutation)
          (Contains-from_dedup nat_eq sorted n (subst (λ xs. Contains xs n) same h)),
      λ h. subst (λ xs. Contains xs n) (sym same)
          (Contains-dedup_nat sorted n (Contains-permutation numbers sorted n c.sort_unstable.ensures.permutation h)),
    )
