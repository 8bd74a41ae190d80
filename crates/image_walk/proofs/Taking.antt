-- Lines that are free or taken.
use Rattle.std.proofs.Common.{◌≡◌, ◌<◌, ◌+◌, ◌&&◌, ◌||◌, ℕ, Bool, true, false, List, Some, None, length, slice_index_or, nat_le}
use Rattle.std.proofs.Common.{nat_lt, refl, sym, ◌∙◌, arith}
use Rattle.std.proofs.lemmas.Bool.{le-ltb}
use Rattle.image_layout.specs.declared.superblock.BadReason.TheVariants as reasons
use Rattle.image_meaning.specs.Checks.{Words}
use Rattle.image_meaning.specs.Objects.{line_fault}
use Rattle.image_walk.specs.Walking.{IsTaken}

pub free_passes : (taken : List Bool) (words : Words) (earlier : List ℕ) (line i : ℕ) → IsTaken taken words earlier → line + i < length taken
    → slice_index_or taken (line + i) false ≡ false → line_fault words earlier line i ≡ None
free_passes taken words earlier line i is below free = rw (sym (is (line + i) below) ∙ free) refl

pub taken_fails : (taken now : List Bool) (words : Words) (earlier : List ℕ) (line i : ℕ) → IsTaken taken words earlier → line + i < length taken
    → slice_index_or now (line + i) false ≡ (slice_index_or taken (line + i) false || (nat_le line (line + i) && nat_lt (line + i) (line + i)))
    → slice_index_or now (line + i) false ≡ true → line_fault words earlier line i ≡ Some (line + i, reasons.Overlap)
taken_fails taken now words earlier line i is below are here =
    let past : nat_lt (line + i) (line + i) ≡ false = le-ltb (line + i) (line + i) (omega arith) in
    let was : slice_index_or taken (line + i) false ≡ true =
    sym (none_more (slice_index_or taken (line + i) false) (nat_le line (line + i)) (nat_lt (line + i) (line + i)) past) ∙ sym are ∙ here in
    rw (sym (is (line + i) below) ∙ was) refl
  where
    none_more : (a b c : Bool) → c ≡ false → (a || (b && c)) ≡ a
    none_more true b c e = refl
    none_more false true c e = e
    none_more false false c e = refl
