-- Past the end of a pool there is no text.
use Rattle.std.proofs.Common.{◌≡◌, ℕ, ◌≤◌, ◌<◌, length, List, Option, None, refl, ap, arith, slice_index_or, inl, inr}
use Rattle.std.proofs.lemmas.List.{get_or_past}
use Rattle.std.proofs.lemmas.Bool.{cases_lt}
use Rattle.const_pool.specs.declared.entry.Entry.{Entry}
use Rattle.const_pool.specs.Pool.{Slots, text_of}
use Rattle.class_items.specs.declared.kinds.DescriptorKind.{DescriptorKind}
use Rattle.class_items.specs.declared.kinds.DescriptorKind.TheVariants.{Neither}
use Rattle.class_items.specs.Kinds.{kind_at, kind_of_some}

past_is_neither : (pool : Slots) (i : ℕ) → length pool ≤ i → kind_at pool i ≡ Neither
unfolding kind_at
past_is_neither pool i le = ap (λ (e : Option Entry). kind_of_some (text_of e)) (get_or_past pool i None le)

-- the kinds of all indices within a pool are those of all indices
pub each_kind : (pool : Slots) (kinds : List DescriptorKind) (n : ℕ) → length kinds ≡ n → length pool ≤ n
    → ((i : ℕ) → i < n → slice_index_or kinds i Neither ≡ kind_at pool i) → (i : ℕ)
    → slice_index_or kinds i Neither ≡ kind_at pool i
each_kind pool kinds n len le within i =
    elim (cases_lt i n) [
      | inl lt ↦ within i lt
      | inr ge ↦ rw (get_or_past kinds i Neither (omega (arith, len)), past_is_neither pool i (omega arith)) refl
    ]
