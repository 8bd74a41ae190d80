-- The table in the code is that of the definition.
use Rattle.std.proofs.Common.{◌≡◌, refl, ℕ, ◌<◌, ◌≤◌, List, [], length, map, Option, None, ap, sym, ◌∙◌}
use Rattle.std.specs.Prelude.{slice_index_or}
use Rattle.std.proofs.lemmas.List.{get_or-map, get_or_past}
use Rattle.natives.specs.declared.methods.Native.{Native}
use Rattle.natives.specs.declared.methods.Group.{Group}
use Rattle.natives.specs.declared.methods.TheConstants.{BUILT_IN}
use Rattle.natives.specs.Groups.{group_natives}
use Rattle.natives.specs.Methods.{built_in_natives, native_at}

pub table_is : built_in_natives ≡ map group_natives BUILT_IN
unfolding built_in_natives
table_is = refl

pub natives_at : (place method : ℕ) (row : Group) → place < length BUILT_IN → row
    ≡ slice_index_or BUILT_IN place row
    → slice_index_or (group_natives row) method None ≡ native_at place method
natives_at place method row less is = ap (λ natives. slice_index_or natives method None)
    (ap group_natives is ∙ sym (get_or-map group_natives BUILT_IN place row [] less)
    ∙ ap (λ table. slice_index_or table place []) (sym table_is))

pub none_at : (place method : ℕ) → length BUILT_IN ≤ place → None ≡ native_at place method
unfolding built_in_natives
none_at place method past = ap (λ natives. slice_index_or natives method None)
    (sym (get_or_past built_in_natives place [] past))
