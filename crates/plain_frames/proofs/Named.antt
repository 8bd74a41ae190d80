-- The built-in methods by their names: the tables of names and of native methods are in step.
use Rattle.std.proofs.Common.{refl, ℕ, zero, suc, ◌≤◌, List, [], ◌∷◌, length, None, arith}
use Rattle.std.specs.Prelude.{slice_index_or}
use Rattle.std.proofs.lemmas.List.{get_or_past}
use Rattle.natives.specs.Methods.{Natives, built_in_natives}
use Rattle.built_in_table.specs.Members.{BuiltInClass, built_in_members, built_in_names, with_methods}
use Rattle.plain_frames.specs.NamedMethods.{BuiltInMethodsAreNamed, NoOthersAsk}

pub named : BuiltInMethodsAreNamed
unfolding built_in_natives built_in_members built_in_names
named = refl

-- no class has more native methods than methods
abbrev pub AreWithin : List Natives → List BuiltInClass → Type 0
AreWithin [] cs = Unit {0}
AreWithin (n ∷ ns) [] = ⊥
AreWithin (n ∷ ns) (c ∷ cs) = (length n ≤ length c.methods) × AreWithin ns cs

pub within_at : (ns : List Natives) (cs : List BuiltInClass) → AreWithin ns cs → (place : ℕ)
    → length (slice_index_or ns place []) ≤ length (slice_index_or cs place (with_methods [])).methods
within_at [] cs h place = omega arith
within_at (n ∷ ns) [] h place = absurd h
within_at (n ∷ ns) (c ∷ cs) h zero = h.0
within_at (n ∷ ns) (c ∷ cs) h (suc place) = within_at ns cs h.1 place

pub are_within : AreWithin built_in_natives built_in_members
unfolding built_in_natives built_in_members
are_within = grind arith

pub no_others : NoOthersAsk
no_others place method past = get_or_past (slice_index_or built_in_natives place []) method None
    (let few = within_at built_in_natives built_in_members are_within place in omega (arith, few, past))
