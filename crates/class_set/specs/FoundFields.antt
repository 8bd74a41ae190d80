-- What a field that is found says: its slot or its number is that of the field with this name and kind.
use Rattle.std.specs.Prelude.{◌≡◌, ℕ, ◌+◌, ◌-◌, ◌<◌, Bool, true, false, List, ◌∷◌, ◌++◌, length, codes, slice_get, Some, ◌⊎◌}
use Rattle.run_types.specs.declared.resolved.FieldAt.{FieldAt}
use Rattle.plain_model.specs.BuiltIn.{system_place}
use Rattle.plain_model.specs.Facts.{SetFacts, StaticFacts, class_at}

-- the instance field with this name and kind stands at this slot of its class's shape
abbrev pub IsSlot : SetFacts → List ℕ → FieldAt → Type 0
IsSlot set name f = slice_get (class_at set f.class).shape.fields f.at ≡ Some (record { name = name; kind = f.kind; kept = true })

-- the static field with this number is of this class, name and kind
pub record IsStaticNumber (set : SetFacts) (name : List ℕ) (f : FieldAt) : Type 0 where
  pub numbered : 0 < f.at
  pub field : StaticFacts
  pub there : slice_get set.statics (f.at - 1) ≡ Some field
  pub class : field.class ≡ f.class
  pub named : field.name ≡ (class_at set f.class).shape.name ++ 46 ∷ name
  pub kind : field.kind ≡ f.kind

-- number 0, the field `out` of `java/lang/System`
pub record IsStream (set : SetFacts) (name : List ℕ) (f : FieldAt) : Type 0 where
  pub number : f.at ≡ 0
  pub class : f.class ≡ length set.program + system_place
  pub named : name ≡ codes "out"

abbrev pub IsFoundAs : Bool → SetFacts → List ℕ → FieldAt → Type 0
IsFoundAs true set name f = IsStaticNumber set name f ⊎ IsStream set name f
IsFoundAs false set name f = IsSlot set name f

abbrev pub IsFieldFound : SetFacts → List ℕ → FieldAt → Type 0
IsFieldFound set name f = IsFoundAs f.is_static set name f
