-- What calls find in classes, by the numbers of signatures.
use Rattle.std.specs.Prelude.{◌≡◌, ℕ, suc, ◌+◌, ◌<◌, nat_eq, false, Bool, List, [], ◌∷◌, map, length, slice_index_or, Option}
use Rattle.std.specs.Prelude.{Some, None, if◌then◌else◌}
use Rattle.std.specs.List.{range_with_len}
use Rattle.run_types.specs.declared.resolved.MethodAt.{MethodAt}
use Rattle.built_in_table.specs.Members.{MemberFacts}
use Rattle.class_set.specs.Linked.{Linked, class_count}
use Rattle.class_set.specs.Members.{own_methods}
use Rattle.class_set.specs.Lookups.{first_some}
use Rattle.frames.specs.declared.program.Dispatch.{Dispatch}
use Rattle.frames.specs.declared.program.Target.{Target}
use Rattle.class_code.specs.declared.declared.Declared.{Declared}
use Rattle.class_code.specs.Classes.{target_of}
use Rattle.class_code.specs.Entries.{called_method, place_from, signatures_of}

module _ (set : Linked) where
  -- what a call comes to that finds this method
  abbrev pub target_at : MethodAt → Target
  target_at m = target_of set (called_method set false m)

  -- a method that a class declares at a place
  abbrev pub declared_at : (class place : ℕ) → MemberFacts → Declared
  declared_at class place m = record {
    signature = place_from 0 (signatures_of set.files) (record { name = m.name; descriptor = m.descriptor });
    target = target_at (record { class = class; method = place; is_static = m.is_static });
  }

  -- those of which the first has this place
  abbrev pub declared_from : (class place : ℕ) → List MemberFacts → List Declared
  declared_from class place [] = []
  declared_from class place (m ∷ ms) = declared_at class place m ∷ declared_from class (place + 1) ms

  abbrev pub declared_by : (class : ℕ) → List Declared
  declared_by class = declared_from class 0 (own_methods set class)

  -- those of each class that isn't an array type, by number
  abbrev pub all_declared : List (List Declared)
  all_declared = map declared_by (range_with_len 0 (class_count set))

-- ---- by the number of a signature

abbrev pub has_signature : ℕ → Option ℕ → Bool
has_signature number None = false
has_signature number (Some n) = nat_eq n number

-- what a call of the signature with this number finds first among these methods
abbrev pub found_among : (number : ℕ) → List Declared → Option Target
found_among number [] = None
found_among number (d ∷ ds) = if has_signature number d.signature then Some d.target else found_among number ds

-- in these classes, one after the other
abbrev pub found_along : Linked → (number : ℕ) → (classes : List ℕ) → Option Target
found_along set number classes = first_some (λ class. found_among number (declared_by set class)) classes

abbrev pub or_else : Option Target → Option Target → Option Target
or_else None other = other
or_else (Some target) other = Some target

-- what calls find, by the numbers of signatures, is filled up with what they find further on
pub record IsFilled (old new : List (Option Target)) (further : ℕ → Option Target) : Type 0 where
  pub count : length new ≡ length old
  pub found : (n : ℕ) → n < length old → slice_index_or new n None ≡ or_else (slice_index_or old n None) (further n)

-- the rows of these finds, of which the first is of this signature
abbrev pub dispatch_in : (number : ℕ) → List (Option Target) → List Dispatch
dispatch_in number [] = []
dispatch_in number (None ∷ ts) = dispatch_in (suc number) ts
dispatch_in number (Some t ∷ ts) = record { signature = number; target = t } ∷ dispatch_in (suc number) ts
