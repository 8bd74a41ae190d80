-- What the tables say of a class is what the set says of it.
use Rattle.std.specs.Prelude.{◌≡◌, ℕ, ◌≤◌, false, nat_lt, length, Option, Some, None}
use Rattle.run_types.specs.declared.fault.LinkKind.TheVariants.{MissingMethod}
use Rattle.run_types.specs.declared.resolved.MethodAt.{MethodAt}
use Rattle.plain_model.specs.Facts as facts
use Rattle.class_set.specs.Linked.{Linked}
use Rattle.class_set.specs.Facts.{facts_of}
use Rattle.class_set.specs.Lookups.{find_method}
use Rattle.frames.specs.Tables.{class_at, dispatched}
use Rattle.frames.specs.declared.program.Program.{Program}
use Rattle.frames.specs.declared.program.Target.{Target}
use Rattle.frames.specs.declared.program.Target.TheVariants as target
use Rattle.class_code.specs.Classes.{initialiser_of, supertypes_of, target_of}
use Rattle.class_code.specs.Entries.{Signature, called_method, place_from, signatures_of}

module _ (set : Linked) where
  -- an instance method that is found, or why it can't be called
  abbrev pub target_for : Option MethodAt → Target
  target_for None = target.Fails MissingMethod
  target_for (Some m) = target_of set (called_method set false m)

  -- what a call of a method by its name and descriptor comes to from a class on
  abbrev pub looked_up : (class : ℕ) → Signature → Target
  looked_up class s = target_for (find_method set class s.name s.descriptor)

  -- of the class or the array type with a number
  pub record IsTold {M : Type 0} (p : Program M) (n : ℕ) : Type 0 where
    pub superclass : (class_at p n).superclass ≡ (facts.class_at (facts_of set) n).superclass
    pub supertypes : (class_at p n).supertypes ≡ supertypes_of set n
    pub initialiser : (class_at p n).initialiser ≡ initialiser_of set n
    pub of_program : (class_at p n).of_program ≡ nat_lt n (length set.files)
    -- the number of a signature finds what the look-up of its method finds
    pub dispatch : (s : Signature) (k : ℕ) → place_from 0 (signatures_of set.files) s ≡ Some k
        → dispatched p n k ≡ looked_up n s
    -- and a number that no signature has finds nothing
    pub no_more : (k : ℕ) → length (signatures_of set.files) ≤ k
        → dispatched p n k ≡ target.Fails MissingMethod
