-- What frames ask of each class of a set: what is above it, which methods its instances have, and its
-- initialiser (JVMS 2.9, 5.4.3.3, 5.5).
use Rattle.std.specs.Prelude.{ℕ, suc, nat_lt, false, List, [], ◌∷◌, ◌++◌, map, filter, codes, length, Option, Some, None}
use Rattle.std.specs.Prelude.{Result, Ok, Err, if◌then◌else◌}
use Rattle.std.specs.List.{range_with_len}
use Rattle.run_types.specs.declared.fault.LinkKind.{LinkKind}
use Rattle.run_types.specs.declared.resolved.MethodAt.{MethodAt}
use Rattle.plain_model.specs.Facts.{class_at, is_sub}
use Rattle.class_set.specs.Linked.{Linked, class_count, names_of}
use Rattle.class_set.specs.Facts.{facts_of}
use Rattle.class_set.specs.Lookups.{find_method, own_method}
use Rattle.frames.specs.declared.program.Class.{Class}
use Rattle.frames.specs.declared.program.Dispatch.{Dispatch}
use Rattle.frames.specs.declared.program.Target.{Target}
use Rattle.frames.specs.declared.program.Target.TheVariants as target
use Rattle.class_code.specs.Methods.{method_number}
use Rattle.class_code.specs.Entries.{Signature, signatures_of, called_method}

module _ (set : Linked) where
  -- the classes of which it is a subtype, by number (JVMS 4.10.1.2); of an array type nothing is told, as none is
  -- thrown
  abbrev pub supertypes_of : ℕ → List ℕ
  supertypes_of n =
      if nat_lt n (class_count set) then filter (is_sub (facts_of set) n) (range_with_len 0 (class_count set))
      else []

  abbrev pub target_of : Result MethodAt LinkKind → Target
  target_of (Ok m) = target.Method (method_number set m)
  target_of (Err kind) = target.Fails kind

  abbrev pub dispatch_to : (signature : ℕ) → Option MethodAt → List Dispatch
  dispatch_to signature None = []
  dispatch_to signature (Some m) =
      record { signature = signature; target = target_of (called_method set false m) } ∷ []

  -- what the look-up of each signature finds from a class on, where it finds a method
  abbrev pub dispatch_from : (class signature : ℕ) → List Signature → List Dispatch
  dispatch_from class n [] = []
  dispatch_from class n (s ∷ ss) =
      dispatch_to n (find_method set class s.name s.descriptor) ++ dispatch_from class (suc n) ss

  abbrev pub static_only : Option MethodAt → Option ℕ
  static_only None = None
  static_only (Some m) = if m.is_static then Some (method_number set m) else None

  -- the static method `<clinit>` that the class declares itself
  abbrev pub initialiser_of : ℕ → Option ℕ
  initialiser_of n =
      if nat_lt n (length set.files) then static_only (own_method set (codes "<clinit>") (codes "()V") n)
      else None

  abbrev pub class_of : ℕ → Class
  class_of n = record {
    supertypes = supertypes_of n;
    dispatch = dispatch_from n 0 (signatures_of set.files);
    superclass = (class_at (facts_of set) n).superclass;
    initialiser = initialiser_of n;
    of_program = nat_lt n (length set.files);
  }

  abbrev pub classes_of : List Class
  classes_of = map class_of (range_with_len 0 (length (names_of set)))
