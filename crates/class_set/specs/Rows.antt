-- A small class set: A extends B and implements J, B implements I, and the arrays of ints, Objects, and arrays of ints have numbers.
use Rattle.std.specs.Prelude.{◌≡◌, ℕ, Bool, true, false, List, [], ◌∷◌, codes, Some, None, map}
use Rattle.ap_base.specs.declared.kind.Kind.TheVariants.{I, L}
use Rattle.const_pool.specs.Pool.{Slots}
use Rattle.const_pool.specs.declared.entry.Entry.TheVariants as entry
use Rattle.class_file.specs.declared.field.Field.{Field}
use Rattle.class_file.specs.declared.method.Method.{Method}
use Rattle.class_file.specs.declared.class.ClassFile.{ClassFile}
use Rattle.plain_model.specs.Facts.{class_at, is_sub}
use Rattle.class_set.specs.Linked.{Linked, class_named}
use Rattle.class_set.specs.Facts.{facts_of}
use Rattle.class_set.specs.Lookups.{find_field, find_method}

-- entries 2, 4 and 6 are classes, the others behind them texts
abbrev pub pool_of : (name super interface : List ℕ) → Slots
pool_of name super interface =
    None ∷ Some (entry.Utf8 name) ∷ Some (entry.Class 1) ∷ Some (entry.Utf8 super) ∷ Some (entry.Class 3)
    ∷ Some (entry.Utf8 interface) ∷ Some (entry.Class 5) ∷ Some (entry.Utf8 (codes "s")) ∷ Some (entry.Utf8 (codes "b"))
    ∷ Some (entry.Utf8 (codes "I")) ∷ Some (entry.Utf8 (codes "a")) ∷ Some (entry.Utf8 (codes "[I"))
    ∷ Some (entry.Utf8 (codes "m")) ∷ Some (entry.Utf8 (codes "()V")) ∷ []

abbrev pub field : (access name descriptor : ℕ) → Field
field access name descriptor = record {
  access = access;
  name = name;
  descriptor = descriptor;
  attributes = [];
  constant = None;
  root = false;
  unrecoverable = false;
}

abbrev pub method : (access name descriptor : ℕ) → Method
method access name descriptor = record { access = access; name = name; descriptor = descriptor; attributes = [] }

abbrev pub class : (access : ℕ) → Slots → (interfaces : List ℕ) → List Field → List Method → ClassFile
class access pool interfaces fields methods = record {
  pool = pool;
  access = access;
  this_class = 2;
  super_class = 4;
  interfaces = interfaces;
  fields = fields;
  methods = methods;
  attributes = [];
}

abbrev pub object : List ℕ
object = codes "java/lang/Object"

abbrev pub set : Linked
set = record {
  files =
      class 0x21 (pool_of (codes "A") (codes "B") (codes "J")) (6 ∷ []) (field 1 10 11 ∷ []) []
      ∷ class 0x21 (pool_of (codes "B") object (codes "I")) (6 ∷ []) (field 9 7 9 ∷ field 1 8 9 ∷ []) (method 1 12 13 ∷ [])
      ∷ class 0x601 (pool_of (codes "I") object object) [] [] []
      ∷ class 0x601 (pool_of (codes "J") object object) [] (field 9 7 9 ∷ []) []
      ∷ [];
  arrays =
      codes "[C" ∷ codes "[Ljava/lang/String;" ∷ codes "[I" ∷ codes "[Ljava/lang/Object;" ∷ codes "[[I"
      ∷ codes "[Ljava/lang/Cloneable;" ∷ [];
}

-- the number of a class, past all where it has none
abbrev pub number : List ℕ → ℕ
number name = elim (class_named set name) [ None ↦ 100 | Some n ↦ n ]

-- whether a class or an array type is a subtype of another, by their names
abbrev pub below : (name above : List ℕ) → Bool
below name above = is_sub (facts_of set) (number name) (number above)

pub record SmallSetIsLookedUp : Type 0 where
  pub numbers : map number (codes "B" ∷ object ∷ codes "[C" ∷ codes "[[I" ∷ codes "X" ∷ []) ≡ 1 ∷ 22 ∷ 32 ∷ 36 ∷ 100 ∷ []
  -- the fields of the superclass stand first
  pub layout : (class_at (facts_of set) 0).shape.fields
      ≡ record { name = codes "b"; kind = I; kept = true } ∷ record { name = codes "a"; kind = L; kept = true } ∷ []
  pub own_field : find_field set 0 (codes "a") (codes "[I") ≡ Some (record { class = 0; is_static = false; at = 1; kind = L })
  pub field_above : find_field set 0 (codes "b") (codes "I") ≡ Some (record { class = 1; is_static = false; at = 0; kind = I })
  -- the superinterface's, and not the superclass's
  pub interface_first : find_field set 0 (codes "s") (codes "I") ≡ Some (record { class = 3; is_static = true; at = 2; kind = I })
  pub static_field : find_field set 1 (codes "s") (codes "I") ≡ Some (record { class = 1; is_static = true; at = 1; kind = I })
  pub no_field : find_field set 0 (codes "b") (codes "J") ≡ None
  pub method_above : find_method set 0 (codes "m") (codes "()V") ≡ Some (record { class = 1; method = 0; is_static = false })
  pub built_in_method : find_method set 0 (codes "equals") (codes "(Ljava/lang/Object;)Z")
      ≡ Some (record { class = 22; method = 1; is_static = false })
  pub method_of_array : find_method set (number (codes "[I")) (codes "equals") (codes "(Ljava/lang/Object;)Z")
      ≡ Some (record { class = 22; method = 1; is_static = false })
  pub no_method : find_method set 2 (codes "m") (codes "()V") ≡ None
  -- pairs of which the first is a subtype of the second
  pub subtypes : below (codes "A") (codes "I") ∷ below (codes "A") (codes "J") ∷ below (codes "[Ljava/lang/String;") (codes "[Ljava/lang/Object;")
      ∷ below (codes "[[I") (codes "[Ljava/lang/Object;") ∷ below (codes "[[I") (codes "[Ljava/lang/Cloneable;") ∷ below (codes "[I") object ∷ []
      ≡ true ∷ true ∷ true ∷ true ∷ true ∷ true ∷ []
  -- and pairs of which it isn't
  pub no_subtypes : below (codes "B") (codes "J") ∷ below (codes "I") (codes "J") ∷ below (codes "[I") (codes "[Ljava/lang/Object;")
      ∷ below (codes "[Ljava/lang/Object;") (codes "[Ljava/lang/String;") ∷ [] ≡ false ∷ false ∷ false ∷ false ∷ []
