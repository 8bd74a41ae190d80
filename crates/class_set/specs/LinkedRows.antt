-- Two small class files that link: X with fields of each kind and a method that makes and names array types, and Y with a literal of X's.
use Rattle.std.specs.Prelude.{◌≡◌, ℕ, pos, true, false, List, [], ◌∷◌, codes, Some, None, map}
use Rattle.ap_base.specs.declared.kind.Kind.{Kind}
use Rattle.ap_base.specs.declared.kind.Kind.TheVariants.{Z, B, C, S, I, J, L}
use Rattle.ap_base.specs.declared.reference.Ref.TheVariants.{Volatile}
use Rattle.graph_model.specs.declared.types.Field.{Field as SlotField}
use Rattle.const_pool.specs.Pool.{Slots}
use Rattle.const_pool.specs.declared.entry.Entry.TheVariants as entry
use Rattle.code_form.specs.declared.ins.Primitive.TheVariants as primitive
use Rattle.code_form.specs.declared.ins.PoolUse.TheVariants as usage
use Rattle.code_form.specs.declared.ins.Ins.{Ins}
use Rattle.code_form.specs.declared.ins.Ins.TheVariants as ins
use Rattle.code_form.specs.declared.ins.Placed.{Placed}
use Rattle.class_file.specs.declared.field.Field.{Field}
use Rattle.class_file.specs.declared.method.Method.{Method}
use Rattle.class_file.specs.declared.method.MethodAttribute.TheVariants as attribute
use Rattle.plain_model.specs.Facts.{IntConstant, LiteralConstant, StaticFacts, class_at, element_of}
use Rattle.class_set.specs.declared.arrays.Listed.TheVariants.{Made}
use Rattle.class_set.specs.Linked.{Linked, class_named, with_array}
use Rattle.class_set.specs.ArrayTypes.{linked_from, listed_arrays, makes}
use Rattle.class_set.specs.Facts.{facts_of, roots_of}
use Rattle.class_set.specs.Literals.{literal}
use Rattle.class_set.specs.Rows.{class, field, method}

-- each even entry from 2 to 10 is a class
abbrev pub pool_of : (name : List ℕ) → (behind : Slots) → Slots
pool_of name behind =
    None ∷ Some (entry.Utf8 name) ∷ Some (entry.Class 1) ∷ Some (entry.Utf8 (codes "java/lang/Object")) ∷ Some (entry.Class 3)
    ∷ Some (entry.Utf8 (codes "[[J")) ∷ Some (entry.Class 5) ∷ Some (entry.Utf8 (codes "[LY;")) ∷ Some (entry.Class 7)
    ∷ Some (entry.Utf8 (codes "[I")) ∷ Some (entry.Class 9) ∷ Some (entry.Methodref (record { class = 10; name_and_type = 0 })) ∷ behind

-- the literals stand at 13 and 15, the constant 7 at 16, and from 17 on descriptors
abbrev pub pool_of_x : Slots
pool_of_x =
    pool_of (codes "X") (Some (entry.Utf8 (codes "hi")) ∷ Some (entry.String 12) ∷ Some (entry.Utf8 (codes "one")) ∷ Some (entry.String 14)
    ∷ Some (entry.Integer (pos 7)) ∷ Some (entry.Utf8 (codes "Z")) ∷ Some (entry.Utf8 (codes "B")) ∷ Some (entry.Utf8 (codes "C"))
    ∷ Some (entry.Utf8 (codes "S")) ∷ Some (entry.Utf8 (codes "I")) ∷ Some (entry.Utf8 (codes "J")) ∷ Some (entry.Utf8 (codes "LY;")) ∷ [])

abbrev pub pool_of_y : Slots
pool_of_y =
    pool_of (codes "Y") (Some (entry.Utf8 (codes "ho")) ∷ Some (entry.String 12) ∷ Some (entry.Utf8 (codes "hi")) ∷ Some (entry.String 14) ∷ [])

abbrev pub at : (pc : ℕ) → Ins → Placed
at pc i = record { pc = pc; ins = i }

-- arrays of each kind of numbers, of X and of arrays of ints, a cast, a call of an array's method, and an exception entry
abbrev pub with_code : Method
with_code = record (method 9 12 14) {
  attributes = attribute.Code 0 (record {
    max_stack = 1;
    max_locals = 1;
    bytes = [];
    instructions =
        at 0 (ins.NewArray primitive.Boolean) ∷ at 2 (ins.NewArray primitive.Char) ∷ at 4 (ins.NewArray primitive.Byte)
        ∷ at 6 (ins.NewArray primitive.Short) ∷ at 8 (ins.NewArray primitive.Int) ∷ at 10 (ins.NewArray primitive.Long)
        ∷ at 12 (ins.Pool usage.NewReferenceArray 2) ∷ at 15 (ins.Pool usage.NewReferenceArray 10) ∷ at 18 (ins.Pool usage.CheckCast 6)
        ∷ at 21 (ins.Pool usage.InvokeVirtual 11) ∷ [];
    handlers = record { start = 0; end = 2; handler = 4; catch = 8 } ∷ [];
    attributes = [];
  }) ∷ [];
}

abbrev pub fields_of_x : List Field
fields_of_x =
    field 1 1 17 ∷ field 1 1 18 ∷ record (field 9 12 21) { constant = Some 16 } ∷ field 1 1 19 ∷ field 1 1 20
    ∷ record (field 9 14 23) { constant = Some 15 } ∷ record (field 9 1 23) { root = true } ∷ field 1 1 21 ∷ field 1 1 22 ∷ field 1 1 23
    ∷ field 1 1 9 ∷ []

abbrev pub set : Linked
set = linked_from (class 0x21 pool_of_x [] fields_of_x (with_code ∷ []) ∷ class 0x21 pool_of_y [] [] [] ∷ [])

abbrev pub kind_of_field : SlotField → Kind
kind_of_field f = f.kind

pub record FilesAreLinked : Type 0 where
  -- the array types that are made, and those that are named too, in the order of their bytes
  pub made : listed_arrays Made set.files
      ≡ codes "[B" ∷ codes "[C" ∷ codes "[I" ∷ codes "[J" ∷ codes "[LX;" ∷ codes "[Ljava/lang/String;" ∷ codes "[S" ∷ codes "[Z" ∷ codes "[[I" ∷ []
  pub needed : set.arrays
      ≡ codes "[B" ∷ codes "[C" ∷ codes "[I" ∷ codes "[J" ∷ codes "[LX;" ∷ codes "[LY;" ∷ codes "[Ljava/lang/String;" ∷ codes "[S" ∷ codes "[Z"
      ∷ codes "[[I" ∷ codes "[[J" ∷ []
  -- their numbers begin at 30
  pub numbers : map (class_named set) (codes "[B" ∷ codes "[[J" ∷ codes "[[Z" ∷ []) ≡ Some 30 ∷ Some 40 ∷ None ∷ []
  pub are_made : map (makes set) (0 ∷ 30 ∷ 34 ∷ 35 ∷ 36 ∷ 39 ∷ 40 ∷ 41 ∷ []) ≡ false ∷ true ∷ true ∷ false ∷ true ∷ true ∷ false ∷ false ∷ []
  pub elements : map (element_of (facts_of set)) (30 ∷ 31 ∷ 32 ∷ 33 ∷ 34 ∷ 37 ∷ 38 ∷ 39 ∷ [])
      ≡ Some B ∷ Some C ∷ Some I ∷ Some J ∷ Some L ∷ Some S ∷ Some Z ∷ Some L ∷ []
  pub kinds : map kind_of_field (class_at (facts_of set) 0).shape.fields ≡ Z ∷ B ∷ C ∷ S ∷ I ∷ J ∷ L ∷ L ∷ []
  -- behind the stream and the arguments
  pub literals : literal set 0 13 ∷ literal set 0 15 ∷ literal set 1 13 ∷ literal set 1 15 ∷ literal set 0 16 ∷ literal set 2 13 ∷ []
      ≡ Some (Volatile 6) ∷ Some (Volatile 11) ∷ Some (Volatile 17) ∷ Some (Volatile 6) ∷ None ∷ None ∷ []
  pub constants : map (λ (s : StaticFacts). s.constant) (facts_of set).statics ≡ Some (IntConstant (pos 7)) ∷ Some (LiteralConstant 1) ∷ None ∷ []
  pub roots : roots_of (facts_of set) ≡ record { name = codes "X.X"; at = 3 } ∷ []
  -- one array type more
  pub more : class_named (with_array set (codes "[[Z")) (codes "[[Z") ≡ Some 41
  pub no_more : with_array set (codes "[[J") ≡ set
