-- Class sets that are consistent, others that aren't, each by one fault, and the numbers that the runtime
-- knows.
use Rattle.std.specs.Prelude.{◌≡◌, ℕ, ◌^◌, pos, true, false, List, [], ◌∷◌, ◌++◌, map, codes, take, None, Some}
use Rattle.ap_base.specs.declared.kind.Kind.TheVariants.{I, L, Text}
use Rattle.plain_model.specs.declared.throws.Throws.{Throws}
use Rattle.plain_model.specs.declared.throws.Throws.TheVariants.{NegativeArraySize, NullPointer, ArrayIndexOutOfBounds}
use Rattle.plain_model.specs.declared.throws.Throws.TheVariants.{StringIndexOutOfBounds, ArrayStore, ClassCast}
use Rattle.plain_model.specs.declared.throws.Throws.TheVariants.{IllegalMonitorState, IllegalThreadState, IllegalState}
use Rattle.plain_model.specs.declared.throws.Throws.TheVariants.{Arithmetic}
use Rattle.plain_model.specs.Classes.{ClassFacts, ArrayType, Numbers, Missing}
use Rattle.plain_model.specs.BuiltIn.{class_under, field, chars_array, arguments_array, object_place}
use Rattle.plain_model.specs.Facts.{StaticFacts, LongConstant, LiteralConstant, SetFacts, known_classes, stream_class}
use Rattle.plain_model.specs.Facts.{arguments_class, thrown_class}
use Rattle.plain_model.specs.Consistent.{IsConsistent, IsComplete}
use Rattle.plain_model.specs.SubtypeRows.{drawing, drawing_classes, array_of, round, named, circle, disc, string, strings}
use Rattle.plain_model.specs.SubtypeRows.{chars}

-- the set of the drawings, with these classes Circle and Disc
abbrev pub with_classes : ClassFacts → ClassFacts → SetFacts
with_classes circle_facts disc_facts =
    record drawing { program = take 3 drawing_classes ++ circle_facts ∷ disc_facts ∷ [] }

abbrev pub a_circle : ClassFacts
a_circle = record (class_under 5 (codes "Circle") object_place) { interfaces = round ∷ [] }

abbrev pub a_disc : ClassFacts
a_disc = record (class_under 5 (codes "Disc") object_place) { superclass = Some circle }

abbrev pub IsRefused : SetFacts → Type 0
IsRefused set = IsConsistent set → ⊥

pub record ClassesAreRefused : Type 0 where
  pub own : IsConsistent drawing
  pub as_given : with_classes a_circle a_disc ≡ drawing
  pub named_twice : IsRefused (with_classes a_circle (class_under 5 (codes "Circle") object_place))
  pub named_as_built_in : IsRefused (with_classes a_circle
      (class_under 5 (codes "java/lang/Thread") object_place))
  pub without_super : IsRefused (with_classes (record a_circle { superclass = None }) a_disc)
  pub under_interface : IsRefused (with_classes a_circle (record a_disc { superclass = Some named }))
  pub under_final : IsRefused (with_classes a_circle (record a_disc { superclass = Some string }))
  pub under_array : IsRefused (with_classes a_circle (record a_disc { superclass = Some chars }))
  pub class_as_interface : IsRefused (with_classes a_circle (record a_disc { interfaces = circle ∷ [] }))
  pub circle : IsRefused (with_classes (record a_circle { superclass = Some disc }) a_disc)
  pub elements : IsRefused (with_classes a_circle (record a_disc {
    shape = record { name = codes "Disc"; fields = []; element = Some I };
  }))
  pub field_of_text : IsRefused (with_classes a_circle (record a_disc {
    shape = record { name = codes "Disc"; fields = field (codes "text") Text ∷ []; element = None };
  }))
  pub fields_lost : IsRefused (with_classes (record a_circle {
    shape = record { name = codes "Circle"; fields = field (codes "radius") I ∷ []; element = None };
  }) a_disc)

-- the set with this array type in place of the last
abbrev pub with_array : ArrayType → SetFacts
with_array a = record drawing { arrays = chars_array ∷ arguments_array 5 ∷ a ∷ [] }

pub record ArraysAreRefused : Type 0 where
  pub missing : IsConsistent (with_array (array_of (codes "[[LSquare;") 2 (Missing (codes "Square"))))
  pub there : IsRefused (with_array (array_of (codes "[[LDisc;") 2 (Missing (codes "Disc"))))
  pub another_descriptor : IsRefused (with_array (array_of (codes "[J") 1 (Numbers I)))
  pub too_deep : IsRefused (with_array (array_of (codes "[[I") 1 (Numbers I)))
  pub no_array : IsRefused (with_array (array_of (codes "I") 0 (Numbers I)))
  pub references : IsRefused (with_array (array_of (codes "[L") 1 (Numbers L)))
  pub no_chars : IsComplete (record drawing { arrays = arguments_array 5 ∷ [] }) → ⊥
  pub no_arguments : IsComplete (record drawing { arrays = chars_array ∷ [] }) → ⊥

-- the set with this static field and these literals
abbrev pub with_static : StaticFacts → List (List ℕ) → SetFacts
with_static s literals = record drawing { statics = s ∷ []; literals = literals }

abbrev pub a_static : StaticFacts
a_static = record {
  name = codes "Disc.text";
  class = disc;
  kind = L;
  constant =
      Some (LiteralConstant 1);
  is_root = false;
}

abbrev pub two_texts : List (List ℕ)
two_texts = codes "one" ∷ codes "two" ∷ []

pub record StaticsAreRefused : Type 0 where
  pub own : IsConsistent (with_static a_static two_texts)
  pub named_otherwise : IsRefused (with_static (record a_static { name = codes "Circle.text" }) two_texts)
  pub without_dot : IsRefused (with_static (record a_static { name = codes "Disc" }) two_texts)
  pub of_text : IsRefused (with_static (record a_static { kind = Text; constant = None }) two_texts)
  pub of_built_in : IsRefused (with_static (record a_static { class = string }) two_texts)
  pub no_reference : IsRefused (with_static (record a_static { kind = I }) two_texts)
  pub no_literal : IsComplete (with_static a_static (codes "one" ∷ [])) → ⊥
  pub no_long : IsRefused (with_static (record a_static {
    kind = I;
    constant =
        Some (LongConstant (pos 1));
  }) two_texts)
  pub root_of_ints : IsRefused (with_static (record a_static {
    kind = I;
    constant = None;
    is_root =
        true;
  }) two_texts)
  pub literal_twice : IsRefused (with_static a_static (codes "one" ∷ codes "one" ∷ []))
  pub no_char : IsRefused (with_static a_static (codes "one" ∷ (2 ^ 16 ∷ []) ∷ []))

abbrev pub every_throw : List Throws
every_throw =
    NegativeArraySize ∷ NullPointer ∷ ArrayIndexOutOfBounds ∷ StringIndexOutOfBounds ∷ ArrayStore ∷ ClassCast
    ∷ IllegalMonitorState ∷ IllegalThreadState ∷ IllegalState ∷ Arithmetic ∷ []

-- the numbers of what the runtime itself knows
pub record KnownAreThere : Type 0 where
  pub known : known_classes drawing ≡ record {
    chars = 33;
    string = 26;
    object = 23;
    runnable = 24;
    builder = 27;
    thread = 30;
    throwable = 31;
  }
  pub stream : stream_class drawing ≡ 6
  pub arguments : arguments_class drawing ≡ strings
  pub thrown : map (thrown_class drawing) every_throw ≡ (21 ∷ 22 ∷ 9 ∷ 28 ∷ 10 ∷ 11 ∷ 16 ∷ 18 ∷ 17 ∷ 8 ∷ [])
