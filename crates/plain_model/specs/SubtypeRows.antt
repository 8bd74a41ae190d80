-- Which types are subtypes of which, and what an array may hold, in one class set, as tables (JVMS 4.10.1.2,
-- aastore).
use Rattle.std.specs.Prelude.{◌≡◌, ℕ, Bool, true, false, List, [], ◌∷◌, map, codes, Some, None}
use Rattle.ap_base.specs.declared.kind.Kind.TheVariants.{C, I, L}
use Rattle.plain_model.specs.Classes.{ClassFacts, ArrayType, Innermost, Numbers, Missing}
use Rattle.plain_model.specs.BuiltIn.{class_under, interface, chars_array, arguments_array, array_of_kind, array_of_objects}
use Rattle.plain_model.specs.BuiltIn.{object_place}
use Rattle.plain_model.specs.Facts.{SetFacts, element_of, is_sub, may_hold}

abbrev pub drawable : ℕ
drawable = 0

abbrev pub round : ℕ
round = 1

abbrev pub named : ℕ
named = 2

abbrev pub circle : ℕ
circle = 3

abbrev pub disc : ℕ
disc = 4

abbrev pub serializable : ℕ
serializable = 7

abbrev pub cloneable : ℕ
cloneable = 12

abbrev pub object : ℕ
object = 23

abbrev pub runnable : ℕ
runnable = 24

abbrev pub string : ℕ
string = 26

abbrev pub chars : ℕ
chars = 33

abbrev pub ints : ℕ
ints = 34

abbrev pub circles : ℕ
circles = 35

abbrev pub drawables : ℕ
drawables = 36

abbrev pub cloneables : ℕ
cloneables = 37

abbrev pub objects : ℕ
objects = 38

abbrev pub strings : ℕ
strings = 39

abbrev pub int_arrays : ℕ
int_arrays = 40

abbrev pub squares : ℕ
squares = 41

abbrev pub triangles : ℕ
triangles = 42

abbrev pub square_arrays : ℕ
square_arrays = 43

-- interface Drawable; interface Round extends Drawable; interface Named; class Circle implements Round;
-- class Disc extends Circle
abbrev pub drawing_classes : List ClassFacts
drawing_classes =
    interface 5 (codes "Drawable")
    ∷ record (interface 5 (codes "Round")) { interfaces = drawable ∷ [] }
    ∷ interface 5 (codes "Named")
    ∷ record (class_under 5 (codes "Circle") object_place) { interfaces = round ∷ [] }
    ∷ record (class_under 5 (codes "Disc") object_place) { superclass = Some circle }
    ∷ []

abbrev pub array_of : List ℕ → ℕ → Innermost → ArrayType
array_of descriptor dimensions innermost =
    record { descriptor = descriptor; dimensions = dimensions; innermost = innermost }

-- Classes Square and Triangle are missing.
abbrev pub drawing_arrays : List ArrayType
drawing_arrays =
    chars_array
    ∷ array_of_kind (codes "[I") I
    ∷ array_of_objects (codes "[LCircle;") circle
    ∷ array_of_objects (codes "[LDrawable;") drawable
    ∷ array_of_objects (codes "[Ljava/lang/Cloneable;") cloneable
    ∷ array_of_objects (codes "[Ljava/lang/Object;") object
    ∷ arguments_array 5
    ∷ array_of (codes "[[I") 2 (Numbers I)
    ∷ array_of (codes "[LSquare;") 1 (Missing (codes "Square"))
    ∷ array_of (codes "[LTriangle;") 1 (Missing (codes "Triangle"))
    ∷ array_of (codes "[[LSquare;") 2 (Missing (codes "Square"))
    ∷ []

abbrev pub drawing : SetFacts
drawing = record { program = drawing_classes; arrays = drawing_arrays; statics = []; literals = [] }

-- a type, another one, and whether the first is a subtype of the second, or an array that may hold it
pub record Row : Type 0 where
  pub first : ℕ
  pub second : ℕ
  pub is : Bool

abbrev pub row : ℕ → ℕ → Bool → Row
row first second is = record { first = first; second = second; is = is }

abbrev pub of_classes : List Row
of_classes =
    row circle circle true
    ∷ row circle round true
    ∷ row circle drawable true
    ∷ row disc circle true
    ∷ row disc drawable true
    ∷ row circle disc false
    ∷ row circle named false
    ∷ row round drawable true
    ∷ row drawable round false
    ∷ row named drawable false
    ∷ row drawable object true
    ∷ row object drawable false
    ∷ row string serializable true
    ∷ row string cloneable false
    ∷ []

abbrev pub of_arrays : List Row
of_arrays =
    row ints object true
    ∷ row ints cloneable true
    ∷ row ints serializable true
    ∷ row ints runnable false
    ∷ row object ints false
    ∷ row ints ints true
    ∷ row ints chars false
    ∷ row ints objects false
    ∷ row strings objects true
    ∷ row objects strings false
    ∷ row strings object true
    ∷ row strings cloneables false
    ∷ row circles drawables true
    ∷ row drawables circles false
    ∷ row circles drawable false
    ∷ row int_arrays objects true
    ∷ row int_arrays cloneables true
    ∷ row int_arrays strings false
    ∷ row int_arrays ints false
    ∷ row ints int_arrays false
    ∷ row int_arrays int_arrays true
    ∷ row int_arrays serializable true
    ∷ row squares squares true
    ∷ row squares triangles false
    ∷ row squares object true
    ∷ row squares objects false
    ∷ row square_arrays objects true
    ∷ row square_arrays squares false
    ∷ row objects squares false
    ∷ row circles squares false
    ∷ []

abbrev pub of_elements : List Row
of_elements =
    row objects ints true
    ∷ row objects string true
    ∷ row objects int_arrays true
    ∷ row strings string true
    ∷ row strings object false
    ∷ row strings circle false
    ∷ row drawables disc true
    ∷ row circles circle true
    ∷ row circles named false
    ∷ row int_arrays ints true
    ∷ row int_arrays chars false
    ∷ row int_arrays string false
    ∷ row ints string false
    ∷ row string string false
    ∷ row objects squares true
    ∷ row square_arrays squares true
    ∷ row square_arrays triangles false
    ∷ []

-- the kinds of elements
pub record ElementsHaveKinds : Type 0 where
  pub class : element_of drawing disc ≡ None
  pub text : element_of drawing string ≡ Some C
  pub numbers : element_of drawing ints ≡ Some I
  pub references : element_of drawing strings ≡ Some L
  pub arrays : element_of drawing int_arrays ≡ Some L
  pub missing : element_of drawing squares ≡ Some L

abbrev pub answers : List Row → List Bool
answers rows = map (λ (r : Row). r.is) rows

abbrev pub AreSubtypes : List Row → Type 0
AreSubtypes rows = map (λ (r : Row). is_sub drawing r.first r.second) rows ≡ answers rows

abbrev pub AreHeld : List Row → Type 0
AreHeld rows = map (λ (r : Row). may_hold drawing r.first r.second) rows ≡ answers rows
