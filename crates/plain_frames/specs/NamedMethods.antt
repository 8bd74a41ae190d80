-- Which built-in methods are which: by class and in the order of their numbers, their names and descriptors
-- (docs/MODEL.md, "Built-in methods"), and the native method of each that asks something.
use Rattle.std.specs.Prelude.{◌≡◌, ℕ, ◌+◌, ◌≤◌, List, [], ◌∷◌, ◌++◌, length, codes, Option, Some, None}
use Rattle.natives.specs.declared.methods.Native.{Native}
use Rattle.natives.specs.declared.methods.Native.TheVariants as native
use Rattle.natives.specs.Methods.{native_at}
use Rattle.built_in_table.specs.Members.{MemberFacts, BuiltInClass, built_in_members, built_in_names, built_in_at, own, static}

-- a method, and what it is as a native one; a class by name, and its methods
abbrev pub Method : Type 0
Method = MemberFacts × Option Native

abbrev pub Class : Type 0
Class = List ℕ × List Method

abbrev pub asking : (name descriptor : List ℕ) → Native → Method
asking name descriptor native = (own name descriptor, Some native)

abbrev pub asking_nothing : (name descriptor : List ℕ) → Method
asking_nothing name descriptor = (own name descriptor, None)

-- a class whose constructors are those of Throwable
abbrev pub inits : List Method
inits = asking_nothing (codes "<init>") (codes "()V")
    ∷ asking (codes "<init>") (codes "(Ljava/lang/String;)V") native.ThrowableInit
    ∷ []

abbrev pub throwable : (name : List ℕ) → Class
throwable name = (name, inits)

abbrev pub region : Class
region = (
  codes "autopersist/Region",
  (static (codes "begin") (codes "()V"), Some native.RegionBegin)
      ∷ (static (codes "end") (codes "()V"), Some native.RegionEnd)
      ∷ [],
)

abbrev pub print_stream : Class
print_stream = (
  codes "java/io/PrintStream",
  asking (codes "print") (codes "(I)V") native.PrintInt
      ∷ asking (codes "print") (codes "(J)V") native.PrintLong
      ∷ asking (codes "print") (codes "(C)V") native.PrintChar
      ∷ asking (codes "print") (codes "(Z)V") native.PrintBoolean
      ∷ asking (codes "print") (codes "(Ljava/lang/String;)V") native.PrintString
      ∷ asking (codes "print") (codes "(Ljava/lang/Object;)V") native.PrintObject
      ∷ asking (codes "println") (codes "(I)V") native.PrintLineInt
      ∷ asking (codes "println") (codes "(J)V") native.PrintLineLong
      ∷ asking (codes "println") (codes "(C)V") native.PrintLineChar
      ∷ asking (codes "println") (codes "(Z)V") native.PrintLineBoolean
      ∷ asking (codes "println") (codes "(Ljava/lang/String;)V") native.PrintLineString
      ∷ asking (codes "println") (codes "(Ljava/lang/Object;)V") native.PrintLineObject
      ∷ asking (codes "println") (codes "()V") native.PrintLine
      ∷ [],
)

abbrev pub object : Class
object = (
  codes "java/lang/Object",
  asking_nothing (codes "<init>") (codes "()V")
      ∷ asking (codes "equals") (codes "(Ljava/lang/Object;)Z") native.ObjectEquals
      ∷ [],
)

abbrev pub string : Class
string = (
  codes "java/lang/String",
  asking (codes "length") (codes "()I") native.StringLength
      ∷ asking (codes "charAt") (codes "(I)C") native.StringCharAt
      ∷ asking (codes "equals") (codes "(Ljava/lang/Object;)Z") native.StringEquals
      ∷ [],
)

abbrev pub string_builder : Class
string_builder = (
  codes "java/lang/StringBuilder",
  asking (codes "<init>") (codes "()V") native.BuilderInit
      ∷ asking (codes "<init>") (codes "(Ljava/lang/String;)V") native.BuilderInitString
      ∷ asking (codes "append") (codes "(I)Ljava/lang/StringBuilder;") native.AppendInt
      ∷ asking (codes "append") (codes "(J)Ljava/lang/StringBuilder;") native.AppendLong
      ∷ asking (codes "append") (codes "(C)Ljava/lang/StringBuilder;") native.AppendChar
      ∷ asking (codes "append") (codes "(Z)Ljava/lang/StringBuilder;") native.AppendBoolean
      ∷ asking (codes "append") (codes "(Ljava/lang/String;)Ljava/lang/StringBuilder;") native.AppendString
      ∷ asking (codes "append") (codes "(Ljava/lang/Object;)Ljava/lang/StringBuilder;") native.AppendObject
      ∷ asking (codes "toString") (codes "()Ljava/lang/String;") native.BuilderToString
      ∷ [],
)

abbrev pub thread : Class
thread = (
  codes "java/lang/Thread",
  asking_nothing (codes "<init>") (codes "()V")
      ∷ asking (codes "<init>") (codes "(Ljava/lang/Runnable;)V") native.ThreadInit
      ∷ asking (codes "start") (codes "()V") native.ThreadStart
      ∷ asking (codes "run") (codes "()V") native.ThreadRun
      ∷ asking (codes "join") (codes "()V") native.ThreadJoin
      ∷ [],
)

-- The built-in classes by place.
abbrev pub named_methods : List Class
named_methods =
    region
    ∷ print_stream
    ∷ (codes "java/io/Serializable", [])
    ∷ throwable (codes "java/lang/ArithmeticException")
    ∷ throwable (codes "java/lang/ArrayIndexOutOfBoundsException")
    ∷ throwable (codes "java/lang/ArrayStoreException")
    ∷ throwable (codes "java/lang/ClassCastException")
    ∷ (codes "java/lang/Cloneable", [])
    ∷ throwable (codes "java/lang/Error")
    ∷ throwable (codes "java/lang/Exception")
    ∷ throwable (codes "java/lang/IllegalArgumentException")
    ∷ throwable (codes "java/lang/IllegalMonitorStateException")
    ∷ throwable (codes "java/lang/IllegalStateException")
    ∷ throwable (codes "java/lang/IllegalThreadStateException")
    ∷ throwable (codes "java/lang/IndexOutOfBoundsException")
    ∷ throwable (codes "java/lang/InterruptedException")
    ∷ throwable (codes "java/lang/NegativeArraySizeException")
    ∷ throwable (codes "java/lang/NullPointerException")
    ∷ object
    ∷ (codes "java/lang/Runnable", asking_nothing (codes "run") (codes "()V") ∷ [])
    ∷ throwable (codes "java/lang/RuntimeException")
    ∷ string
    ∷ string_builder
    ∷ throwable (codes "java/lang/StringIndexOutOfBoundsException")
    ∷ (codes "java/lang/System", [])
    ∷ thread
    ∷ (
      codes "java/lang/Throwable",
      inits ++ asking (codes "getMessage") (codes "()Ljava/lang/String;") native.ThrowableGetMessage ∷ [],
    )
    ∷ throwable (codes "java/lang/UnsupportedOperationException")
    ∷ []

-- what the table of built-in classes and that of native methods say, from a number and a place on
abbrev pub methods_from : (place number : ℕ) → List MemberFacts → List Method
methods_from place number [] = []
methods_from place number (m ∷ ms) = (m, native_at place number) ∷ methods_from place (number + 1) ms

abbrev pub classes_from : (place : ℕ) → List (List ℕ) → List BuiltInClass → List Class
classes_from place (name ∷ names) (c ∷ cs) =
    (name, methods_from place 0 c.methods) ∷ classes_from (place + 1) names cs
classes_from place names cs = []

abbrev pub BuiltInMethodsAreNamed : Type 0
BuiltInMethodsAreNamed = classes_from 0 built_in_names built_in_members ≡ named_methods

-- No other number is a native method's.
abbrev pub NoOthersAsk : Type 0
NoOthersAsk = (place method : ℕ) → length (built_in_at place).methods ≤ method
    → native_at place method ≡ None
