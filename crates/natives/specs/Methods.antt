-- Which methods of the built-in classes ask something of the heap (docs/MODEL.md, "Built-in methods").
use Rattle.std.specs.Prelude.{ℕ, List, [], ◌∷◌, slice_index_or, Option, Some, None}
use Rattle.natives.specs.declared.methods.Native.{Native}
use Rattle.natives.specs.declared.methods.Native.TheVariants.{ObjectEquals, StringLength, StringCharAt, StringEquals}
use Rattle.natives.specs.declared.methods.Native.TheVariants.{BuilderInit, BuilderInitString, AppendInt, AppendLong, AppendChar}
use Rattle.natives.specs.declared.methods.Native.TheVariants.{AppendBoolean, AppendString, AppendObject, BuilderToString}
use Rattle.natives.specs.declared.methods.Native.TheVariants.{PrintInt, PrintLong, PrintChar, PrintBoolean, PrintString}
use Rattle.natives.specs.declared.methods.Native.TheVariants.{PrintObject, PrintLineInt, PrintLineLong, PrintLineChar}
use Rattle.natives.specs.declared.methods.Native.TheVariants.{PrintLineBoolean, PrintLineString, PrintLineObject, PrintLine}
use Rattle.natives.specs.declared.methods.Native.TheVariants.{ThreadInit, ThreadStart, ThreadRun, ThreadJoin, ThrowableInit}
use Rattle.natives.specs.declared.methods.Native.TheVariants.{ThrowableGetMessage, RegionBegin, RegionEnd}

-- the methods of a class, by their numbers
abbrev pub Natives : Type 0
Natives = List (Option Native)

abbrev pub nothing : Natives
nothing = []

-- a class below Throwable has its constructors: of nothing, and of a String
abbrev pub throwable : Natives
throwable = None ∷ Some ThrowableInit ∷ []

abbrev pub prints : Natives
prints =
    Some PrintInt ∷ Some PrintLong ∷ Some PrintChar ∷ Some PrintBoolean ∷ Some PrintString ∷ Some PrintObject
    ∷ Some PrintLineInt ∷ Some PrintLineLong ∷ Some PrintLineChar ∷ Some PrintLineBoolean
    ∷ Some PrintLineString ∷ Some PrintLineObject ∷ Some PrintLine ∷ []

abbrev pub builds : Natives
builds =
    Some BuilderInit ∷ Some BuilderInitString ∷ Some AppendInt ∷ Some AppendLong ∷ Some AppendChar
    ∷ Some AppendBoolean ∷ Some AppendString ∷ Some AppendObject ∷ Some BuilderToString ∷ []

-- The built-in classes by place, with the methods that they declare, in the order of their numbers: Region,
-- PrintStream, Serializable, four throwables, Cloneable, ten throwables, Object, Runnable, RuntimeException,
-- String, StringBuilder, a throwable, System, Thread, Throwable and a throwable.
unfoldable pub built_in_natives : List Natives
built_in_natives =
    (Some RegionBegin ∷ Some RegionEnd ∷ [])
    ∷ prints
    ∷ nothing
    ∷ throwable ∷ throwable ∷ throwable ∷ throwable
    ∷ nothing
    ∷ throwable ∷ throwable ∷ throwable ∷ throwable ∷ throwable
    ∷ throwable ∷ throwable ∷ throwable ∷ throwable ∷ throwable
    ∷ (None ∷ Some ObjectEquals ∷ [])
    ∷ nothing
    ∷ throwable
    ∷ (Some StringLength ∷ Some StringCharAt ∷ Some StringEquals ∷ [])
    ∷ builds
    ∷ throwable
    ∷ nothing
    ∷ (None ∷ Some ThreadInit ∷ Some ThreadStart ∷ Some ThreadRun ∷ Some ThreadJoin ∷ [])
    ∷ (None ∷ Some ThrowableInit ∷ Some ThrowableGetMessage ∷ [])
    ∷ throwable
    ∷ []

-- the method with this number of the built-in class at a place; none where it asks nothing or isn't there
abbrev pub native_at : (place method : ℕ) → Option Native
native_at place method = slice_index_or (slice_index_or built_in_natives place []) method None
