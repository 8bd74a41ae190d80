-- The built-in classes by the methods that they declare.
use Rattle.std.specs.Prelude.{[], ◌∷◌, Some, None}
use Rattle.natives.specs.declared.methods.Native.TheVariants.{ObjectEquals, StringLength, StringCharAt, StringEquals}
use Rattle.natives.specs.declared.methods.Native.TheVariants.{ThreadInit, ThreadStart, ThreadRun, ThreadJoin, ThrowableInit}
use Rattle.natives.specs.declared.methods.Native.TheVariants.{ThrowableGetMessage, RegionBegin, RegionEnd}
use Rattle.natives.specs.declared.methods.Group.{Group}
use Rattle.natives.specs.declared.methods.Group.TheVariants as group
use Rattle.natives.specs.Methods.{Natives, throwable, prints, builds}

abbrev pub group_natives : Group → Natives
group_natives group.Silent = []
group_natives group.BelowThrowable = throwable
group_natives group.Object = None ∷ Some ObjectEquals ∷ []
group_natives group.PrintStream = prints
group_natives group.Region = Some RegionBegin ∷ Some RegionEnd ∷ []
group_natives group.String = Some StringLength ∷ Some StringCharAt ∷ Some StringEquals ∷ []
group_natives group.StringBuilder = builds
group_natives group.Thread = None ∷ Some ThreadInit ∷ Some ThreadStart ∷ Some ThreadRun ∷ Some ThreadJoin ∷ []
group_natives group.Throwable = None ∷ Some ThrowableInit ∷ Some ThrowableGetMessage ∷ []
