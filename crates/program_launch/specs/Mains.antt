-- The main method of a class set (JVMS 5.2).
use Rattle.std.specs.Prelude.{ℕ, List, codes, Option, Some, None, Result, Ok, Err, if◌then◌else◌}
use Rattle.run_types.specs.declared.resolved.MethodAt.{MethodAt}
use Rattle.class_set.specs.Linked.{Linked, class_named}
use Rattle.class_set.specs.Lookups.{find_method}
use Rattle.class_code.specs.Methods.{method_number}
use Rattle.program_launch.specs.declared.mains.Main.{Main}
use Rattle.program_launch.specs.declared.mains.NoMain.{NoMain}
use Rattle.program_launch.specs.declared.mains.NoMain.TheVariants.{Class, Method}

-- a static method, by its number in the decoded tables
abbrev pub main_at : Linked → (class : ℕ) → Option MethodAt → Result Main NoMain
main_at set class None = Err Method
main_at set class (Some m) =
    if m.is_static then Ok (record { class = class; method = method_number set m }) else Err Method

-- what the look-up of `main([Ljava/lang/String;)V` from a class on finds
abbrev pub main_from : Linked → Option ℕ → Result Main NoMain
main_from set None = Err Class
main_from set (Some class) =
    main_at set class (find_method set class (codes "main") (codes "([Ljava/lang/String;)V"))

-- what runs first where the main class has this name
abbrev pub main_of : Linked → (name : List ℕ) → Result Main NoMain
main_of set name = main_from set (class_named set name)
