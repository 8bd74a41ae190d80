-- What the tables of a program owe the facts of its set (JVMS 5.4.3, 5.5, 6.5). Each clause is of one table.
-- That they name what is there makes what the program asks fit (`NamesWhatIsThere`).
use Rattle.std.specs.Prelude.{◌≡◌, ◌≢◌, ℕ, ◌<◌, ◌≤◌, ◌⊎◌, nat_lt, true, false, [], ◌∷◌, length, All, Option, Some, None, IsSome}
use Rattle.std.specs.Prelude.{IfSome}
use Rattle.run_types.specs.declared.fault.LinkKind.TheVariants.{MissingMethod}
use Rattle.code_form.specs.declared.ins.Sort.TheVariants as sort
use Rattle.plain_model.specs.declared.throws.Throws.TheVariants.{NullPointer, Arithmetic}
use Rattle.plain_model.specs.BuiltIn.{throwable_place, thread_place}
use Rattle.plain_model.specs.Classes.{is_made}
use Rattle.plain_model.specs.Facts.{SetFacts, built_in_number, class_count, classes_of, class_at, element_of, is_sub}
use Rattle.plain_model.specs.Facts.{string_number, thrown_class}
use Rattle.plain_model.specs.Duties.{IsClass, IsStaticField, IsInstanceField}
use Rattle.frames.specs.declared.op.Op.{Op}
use Rattle.frames.specs.declared.op.Op.TheVariants as op
use Rattle.frames.specs.declared.program.Body.{Body}
use Rattle.frames.specs.declared.program.Body.TheVariants as body
use Rattle.frames.specs.declared.program.Class.{Class}
use Rattle.frames.specs.declared.program.Dispatch.{Dispatch}
use Rattle.frames.specs.declared.program.Method.{Method}
use Rattle.frames.specs.declared.program.Placed.{Placed}
use Rattle.frames.specs.declared.program.Program.{Program}
use Rattle.frames.specs.declared.program.Selector.{Selector}
use Rattle.frames.specs.declared.program.Target.{Target}
use Rattle.frames.specs.declared.program.Target.TheVariants as target
use Rattle.frames.specs.Tables.{method_at, field_at, dispatched, is_subtype}
use Rattle.frames.specs.Tables as tables

module _ (set : SetFacts) {M : Type 0} (p : Program M) where
  -- ---- what the tables name of the set

  -- an operand names what is there, and of the sort that the instruction needs
  abbrev pub IsOpOf : Op → Type 0
  IsOpOf (op.PushLiteral k) = k < length set.literals
  IsOpOf (op.Static access f) = IsStaticField set (field_at p f)
  IsOpOf (op.Field access f) = IsInstanceField set (field_at p f)
  IsOpOf (op.New class) = IsClass set class × (is_made (class_at set class) ≡ true)
  IsOpOf (op.NewArray shape) = IsClass set shape × IsSome (element_of set shape) ×
      (shape ≢ string_number set)
  IsOpOf (op.Cast class) = IsClass set class
  IsOpOf (op.IsA class) = IsClass set class
  IsOpOf other = Unit {0}

  pub record NamesWhatIsThere : Type 0 where
    pub code : All (λ (i : Placed). IsOpOf i.op) p.code
    pub methods : All (λ (m : Method M). IsClass set m.class) p.methods
    pub selectors : All (λ (s : Selector). IsClass set s.within) p.selectors
    pub superclasses : All (λ (c : Class). IfSome c.superclass (IsClass set)) p.classes
    pub throwable : p.throwable ≡ built_in_number set throwable_place
    pub thread : p.thread ≡ built_in_number set thread_place
    pub null_pointer : p.null_pointer ≡ thrown_class set NullPointer
    pub arithmetic : p.arithmetic ≡ thrown_class set Arithmetic

  -- ---- methods

  abbrev pub IsStaticMethod : ℕ → Type 0
  IsStaticMethod m = (m < length p.methods) × ((method_at p m).is_static ≡ true)

  abbrev pub IsInstanceMethod : ℕ → Type 0
  IsInstanceMethod m = (m < length p.methods) × ((method_at p m).is_static ≡ false)

  -- an operand names an entry of the program's own tables, and a method that may be called so
  abbrev pub IsOpIn : Op → Type 0
  IsOpIn (op.PushLong k) = k < length p.longs
  IsOpIn (op.TableSwitch k) = k < length p.tables
  IsOpIn (op.LookupSwitch k) = k < length p.lookups
  IsOpIn (op.InvokeSpecial m) = IsInstanceMethod m
  IsOpIn (op.InvokeStatic m) = IsStaticMethod m
  IsOpIn (op.InvokeVirtual s) = s < length p.selectors
  IsOpIn other = Unit {0}

  -- The program's own methods have code, and those of built-in classes have none.
  abbrev pub IsBodyOf : ℕ → Body M → Type 0
  IsBodyOf class (body.Code entry) = (class < length set.program) × (entry < length p.code)
  IsBodyOf class other = length set.program ≤ class

  -- only methods of the program are synchronized
  pub record IsMethodOf (m : Method M) : Type 0 where
    pub body : IsBodyOf m.class m.body
    pub monitor : m.is_synchronized ≡ true → m.class < length set.program

  -- ---- classes

  -- `<clinit>` of this class: its own, static, without parameters (JVMS 2.9)
  pub record IsInitialiserOf (class m : ℕ) : Type 0 where
    pub static : IsStaticMethod m
    pub own : (method_at p m).class ≡ class
    pub program : class < length set.program
    pub parameters : (method_at p m).parameters ≡ []

  -- what a lookup finds isn't static
  abbrev pub IsTarget : Target → Type 0
  IsTarget (target.Method m) = IsInstanceMethod m
  IsTarget (target.Fails kind) = Unit {0}

  -- a method that the class itself declares, or the fault that it can't be called
  abbrev pub IsOwnTarget : ℕ → Target → Type 0
  IsOwnTarget class (target.Method m) = (method_at p m).class ≡ class
  IsOwnTarget class (target.Fails MissingMethod) = ⊥
  IsOwnTarget class (target.Fails kind) = Unit {0}

  -- what the lookup from a superclass on finds
  abbrev pub found_above : Option ℕ → (signature : ℕ) → Target
  found_above None signature = target.Fails MissingMethod
  found_above (Some super) signature = dispatched p super signature

  -- What the frames ask of a class is what the set says of it. A lookup begins in the class itself, and goes
  -- up its superclasses (JVMS 5.4.3.3). Of array types the frames ask for no supertypes, as none is thrown.
  pub record IsClassOf (n : ℕ) (c : Class) : Type 0 where
    pub superclass : c.superclass ≡ (class_at set n).superclass
    pub of_program : c.of_program ≡ nat_lt n (length set.program)
    pub supertypes : n < class_count set → (above : ℕ) → IsClass set above
        → is_subtype p n above ≡ is_sub set n above
    pub initialiser : IfSome c.initialiser (IsInitialiserOf n)
    pub dispatch : All (λ (d : Dispatch). IsTarget d.target) c.dispatch
    pub inherited : (signature : ℕ) → IsOwnTarget n (dispatched p n signature)
        ⊎ (dispatched p n signature ≡ found_above (class_at set n).superclass signature)

  -- ---- the program

  pub record IsProgramOf : Type 0 where
    pub names : NamesWhatIsThere
    pub code : All (λ (i : Placed). IsOpIn i.op) p.code
    pub methods : All IsMethodOf p.methods
    -- as many classes as the set has, by its numbers
    pub count : length p.classes ≡ length (classes_of set)
    pub classes : (n : ℕ) → IsClass set n → IsClassOf n (tables.class_at p n)

  -- The method is `main` of this class, as the lookup up its superclasses finds it: static, with an array of
  -- Strings as its parameter.
  pub record IsMainOf (main method : ℕ) : Type 0 where
    pub class : IsClass set main
    pub static : IsStaticMethod method
    pub above : is_sub set main (method_at p method).class ≡ true
    pub parameters : (method_at p method).parameters ≡ sort.Reference ∷ []
