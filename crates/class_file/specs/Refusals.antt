-- What the parts' refusals are for a class file.
use Rattle.std.specs.Prelude.{ℕ, Result, Some}
use Rattle.parsing.specs.declared.cut.Cut.{Cut}
use Rattle.parsing.specs.Results as results
use Rattle.const_pool.specs.declared.refusal.PoolRefusal.{PoolRefusal}
use Rattle.const_pool.specs.declared.refusal.PoolRefusal.TheVariants as pool
use Rattle.class_items.specs.declared.refusal.ItemRefusal.{ItemRefusal}
use Rattle.class_items.specs.declared.refusal.ItemRefusal.TheVariants as item
use Rattle.annotations.specs.declared.refusal.AnnotationRefusal.{AnnotationRefusal}
use Rattle.annotations.specs.declared.refusal.AnnotationRefusal.TheVariants as annotation
use Rattle.code_attribute.specs.declared.fault.CodeFault.{CodeFault}
use Rattle.code_attribute.specs.declared.fault.CodeFault.TheVariants as code
use Rattle.class_file.specs.declared.refusal.ClassRefusal.{ClassRefusal}
use Rattle.class_file.specs.declared.refusal.ClassRefusal.TheVariants as refusal

-- what a call gave is what reading gives, unless memory ran out
abbrev pub Gives : {A B : Type 0} → (A → B) → Result A ClassRefusal → Result B ClassRefusal → Type 0
Gives view result read = results.Gives (Some refusal.OutOfMemory) view result read

-- the refusal of a field that is cut off
abbrev pub of_cut : Cut → ClassRefusal
of_cut cut = refusal.Truncated cut.at

abbrev pub of_item : ItemRefusal → ClassRefusal
of_item (item.Truncated at) = refusal.Truncated at
of_item (item.BadIndex offset index) = refusal.BadIndex offset index
of_item item.OutOfMemory = refusal.OutOfMemory

abbrev pub of_pool : PoolRefusal → ClassRefusal
of_pool pool.OutOfMemory = refusal.OutOfMemory
of_pool other = refusal.Pool other

-- the annotations of the attribute that begins at this offset
abbrev pub of_annotations : (at : ℕ) → AnnotationRefusal → ClassRefusal
of_annotations at annotation.BadForm = refusal.BadAttribute at
of_annotations at (annotation.BadIndex offset index) = refusal.BadIndex offset index

-- the Code attribute of a method that begins at this offset
abbrev pub of_code : (method at : ℕ) → CodeFault → ClassRefusal
of_code method at code.BadForm = refusal.BadAttribute at
of_code method at (code.BadIndex offset index) = refusal.BadIndex offset index
of_code method at (code.Code r) = refusal.Code method r
of_code method at (code.BadOperand pc) = refusal.BadOperand method pc
of_code method at (code.BadDescriptor index) = refusal.BadDescriptor index
of_code method at code.OutOfMemory = refusal.OutOfMemory
