-- What may be wrong with a super that a class names.
use Rattle.std.specs.Prelude.{ℕ, not, Bool, true, false, List, Option, Some, None, if◌then◌else◌}
use Rattle.class_file.specs.declared.class.ClassFile.{ClassFile}
use Rattle.class_links.specs.declared.supers.Fault.{Fault}
use Rattle.class_links.specs.declared.supers.Fault.TheVariants as fault
use Rattle.class_links.specs.Names.{NamedClass, super_of, interfaces_of}
use Rattle.class_links.specs.Links.{of_class, first_name}

abbrev pub has_fault : List NamedClass → Fault → List ℕ → Bool
has_fault known fault.Missing = of_class known true (λ k. false)
has_fault known fault.Interface = of_class known false (λ k. k.is_interface)
has_fault known fault.NoInterface = of_class known false (λ k. not k.is_interface)
has_fault known fault.Final = of_class known false (λ k. k.is_final)

abbrev pub faulty_interface : List NamedClass → Option Fault → ClassFile → Option (List ℕ)
faulty_interface known None c = None
faulty_interface known (Some f) c = first_name (has_fault known f) (interfaces_of c)

-- a superclass with one fault, or else the first superinterface with another
abbrev pub faulty_super : List NamedClass → Fault → Option Fault → ClassFile → Option (List ℕ)
faulty_super known f other c =
    if has_fault known f (super_of c) then Some (super_of c) else faulty_interface known other c
