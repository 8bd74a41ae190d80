-- What the indices of instructions have to name (JVMS 6.5).
use Rattle.std.specs.Prelude.{ℕ, Bool, true, false, List, [], ◌∷◌, Option, Some, None, if◌then◌else◌}
use Rattle.std.specs.List.{list_any}
use Rattle.const_pool.specs.declared.entry.Tag.{Tag}
use Rattle.const_pool.specs.declared.entry.Tag.TheVariants as tag
use Rattle.const_pool.specs.declared.entry.Entry.{Entry}
use Rattle.const_pool.specs.declared.entry.Entry.TheVariants as entry
use Rattle.const_pool.specs.Pool.{Slots, entry_at, is_tagged}
use Rattle.code_form.specs.declared.ins.PoolUse.{PoolUse}
use Rattle.code_form.specs.declared.ins.PoolUse.TheVariants as usage
use Rattle.code_form.specs.declared.ins.Ins.{Ins}
use Rattle.code_form.specs.declared.ins.Ins.TheVariants as ins
use Rattle.code_form.specs.declared.ins.Placed.{Placed}
use Rattle.class_items.specs.declared.kinds.DescriptorKind.{DescriptorKind}
use Rattle.class_items.specs.declared.kinds.DescriptorKind.TheVariants as kind
use Rattle.class_items.specs.Kinds.{kind_at}
use Rattle.code_attribute.specs.declared.fault.CodeFault.{CodeFault}
use Rattle.code_attribute.specs.declared.fault.CodeFault.TheVariants.{BadOperand, BadDescriptor}

-- the tags that an entry may have: from version 52.0 on invokespecial and invokestatic may name a method
-- of an interface
abbrev pub tags_of : PoolUse → List Tag
tags_of usage.LoadConstant = tag.Integer ∷ tag.String ∷ []
tags_of usage.LoadLong = tag.Long ∷ []
tags_of usage.GetStatic = tag.Fieldref ∷ []
tags_of usage.PutStatic = tag.Fieldref ∷ []
tags_of usage.GetField = tag.Fieldref ∷ []
tags_of usage.PutField = tag.Fieldref ∷ []
tags_of usage.InvokeVirtual = tag.Methodref ∷ []
tags_of usage.InvokeSpecial = tag.Methodref ∷ tag.InterfaceMethodref ∷ []
tags_of usage.InvokeStatic = tag.Methodref ∷ tag.InterfaceMethodref ∷ []
tags_of usage.New = tag.Class ∷ []
tags_of usage.NewReferenceArray = tag.Class ∷ []
tags_of usage.CheckCast = tag.Class ∷ []
tags_of usage.InstanceOf = tag.Class ∷ []

-- an index of an instruction, and the tags that its entry may have
abbrev pub operand_of : Ins → Option (ℕ × List Tag)
operand_of (ins.LoadConstant index) = Some (index, tags_of usage.LoadConstant)
operand_of (ins.Pool what index) = Some (index, tags_of what)
operand_of (ins.InvokeInterface index count) = Some (index, tag.InterfaceMethodref ∷ [])
operand_of other = None

-- the index of the descriptor in a NameAndType
abbrev pub descriptor_in : Option Entry → ℕ
descriptor_in (Some (entry.NameAndType name descriptor)) = descriptor
descriptor_in other = 0

abbrev pub is_field : DescriptorKind → Bool
is_field (kind.Field sort) = true
is_field other = false

abbrev pub is_method : DescriptorKind → Bool
is_method kind.Method = true
is_method other = false

abbrev pub unless_right : Bool → ℕ → Option CodeFault
unless_right true descriptor = None
unless_right false descriptor = Some (BadDescriptor descriptor)

-- a member's descriptor is one of a field or of a method, as its entry says (JVMS 4.4.2)
abbrev pub wrong_descriptor : Slots → Option Entry → Option CodeFault
wrong_descriptor pool (Some (entry.Fieldref m)) =
    unless_right (is_field (kind_at pool (descriptor_in (entry_at pool m.name_and_type))))
    (descriptor_in (entry_at pool m.name_and_type))
wrong_descriptor pool (Some (entry.Methodref m)) =
    unless_right (is_method (kind_at pool (descriptor_in (entry_at pool m.name_and_type))))
    (descriptor_in (entry_at pool m.name_and_type))
wrong_descriptor pool (Some (entry.InterfaceMethodref m)) =
    unless_right (is_method (kind_at pool (descriptor_in (entry_at pool m.name_and_type))))
    (descriptor_in (entry_at pool m.name_and_type))
wrong_descriptor pool other = None

abbrev pub wrong_operand : Slots → ℕ → Option (ℕ × List Tag) → Option CodeFault
wrong_operand pool pc None = None
wrong_operand pool pc (Some operand) =
    if list_any (is_tagged (entry_at pool operand.0)) operand.1 then wrong_descriptor pool
    (entry_at pool operand.0)
    else Some (BadOperand pc)

abbrev pub or_next : Option CodeFault → Option CodeFault → Option CodeFault
or_next (Some fault) next = Some fault
or_next None next = next

-- the first instruction's fault
unfoldable pub first_wrong_operand : Slots → List Placed → Option CodeFault
first_wrong_operand pool [] = None
first_wrong_operand pool (p ∷ code) =
    or_next (wrong_operand pool p.pc (operand_of p.ins)) (first_wrong_operand pool code)
