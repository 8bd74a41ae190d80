-- The rows of the table of built-in classes.
use Rattle.std.specs.Prelude.{ℕ, ◌+◌, true, List, map, Option}
use Rattle.std.specs.Option.{option_map}
use Rattle.graph_model.specs.declared.types.Field.{Field}
use Rattle.graph_model.specs.declared.types.Shape.{Shape}
use Rattle.built_in_table.specs.declared.built_in.Member.{Member}
use Rattle.built_in_table.specs.declared.built_in.Slot.{Slot}
use Rattle.built_in_table.specs.declared.built_in.BuiltIn.{BuiltIn}
use Rattle.built_in_table.specs.Members.{MemberFacts, BuiltInClass}

abbrev pub member_facts : Member → MemberFacts
member_facts m = record { name = m.name.now; descriptor = m.descriptor.now; is_static = m.is_static }

abbrev pub row_members : BuiltIn → BuiltInClass
row_members row = record { fields = map member_facts row.fields.now; methods = map member_facts row.methods.now }

abbrev pub row_name : BuiltIn → List ℕ
row_name row = row.name.now

-- the number of its superclass, where the built-in classes follow so many others
abbrev pub row_super : ℕ → BuiltIn → Option ℕ
row_super first row = option_map (λ place. first + place) row.superclass

abbrev pub row_interfaces : ℕ → BuiltIn → List ℕ
row_interfaces first row = map (λ place. first + place) row.interfaces.now

abbrev pub slot_field : Slot → Field
slot_field s = record { name = s.name.now; kind = s.kind; kept = true }

abbrev pub row_shape : BuiltIn → Shape
row_shape row = record { name = row.name.now; fields = map slot_field row.layout.now; element = row.element }
