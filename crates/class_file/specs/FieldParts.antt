-- The parts of a field, as they are read one after the other (JVMS 4.5).
use Rattle.std.specs.Prelude.{ℕ, not, List, Result, Ok}
use Rattle.const_pool.specs.declared.entry.Tag.TheVariants.{Utf8}
use Rattle.const_pool.specs.Pool.{Slots}
use Rattle.parsing.specs.Places.{Place}
use Rattle.class_items.specs.declared.attribute.Attribute.{Attribute}
use Rattle.class_items.specs.Kinds.{kind_at}
use Rattle.parsing.specs.Results.{◌>>=◌, placed, unless}
use Rattle.class_items.specs.Items.{attribute_at}
use Rattle.class_file.specs.declared.facts.Fact.{Fact}
use Rattle.class_file.specs.declared.field.Field.{Field}
use Rattle.class_file.specs.declared.fields.Head.{Head}
use Rattle.class_file.specs.declared.refusal.ClassRefusal.{ClassRefusal}
use Rattle.class_file.specs.declared.refusal.ClassRefusal.TheVariants as refusal
use Rattle.class_file.specs.Refusals.{of_item}
use Rattle.class_file.specs.Members.{number, index, has_byte, is_barred, is_field, fact_of, no_facts, field_attributes_from}
use Rattle.class_file.specs.Members.{judged}

-- an attribute of a field, and what it says of it
unfoldable pub field_attribute_at : Slots → Place → Result ((Attribute × Fact) × Place) ClassRefusal
field_attribute_at pool file = do
  a ← placed of_item (attribute_at pool file)
  fact ← fact_of pool file.0 a.0
  Ok ((a.0, fact), a.1)

-- what a field begins with: its access flags, its name and its descriptor
unfoldable pub field_head_at : Slots → Place → Result (Head × Place) ClassRefusal
field_head_at pool file = do
  access ← number 2 file
  name ← index pool Utf8 access.1
  spelled ← unless (has_byte is_barred pool name.0) (refusal.BadIndex access.1.0 name.0)
  descriptor ← index pool Utf8 name.1
  typed ← unless (not (is_field (kind_at pool descriptor.0))) (refusal.BadDescriptor descriptor.0)
  Ok (record { access = access.0; name = name.0; descriptor = descriptor.0 }, descriptor.1)

-- what follows
unfoldable pub field_behind_at : Slots → (roots : List ℕ) → (field : ℕ) → Head → Place
    → Result (Field × Place) ClassRefusal
field_behind_at pool roots field head file = do
  count ← number 2 file
  attributes ← field_attributes_from pool count.0 no_facts count.1
  constant ← judged pool roots field head.access head.name head.descriptor attributes.0.1
  Ok (
    record {
      access = head.access;
      name = head.name;
      descriptor = head.descriptor;
      attributes = attributes.0.0;
      constant = constant;
      root = attributes.0.1.root;
      unrecoverable = attributes.0.1.unrecoverable;
    },
    attributes.1,
  )
