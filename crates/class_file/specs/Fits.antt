-- What the writer of a class file needs: each count and each length has the range of its field (JVMS 4.1,
-- 4.5, 4.6, 4.7).
use Rattle.std.specs.Prelude.{◌^◌, ◌<◌, length, All}
use Rattle.class_items.specs.declared.attribute.Attribute.{Attribute}
use Rattle.code_attribute.specs.Code.{Fits as CodeFits, code_attribute_bytes}
use Rattle.class_file.specs.declared.class.ClassFile.{ClassFile}
use Rattle.class_file.specs.declared.field.Field.{Field}
use Rattle.class_file.specs.declared.method.MethodAttribute.{MethodAttribute}
use Rattle.class_file.specs.declared.method.MethodAttribute.TheVariants as attribute
use Rattle.class_file.specs.declared.method.Method.{Method}

abbrev pub IsShort : Attribute → Type 0
IsShort a = length a.content < 2 ^ 32

pub record FieldFits (f : Field) : Type 0 where
  pub count : length f.attributes < 2 ^ 16
  pub contents : All IsShort f.attributes

abbrev pub MethodAttributeFits : MethodAttribute → Type 0
MethodAttributeFits (attribute.Code name code) = CodeFits code × (length (code_attribute_bytes code) < 2 ^ 32)
MethodAttributeFits (attribute.Other a) = IsShort a

pub record MethodFits (m : Method) : Type 0 where
  pub count : length m.attributes < 2 ^ 16
  pub contents : All MethodAttributeFits m.attributes

pub record Fits (c : ClassFile) : Type 0 where
  pub interface_count : length c.interfaces < 2 ^ 16
  pub field_count : length c.fields < 2 ^ 16
  pub fields : All FieldFits c.fields
  pub method_count : length c.methods < 2 ^ 16
  pub methods : All MethodFits c.methods
  pub attribute_count : length c.attributes < 2 ^ 16
  pub contents : All IsShort c.attributes
