-- The parts of a class file, one after the other, are its bytes.
use Rattle.std.proofs.Common.{◌≡◌, ℕ, List, ◌++◌, length, append_assoc}
use Rattle.std.specs.List.{flat_map}
use Rattle.byteorder.specs.Endian.{big_bytes}
use Rattle.const_pool.specs.Pool.{spelling}
use Rattle.class_items.specs.Items.{attributes_bytes}
use Rattle.class_file.specs.declared.class.ClassFile.{ClassFile}
use Rattle.class_file.specs.Members.{field_bytes, method_bytes}
use Rattle.class_file.specs.Classes.{head_bytes, class_bytes}

pub parts_are_written : (c : ClassFile) (out head pool access this super interfaces fields methods all : List ℕ)
    → head ≡ out ++ head_bytes
    → pool ≡ head ++ spelling c.pool
    → access ≡ pool ++ big_bytes 2 c.access
    → this ≡ access ++ big_bytes 2 c.this_class
    → super ≡ this ++ big_bytes 2 c.super_class
    → interfaces ≡ super ++ big_bytes 2 (length c.interfaces) ++ flat_map (big_bytes 2) c.interfaces
    → fields ≡ interfaces ++ big_bytes 2 (length c.fields) ++ flat_map field_bytes c.fields
    → methods ≡ fields ++ big_bytes 2 (length c.methods) ++ flat_map method_bytes c.methods
    → all ≡ methods ++ attributes_bytes c.attributes
    → all ≡ out ++ class_bytes c
parts_are_written c out head pool access this super interfaces fields methods all is_head is_pool is_access is_this is_super are_interfaces are_fields are_methods are_all =
    rw (are_all, are_methods, are_fields, are_interfaces, is_super, is_this, is_access, is_pool, is_head) (simp append_assoc)
