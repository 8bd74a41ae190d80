-- The methods of built-in classes, with what they ask, and their descriptors.
use Rattle.std.specs.Prelude.{ℕ, nat_lt, Bool, ◌&&◌, false, [], length, Option}
use Rattle.std.specs.List.{list_all}
use Rattle.built_in_table.specs.Members.{BuiltInClass, MemberFacts}
use Rattle.frames.specs.declared.program.Method.{Method}
use Rattle.class_code.specs.Codes.{native_body}
use Rattle.class_code.specs.Methods.{parameters_of}

-- a method of a built-in class that asks this
abbrev pub built_in_with : {M : Type 0} → Option M → (class number : ℕ) → MemberFacts → Method M
built_in_with native class number m = record {
  class = class;
  number = number;
  body = native_body (λ place number. native) native;
  parameters = parameters_of m.is_static m.descriptor;
  max_locals = 0;
  max_stack = 0;
  is_static = m.is_static;
  is_synchronized = false;
  handlers = [];
}

-- ASCII but for zero, whose text is its own spelling in modified UTF-8
abbrev pub is_ascii : ℕ → Bool
is_ascii b = nat_lt 0 b && nat_lt b 128

abbrev pub is_spelled : MemberFacts → Bool
is_spelled m = list_all is_ascii m.descriptor

abbrev pub are_spelled : BuiltInClass → Bool
are_spelled c = nat_lt (length c.methods) 256 && list_all is_spelled c.methods
