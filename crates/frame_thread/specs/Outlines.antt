-- What frames ask of a method, but for its lists.
use Rattle.frames.specs.declared.program.Method.{Method}
use Rattle.frame_thread.specs.declared.tables.Outline.{Outline}

abbrev pub outline_of : {M : Type 0} → Method M → Outline M
outline_of method = record {
  class = method.class;
  number = method.number;
  body = method.body;
  max_locals = method.max_locals;
  max_stack = method.max_stack;
  is_static = method.is_static;
  is_synchronized = method.is_synchronized;
}
