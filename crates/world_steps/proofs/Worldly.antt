-- Ways through the plain step: initialisation, threads, regions and the output.
use Rattle.std.proofs.Common.{◌≡◌, ℕ, zero, suc, ◌<◌, ◌≤◌, Bool, true, false, ◌&&◌, nat_lt, nat_le, List, length, take, Option}
use Rattle.std.proofs.Common.{Some, None, if◌then◌else◌, refl, ap, ◌∙◌, sym, arith, rules}
use Rattle.run_types.specs.declared.resolved.At.{At}
use Rattle.run_types.specs.declared.key.Key.TheVariants as key
use Rattle.graph_model.specs.declared.types.Value.{Value}
use Rattle.natives.specs.declared.requests.Request.TheVariants as ask
use Rattle.natives.specs.declared.requests.Reply.TheVariants as reply
use Rattle.run_history.specs.declared.act.Op.TheVariants as op
use Rattle.run_history.specs.declared.act.PlainKey.TheVariants as plain
use Rattle.run_history.specs.declared.act.Stage.TheVariants as stage
use Rattle.run_history.specs.Worlds.{World, depth_of}
use Rattle.plain_model.specs.declared.throws.Throws.TheVariants as exception
use Rattle.plain_model.specs.BuiltIn.{thread_place}
use Rattle.plain_model.specs.Facts.{SetFacts, is_sub, built_in_number}
use Rattle.plain_model.specs.Steps.{Does, WrongOperand, step, throws, with_object, with_class, any_object, is_thread}
use Rattle.plain_model.specs.Steps.{starts_thread, joins_thread, thread_of, shape_of, next_number, enters, exits, prints}
use Rattle.plain_model.specs.Steps.{ends_region}
use Rattle.shared_objects.specs.Shown.{number_value}
use Rattle.step_forms.proofs.Ways.{object_none, object_wrong, object_right}

module _ (set : SetFacts) (world : World) (t taken : ℕ) (from : At) where
  pub step_pause : step set world t taken ask.Pause ≡ Does op.Pause reply.Done
  unfolding step
  step_pause = refl

  pub step_init : (class : ℕ) → step set world t taken (ask.Init from class)
      ≡ with_class set world t class (Does (op.Init class stage.Ready) reply.Done)
  unfolding step
  step_init class = refl

  pub step_init_done : (class : ℕ) → step set world t taken (ask.InitDone from class) ≡ Does (op.Init class
      stage.Done) reply.Done
  unfolding step
  step_init_done class = refl

  pub step_begin : step set world t taken (ask.Begin from) ≡ Does op.Begin reply.Done
  unfolding step
  step_begin = refl

  step_end : step set world t taken (ask.End from) ≡ ends_region set world (depth_of world t)
  unfolding step
  step_end = refl

  pub end_outside : depth_of world t ≡ 0 → step set world t taken (ask.End from) ≡ throws set world
      exception.IllegalState
  end_outside e = step_end ∙ ap (ends_region set world) e

  pub end_inside : (depth : ℕ) → depth_of world t ≡ depth → 0 < depth
      → step set world t taken (ask.End from) ≡ Does op.End reply.Done
  end_inside zero e some = absurd (let no : 0 < 0 = some in omega (arith, no))
  end_inside (suc depth) e some = step_end ∙ ap (ends_region set world) e

  pub step_leave : (uncaught : Option ℕ) → step set world t taken (ask.Leave uncaught) ≡ Does (op.Ended
      uncaught) reply.Done
  unfolding step
  step_leave uncaught = refl

  step_print : (piece : List ℕ) → step set world t taken (ask.Print from piece) ≡ prints set world taken piece
  unfolding step
  step_print piece = refl

  -- some of the piece was printed
  pub some_printed : (piece : List ℕ) → 0 < taken → taken ≤ length piece
      → step set world t taken (ask.Print from piece) ≡ Does (op.Print (take taken piece)) (reply.Printed
      taken)
  some_printed piece some most =
      let a : nat_lt 0 taken ≡ true = search (rules, some) in
      let b : nat_le taken (length piece) ≡ true = search (rules, most) in
      step_print piece
      ∙ ap (λ x. if x && nat_le taken (length piece) then Does (op.Print (take taken piece)) (reply.Printed
      taken) else WrongOperand) a
      ∙ ap (λ x. if x then Does (op.Print (take taken piece)) (reply.Printed taken) else WrongOperand) b

  -- ---- monitors

  pub step_enter_class : (class : ℕ) → step set world t taken (ask.Enter from (key.Class class)) ≡ enters set
      world t (plain.Class class)
  unfolding step
  step_enter_class class = refl

  pub step_exit_class : (class : ℕ) → step set world t taken (ask.Exit from (key.Class class)) ≡ exits set
      world t (plain.Class class)
  unfolding step
  step_exit_class class = refl

  step_enter : (object : Value) → step set world t taken (ask.Enter from (key.Object object))
      ≡ with_object set world object (any_object set world) (λ n. enters set world t (plain.Object n))
  unfolding step
  step_enter object = refl

  step_exit : (object : Value) → step set world t taken (ask.Exit from (key.Object object))
      ≡ with_object set world object (any_object set world) (λ n. exits set world t (plain.Object n))
  unfolding step
  step_exit object = refl

  step_start : (thread : Value) → step set world t taken (ask.Start from thread)
      ≡ with_object set world thread (is_thread set world) (λ n. starts_thread set world n (thread_of world
      n))
  unfolding step
  step_start thread = refl

  step_join : (thread : Value) → step set world t taken (ask.Join from thread)
      ≡ with_object set world thread (is_thread set world) (λ n. joins_thread set world n (thread_of world n))
  unfolding step
  step_join thread = refl

  module _ (o : Option ℕ) where
    pub enter_none : o ≡ None → step set world t taken (ask.Enter from (key.Object (number_value o))) ≡
        throws set world exception.NullPointer
    enter_none e = step_enter (number_value o) ∙ object_none set world o _ _ e

    pub exit_none : o ≡ None → step set world t taken (ask.Exit from (key.Object (number_value o))) ≡ throws
        set world exception.NullPointer
    exit_none e = step_exit (number_value o) ∙ object_none set world o _ _ e

    pub start_none : o ≡ None → step set world t taken (ask.Start from (number_value o)) ≡ throws set world
        exception.NullPointer
    start_none e = step_start (number_value o) ∙ object_none set world o _ _ e

    pub join_null : o ≡ None → step set world t taken (ask.Join from (number_value o)) ≡ throws set world
        exception.NullPointer
    join_null e = step_join (number_value o) ∙ object_none set world o _ _ e

    module _ (n : ℕ) (e : o ≡ Some n) (below : n < next_number set world) where
      pub enter_some : step set world t taken (ask.Enter from (key.Object (number_value o))) ≡ enters set
          world t (plain.Object n)
      enter_some = step_enter (number_value o) ∙ object_right set world o n _ _ e below refl

      pub exit_some : step set world t taken (ask.Exit from (key.Object (number_value o))) ≡ exits set world
          t (plain.Object n)
      exit_some = step_exit (number_value o) ∙ object_right set world o n _ _ e below refl

      module _ (shape thread : ℕ) (is : shape ≡ shape_of set world n) (known : thread ≡ built_in_number set
          thread_place) where
        of_class : (b : Bool) → is_sub set shape thread ≡ b → is_thread set world n ≡ b
        of_class b test = ap (λ c. is_sub set (shape_of set world n) c) (sym known)
            ∙ ap (λ s. is_sub set s thread) (sym is) ∙ test

        pub start_wrong : is_sub set shape thread ≡ false
            → step set world t taken (ask.Start from (number_value o)) ≡ WrongOperand
        start_wrong test = step_start (number_value o)
            ∙ object_wrong set world o n _ _ e below (of_class false test)

        pub start_right : is_sub set shape thread ≡ true
            → step set world t taken (ask.Start from (number_value o)) ≡ starts_thread set world n (thread_of
            world n)
        start_right test = step_start (number_value o)
            ∙ object_right set world o n _ _ e below (of_class true test)

        pub join_wrong : is_sub set shape thread ≡ false
            → step set world t taken (ask.Join from (number_value o)) ≡ WrongOperand
        join_wrong test = step_join (number_value o)
            ∙ object_wrong set world o n _ _ e below (of_class false test)

        pub join_right : is_sub set shape thread ≡ true
            → step set world t taken (ask.Join from (number_value o)) ≡ joins_thread set world n (thread_of
            world n)
        join_right test = step_join (number_value o)
            ∙ object_right set world o n _ _ e below (of_class true test)
