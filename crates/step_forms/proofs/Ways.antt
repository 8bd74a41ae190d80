-- Ways through the plain step: an operand, and a class that has to be initialised first.
use Rattle.std.proofs.Common.{◌≡◌, ◌≢◌, ℕ, zero, suc, ◌<◌, Bool, true, false, ◌&&◌, nat_lt, nat_eq, List, [], ◌∷◌, get_or}
use Rattle.std.proofs.Common.{length, slice_get, Option, Some, None, if◌then◌else◌, ap, ◌∙◌, sym, arith, rules}
use Rattle.graph_model.specs.declared.types.Value.TheVariants.{Obj as Object}
use Rattle.natives.specs.declared.requests.Reply.TheVariants as reply
use Rattle.run_types.specs.declared.wait.On.TheVariants as on
use Rattle.run_history.specs.declared.act.Op.TheVariants as op
use Rattle.run_history.specs.declared.act.Stage.TheVariants as stage
use Rattle.run_history.specs.declared.plain.Progress.{Progress}
use Rattle.run_history.specs.declared.plain.Progress.TheVariants.{Untouched, BegunBy, Finished}
use Rattle.run_history.specs.Worlds.{World}
use Rattle.plain_model.specs.declared.throws.Throws.TheVariants as exception
use Rattle.plain_model.specs.Facts.{SetFacts}
use Rattle.plain_model.specs.Steps.{Step, Does, Waits, WrongOperand, throws, with_object, with_reference, with_progress}
use Rattle.plain_model.specs.Steps.{with_class, next_number}
use Rattle.shared_objects.specs.Shown.{number_value}

module _ (set : SetFacts) (world : World) where
  -- ---- an operand

  pub object_none : (o : Option ℕ) (test : ℕ → Bool) (go : ℕ → Step) → o ≡ None
      → with_object set world (number_value o) test go ≡ throws set world exception.NullPointer
  object_none o test go e = ap (λ x. with_object set world (number_value x) test go) e

  chosen : (n : ℕ) (test : ℕ → Bool) (go : ℕ → Step) (b : Bool) → test n ≡ b → n < next_number set world
      → with_object set world (Object n) test go ≡ (if b then go n else WrongOperand)
  chosen n test go b e below =
      let lt : nat_lt n (next_number set world) ≡ true = search (rules, below) in
      ap (λ x. if x && test n then go n else WrongOperand) lt ∙ ap (λ x. if x then go n else WrongOperand) e

  pub object_wrong : (o : Option ℕ) (n : ℕ) (test : ℕ → Bool) (go : ℕ → Step) → o ≡ Some n
      → n < next_number set world
      → test n ≡ false → with_object set world (number_value o) test go ≡ WrongOperand
  object_wrong o n test go e below absent =
      ap (λ x. with_object set world (number_value x) test go) e ∙ chosen n test go false absent below

  pub object_right : (o : Option ℕ) (n : ℕ) (test : ℕ → Bool) (go : ℕ → Step) → o ≡ Some n
      → n < next_number set world
      → test n ≡ true → with_object set world (number_value o) test go ≡ go n
  object_right o n test go e below holds =
      ap (λ x. with_object set world (number_value x) test go) e ∙ chosen n test go true holds below

  pub reference_none : (o : Option ℕ) (null : Step) (go : ℕ → Step) → o ≡ None
      → with_reference set world (number_value o) null go ≡ null
  reference_none o null go e = ap (λ x. with_reference set world (number_value x) null go) e

  pub reference_some : (o : Option ℕ) (n : ℕ) (null : Step) (go : ℕ → Step) → o ≡ Some n
      → n < next_number set world
      → with_reference set world (number_value o) null go ≡ go n
  reference_some o n null go e below =
      let lt : nat_lt n (next_number set world) ≡ true = search (rules, below) in
      ap (λ x. with_reference set world (number_value x) null go) e
      ∙ ap (λ x. if x then go n else WrongOperand) lt

  -- ---- a class

  pub class_untouched : (t class : ℕ) (go : Step) → slice_get world.classes class ≡ Some Untouched
      → with_class set world t class go ≡ Does (op.Init class stage.Begun) (reply.Init class)
  class_untouched t class go e = ap (λ p. with_progress set world t class p go) e

  pub class_finished : (t class : ℕ) (go : Step) → slice_get world.classes class ≡ Some Finished
      → with_class set world t class go ≡ go
  class_finished t class go e = ap (λ p. with_progress set world t class p go) e

  pub class_own : (t class u : ℕ) (go : Step) → slice_get world.classes class ≡ Some (BegunBy u) → u ≡ t
      → with_class set world t class go ≡ go
  class_own t class u go e is =
      let eq : nat_eq u t ≡ true = search (rules, is) in
      ap (λ p. with_progress set world t class p go) e ∙ ap (λ b. if b then go else Waits (on.Init u)) eq

  pub class_waits : (t class u : ℕ) (go : Step) → slice_get world.classes class ≡ Some (BegunBy u) → u ≢ t
      → with_class set world t class go ≡ Waits (on.Init u)
  class_waits t class u go e is =
      let eq : nat_eq u t ≡ false = search (rules, is) in
      ap (λ p. with_progress set world t class p go) e ∙ ap (λ b. if b then go else Waits (on.Init u)) eq

progress_got : (xs : List Progress) (n : ℕ) (p : Progress) → n < length xs → p ≡ get_or xs n p
    → slice_get xs n ≡ Some p
progress_got [] n p below e = absurd (omega (arith, below))
progress_got (x ∷ xs) zero p below e = ap Some (sym e)
progress_got (x ∷ xs) (suc n) p below e = progress_got xs n p (omega (arith, below)) e

-- where the progress that was read is this
pub progress_is : (xs : List Progress) (n : ℕ) (p q : Progress) → n < length xs → p ≡ get_or xs n p → p ≡ q
    → slice_get xs n ≡ Some q
progress_is xs n p q below e is = progress_got xs n p below e ∙ ap Some is
