use Rattle.std.proofs.Common.{◌∙◌, ◌∷◌, ◌++◌, [], List, ap, sym}
use Rattle.ap_base.specs.declared.reference.Ref.{Ref}
use Rattle.ap_base.specs.declared.reference.Ref.TheVariants.{Volatile}
use Rattle.class_set.proofs.Walks.{map-numbers_more}
use Rattle.plain_model.specs.First.{literal_number}
use Rattle.plain_launch.specs.Launches.{references_to}
use Rattle.plain_launch.proofs.numbers.literal_references.Goals as goal

pub loop-literal-preserved : goal.loop-literal-preserved
loop-literal-preserved c set =
    c.in_ok-push.ensures.items
    ∙ ap (λ (rs : List Ref). rs ++ Volatile c.literal_number.result ∷ []) (c.loop-literal.invariant set)
    ∙ ap (λ n. references_to set c.args.opening.now c.loop-literal.literal ++ Volatile n ∷ [])
    (c.literal_number.ensures set)
    ∙ sym (map-numbers_more (λ k. Volatile (literal_number set c.args.opening.now k)) c.loop-literal.literal)
