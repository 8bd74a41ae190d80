-- The acts' parts lie in front of the new object.
use Rattle.std.proofs.Common.{[], ◌∷◌, refl}
use Rattle.std.proofs.lemmas.List.{drop-append-le}
use Rattle.run_history.proofs.HeldLaws.{recorded-append}
use Rattle.run_history.proofs.acts.Acts.name.Goals as goal

pub returns : goal.returns
returns c =
    let inside = c.self.inside in
    let held = c.self.invariant in
    let acts = recorded-append inside.objects.items (c.args.object ∷ []) inside.taken inside.held.items held.taken held.parts in
    let named = drop-append-le inside.taken inside.objects.items (c.args.object ∷ []) held.taken in
    rw (← c.self.view_is, c.push_reserved.ensures.items, acts, named) (record { named = refl })
