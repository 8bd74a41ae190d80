use Rattle.std.proofs.Common.{sym, subst}
use Rattle.std.specs.Prelude.{All, IfSome}
use Rattle.std.proofs.lemmas.List.Elements.{All-push}
use Rattle.shared_objects.specs.Shown.{IsKnown}
use Rattle.space_rows.specs.Worlds.{KnowsStepped}
use Rattle.space_rows.proofs.steps.keep.Goals as goal

pub returns-in_ok-push : goal.returns-in_ok-push
returns-in_ok-push c number known all =
    let reply = subst (KnowsStepped number) c.in-Did.is known in
    let some = subst (λ o. IfSome o (IsKnown number)) c.in-Some.is (c.given.ensures number reply) in
    subst (All (IsKnown number)) (sym c.in_ok-push.ensures.items) (All-push (IsKnown number) c.args.refs.now.items c.in-Some.r all some)
