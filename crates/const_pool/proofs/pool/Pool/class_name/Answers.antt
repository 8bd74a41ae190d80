use Rattle.std.proofs.Common.{◌≡◌, sym, ap, ◌∙◌}
use Rattle.std.specs.Option.{is_some}
use Rattle.const_pool.specs.Pool.{Slots, class_name_at}
use Rattle.const_pool.proofs.Lookups.{class_found}
use Rattle.const_pool.proofs.pool.Pool.class_name.Goals as goal

pub returns-clause-found : goal.returns-clause-found
returns-clause-found c =
    let found = class_found c.args.self.now c.args.index c.slots.ensures.pool in
    let same : is_some c.class_name_in.result ≡ is_some (class_name_at c.args.self.now c.args.index) =
    c.class_name_in.ensures.variant ∙ ap (λ (s : Slots). is_some (class_name_at s c.args.index)) c.slots.ensures.slots in
    (λ some. found.0 (sym same ∙ some), λ tagged. same ∙ found.1 tagged)
