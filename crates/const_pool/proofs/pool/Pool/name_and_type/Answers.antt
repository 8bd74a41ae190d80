use Rattle.std.proofs.Common.{◌≡◌, sym, ap, ◌∙◌}
use Rattle.std.specs.Option.{is_some}
use Rattle.const_pool.specs.Pool.{Slots, name_and_type_at}
use Rattle.const_pool.proofs.Lookups.{name_and_type_found}
use Rattle.const_pool.proofs.pool.Pool.name_and_type.Goals as goal

pub returns-clause-found : goal.returns-clause-found
returns-clause-found c =
    let found = name_and_type_found c.args.self.now c.args.index c.slots.ensures.pool in
    let same : is_some c.name_and_type_in.result ≡ is_some (name_and_type_at c.args.self.now c.args.index) =
    c.name_and_type_in.ensures.variant ∙ ap (λ (s : Slots). is_some (name_and_type_at s c.args.index)) c.slots.ensures.slots in
    (λ some. found.0 (sym same ∙ some), λ tagged. same ∙ found.1 tagged)
