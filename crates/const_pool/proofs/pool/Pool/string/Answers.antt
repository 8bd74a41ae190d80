use Rattle.std.proofs.Common.{◌≡◌, sym, ap, ◌∙◌}
use Rattle.std.specs.Option.{is_some}
use Rattle.const_pool.specs.Pool.{Slots, string_at}
use Rattle.const_pool.proofs.Lookups.{string_found}
use Rattle.const_pool.proofs.pool.Pool.string.Goals as goal

pub returns-clause-found : goal.returns-clause-found
returns-clause-found c =
    let found = string_found c.args.self.now c.args.index c.slots.ensures.pool in
    let same : is_some c.string_in.result ≡ is_some (string_at c.args.self.now c.args.index) =
    c.string_in.ensures.variant ∙ ap (λ (s : Slots). is_some (string_at s c.args.index)) c.slots.ensures.slots in
    (λ some. found.0 (sym same ∙ some), λ tagged. same ∙ found.1 tagged)
