use Rattle.program_host.proofs.Corresponding.{machines-correspond, over-heaps}
use Rattle.program_host.proofs.laws.machines_correspond.Goals as goal

pub returns : goal.returns
returns c =
    let by = machines-correspond c.items_are_alike.ensures c.machines_with_built_in_methods_go_alike.ensures.keep in
    record { by_number = by; over_heaps = over-heaps by }
