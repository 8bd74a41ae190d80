use Rattle.std.proofs.Common.{◌≡◌, ◌++◌, [], ◌∷◌, None, rules, refl}
use Rattle.listing.specs.Pool.{width, free_index, index_from}
use Rattle.listing.proofs.NewIndices.{new_index, free-append}
use Rattle.listing.proofs.pool.Entries.add.Goals as goal

pub invariant_of-self-in-Ok : goal.invariant_of-self-in-Ok
invariant_of-self-in-Ok c =
    let entries = c.self.inside.items.items in
    let put : c.push.new.self.items ≡ entries ++ c.args.entry.items ∷ [] = search rules in
    let none : index_from 1 entries c.args.entry.items ≡ None = cc in
    let free : c.self.inside.free ≡ free_index entries = c.self.invariant.0 in
    let needed : c.width-width.result ≡ width c.args.entry.items = search rules in (
      rw (put, free-append entries c.args.entry.items, free, needed) refl,
      new_index entries c.push.new.self.items c.args.entry c.self.inside.free c.self.inside.indices
          c.insert.new.self
          free put none c.in-Ok.ensures.updates c.self.invariant.1,
    )
