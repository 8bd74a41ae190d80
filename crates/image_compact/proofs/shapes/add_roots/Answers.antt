use Rattle.std.proofs.Common.{List, ℕ, ◌++◌, ◌∷◌, [], map, take, ap, subst}
use Rattle.image_meaning.specs.Entries.{DirectoryEntry, RootEntry}
use Rattle.dense_image.specs.Graphs.{root_entry}
use Rattle.image_compact.specs.Planning.{Spell}
use Rattle.image_compact.proofs.Plans.{spell_roots}
use Rattle.image_compact.proofs.shapes.add_roots.Goals as goal

pub loop-root-preserved : goal.loop-root-preserved
loop-root-preserved c entries spell =
    let roots = c.args.roots.now in
    let i = c.loop-root.root-index in
    let root = c.root-item.result in
    spell_roots entries roots i root c.add_root.new.self c.loop-root-test.true c.root-item.is
    (subst (λ (name : List ℕ). Spell ((entries ++ map root_entry (take i roots)) ++ RootEntry name ∷ []) c.add_root.new.self)
    c.as_slice.ensures.same
    (c.in_ok-add_root.ensures (entries ++ map root_entry (take i roots)) (c.loop-root.invariant entries spell)))
