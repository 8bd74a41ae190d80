use Rattle.std.proofs.Common.{◌≡◌, length, List, ◌++◌, ◌∷◌, [], ℕ, refl, sym, ◌∙◌, ap, subst}
use Rattle.twin_forms.specs.Sights.{Twin}
use Rattle.convert_rows.specs.Worlds.{IsWorld}
use Rattle.convert_rows.proofs.Keeping.{made_world, volatile_one}
use Rattle.convert_rows.proofs.world.World.make.Goals as goal

pub returns : goal.returns
returns c =
    let w = c.requires.whole in
    let h : Twin = record { space = c.args.self.now.heap.space; memory = c.args.self.now.heap.memory; marks = c.args.self.now.heap.marks } in
    let n = c.alloc.new.self in
    let h' : Twin = record { space = n.space; memory = n.memory; marks = n.marks } in
    let made = c.in-Some-Volatile.ensures in
    let at : c.in-Some-Volatile.at ≡ length h.space.words = volatile_one c.in-Some-Volatile.at (length h.space.words) (sym c.in-Some-Volatile.field-0-is ∙ made.reference) in
    let items : c.push_reserved.new.self.items ≡ c.args.self.now.objects.items ++ length h.space.words ∷ [] =
    c.push_reserved.ensures.items ∙ ap (λ (x : List ℕ). x ++ c.in-Some-Volatile.at ∷ []) c.reserve.ensures.items ∙ ap (λ x. c.args.self.now.objects.items ++ x ∷ []) at in
    record {
      whole = subst (λ (x : List ℕ). IsWorld n.space n.memory n.marks c.args.self.now.queue c.args.self.now.space c.args.self.now.monitors x) (sym items)
          (made_world h h' c.args.self.now.queue c.args.self.now.space c.args.self.now.monitors c.args.self.now.objects.items c.args.shape c.args.slots w
          (made.added refl w.table w.agrees.lies) c.alloc.ensures.memory c.alloc.ensures.kinds);
    }
