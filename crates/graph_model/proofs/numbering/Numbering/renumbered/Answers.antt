use Rattle.std.proofs.Common.{◌≡◌, Some, None, true, arith, ap, sym, refl, ◌∙◌}
use Rattle.std.proofs.lemmas.List.{get_or_read}
use Rattle.graph_model.specs.declared.types.Value.TheVariants.{Obj as Object}
use Rattle.graph_model.specs.Heaps.{has_number}
use Rattle.graph_model.specs.Canon.{place_in}
use Rattle.graph_model.proofs.Placed.{found_place}
use Rattle.graph_model.proofs.numbering.Numbering.renumbered.Goals as goal

pub index-requires : goal.index-requires
index-requires c =
    let found : has_number c.self.inside.found.items c.in-Obj.object ≡ true = rw (c.in-Obj.is, ← c.self.view_is) at c.requires in
    let p = found_place c.self.inside.found.items c.self.inside.places.items c.in-Obj.object c.self.invariant found in
    omega (arith, p.0)

pub unwrap-requires : goal.unwrap-requires
unwrap-requires c =
    let found : has_number c.self.inside.found.items c.in-Obj.object ≡ true = rw (c.in-Obj.is, ← c.self.view_is) at c.requires in
    let p = found_place c.self.inside.found.items c.self.inside.places.items c.in-Obj.object c.self.invariant found in
    rw (get_or_read c.self.inside.places.items c.in-Obj.object c.index.result.now p.0 c.index.ensures None ∙ p.1) refl

pub returns-in-Obj : goal.returns-in-Obj
returns-in-Obj c =
    let found : has_number c.self.inside.found.items c.in-Obj.object ≡ true = rw (c.in-Obj.is, ← c.self.view_is) at c.requires in
    let p = found_place c.self.inside.found.items c.self.inside.places.items c.in-Obj.object c.self.invariant found in
    let same : Some c.unwrap.result ≡ Some (place_in c.self.inside.found.items c.in-Obj.object) = sym c.unwrap.ensures
    ∙ get_or_read c.self.inside.places.items c.in-Obj.object c.index.result.now p.0 c.index.ensures None ∙ p.1 in
    let place : c.unwrap.result ≡ place_in c.self.inside.found.items c.in-Obj.object = cc in
    rw (c.in-Obj.is, ← c.self.view_is) (ap (λ n. Object n) place)
