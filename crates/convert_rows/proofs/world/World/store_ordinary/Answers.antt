use Rattle.std.proofs.Common.{◌<◌, inl, inr, sym, ◌∙◌, ap, subst, arith, rules}
use Rattle.twin_forms.specs.Table.{entry, InP}
use Rattle.twin_forms.specs.Moves.{LiesAt}
use Rattle.twin_forms.specs.Sights.{Twin, view_of}
use Rattle.line_memory.specs.Memory.{Memory}
use Rattle.converter.proofs.Calling.{known_same}
use Rattle.converter.proofs.Looked.{none_some}
use Rattle.convert_words.proofs.StepLaws.{ordinary_stores_keep}
use Rattle.convert_rows.proofs.Keeping.{scene_of, named, ordinary_of, may_store, stored_world}
use Rattle.convert_rows.proofs.world.World.store_ordinary.Goals as goal

pub plain_store-requires : goal.plain_store-requires
plain_store-requires c =
    let w = c.requires.whole in
    let now = c.args.self.now in
    let h : Twin = record { space = now.heap.space; memory = now.heap.memory; marks = now.heap.marks } in
    let found = c.requires.object in
    let there = subst (λ x. c.args.number < x) (sym w.long) found.0 in
    let lies = subst (λ x. LiesAt x (entry w.table c.args.number)) (sym found.1) (w.made c.args.number there) in
    let names = named (entry w.table c.args.number) c.args.object lies in
    let o = ordinary_of (view_of h) w.table c.args.number w.agrees.lies there
    (λ t own. none_some t (sym c.in-None.is ∙ (c.claimed_by.ensures.claimer w.table c.args.number w.agrees.lies there names t).1 own)) (λ (p : InP w.table c.args.number). search rules) in
    let slot : c.args.slot < (entry w.table c.args.number).slots =
    (let s = c.slots_at.ensures.slots w.table c.args.number w.agrees.lies there lies in let f =
    c.if-slot-slots_at.false in omega (arith, s, f)) in
    record {
      store = (
        w.table,
        c.args.number,
        may_store h w.table c.args.number c.args.object c.args.slot c.args.word
            w.agrees.lies there lies slot o.0 (c.requires.reference w),
        λ some. absurd (let z = o.0 in omega (arith, z, some)),
      );
    }

pub returns : goal.returns
returns c =
    let w = c.requires.whole in
    let now = c.args.self.now in
    let h : Twin = record { space = now.heap.space; memory = now.heap.memory; marks = now.heap.marks } in
    let n = c.plain_store.new.self in
    let h' : Twin = record { space = n.space; memory = n.memory; marks = n.marks } in
    let number = c.args.number in
    let found = c.requires.object in
    let there = subst (λ x. number < x) (sym w.long) found.0 in
    let lies = subst (λ x. LiesAt x (entry w.table number)) (sym found.1) (w.made number there) in
    let names = named (entry w.table number) c.args.object lies in
    let o = ordinary_of (view_of h) w.table number w.agrees.lies there
    (λ t own. none_some t (sym c.in-None.is ∙ (c.claimed_by.ensures.claimer w.table number w.agrees.lies there names t).1 own)) (λ (p : InP w.table number). search rules) in
    let slot : c.args.slot < (entry w.table number).slots = (let s = c.slots_at.ensures.slots w.table number w.agrees.lies there lies in let f = c.if-slot-slots_at.false in omega (arith, s, f)) in
    let may = may_store h w.table number c.args.object c.args.slot c.args.word w.agrees.lies there lies slot o.0 (c.requires.reference w) in
    let told = c.plain_store.ensures in
    let memory = told.same w.table number may (λ has. elim has [ inl x ↦ (let z = o.0 in omega (arith, z, x)) | inr x ↦ (let z = o.0 in let y = x.0 in omega (arith, z, y)) ]) in
    record {
      whole = λ _. stored_world h h' now.queue now.queue now.space now.monitors now.objects.items w
          (ordinary_stores_keep (scene_of h now.queue now.space now.monitors) h' w.table number c.args.slot c.args.word there o.1 (told.stored w.table number may) told.marks memory w.agrees)
          (ap (λ (m : Memory). m.size) memory) (known_same h.memory h'.memory memory w.known) told.marks;
    }
