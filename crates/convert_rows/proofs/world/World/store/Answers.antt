use Rattle.std.proofs.Common.{◌≡◌, ◌<◌, false, refl, sym, subst, arith}
use Rattle.twin_forms.specs.Table.{entry, refers}
use Rattle.twin_forms.specs.Moves.{LiesAt}
use Rattle.twin_forms.specs.Sights.{Twin, view_of}
use Rattle.convert_rows.proofs.Keeping.{scene_of, named, twin_same, agrees_there, may_put, line_noted, copied_world}
use Rattle.convert_rows.proofs.Keeping.{uncopied_world}
use Rattle.convert_rows.proofs.world.World.store.Goals as goal

pub dirty-requires-clause-below : goal.dirty-requires-clause-below
dirty-requires-clause-below c =
    let w = c.requires.whole in
    let now = c.args.self.now in
    let h : Twin = record { space = now.heap.space; memory = now.heap.memory; marks = now.heap.marks } in
    let r = c.resident.new.self in
    let h1 : Twin = record { space = r.space; memory = r.memory; marks = r.marks } in
    let same : h1 ≡ h = twin_same h h1 c.resident.ensures.space (c.in-Ok-Ready.ensures.same c.in-Ok-Ready.field-0-is) c.resident.ensures.marks in
    let a = agrees_there h h1 now.queue now.space now.monitors now.objects.items w same in
    let n = c.args.number in
    let at = c.in_ok-object.object in
    let found = c.in_ok-object.ensures.object in
    let there = subst (λ x. n < x) (sym w.long) found.0 in
    let lies = subst (λ x. LiesAt x (entry w.table n)) (sym found.1) (w.made n there) in
    let names = named (entry w.table n) at lies in
    let owner = (c.in-Some.ensures.claimer w.table n w.agrees.lies there names c.in-Some.claimer).0 refl in
    let slot : c.args.slot < (entry w.table n).slots = (let s = c.slots_at.ensures.slots w.table n w.agrees.lies there lies in let f = c.if-slot-slots_at.false in omega (arith, s, f)) in
    let copied = c.in-Some-copied.ensures.copied w.table n a.lies there names slot in
    let i = w.agrees.queued.all c.in-Some.claimer n owner in
    (line_noted (scene_of h now.queue now.space now.monitors) w.table c.in-Some.claimer i.0 n c.args.slot c.in-Some-copied.line w.agrees i.1 slot copied.1).0

pub dirty-requires-clause-alone : goal.dirty-requires-clause-alone
dirty-requires-clause-alone c =
    let w = c.requires.whole in
    let now = c.args.self.now in
    let h : Twin = record { space = now.heap.space; memory = now.heap.memory; marks = now.heap.marks } in
    let r = c.resident.new.self in
    let h1 : Twin = record { space = r.space; memory = r.memory; marks = r.marks } in
    let same : h1 ≡ h = twin_same h h1 c.resident.ensures.space (c.in-Ok-Ready.ensures.same c.in-Ok-Ready.field-0-is) c.resident.ensures.marks in
    let a = agrees_there h h1 now.queue now.space now.monitors now.objects.items w same in
    let n = c.args.number in
    let at = c.in_ok-object.object in
    let found = c.in_ok-object.ensures.object in
    let there = subst (λ x. n < x) (sym w.long) found.0 in
    let lies = subst (λ x. LiesAt x (entry w.table n)) (sym found.1) (w.made n there) in
    let names = named (entry w.table n) at lies in
    let owner = (c.in-Some.ensures.claimer w.table n w.agrees.lies there names c.in-Some.claimer).0 refl in
    let slot : c.args.slot < (entry w.table n).slots = (let s = c.slots_at.ensures.slots w.table n w.agrees.lies there lies in let f = c.if-slot-slots_at.false in omega (arith, s, f)) in
    let copied = c.in-Some-copied.ensures.copied w.table n a.lies there names slot in
    let i = w.agrees.queued.all c.in-Some.claimer n owner in
    (line_noted (scene_of h now.queue now.space now.monitors) w.table c.in-Some.claimer i.0 n c.args.slot c.in-Some-copied.line w.agrees i.1 slot copied.1).1

pub returns-in-Some-copied : goal.returns-in-Some-copied
returns-in-Some-copied c =
    let w = c.requires.whole in
    let now = c.args.self.now in
    let h : Twin = record { space = now.heap.space; memory = now.heap.memory; marks = now.heap.marks } in
    let r = c.resident.new.self in
    let h1 : Twin = record { space = r.space; memory = r.memory; marks = r.marks } in
    let same : h1 ≡ h = twin_same h h1 c.resident.ensures.space (c.in-Ok-Ready.ensures.same c.in-Ok-Ready.field-0-is) c.resident.ensures.marks in
    let a = agrees_there h h1 now.queue now.space now.monitors now.objects.items w same in
    let n = c.args.number in
    let at = c.in_ok-object.object in
    let found = c.in_ok-object.ensures.object in
    let there = subst (λ x. n < x) (sym w.long) found.0 in
    let lies = subst (λ x. LiesAt x (entry w.table n)) (sym found.1) (w.made n there) in
    let names = named (entry w.table n) at lies in
    let owner = (c.in-Some.ensures.claimer w.table n w.agrees.lies there names c.in-Some.claimer).0 refl in
    let slot : c.args.slot < (entry w.table n).slots = (let s = c.slots_at.ensures.slots w.table n w.agrees.lies there lies in let f = c.if-slot-slots_at.false in omega (arith, s, f)) in
    let copied = c.in-Some-copied.ensures.copied w.table n a.lies there names slot in
    let plain : refers (view_of h) (entry w.table n) c.args.slot ≡ false = sym (c.if-refers_at.ensures.refers w.table n w.agrees.lies there lies) in
    let may = may_put h h1 w.table n at c.args.slot c.args.word a.lies same there lies slot plain in
    let told = c.plain_store.ensures in
    let m = c.plain_store.new.self in
    let h' : Twin = record { space = m.space; memory = m.memory; marks = m.marks } in
    record {
      whole = copied_world h h1 h' now.queue c.dirty.new.self now.space now.monitors now.objects.items c.in-Some.claimer n
          c.args.slot c.args.word c.in-Some-copied.line w same owner slot copied.0 copied.1 plain
          (told.stored w.table n may) told.marks (told.line w.table n may copied.0).changes c.dirty.ensures.noted;
    }

pub returns-in-None : goal.returns-in-None
returns-in-None c =
    let w = c.requires.whole in
    let now = c.args.self.now in
    let h : Twin = record { space = now.heap.space; memory = now.heap.memory; marks = now.heap.marks } in
    let r = c.resident.new.self in
    let h1 : Twin = record { space = r.space; memory = r.memory; marks = r.marks } in
    let same : h1 ≡ h = twin_same h h1 c.resident.ensures.space (c.in-Ok-Ready.ensures.same c.in-Ok-Ready.field-0-is) c.resident.ensures.marks in
    let a = agrees_there h h1 now.queue now.space now.monitors now.objects.items w same in
    let n = c.args.number in
    let at = c.in_ok-object.object in
    let found = c.in_ok-object.ensures.object in
    let there = subst (λ x. n < x) (sym w.long) found.0 in
    let lies = subst (λ x. LiesAt x (entry w.table n)) (sym found.1) (w.made n there) in
    let names = named (entry w.table n) at lies in
    let owner = (c.in-Some.ensures.claimer w.table n w.agrees.lies there names c.in-Some.claimer).0 refl in
    let slot : c.args.slot < (entry w.table n).slots = (let s = c.slots_at.ensures.slots w.table n w.agrees.lies there lies in let f = c.if-slot-slots_at.false in omega (arith, s, f)) in
    let plain : refers (view_of h) (entry w.table n) c.args.slot ≡ false = sym (c.if-refers_at.ensures.refers w.table n w.agrees.lies there lies) in
    let may = may_put h h1 w.table n at c.args.slot c.args.word a.lies same there lies slot plain in
    let told = c.plain_store.ensures in
    let m = c.plain_store.new.self in
    let h' : Twin = record { space = m.space; memory = m.memory; marks = m.marks } in
    let fresh = c.in-None.ensures.none w.table n a.lies there names refl in
    record {
      whole = uncopied_world h h1 h' now.queue now.space now.monitors now.objects.items c.in-Some.claimer n c.args.slot c.args.word w same owner fresh
          (told.stored w.table n may) told.marks (told.same w.table n may fresh);
    }
