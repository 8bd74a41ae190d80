use Rattle.std.proofs.Common.{◌≡◌, ◌<◌, ◌≤◌, List, Bool, false, replicate, length, slice_index_or, Some, refl, sym, ◌∙◌, ap, arith}
use Rattle.std.proofs.Common.{rules, inl, inr, take}
use Rattle.std.specs.Prelude.{slice_get}
use Rattle.std.proofs.lemmas.Bool.{cases_lt}
use Rattle.std.proofs.lemmas.List.{get_or-replicate, length-replicate}
use Rattle.std.proofs.lemmas.Option.{slice_get-get_or, slice_get_within, get_or_from_slice_get}
use Rattle.image_meaning.specs.Meaning.{walk}
use Rattle.image_walk.specs.Walking.{IsFaultOf}
use Rattle.image_walk.proofs.Looking.{looks_nowhere, looks_more}
use Rattle.image_walk.proofs.Reading.{err_is}
use Rattle.image_walk.proofs.Walks.{walking_none, walking_on, walk_all, walk_fault}
use Rattle.image_walk.proofs.walking.walk_objects.Goals as goal

pub loop-line-init : goal.loop-line-init
loop-line-init g c =
    let size = c.args.memory.now.size in
    let blank : c.in_ok-lines.lines.items ≡ replicate c.lines.result false =
    c.in_ok-lines.ensures.items_if_clones_equal (λ y h. search rules) in
    let whole : c.as_mut_slice-taken.result.now ≡ replicate c.lines.result false = c.as_mut_slice-taken.ensures.value ∙ blank in
    let count : length c.as_mut_slice-taken.result.now ≡ size = ap (λ (bs : List Bool). length bs) whole ∙ length-replicate c.lines.result false ∙ c.lines.ensures in
    record {
      looks = looks_nowhere c.args.memory.now;
      spared = refl;
      objects = c.requires.objects;
      lines = count;
      within = omega arith;
      so_far = λ words start so found.
          rw c.new-nodes.ensures.items
          (walking_none c.args.shapes.now size words start c.args.found.numbers c.as_mut_slice-taken.result.now found
          (λ l below.
          let under : l < c.lines.result = omega (arith, below, count, c.lines.ensures) in
          ap (λ (bs : List Bool). slice_index_or bs l false) whole ∙ get_or-replicate c.lines.result l false false under));
    }

pub loop-line-preserved : goal.loop-line-preserved
loop-line-preserved g c =
    let size = c.args.memory.now.size in
    let inv = c.loop-line.invariant in
    let found = c.loop-line.found.numbers in
    let next = c.loop-line.next in
    let line = c.in-Some.line in
    let bytes : c.loop-line.memory.size ≡ size = inv.looks.changes.size in
    let at : slice_get found next ≡ Some line = sym c.in-Some.ensures.line in
    let few : next < c.loop-line.found.objects = c.in-Some.ensures.few in
    record {
      looks = looks_more c.args.memory.now c.loop-line.memory c.visit.new.memory inv.looks c.visit.ensures.looks;
      spared = c.in_ok-visited.ensures.cause ∙ inv.spared;
      objects = c.visit.ensures.objects_after ∙ inv.objects;
      lines = c.visit.ensures.lines_after ∙ inv.lines;
      within = omega (arith, few, inv.objects);
      so_far = λ words start so begins.
          let walking = inv.so_far words start so begins in
          let seen = c.in_ok-visited.ensures.visited words (take next found) (inv.looks.keeps words so) walking.takes in
          rw (c.in_ok-push.ensures.items, c.max-free.ensures)
          (walking_on c.args.shapes.now size words start next found c.visit.new.found.numbers c.loop-line.taken c.visit.new.taken
          c.loop-line.nodes.items c.loop-line.free line c.in_ok-visited.visited walking (slice_get_within found next line at)
          (get_or_from_slice_get found next line 0 at) (rw bytes at seen));
    }

pub loop-line-smaller : goal.loop-line-smaller
loop-line-smaller g c =
    let few : c.loop-line.next < c.loop-line.found.objects = c.in-Some.ensures.few in
    omega (arith, few, c.loop-line.invariant.objects)

pub returns-clause-walked : goal.returns-clause-walked
returns-clause-walked g c words start so begins =
    let size = c.args.memory.now.size in
    let inv = c.loop-line.invariant in
    let found = c.loop-line.found.numbers in
    let next = c.loop-line.next in
    let past : length found ≤ next = elim (cases_lt next (length found)) [
      | inl a ↦ absurd (c.in_default.not-Some (slice_index_or found next 0) (c.get.ensures.line ∙ slice_get-get_or found next 0 a))
      | inr a ↦ a
    ] in
    let all = walk_all c.args.shapes.now size words start next found c.loop-line.taken c.loop-line.nodes.items c.loop-line.free
    (inv.so_far words start so begins) past inv.within in
    record { walks = all.0; nodes = all.1; free = all.2 }

pub returns-in_err-visited-clause-bad : goal.returns-in_err-visited-clause-bad
returns-in_err-visited-clause-bad g c words start so begins =
    let size = c.args.memory.now.size in
    let inv = c.loop-line.invariant in
    let found = c.loop-line.found.numbers in
    let next = c.loop-line.next in
    let line = c.in-Some.line in
    let bytes : c.loop-line.memory.size ≡ size = inv.looks.changes.size in
    let at : slice_get found next ≡ Some line = sym c.in-Some.ensures.line in
    let few : next < c.loop-line.found.objects = c.in-Some.ensures.few in
    let walking = inv.so_far words start so begins in
    let seen = c.in_err-visited.ensures.bad words (take next found) (inv.looks.keeps words so) walking.takes in
    err_is c.from_residual-in_err-visited.result c.in_err-visited.field-0.0
    (IsFaultOf (walk c.args.shapes.now size words start size)) c.from_residual-in_err-visited.ensures.1
    (walk_fault c.args.shapes.now size words start next found line c.in_err-visited.field-0.0 walking.walks (slice_get_within found next line at)
    (omega (arith, few, inv.objects)) (get_or_from_slice_get found next line 0 at) (rw bytes at seen))

pub returns-in_err-visited-clause-looks : goal.returns-in_err-visited-clause-looks
returns-in_err-visited-clause-looks g c =
    looks_more c.args.memory.now c.loop-line.memory c.visit.new.memory c.loop-line.invariant.looks c.visit.ensures.looks

pub returns-in_err-push-clause-looks : goal.returns-in_err-push-clause-looks
returns-in_err-push-clause-looks g c =
    looks_more c.args.memory.now c.loop-line.memory c.visit.new.memory c.loop-line.invariant.looks c.visit.ensures.looks
