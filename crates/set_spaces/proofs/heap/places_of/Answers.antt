use Rattle.std.proofs.Common.{◌+◌, ℕ, Option, subst, sym, Vec, Global}
use Rattle.set_spaces.specs.Numbering.{ArePlaces}
use Rattle.set_spaces.proofs.Places.{place_passed, place_taken}
use Rattle.set_spaces.proofs.heap.places_of.Goals as goal
use Rattle.set_spaces.proofs.heap.places_of.Goals.{then-class-count, else-class-count}

pub loop-place-preserved : goal.loop-place-preserved
loop-place-preserved c =
    let classes = c.args.classes.now in
    let n = c.loop-place.place in
    let old = c.loop-place.places.items in
    let Are : Vec (Option ℕ) Global → Type 0 = λ v. ArePlaces classes (n + 1) c.args.count v.items in
    elim c.if-class-count.branch [
      | then-class-count w ↦
          subst Are (sym w.places-is)
          (place_taken classes n c.args.count old c.loop-place.invariant w.if-class-count.true)
      | else-class-count w ↦
          subst Are (sym w.places-is)
          (place_passed classes n c.args.count old c.loop-place.invariant w.if-class-count.false)
    ]
