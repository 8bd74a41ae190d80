-- Nothing but what is told stands in the way.
use Rattle.std.proofs.Common.{◌≡◌, ◌⊎◌, inl, inr, ⊎_elim, ℕ, ◌<◌, List, Option, None, Result, Ok, Err, sym, ◌∙◌, ap, subst, arith}
use Rattle.ap_base.specs.Sinks.{with_bytes}
use Rattle.graph_model.specs.declared.types.Graph.{Graph}
use Rattle.line_image.specs.Told.{Told}
use Rattle.image_meaning.specs.Checks.{Words}
use Rattle.image_meaning.specs.Meaning.{StandsFor}
use Rattle.image_meaning.proofs.Standing.{standing-sized}
use Rattle.image_meaning.proofs.Standings.{stands-within}
use Rattle.image_opening.specs.Attached.{AreRead}
use Rattle.dense_image.specs.Written.{no_room}
use Rattle.statuses.specs.declared.status.NewReason.TheVariants.{Size, NotBlank}
use Rattle.compact_call.specs.declared.fault.CompactFault.{CompactFault}
use Rattle.compact_call.specs.declared.fault.CompactFault.TheVariants.{BadImage, NewImage, Full, ImageFailed, SinkFailed, OutOfMemory}
use Rattle.compact_call.specs.Fresh.{IsWrittenTo}
use Rattle.compact_call.specs.Laws.{IsUnhindered, IsDoneOrFailed, UnhinderedIsDone}
use Rattle.compact_call.specs.Outcomes.{StoodFor, IsOldFault, IsTried, CameOf, written_line}
use Rattle.compact_call.proofs.NewStops.{in_size, one_read}

module _ (old start : Told) (free : IsUnhindered old start) where
  -- whatever reads give of the old image, it stands for the graph
  stands_so : (words : Words) → AreRead old words → StandsFor old.size words free.graph
  stands_so words read =
      let range = in_size old.size (standing-sized old.size free.words free.graph free.stands) in
      stands-within old.size free.words words free.graph range.0 range.1 free.stands
      (λ l w below. one_read old.trace free.old_tells l w (free.words l w) (words l w) (free.read l w below) (read l w below))

  one_graph : (graph : Graph) → StoodFor old graph → graph ≡ free.graph
  one_graph graph stood = let same = stands_so stood.words stood.read in let is = stood.stands in cc

  opened : (fault : CompactFault) → IsOldFault old fault → IsDoneOrFailed (Err fault)
  opened (BadImage line reason) bad = let same = stands_so bad.words bad.read in let is = bad.fails in cc
  opened (NewImage reason) bad = bad
  opened (Full full) bad = bad
  opened ImageFailed bad = tt
  opened SinkFailed bad = tt
  opened OutOfMemory bad = tt

  module _ (graph : Graph) (after : Told) (taken taken' : Option (List ℕ)) where
    written : (outcome : Result (Unit {0}) CompactFault) → IsTried graph old start after taken taken' outcome → IsDoneOrFailed outcome
    written (Ok finished) is = tt
    written (Err ImageFailed) is = tt
    written (Err SinkFailed) is = tt
    written (Err OutOfMemory) is = tt
    written (Err (BadImage line reason)) is = is.came
    written (Err (NewImage Size)) is =
        let range = in_size start.size free.blank.0 in
        ⊎_elim (λ few. omega (arith, few, range.0)) (λ many. omega (arith, many, range.1)) is.came
    written (Err (NewImage NotBlank)) is =
        let range = in_size start.size free.blank.0 in
        let here : 0 < start.size = omega (arith, range.0) in
        is.came.used
        (one_read start.trace free.new_tells 0 0 (free.fresh 0 0) (is.came.words 0 0) (free.fresh_read 0 0 here) (is.came.read 0 0 here)
        ∙ free.blank.1)
    written (Err (Full full)) is =
        let none : no_room start.size graph ≡ None =
        subst (λ (g : Graph). no_room start.size g ≡ None) (sym (one_graph graph is.stood)) free.room in
        let some = is.came.1 in
        cc

abbrev finished_as : Unit {0} → Result (Unit {0}) CompactFault
finished_as done = Ok done

never_done : (done : Unit {0}) (fault : CompactFault) → finished_as done ≡ Err fault → ⊥
never_done done fault is = cc

pub done : UnhinderedIsDone
done old start after taken taken' outcome free came = ⊎_elim
    (λ unopened. subst IsDoneOrFailed (sym unopened.1) (opened old start free unopened.0 unopened.2.fault_is))
    (λ tried. written old start free tried.0 after taken taken' outcome tried.1)
    came

-- the graph is written, and the line put
pub finished : (old start after : Told) (taken taken' : Option (List ℕ)) (done : Unit {0}) (free : IsUnhindered old start)
    → CameOf old start after taken taken' (Ok done)
    → IsWrittenTo free.graph start after × (taken' ≡ with_bytes taken (written_line free.graph))
finished old start after taken taken' done free (inl (fault, is, unopened)) = absurd (never_done done fault is)
finished old start after taken taken' done free (inr (graph, tried)) =
    let same = one_graph old start free graph tried.stood in (
      subst (λ (g : Graph). IsWrittenTo g start after) same tried.came,
      tried.puts ∙ ap (λ (g : Graph). with_bytes taken (written_line g)) same,
    )

-- where memory ran out nothing was put
pub quiet : (old start after : Told) (taken taken' : Option (List ℕ)) → CameOf old start after taken taken' (Err OutOfMemory) → taken' ≡ taken
quiet old start after taken taken' (inl (fault, is, unopened)) = unopened.nothing
quiet old start after taken taken' (inr (graph, tried)) = tried.puts
