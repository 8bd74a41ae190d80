use Rattle.std.proofs.Common.{◌≡◌, ◌++◌, [], ◌∷◌, ◌<◌, true, false, length, if◌then◌else◌, arith, ap, sym, ◌∙◌}
use Rattle.std.specs.Prelude.{filter, is_some}
use Rattle.std.specs.List.{range_with_len}
use Rattle.std.proofs.lemmas.List.{append-nil}
use Rattle.graph_model.specs.Heaps.{has_number}
use Rattle.graph_model.proofs.Ascending.{filter_range-more}
use Rattle.graph_model.proofs.Placed.{is_some-place_of, read_place}
use Rattle.graph_model.proofs.numbering.Numbering.ascending.Goals as goal
use Rattle.graph_model.proofs.numbering.Numbering.ascending.Goals.{then-is_some+in_ok-push, else-is_some}

pub loop-object-preserved : goal.loop-object-preserved
loop-object-preserved c =
    let found = c.self.inside.found.items in
    let n = c.loop-object.object in
    let there : n < length c.self.inside.places.items = omega (arith, c.loop-object-test.true, c.len-object-end.ensures) in
    let place = read_place found c.self.inside.places.items n c.index.result.now c.self.invariant there c.index.ensures in
    let test : has_number found n ≡ c.is_some.result =
    sym (is_some-place_of found n) ∙ sym (ap (λ o. is_some o) place) ∙ sym c.is_some.ensures in
    let more = filter_range-more (has_number found) n in
    let front = filter (has_number found) (range_with_len 0 n) in
    elim c.if-is_some.branch [
      | then-is_some+in_ok-push w ↦ (let yes : has_number found n ≡ true = test ∙ w.if-is_some.true in
          rw (w.ascending-is, w.in_ok-push.ensures.items, c.loop-object.invariant)
          (sym (more ∙ ap (λ b. front ++ (if b then n ∷ [] else [])) yes)))
      | else-is_some w ↦ (let no : has_number found n ≡ false = test ∙ w.if-is_some.false in
          rw (w.ascending-is, c.loop-object.invariant)
          (sym (more ∙ ap (λ b. front ++ (if b then n ∷ [] else [])) no ∙ append-nil front)))
    ]
