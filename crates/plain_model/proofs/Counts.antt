-- What is held or nested is no more than there are acts.
use Rattle.std.proofs.Common.{◌≡◌, ℕ, suc, ◌≤◌, Bool, true, false, nat_eq, List, [], ◌∷◌, length, length-append, refl, arith}
use Rattle.std.proofs.Common.{if◌then◌else◌}
use Rattle.std.specs.Prelude.{Some}
use Rattle.std.proofs.lemmas.Bool.{eq-eqb}
use Rattle.graph_model.specs.declared.types.Graph.{Graph}
use Rattle.run_history.specs.declared.act.Op.{Op}
use Rattle.run_history.specs.declared.act.Op.TheVariants as op
use Rattle.run_history.specs.declared.act.PlainKey.{PlainKey}
use Rattle.run_history.specs.declared.plain.Monitor.{Monitor}
use Rattle.run_history.specs.Recorded.{Recorded}
use Rattle.run_history.specs.Worlds.{World, held, monitors_after_op, after}
use Rattle.plain_model.specs.Facts.{SetFacts}
use Rattle.plain_model.specs.First.{first_known, first_world}
use Rattle.plain_model.specs.Codes.{Code, is_persistent}
use Rattle.plain_model.specs.Runs.{IsPlainRun, known_of}
use Rattle.plain_model.specs.RunLaws.{how_many, is_by, is_begin, is_enter, CountsAtMost}
use Rattle.plain_model.proofs.Depths.{depth_is_begins_less_ends}
use Rattle.plain_model.proofs.Durable.{world-known_after_op}
use Rattle.plain_model.proofs.Owning.{owned_by_acts}
use Rattle.plain_model.proofs.RunKeeps.{run_keeps}
use Rattle.plain_model.proofs.Within.{entered_more, exited_fewer}

-- no more acts pass a test than there are
how_many-all : (test : Recorded → Bool) (acts : List Recorded) → how_many test acts ≤ length acts
how_many-all test [] = omega arith
how_many-all test (a ∷ acts) =
    let rest = how_many-all test acts in
    elim (test a) as (λ b. (if b then suc (how_many test acts) else how_many test acts) ≤ suc (length acts)) [
      | true ↦ omega (arith, rest)
      | false ↦ omega (arith, rest)
    ]

one_monitor : (monitors : List Monitor) (t : ℕ) (o : Op)
    → length (monitors_after_op monitors t o) ≤ suc (length monitors)
one_monitor monitors t (op.Enter key) = entered_more monitors key t
one_monitor monitors t (op.Exit key) = let fewer = exited_fewer monitors key in omega (arith, fewer)
one_monitor monitors t o = omega arith

one_monitor_next : (world : World) (t : ℕ) (o : Op) (persistent : Bool)
    → length (if persistent then world else after world t o).monitors ≤ suc (length world.monitors)
one_monitor_next world t o true = omega arith
one_monitor_next world t o false = one_monitor world.monitors t o

module _ (set : SetFacts) (main : ℕ) (opening : Graph) {Frames : Type 0} (code : Code set main opening Frames)
    (acts : List Recorded) (run : IsPlainRun set main opening code acts) where
  none_at_first : length (first_known set opening).world.monitors ≤ 0
  unfolding first_world
  none_at_first = omega arith

  few_monitors : length (known_of set main opening code acts).world.monitors ≤ length acts
  few_monitors = run_keeps set main opening code (λ known before. length known.world.monitors ≤ length before)
      (λ known frames Now before a may few.
      let more = one_monitor_next known.world a.act.thread a.act.op (is_persistent a.act.op) in
      let longer = length-append before (a ∷ []) in
      rw (world-known_after_op known a.act.thread a.named a.act.op) (omega (arith, more, longer, few)))
      none_at_first acts run

  few_entries : (key : PlainKey) (m : Monitor)
      → held (known_of set main opening code acts).world.monitors key ≡ Some m → m.count ≤ length acts
  few_entries key m is =
      let (kept, counts) = owned_by_acts set main opening code acts run in
      let counted = rw is at (counts m.owner key) in
      let all = how_many-all (is_by m.owner (is_enter key)) acts in
      let own : nat_eq m.owner m.owner ≡ true = eq-eqb m.owner m.owner refl in
      let its = rw own at counted in
      omega (arith, its, all)

  pub counts_are_at_most_acts : CountsAtMost (length acts) (known_of set main opening code acts).world
  counts_are_at_most_acts = record {
    depth = λ t.
        let same = depth_is_begins_less_ends set main opening code acts t run in
        let all = how_many-all (is_by t is_begin) acts in
        omega (arith, same, all);
    entries = few_entries;
    monitors = few_monitors;
  }
