use Rattle.std.proofs.Common.{◌≡◌, ◌≤◌, ◌+◌, ◌-◌, ◌^◌, ℕ, Option, max, arith, subst}
use Rattle.line_image.specs.Trace.{Trace}
use Rattle.mirror_image.specs.declared.halves.Left.TheVariants.{Both}
use Rattle.mirror_image.specs.Joint.{ahead_by, joint}
use Rattle.mirror_image.specs.Labels.{KeepsReads, generation}
use Rattle.mirror_image.specs.Paired.{ShowsLeader}
use Rattle.mirror_image.proofs.Paired.{leader_fits, shows_leader}
use Rattle.mirror_image.proofs.Halfway.{keeps_leader, keeps_none, both_from}
use Rattle.mirror_image.proofs.pairing.pair_halves.Goals as goal

pub returns-clause-paired : goal.returns-clause-paired
returns-clause-paired g c =
    let z = c.args.line in
    let a = g.A.Image.told c.args.a.now in
    let b = g.B.Image.told c.args.b.now in
    let a' = g.A.Image.told c.pair_labelled.new.a in
    let b' = g.B.Image.told c.pair_labelled.new.b in
    let first = c.in_ok-labels.labels.first in
    let second = c.in_ok-labels.labels.second in
    let paired = c.in_ok-pair_labelled.ensures.paired in
    let at_most : max (generation first) (generation second) ≤ 2 ^ 64 - 4 =
    omega (arith, c.if-greatest-gt-MAX_GENERATION.false, c.max-greatest.ensures, c.generation_of.ensures, c.generation_of-2.ensures) in
    let z_is : z ≡ a'.size - 1 = omega (arith, c.requires.a, c.read_labels.ensures.a_size, c.pair_labelled.ensures.a_size) in
    let ahead = ahead_by (a'.size - 1) Both b'.trace in
    let shows : ShowsLeader z a.trace b.trace (joint ahead z Both a'.calls a'.trace b'.trace) =
    shows_leader ahead z a'.calls first second a.trace b.trace a'.trace b'.trace c.in_ok-labels.ensures.first c.in_ok-labels.ensures.second
    (λ e. subst (λ (o : Option Trace). KeepsReads z o a'.trace) c.read_labels.ensures.a_same (paired.leads_first e))
    (λ e. subst (λ (o : Option Trace). KeepsReads z o b'.trace) c.read_labels.ensures.b_same (paired.leads_second e))
    paired.alike in
    record {
      sound = paired.sound;
      safe = paired.safe;
      fits = leader_fits z first second a.trace b.trace c.in_ok-labels.ensures.first c.in_ok-labels.ensures.second at_most;
      shows = subst (λ (m : ℕ). ShowsLeader z a.trace b.trace (joint ahead m Both a'.calls a'.trace b'.trace)) z_is shows;
      fenced_a = paired.fenced_a;
      fenced_b = paired.fenced_b;
      fenced = paired.fenced;
      low = omega (arith, at_most, c.max-greatest.ensures, c.generation_of.ensures, c.generation_of-2.ensures);
    }

pub returns-in_err-labels-clause-kept : goal.returns-in_err-labels-clause-kept
returns-in_err-labels-clause-kept g c = keeps_none c.args.line _ _ _ _ c.read_labels.ensures.a_same c.read_labels.ensures.b_same

pub returns-then-greatest-gt-MAX_GENERATION-clause-kept : goal.returns-then-greatest-gt-MAX_GENERATION-clause-kept
returns-then-greatest-gt-MAX_GENERATION-clause-kept g c = keeps_none c.args.line _ _ _ _ c.read_labels.ensures.a_same c.read_labels.ensures.b_same

pub returns-in_err-pair_labelled-clause-kept : goal.returns-in_err-pair_labelled-clause-kept
returns-in_err-pair_labelled-clause-kept g c =
    let first = c.in_ok-labels.labels.first in
    let second = c.in_ok-labels.labels.second in
    let few : generation first ≤ c.max-greatest.result + 1 = omega (arith, c.max-greatest.ensures, c.generation_of.ensures) in
    let few_other : generation second ≤ c.max-greatest.result + 1 = omega (arith, c.max-greatest.ensures, c.generation_of-2.ensures) in
    keeps_leader c.args.line (c.max-greatest.result + 1) first second _ _ _ _ c.in_ok-labels.ensures.first c.in_ok-labels.ensures.second few few_other
    (λ e. both_from c.args.line (c.max-greatest.result + 1) (generation first) second _ _ _ _ _ _ c.read_labels.ensures.a_same c.read_labels.ensures.b_same (c.pair_labelled.ensures.first e))
    (λ e. both_from c.args.line (c.max-greatest.result + 1) (generation second) first _ _ _ _ _ _ c.read_labels.ensures.b_same c.read_labels.ensures.a_same (c.pair_labelled.ensures.second e))

pub returns-clause-kept : goal.returns-clause-kept
returns-clause-kept g c =
    let first = c.in_ok-labels.labels.first in
    let second = c.in_ok-labels.labels.second in
    let few : generation first ≤ c.max-greatest.result + 1 = omega (arith, c.max-greatest.ensures, c.generation_of.ensures) in
    let few_other : generation second ≤ c.max-greatest.result + 1 = omega (arith, c.max-greatest.ensures, c.generation_of-2.ensures) in
    keeps_leader c.args.line (c.max-greatest.result + 1) first second _ _ _ _ c.in_ok-labels.ensures.first c.in_ok-labels.ensures.second few few_other
    (λ e. both_from c.args.line (c.max-greatest.result + 1) (generation first) second _ _ _ _ _ _ c.read_labels.ensures.a_same c.read_labels.ensures.b_same (c.pair_labelled.ensures.first e))
    (λ e. both_from c.args.line (c.max-greatest.result + 1) (generation second) first _ _ _ _ _ _ c.read_labels.ensures.b_same c.read_labels.ensures.a_same (c.pair_labelled.ensures.second e))
