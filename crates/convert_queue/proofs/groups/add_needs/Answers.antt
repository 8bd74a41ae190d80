use Rattle.std.proofs.Common.{◌≡◌, ℕ, true, subst, sym}
use Rattle.std.proofs.Common.{below_more}
use Rattle.convert_queue.specs.Threads.{has, needs_of}
use Rattle.convert_queue.proofs.Sets.{one_added}
use Rattle.convert_queue.proofs.groups.add_needs.Goals as goal

pub loop-of-preserved : goal.loop-of-preserved
loop-of-preserved c =
    let needs = c.args.needs.now in
    let set = c.args.set in
    let of = c.loop-of.of in
    let new = c.union-all.result in
    let from = c.needs_from-more.ensures in
    let u = c.union-all.ensures in
    record {
      adds = one_added needs set c.loop-of.all c.needs_from-more.result new of c.loop-of.invariant.adds from.there from.none u.left u.only u.more;
      all = λ a w lt. below_more (λ (k : ℕ). has set k ≡ true → needs_of needs k w ≡ true → has new w ≡ true) of
          (λ k under h n. u.left w (c.loop-of.invariant.all k w under h n))
          (λ h n. u.right w (subst (λ x. has x w ≡ true) (sym (from.there h)) n)) a lt;
    }
