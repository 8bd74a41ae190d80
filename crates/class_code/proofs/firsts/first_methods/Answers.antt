use Rattle.std.proofs.Common.{◌≡◌, ◌+◌, ◌<◌, ◌≤◌, length, ap, arith}
use Rattle.std.proofs.lemmas.List.{length_push}
use Rattle.class_set.specs.Linked.{class_count}
use Rattle.class_code.specs.Methods.{first_method, method_count}
use Rattle.class_code.proofs.Coding.{listed_more}
use Rattle.class_code.proofs.FirstMethods.{are_firsts, first_more, holds_more}
use Rattle.class_code.proofs.firsts.first_methods.Goals as goal

pub overflow_cast-first : goal.overflow_cast-first
overflow_cast-first c =
    let few = c.loop-class.invariant.few in
    let size = c.requires.few in
    let below : c.loop-class.class < class_count c.args.set.now = omega arith in
    omega (arith, few, size, below)

pub overflow_add-first : goal.overflow_add-first
overflow_add-first c =
    let few = c.loop-class.invariant.few in
    let size = c.requires.few in
    let count = c.method_count-first.ensures.count in
    let small = c.method_count-first.ensures.few in
    let below : c.loop-class.class < class_count c.args.set.now = omega arith in
    omega (arith, few, size, count, small, below)

pub loop-class-preserved : goal.loop-class-preserved
loop-class-preserved c =
    let set = c.args.set.now in
    let class = c.loop-class.class in
    let inv = c.loop-class.invariant in
    let count : c.method_count-first.result ≡ method_count set class = c.method_count-first.ensures.count in
    let more = first_more set class in
    let first = inv.first in
    let few = inv.few in
    let size = c.requires.few in
    let small = c.method_count-first.ensures.few in
    let below : class < class_count set = omega arith in
    let room : first_method set class + method_count set class ≤ 4294967295 = omega (arith, first, few, size, small, below) in
    record {
      first = omega (arith, count, more, first);
      few = omega (arith, count, few, small);
      count = let had = inv.count in let pushed = ap length c.in_ok-push.ensures.items in
          omega (arith, pushed, had, length_push c.loop-class.firsts.items c.loop-class.first);
      firsts = listed_more c.loop-class.firsts.items c.push.new.self.items 0 c.loop-class.first (first_method set) class inv.count inv.firsts
          inv.first c.in_ok-push.ensures.items;
      room = holds_more (λ k. first_method set k + method_count set k ≤ 4294967295) class inv.room room;
    }

pub returns : goal.returns
returns c =
    let set = c.args.set.now in
    let inv = c.loop-class.invariant in
    let all : class_count set ≤ c.loop-class.class = omega arith in
    are_firsts set c.loop-class.firsts.items (λ k h. inv.firsts k (omega (arith, h, all))) (λ k h. inv.room k (omega (arith, h, all)))
