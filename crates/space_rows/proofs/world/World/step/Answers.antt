use Rattle.std.proofs.Common.{◌+◌, sym, subst, arith}
use Rattle.two_spaces.specs.Seen.{shown_of}
use Rattle.space_rows.specs.Worlds.{HoldsOf, spaces_of}
use Rattle.space_rows.proofs.Here.{all_here}
use Rattle.space_rows.proofs.Stepping.{after_step, heap_left}
use Rattle.space_rows.proofs.world.World.step.Goals as goal

pub take_step-stepped-requires-clause-asks : goal.take_step-stepped-requires-clause-asks
take_step-stepped-requires-clause-asks g c =
    let h = c.requires.holds in
    let s = spaces_of c.args.self.now.spaces in
    let count = c.count.ensures.count in
    let number = c.number.ensures in
    let test = c.if-count-number.false in
    record {
      thread = omega (arith, count, number, test);
      fit = c.requires.may.fit;
      known = c.requires.may.known;
      here = all_here s h.table h.whole.stands h.whole.long (g.C.Types.facts c.args.types.now) c.args.self.now.rest c.args.t
          h.agrees.heap.of_set.statics c.args.request.now c.requires.may.fit;
    }

pub returns-in_err-keep : goal.returns-in_err-keep
returns-in_err-keep g c =
    let h = c.requires.holds in
    let before = c.args.self.now.spaces in
    let now = c.take_step-stepped.new.objects in
    let few = c.if-self-ge-MOST.false in
    let holds = after_step (g.C.Types.facts c.args.types.now) (spaces_of before) (spaces_of now) c.args.self.now.rest
    c.take_step-stepped.new.rest c.args.self.now.refs.items c.keep.new.refs.items c.args.self.now.next
    c.args.self.now.acts c.args.self.now.entered c.args.t c.args.request.now c.take_step-stepped.result h
    c.requires.may c.take_step-stepped.ensures.step
    (heap_left spaces_of (λ h. shown_of (spaces_of h)) c.args.self.now.next before now h.table
    c.take_step-stepped.result h.whole c.take_step-stepped.ensures.heap)
    (omega (arith, few))
    (c.keep.ensures (shown_of (spaces_of now)).number) in
    record {
      holds = subst (λ n. HoldsOf (g.C.Types.facts c.args.types.now) (spaces_of now) c.take_step-stepped.new.rest
          c.keep.new.refs.items c.args.self.now.next (c.args.self.now.acts + 1) (c.args.self.now.entered + n)) (sym c.entries.ensures) holds;
    }

pub returns : goal.returns
returns g c =
    let h = c.requires.holds in
    let before = c.args.self.now.spaces in
    let now = c.take_step-stepped.new.objects in
    let few = c.if-self-ge-MOST.false in
    let holds = after_step (g.C.Types.facts c.args.types.now) (spaces_of before) (spaces_of now) c.args.self.now.rest
    c.take_step-stepped.new.rest c.args.self.now.refs.items c.keep.new.refs.items c.args.self.now.next
    c.args.self.now.acts c.args.self.now.entered c.args.t c.args.request.now c.take_step-stepped.result h
    c.requires.may c.take_step-stepped.ensures.step
    (heap_left spaces_of (λ h. shown_of (spaces_of h)) c.args.self.now.next before now h.table
    c.take_step-stepped.result h.whole c.take_step-stepped.ensures.heap)
    (omega (arith, few))
    (c.keep.ensures (shown_of (spaces_of now)).number) in
    record {
      holds = subst (λ n. HoldsOf (g.C.Types.facts c.args.types.now) (spaces_of now) c.take_step-stepped.new.rest
          c.keep.new.refs.items c.args.self.now.next (c.args.self.now.acts + 1) (c.args.self.now.entered + n)) (sym c.entries.ensures) holds;
    }
