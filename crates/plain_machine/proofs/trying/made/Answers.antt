use Rattle.std.proofs.Common.{◌≡◌, true, ap, sym, subst}
use Rattle.std.proofs.lemmas.Result.{IfOk-weaker, on_err_weaker}
use Rattle.shared_objects.specs.Shown.{Shown}
use Rattle.plain_heap.specs.Heaps.{shown_back, shown_of}
use Rattle.plain_machine.specs.Tries.{is_short}
use Rattle.plain_machine.specs.Trying.{IsKept}
use Rattle.plain_machine.proofs.Keeping.{kept-agrees, kept-askable}
use Rattle.plain_machine.proofs.Making.{closed-kept, on-err, roomed-kept, then-kept, then-makes, then-short}
use Rattle.plain_machine.proofs.trying.made.Goals as goal

pub returns-in_default : goal.returns-in_default
returns-in_default g c =
    let facts = g.C.Types.facts c.args.set.now in
    let before = shown_of c.args.heap.now in
    let start = shown_of c.close.new.self in
    let kept = closed-kept before c.args.rest.now start c.close.ensures.shown c.requires.agrees.monitors in
    let mid = shown_of c.try_step-first.new.heap in
    let rest_mid = c.try_step-first.new.rest in
    record {
      made = IfOk-weaker c.outcome.result _ _ (λ m e. then-makes facts c.args.t c.args.request.now before
          c.args.rest.now start c.args.rest.now kept
          c.requires.silent c.requires.asks c.try_step-first.result mid (shown_back
          c.try_step-first.new.heap) rest_mid
          c.try_step-first.ensures.tries m e) c.outcome.ensures.made;
      same = on_err_weaker c.outcome.result (λ e. then-kept facts c.args.t c.args.request.now before
          c.args.rest.now start c.args.rest.now kept
          c.requires.silent c.requires.asks c.try_step-first.result mid (shown_back
          c.try_step-first.new.heap) rest_mid
          c.try_step-first.ensures.tries e) c.outcome.ensures.short;
      short = on_err_weaker c.outcome.result (λ e. then-short facts c.args.t c.args.request.now before
          c.args.rest.now start c.args.rest.now kept
          c.requires.silent c.requires.asks c.try_step-first.result mid (shown_back
          c.try_step-first.new.heap) rest_mid
          c.try_step-first.ensures.tries e) c.outcome.ensures.short;
    }

pub returns-in_err-make_room-clause-same : goal.returns-in_err-make_room-clause-same
returns-in_err-make_room-clause-same g c =
    let facts = g.C.Types.facts c.args.set.now in
    let before = shown_of c.args.heap.now in
    let start = shown_of c.close.new.self in
    let kept = closed-kept before c.args.rest.now start c.close.ensures.shown c.requires.agrees.monitors in
    let mid = shown_of c.try_step-first.new.heap in
    let rest_mid = c.try_step-first.new.rest in
    let lacks : is_short c.try_step-first.result ≡ true = ap is_short c.in-Words.is in
    let kept_mid = then-kept facts c.args.t c.args.request.now before c.args.rest.now start c.args.rest.now
    kept
    c.requires.silent c.requires.asks c.try_step-first.result mid (shown_back c.try_step-first.new.heap)
    rest_mid
    c.try_step-first.ensures.tries lacks in
    on-err c.from_residual.result
    (subst (λ (s : Shown). IsKept before c.args.rest.now s rest_mid) (sym c.in_err-make_room.ensures.same)
    kept_mid)

pub returns-in_err-make_room-clause-short : goal.returns-in_err-make_room-clause-short
returns-in_err-make_room-clause-short g c =
    let facts = g.C.Types.facts c.args.set.now in
    let before = shown_of c.args.heap.now in
    let start = shown_of c.close.new.self in
    let kept = closed-kept before c.args.rest.now start c.close.ensures.shown c.requires.agrees.monitors in
    let mid = shown_of c.try_step-first.new.heap in
    let rest_mid = c.try_step-first.new.rest in
    let lacks : is_short c.try_step-first.result ≡ true = ap is_short c.in-Words.is in
    let kept_mid = then-kept facts c.args.t c.args.request.now before c.args.rest.now start c.args.rest.now
    kept
    c.requires.silent c.requires.asks c.try_step-first.result mid (shown_back c.try_step-first.new.heap)
    rest_mid
    c.try_step-first.ensures.tries lacks in
    on-err c.from_residual.result (then-short facts c.args.t c.args.request.now before c.args.rest.now
    start c.args.rest.now kept
    c.requires.silent c.requires.asks c.try_step-first.result mid (shown_back c.try_step-first.new.heap)
    rest_mid
    c.try_step-first.ensures.tries lacks)

pub try_step-requires-clause-agrees : goal.try_step-requires-clause-agrees
try_step-requires-clause-agrees g c =
    let facts = g.C.Types.facts c.args.set.now in
    let before = shown_of c.args.heap.now in
    let start = shown_of c.close.new.self in
    let kept = closed-kept before c.args.rest.now start c.close.ensures.shown c.requires.agrees.monitors in
    let mid = shown_of c.try_step-first.new.heap in
    let rest_mid = c.try_step-first.new.rest in
    let lacks : is_short c.try_step-first.result ≡ true = ap is_short c.in-Words.is in
    let kept_mid = then-kept facts c.args.t c.args.request.now before c.args.rest.now start c.args.rest.now
    kept
    c.requires.silent c.requires.asks c.try_step-first.result mid (shown_back c.try_step-first.new.heap)
    rest_mid
    c.try_step-first.ensures.tries lacks in
    let next = shown_of c.make_room.new.self in
    let kept_next = roomed-kept before c.args.rest.now mid rest_mid next c.in-Words.words
    (c.in_ok-make_room.ensures.shown) kept_mid in
    kept-agrees facts before c.args.rest.now next rest_mid kept_next c.requires.agrees

pub try_step-requires-clause-asks : goal.try_step-requires-clause-asks
try_step-requires-clause-asks g c =
    let facts = g.C.Types.facts c.args.set.now in
    let before = shown_of c.args.heap.now in
    let start = shown_of c.close.new.self in
    let kept = closed-kept before c.args.rest.now start c.close.ensures.shown c.requires.agrees.monitors in
    let mid = shown_of c.try_step-first.new.heap in
    let rest_mid = c.try_step-first.new.rest in
    let lacks : is_short c.try_step-first.result ≡ true = ap is_short c.in-Words.is in
    let kept_mid = then-kept facts c.args.t c.args.request.now before c.args.rest.now start c.args.rest.now
    kept
    c.requires.silent c.requires.asks c.try_step-first.result mid (shown_back c.try_step-first.new.heap)
    rest_mid
    c.try_step-first.ensures.tries lacks in
    let next = shown_of c.make_room.new.self in
    let kept_next = roomed-kept before c.args.rest.now mid rest_mid next c.in-Words.words
    (c.in_ok-make_room.ensures.shown) kept_mid in
    kept-askable facts before c.args.rest.now next rest_mid kept_next c.args.t c.args.request.now
    c.requires.asks

pub returns-clause-made : goal.returns-clause-made
returns-clause-made g c =
    let facts = g.C.Types.facts c.args.set.now in
    let before = shown_of c.args.heap.now in
    let start = shown_of c.close.new.self in
    let kept = closed-kept before c.args.rest.now start c.close.ensures.shown c.requires.agrees.monitors in
    let mid = shown_of c.try_step-first.new.heap in
    let rest_mid = c.try_step-first.new.rest in
    let lacks : is_short c.try_step-first.result ≡ true = ap is_short c.in-Words.is in
    let kept_mid = then-kept facts c.args.t c.args.request.now before c.args.rest.now start c.args.rest.now
    kept
    c.requires.silent c.requires.asks c.try_step-first.result mid (shown_back c.try_step-first.new.heap)
    rest_mid
    c.try_step-first.ensures.tries lacks in
    let next = shown_of c.make_room.new.self in
    let kept_next = roomed-kept before c.args.rest.now mid rest_mid next c.in-Words.words
    (c.in_ok-make_room.ensures.shown) kept_mid in
    IfOk-weaker c.outcome-2.result _ _ (λ m e. then-makes facts c.args.t c.args.request.now before
    c.args.rest.now next rest_mid kept_next
    c.requires.silent c.requires.asks c.try_step.result (shown_of c.try_step.new.heap)
    (shown_back c.try_step.new.heap) c.try_step.new.rest c.try_step.ensures.tries m e)
    c.outcome-2.ensures.made

pub returns-clause-same : goal.returns-clause-same
returns-clause-same g c =
    let facts = g.C.Types.facts c.args.set.now in
    let before = shown_of c.args.heap.now in
    let start = shown_of c.close.new.self in
    let kept = closed-kept before c.args.rest.now start c.close.ensures.shown c.requires.agrees.monitors in
    let mid = shown_of c.try_step-first.new.heap in
    let rest_mid = c.try_step-first.new.rest in
    let lacks : is_short c.try_step-first.result ≡ true = ap is_short c.in-Words.is in
    let kept_mid = then-kept facts c.args.t c.args.request.now before c.args.rest.now start c.args.rest.now
    kept
    c.requires.silent c.requires.asks c.try_step-first.result mid (shown_back c.try_step-first.new.heap)
    rest_mid
    c.try_step-first.ensures.tries lacks in
    let next = shown_of c.make_room.new.self in
    let kept_next = roomed-kept before c.args.rest.now mid rest_mid next c.in-Words.words
    (c.in_ok-make_room.ensures.shown) kept_mid in
    on_err_weaker c.outcome-2.result (λ e. then-kept facts c.args.t c.args.request.now before
    c.args.rest.now next rest_mid kept_next
    c.requires.silent c.requires.asks c.try_step.result (shown_of c.try_step.new.heap)
    (shown_back c.try_step.new.heap) c.try_step.new.rest c.try_step.ensures.tries e) c.outcome-2.ensures.short

pub returns-clause-short : goal.returns-clause-short
returns-clause-short g c =
    let facts = g.C.Types.facts c.args.set.now in
    let before = shown_of c.args.heap.now in
    let start = shown_of c.close.new.self in
    let kept = closed-kept before c.args.rest.now start c.close.ensures.shown c.requires.agrees.monitors in
    let mid = shown_of c.try_step-first.new.heap in
    let rest_mid = c.try_step-first.new.rest in
    let lacks : is_short c.try_step-first.result ≡ true = ap is_short c.in-Words.is in
    let kept_mid = then-kept facts c.args.t c.args.request.now before c.args.rest.now start c.args.rest.now
    kept
    c.requires.silent c.requires.asks c.try_step-first.result mid (shown_back c.try_step-first.new.heap)
    rest_mid
    c.try_step-first.ensures.tries lacks in
    let next = shown_of c.make_room.new.self in
    let kept_next = roomed-kept before c.args.rest.now mid rest_mid next c.in-Words.words
    (c.in_ok-make_room.ensures.shown) kept_mid in
    on_err_weaker c.outcome-2.result (λ e. then-short facts c.args.t c.args.request.now before
    c.args.rest.now next rest_mid kept_next
    c.requires.silent c.requires.asks c.try_step.result (shown_of c.try_step.new.heap)
    (shown_back c.try_step.new.heap) c.try_step.new.rest c.try_step.ensures.tries e) c.outcome-2.ensures.short
