use Rattle.std.proofs.Common.{ap}
use Rattle.std.specs.Prelude.{is_some}
use Rattle.object_steps.specs.Stores.{place_of}
use Rattle.store_barrier.specs.Barriers.{MayFollow, spaces_of}
use Rattle.store_barrier.specs.Regions.{IsApart}
use Rattle.store_barrier.proofs.Spots.{apart_for, if_follows, if_no_race, races_for, whole_for}
use Rattle.store_barrier.proofs.barrier.ask_store.Goals as goal

pub returns-in-Some-clause-race : goal.returns-in-Some-clause-race
returns-in-Some-clause-race g c = λ es stands.
    races_for (spaces_of c.args.spaces.now) es c.args.logs.now.logs c.args.t (place_of c.args.store.now.target)
    c.durable_spot-spot.result c.in-Some.other (c.durable_spot-spot.ensures.spot es stands) c.in-Some.ensures.some

pub returns-in-Some-converted_first-clause-apart : goal.returns-in-Some-converted_first-clause-apart
returns-in-Some-converted_first-clause-apart g c = λ es other stands.
    apart_for (spaces_of c.args.spaces.now) es c.args.logs.now.logs c.args.t (place_of c.args.store.now.target)
    c.durable_spot-spot.result other (c.durable_spot-spot.ensures.spot es stands)
    (c.other_guard.ensures.none (ap is_some c.in_default.is) other)

pub returns-clause-apart : goal.returns-clause-apart
returns-clause-apart g c =
    let s = spaces_of c.args.spaces.now in
    let logs = c.args.logs.now.logs in
    if_no_race c.log_or_store.result (IsApart s logs c.args.t (place_of c.args.store.now.target))
    (λ es other stands. apart_for s es logs c.args.t (place_of c.args.store.now.target)
    c.durable_spot-spot.result other (c.durable_spot-spot.ensures.spot es stands)
    (c.other_guard.ensures.none (ap is_some c.in_default.is) other))

pub returns-clause-follows : goal.returns-clause-follows
returns-clause-follows g c =
    if_follows c.log_or_store.result (MayFollow (spaces_of c.args.spaces.now) c.args.store.now)
    (c.converted_first.ensures.none (ap is_some c.in_default-converted_first.is))

pub returns-clause-logged : goal.returns-clause-logged
returns-clause-logged g c = λ es stands.
    whole_for (spaces_of c.args.spaces.now) es c.args.logs.now.logs c.args.t (place_of c.args.store.now.target)
    c.durable_spot-spot.result c.log_or_store.result (c.durable_spot-spot.ensures.spot es stands)
    c.log_or_store.ensures.goes
