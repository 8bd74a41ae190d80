use Rattle.std.proofs.Common.{List, subst}
use Rattle.object_steps.specs.Stores.{place_of}
use Rattle.twin_forms.specs.Table.{Entry}
use Rattle.two_spaces.specs.Whole.{Stands}
use Rattle.store_barrier.specs.Barriers.{ConvertsFirst, IfConverts, IfFollows, IfLogs, IfNoRace, IfStores, MayFollow}
use Rattle.store_barrier.specs.Regions.{HasLogged, IsApart, LogsFirst}
use Rattle.shared_heap.specs.Shared.{Shared}
use Rattle.shared_heap.proofs.heap.SharedHeap.barrier.Goals as goal

pub returns-clause-apart : goal.returns-clause-apart
returns-clause-apart g c = subst (λ (s : Shared). IfNoRace c.ask_store.result
    (IsApart s.machine.spaces s.machine.logs c.args.t (place_of c.args.store.now.target))) c.self.view_is c.ask_store.ensures.apart

pub returns-clause-convert : goal.returns-clause-convert
returns-clause-convert g c = subst (λ (s : Shared). (es : List Entry) → Stands s.machine.spaces es
    → IfConverts c.ask_store.result (ConvertsFirst s.machine.spaces es c.args.store.now)) c.self.view_is c.ask_store.ensures.convert

pub returns-clause-follows : goal.returns-clause-follows
returns-clause-follows g c = subst (λ (s : Shared). IfFollows c.ask_store.result
    (MayFollow s.machine.spaces c.args.store.now)) c.self.view_is c.ask_store.ensures.follows

pub returns-clause-log : goal.returns-clause-log
returns-clause-log g c = subst (λ (s : Shared). (es : List Entry) → Stands s.machine.spaces es
    → IfLogs c.ask_store.result (LogsFirst s.machine.spaces es s.machine.logs c.args.t
    (place_of c.args.store.now.target))) c.self.view_is c.ask_store.ensures.log

pub returns-clause-logged : goal.returns-clause-logged
returns-clause-logged g c = subst (λ (s : Shared). (es : List Entry) → Stands s.machine.spaces es
    → IfStores c.ask_store.result (λ _. HasLogged s.machine.spaces es s.machine.logs c.args.t
    (place_of c.args.store.now.target))) c.self.view_is c.ask_store.ensures.logged
