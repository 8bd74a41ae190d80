use Rattle.std.proofs.Common.{sym, ◌∙◌, ap}
use Rattle.std.specs.Prelude.{is_some}
use Rattle.std.proofs.lemmas.Bool.{false≢true}
use Rattle.twin_forms.specs.Sights.{view_of}
use Rattle.machine_forms.proofs.Passed.{item_to}
use Rattle.store_barrier.specs.Barriers.{spaces_of}
use Rattle.store_barrier.proofs.barrier.converted_first.Goals as goal

pub volatile_object-requires : goal.volatile_object-requires
volatile_object-requires g c =
    let s = spaces_of c.args.spaces.now in
    let w = c.requires.whole in
    let to = item_to (view_of s.twin) w.0 c.args.store.now.kept w.1.lies c.requires.can.known in
    record { known = (w.0, w.1.lies, to) }

pub returns-then-holds_durable-clause-some : goal.returns-then-holds_durable-clause-some
returns-then-holds_durable-clause-some g c = λ es stands.
    let s = spaces_of c.args.spaces.now in
    record {
      holder = (c.holds_durable.ensures es stands).0 c.if-holds_durable.true;
      item = c.in-Some.ensures.some es stands.lies
          (item_to (view_of s.twin) es c.args.store.now.kept stands.lies c.requires.can.known);
    }

pub returns-in_default-clause-none : goal.returns-in_default-clause-none
returns-in_default-clause-none g c = λ none es object stands first.
    c.volatile_object.ensures.none es stands.lies (ap is_some c.in_default.is) object first.item

pub returns-else-holds_durable-clause-none : goal.returns-else-holds_durable-clause-none
returns-else-holds_durable-clause-none g c = λ none es object stands first.
    false≢true (sym c.if-holds_durable.false ∙ (c.holds_durable.ensures es stands).1 first.holder)
