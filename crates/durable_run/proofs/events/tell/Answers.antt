use Rattle.std.proofs.Common.{◌∷◌, [], ◌∙◌, ap, sym}
use Rattle.durable_run.specs.Telling.{with_all}
use Rattle.durable_run.proofs.Telling.{last-from, none-from, seen-one, seen-none}
use Rattle.durable_run.proofs.events.tell.Goals as goal

pub returns-in-Some : goal.returns-in-Some
returns-in-Some g c =
    let last = last-from c.args.acts.now.acts c.args.from c.in-Some.act.now (sym c.in-Some.ensures.act)
    c.requires.one in
    record {
      told = c.saw.ensures.seen
          ∙ seen-one (g.W.Watcher.seen c.args.watcher.now)
          (record { act = c.in-Some.act.now; named = c.named.result.now })
          ∙ ap (with_all (g.W.Watcher.seen c.args.watcher.now))
          (ap (λ (named : _). record { act = c.in-Some.act.now; named = named } ∷ []) c.named.ensures.named
          ∙ sym last);
    }

pub returns-in_default : goal.returns-in_default
returns-in_default g c = record {
  told = seen-none (g.W.Watcher.seen c.args.watcher.now)
      ∙ ap (with_all (g.W.Watcher.seen c.args.watcher.now))
      (sym (none-from c.args.acts.now.acts c.args.from (sym c.in_default.ensures.act)));
}
