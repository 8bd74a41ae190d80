use Rattle.std.proofs.Common.{◌≡◌, ◌∙◌, true, ap, sym, subst}
use Rattle.plain_model.specs.First.{first_known}
use Rattle.plain_heap.specs.Heaps.{shown_of}
use Rattle.audit_steps.proofs.Stepping.{followed, is-told, judged, may, request, run-more, says-yes, told-yes}
use Rattle.audit_steps.proofs.steps.Audit.step.Goals as goal

pub ahead-next-requires : goal.ahead-next-requires
ahead-next-requires g c = record { stands = (c.requires.at.0, c.requires.at.1, c.requires.at.2.stands) }

pub follow-requires : goal.follow-requires
follow-requires g c = record {
  stands = (c.requires.at.0, c.requires.at.1, c.ahead-next.ensures.same c.requires.at.0 c.requires.at.1 c.requires.at.2.stands);
}

pub judge-requires-clause-judged : goal.judge-requires-clause-judged
judge-requires-clause-judged g c =
    let launch = c.requires.at.0 in
    let acts = c.requires.at.1 in
    let at = c.requires.at.2 in
    let facts = g.C.Types.facts c.args.set.now in
    let x = g.H.Host.setting c.args.host.now in
    let world = c.args.self.now.plain.world in
    let lanes = c.args.self.now.plain.lanes.items in
    let act = c.args.act.now in
    let duties = c.programs_with_built_in_methods_ask_what_is_fit.ensures.duties in
    let same = c.ahead-next.ensures.same launch acts at.stands in
    let about = c.in_ok-about.about in
    let exact = told-yes launch acts act c.follow.result about c.in_ok-about.was (c.follow.ensures.exact launch acts same) in
    let told = is-told duties launch acts facts x (shown_of world.heap) world.rest world.steps lanes at.stands act
    c.ahead-next.result about c.depth_of-depth.result (c.ahead-next.ensures.tells launch acts at.stands) exact c.depth_of-depth.ensures in
    record {
      set = launch.set;
      first = first_known launch.set launch.opening;
      acts = acts;
      request = request duties launch acts facts x (shown_of world.heap) world.rest world.steps lanes at.stands act;
      kept = at.kept;
      told = told;
    }

pub returns-clause-exact : goal.returns-clause-exact
returns-clause-exact g c launch acts at =
    let facts = g.C.Types.facts c.args.set.now in
    let x = g.H.Host.setting c.args.host.now in
    let world = c.args.self.now.plain.world in
    let lanes = c.args.self.now.plain.lanes.items in
    let act = c.args.act.now in
    let duties = c.programs_with_built_in_methods_ask_what_is_fit.ensures.duties in
    let same = c.ahead-next.ensures.same launch acts at.stands in
    let about = c.in_ok-about.about in
    let exact = told-yes launch acts act c.follow.result about c.in_ok-about.was (c.follow.ensures.exact launch acts same) in
    let told = is-told duties launch acts facts x (shown_of world.heap) world.rest world.steps lanes at.stands act
    c.ahead-next.result about c.depth_of-depth.result (c.ahead-next.ensures.tells launch acts at.stands) exact c.depth_of-depth.ensures in
    judged duties launch acts facts x (shown_of world.heap) world.rest world.steps lanes at.stands act c.args.named.now
    c.args.self.now.kept at.kept c.ahead-next.result about c.depth_of-depth.result told c.judge.result c.judge.ensures.exact

pub returns-clause-goes : goal.returns-clause-goes
returns-clause-goes g c launch acts at said_so =
    let facts = g.C.Types.facts c.args.set.now in
    let x = g.H.Host.setting c.args.host.now in
    let world = c.args.self.now.plain.world in
    let lanes = c.args.self.now.plain.lanes.items in
    let act = c.args.act.now in
    let duties = c.programs_with_built_in_methods_ask_what_is_fit.ensures.duties in
    let same = c.ahead-next.ensures.same launch acts at.stands in
    let about = c.in_ok-about.about in
    let exact = told-yes launch acts act c.follow.result about c.in_ok-about.was (c.follow.ensures.exact launch acts same) in
    let told = is-told duties launch acts facts x (shown_of world.heap) world.rest world.steps lanes at.stands act
    c.ahead-next.result about c.depth_of-depth.result (c.ahead-next.ensures.tells launch acts at.stands) exact c.depth_of-depth.ensures in
    let named = c.args.named.now in
    let comes = may duties launch acts facts x (shown_of world.heap) world.rest world.steps lanes at.stands act named
    c.args.self.now.kept at.kept c.ahead-next.result about c.depth_of-depth.result told c.judge.result c.judge.ensures.exact said_so in
    let next = followed duties launch acts facts x (shown_of world.heap) world.rest world.steps lanes at.stands act named comes in
    let said = says-yes launch acts act c.follow.result about c.in_ok-about.was (c.follow.ensures.exact launch acts same) next in
    let run = (run-more duties launch acts facts x (shown_of world.heap) world.rest world.steps lanes at.stands act named).0 comes in
    record {
      stands = c.follow.ensures.goes launch acts named same said run;
      kept = c.judge.ensures.goes said_so launch.set (first_known launch.set launch.opening) acts
          (request duties launch acts facts x (shown_of world.heap) world.rest world.steps lanes at.stands act) at.kept told;
    }
