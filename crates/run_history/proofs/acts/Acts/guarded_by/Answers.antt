-- Two readings of the acts tell whose open region has guarded the place.
use Rattle.std.proofs.Common.{◌∙◌, ap, subst}
use Rattle.std.specs.Prelude.{All, List, replicate}
use Rattle.run_history.specs.declared.acts.Held.{Held}
use Rattle.run_history.specs.declared.open_guard.Region.{Region}
use Rattle.run_history.specs.Recorded.{History}
use Rattle.run_history.specs.Knowing.{known_after, guard_of}
use Rattle.run_history.specs.OpenGuards.{IsNumbered, first_guard, no_region, regions_from}
use Rattle.run_history.proofs.OpenGuards.{guarded_by}
use Rattle.run_history.proofs.acts.Acts.guarded_by.Goals as goal

pub returns : goal.returns
returns c =
    let inside = c.self.inside in
    let held = inside.held.items in
    let place = c.args.place in
    let regions : List Held → List Region = regions_from 0 1 (replicate 64 no_region) in
    record {
      guarded = λ first outside.
          c.first_guard.ensures
          ∙ ap (λ (rs : List Region). first_guard rs place 0 c.deref-2.result.now) c.regions_after-regions.ensures.regions
          ∙ ap (first_guard (regions c.deref.result.now) place 0) c.deref-2.ensures.value
          ∙ ap (λ (hs : List Held). first_guard (regions hs) place 0 held) c.deref.ensures.value
          ∙ guarded_by inside.objects.items held place first outside
          (subst (All IsNumbered) c.deref.ensures.value c.regions_after-regions.ensures.numbered) c.self.invariant.few
          ∙ ap (λ (h : History). guard_of (known_after first h.acts).guards place) c.self.view_is;
    }
