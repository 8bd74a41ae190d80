use Rattle.std.proofs.Common.{◌≡◌, ◌∙◌, Bool, true, Result, Ok, ap, refl, sym}
use Rattle.class_set.specs.Facts.{facts_of}
use Rattle.plain_rows.proofs.Following.{followed}
use Rattle.plain_rows.proofs.play.follow.Goals as goal

same_answer : {E : Type 0} (r : Result Bool E) (x y : Bool) → r ≡ Ok x → r ≡ Ok y → x ≡ y
same_answer {E} r x y a b = let left : Result Bool E = Ok x in let e : left ≡ Ok y = sym a ∙ b in cc

pub returns : goal.returns
returns c =
    let was = c.in_ok-follow.was in
    record {
      playing = followed (facts_of c.args.types.now) c.args.run.now.host c.args.run.now.plain c.follow.new.self
          c.args.thread c.args.op c.in_ok-follow.field-0 c.requires.playing (c.if-not-is_calm.ensures refl)
          (λ launch acts stands. c.in_ok-follow.ensures.exact launch acts stands)
          (λ launch acts named stands yes run. c.follow.ensures.goes launch acts named stands (was ∙ ap Ok yes) run)
          (λ launch acts stands no. c.follow.ensures.same launch acts stands
          (λ e. no (same_answer c.follow.result c.in_ok-follow.field-0 true was e)));
    }
