use Rattle.std.proofs.Common.{◌+◌, ◌++◌, ◌∷◌, [], ℕ, List, map, take, drop, ap, ◌∙◌, subst, append_assoc}
use Rattle.std.proofs.lemmas.List.{take_all}
use Rattle.std.proofs.lemmas.Result.{err_from_is_err_and}
use Rattle.graph_model.specs.declared.types.Obj.{Obj}
use Rattle.one_space.specs.First.{LacksWords, text_object}
use Rattle.one_space.specs.Making.{Adds, CannotAdd, HasMade}
use Rattle.one_space.proofs.Making.{lacks, made_more, split_at, more_at}
use Rattle.one_space.proofs.space.OneSpace.add_texts.Goals as goal

pub returns-in_err-add_text-clause-full : goal.returns-in_err-add_text-clause-full
returns-in_err-add_text-clause-full c words shapes objects made =
    let p = err_from_is_err_and c.from_residual.result c.from_residual.ensures.1 in
    let f = text_object c.args.class in
    let ts = c.args.texts.now in
    let i = c.loop-text.text-index in
    let t = c.text-item.result in
    let cannot : CannotAdd (f t) c.loop-text.self c.in_err-add_text.field-0.0 =
    subst (λ (x : List ℕ). CannotAdd (f x) c.loop-text.self c.in_err-add_text.field-0.0) c.as_slice.ensures
    c.in_err-add_text.ensures.full in
    rw (p.1, p.2) (subst (λ (os : List Obj). LacksWords words os c.in_err-add_text.field-0.0)
    (append_assoc objects (map f (take i ts)) (f t ∷ map f (drop (i + 1) ts))
    ∙ ap (λ (os : List Obj). objects ++ os) (split_at f ts i t c.loop-text-test.true c.text-item.is))
    (lacks words shapes (objects ++ map f (take i ts)) (map f (drop (i + 1) ts)) (f t) c.loop-text.self
    c.in_err-add_text.field-0.0
    (c.loop-text.invariant.made words shapes objects made) cannot))

pub loop-text-preserved : goal.loop-text-preserved
loop-text-preserved c =
    let f = text_object c.args.class in
    let ts = c.args.texts.now in
    let i = c.loop-text.text-index in
    let t = c.text-item.result in
    let added : Adds (f t) c.loop-text.self c.add_text.new.self =
    subst (λ (x : List ℕ). Adds (f x) c.loop-text.self c.add_text.new.self) c.as_slice.ensures
    c.in_ok-add_text.ensures.added in
    record {
      shapes = added.takes.shapes ∙ c.loop-text.invariant.shapes;
      made = λ words shapes objects made.
          subst (λ (os : List Obj). HasMade words shapes os c.add_text.new.self)
          (append_assoc objects (map f (take i ts)) (f t ∷ [])
          ∙ ap (λ (os : List Obj). objects ++ os) (more_at f ts i t c.loop-text-test.true c.text-item.is))
          (made_more words shapes (objects ++ map f (take i ts)) (f t) c.loop-text.self c.add_text.new.self
          (c.loop-text.invariant.made words shapes objects made) added);
    }

pub returns-clause-made : goal.returns-clause-made
returns-clause-made c words shapes objects made =
    subst (λ (ts : List (List ℕ)). HasMade words shapes (objects ++ map (text_object c.args.class) ts)
    c.loop-text.self)
    (take_all c.loop-text.text-index c.args.texts.now c.loop-text-test.false)
    (c.loop-text.invariant.made words shapes objects made)
