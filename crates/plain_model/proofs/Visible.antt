-- Each visible act of a plain run is what the step of its thread's request does.
use Rattle.std.proofs.Common.{◌≡◌, ℕ, true, false, List, [], ◌∷◌, ◌++◌, sym, append_assoc, subst}
use Rattle.std.specs.Prelude.{Option}
use Rattle.graph_model.specs.declared.types.Graph.{Graph}
use Rattle.run_history.specs.declared.act.Op.{Op}
use Rattle.run_history.specs.declared.act.Op.TheVariants as op
use Rattle.run_history.specs.Recorded.{Recorded}
use Rattle.run_history.specs.Knowing.{Knowledge}
use Rattle.run_history.specs.Wanted.{Wishes, NoWish}
use Rattle.plain_model.specs.Facts.{SetFacts}
use Rattle.plain_model.specs.First.{first_known}
use Rattle.plain_model.specs.Requests.{PlainRequest}
use Rattle.plain_model.specs.Codes.{Code, is_persistent}
use Rattle.plain_model.specs.Runs.{IsAbout, Rule, MayAct, IsPlainRun, first_frames, known_of, wants_of, request_after}
use Rattle.plain_model.proofs.Appended.{GoesOn-front, GoesOn-pushed}

pub about_from_rule : (set : SetFacts) (known : Knowledge) (Now : Wishes) (request : Option PlainRequest) (t : ℕ) (named : List ℕ) (o : Op)
    → Rule set known Now request t named o → is_persistent o ≡ false → IsAbout set known request t o
about_from_rule set known Now request t named (op.Asked place value) rule visible = absurd (let no : true ≡ false = visible in cc)
about_from_rule set known Now request t named op.Joined rule visible = absurd (let no : true ≡ false = visible in cc)
about_from_rule set known Now request t named (op.Guarded place) rule visible = absurd (let no : true ≡ false = visible in cc)
about_from_rule set known Now request t named op.Closing rule visible = absurd (let no : true ≡ false = visible in cc)
about_from_rule set known Now request t named op.Fenced rule visible = absurd (let no : true ≡ false = visible in cc)
about_from_rule set known Now request t named (op.Stored place value) rule visible = rule.is_about
about_from_rule set known Now request t named op.End rule visible = rule.is_about
about_from_rule set known Now request t named o rule visible = rule

module _ (set : SetFacts) (main : ℕ) (opening : Graph) {Frames : Type 0} (code : Code set main opening Frames) where
  pub plain_front : (front rest : List Recorded) → IsPlainRun set main opening code (front ++ rest) → IsPlainRun set main opening code front
  plain_front = GoesOn-front set main opening code (first_known set opening) (first_frames set main opening code) NoWish

  -- the act that comes next in a plain run may come next
  pub may_act : (front : List Recorded) (a : Recorded) (rest : List Recorded) → IsPlainRun set main opening code (front ++ a ∷ rest)
      → MayAct set (known_of set main opening code front) (wants_of set main opening code front) (request_after set main opening code front a.act.thread) a
  may_act front a rest run =
      let regrouped = subst (IsPlainRun set main opening code) (sym (append_assoc front (a ∷ []) rest)) run in
      (GoesOn-pushed set main opening code (first_known set opening) (first_frames set main opening code) NoWish front a (plain_front (front ++ a ∷ []) rest regrouped)).1

  pub visible_is_step : (front : List Recorded) (a : Recorded) (rest : List Recorded) → IsPlainRun set main opening code (front ++ a ∷ rest)
      → is_persistent a.act.op ≡ false
      → IsAbout set (known_of set main opening code front) (request_after set main opening code front a.act.thread) a.act.thread a.act.op
  visible_is_step front a rest run visible =
      about_from_rule set (known_of set main opening code front) (wants_of set main opening code front) (request_after set main opening code front a.act.thread) a.act.thread a.named a.act.op
      (may_act front a rest run).rule visible
