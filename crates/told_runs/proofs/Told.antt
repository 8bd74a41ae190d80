-- Each act of a plain run may be told.
use Rattle.std.proofs.Common.{◌≡◌, ℕ, suc, ◌<◌, Bool, true, false, List, [], ◌∷◌, ◌++◌, ◌^◌, length, Option, Some, None, subst, arith}
use Rattle.std.specs.Prelude.{All, IfSome}
use Rattle.std.proofs.lemmas.List.Elements.{All-cons, All-head, All-nil, All-tail}
use Rattle.graph_model.specs.declared.types.Graph.{Graph}
use Rattle.run_history.specs.declared.act.Op.{Op}
use Rattle.run_history.specs.declared.act.Op.TheVariants as op
use Rattle.run_history.specs.Recorded.{Recorded}
use Rattle.run_history.specs.Knowing.{Knowledge, next_known}
use Rattle.run_history.specs.Worlds.{World}
use Rattle.run_history.specs.Wanted.{Wishes, NoWish, WantsNow}
use Rattle.plain_model.specs.Facts.{SetFacts}
use Rattle.plain_model.specs.First.{first_known}
use Rattle.plain_model.specs.Requests.{PlainRequest}
use Rattle.plain_model.specs.Codes.{Code, frames_after_op, request_of, taken_by}
use Rattle.plain_model.specs.Runs.{GoesOn, IsAbout, IsPlainRun, MayAct, Rule, first_frames, op_given}
use Rattle.plain_model.specs.Steps.{step}
use Rattle.history_file.specs.Spelling.{AreTold, Fits, FitsOp, FitsTest, IsNumber}
use Rattle.told_runs.specs.Told.{AreBoth, HasNumbers, IsHeld, IsWholeTest}
use Rattle.told_runs.proofs.Whole.{whole-op, whole-step}

about-whole : (set : SetFacts) (world : World) (t taken : ℕ) (request : Option PlainRequest) (o : Op) → op_given set world t taken request ≡ Some o → IsWholeTest o
about-whole set world t taken None o is = absurd (let no : None ≡ Some o = is in cc)
about-whole set world t taken (Some q) o is = whole-op (step set world t taken q) o (whole-step set world t taken q) is

rule-whole : (set : SetFacts) (known : Knowledge) (Now : Wishes) (request : Option PlainRequest) (t : ℕ) (named : List ℕ) (o : Op)
    → Rule set known Now request t named o → IsWholeTest o
rule-whole set known Now request t named (op.Class object shape) rule = about-whole set known.world t 1 request (op.Class object shape) rule
rule-whole set known Now request t named o rule = tt

fits-test : (object shape : Option ℕ) → AreBoth object shape → IfSome object IsNumber → IfSome shape IsNumber → FitsTest object shape
fits-test None None both a b = tt
fits-test (Some m) (Some n) both a b = (a, b)
fits-test None (Some n) both a b = absurd both
fits-test (Some m) None both a b = absurd both

fits-op : (o : Op) → IsWholeTest o → HasNumbers o → FitsOp o
fits-op (op.Class object shape) whole numbers = fits-test object shape whole numbers.0 numbers.1
fits-op o whole numbers = numbers

module _ (set : SetFacts) (main : ℕ) (opening : Graph) {Frames : Type 0} (code : Code set main opening Frames) where
  abbrev Goes : Knowledge → List Frames → Wishes → List Recorded → Type 0
  Goes known frames Now acts = GoesOn set main opening code known frames Now acts

  abbrev later : Knowledge → List Frames → Recorded → List Frames
  later known frames a = frames_after_op set main opening code known.world frames a.act.thread a.act.op

  one-whole : (known : Knowledge) (frames : List Frames) (Now : Wishes) (a : Recorded) (acts : List Recorded) → Goes known frames Now (a ∷ acts) → IsWholeTest a.act.op
  one-whole known frames Now a acts run =
      rule-whole set known Now (request_of set main opening code known.world frames a.act.thread) a.act.thread a.named a.act.op run.0.rule

  pub act-whole : (known : Knowledge) (frames : List Frames) (Now : Wishes) (front : List Recorded) (a : Recorded) (rest : List Recorded)
      → Goes known frames Now (front ++ a ∷ rest) → IsWholeTest a.act.op
  act-whole known frames Now [] a rest run = one-whole known frames Now a rest run
  act-whole known frames Now (b ∷ front) a rest run =
      act-whole (next_known known b) (later known frames b) (WantsNow (next_known known b) Now) front a rest run.1

  each-told : (known : Knowledge) (frames : List Frames) (Now : Wishes) (acts : List Recorded) → Goes known frames Now acts → All IsHeld acts → All Fits acts
  each-told known frames Now [] run held = All-nil Fits
  each-told known frames Now (a ∷ acts) run held =
      let h = All-head IsHeld a acts held in
      All-cons Fits a acts (record {
        thread = h.thread;
        at = h.at;
        op = fits-op a.act.op (one-whole known frames Now a acts run) h.op;
        rightly = run.0.named;
        few = h.few;
        named = h.named;
      }) (each-told (next_known known a) (later known frames a) (WantsNow (next_known known a) Now) acts run.1 (All-tail IsHeld a acts held))

  pub run-told : (acts : List Recorded) (keep : ℕ) → IsPlainRun set main opening code acts → All IsHeld acts → length acts < 2 ^ 32 → keep < 2 ^ 64 → AreTold acts keep
  run-told acts keep run held few kept = record {
    few = few;
    kept = kept;
    each = each-told (first_known set opening) (first_frames set main opening code) NoWish acts run held;
  }
