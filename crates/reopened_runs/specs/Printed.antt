-- What a run printed, and of what.
use Rattle.std.specs.Prelude.{◌≡◌, ◌≢◌, ◌∷◌, ◌++◌, ◌-◌, ℕ, List, [], length, Some, Ok, Option}
use Rattle.ap_base.specs.Causes.{next_count}
use Rattle.ap_base.specs.Sinks.{SinkState, TakesBehind, share_of}
use Rattle.ap_base.specs.declared.reference.Ref.{Ref}
use Rattle.ap_base.specs.declared.source.NamedBytes.{NamedBytes}
use Rattle.graph_model.specs.declared.types.Graph.{Graph}
use Rattle.line_image.specs.Told.{Told}
use Rattle.plain_model.specs.Ends.{Ending, EndsAs}
use Rattle.plain_model.specs.Runs.{output_of, request_after}
use Rattle.natives.specs.declared.requests.Request.TheVariants as ask
use Rattle.run_types.specs.declared.resolved.At.{At}
use Rattle.run_history.specs.declared.act.Op.TheVariants as op
use Rattle.run_history.specs.Recorded.{Recorded}
use Rattle.command_words.specs.declared.command.Run.{Run as RunWords}
use Rattle.autopersist.specs.Passed.{HadNoFault, IsOpenedSo, IsRun, Launch, Limits, Linked, Main, OfChoice, SinkFault, Status}
use Rattle.autopersist.specs.Passed.{launch_over, main_of, plain_code, status_of_ending}
use Rattle.reopened_runs.specs.Left.{AreAsked, AsksRun, takes_of}

-- Wherever the plain run asks to print a piece, the act that prints takes as many of its bytes as the sink has room for behind what was
-- printed before, and takes at most.
abbrev pub PrintsWhatFits : Launch → SinkState → List Recorded → Type 0
PrintsWhatFits launch sink acts = (before : List Recorded) (a : Recorded) (behind : List Recorded) → acts ≡ before ++ a ∷ behind
    → (from : At) (piece bytes : List ℕ)
    → request_after launch.set launch.main launch.opening (plain_code launch) before a.act.thread ≡ Some (ask.Print from piece)
    → a.act.op ≡ op.Print bytes → length bytes ≡ share_of sink (length (output_of before)) (length piece)

-- From the graph with which the image was opened for the set, the acts are a plain run of the set from `main` of this class on, of which no
-- act met a fault, and each print took what fits; and it ended as the status says.
pub record RunsPlainly (set : Linked) (name : List ℕ) (start : Told) (sink : SinkState) (opening : Graph) (acts : List Recorded)
    (limits : Limits) (how : Status) : Type 0 where
  pub of : IsOpenedSo set start opening
  pub main : Main
  pub found : main_of of.numbered name ≡ Ok main
  pub launch : Launch
  pub literals : List Ref
  pub launch_is : launch ≡ launch_over of.numbered main limits opening literals
  pub run : IsRun launch acts
  pub unfaulted : HadNoFault launch acts
  pub shares : PrintsWhatFits launch sink acts
  pub ending : Ending
  pub ended : EndsAs launch.set launch.main launch.opening (plain_code launch) launch.limits (start.size - of.free) acts ending
  pub is : how ≡ status_of_ending of.numbered ending

-- A run of these words and files, over an image that told `start`.
pub record Prints (words : List (List ℕ)) (files : List NamedBytes) (start : Told) (sink sink' : SinkState) (opening : Graph)
    (acts : List Recorded) (how : Status) : Type 0 where
  -- The sink took the output of the acts, whatever the status, a fault of the sink among them; and no other byte.
  pub printed : (run : RunWords) → AsksRun words run → sink'.taken ≡ sink.taken ++ output_of acts
  -- These are a plain run of what the files give, where there are any.
  pub ran : (run : RunWords) → AsksRun words run → acts ≢ []
      → OfChoice (AreAsked run files) (λ choice. RunsPlainly choice.set choice.main start sink opening acts run.limits how)
  -- Behind the output the sink takes what it would have taken before.
  pub leaves : (run : RunWords) → AsksRun words run → TakesBehind (takes_of sink) (takes_of sink') (length (output_of acts))
  -- It failed once where the run ended by it, and else never.
  pub failed : how ≡ SinkFault → sink'.faults ≡ next_count sink.faults
  pub unfailed : how ≢ SinkFault → sink'.faults ≡ sink.faults
