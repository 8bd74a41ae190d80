-- A run that nothing outside hinders does its work.
use Rattle.std.proofs.Common.{◌≡◌, ◌⊎◌, ⊎_elim, inl, inr, ℕ, List, Option, Some, sym, ap, subst, ◌∙◌, arith}
use Rattle.ap_base.specs.Causes.{Rose}
use Rattle.ap_base.specs.Sinks.{SinkState}
use Rattle.ap_base.specs.declared.source.NamedBytes.{NamedBytes}
use Rattle.graph_model.specs.declared.types.Graph.{Graph}
use Rattle.line_image.specs.Crash.{first_word}
use Rattle.line_image.specs.Memory.{told_of, trace_of}
use Rattle.line_image.specs.declared.memory.MemoryImage.{MemoryImage}
use Rattle.image_meaning.specs.Directories.{Directory}
use Rattle.line_image.specs.Told.{Told}
use Rattle.run_history.specs.Recorded.{Recorded}
use Rattle.command_words.specs.Commands.{command_of}
use Rattle.command_words.specs.declared.command.Command.{Command}
use Rattle.command_words.specs.declared.command.Command.TheVariants.{Run}
use Rattle.autopersist.specs.Complete.{DoesAll, DoesItsWork, NothingFailed, RanOutOfMemory, RanOutOfRoom}
use Rattle.autopersist.specs.Outside.{Outside}
use Rattle.autopersist.specs.Passed.{Admits, Choice, EndsComplete, HasNoMain, IsNumberedFor, Limits, Linked}
use Rattle.autopersist.specs.Passed.{MeetsLimit, Status, with_arrays_of}
use Rattle.autopersist.proofs.Passed.{admits_so, read_directory}
use Rattle.reopened_runs.specs.Left.{IsUntouched, takes_of}
use Rattle.reopened_runs.specs.Whole.{EndsShort, EndsSo, EndsWhole, StaysFaultless, SuitsSet}
use Rattle.reopened_runs.proofs.Left.{fresh_reads, same_bytes}

never_rose : (before after : ℕ) → StaysFaultless before after → Rose before after → ⊥
never_rose before after (was, is) rose = omega (arith, was, is, rose)

admits : (image : MemoryImage) → IsUntouched image → (choice : Choice) → SuitsSet choice.set image → Admits choice.set (told_of image)
admits image untouched choice suits =
    admits_so choice.set (told_of image) tt (first_word (trace_of image)) (fresh_reads image untouched) suits.graph suits.stands
    suits.directory suits.directory_is suits.agree

-- it is the set with the numbers for which the image's directory asks
module _ (image : MemoryImage) (untouched : IsUntouched image) (choice : Choice) (suits : SuitsSet choice.set image) where
  numbers : (numbered : Linked) → IsNumberedFor choice.set numbered (told_of image)
      → numbered ≡ with_arrays_of choice.set suits.directory.shapes
  numbers numbered is =
      is.is
      ∙ ap (λ (d : Directory). with_arrays_of choice.set d.shapes)
      (sym (read_directory (told_of image) tt (first_word (trace_of image)) (fresh_reads image untouched) suits.graph suits.stands
      suits.directory suits.directory_is is.words is.read is.directory is.directory_is))

  ends_so : (limits : Limits) (sink : SinkState) (opening : Graph) (acts : List Recorded) (how : Status)
      → EndsComplete choice.set choice.main limits (told_of image) (takes_of sink) opening acts how
      → EndsSo choice limits image sink suits.directory opening acts how
  ends_so limits sink opening acts how (inl (none, numbered, numbers_are, missing)) =
      inl (none, subst (λ (set : Linked). HasNoMain set choice.main limits how) (numbers numbered numbers_are) missing)
  ends_so limits sink opening acts how (inr ran) = inr ran

module _ (words : List (List ℕ)) (before after : Outside) (how : Status) (opening : Graph) (acts : List Recorded)
    (complete : DoesItsWork (command_of words) before after how opening acts) (files : List NamedBytes) (told : before.left ≡ Some files)
    (image end : MemoryImage) (was : before.image ≡ told_of image) (is_now : after.image ≡ told_of end) (untouched : IsUntouched image)
    (sink sink' : SinkState) (took : before.taken ≡ Some sink.taken) (takes : after.taken ≡ Some sink'.taken)
    (shares : before.takes ≡ takes_of sink) where
  -- what is short
  ends_short : (choice : Choice) (limits : Limits)
      → RanOutOfMemory before after acts how ⊎ RanOutOfRoom choice limits before after how opening acts
      → EndsShort choice limits image end sink sink' opening acts how
  ends_short choice limits (inl (out, none, nothing)) = inl (out, none, same_bytes sink'.taken sink.taken (sym takes ∙ nothing ∙ took))
  ends_short choice limits (inr (full, is, met)) = inr (
    full,
    is,
    subst (λ (told_now : Told). MeetsLimit choice.set choice.main limits (told_of image) (takes_of sink) opening acts told_now full) is_now
        (subst (λ (told_first : Told). MeetsLimit choice.set choice.main limits told_first (takes_of sink) opening acts after.image full) was
        (subst (λ (f : ℕ → ℕ → Option ℕ). MeetsLimit choice.set choice.main limits before.image f opening acts after.image full) shares met)),
  )

  pub ends_whole : StaysFaultless before.source_faults after.source_faults → StaysFaultless before.image_faults after.image_faults
      → StaysFaultless before.sink_faults after.sink_faults → EndsWhole words files image end sink sink' opening acts how
  ends_whole source device failed run asked choice gives suits =
      let none : NothingFailed before after = record {
        source = never_rose before.source_faults after.source_faults source;
        image = never_rose before.image_faults after.image_faults device;
        sink = never_rose before.sink_faults after.sink_faults failed;
      } in
      let does : DoesAll (Some (Run run)) before after how opening acts =
      subst (λ (o : Option Command). DoesAll o before after how opening acts) asked (complete none) in
      ⊎_elim
      (λ ends. inl (ends_so image untouched choice suits run.limits sink opening acts how
      (subst (λ told. EndsComplete choice.set choice.main run.limits told (takes_of sink) opening acts how) was
      (subst (λ (f : ℕ → ℕ → Option ℕ). EndsComplete choice.set choice.main run.limits before.image f opening acts how) shares ends))))
      (λ short. inr (ends_short choice run.limits short))
      (does files told choice gives (subst (λ told. Admits choice.set told) (sym was) (admits image untouched choice suits)))
