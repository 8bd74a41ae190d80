-- Nothing but what is told stands in an audit's way.
use Rattle.std.proofs.Common.{◌≡◌, ◌⊎◌, inl, inr, ⊎_elim, ℕ, List, Option, Some, Result, Ok, Err, sym, ap, ◌∙◌, subst}
use Rattle.std.specs.Prelude.{drop}
use Rattle.ap_base.specs.Sources.{Gives, first_file}
use Rattle.ap_base.specs.declared.source.NamedBytes.{NamedBytes}
use Rattle.graph_model.specs.declared.types.Graph.{Graph}
use Rattle.run_history.specs.Recorded.{Recorded}
use Rattle.history_file.specs.Reading.{history_in}
use Rattle.class_set.specs.Linked.{Linked}
use Rattle.set_opening.specs.Arrays.{with_arrays_of}
use Rattle.audit_runs.specs.Audits.{IsRight}
use Rattle.audit_runs.specs.Passed.{Main, NoMain, main_of}
use Rattle.audit_verdicts.specs.declared.verdict.Verdict.{Verdict}
use Rattle.source_classes.specs.Reading.{HasNoCause}
use Rattle.statuses.specs.declared.status.Status.{Status}
use Rattle.statuses.specs.declared.status.Status.TheVariants as status
use Rattle.audit_call.specs.Audits.{AfterEnds, AuditEnds, HasRead, Images, ImagesEnd, Outside, SetEnds}
use Rattle.audit_call.specs.Judged.{GraphsEnd, IsBadHistory, IsJudged, IsUnjudged}
use Rattle.audit_call.specs.Laws.{HasVerdict, IsFailure, IsGraphFor, IsUnhindered, UnhinderedIsDone}
use Rattle.audit_call.specs.Printing.{HasPut, IsPut, status_of}
use Rattle.audit_call.specs.Records.{GivesRecord, IsUnread, LacksRecord, record_in}
use Rattle.audit_call.specs.declared.records.Records.{Records}
use Rattle.audit_call.proofs.Ending.{never_both, one_files_answer, same_set, source_links}
use Rattle.audit_call.proofs.Suited.{graph_so, numbered_so, only_fails}
use Rattle.audit_verdicts.specs.declared.verdict.Verdict.TheVariants.{Act, Image, Output, Yes}

-- ---- answers without a cause

free_fails : (s : Status) → HasNoCause s → IsFailure s
free_fails status.SourceFault free = tt
free_fails status.OutOfMemory free = tt
free_fails status.ImageFault free = absurd free
free_fails status.SinkFault free = absurd free
free_fails status.Ok free = absurd free
free_fails (status.Uncaught thread class) free = absurd free
free_fails status.Usage free = absurd free
free_fails (status.BadClass file refusal) free = absurd free
free_fails (status.BadListing line kind) free = absurd free
free_fails (status.LinkRefused refusal) free = absurd free
free_fails (status.BadImage line reason) free = absurd free
free_fails (status.ShapeChanged shape) free = absurd free
free_fails (status.BadCode method pc) free = absurd free
free_fails (status.RegionRace thread other place) free = absurd free
free_fails (status.Full full) free = absurd free
free_fails (status.Stuck waits) free = absurd free
free_fails (status.LinkFault kind name) free = absurd free
free_fails (status.NewImage reason) free = absurd free
free_fails (status.BadHistory word) free = absurd free
free_fails status.Refuted free = absurd free

memory_fails : (how : Status) → how ≡ status.OutOfMemory → IsFailure how
memory_fails how is = subst IsFailure (sym is) tt

sink_fails : (how : Status) → how ≡ status.SinkFault → IsFailure how
sink_fails how is = subst IsFailure (sym is) tt

-- ---- records

-- a call gives the first of them
gave : (recorded : List NamedBytes) (had has : Option (List NamedBytes)) (answer : Result (List ℕ) Status) → had ≡ Some recorded
    → GivesRecord had has answer → (record_in (first_file recorded) ≡ answer) × (has ≡ Some (drop 1 recorded))
gave recorded had has answer told record_of =
    let given : Gives (Some recorded) record_of.file has =
    subst (λ (o : Option (List NamedBytes)). Gives o record_of.file has) told record_of.given in
    (ap record_in (sym given.0) ∙ record_of.is, given.1)

same_bytes : (read : Result (List ℕ) Status) (a b : List ℕ) → read ≡ Ok a → read ≡ Ok b → b ≡ a
same_bytes read a b is too = cc

never_refused : (read : Result (List ℕ) Status) (bytes : List ℕ) (s : Status) → read ≡ Ok bytes → read ≡ Err s → ⊥
never_refused read bytes s is refused = cc

-- one that is whole is unread only where the source failed or memory ran out
unread_fails : (recorded : List NamedBytes) (had has : Option (List NamedBytes)) (bytes : List ℕ) (how : Status) → had ≡ Some recorded
    → record_in (first_file recorded) ≡ Ok bytes → IsUnread had has how → IsFailure how
unread_fails recorded had has bytes how told is (inl (free, same)) = free_fails how free
unread_fails recorded had has bytes how told is (inr given) =
    absurd (never_refused (record_in (first_file recorded)) bytes how is (gave recorded had has (Err how) told given).0)

-- ---- the main class and the history

same_main : (found : Result Main NoMain) (a b : Main) → found ≡ Ok a → found ≡ Ok b → b ≡ a
same_main found a b is too = cc

never_missing : (found : Result Main NoMain) (main : Main) (none : NoMain) → found ≡ Ok main → found ≡ Err none → ⊥
never_missing found main none is missing = cc

same_acts : (read : Result (List Recorded × ℕ) ℕ) (a b : List Recorded × ℕ) → read ≡ Ok a → read ≡ Ok b → b ≡ a
same_acts read a b is too = cc

never_bad : (read : Result (List Recorded × ℕ) ℕ) (acts : List Recorded) (keep word : ℕ) → read ≡ Ok (acts, keep) → read ≡ Err word → ⊥
never_bad read acts keep word is bad = cc

module _ (files : Option (List NamedBytes)) (name : List ℕ) (had : Images) (was : Outside) (free : IsUnhindered files name had was)
    (has : Images) (now : Outside) (how : Status) where
  abbrev Done : Type 0
  Done = HasVerdict files name had was free now how ⊎ IsFailure how

  -- the sets in which the array types of one directory have numbers, and of both
  abbrev first_numbered : Linked
  first_numbered = with_arrays_of free.set free.before.directory.shapes

  abbrev numbered : Linked
  numbered = free.numbered

  -- ---- the verdict

  module _ (opening after : Graph) (opening_is : IsGraphFor free.set had.before free.before opening)
      (after_is : IsGraphFor first_numbered had.after free.after after) (history output : List ℕ) (first : history ≡ free.history)
      (second : output ≡ free.output) where
    told : (acts : List Recorded) (keep : ℕ) → history_in history ≡ Ok (acts, keep) → (acts ≡ free.acts) × (keep ≡ free.keep)
    told acts keep is =
        let same = same_acts (history_in free.history) (free.acts, free.keep) (acts, keep) free.acts_are (ap history_in (sym first) ∙ is) in
        (ap (λ (read : List Recorded × ℕ). read.0) same, ap (λ (read : List Recorded × ℕ). read.1) same)

    has_verdict : (judged : IsJudged numbered free.main opening after history output how was.taken now.taken)
        → HasPut judged.verdict how was.taken now.taken → HasVerdict files name had was free now how
    has_verdict judged put =
        let same = told judged.acts judged.keep judged.told in
        record {
          verdict = judged.verdict;
          put = put;
          opening = opening;
          opening_is = opening_is;
          after = after;
          after_is = after_is;
          right = subst (λ (bytes : List ℕ). IsRight numbered free.main opening free.acts free.keep bytes after judged.verdict) second
              (subst (λ (n : ℕ). IsRight numbered free.main opening free.acts n output after judged.verdict) same.1
              (subst (λ (acts : List Recorded). IsRight numbered free.main opening acts judged.keep output after judged.verdict) same.0
              judged.right));
        }

    judged_so : IsJudged numbered free.main opening after history output how was.taken now.taken → Done
    judged_so judged = ⊎_elim (λ put. inl (has_verdict judged put)) (λ front. inr (sink_fails how front.is)) judged.put

    unjudged : IsUnjudged history how was.taken now.taken → Done
    unjudged none = ⊎_elim
        (λ (bad : IsBadHistory history how).
        absurd (never_bad (history_in free.history) free.acts free.keep bad.0 free.acts_are (ap history_in (sym first) ∙ bad.1)))
        (λ is. inr (memory_fails how is))
        none.cause

  -- ---- the graphs

  graphs_end : (records : Records) → records.history ≡ free.history → records.output ≡ free.output → (opening after : Graph)
      → IsGraphFor free.set had.before free.before opening → IsGraphFor first_numbered had.after free.after after
      → GraphsEnd numbered name opening after records how was.taken now.taken → Done
  graphs_end records first second opening after opening_is after_is (inl lacks) = ⊎_elim
      (λ missing. absurd (never_missing (main_of numbered name) free.main missing.none free.main_is missing.missing))
      (λ is. inr (memory_fails how is))
      lacks.cause
  graphs_end records first second opening after opening_is after_is (inr found) =
      let main = same_main (main_of numbered name) free.main found.main free.main_is found.found in
      ⊎_elim
      (λ none. unjudged opening after opening_is after_is records.history records.output first second none)
      (λ judged. judged_so opening after opening_is after_is records.history records.output first second
      (subst (λ (m : Main). IsJudged numbered m opening after records.history records.output how was.taken now.taken) main judged))
      found.ends

  -- ---- the images

  module _ (records : Records) (first : records.history ≡ free.history) (second : records.output ≡ free.output) where
    after_ends : (opening : Graph) → IsGraphFor free.set had.before free.before opening
        → AfterEnds first_numbered name opening records had.after has.after how was.taken now.taken → Done
    after_ends opening opening_is (inl cannot) = inr (only_fails first_numbered had.after free.after has.after how was.taken now.taken cannot)
    after_ends opening opening_is (inr opened) =
        let set = numbered_so first_numbered had.after free.after has.after opened.numbered opened.found ∙ sym free.numbered_is in
        graphs_end records first second opening opened.found.graph opening_is
        (graph_so first_numbered had.after free.after has.after opened.numbered opened.found)
        (subst (λ (s : Linked). GraphsEnd s name opening opened.found.graph records how was.taken now.taken) set opened.ends)

    images_end : ImagesEnd free.set name records had has how was.taken now.taken → Done
    images_end (inl lacks) = inr (only_fails free.set had.before free.before has.before how was.taken now.taken lacks.unopened)
    images_end (inr opened) =
        let set = numbered_so free.set had.before free.before has.before opened.numbered opened.found in
        after_ends opened.found.graph (graph_so free.set had.before free.before has.before opened.numbered opened.found)
        (subst (λ (s : Linked). AfterEnds s name opened.found.graph records had.after has.after how was.taken now.taken) set opened.ends)

  -- ---- the records

  lacks_record : LacksRecord was.records now.records how → IsFailure how
  lacks_record (inl unread) =
      unread_fails free.recorded was.records now.records free.history how free.recorded_told free.history_is unread
  lacks_record (inr lacks) =
      let between = (gave free.recorded was.records lacks.between (Ok lacks.history) free.recorded_told lacks.first).1 in
      unread_fails (drop 1 free.recorded) lacks.between now.records free.output how between free.output_is lacks.unread

  read : HasRead free.set name had has was now how → Done
  read both =
      let one = gave free.recorded was.records both.read.between (Ok both.records.history) free.recorded_told both.read.first in
      let two = gave (drop 1 free.recorded) both.read.between now.records (Ok both.records.output) one.1 both.read.second in
      images_end both.records
      (same_bytes (record_in (first_file free.recorded)) free.history both.records.history free.history_is one.0)
      (same_bytes (record_in (first_file (drop 1 free.recorded))) free.output both.records.output free.output_is two.0)
      both.ends

  set_ends : SetEnds free.set name had has was now how → Done
  set_ends (inl cannot) = inr (lacks_record cannot.lacks)
  set_ends (inr both) = read both

  -- ---- the class files

  pub ends : AuditEnds files name had has was now how → Done
  ends (inl lacks) = ⊎_elim
      (λ refused. absurd (never_both free.set how
      (one_files_answer free.given (Ok free.set) (Err how) free.links (source_links files free.given free.given_told (Err how) refused))))
      (λ none. inr (free_fails how none))
      lacks.cause
  ends (inr of) =
      let same = same_set of.set free.set
      (one_files_answer free.given (Ok of.set) (Ok free.set) (source_links files free.given free.given_told (Ok of.set) of.links) free.links) in
      set_ends (subst (λ (s : Linked). SetEnds s name had has was now how) same of.ends)

pub done : UnhinderedIsDone
done files name had has was now how free is = ends files name had was free has now how is

-- ---- where memory ran out nothing was put

never_judged : (verdict : Verdict) → status_of verdict ≡ status.OutOfMemory → ⊥
never_judged Yes is = cc
never_judged (Act n) is = cc
never_judged Output is = cc
never_judged Image is = cc

abbrev sink_fault : Status
sink_fault = status.SinkFault

never_sink : sink_fault ≡ status.OutOfMemory → ⊥
never_sink is = cc

module _ (how : Status) (none : how ≡ status.OutOfMemory) (takes takes' : Option (List ℕ)) where
  unput : (verdict : Verdict) → IsPut verdict how takes takes' → takes' ≡ takes
  unput verdict (inl put) = absurd (never_judged verdict (sym put.is ∙ none))
  unput verdict (inr front) = absurd (never_sink (sym front.is ∙ none))

  quiet_graphs : (set : Linked) (name : List ℕ) (opening after : Graph) (records : Records)
      → GraphsEnd set name opening after records how takes takes' → takes' ≡ takes
  quiet_graphs set name opening after records (inl lacks) = lacks.quiet
  quiet_graphs set name opening after records (inr found) = ⊎_elim (λ no. no.quiet) (λ judged. unput judged.verdict judged.put) found.ends

  quiet_images : (set : Linked) (name : List ℕ) (records : Records) (had has : Images)
      → ImagesEnd set name records had has how takes takes' → takes' ≡ takes
  quiet_images set name records had has (inl lacks) = lacks.unopened.quiet
  quiet_images set name records had has (inr opened) = ⊎_elim
      (λ cannot. cannot.quiet)
      (λ after. quiet_graphs after.numbered name opened.found.graph after.found.graph records after.ends)
      opened.ends

pub quiet : (files : Option (List NamedBytes)) (name : List ℕ) (had has : Images) (was now : Outside) (how : Status)
    → how ≡ status.OutOfMemory → AuditEnds files name had has was now how → now.taken ≡ was.taken
quiet files name had has was now how none (inl lacks) = ap (λ (o : Outside). o.taken) lacks.same
quiet files name had has was now how none (inr of) = ⊎_elim
    (λ cannot. cannot.quiet)
    (λ both. quiet_images how none was.taken now.taken of.set name both.records had has both.ends)
    of.ends
