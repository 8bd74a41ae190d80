-- How an audit ends, by what the files of its source come to.
use Rattle.std.proofs.Common.{◌≡◌, ◌⊎◌, inl, inr, ℕ, List, [], Option, Some, Result, Ok, Err}
use Rattle.std.proofs.Common.{refl, sym, ap, subst, ◌∙◌}
use Rattle.std.specs.Prelude.{IfErr, IfOk, IsOk, OnOk}
use Rattle.std.proofs.lemmas.List.{append-nil}
use Rattle.ap_base.specs.declared.source.NamedBytes.{NamedBytes}
use Rattle.class_file.specs.declared.class.ClassFile.{ClassFile}
use Rattle.class_links.specs.declared.refusal.LinkRefusal.{LinkRefusal}
use Rattle.class_links.specs.Kept.{kept_files}
use Rattle.class_links.specs.Links.{Links}
use Rattle.class_links.proofs.Refusals.{link_unrefused, one_refusal}
use Rattle.class_set.specs.Linked.{Linked}
use Rattle.class_set.specs.ArrayTypes.{linked_from}
use Rattle.source_classes.specs.Files.{classes_among}
use Rattle.source_classes.specs.Reading as reading
use Rattle.source_classes.specs.Reading.{HadLeft, HasNoCause, IsLeft, IsOfLinking, LeavesAt}
use Rattle.source_classes.specs.declared.accepted.AcceptedSet.{AcceptedSet}
use Rattle.source_classes.proofs.SourceFiles.{all_read}
use Rattle.statuses.specs.Stages.{Stage, OfWords, OfSource, OfMemory, OfFile, OfListing, OfLinking, OfOpening, OfRoom, OfNames}
use Rattle.statuses.specs.Stages.{OfImage, OfTurns, OfOthers, stage_of}
use Rattle.statuses.specs.declared.status.Status.{Status}
use Rattle.statuses.specs.declared.status.Status.TheVariants as status
use Rattle.audit_call.specs.Audits.{Answers, AuditEnds, HasSet, Images, LacksSet, Outside, SetEnds}
use Rattle.audit_call.specs.Late.{IsLate, IsLateStage}
use Rattle.audit_call.specs.Linking.{FilesLinkTo, LinkTo, ReadLinkTo, SourceLinksTo}

-- ---- what files link to

module _ (left : Option (List NamedBytes)) where
  -- what their classes link to
  pub classes_link : (classes : List ClassFile) → reading.FilesComeTo left (Ok classes) → (answer : Result Linked Status)
      → LinkTo (kept_files classes) answer → SourceLinksTo left answer
  classes_link classes comes answer links = record {
    files = comes.files;
    told = comes.told;
    is = subst (λ (r : Result (List ClassFile) Status). ReadLinkTo r answer) (sym comes.is) links;
  }

  -- one of them is refused
  pub file_refused : (s : Status) → reading.FilesComeTo left (Err s) → SourceLinksTo left (Err s)
  file_refused s comes = record {
    files = comes.files;
    told = comes.told;
    is = subst (λ (r : Result (List ClassFile) Status). ReadLinkTo r (Err s)) (sym comes.is) refl;
  }

  pub is_refused : (s : Status) → HasNoCause s ⊎ reading.FilesComeTo left (Err s) → SourceLinksTo left (Err s) ⊎ HasNoCause s
  is_refused s (inl free) = inr free
  is_refused s (inr comes) = inl (file_refused s comes)

  -- the files that a source told are those that came to this
  told_files : (seen files : List NamedBytes) → HadLeft left seen → left ≡ Some files → seen ≡ files
  told_files seen files had told = sym (subst (λ (l : Option (List NamedBytes)). HadLeft l seen) told had)

  pub source_links : (files : List NamedBytes) → left ≡ Some files → (answer : Result Linked Status) → SourceLinksTo left answer
      → FilesLinkTo files answer
  source_links files told answer comes =
      subst (λ (fs : List NamedBytes). FilesLinkTo fs answer) (told_files comes.files files comes.told told) comes.is

  pub unrefused : (classes : List ClassFile) → reading.FilesComeTo left (Ok classes) → (files : List NamedBytes) → left ≡ Some files
      → IsOk (classes_among files)
  unrefused classes comes files told =
      subst (λ (fs : List NamedBytes). IsOk (classes_among fs)) (told_files comes.files files comes.told told) (rw comes.is refl)

-- ---- classes that don't link

module _ (classes : List ClassFile) where
  pub unlinked : (s : Status) → IsOfLinking classes s → LinkTo classes (Err s) ⊎ HasNoCause s
  unlinked (status.LinkRefused refusal) of = inl (refusal, of, refl)
  unlinked status.OutOfMemory of = inr tt
  unlinked status.Ok of = absurd of
  unlinked (status.Uncaught thread class) of = absurd of
  unlinked status.Usage of = absurd of
  unlinked (status.BadClass file refusal) of = absurd of
  unlinked (status.BadListing line kind) of = absurd of
  unlinked (status.BadImage line reason) of = absurd of
  unlinked (status.ShapeChanged shape) of = absurd of
  unlinked (status.BadCode method pc) of = absurd of
  unlinked (status.RegionRace thread other place) of = absurd of
  unlinked (status.Full full) of = absurd of
  unlinked status.SourceFault of = absurd of
  unlinked status.ImageFault of = absurd of
  unlinked status.SinkFault of = absurd of
  unlinked (status.Stuck waits) of = absurd of
  unlinked (status.LinkFault kind name) of = absurd of
  unlinked (status.NewImage reason) of = absurd of
  unlinked (status.BadHistory word) of = absurd of
  unlinked status.Refuted of = absurd of

-- ---- there is one answer

one_link : (classes : List ClassFile) (a b : Result Linked Status) → LinkTo classes a → LinkTo classes b → a ≡ b
one_link classes (Ok set) (Ok other) links too = ap (λ (s : Linked). Ok s) (links.1 ∙ sym too.1)
one_link classes (Ok set) (Err s) links (refusal, refused, is) = absurd (refused.0 (link_unrefused classes refusal links.0 refused.1))
one_link classes (Err s) (Ok set) (refusal, refused, is) links = absurd (refused.0 (link_unrefused classes refusal links.0 refused.1))
one_link classes (Err s) (Err t) (refusal, refused, is) (other, too, was) =
    ap (λ (e : Status). Err e)
    (is ∙ ap (λ (r : LinkRefusal). status.LinkRefused r) (one_refusal classes refusal other refused.1 too.1 refused.0 too.0) ∙ sym was)

one_answer : (read : Result (List ClassFile) Status) (a b : Result Linked Status) → ReadLinkTo read a → ReadLinkTo read b → a ≡ b
one_answer (Ok classes) a b links too = one_link (kept_files classes) a b links too
one_answer (Err s) a b is too = sym is ∙ too

-- files link to one answer
pub one_files_answer : (files : List NamedBytes) (a b : Result Linked Status) → FilesLinkTo files a → FilesLinkTo files b → a ≡ b
one_files_answer files a b links too = one_answer (classes_among files) a b links too

abbrev ok : Linked → Result Linked Status
ok set = Ok set

abbrev err : Status → Result Linked Status
err s = Err s

pub never_both : (set : Linked) (s : Status) → ok set ≡ err s → ⊥
never_both set s same = cc

pub same_set : (a b : Linked) → ok a ≡ ok b → a ≡ b
same_set a b same = cc

same_status : (a b : Status) → err a ≡ err b → a ≡ b
same_status a b same = cc

module _ (left : Option (List NamedBytes)) (name : List ℕ) (had has : Images) (was now : Outside) (how : Status)
    (files : List NamedBytes) (told : left ≡ Some files) where
  lacks : LacksSet left had has was now how → Answers files name had has was now how
  lacks none = elim none.cause [
    | inl comes ↦ record {
      refused = λ s refused. inr (same_status how s
          (one_files_answer files (err how) (err s) (source_links left files told (err how) comes) refused));
      links = λ set links. absurd (never_both set how
          (one_files_answer files (ok set) (err how) links (source_links left files told (err how) comes)));
    }
    | inr free ↦ record { refused = λ s refused. inl free; links = λ set links. inl free }
  ]

  links_so : HasSet left name had has was now how → Answers files name had has was now how
  links_so of =
      let here : FilesLinkTo files (ok of.set) = source_links left files told (ok of.set) of.links in record {
        refused = λ s refused. absurd (never_both of.set s (one_files_answer files (ok of.set) (err s) here refused));
        links = λ set links. inr (subst (λ (x : Linked). SetEnds x name had has was now how)
            (same_set of.set set (one_files_answer files (ok of.set) (ok set) here links)) of.ends);
      }

  pub answers : AuditEnds left name had has was now how → Answers files name had has was now how
  answers (inl none) = lacks none
  answers (inr of) = links_so of

-- ---- what is left of the source

-- it was read to its end, and its classes don't link
pub unlinked_left : (classes : List ClassFile) (files : List NamedBytes) (after : Option (List NamedBytes)) (s : Status)
    → IsOfLinking classes s → IsOk (classes_among files) → after ≡ Some [] → IsLeft files s after
unlinked_left classes files after (status.LinkRefused refusal) of good none = none
unlinked_left classes files after status.OutOfMemory of good none = all_read files after good none
unlinked_left classes files after status.Ok of good none = absurd of
unlinked_left classes files after (status.Uncaught thread class) of good none = absurd of
unlinked_left classes files after status.Usage of good none = absurd of
unlinked_left classes files after (status.BadClass file refusal) of good none = absurd of
unlinked_left classes files after (status.BadListing line kind) of good none = absurd of
unlinked_left classes files after (status.BadImage line reason) of good none = absurd of
unlinked_left classes files after (status.ShapeChanged shape) of good none = absurd of
unlinked_left classes files after (status.BadCode method pc) of good none = absurd of
unlinked_left classes files after (status.RegionRace thread other place) of good none = absurd of
unlinked_left classes files after (status.Full full) of good none = absurd of
unlinked_left classes files after status.SourceFault of good none = absurd of
unlinked_left classes files after status.ImageFault of good none = absurd of
unlinked_left classes files after status.SinkFault of good none = absurd of
unlinked_left classes files after (status.Stuck waits) of good none = absurd of
unlinked_left classes files after (status.LinkFault kind name) of good none = absurd of
unlinked_left classes files after (status.NewImage reason) of good none = absurd of
unlinked_left classes files after (status.BadHistory word) of good none = absurd of
unlinked_left classes files after status.Refuted of good none = absurd of

-- what came of linking
module _ (left : Option (List NamedBytes)) (classes : List ClassFile) (comes : reading.FilesComeTo left (Ok classes))
    (after : Option (List NamedBytes)) (read : (files : List NamedBytes) → left ≡ Some files → after ≡ Some []) where
  abbrev kept : List ClassFile
  kept = kept_files classes

  pub links_then : (result : Result AcceptedSet Status) → IfOk result (λ set. set.linked ≡ linked_from kept) → OnOk result (Links kept)
      → IfOk result (λ set. SourceLinksTo left (Ok set.linked))
  links_then (Ok set) is links = classes_link left classes comes (Ok set.linked) (links, is)
  links_then (Err s) is links = tt

  pub refused_then : (result : Result AcceptedSet Status) → IfErr result (IsOfLinking kept)
      → IfErr result (λ s. SourceLinksTo left (Err s) ⊎ HasNoCause s)
  refused_then (Ok set) of = tt
  refused_then (Err s) of = elim (unlinked kept s of) [
    | inl links ↦ inl (classes_link left classes comes (Err s) links)
    | inr free ↦ inr free
  ]

  pub whole_then : (result : Result AcceptedSet Status)
      → OnOk result ((files : List NamedBytes) → left ≡ Some files → IsOk (classes_among files) × (after ≡ Some []))
  whole_then (Ok set) = λ files told. (unrefused left classes comes files told, read files told)
  whole_then (Err s) = tt

  pub left_then : (result : Result AcceptedSet Status) → IfErr result (IsOfLinking kept)
      → IfErr result (λ s. (files : List NamedBytes) → left ≡ Some files → IsLeft files s after)
  left_then (Ok set) of = tt
  left_then (Err s) of = λ files told.
      unlinked_left kept files after s of (unrefused left classes comes files told) (read files told)

refused_apart : (r : Result (List ClassFile) Status) (s : Status) → r ≡ Err s → IsOk r → ⊥
refused_apart (Ok classes) s is good = cc
refused_apart (Err e) s is good = cc

module _ (files : List NamedBytes) (after : Option (List NamedBytes)) (how : Status) (good : IsOk (classes_among files))
    (none : after ≡ Some []) where
  late_at : (stage : Stage) → IsLateStage stage → LeavesAt stage files how after
  late_at OfSource of = record { read = files; others = []; whole = sym (append-nil files); unrefused = good; left = none }
  late_at OfMemory of = all_read files after good none
  late_at OfRoom of = (λ refused. absurd (refused_apart (classes_among files) how refused good), λ unrefused. none)
  late_at OfOpening of = none
  late_at OfNames of = none
  late_at OfImage of = none
  late_at OfTurns of = none
  late_at OfOthers of = none
  late_at OfWords of = absurd of
  late_at OfFile of = absurd of
  late_at OfListing of = absurd of
  late_at OfLinking of = absurd of

  -- what comes later leaves nothing of it
  pub late_left : IsLate how → IsLeft files how after
  late_left of = late_at (stage_of how) of
