-- The files of a source, one by one.
use Rattle.std.proofs.Common.{◌≡◌, ◌⊎◌, inl, inr, ℕ, zero, suc, ◌+◌, ◌<◌, ◌≤◌, List, [], ◌∷◌, ◌++◌, length, take, drop, nat_lt}
use Rattle.std.proofs.Common.{true, false, Option, Some, None, Result, Ok, Err, refl, sym, ap, ◌∙◌, append_assoc, arith, subst}
use Rattle.std.specs.Prelude.{◌≢◌, IsOk}
use Rattle.std.proofs.Math.Seq.{take-append-add}
use Rattle.std.proofs.lemmas.Bool.{le-ltb, lt-ltb}
use Rattle.std.proofs.lemmas.List.{append-nil, length-append, take_all, take_at, length_push}
use Rattle.ap_base.specs.declared.source.NamedBytes.{NamedBytes}
use Rattle.run_types.specs.declared.fault.Which.TheVariants.{Files}
use Rattle.ap_base.specs.Sources as source
use Rattle.class_file.specs.declared.class.ClassFile.{ClassFile}
use Rattle.statuses.specs.declared.status.Status.{Status}
use Rattle.statuses.specs.declared.status.Status.TheVariants as status
use Rattle.parsing.specs.Results.{◌>>=◌}
use Rattle.source_classes.specs.Files.{most_files, class_of, classes_in, classes_among}
use Rattle.source_classes.specs.Reading.{HadLeft, FilesComeTo, HasNoCause, IsOfFiles, FailsUnrefused, StopsAtRefused}
use Rattle.source_classes.specs.Reading.{StopsAnywhere, IsLeft, LeavesAt}
use Rattle.statuses.specs.Stages.{Stage, OfWords, OfSource, OfMemory, OfFile, OfListing, OfLinking, OfOpening, OfRoom, OfNames}
use Rattle.statuses.specs.Stages.{OfImage, OfTurns, OfOthers, stage_of, IsFreeStage, IsFilesStage}

-- these files were read of a source, and this is left
abbrev pub behind : List NamedBytes → Option (List NamedBytes) → Option (List NamedBytes)
behind read None = None
behind read (Some left) = Some (read ++ left)

-- Some files were read of a source that had `first` left, none of them is refused, and `room` files may follow.
pub record HasRead (first left : Option (List NamedBytes)) (room : ℕ) (before : List ClassFile) : Type 0 where
  pub read : List NamedBytes
  pub told : first ≡ behind read left
  pub room_left : length read + room ≡ most_files
  pub count : length before ≡ length read
  pub good : classes_in read ≡ Ok before

abbrev classes : List ClassFile → Result (List ClassFile) Status
classes cs = Ok cs

-- ---- the classes of several files

one_more_class : (class : Result ClassFile Status) (read all others : Result (List ClassFile) Status) (before : List ClassFile)
    → (class >>= λ c. read >>= λ cs. classes (c ∷ cs)) ≡ Ok before
    → ((cs : List ClassFile) → read ≡ Ok cs → all ≡ (others >>= λ more. classes (cs ++ more)))
    → (class >>= λ c. all >>= λ cs. classes (c ∷ cs)) ≡ (others >>= λ more. classes (before ++ more))
one_more_class (Err s) read all others before good also = absurd cc
one_more_class (Ok c) (Err s) all others before good also = absurd cc
one_more_class (Ok c) (Ok cs) all others before good also =
    let same : c ∷ cs ≡ before = cc in
    rw (also cs refl, ← same) (of_others others)
  where
    of_others : (r : Result (List ClassFile) Status)
        → ((r >>= λ more. classes (cs ++ more)) >>= λ found. classes (c ∷ found)) ≡ (r >>= λ more. classes (c ∷ cs ++ more))
    of_others (Ok more) = refl
    of_others (Err s) = refl

classes_behind : (read files : List NamedBytes) (before : List ClassFile) → classes_in read ≡ Ok before
    → classes_in (read ++ files) ≡ (classes_in files >>= λ more. classes (before ++ more))
classes_behind [] files before good =
    let none : [] ≡ before = cc in
    rw (← none) (of_files (classes_in files))
  where
    of_files : (r : Result (List ClassFile) Status) → r ≡ (r >>= λ more. classes more)
    of_files (Ok more) = refl
    of_files (Err s) = refl
classes_behind (file ∷ read) files before good =
    one_more_class (class_of file) (classes_in read) (classes_in (read ++ files)) (classes_in files) before good (λ cs is. classes_behind read files cs is)

good_push : (read : List NamedBytes) (file : NamedBytes) (before : List ClassFile) (class : ClassFile) → classes_in read ≡ Ok before
    → class_of file ≡ Ok class → classes_in (read ++ file ∷ []) ≡ Ok (before ++ class ∷ [])
good_push read file before class good is = classes_behind read (file ∷ []) before good ∙ rw is refl

refused_behind : (read : List NamedBytes) (file : NamedBytes) (files : List NamedBytes) (before : List ClassFile) (s : Status)
    → classes_in read ≡ Ok before → class_of file ≡ Err s → classes_in (read ++ file ∷ files) ≡ Err s
refused_behind read file files before s good is = classes_behind read (file ∷ files) before good ∙ rw is refl

-- ---- the file that was read last

abbrev some : List NamedBytes → Option (List NamedBytes)
some l = Some l

-- one file more was read
read_one : (read : List NamedBytes) (file : NamedBytes) (left after : Option (List NamedBytes)) → source.Gives left (Some file) after
    → behind read left ≡ behind (read ++ file ∷ []) after
read_one read file None after gives = ap (behind (read ++ file ∷ [])) (sym gives)
read_one read file (Some []) after gives = absurd cc
read_one read file (Some (f ∷ files)) after gives =
    let same : file ≡ f = cc in
    rw (gives.1, same) (ap (λ (l : List NamedBytes). some l) (sym (append_assoc read (f ∷ []) files)))

pub goes_on : (first left after : Option (List NamedBytes)) (room : ℕ) (before later : List ClassFile) (file : NamedBytes) (class : ClassFile)
    → HasRead first left (suc room) before → source.Gives left (Some file) after → class_of file ≡ Ok class
    → later ≡ before ++ class ∷ [] → HasRead first after room later
goes_on first left after room before later file class has gives is also = record {
  read = has.read ++ file ∷ [];
  told = has.told ∙ read_one has.read file left after gives;
  room_left = omega (arith, length_push has.read file, has.room_left);
  count = rw also (omega (arith, length_push before class, length_push has.read file, has.count));
  good = rw also (good_push has.read file before class has.good is);
}

-- the files that a source had behind this one, where it tells them
abbrev rest_of : Option (List NamedBytes) → List NamedBytes
rest_of None = []
rest_of (Some files) = drop 1 files

told_from : (first left after : Option (List NamedBytes)) (read : List NamedBytes) (file : NamedBytes) → first ≡ behind read left → source.Gives left (Some file) after
    → HadLeft first (read ++ file ∷ rest_of left)
told_from first None after read file told gives = rw told tt
told_from first (Some []) after read file told gives = absurd cc
told_from first (Some (f ∷ files)) after read file told gives =
    let same : file ≡ f = cc in
    rw (told, same) refl

told_whole : (first left after : Option (List NamedBytes)) (read : List NamedBytes) → first ≡ behind read left → source.Gives left None after → HadLeft first read
told_whole first None after read told gives = rw told tt
told_whole first (Some []) after read told gives = rw told (append-nil read)
told_whole first (Some (f ∷ files)) after read told gives = absurd cc

-- nothing is left behind the last file
pub whole : (first left after : Option (List NamedBytes)) (room : ℕ) (before : List ClassFile) → HasRead first left room before → source.Gives left None after
    → (files : List NamedBytes) → first ≡ Some files → after ≡ Some []
whole first None after room before has gives files some = absurd (let e : None ≡ Some files = sym has.told ∙ some in cc)
whole first (Some []) after room before has gives files some = gives.1
whole first (Some (f ∷ left)) after room before has gives files some = absurd cc

-- ---- what all files come to

all_good : (files : List NamedBytes) (before : List ClassFile) → length files ≤ most_files → classes_in files ≡ Ok before
    → classes_among files ≡ Ok before
unfolding classes_among
all_good files before few good =
    let no_more : nat_lt most_files (length files) ≡ false = le-ltb most_files (length files) few in
    rw (take_all most_files files few, good, no_more) refl

pub few : (first left : Option (List NamedBytes)) (room : ℕ) (before : List ClassFile) → HasRead first left room before → length before ≤ 4096
few first left room before has = omega (arith, has.count, has.room_left)

pub ends : (first left after : Option (List NamedBytes)) (room : ℕ) (before : List ClassFile) → HasRead first left room before
    → source.Gives left None after → FilesComeTo first (Ok before)
ends first left after room before has gives = record {
  files = has.read;
  told = told_whole first left after has.read has.told gives;
  is = all_good has.read before (omega (arith, has.room_left)) has.good;
}

one_refused : (files : List NamedBytes) (s : Status) → classes_in (take most_files files) ≡ Err s → classes_among files ≡ Err s
unfolding classes_among
one_refused files s is = rw is refl

-- a file behind those that were read
first_behind : (read : List NamedBytes) (room : ℕ) (before : List ClassFile) (file : NamedBytes) (s : Status) (files : List NamedBytes)
    → length read + suc room ≡ most_files → classes_in read ≡ Ok before → class_of file ≡ Err s
    → classes_in (take most_files (read ++ file ∷ files)) ≡ Err s
first_behind read room before file s files room_left good is =
    ap (λ (n : ℕ). classes_in (take n (read ++ file ∷ files))) (sym room_left)
    ∙ ap classes_in (take-append-add read (file ∷ files) (suc room))
    ∙ refused_behind read file (take room files) before s good is

pub refuses : (first left after : Option (List NamedBytes)) (room : ℕ) (before : List ClassFile) (file : NamedBytes) (s : Status)
    → HasRead first left (suc room) before → source.Gives left (Some file) after → class_of file ≡ Err s → FilesComeTo first (Err s)
refuses first left after room before file s has gives is = record {
  files = has.read ++ file ∷ rest_of left;
  told = told_from first left after has.read file has.told gives;
  is = one_refused (has.read ++ file ∷ rest_of left) s (first_behind has.read room before file s (rest_of left) has.room_left has.good is);
}

abbrev one_more : Status
one_more = status.Full (record { which = Files; need = 1; left = 0 })

one_too_many : (files : List NamedBytes) (before : List ClassFile) → classes_in (take most_files files) ≡ Ok before
    → most_files < length files → classes_among files ≡ Err one_more
unfolding classes_among
one_too_many files before good more =
    let larger : nat_lt most_files (length files) ≡ true = lt-ltb most_files (length files) more in
    rw (good, larger) refl

pub passes : (first left after : Option (List NamedBytes)) (before : List ClassFile) (file : NamedBytes)
    → HasRead first left zero before → source.Gives left (Some file) after → FilesComeTo first (Err one_more)
passes first left after before file has gives = record {
  files = has.read ++ file ∷ rest_of left;
  told = told_from first left after has.read file has.told gives;
  is = one_too_many (has.read ++ file ∷ rest_of left) before
      (ap classes_in (take_at has.read (file ∷ rest_of left) most_files (omega (arith, has.room_left))) ∙ has.good)
      (omega (arith, has.room_left, length-append has.read (file ∷ rest_of left)));
}

-- ---- what is left

are_unrefused : (read : List NamedBytes) (before : List ClassFile) → length read ≤ most_files → classes_in read ≡ Ok before
    → IsOk (classes_among read)
are_unrefused read before few good = rw (all_good read before few good) refl

some_files : (a b : List NamedBytes) → Some a ≡ Some b → a ≡ b
some_files a b is = cc

-- the source failed to give the next file
fails_unrefused : (first left : Option (List NamedBytes)) (room : ℕ) (before : List ClassFile) → HasRead first left room before
    → (files : List NamedBytes) → first ≡ Some files → FailsUnrefused files left
fails_unrefused first None room before has files some = absurd (let e : None ≡ Some files = sym has.told ∙ some in cc)
fails_unrefused first (Some others) room before has files some = record {
  read = has.read;
  others = others;
  whole = some_files files (has.read ++ others) (sym some ∙ has.told);
  unrefused = are_unrefused has.read before (omega (arith, has.room_left)) has.good;
  left = refl;
}

-- the file that was read last is refused
stops_at : (first left after : Option (List NamedBytes)) (room : ℕ) (before : List ClassFile) (file : NamedBytes) (s : Status) (has : HasRead first left room before)
    → source.Gives left (Some file) after → classes_among (has.read ++ file ∷ []) ≡ Err s
    → (files : List NamedBytes) → first ≡ Some files → StopsAtRefused files s after
stops_at first None after room before file s has gives is files some = absurd (let e : None ≡ Some files = sym has.told ∙ some in cc)
stops_at first (Some []) after room before file s has gives is files some = absurd cc
stops_at first (Some (f ∷ others)) after room before file s has gives is files some =
    let same : file ≡ f = cc in
    record {
      read = has.read;
      file = file;
      others = others;
      whole = some_files files (has.read ++ file ∷ others) (sym some ∙ has.told ∙ rw same refl);
      unrefused = are_unrefused has.read before (omega (arith, has.room_left)) has.good;
      refused = is;
      left = gives.1;
    }

-- memory ran out before the next file
before_file : (files : List NamedBytes) (after : Option (List NamedBytes)) → FailsUnrefused files after → StopsAnywhere files after
before_file files after fails = record {
  read = fails.read;
  last = [];
  others = fails.others;
  whole = fails.whole ∙ ap (λ (read : List NamedBytes). read ++ fails.others) (sym (append-nil fails.read));
  unrefused = fails.unrefused;
  few = omega arith;
  left = fails.left;
}

-- or once it was read
after_file : (first left after : Option (List NamedBytes)) (room : ℕ) (before : List ClassFile) (file : NamedBytes) → HasRead first left room before
    → source.Gives left (Some file) after → (files : List NamedBytes) → first ≡ Some files → StopsAnywhere files after
after_file first None after room before file has gives files some = absurd (let e : None ≡ Some files = sym has.told ∙ some in cc)
after_file first (Some []) after room before file has gives files some = absurd cc
after_file first (Some (f ∷ others)) after room before file has gives files some = record {
  read = has.read;
  last = file ∷ [];
  others = others;
  whole = some_files files ((has.read ++ file ∷ []) ++ others)
      (sym some ∙ has.told ∙ read_one has.read file (Some (f ∷ others)) after gives ∙ ap (behind (has.read ++ file ∷ [])) gives.1);
  unrefused = are_unrefused has.read before (omega (arith, has.room_left)) has.good;
  few = omega arith;
  left = gives.1;
}

-- or behind them all
pub all_read : (files : List NamedBytes) (after : Option (List NamedBytes)) → IsOk (classes_among files) → after ≡ Some [] → StopsAnywhere files after
all_read files after unrefused none = record {
  read = files;
  last = [];
  others = [];
  whole = sym (append-nil (files ++ []) ∙ append-nil files);
  unrefused = unrefused;
  few = omega arith;
  left = none;
}

-- where the source failed, or memory ran out, before the next file
failed_at : (first left : Option (List NamedBytes)) (room : ℕ) (before : List ClassFile) (s : Status) (stage : Stage) → HasRead first left room before
    → IsFreeStage stage → (files : List NamedBytes) → first ≡ Some files → LeavesAt stage files s left
failed_at first left room before s OfSource has free files some = fails_unrefused first left room before has files some
failed_at first left room before s OfMemory has free files some =
    before_file files left (fails_unrefused first left room before has files some)
failed_at first left room before s OfWords has free files some = absurd free
failed_at first left room before s OfFile has free files some = absurd free
failed_at first left room before s OfListing has free files some = absurd free
failed_at first left room before s OfLinking has free files some = absurd free
failed_at first left room before s OfOpening has free files some = absurd free
failed_at first left room before s OfRoom has free files some = absurd free
failed_at first left room before s OfNames has free files some = absurd free
failed_at first left room before s OfImage has free files some = absurd free
failed_at first left room before s OfTurns has free files some = absurd free
failed_at first left room before s OfOthers has free files some = absurd free

pub left_failed : (first left : Option (List NamedBytes)) (room : ℕ) (before : List ClassFile) (s : Status) → HasRead first left room before → HasNoCause s
    → (files : List NamedBytes) → first ≡ Some files → IsLeft files s left
left_failed first left room before s has free files some = failed_at first left room before s (stage_of s) has free files some

-- the files come to a refusal
known_files : (first : Option (List NamedBytes)) (s : Status) (files : List NamedBytes) → FilesComeTo first (Err s) → first ≡ Some files
    → classes_among files ≡ Err s
known_files first s files comes some =
    let same : files ≡ comes.files = subst (λ (l : Option (List NamedBytes)). HadLeft l comes.files) some comes.told in
    ap classes_among same ∙ comes.is

refused_apart : (r : Result (List ClassFile) Status) (s : Status) → r ≡ Err s → IsOk r → ⊥
refused_apart (Ok cs) s is good = cc
refused_apart (Err e) s is good = cc

-- where the next file is refused, which all files come to, or memory ran out
refused_at : (stage : Stage) (files : List NamedBytes) (s : Status) (after : Option (List NamedBytes)) → IsFilesStage stage → stage ≢ OfSource
    → (stage ≡ OfMemory) ⊎ ((classes_among files ≡ Err s) × StopsAtRefused files s after) → StopsAnywhere files after → LeavesAt stage files s after
refused_at OfFile files s after of other (inr refused) anywhere = refused.1
refused_at OfRoom files s after of other (inr refused) anywhere =
    (λ is. refused.1, λ good. absurd (refused_apart (classes_among files) s refused.0 good))
refused_at OfFile files s after of other (inl memory) anywhere = absurd cc
refused_at OfRoom files s after of other (inl memory) anywhere = absurd cc
refused_at OfMemory files s after of other refused anywhere = anywhere
refused_at OfSource files s after of other refused anywhere = absurd (other refl)
refused_at OfWords files s after of other refused anywhere = absurd of
refused_at OfListing files s after of other refused anywhere = absurd of
refused_at OfLinking files s after of other refused anywhere = absurd of
refused_at OfOpening files s after of other refused anywhere = absurd of
refused_at OfNames files s after of other refused anywhere = absurd of
refused_at OfImage files s after of other refused anywhere = absurd of
refused_at OfTurns files s after of other refused anywhere = absurd of
refused_at OfOthers files s after of other refused anywhere = absurd of

-- only a fault of the source comes at its stage
source_only : (s : Status) → stage_of s ≡ OfSource → s ≡ status.SourceFault
source_only status.SourceFault is = refl
source_only status.Ok is = absurd cc
source_only (status.Uncaught thread class) is = absurd cc
source_only status.Usage is = absurd cc
source_only (status.BadClass file refusal) is = absurd cc
source_only (status.BadListing line kind) is = absurd cc
source_only (status.LinkRefused refusal) is = absurd cc
source_only (status.BadCode method pc) is = absurd cc
source_only (status.RegionRace thread other place) is = absurd cc
source_only (status.Full full) is = absurd cc
source_only status.ImageFault is = absurd cc
source_only status.SinkFault is = absurd cc
source_only status.OutOfMemory is = absurd cc
source_only (status.Stuck waits) is = absurd cc
source_only (status.LinkFault kind name) is = absurd cc
source_only (status.NewImage reason) is = absurd cc
source_only (status.BadHistory word) is = absurd cc
source_only status.Refuted is = absurd cc
source_only (status.BadImage line reason) is = absurd cc
source_only (status.ShapeChanged shape) is = absurd cc

pub left_refused : (first left after : Option (List NamedBytes)) (room : ℕ) (before : List ClassFile) (file : NamedBytes) (s : Status)
    → HasRead first left (suc room) before → source.Gives left (Some file) after → IsOfFiles s → s ≢ status.SourceFault
    → (s ≡ status.OutOfMemory) ⊎ (class_of file ≡ Err s) → (files : List NamedBytes) → first ≡ Some files → IsLeft files s after
left_refused first left after room before file s has gives of other (inl memory) files some =
    refused_at (stage_of s) files s after of (λ is. other (source_only s is)) (inl (ap stage_of memory))
    (after_file first left after (suc room) before file has gives files some)
left_refused first left after room before file s has gives of other (inr refused) files some =
    let is = one_refused (has.read ++ file ∷ []) s (first_behind has.read room before file s [] has.room_left has.good refused) in
    refused_at (stage_of s) files s after of (λ at. other (source_only s at))
    (inr (
      known_files first s files (refuses first left after room before file s has gives refused) some,
      stops_at first left after (suc room) before file s has gives is files some,
    ))
    (after_file first left after (suc room) before file has gives files some)

-- where there is no memory for the next file's class
pub left_no_memory : (first left after : Option (List NamedBytes)) (room : ℕ) (before : List ClassFile) (file : NamedBytes)
    → HasRead first left (suc room) before → source.Gives left (Some file) after → (files : List NamedBytes) → first ≡ Some files
    → IsLeft files status.OutOfMemory after
left_no_memory first left after room before file has gives files some = after_file first left after (suc room) before file has gives files some

-- where there is one file too many
pub left_full : (first left after : Option (List NamedBytes)) (before : List ClassFile) (file : NamedBytes) → HasRead first left zero before
    → source.Gives left (Some file) after → (files : List NamedBytes) → first ≡ Some files → IsLeft files one_more after
left_full first left after before file has gives files some =
    let stops = stops_at first left after zero before file one_more has gives
    (one_too_many (has.read ++ file ∷ []) before
    (ap classes_in (take_at has.read (file ∷ []) most_files (omega (arith, has.room_left))) ∙ has.good)
    (omega (arith, has.room_left, length-append has.read (file ∷ []))))
    files some in
    let known = known_files first one_more files (passes first left after before file has gives) some in
    (λ is. stops, λ good. absurd (refused_apart (classes_among files) one_more known good))
