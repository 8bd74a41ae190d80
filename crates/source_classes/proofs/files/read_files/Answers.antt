use Rattle.std.proofs.Common.{◌≡◌, ◌⊎◌, suc, ◌+◌, ◌-◌, List, [], ◌∷◌, ◌++◌, Result, Ok, Err, false, inl, inr, subst, sym, ◌∙◌}
use Rattle.std.proofs.Common.{Option, arith, if◌then◌else◌}
use Rattle.std.specs.Prelude.{All}
use Rattle.std.specs.Result.{is_ok, is_err}
use Rattle.class_file.specs.Classes.{CanBeRead, HasAtMost}
use Rattle.class_file.specs.declared.class.ClassFile.{ClassFile}
use Rattle.std.proofs.lemmas.List.Elements.{All-push}
use Rattle.std.proofs.lemmas.Result.{err_from_is_err_and}
use Rattle.ap_base.specs.declared.source.NamedBytes.{NamedBytes}
use Rattle.ap_base.specs.Sources as given
use Rattle.statuses.specs.declared.status.Status.{Status}
use Rattle.statuses.specs.declared.status.Status.TheVariants as status
use Rattle.source_classes.specs.Files.{class_of}
use Rattle.source_classes.specs.Reading.{FilesComeTo, HasNoCause, IsLeft}
use Rattle.source_classes.proofs.SourceFiles.{HasRead, goes_on, few, ends, refuses, passes, whole, left_failed, left_refused}
use Rattle.source_classes.proofs.SourceFiles.{left_no_memory, left_full}
use Rattle.source_classes.proofs.files.read_files.Goals as goal

-- what the files come to, of the classes as they are accepted
accepted : (first : Option (List NamedBytes)) (before classes : List ClassFile) → classes ≡ before → FilesComeTo first (Ok before)
    → FilesComeTo first (Ok classes)
accepted first before classes same comes = subst (λ (cs : List ClassFile). FilesComeTo first (Ok cs)) (sym same) comes

pub returns-in_default-clause-classes : goal.returns-in_default-clause-classes
returns-in_default-clause-classes g c =
    accepted _ c.loop.classes.items c.of.result c.of.ensures
    (ends _ (g.C.ClassSource.left c.loop.source) (g.C.ClassSource.left c.next_file.new.source) (4096 - c.loop.counter) c.loop.classes.items c.loop.invariant.read
    (subst (λ f. given.Gives (g.C.ClassSource.left c.loop.source) f (g.C.ClassSource.left c.next_file.new.source)) c.in_default.is c.in_ok-file.ensures.file))

pub returns-in-None-clause-classes : goal.returns-in-None-clause-classes
returns-in-None-clause-classes g c =
    accepted _ c.loop.classes.items c.of-in-None.result c.of-in-None.ensures
    (ends _ (g.C.ClassSource.left c.loop.source) (g.C.ClassSource.left c.next_file-2.new.source) (4096 - c.loop.counter) c.loop.classes.items c.loop.invariant.read
    (subst (λ f. given.Gives (g.C.ClassSource.left c.loop.source) f (g.C.ClassSource.left c.next_file-2.new.source)) c.in-None.is c.in_ok-next_file.ensures.file))

pub of-requires-clause-few : goal.of-requires-clause-few
of-requires-clause-few g c = few _ (g.C.ClassSource.left c.loop.source) (4096 - c.loop.counter) c.loop.classes.items c.loop.invariant.read

pub of-requires-in-None-clause-few : goal.of-requires-in-None-clause-few
of-requires-in-None-clause-few g c = few _ (g.C.ClassSource.left c.loop.source) (4096 - c.loop.counter) c.loop.classes.items c.loop.invariant.read

pub returns-in_default-clause-whole : goal.returns-in_default-clause-whole
returns-in_default-clause-whole g c =
    whole _ (g.C.ClassSource.left c.loop.source) (g.C.ClassSource.left c.next_file.new.source) (4096 - c.loop.counter) c.loop.classes.items c.loop.invariant.read
    (subst (λ f. given.Gives (g.C.ClassSource.left c.loop.source) f (g.C.ClassSource.left c.next_file.new.source)) c.in_default.is c.in_ok-file.ensures.file)

pub returns-in-None-clause-whole : goal.returns-in-None-clause-whole
returns-in-None-clause-whole g c =
    whole _ (g.C.ClassSource.left c.loop.source) (g.C.ClassSource.left c.next_file-2.new.source) (4096 - c.loop.counter) c.loop.classes.items c.loop.invariant.read
    (subst (λ f. given.Gives (g.C.ClassSource.left c.loop.source) f (g.C.ClassSource.left c.next_file-2.new.source)) c.in-None.is c.in_ok-next_file.ensures.file)

pub returns-in-Some-2-clause-refused : goal.returns-in-Some-2-clause-refused
returns-in-Some-2-clause-refused g c =
    let none : 4096 - c.loop.counter ≡ 0 = omega arith in
    inr (passes (g.C.ClassSource.left c.args.source.now) (g.C.ClassSource.left c.loop.source) (g.C.ClassSource.left c.next_file-2.new.source) c.loop.classes.items c.in-Some-2.field-0
    (subst (λ n. HasRead (g.C.ClassSource.left c.args.source.now) (g.C.ClassSource.left c.loop.source) n c.loop.classes.items) none c.loop.invariant.read)
    (subst (λ f. given.Gives (g.C.ClassSource.left c.loop.source) f (g.C.ClassSource.left c.next_file-2.new.source)) c.in-Some-2.is c.in_ok-next_file.ensures.file))

pushed : {A E : Type 0} (before after : List ClassFile) (class : ClassFile) (r : Result A E)
    → after ≡ (if is_ok r then before ++ class ∷ [] else before) → is_err r ≡ false → after ≡ before ++ class ∷ []
pushed before after class (Ok done) is ok = is
pushed before after class (Err e) is ok = absurd cc

pub loop-preserved : goal.loop-preserved
loop-preserved g c =
    let more : 4096 - c.loop.counter ≡ suc (4096 - (c.loop.counter + 1)) = omega arith in
    record {
      read = goes_on (g.C.ClassSource.left c.args.source.now) (g.C.ClassSource.left c.loop.source)
          (g.C.ClassSource.left c.next_file.new.source) (4096 - (c.loop.counter + 1)) c.loop.classes.items
          c.push.new.self.items c.in-Some.file c.in_ok-class.class
          (subst (λ n. HasRead (g.C.ClassSource.left c.args.source.now) (g.C.ClassSource.left c.loop.source) n c.loop.classes.items) more c.loop.invariant.read)
          (subst (λ f. given.Gives (g.C.ClassSource.left c.loop.source) f (g.C.ClassSource.left c.next_file.new.source)) c.in-Some.is c.in_ok-file.ensures.file) c.in_ok-class.ensures.class
          (pushed c.loop.classes.items c.push.new.self.items c.in_ok-class.class c.push.result c.push.ensures.items (sym c.is_err.ensures.value ∙ c.if-is_err.false));
      readable = subst (λ cs. All CanBeRead cs)
          (sym (pushed c.loop.classes.items c.push.new.self.items c.in_ok-class.class c.push.result c.push.ensures.items (sym c.is_err.ensures.value ∙ c.if-is_err.false)))
          (All-push CanBeRead c.loop.classes.items c.in_ok-class.class c.loop.invariant.readable c.in_ok-class.ensures.readable);
      small = subst (λ cs. All (HasAtMost 1048576) cs)
          (sym (pushed c.loop.classes.items c.push.new.self.items c.in_ok-class.class c.push.result c.push.ensures.items (sym c.is_err.ensures.value ∙ c.if-is_err.false)))
          (All-push (HasAtMost 1048576) c.loop.classes.items c.in_ok-class.class c.loop.invariant.small c.in_ok-class.ensures.small);
      later = omega (arith, c.loop.invariant.later, c.next_file.ensures.later);
    }

-- a class that is refused is the answer
of_class : (P : Status → Type 0) (e : Status) (file : NamedBytes) → (e ≡ status.OutOfMemory) ⊎ (class_of file ≡ Err e) → (class_of file ≡ Err e → P e) → HasNoCause e ⊎ P e
of_class P e file (inl memory) also = inl (subst HasNoCause (sym memory) tt)
of_class P e file (inr is) also = inr (also is)

pub returns-in_err-class-clause-refused : goal.returns-in_err-class-clause-refused
returns-in_err-class-clause-refused g c =
    let p = err_from_is_err_and c.from_residual-in_err-class.result c.from_residual-in_err-class.ensures.1 in
    let first = g.C.ClassSource.left c.args.source.now in
    let left = g.C.ClassSource.left c.loop.source in
    let after = g.C.ClassSource.left c.next_file.new.source in
    let more : 4096 - c.loop.counter ≡ suc (4096 - (c.loop.counter + 1)) = omega arith in
    let has = subst (λ n. HasRead first left n c.loop.classes.items) more c.loop.invariant.read in
    let gives = subst (λ f. given.Gives left f after) c.in-Some.is c.in_ok-file.ensures.file in
    rw (p.1, p.2) (of_class (λ s. FilesComeTo first (Err s)) c.in_err-class.field-0.0 c.in-Some.file c.in_err-class.ensures.class
    (refuses first left after (4096 - (c.loop.counter + 1)) c.loop.classes.items c.in-Some.file c.in_err-class.field-0.0 has gives))

pub returns-in_err-class-clause-cause : goal.returns-in_err-class-clause-cause
returns-in_err-class-clause-cause g c =
    let p = err_from_is_err_and c.from_residual-in_err-class.result c.from_residual-in_err-class.ensures.1 in
    rw (p.1, p.2) (λ is. absurd (c.in_err-class.ensures.no_source cc))

pub returns-in_err-file-clause-left : goal.returns-in_err-file-clause-left
returns-in_err-file-clause-left g c =
    let p = err_from_is_err_and c.from_residual.result c.from_residual.ensures.1 in
    let e = c.in_err-file.field-0.0 in
    rw (p.1, p.2) (λ files told. subst (λ left. IsLeft files e left) (sym c.in_err-file.ensures.kept)
    (left_failed _ (g.C.ClassSource.left c.loop.source) (4096 - c.loop.counter) c.loop.classes.items e c.loop.invariant.read c.in_err-file.ensures.free files told))

pub returns-in_err-next_file-clause-left : goal.returns-in_err-next_file-clause-left
returns-in_err-next_file-clause-left g c =
    let p = err_from_is_err_and c.from_residual-in_err-next_file.result c.from_residual-in_err-next_file.ensures.1 in
    let e = c.in_err-next_file.field-0.0 in
    rw (p.1, p.2) (λ files told. subst (λ left. IsLeft files e left) (sym c.in_err-next_file.ensures.kept)
    (left_failed _ (g.C.ClassSource.left c.loop.source) (4096 - c.loop.counter) c.loop.classes.items e c.loop.invariant.read c.in_err-next_file.ensures.free files told))

pub returns-in_err-class-clause-left : goal.returns-in_err-class-clause-left
returns-in_err-class-clause-left g c =
    let p = err_from_is_err_and c.from_residual-in_err-class.result c.from_residual-in_err-class.ensures.1 in
    let first = g.C.ClassSource.left c.args.source.now in
    let left = g.C.ClassSource.left c.loop.source in
    let after = g.C.ClassSource.left c.next_file.new.source in
    let more : 4096 - c.loop.counter ≡ suc (4096 - (c.loop.counter + 1)) = omega arith in
    let has = subst (λ n. HasRead first left n c.loop.classes.items) more c.loop.invariant.read in
    let gives = subst (λ f. given.Gives left f after) c.in-Some.is c.in_ok-file.ensures.file in
    rw (p.1, p.2) (left_refused first left after (4096 - (c.loop.counter + 1)) c.loop.classes.items c.in-Some.file c.in_err-class.field-0.0 has gives
    c.in_err-class.ensures.files c.in_err-class.ensures.no_source c.in_err-class.ensures.class)

pub returns-in-Some-2-clause-left : goal.returns-in-Some-2-clause-left
returns-in-Some-2-clause-left g c =
    let none : 4096 - c.loop.counter ≡ 0 = omega arith in
    left_full (g.C.ClassSource.left c.args.source.now) (g.C.ClassSource.left c.loop.source) (g.C.ClassSource.left c.next_file-2.new.source) c.loop.classes.items c.in-Some-2.field-0
    (subst (λ n. HasRead (g.C.ClassSource.left c.args.source.now) (g.C.ClassSource.left c.loop.source) n c.loop.classes.items) none c.loop.invariant.read)
    (subst (λ f. given.Gives (g.C.ClassSource.left c.loop.source) f (g.C.ClassSource.left c.next_file-2.new.source)) c.in-Some-2.is c.in_ok-next_file.ensures.file)

pub returns-then-is_err-clause-left : goal.returns-then-is_err-clause-left
returns-then-is_err-clause-left g c =
    let first = g.C.ClassSource.left c.args.source.now in
    let left = g.C.ClassSource.left c.loop.source in
    let after = g.C.ClassSource.left c.next_file.new.source in
    let more : 4096 - c.loop.counter ≡ suc (4096 - (c.loop.counter + 1)) = omega arith in
    let has = subst (λ n. HasRead first left n c.loop.classes.items) more c.loop.invariant.read in
    let gives = subst (λ f. given.Gives left f after) c.in-Some.is c.in_ok-file.ensures.file in
    λ files told. left_no_memory first left after (4096 - (c.loop.counter + 1)) c.loop.classes.items c.in-Some.file has gives files told
