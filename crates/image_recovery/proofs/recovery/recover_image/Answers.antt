use Rattle.std.proofs.Common.{◌≡◌, sym, ◌∙◌, arith}
use Rattle.line_memory.specs.Memory.{Memory, shown}
use Rattle.image_layout.specs.Places.{version}
use Rattle.image_meaning.specs.Meaning.{meaning}
use Rattle.word_changes.specs.Changes.{AllKnown, ChangesTo}
use Rattle.directories.specs.Formatting.{IsFormatted}
use Rattle.image_walk.specs.Walking.{IsFaultOf}
use Rattle.image_walk.proofs.Reading.{err_is}
use Rattle.image_walk.specs.declared.fault.RecoverFault.{RecoverFault}
use Rattle.image_walk.specs.declared.fault.RecoverFault.TheVariants as faults
use Rattle.image_recovery.specs.Putting.{IsPutBack, AllDurable, IsRecovered}
use Rattle.image_recovery.specs.Recovered.{FindsImage, FindsNothing, IsBadFault, IsUsed}
use Rattle.image_recovery.specs.Recoveries.{FailsToRecover, Recovers}
use Rattle.image_recovery.specs.declared.recovering.FoundImage.{FoundImage}
use Rattle.image_recovery.proofs.Causes.{spared_at, cause_at}
use Rattle.image_recovery.proofs.Recovers.{unread_fails, blank_recovers, blank_fails, finds_stand, used_recovers, used_fails}
use Rattle.image_recovery.proofs.Recovers.{used_super, used_version, says_blank, says_used, when_ok, when_err, ok_at, on_ok_at}
use Rattle.image_recovery.proofs.Recovers.{err_at}
use Rattle.image_recovery.proofs.recovery.recover_image.Goals as goal

abbrev Recovered : Memory → Memory → FoundImage → Type 0
Recovered first new found = Recovers first new found.directory found.graph found.lines found.free found.undone

abbrev NothingFound : FoundImage → Type 0
NothingFound found = FindsNothing found.directory found.graph found.lines found.free found.undone

abbrev ImageFound : Memory → FoundImage → Type 0
ImageFound first found = FindsImage first.size (shown first) found.directory found.graph found.lines found.free found.undone

pub returns-in_err-read_super-clause-fails : goal.returns-in_err-read_super-clause-fails
returns-in_err-read_super-clause-fails g c =
    let first : Memory = c.args.memory.now in
    let seen : Memory = c.read_super.new.memory in
    let fault = c.in_err-read_super.field-0.0 in
    err_is c.from_residual.result fault (FailsToRecover first seen) c.from_residual.ensures.1
    (unread_fails first seen fault c.read_super.ensures.looks c.in_err-read_super.ensures.bad
    c.in_err-read_super.ensures.cause)

pub returns-in-Blank-clause-recovers : goal.returns-in-Blank-clause-recovers
returns-in-Blank-clause-recovers g c =
    let first : Memory = c.args.memory.now in
    let seen : Memory = c.read_super.new.memory in
    let new : Memory = c.recover_blank.new.memory in
    let r = c.recover_blank.result in
    let blank = c.recover_blank.ensures in
    let ok = c.in_ok-read_super in
    when_ok r (Recovered first new) (λ found is.
    blank_recovers first seen new ok.ensures.enough ok.ensures.most c.read_super.ensures.looks
    (λ known. says_blank (shown first 0) ok.field-0 (ok.ensures.says known) c.in-Blank.is) ok.ensures.passes
    blank.stops blank.changes blank.goes_on ok.ensures.cause found.directory found.graph found.lines found.free found.undone
    (λ known. ok_at r NothingFound found is (blank.finds known))
    (λ known. on_ok_at r (IsFormatted seen.size (shown new)) found is (blank.formatted known))
    (λ tells durable. on_ok_at r (AllDurable new) found is (blank.durable tells durable))
    (spared_at faults.ImageFailed seen.faults new.faults r found is blank.cause))

pub returns-in-Blank-clause-version : goal.returns-in-Blank-clause-version
returns-in-Blank-clause-version g c known =
    let first : Memory = c.args.memory.now in
    let seen : Memory = c.read_super.new.memory in
    let new : Memory = c.recover_blank.new.memory in
    let r = c.recover_blank.result in
    let blank = c.recover_blank.ensures in
    let known_seen : AllKnown seen = c.read_super.ensures.looks.changes.known known in
    when_ok r (λ (found : FoundImage). found.version ≡ shown new 0 1) (λ found is.
    ok_at r (λ (found : FoundImage). found.version ≡ version) found is blank.version
    ∙ sym (on_ok_at r (IsFormatted seen.size (shown new)) found is (blank.formatted known_seen)).layout)

pub returns-in-Blank-clause-fails : goal.returns-in-Blank-clause-fails
returns-in-Blank-clause-fails g c =
    let first : Memory = c.args.memory.now in
    let seen : Memory = c.read_super.new.memory in
    let new : Memory = c.recover_blank.new.memory in
    let r = c.recover_blank.result in
    let blank = c.recover_blank.ensures in
    let ok = c.in_ok-read_super in
    when_err r (FailsToRecover first new) (λ fault is.
    blank_fails first seen new ok.ensures.enough ok.ensures.most c.read_super.ensures.looks
    (λ known. says_blank (shown first 0) ok.field-0 (ok.ensures.says known) c.in-Blank.is) ok.ensures.passes
    blank.stops blank.changes blank.goes_on ok.ensures.cause fault
    (λ known. err_at r (λ (fault : RecoverFault). IsBadFault fault → ⊥) fault is (blank.never_bad known))
    (cause_at faults.ImageFailed seen.faults new.faults r fault is blank.cause))

pub returns-in-Used-clause-recovers : goal.returns-in-Used-clause-recovers
returns-in-Used-clause-recovers g c =
    let first : Memory = c.args.memory.now in
    let seen : Memory = c.read_super.new.memory in
    let new : Memory = c.recover_used.new.memory in
    let r = c.recover_used.result in
    let used = c.recover_used.ensures in
    let ok = c.in_ok-read_super in
    let looks = c.read_super.ensures.looks in
    let is_used : AllKnown first → IsUsed first.size (shown first) c.in-Used.directory = λ known. used_super first.size
    (shown first) ok.field-0 c.in-Used.version c.in-Used.directory (ok.ensures.passes known) (ok.ensures.says known)
    c.in-Used.is in
    when_ok r (Recovered first new) (λ found is.
    used_recovers first seen new c.in-Used.directory ok.ensures.enough ok.ensures.most looks is_used
    (λ tells durable all pass. used.stops first tells durable all looks pass)
    (λ known. used.changes first known looks) (λ known fails. used.refused first known looks (is_used known) fails)
    used.goes_on ok.ensures.cause
    found.directory found.graph found.lines found.free found.undone
    (λ known. ok_at r (ImageFound first) found is (used.finds first known looks (is_used known)))
    (λ known. on_ok_at r (IsRecovered first new) found is (used.recovered first known looks))
    (λ tells written. on_ok_at r (AllDurable new) found is (used.durable first tells written looks))
    (spared_at faults.ImageFailed seen.faults new.faults r found is used.cause))

pub returns-in-Used-clause-version : goal.returns-in-Used-clause-version
returns-in-Used-clause-version g c known =
    let first : Memory = c.args.memory.now in
    let seen : Memory = c.read_super.new.memory in
    let new : Memory = c.recover_used.new.memory in
    let r = c.recover_used.result in
    let used = c.recover_used.ensures in
    let ok = c.in_ok-read_super in
    let looks = c.read_super.ensures.looks in
    let says = c.in-Used in
    let is_used : AllKnown first → IsUsed first.size (shown first) says.directory = λ known. used_super first.size (shown first)
    ok.field-0 says.version says.directory (ok.ensures.passes known) (ok.ensures.says known) says.is in
    when_ok r (λ (found : FoundImage). found.version ≡ shown new 0 1) (λ found is.
    let image : AllKnown first → ImageFound first found = λ known. ok_at r (ImageFound first) found is
    (used.finds first known looks (is_used known)) in
    ok_at r (λ (found : FoundImage). found.version ≡ says.version) found is used.version
    ∙ used_version first seen new says.directory ok.ensures.enough ok.ensures.most looks is_used
    (λ tells durable all pass. used.stops first tells durable all looks pass)
    (λ known. used.changes first known looks) (λ known fails. used.refused first known looks (is_used known) fails)
    used.goes_on ok.ensures.cause found.graph says.version
    (λ known. (says_used (shown first 0) ok.field-0 says.version says.directory (ok.ensures.says known) says.is).version_is)
    (λ known. finds_stand first.size (shown first) found.directory found.graph found.lines found.free found.undone (image known))
    (λ known. on_ok_at r (IsRecovered first new) found is (used.recovered first known looks)) known)

pub returns-in-Used-clause-fails : goal.returns-in-Used-clause-fails
returns-in-Used-clause-fails g c =
    let first : Memory = c.args.memory.now in
    let seen : Memory = c.read_super.new.memory in
    let new : Memory = c.recover_used.new.memory in
    let r = c.recover_used.result in
    let used = c.recover_used.ensures in
    let ok = c.in_ok-read_super in
    let looks = c.read_super.ensures.looks in
    let is_used : AllKnown first → IsUsed first.size (shown first) c.in-Used.directory = λ known. used_super first.size
    (shown first) ok.field-0 c.in-Used.version c.in-Used.directory (ok.ensures.passes known) (ok.ensures.says known)
    c.in-Used.is in
    when_err r (FailsToRecover first new) (λ fault is.
    used_fails first seen new c.in-Used.directory ok.ensures.enough ok.ensures.most looks is_used
    (λ tells durable all pass. used.stops first tells durable all looks pass)
    (λ known. used.changes first known looks) (λ known fails. used.refused first known looks (is_used known) fails)
    used.goes_on ok.ensures.cause fault
    (λ known. err_at r (IsFaultOf (meaning first.size (shown first))) fault is (used.bad first known looks (is_used known)))
    (λ known bad. err_at r (λ (fault : RecoverFault). IsBadFault fault → ChangesTo (IsPutBack (shown first)) first new) fault is
    (used.put_back first known looks) bad)
    (cause_at faults.ImageFailed seen.faults new.faults r fault is used.cause))

pub returns-in_err-read_super-clause-calls : goal.returns-in_err-read_super-clause-calls
returns-in_err-read_super-clause-calls g c =
    omega (arith, c.read_super.ensures.looks.calls)

pub returns-in-Blank-clause-calls : goal.returns-in-Blank-clause-calls
returns-in-Blank-clause-calls g c =
    omega (arith, c.read_super.ensures.looks.calls, c.recover_blank.ensures.calls)

pub returns-in-Used-clause-calls : goal.returns-in-Used-clause-calls
returns-in-Used-clause-calls g c =
    omega (arith, c.read_super.ensures.looks.calls, c.recover_used.ensures.calls)
