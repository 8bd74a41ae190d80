-- The test of an act is exact.
use Rattle.std.proofs.Common.{◌≡◌, ◌↔◌, ℕ, ◌≤◌, Bool, true, false, not, ◌&&◌, List, [], ◌∷◌, Option, refl, sym, ap, arith}
use Rattle.std.specs.Prelude.{nat_lt}
use Rattle.run_history.specs.declared.act.Op.{Op}
use Rattle.run_history.specs.declared.act.Op.TheVariants as op
use Rattle.run_history.specs.Recorded.{Recorded, NamesRightly}
use Rattle.run_history.specs.Worlds.{fits}
use Rattle.run_history.specs.Knowing.{Knowledge, owes_fence}
use Rattle.run_history.specs.Wanted.{Wishes, IsClosed}
use Rattle.plain_model.specs.Facts.{SetFacts}
use Rattle.plain_model.specs.Requests.{PlainRequest}
use Rattle.plain_model.specs.Codes.{is_persistent}
use Rattle.plain_model.specs.Runs.{op_given, IsAbout, MayAct, Rule, is_fenced}
use Rattle.audit_rules.specs.Closing.{AreThere, stays_closed}
use Rattle.audit_rules.specs.Rules.{AreWanted, act_test, rule_test, names_test, same_bool, is_some}
use Rattle.audit_rules.proofs.Tests.{both, and-both, not-true, not-false}
use Rattle.audit_rules.proofs.Closing.{closed-by-act}
use Rattle.audit_rules.proofs.Regions.{regions-tested}
use Rattle.audit_rules.proofs.Wishing.{wishes-tested}

bool-same : (a b : Bool) → same_bool a b ≡ true → a ≡ b
bool-same true b is = sym is
bool-same false b is = sym (not-true b is)

same-bool : (a b : Bool) → a ≡ b → same_bool a b ≡ true
same-bool true b is = sym is
same-bool false b is = not-false b (sym is)

none-named : (ns : List ℕ) → not (is_some ns) ≡ true → ns ≡ []
none-named [] is = refl
none-named (n ∷ ns) is = absurd (let none : false ≡ true = is in cc)

named-none : (ns : List ℕ) → ns ≡ [] → not (is_some ns) ≡ true
named-none ns is = ap (λ ms. not (is_some ms)) is

names-rightly : (o : Op) (ns : List ℕ) → names_test o ns ≡ true → NamesRightly o ns
names-rightly op.Joined ns is = tt
names-rightly o ns is = none-named ns is

rightly-names : (o : Op) (ns : List ℕ) → NamesRightly o ns → names_test o ns ≡ true
rightly-names op.Joined ns is = refl
rightly-names o ns is = named-none ns is

later-than : (m n : ℕ) → not (nat_lt n m) ≡ true → m ≤ n
later-than m n is = grind (arith, is)

than-later : (m n : ℕ) → m ≤ n → not (nat_lt n m) ≡ true
than-later m n is = grind (arith, is)

module _ (set : SetFacts) (known : Knowledge) (request : Option PlainRequest) (wanted : ℕ → Bool) (Now : Wishes) (about : Bool)
    (are : AreWanted known.durable wanted Now) (t : ℕ) (named : List ℕ) where
  abbrev next : Option Op
  next = op_given set known.world t 1 request

  -- what the answer of the plain run says of a visible operation
  abbrev IsKnown : Op → Type 0
  IsKnown o = is_persistent o ≡ false → (about ≡ true) ↔ IsAbout set known request t o

  rule-tested : (o : Op) → IsKnown o → (rule_test known next wanted about t named o ≡ true) ↔ Rule set known Now request t named o
  rule-tested (op.Asked place value) is = (wishes-tested set known request t wanted Now are).asked place value
  rule-tested op.Joined is = (wishes-tested set known request t wanted Now are).joined named
  rule-tested (op.Guarded place) is = (regions-tested set known request t).guarded place
  rule-tested op.Closing is = (regions-tested set known request t).closing
  rule-tested op.Fenced is = ((λ e. tt), λ e. refl)
  rule-tested (op.Stored place value) is =
      let told = is refl in
      let tested = λ (does : IsAbout set known request t (op.Stored place value)). (regions-tested set known request t).stored place value does in (
        (λ e. let (told_so, rest) = both about _ e in (tested (told.0 told_so)).0 rest),
        λ may. and-both about _ (told.1 may.is_about) ((tested may.is_about).1 may),
      )
  rule-tested op.End is =
      let told = is refl in
      let tested = λ (does : IsAbout set known request t op.End). (regions-tested set known request t).ended does in (
        (λ e. let (told_so, rest) = both about _ e in (tested (told.0 told_so)).0 rest),
        λ may. and-both about _ (told.1 may.is_about) ((tested may.is_about).1 may),
      )
  rule-tested o is = is refl

-- the rule of a visible operation has its step
about-of : (set : SetFacts) (known : Knowledge) (request : Option PlainRequest) (Now : Wishes) (t : ℕ) (named : List ℕ) (o : Op) → is_persistent o ≡ false
    → Rule set known Now request t named o → IsAbout set known request t o
about-of set known request Now t named (op.Stored place value) is r = r.is_about
about-of set known request Now t named op.End is r = r.is_about
about-of set known request Now t named (op.Asked place value) is r = absurd (let none : true ≡ false = is in cc)
about-of set known request Now t named op.Joined is r = absurd (let none : true ≡ false = is in cc)
about-of set known request Now t named (op.Guarded place) is r = absurd (let none : true ≡ false = is in cc)
about-of set known request Now t named op.Closing is r = absurd (let none : true ≡ false = is in cc)
about-of set known request Now t named op.Fenced is r = absurd (let none : true ≡ false = is in cc)
about-of set known request Now t named o is r = r

persistent-fits : (known : Knowledge) (o : Op) → is_persistent o ≡ true → fits known.world.heap o ≡ true
persistent-fits known (op.Asked place value) is = refl
persistent-fits known op.Joined is = refl
persistent-fits known (op.Guarded place) is = refl
persistent-fits known op.Closing is = refl
persistent-fits known op.Fenced is = refl
persistent-fits known o is = absurd (let none : false ≡ true = is in cc)

pub acts-exact : (set : SetFacts) (known : Knowledge) (request : Option PlainRequest) (wanted : ℕ → Bool) (Now : Wishes) (about : Bool) (a : Recorded)
    → AreWanted known.durable wanted Now → IsClosed known → AreThere known
    → (is_persistent a.act.op ≡ false → (about ≡ true) ↔ IsAbout set known request a.act.thread a.act.op)
    → (is_persistent a.act.op ≡ false → about ≡ true → fits known.world.heap a.act.op ≡ true)
    → (act_test known (op_given set known.world a.act.thread 1 request) wanted about a ≡ true) ↔ MayAct set known Now request a
acts-exact set known request wanted Now about a are closed there told fitting = (
  (λ e.
      let next = op_given set known.world a.act.thread 1 request in
      let (at, e1) = both (not (nat_lt a.act.at known.at)) (same_bool (is_fenced a.act.op) (owes_fence known.unfenced a.act.thread)
      && (names_test a.act.op a.named && (rule_test known next wanted about a.act.thread a.named a.act.op && stays_closed known a.named a.act.op))) e in
      let (fence_, e2) = both (same_bool (is_fenced a.act.op) (owes_fence known.unfenced a.act.thread))
      (names_test a.act.op a.named && (rule_test known next wanted about a.act.thread a.named a.act.op && stays_closed known a.named a.act.op)) e1 in
      let (names, e3) = both (names_test a.act.op a.named) (rule_test known next wanted about a.act.thread a.named a.act.op && stays_closed known a.named a.act.op) e2 in
      let (rule_, stays) = both (rule_test known next wanted about a.act.thread a.named a.act.op) (stays_closed known a.named a.act.op) e3 in
      let by_rule = (rule-tested set known request wanted Now about are a.act.thread a.named a.act.op told).0 rule_ in
      record {
        later = later-than known.at a.act.at at;
        rule = by_rule;
        named = names-rightly a.act.op a.named names;
        fence = bool-same (is_fenced a.act.op) (owes_fence known.unfenced a.act.thread) fence_;
        is_closed = (closed-by-act known a closed there (fit by_rule)).1 stays;
      }),
  λ may.
      and-both (not (nat_lt a.act.at known.at)) _ (than-later known.at a.act.at may.later)
      (and-both (same_bool (is_fenced a.act.op) (owes_fence known.unfenced a.act.thread)) _ (same-bool _ _ may.fence)
      (and-both (names_test a.act.op a.named) _ (rightly-names a.act.op a.named may.named)
      (and-both (rule_test known (op_given set known.world a.act.thread 1 request) wanted about a.act.thread a.named a.act.op) _
      ((rule-tested set known request wanted Now about are a.act.thread a.named a.act.op told).1 may.rule)
      ((closed-by-act known a closed there (fit may.rule)).0 may.is_closed)))),
)
  where
    fit : Rule set known Now request a.act.thread a.named a.act.op → fits known.world.heap a.act.op ≡ true
    fit r = elim (is_persistent a.act.op) as (λ b. is_persistent a.act.op ≡ b → fits known.world.heap a.act.op ≡ true) [
      | true ↦ λ e. persistent-fits known a.act.op e
      | false ↦ λ e. fitting e ((told e).1 (about-of set known request Now a.act.thread a.named a.act.op e r))
    ] refl
