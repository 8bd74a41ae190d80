-- A step is made in one try, or in two.
use Rattle.std.proofs.Common.{◌≡◌, ℕ, true, false, [], Option, Some, None, Result, Ok, Err, refl, ap, sym, subst, ◌∙◌}
use Rattle.std.specs.Prelude.{OnErr}
use Rattle.ap_base.specs.declared.reference.Ref.{Ref}
use Rattle.ap_base.specs.declared.reference.Item.{Item}
use Rattle.natives.specs.declared.requests.Request.{Request}
use Rattle.plain_model.specs.Duties.{IsFit}
use Rattle.plain_model.specs.Facts.{SetFacts}
use Rattle.shared_objects.specs.declared.rest.Rest.{Rest}
use Rattle.shared_objects.specs.Shown.{Shown}
use Rattle.shared_objects.specs.Plain.{plain_request}
use Rattle.shared_objects.specs.Worlds.{KnowsMonitors, world_of}
use Rattle.step_forms.specs.declared.stepped.Stepped.TheVariants as stepped
use Rattle.step_forms.specs.Needs.{IsAskable}
use Rattle.plain_machine.specs.declared.trying.Did.{Did}
use Rattle.plain_machine.specs.declared.trying.Tried.{Tried}
use Rattle.plain_machine.specs.declared.trying.Tried.TheVariants as tried
use Rattle.plain_machine.specs.Ops.{asks_print}
use Rattle.plain_machine.specs.Tries.{TriesTo, is_short, tried_as, tried_of}
use Rattle.plain_machine.specs.Trying.{IsBack, IsKept, IsShort, MakesTo, with_left}
use Rattle.plain_machine.proofs.Keeping.{kept-askable, kept-both, kept-none, kept-self, kept-short, kept-step}
use Rattle.plain_machine.proofs.Possible.{no-false}
use Rattle.plain_machine.proofs.Trials.{idle-none, lacks-short, made-did, some_or_idle, unmade-kept}

pub on-err : {T E P : Type 0} (r : Result T E) → P → OnErr r P
on-err (Ok x) p = tt
on-err (Err x) p = p

short-unmade : (x : Tried) → is_short x ≡ true → some_or_idle x ≡ None
short-unmade (tried.Made did) e = no-false e
short-unmade tried.Idle e = refl
short-unmade (tried.Words words) e = refl
short-unmade tried.Monitors e = refl

module _ (set : SetFacts) (t : ℕ) (q : Request Ref Item) (start : Shown) (rest : Rest) (x : Tried)
    (now back : Shown) (rest_now : Rest) (h : TriesTo set t q start rest x now back rest_now)
    (fit : IsFit set (world_of [] start rest) t (plain_request start.number q)) where
  short-is : is_short x ≡ true → is_short (tried_of h.stepped) ≡ true
  short-is e = sym (ap is_short h.outcome) ∙ e

  pub try-makes : asks_print q ≡ false → (made : Option Did) → x ≡ tried_as made
      → MakesTo set t q start rest made now back rest_now
  try-makes silent (Some did) e =
      let both = made-did set t q start rest now back rest_now did h.stepped (sym e
      ∙ h.outcome) h.is h.heap in
      (start.left, both.0, both.1)
  try-makes silent None e = (
    unmade-kept set t q start rest now back rest_now h.stepped
        (ap some_or_idle (sym h.outcome ∙ e)) h.is h.heap,
    idle-none set t q start rest fit now rest_now silent h.stepped (sym e ∙ h.outcome) h.is,
  )

  pub try-kept : is_short x ≡ true → IsKept start rest now rest_now
  try-kept e = unmade-kept set t q start rest now back rest_now h.stepped
      (short-unmade (tried_of h.stepped) (short-is e)) h.is h.heap

  pub try-short : is_short x ≡ true → IsShort set t q start rest
  try-short e = lacks-short set t q start rest fit now rest_now h.stepped (short-is e) h.is

-- what is made from where all is as before is made from before
module _ (set : SetFacts) (t : ℕ) (q : Request Ref Item) (before : Shown) (rest : Rest) (mid : Shown)
    (rest_mid : Rest) (kept : IsKept before rest mid rest_mid) where
  back-from : (did : Did) (left : ℕ) (now back : Shown) → IsBack did.op (with_left mid left) now back
      → IsBack did.op (with_left before left) now back
  back-from did left now back h =
      subst (λ (s : Shown). IsBack did.op (with_left s left) now back) kept.shown h

  pub makes-from : (now back : Shown) (rest_now : Rest) (made : Option Did)
      → MakesTo set t q mid rest_mid made now back rest_now → MakesTo set t q before rest made now back
      rest_now
  makes-from now back rest_now (Some did) (left, is, b) = (
    left,
    kept-step set before rest (with_left mid left) rest_mid (record {
      shown = ap (λ (s : Shown). with_left s left) kept.shown;
      world = kept.world;
      monitors = kept.monitors;
    }) t q (stepped.Did did.op did.reply) now rest_now is,
    back-from did left now back b,
  )
  makes-from now back rest_now None (k, none) = (
    kept-both before rest mid rest_mid now rest_now kept k,
    kept-none set before rest mid rest_mid kept t q none,
  )

  pub kept-from : (now : Shown) (rest_now : Rest) → IsKept mid rest_mid now rest_now
      → IsKept before rest now rest_now
  kept-from now rest_now k = kept-both before rest mid rest_mid now rest_now kept k

  pub short-from : IsShort set t q mid rest_mid → IsShort set t q before rest
  short-from h = kept-short set before rest mid rest_mid kept t q h

-- ---- the two tries

-- from a heap without room
pub closed-kept : (before : Shown) (rest : Rest) (start : Shown) → start ≡ with_left before 0
    → KnowsMonitors before rest → IsKept before rest start rest
closed-kept before rest start e monitors =
    subst (λ (s : Shown). IsKept before rest s rest) (sym e) (kept-self before rest 0 monitors)

-- and from one with room
pub roomed-kept : (before : Shown) (rest : Rest) (mid : Shown) (rest_mid : Rest) (next : Shown) (words : ℕ)
    → next ≡ with_left mid words → IsKept before rest mid rest_mid → IsKept before rest next rest_mid
roomed-kept before rest mid rest_mid next words e kept =
    subst (λ (s : Shown). IsKept before rest s rest_mid) (sym e) (record {
      shown = ap (λ (s : Shown). with_left s words) kept.shown;
      world = kept.world;
      monitors = kept.monitors;
    })

-- another try from where all is as before
module _ (set : SetFacts) (t : ℕ) (q : Request Ref Item) (before : Shown) (rest : Rest) (mid : Shown)
    (rest_mid : Rest) (kept : IsKept before rest mid rest_mid) (silent : asks_print q ≡ false)
    (asks : IsAskable set (λ n i. Unit {0}) (λ n. Unit {0}) before rest t q) (x : Tried) (now back : Shown)
    (rest_now : Rest) (h : TriesTo set t q mid rest_mid x now back rest_now) where
  fit-there : IsFit set (world_of [] mid rest_mid) t (plain_request mid.number q)
  fit-there = (kept-askable set before rest mid rest_mid kept t q asks).fit

  pub then-makes : (made : Option Did) → x ≡ tried_as made → MakesTo set t q before rest made now back
      rest_now
  then-makes made e = makes-from set t q before rest mid rest_mid kept now back rest_now made
      (try-makes set t q mid rest_mid x now back rest_now h fit-there silent made e)

  pub then-kept : is_short x ≡ true → IsKept before rest now rest_now
  then-kept e = kept-from set t q before rest mid rest_mid kept now rest_now
      (try-kept set t q mid rest_mid x now back rest_now h fit-there e)

  pub then-short : is_short x ≡ true → IsShort set t q before rest
  then-short e = short-from set t q before rest mid rest_mid kept
      (try-short set t q mid rest_mid x now back rest_now h fit-there e)
