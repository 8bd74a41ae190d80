-- The moments so far, by a call of the image, by an act, and by a store.
use Rattle.std.proofs.Common.{◌≡◌, ℕ, ◌+◌, ◌<◌, ◌≤◌, List, [], ◌∷◌, ◌++◌, Option, refl, sym, ◌∙◌, ap, subst, arith, ⊎_elim}
use Rattle.std.proofs.Common.{nat_lt, cond}
use Rattle.std.proofs.lemmas.Bool.{cases_lt, le-ltb}
use Rattle.std.proofs.lemmas.List.Elements.{All-weaker, All-nil, All-push}
use Rattle.line_image.specs.Trace.{Trace, Outcome, LeavesNow, trace_within}
use Rattle.line_image.specs.Told.{Told}
use Rattle.line_memory.specs.Memory.{Memory, SameImage}
use Rattle.line_memory.specs.Moments.{Goes, CountsFrom}
use Rattle.line_memory.proofs.Chain.{counts_same, each_same}
use Rattle.run_history.specs.Recorded.{Recorded}
use Rattle.run_history.specs.Kept.{acts_before}
use Rattle.run_history.proofs.ActsBefore.{acts_before-all}
use Rattle.stop_theorem.specs.Moments.{IsSafe}

-- a further act is made after it
pub before_next : (acts : List Recorded) (a : Recorded) (n : ℕ) → n ≤ a.act.at
    → acts_before n (acts ++ a ∷ []) ≡ acts_before n acts
before_next [] a n late = rw (le-ltb a.act.at n late) refl
before_next (b ∷ acts) a n late = ap (λ (front : List Recorded). cond (nat_lt b.act.at n) (b ∷ front) front)
    (before_next acts a n late)

module _ (Allows : List Recorded → Outcome → Type 0) (begin : ℕ) (start : Memory) where
  pub safe_first : CountsFrom begin start → IsSafe Allows begin start [] start
  safe_first counts = record {
    counts = counts;
    later = omega arith;
    more = omega arith;
    made = All-nil (λ (a : Recorded). a.act.at ≤ start.calls);
    late = All-nil (λ (a : Recorded). start.calls ≤ a.act.at);
    before = λ n early fits. refl;
    within = λ n some few fits c left after. absurd (omega (arith, few, after));
  }

  module _ (acts : List Recorded) (old : Memory) (safe : IsSafe Allows begin start acts old) where
    -- Calls of the image, each moment of which leaves what has P: all acts so far came before them.
    pub safe_call : (new : Memory) (P : Outcome → Type 0) → Goes old.image new.image P → CountsFrom begin new
        → old.calls ≤ new.calls
        → ((c : Outcome) → P c → Allows acts c) → IsSafe Allows begin start acts new
    safe_call new P goes counts on during = record {
      counts = counts;
      later = omega (arith, safe.later, goes.later);
      more = omega (arith, safe.more, on);
      made = All-weaker (λ (a : Recorded). a.act.at ≤ old.calls) (λ (a : Recorded). a.act.at ≤ new.calls)
          (λ a early. omega (arith, early, on)) acts safe.made;
      late = safe.late;
      before = λ n early fits. goes.before n (omega (arith, early, safe.later)) fits
          ∙ safe.before n early fits;
      within = λ n some few fits c left after. ⊎_elim
          (λ (late : old.calls < n). new_moment n c late
          (during c (goes.during (begin + n) (omega (arith, safe.counts, late))
          (omega (arith, counts, few, fits)) fits c left)))
          (λ (early : n ≤ old.calls). safe.within n some early fits c
          (subst (λ (o : Option Trace). LeavesNow o c)
          (goes.before (begin + n) (omega (arith, safe.counts, early, fits)) fits) left) after)
          (cases_lt old.calls n);
    }
      where
        new_moment : (n : ℕ) (c : Outcome) → old.calls < n → Allows acts c → Allows (acts_before n acts) c
        new_moment n c late one =
            let all : acts_before n acts ≡ acts =
            acts_before-all n acts (All-weaker (λ (a : Recorded). a.act.at ≤ old.calls)
            (λ (a : Recorded). a.act.at < n) (λ a early. omega (arith, early, late)) acts safe.made) in
            subst (λ (done : List Recorded). Allows done c) (sym all) one

    -- no call, with whatever stores
    pub safe_quiet : (new : Memory) → SameImage old new → IsSafe Allows begin start acts new
    safe_quiet new same =
        let told : old.image ≡ new.image = sym same.image in
        record {
          counts = counts_same begin old new safe.counts same;
          later = omega (arith, safe.later, ap (λ (t : Told). t.calls) told);
          more = omega (arith, safe.more, same.calls);
          made = All-weaker (λ (a : Recorded). a.act.at ≤ old.calls) (λ (a : Recorded). a.act.at ≤ new.calls)
              (λ a early. omega (arith, early, same.calls)) acts safe.made;
          late = safe.late;
          before = λ n early fits. ap (λ (t : Told). trace_within n t.trace) same.image
              ∙ safe.before n early fits;
          within = each_same begin old new (λ n c. start.calls < n
              → Allows (acts_before n acts) c) same safe.within;
        }

    -- an act, which no moment so far saw
    pub safe_act : (a : Recorded) → a.act.at ≡ old.calls → IsSafe Allows begin start (acts ++ a ∷ []) old
    safe_act a now = record {
      counts = safe.counts;
      later = safe.later;
      more = safe.more;
      made = All-push (λ (b : Recorded). b.act.at ≤ old.calls) acts a safe.made (omega (arith, now));
      late = All-push (λ (b : Recorded). start.calls ≤ b.act.at) acts a safe.late
          (omega (arith, now, safe.more));
      before = safe.before;
      within = λ n some few fits c left after.
          subst (λ (done : List Recorded). Allows done c)
          (sym (before_next acts a n (omega (arith, few, now))))
          (safe.within n some few fits c left after);
    }
