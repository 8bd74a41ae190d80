-- Threads by their states are plain threads.
use Rattle.std.proofs.Common.{◌≡◌, ℕ, zero, suc, pred, ◌<◌, ◌-◌, ◌^◌, sub-one, Bool, true, false, nat_eq, List, [], ◌∷◌, map}
use Rattle.std.proofs.Common.{slice_get, Option, Some, None, is_some, if◌then◌else◌, refl, ap, ◌∙◌, arith}
use Rattle.std.specs.Prelude.{All}
use Rattle.std.proofs.lemmas.List.Elements.{All-head, All-tail, All-from_get_or}
use Rattle.ap_base.specs.Causes.{next_count}
use Rattle.run_types.specs.declared.wait.On.TheVariants as on
use Rattle.run_history.specs.declared.act.Op.TheVariants as op
use Rattle.run_history.specs.Worlds.{Thread, World, at_thread, depth_in}
use Rattle.natives.specs.declared.requests.Reply.TheVariants as reply
use Rattle.plain_model.specs.declared.throws.Throws.TheVariants as exception
use Rattle.plain_model.specs.Facts.{SetFacts}
use Rattle.plain_model.specs.Steps.{Does, Waits, throws, thread_from, starts_thread, joins_thread}
use Rattle.shared_objects.specs.declared.threads.ThreadState.{ThreadState}
use Rattle.shared_objects.specs.Threads.{is_of_object, started_from, depth_at, at_state, deepened, raised, ended, new_state}
use Rattle.shared_objects.specs.Worlds.{plain_thread}

-- ---- the thread of a Thread object

abbrev pub plain_started : Option (ℕ × ThreadState) → Option (ℕ × Thread)
plain_started None = None
plain_started (Some (t, s)) = Some (t, plain_thread s)

found_by : (o : Option ℕ) (n t : ℕ) (s : ThreadState) (rest : Option (ℕ × ThreadState))
    → (elim o [
      | None ↦ plain_started rest
      | Some m ↦ if nat_eq m n then Some (t, plain_thread s) else
          plain_started rest
    ])
    ≡ plain_started (if is_of_object n o then Some (t, s) else rest)
found_by None n t s rest = refl
found_by (Some m) n t s rest = chosen (nat_eq m n) where
  chosen : (b : Bool) → (if b then Some (t, plain_thread s) else plain_started rest) ≡ plain_started (if b
      then Some (t, s) else rest)
  chosen true = refl
  chosen false = refl

pub found_plain : (t n : ℕ) (ss : List ThreadState)
    → thread_from t (map plain_thread ss) n ≡ plain_started (started_from t ss n)
found_plain t n [] = refl
found_plain t n (s ∷ ss) =
    ap (λ (rest : Option (ℕ × Thread)). elim s.object [
      | None ↦ rest
      | Some m ↦ if nat_eq m n then Some (
        t,
        plain_thread s,
      ) else rest
    ])
    (found_plain (suc t) n ss)
    ∙ found_by s.object n t s (started_from (suc t) ss n)

-- ---- starts and joins

module _ (set : SetFacts) (world : World) (ss : List ThreadState) (n : ℕ) where
  pub started_again : (o : Option (ℕ × ThreadState)) → is_some o ≡ true
      → starts_thread set world n (plain_started o) ≡ throws set world exception.IllegalThreadState
  started_again None some = absurd (let no : false ≡ true = some in cc)
  started_again (Some (t, s)) some = refl

  pub join_none : (o : Option (ℕ × ThreadState)) → o ≡ None
      → joins_thread set world n (plain_started o) ≡ Does (op.Join n) reply.Done
  join_none o e = ap (λ x. joins_thread set world n (plain_started x)) e

  pub join_started : (o : Option (ℕ × ThreadState)) (t : ℕ) (s : ThreadState) → o ≡ Some (t, s)
      → joins_thread set world n (plain_started o) ≡ (if s.ended then Does (op.Join n) reply.Done else Waits
      (on.Join t))
  join_started o t s e = ap (λ x. joins_thread set world n (plain_started x)) e

-- ---- one thread's state

pub depth_plain : (ss : List ThreadState) (t : ℕ)
    → depth_in (slice_get (map plain_thread ss) t) ≡ depth_at ss t
depth_plain [] t = refl
depth_plain (s ∷ ss) zero = refl
depth_plain (s ∷ ss) (suc t) = depth_plain ss t

at_plain : (f : ThreadState → ThreadState) (g : Thread → Thread) (P : ThreadState → Type 0)
    → ((s : ThreadState) → P s → plain_thread (f s) ≡ g (plain_thread s))
    → (ss : List ThreadState) (t : ℕ) → All P ss
    → map plain_thread (at_state f ss t) ≡ at_thread g (map plain_thread ss) t
at_plain f g P same [] t all = refl
at_plain f g P same (s ∷ ss) zero all = ap (λ (x : Thread). x ∷ map plain_thread ss) (same s (All-head P s ss
    all))
at_plain f g P same (s ∷ ss) (suc t) all =
    ap (λ (rest : List Thread). plain_thread s ∷ rest) (at_plain f g P same ss t (All-tail P s ss all))

abbrev HasDepth : ThreadState → Type 0
HasDepth s = s.depth < 2 ^ 64 - 1

deeper_is : (n : ℕ) → n < 2 ^ 64 - 1 → next_count n ≡ suc n
deeper_is n below = omega (arith, below)

pub deepened_plain : (ss : List ThreadState) (t : ℕ) → All HasDepth ss
    → map plain_thread (at_state deepened ss t) ≡ at_thread (λ thread. record thread {
      depth = suc
          thread.depth;
    }) (map plain_thread ss) t
deepened_plain ss t all = at_plain deepened (λ thread. record thread { depth = suc thread.depth }) HasDepth
    (λ s below. ap (λ d. record (plain_thread s) { depth = d }) (deeper_is s.depth below)) ss t all

all_any : (ss : List ThreadState) → All (λ (s : ThreadState). Unit {0}) ss
all_any ss = All-from_get_or (λ (s : ThreadState). Unit {0}) ss (new_state None) (λ i below. tt)

pub raised_plain : (ss : List ThreadState) (t : ℕ)
    → map plain_thread (at_state raised ss t) ≡ at_thread (λ thread. record thread {
      depth = pred
          thread.depth;
    }) (map plain_thread ss) t
raised_plain ss t = at_plain raised (λ thread. record thread { depth = pred thread.depth }) (λ s. Unit {0})
    (λ s any. ap (λ d. record (plain_thread s) { depth = d }) (sub-one s.depth)) ss t (all_any ss)

pub ended_plain : (uncaught : Option ℕ) (ss : List ThreadState) (t : ℕ)
    → map plain_thread (at_state (ended uncaught) ss t)
    ≡ at_thread (λ thread. record thread { ended = true; uncaught = uncaught }) (map plain_thread ss) t
ended_plain uncaught ss t = at_plain (ended uncaught) (λ thread. record thread {
  ended = true;
  uncaught =
      uncaught;
}) (λ s. Unit {0})
    (λ s any. refl) ss t (all_any ss)
