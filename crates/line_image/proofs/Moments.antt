-- What a stop within a call might have left.
use Rattle.std.proofs.Common.{◌≡◌, ◌<◌, ◌≤◌, ℕ, List, [], ◌∷◌, true, false, Option, Some, None, All, refl, ap, arith}
use Rattle.std.proofs.lemmas.Bool.Decides.{nat_tests}
use Rattle.line_image.specs.Trace.{Trace, made_within, is_made, did, trace_within}
use Rattle.line_image.specs.Told.{Told, InOrder, IsCounted}
use Rattle.line_image.specs.declared.effect.Effect.{Effect}
use Rattle.line_image.specs.declared.effect.Done.{Done}
use Rattle.line_image.specs.declared.effect.Done.TheVariants.{Wrote, Fenced}

is_made-before : (m at : ℕ) (done : Done) → at < m → is_made m at done ≡ true
is_made-before m at (Wrote line words) lt = grind (arith, nat_tests)
is_made-before m at Fenced lt = grind (arith, nat_tests)

is_made-after : (m at : ℕ) (done : Done) → m < at → is_made m at done ≡ false
is_made-after m at (Wrote line words) lt = grind (arith, nat_tests)
is_made-after m at Fenced lt = grind (arith, nat_tests)

made_within-all : (m calls : ℕ) (done : List Effect) → All (λ (effect : Effect). effect.at ≤ calls) done → calls < m → made_within m done ≡ done
made_within-all m calls [] so_far lt = refl
made_within-all m calls (effect ∷ done) so_far lt =
    let here : effect.at < m = omega (arith, so_far 0 effect (omega arith)) in
    rw (is_made-before m effect.at effect.done here)

-- from now on all that was done counts
pub within-from_now_on : (told : Told) (m : ℕ) → IsCounted told → told.calls < m → trace_within m told.trace ≡ told.trace
within-from_now_on told m counted = all_within told.size told.calls m told.trace counted.order
  where
    all_within : (size calls m : ℕ) (o : Option Trace) → InOrder size calls o → calls < m → trace_within m o ≡ o
    all_within size calls m None order lt = refl
    all_within size calls m (Some h) order lt =
        ap (λ (done : List Effect). Some (record h { done = done })) (made_within-all m calls h.done order.so_far lt)

-- a later call changes nothing of a past moment
pub within-past : (m at : ℕ) (done : Done) (o : Option Trace) → m < at → trace_within m (did done at o) ≡ trace_within m o
within-past m at done None lt = refl
within-past m at done (Some h) lt = rw (is_made-after m at done lt)

-- within a write its values are there
pub within-write : (at line : ℕ) (words : List ℕ) (o : Option Trace) → trace_within at (did (Wrote line words) at o) ≡ did (Wrote line words) at o
within-write at line words None = refl
within-write at line words (Some h) = let made : is_made at at (Wrote line words) ≡ true = grind (arith, nat_tests) in rw made

-- within a fence it isn't made
pub within-fence : (at : ℕ) (o : Option Trace) → trace_within at (did Fenced at o) ≡ trace_within at o
within-fence at None = refl
within-fence at (Some h) = let unmade : is_made at at Fenced ≡ false = grind (arith, nat_tests) in rw unmade
