use Rattle.std.proofs.Common.{◌≡◌, ℕ, Bool, true, false, nat_le, refl, ap, ◌∙◌, if◌then◌else◌}
use Rattle.line_image.specs.Trace.{Trace, Outcome}
use Rattle.mirror_image.specs.Labels.{generation_at}
use Rattle.mirror_image.specs.Stops.{Holds, generation_left}
use Rattle.mirror_image.proofs.mirror.law_of_leading.Goals as goal

generation_is : (z : ℕ) (h : Trace) (c : Outcome) → Holds h c → generation_at z h ≡ generation_left z c
generation_is z h c holds = rw (holds z 0, holds z 1) refl

pub returns : goal.returns
returns c z h k one other is_h is_k =
    by_test (nat_le (generation_at z k) (generation_at z h))
    (ap (λ (g : ℕ). nat_le g (generation_at z h)) (generation_is z k other is_k) ∙ ap (λ (g : ℕ). nat_le (generation_left z other) g) (generation_is z h one is_h))
  where
    by_test : (b : Bool) → b ≡ nat_le (generation_left z other) (generation_left z one)
        → Holds (if b then h else k) (if nat_le (generation_left z other) (generation_left z one) then one else other)
    by_test true is l w = is_h l w ∙ ap (λ (b : Bool). (if b then one else other) l w) is
    by_test false is l w = is_k l w ∙ ap (λ (b : Bool). (if b then one else other) l w) is
