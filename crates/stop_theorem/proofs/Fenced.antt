-- A line that is written back and fenced, of any memory, and a store that is.
use Rattle.std.proofs.Common.{◌≡◌, inl, ⊎_elim, ℕ, ◌^◌, ◌<◌, ◌≤◌, List, Option, Some, None, refl, sym, ◌∙◌, arith, eq-eqb}
use Rattle.std.proofs.Common.{slice_index}
use Rattle.std.proofs.lemmas.List.Elements.{All-cons, All-weaker}
use Rattle.ap_base.specs.Causes.{next_count}
use Rattle.line_image.specs.Trace.{Trace, MayLeave, did, read_word}
use Rattle.line_image.specs.Told.{InOrder, IsCounted}
use Rattle.line_image.specs.declared.effect.Effect.{Effect}
use Rattle.line_image.specs.declared.effect.Done.{Done}
use Rattle.line_image.specs.declared.effect.Done.TheVariants.{Wrote, Fenced}
use Rattle.line_memory.specs.Memory.{Memory, line_shown, shown, ReadsWord}
use Rattle.line_memory.proofs.Keeps.{write_keeps, fence_keeps}
use Rattle.stop_theorem.specs.Given.{WroteBack, FencedAll, LinesMayBeFenced}

-- the memory after one call that did this
abbrev pub after_call : Done → Memory → Memory
after_call done m = record m {
  calls = next_count m.calls;
  image = record m.image {
    calls = next_count m.image.calls;
    trace = did done
        (next_count m.image.calls) m.image.trace;
  };
}

order_on : (size calls : ℕ) (done : Done) (o : Option Trace) → calls < 2 ^ 64 → InOrder size calls o
    → InOrder size (next_count calls) (did done (next_count calls) o)
order_on size calls done None fits order = tt
order_on size calls done (Some h) fits order = record {
  lines = order.lines;
  eights = order.eights;
  so_far = All-cons (λ (e : Effect). e.at ≤ next_count calls)
      (record { at = next_count calls; done = done }) h.done (omega arith)
      (All-weaker (λ (e : Effect). e.at ≤ calls) (λ (e : Effect). e.at ≤ next_count calls)
      (λ e early. omega (arith, early, fits)) h.done order.so_far);
}

counted_on : (m : Memory) (done : Done) → IsCounted m.image → IsCounted (after_call done m).image
counted_on m done c = record {
  fits = omega (arith, c.fits);
  order = order_on m.image.size m.image.calls done m.image.trace c.fits c.order;
}

-- a read gives what was written
reads_written : (o : Option Trace) (line w at : ℕ) (words : List ℕ)
    → ReadsWord (did (Wrote line words) at o) line w (slice_index words w)
reads_written None line w at words = tt
reads_written (Some h) line w at words = rw (eq-eqb line line refl) refl

-- what was written is alone after a fence
left_fenced : (o : Option Trace) (l w at v u : ℕ) → ReadsWord o l w u → MayLeave (did Fenced at o) l w v
    → v ≡ u
left_fenced None l w at v u reads left = absurd left
left_fenced (Some h) l w at v u reads left = ⊎_elim (λ (is : v ≡ read_word h l w). is ∙ sym reads)
    (λ no. absurd no) left

wrote_back : (m : Memory) (line : ℕ) → IsCounted m.image → m.calls < 2 ^ 64
    → WroteBack line m (after_call (Wrote line (line_shown m line)) m)
unfolding line_shown
wrote_back m line counted fits = record {
  fits = fits;
  keeps = write_keeps m (after_call (Wrote line (line_shown m line)) m) refl refl counted refl line
      (inl refl);
  count = record { calls = refl; image = refl };
  written = λ w. reads_written m.image.trace line w (next_count m.image.calls) (line_shown m line);
}

pub fenced_all : (m : Memory) → IsCounted m.image → m.calls < 2 ^ 64 → FencedAll m (after_call Fenced m)
unfolding line_shown
fenced_all m counted fits = record {
  fits = fits;
  keeps = fence_keeps m (after_call Fenced m) refl refl counted refl (inl refl);
  count = record { calls = refl; image = refl };
  made = refl;
  durable = λ l w written v can. ⊎_elim
      (λ (is : v ≡ shown (after_call Fenced m) l w). is)
      (λ (left : MayLeave (did Fenced (next_count m.image.calls) m.image.trace) l w v).
      left_fenced m.image.trace l w (next_count m.image.calls) v (shown m l w) written left)
      can;
}

pub lines_may_be_fenced : LinesMayBeFenced
lines_may_be_fenced m line counted fits =
    let between = after_call (Wrote line (line_shown m line)) m in (
      after_call Fenced between,
      record {
        between = between;
        writes = wrote_back m line counted fits;
        fences = fenced_all between (counted_on m (Wrote line (line_shown m line)) counted)
            (omega (arith, fits));
      },
    )
