-- Calls of the image leave what was asked, and a write-back what is owed.
use Rattle.std.proofs.Common.{◌≡◌, ◌≢◌, ℕ, List, refl, sym, ◌∙◌, subst, arith}
use Rattle.std.proofs.lemmas.List.{length-set}
use Rattle.machine_forms.specs.declared.doing.Doing.{Doing}
use Rattle.machine_forms.specs.declared.doing.Doing.TheVariants.{Nothing, Writing, Fencing}
use Rattle.twin_forms.specs.Table.{Entry}
use Rattle.twin_forms.specs.Sights.{Twin}
use Rattle.machine_forms.specs.Machines.{Opening, Machine, known_in, memory_of, doing_of, log_of, layout_in}
use Rattle.machine_forms.specs.Keeping.{IsDoing, KeepsRegions, KeepsRun, KeepsAsked}
use Rattle.machine_forms.specs.Events.{CallsImage, with_twin, with_write, WritesBack}
use Rattle.machine_laws.proofs.Lists.{each-set, set-within}
use Rattle.machine_laws.proofs.AskKeeping.{few-calls, first-kept}
use Rattle.machine_laws.proofs.Memories.{KeepsWhole}
use Rattle.machine_laws.proofs.Changes.{whole-call}
use Rattle.machine_laws.proofs.Quiet.{quiet-regions}

-- a call leaves all regions
call-regions : (o : Opening) (m : Machine) (es : List Entry) (k : KeepsRun o m es) (twin : Twin)
    (m' : Machine)
    → CallsImage m twin → m'.acts ≡ m.acts → m'.logs ≡ m.logs → memory_of m' ≡ twin.memory
    → KeepsRegions o m' es
call-regions o m es k twin m' c acts logs memory =
    quiet-regions o m m' es es k acts logs (λ n p. p) (λ n p. refl)
    (λ u lt. subst (KeepsWhole (log_of m u)) (sym memory)
    (whole-call o m es k twin.memory u lt c.call.keeps c.call.known_after))

pub calls-keep : (o : Opening) (m : Machine) (es : List Entry) (k : KeepsRun o m es) (twin : Twin)
    → CallsImage m twin → KeepsAsked o (with_twin m twin) es
calls-keep o m es k twin c = record {
  durable = k.asked.durable;
  doing = k.asked.doing;
  threads = k.asked.threads;
  queued = λ t i n is. first-kept (known_in o m) (known_in o m) m (with_twin m twin) es es t refl (λ x h. h)
      (k.asked.queued t i n is);
  wanted = k.asked.wanted;
  closed = k.asked.closed;
  timed = (let before = k.asked.timed in let later = c.later in omega (arith, before, later));
  few = few-calls (memory_of m) twin.memory c.count k.asked.few;
  regions = call-regions o m es k twin (with_twin m twin) c refl refl refl;
}

busy : (d : Doing) (line : ℕ) → d ≡ Writing line → d ≢ Nothing
busy d line is nothing = let no : Writing line ≡ Nothing = sym is ∙ nothing in cc

pub writes-keep : (o : Opening) (m : Machine) (es : List Entry) (k : KeepsRun o m es) (twin : Twin)
    (t : ℕ) → WritesBack m twin t → KeepsAsked o (with_write m twin t) es
writes-keep o m es k twin t w =
    let after = calls-keep o m es k twin w.calls in
    let writing : IsDoing (known_in o m) (layout_in o es) t (Writing w.line)
    = subst (IsDoing (known_in o m) (layout_in o es) t) w.doing (k.asked.doing t) in
    let within = set-within m.doing t Nothing (busy (doing_of m t) w.line w.doing) in
    record {
      durable = after.durable;
      doing = each-set (IsDoing (known_in o m) (layout_in o es)) m.doing t Fencing Nothing within
          (writing.0, (writing.1.0, writing.1.1)) (λ u other. k.asked.doing u);
      threads = length-set m.doing t Fencing ∙ k.asked.threads;
      queued = λ u i n is. first-kept (known_in o m) (known_in o m) m (with_write m twin t) es es u refl
          (λ x h. h)
          (k.asked.queued u i n is);
      wanted = after.wanted;
      closed = after.closed;
      timed = after.timed;
      few = after.few;
      regions = call-regions o m es k twin (with_write m twin t) w.calls refl refl refl;
    }
