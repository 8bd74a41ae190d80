use Rattle.std.proofs.Common.{false, sym, ◌∙◌}
use Rattle.mirror_image.proofs.Exits.{on_ok, on_err, words_first, words_second}
use Rattle.mirror_image.proofs.Safety.{dead_exit, exact}
use Rattle.mirror_image.proofs.Calls.{first_same_exit, second_same_exit}
use Rattle.mirror_image.proofs.Using.{asks_none, asks_second, uses_first_lost, uses_first_ok, uses_none, uses_second_lost, uses_second_ok}
use Rattle.mirror_image.proofs.halves.Halves.read_line.Goals as goal

pub invariant_of-self : goal.invariant_of-self
invariant_of-self g c =
    let e = exact (dead_exit _ c.args.self.now.generation (g.A.Image.told c.args.self.now.a) (g.B.Image.told c.args.self.now.b) _ _ _ _ _ c.if-not-self.true c.args.self.now.sound c.args.self.now.safe c.saturating_add-self.ensures) in
    record { sound = e.sound; safe = e.safe }

pub returns-then-not-self-clause-call : goal.returns-then-not-self-clause-call
returns-then-not-self-clause-call g c = (exact (dead_exit _ c.args.self.now.generation (g.A.Image.told c.args.self.now.a) (g.B.Image.told c.args.self.now.b) _ _ _ _ _ c.if-not-self.true c.args.self.now.sound c.args.self.now.safe c.saturating_add-self.ensures)).call

pub invariant_of-self-then-is_ok : goal.invariant_of-self-then-is_ok
invariant_of-self-then-is_ok g c =
    let e = exact (first_same_exit _ c.args.self.now.generation (g.A.Image.told c.args.self.now.a) (g.B.Image.told c.args.self.now.b) (g.A.Image.told c.read_line.new.self) _ _ c.args.self.now.alive _ _ c.in-First.is c.if-not-self.false c.args.self.now.sound c.args.self.now.safe (g.met.A.Image.in_order c.args.self.now.a) c.read_line.ensures.size c.read_line.ensures.counted c.read_line.ensures.same) in
    record { sound = e.sound; safe = e.safe }

pub returns-then-is_ok-clause-call : goal.returns-then-is_ok-clause-call
returns-then-is_ok-clause-call g c = (exact (first_same_exit _ c.args.self.now.generation (g.A.Image.told c.args.self.now.a) (g.B.Image.told c.args.self.now.b) (g.A.Image.told c.read_line.new.self) _ _ c.args.self.now.alive _ _ c.in-First.is c.if-not-self.false c.args.self.now.sound c.args.self.now.safe (g.met.A.Image.in_order c.args.self.now.a) c.read_line.ensures.size c.read_line.ensures.counted c.read_line.ensures.same)).call

pub invariant_of-self-in-First : goal.invariant_of-self-in-First
invariant_of-self-in-First g c =
    let e = exact (first_same_exit _ c.args.self.now.generation (g.A.Image.told c.args.self.now.a) (g.B.Image.told c.args.self.now.b) (g.A.Image.told c.read_line.new.self) _ _ false _ _ c.in-First.is c.if-not-self.false c.args.self.now.sound c.args.self.now.safe (g.met.A.Image.in_order c.args.self.now.a) c.read_line.ensures.size c.read_line.ensures.counted c.read_line.ensures.same) in
    record { sound = e.sound; safe = e.safe }

pub returns-else-is_ok-clause-call : goal.returns-else-is_ok-clause-call
returns-else-is_ok-clause-call g c = (exact (first_same_exit _ c.args.self.now.generation (g.A.Image.told c.args.self.now.a) (g.B.Image.told c.args.self.now.b) (g.A.Image.told c.read_line.new.self) _ _ false _ _ c.in-First.is c.if-not-self.false c.args.self.now.sound c.args.self.now.safe (g.met.A.Image.in_order c.args.self.now.a) c.read_line.ensures.size c.read_line.ensures.counted c.read_line.ensures.same)).call

pub invariant_of-self-then-is_ok-2 : goal.invariant_of-self-then-is_ok-2
invariant_of-self-then-is_ok-2 g c =
    let e = exact (second_same_exit _ c.args.self.now.generation (g.A.Image.told c.args.self.now.a) (g.B.Image.told c.args.self.now.b) (g.B.Image.told c.read_line-in-Second.new.self) _ _ _ _ _ c.in-Second.is c.if-not-self.false c.args.self.now.sound c.args.self.now.safe (g.met.B.Image.in_order c.args.self.now.b) c.saturating_add-self-in-Second.ensures c.read_line-in-Second.ensures.size c.read_line-in-Second.ensures.counted c.args.self.now.alive c.read_line-in-Second.ensures.same) in
    record { sound = e.sound; safe = e.safe }

pub returns-then-is_ok-2-clause-call : goal.returns-then-is_ok-2-clause-call
returns-then-is_ok-2-clause-call g c = (exact (second_same_exit _ c.args.self.now.generation (g.A.Image.told c.args.self.now.a) (g.B.Image.told c.args.self.now.b) (g.B.Image.told c.read_line-in-Second.new.self) _ _ _ _ _ c.in-Second.is c.if-not-self.false c.args.self.now.sound c.args.self.now.safe (g.met.B.Image.in_order c.args.self.now.b) c.saturating_add-self-in-Second.ensures c.read_line-in-Second.ensures.size c.read_line-in-Second.ensures.counted c.args.self.now.alive c.read_line-in-Second.ensures.same)).call

pub invariant_of-self-in-Second : goal.invariant_of-self-in-Second
invariant_of-self-in-Second g c =
    let e = exact (second_same_exit _ c.args.self.now.generation (g.A.Image.told c.args.self.now.a) (g.B.Image.told c.args.self.now.b) (g.B.Image.told c.read_line-in-Second.new.self) _ _ _ _ _ c.in-Second.is c.if-not-self.false c.args.self.now.sound c.args.self.now.safe (g.met.B.Image.in_order c.args.self.now.b) c.saturating_add-self-in-Second.ensures c.read_line-in-Second.ensures.size c.read_line-in-Second.ensures.counted false c.read_line-in-Second.ensures.same) in
    record { sound = e.sound; safe = e.safe }

pub returns-else-is_ok-2-clause-call : goal.returns-else-is_ok-2-clause-call
returns-else-is_ok-2-clause-call g c = (exact (second_same_exit _ c.args.self.now.generation (g.A.Image.told c.args.self.now.a) (g.B.Image.told c.args.self.now.b) (g.B.Image.told c.read_line-in-Second.new.self) _ _ _ _ _ c.in-Second.is c.if-not-self.false c.args.self.now.sound c.args.self.now.safe (g.met.B.Image.in_order c.args.self.now.b) c.saturating_add-self-in-Second.ensures c.read_line-in-Second.ensures.size c.read_line-in-Second.ensures.counted false c.read_line-in-Second.ensures.same)).call

pub returns-in-Both-clause-call : goal.returns-in-Both-clause-call
returns-in-Both-clause-call g c = c.read_both.ensures.call

pub returns-in-Both-clause-words : goal.returns-in-Both-clause-words
returns-in-Both-clause-words g c = c.read_both.ensures.words

pub returns-then-is_ok-clause-words : goal.returns-then-is_ok-clause-words
returns-then-is_ok-clause-words g c =
    words_first _ (g.A.Image.told c.args.self.now.a) (g.B.Image.told c.args.self.now.b) _ c.args.line _ c.in-First.is c.requires
    (on_ok c.read_line.result (sym c.is_ok.ensures.value ∙ c.if-is_ok.true) c.read_line.ensures.words)

pub returns-then-is_ok-2-clause-words : goal.returns-then-is_ok-2-clause-words
returns-then-is_ok-2-clause-words g c =
    words_second _ (g.A.Image.told c.args.self.now.a) (g.B.Image.told c.args.self.now.b) _ _ _ _ c.args.line _ c.in-Second.is c.if-not-self.false
    c.args.self.now.sound c.requires
    (on_ok c.read_line-in-Second.result (sym c.is_ok-in-Second.ensures.value ∙ c.if-is_ok-2.true) c.read_line-in-Second.ensures.words)

pub returns-then-not-self-clause-uses : goal.returns-then-not-self-clause-uses
returns-then-not-self-clause-uses g c = uses_none c.args.self.now.left c.args.self.now.alive c.if-not-self.true

pub returns-then-is_ok-clause-uses : goal.returns-then-is_ok-clause-uses
returns-then-is_ok-clause-uses g c = uses_first_ok c.args.self.now.left c.args.self.now.alive c.in-First.is c.if-not-self.false (on_ok c.read_line.result (sym c.is_ok.ensures.value ∙ c.if-is_ok.true) c.read_line.ensures.cause.spared)

pub returns-else-is_ok-clause-uses : goal.returns-else-is_ok-clause-uses
returns-else-is_ok-clause-uses g c = uses_first_lost c.args.self.now.left c.args.self.now.alive c.in-First.is c.if-not-self.false (on_err c.read_line.result (sym c.is_ok.ensures.value ∙ c.if-is_ok.false) c.read_line.ensures.cause.failed)

pub returns-then-is_ok-2-clause-uses : goal.returns-then-is_ok-2-clause-uses
returns-then-is_ok-2-clause-uses g c = uses_second_ok c.args.self.now.left c.args.self.now.alive c.in-Second.is c.if-not-self.false (on_ok c.read_line-in-Second.result (sym c.is_ok-in-Second.ensures.value ∙ c.if-is_ok-2.true) c.read_line-in-Second.ensures.cause.spared)

pub returns-else-is_ok-2-clause-uses : goal.returns-else-is_ok-2-clause-uses
returns-else-is_ok-2-clause-uses g c = uses_second_lost c.args.self.now.left c.args.self.now.alive c.in-Second.is c.if-not-self.false (on_err c.read_line-in-Second.result (sym c.is_ok-in-Second.ensures.value ∙ c.if-is_ok-2.false) c.read_line-in-Second.ensures.cause.failed)

pub returns-in-Both-clause-uses : goal.returns-in-Both-clause-uses
returns-in-Both-clause-uses g c = c.read_both.ensures.uses

pub returns-then-is_ok-2-clause-asks : goal.returns-then-is_ok-2-clause-asks
returns-then-is_ok-2-clause-asks g c = asks_second c.args.self.now.left c.args.self.now.alive c.in-Second.is

pub returns-else-is_ok-2-clause-asks : goal.returns-else-is_ok-2-clause-asks
returns-else-is_ok-2-clause-asks g c = asks_none c.args.self.now.left
