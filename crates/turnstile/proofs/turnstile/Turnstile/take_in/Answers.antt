use Rattle.std.proofs.Common.{◌≡◌, ◌∙◌, ◌++◌, List, ◌∷◌, length, All, flat_map, append_assoc, subst, sym, ap, arith}
use Rattle.std.proofs.lemmas.List.Elements.{All-head, All-tail}
use Rattle.std.specs.Vec.Iter.{into_iter_items}
use Rattle.turnstile.specs.declared.pass.Pass.{Pass}
use Rattle.turnstile.specs.Passes.{hands_of, IsIdle}
use Rattle.turnstile.proofs.Ends.{joins}
use Rattle.turnstile.proofs.Known.{slots_idle}
use Rattle.turnstile.proofs.turnstile.Turnstile.take_in.Goals as goal

pub join_seat-requires : goal.join_seat-requires
join_seat-requires g c =
    let Q = Pass g.row.T.Denot g.row.T-Entry.Denot g.row.T-Part.Denot g.T.Kept in
    let i = c.loop-pass.invariant in
    let pass : Q = c.in-Some.pass in
    let rest = into_iter_items c.next.new.self in
    let next : into_iter_items c.loop-pass.pass-iterator ≡ pass ∷ rest = c.in-Some.ensures.steps.0 in
    let words = c.args.self.now.two_words in
    let of = All-head (λ (p : Q). p.seat.table_id ≡ c.args.seat.now.table_id) pass rest (subst (λ (l : List Q). All (λ (p : Q). p.seat.table_id ≡ c.args.seat.now.table_id) l) next i.ours) in
    let idle = All-head (λ (p : Q). IsIdle p) pass rest (subst (λ (l : List Q). All (λ (p : Q). IsIdle p) l) next i.idle) in (
      i.of ∙ c.requires.of.0,
      of ∙ c.requires.of.0,
      pass.slots ∙ slots_idle pass.seat.me.0.phase idle,
      omega arith,
      joins g.T.Kept.worker g.T.Kept.entries g.T.Kept.parts _ _ _ _ _ (i.phase ∙ c.requires.idle.0) idle,
    )

pub loop-pass-preserved : goal.loop-pass-preserved
loop-pass-preserved g c =
    let Q = Pass g.row.T.Denot g.row.T-Entry.Denot g.row.T-Part.Denot g.T.Kept in
    let i = c.loop-pass.invariant in
    let pass : Q = c.in-Some.pass in
    let rest = into_iter_items c.next.new.self in
    let steps = c.in-Some.ensures.steps in
    let next : into_iter_items c.loop-pass.pass-iterator ≡ pass ∷ rest = steps.0 in
    let e = c.join_seat.ensures.2 in
    let had = c.loop-pass.seat.me.0.hands in
    record {
      of = c.join_seat.ensures.0 ∙ i.of;
      phase = ap (λ m. m.0.phase) e ∙ i.phase;
      ticket = ap (λ m. m.0.ticket) e ∙ i.ticket;
      slots = ap (λ m. m.1) e ∙ i.slots;
      hands = ap (λ m. m.0.hands ++ flat_map (λ p. hands_of p) rest) e ∙ (append_assoc had (hands_of pass) (flat_map (λ p. hands_of p) rest)
          ∙ (ap (λ (l : List Q). had ++ flat_map (λ p. hands_of p) l) (sym next) ∙ i.hands));
      ours = All-tail (λ (p : Q). p.seat.table_id ≡ c.args.seat.now.table_id) pass rest (subst (λ (l : List Q). All (λ (p : Q). p.seat.table_id ≡ c.args.seat.now.table_id) l) next i.ours);
      idle = All-tail (λ (p : Q). IsIdle p) pass rest (subst (λ (l : List Q). All (λ (p : Q). IsIdle p) l) next i.idle);
      count = (let s = steps.1 in let n = ap (λ (l : List Q). length l) next in let k = i.count in omega arith);
    }
