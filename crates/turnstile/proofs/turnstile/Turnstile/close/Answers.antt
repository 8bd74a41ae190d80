use Rattle.std.proofs.Common.{◌≡◌, ◌∙◌, ◌++◌, List, ◌∷◌, [], length, All, flat_map, sum_by, slice_get, arith, subst, sym, ap}
use Rattle.std.proofs.lemmas.List.Elements.{All-head}
use mathlib.Core.List.{IsPrefix}
use Rattle.turnstile.specs.declared.pass.Pass.{Pass}
use Rattle.turnstile.specs.declared.view.Hand.{Hand}
use Rattle.turnstile.specs.Entries.{entries_by}
use Rattle.turnstile.specs.Hands.{times, Agree}
use Rattle.turnstile.specs.Passes.{hands_of, number_of, entries_of, part_of, left_of, stock_of, IsIdle}
use Rattle.turnstile.proofs.Closing.{All-left, All-right, some_pass, all_length, all_times, all_entries, all_parts, all_before, all_stock}
use Rattle.turnstile.proofs.turnstile.Turnstile.close.Goals as goal

pub unreachable-requires : goal.unreachable-requires
unreachable-requires g c =
    let all = c.are_all.ensures.0 c.if-not-are_all.false in
    let none_left = c.in_default.ensures.cases.0 in
    some_pass c.args.passes.items c.args.self.passes all c.args.self.some (omega (arith, none_left, c.args.passes.ok.0))

pub take_in-requires-clause-of : goal.take_in-requires-clause-of
take_in-requires-clause-of g c κs within =
    let Q = Pass g.row.T.Denot g.row.T-Entry.Denot g.row.T-Part.Denot g.T.Kept in
    let last : Q = c.in-Some.field-0 in
    let others = c.pop.new.self.items in
    let all : c.args.passes.items ≡ others ++ last ∷ [] = c.in-Some.ensures.items in
    let of = subst (λ (l : List Q). All (λ (p : Q). p.seat.table_id ≡ c.args.self.table.shared.table_id) l) all c.requires.of in (
      All-head (λ (p : Q). p.seat.table_id ≡ c.args.self.table.shared.table_id) last [] (All-right (λ (p : Q). p.seat.table_id ≡ c.args.self.table.shared.table_id) others (last ∷ []) of),
      All-left (λ (p : Q). p.seat.table_id ≡ c.args.self.table.shared.table_id) others (last ∷ []) of,
    )

pub take_in-requires-clause-idle : goal.take_in-requires-clause-idle
take_in-requires-clause-idle g c κs within =
    let Q = Pass g.row.T.Denot g.row.T-Entry.Denot g.row.T-Part.Denot g.T.Kept in
    let last : Q = c.in-Some.field-0 in
    let others = c.pop.new.self.items in
    let all : c.args.passes.items ≡ others ++ last ∷ [] = c.in-Some.ensures.items in
    let idle = subst (λ (l : List Q). All (λ (p : Q). IsIdle p) l) all c.requires.idle in
    (All-head (λ (p : Q). IsIdle p) last [] (All-right (λ (p : Q). IsIdle p) others (last ∷ []) idle), All-left (λ (p : Q). IsIdle p) others (last ∷ []) idle)

pub open-requires-clause-idle : goal.open-requires-clause-idle
open-requires-clause-idle g c κs within =
    let Q = Pass g.row.T.Denot g.row.T-Entry.Denot g.row.T-Part.Denot g.T.Kept in
    let last : Q = c.in-Some.field-0 in
    let others = c.pop.new.self.items in
    let all : c.args.passes.items ≡ others ++ last ∷ [] = c.in-Some.ensures.items in
    let idle = subst (λ (l : List Q). All (λ (p : Q). IsIdle p) l) all c.requires.idle in
    ap (λ m. m.0.phase) c.take_in.ensures.hands ∙ All-head (λ (p : Q). IsIdle p) last [] (All-right (λ (p : Q). IsIdle p) others (last ∷ []) idle)

pub open-requires-clause-all : goal.open-requires-clause-all
open-requires-clause-all g c κs within =
    let Q = Pass g.row.T.Denot g.row.T-Entry.Denot g.row.T-Part.Denot g.T.Kept in
    let last : Q = c.in-Some.field-0 in
    let others = c.pop.new.self.items in
    let all : c.args.passes.items ≡ others ++ last ∷ [] = c.in-Some.ensures.items in
    let hands : c.take_in.new.seat.me.0.hands ≡ hands_of last ++ flat_map (λ p. hands_of p) others =
    ap (λ m. m.0.hands) c.take_in.ensures.hands in
    ap (λ hs. length hs) hands ∙ (all_length others last ∙ (ap (λ (l : List Q). sum_by (λ p. length (hands_of p)) l) (sym all) ∙ c.are_all.ensures.0 c.if-not-are_all.false))

pub returns-clause-entries : goal.returns-clause-entries
returns-clause-entries g c =
    let Q = Pass g.row.T.Denot g.row.T-Entry.Denot g.row.T-Part.Denot g.T.Kept in
    let last : Q = c.in-Some.field-0 in
    let others = c.pop.new.self.items in
    let all : c.args.passes.items ≡ others ++ last ∷ [] = c.in-Some.ensures.items in
    let hands : c.take_in.new.seat.me.0.hands ≡ hands_of last ++ flat_map (λ p. hands_of p) others =
    ap (λ m. m.0.hands) c.take_in.ensures.hands in
    let agree = subst (λ (hs : List (Hand g.row.T-Entry.Denot g.row.T-Part.Denot)). Agree g.T.Kept.worker hs (g.T.Kept.entries c.open.result)
    (g.T.Kept.parts c.open.result)) hands c.open.ensures.agree in
    subst (λ (l : List Q). All (λ (p : Q). entries_by g.T.Kept.worker (number_of p) (g.T.Kept.entries c.open.result) ≡ entries_of p) l) (sym all)
    (all_entries g.T.Kept.worker (g.T.Kept.entries c.open.result) (g.T.Kept.parts c.open.result) others last agree)

pub returns-clause-part : goal.returns-clause-part
returns-clause-part g c =
    let Q = Pass g.row.T.Denot g.row.T-Entry.Denot g.row.T-Part.Denot g.T.Kept in
    let last : Q = c.in-Some.field-0 in
    let others = c.pop.new.self.items in
    let all : c.args.passes.items ≡ others ++ last ∷ [] = c.in-Some.ensures.items in
    let hands : c.take_in.new.seat.me.0.hands ≡ hands_of last ++ flat_map (λ p. hands_of p) others =
    ap (λ m. m.0.hands) c.take_in.ensures.hands in
    let agree = subst (λ (hs : List (Hand g.row.T-Entry.Denot g.row.T-Part.Denot)). Agree g.T.Kept.worker hs (g.T.Kept.entries c.open.result)
    (g.T.Kept.parts c.open.result)) hands c.open.ensures.agree in
    subst (λ (l : List Q). All (λ (p : Q). slice_get (g.T.Kept.parts c.open.result) (number_of p) ≡ part_of p) l) (sym all)
    (all_parts g.T.Kept.worker (g.T.Kept.entries c.open.result) (g.T.Kept.parts c.open.result) others last agree)

pub returns-clause-before : goal.returns-clause-before
returns-clause-before g c =
    let Q = Pass g.row.T.Denot g.row.T-Entry.Denot g.row.T-Part.Denot g.T.Kept in
    let last : Q = c.in-Some.field-0 in
    let others = c.pop.new.self.items in
    let all : c.args.passes.items ≡ others ++ last ∷ [] = c.in-Some.ensures.items in
    let hands : c.take_in.new.seat.me.0.hands ≡ hands_of last ++ flat_map (λ p. hands_of p) others =
    ap (λ m. m.0.hands) c.take_in.ensures.hands in
    let agree = subst (λ (hs : List (Hand g.row.T-Entry.Denot g.row.T-Part.Denot)). Agree g.T.Kept.worker hs (g.T.Kept.entries c.open.result)
    (g.T.Kept.parts c.open.result)) hands c.open.ensures.agree in
    subst (λ (l : List Q). All (λ (p : Q). IsPrefix (left_of p) (g.T.Kept.entries c.open.result)) l) (sym all)
    (all_before g.T.Kept.worker (g.T.Kept.entries c.open.result) (g.T.Kept.parts c.open.result) others last agree)

pub returns-clause-stock : goal.returns-clause-stock
returns-clause-stock g c =
    let Q = Pass g.row.T.Denot g.row.T-Entry.Denot g.row.T-Part.Denot g.T.Kept in
    let last : Q = c.in-Some.field-0 in
    let others = c.pop.new.self.items in
    let all : c.args.passes.items ≡ others ++ last ∷ [] = c.in-Some.ensures.items in
    let hands : c.take_in.new.seat.me.0.hands ≡ hands_of last ++ flat_map (λ p. hands_of p) others =
    ap (λ m. m.0.hands) c.take_in.ensures.hands in
    let agree = subst (λ (hs : List (Hand g.row.T-Entry.Denot g.row.T-Part.Denot)). Agree g.T.Kept.worker hs (g.T.Kept.entries c.open.result)
    (g.T.Kept.parts c.open.result)) hands c.open.ensures.agree in
    subst (λ (l : List Q). All (λ (p : Q). Agree g.T.Kept.worker (stock_of p) (g.T.Kept.entries c.open.result) (g.T.Kept.parts c.open.result)) l) (sym all)
    (all_stock g.T.Kept.worker (g.T.Kept.entries c.open.result) (g.T.Kept.parts c.open.result) others last agree)

pub returns-clause-no_other : goal.returns-clause-no_other
returns-clause-no_other g c n none_there =
    let Q = Pass g.row.T.Denot g.row.T-Entry.Denot g.row.T-Part.Denot g.T.Kept in
    let last : Q = c.in-Some.field-0 in
    let others = c.pop.new.self.items in
    let all : c.args.passes.items ≡ others ++ last ∷ [] = c.in-Some.ensures.items in
    let hands : c.take_in.new.seat.me.0.hands ≡ hands_of last ++ flat_map (λ p. hands_of p) others =
    ap (λ m. m.0.hands) c.take_in.ensures.hands in
    let none_here = all_times n others last (ap (λ (l : List Q). times n (flat_map (λ p. hands_of p) l)) (sym all) ∙ none_there) in
    c.open.ensures.no_other n (ap (λ hs. times n hs) hands ∙ none_here)
