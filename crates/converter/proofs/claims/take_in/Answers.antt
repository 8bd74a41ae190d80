use Rattle.std.proofs.Common.{◌≡◌, length, ◌∙◌, ap, arith, slice_set, length-set}
use Rattle.line_memory.specs.Memory.{Memory}
use Rattle.twin_forms.specs.Table.{entry}
use Rattle.twin_forms.specs.Moves.{owned, placed}
use Rattle.twin_forms.specs.Sights.{Marks, sight}
use Rattle.convert_words.specs.Scenes.{Scene, scene}
use Rattle.convert_words.proofs.Moves.{moved_on}
use Rattle.converter.proofs.Calling.{may_place, becomes_claimed}
use Rattle.converter.proofs.claims.take_in.Goals as goal

pub claim-requires : goal.claim-requires
claim-requires g c = let q = c.requires.takable in let k = q.3 in
    record { object = (q.1, q.2, k.agrees.lies, k.there, ((let o = k.ordinary in omega (arith, o)), k.at)) }

pub copy_at-requires : goal.copy_at-requires
copy_at-requires g c =
    let h = c.args.heap.now in
    let q = c.requires.takable in let k = q.3 in
    let s : Scene = scene h.space h.memory h.marks c.args.queue.now c.args.line q.0 in
    let o = k.ordinary in
    let e1 = owned c.args.t (entry q.1 q.2) in
    let m1 = c.claim.ensures.claimed q.1 q.2 k.agrees.lies k.there ((omega (arith, o), k.at), k.ordinary, k.nobody) in
    let v1 = sight c.claim.new.self.space c.claim.new.self.memory c.claim.new.self.marks in
    let lt = k.there in
    let long : length (slice_set q.1 q.2 e1) ≡ length q.1 = length-set q.1 q.2 e1 in
    record { place = (slice_set q.1 q.2 e1, q.2, m1.lies, omega (arith, lt, long), may_place s v1 q.1 c.args.t c.args.object q.2 k (ap (λ (m : Memory). m.size) c.claim.ensures.memory)) }

pub put-requires : goal.put-requires
put-requires g c = let q = c.requires.takable in let k = q.3 in
    record { room = (let few = k.agrees.few in let room = k.room in let long = k.agrees.sizes.marks in omega (arith, few, room, long)) }

pub returns-clause-claimed : goal.returns-clause-claimed
returns-clause-claimed g c = λ keys es m k.
    let h = c.args.heap.now in
    let s : Scene = scene h.space h.memory h.marks c.args.queue.now c.args.line keys in
    let o = k.ordinary in
    let e1 = owned c.args.t (entry es m) in
    let es1 = slice_set es m e1 in
    let m1 = c.claim.ensures.claimed es m k.agrees.lies k.there ((omega (arith, o), k.at), k.ordinary, k.nobody) in
    let v0 = sight h.space h.memory h.marks in
    let v1 = sight c.claim.new.self.space c.claim.new.self.memory c.claim.new.self.marks in
    let v2 = sight c.copy_at.new.self.space c.copy_at.new.self.memory c.copy_at.new.self.marks in
    let lt = k.there in
    let long : length es1 ≡ length es = length-set es m e1 in
    let es2 = slice_set es1 m (placed c.args.line (entry es1 m)) in
    let m2 = c.copy_at.ensures.placed es1 m m1.lies (omega (arith, lt, long)) (may_place s v1 es c.args.t c.args.object m k (ap (λ (x : Memory). x.size) c.claim.ensures.memory)) in
    (es2, becomes_claimed es c.args.t c.args.line m k.there, moved_on v0 v1 v2 es es1 es2 m1 m2)

pub returns-clause-kinds : goal.returns-clause-kinds
returns-clause-kinds g c = c.copy_at.ensures.kinds ∙ ap (λ (x : Marks). x.kinds) c.claim.ensures.marks

pub returns-clause-left : goal.returns-clause-left
returns-clause-left g c = c.copy_at.ensures.left ∙ c.claim.ensures.left

pub returns-clause-memory : goal.returns-clause-memory
returns-clause-memory g c = c.copy_at.ensures.memory ∙ c.claim.ensures.memory
