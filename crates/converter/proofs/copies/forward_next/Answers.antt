use Rattle.std.proofs.Common.{◌≡◌, ◌*◌, ℕ, List, sym, ◌∙◌, ap, subst, arith}
use Rattle.std.specs.Prelude.{None}
use Rattle.ap_base.specs.declared.reference.Ref.TheVariants.{Persistent, Volatile}
use Rattle.run_types.specs.declared.key.Key.TheVariants.{Object}
use Rattle.monitors.specs.declared.monitor.Monitor.{Monitor}
use Rattle.monitors.specs.Held.{monitor_of}
use Rattle.monitors.specs.Indexed.{AreSound}
use Rattle.twin_forms.specs.Sights.{Twin}
use Rattle.convert_words.specs.Scenes.{Scene, IsKey, scene}
use Rattle.converter.specs.Stepping.{keys_of}
use Rattle.converter.proofs.Placed.{few_queued}
use Rattle.converter.proofs.Calling.{no_monitor, not_keyed, rekeyed_keys, sound_rekeyed}
use Rattle.converter.proofs.Doing.{to_forward, forward_is}
use Rattle.converter.proofs.copies.forward_next.Goals as goal

pub forward-requires : goal.forward-requires
forward-requires g c =
    let h = c.args.heap.now in
    let q = c.requires.agrees in
    let s : Scene = scene h.space h.memory h.marks c.args.queue.now q.0 (keys_of c.args.monitors.now) in
    record { forward = (q.1, q.4.n, q.3.lies, q.4.copying.is.claimed.0, to_forward s q.1 c.args.t c.args.object c.args.line q.4) }

pub rekey-requires : goal.rekey-requires
rekey-requires g c =
    let h = c.args.heap.now in
    let q = c.requires.agrees in let w = q.4 in
    let s : Scene = scene h.space h.memory h.marks c.args.queue.now q.0 (keys_of c.args.monitors.now) in
    record { free = no_monitor c.args.monitors.now c.args.line (λ x key same. not_keyed s q.1 w.n q.3 w.copying.is.claimed.0 w.copying.young x key (same ∙ ap (λ l. 2 * l) (sym w.copying.first))) }

pub overflow_add-n : goal.overflow_add-n
overflow_add-n g c =
    let h = c.args.heap.now in
    let q = c.requires.agrees in
    let s : Scene = scene h.space h.memory h.marks c.args.queue.now q.0 (keys_of c.args.monitors.now) in
    let few = few_queued s q.1 c.args.t q.3 q.2 in
    let lt = q.4.copying.is.within in
    let at = ap (λ (x : ℕ × ℕ). x.0) c.place-n.ensures.place in
    omega (arith, few, lt, at)

pub returns-clause-converts : goal.returns-clause-converts
returns-clause-converts g c = λ free es a w.
    let h = c.args.heap.now in
    let ms = c.args.monitors.now in
    let s : Scene = scene h.space h.memory h.marks c.args.queue.now free (keys_of ms) in
    let new : Twin = record { space = c.forward.new.self.space; memory = c.forward.new.self.memory; marks = c.forward.new.self.marks } in
    forward_is s new c.go_to.new.queue (keys_of c.rekey.new.self) es c.args.t c.args.object c.args.line c.place-n.result.0
    a w c.forward.ensures.forwarded c.forward.ensures.memory c.forward.ensures.marks c.forward.ensures.left
    (ap (λ (x : ℕ × ℕ). x.0) c.place-n.ensures.place) c.go_to.ensures.goes
    (λ x key. rekeyed_keys ms c.args.object c.args.line x c.requires.sound (subst (λ (y : List Monitor). IsKey (keys_of y) x) c.rekey.ensures.rekeyed key))

pub returns-clause-sound : goal.returns-clause-sound
returns-clause-sound g c =
    let h = c.args.heap.now in
    let ms = c.args.monitors.now in
    let q = c.requires.agrees in let w = q.4 in
    let s : Scene = scene h.space h.memory h.marks c.args.queue.now q.0 (keys_of ms) in
    let free : monitor_of ms (Object (Persistent c.args.line)) ≡ None = no_monitor ms c.args.line
    (λ x key same. not_keyed s q.1 w.n q.3 w.copying.is.claimed.0 w.copying.young x key
    (same ∙ ap (λ l. 2 * l) (sym w.copying.first))) in
    subst AreSound (sym c.rekey.ensures.rekeyed) (sound_rekeyed ms (Object (Volatile c.args.object)) c.args.line c.requires.sound free)
