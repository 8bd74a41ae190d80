-- What contracts see of a mirror.
use Rattle.std.specs.Prelude.{◌-◌, ℕ, Result}
use Rattle.line_image.specs.Told.{Told}
use Rattle.line_image.specs.declared.image.Image.{Ghosts}
use Rattle.mirror_image.specs.declared.state.Mirror.{Mirror}
use Rattle.mirror_image.specs.Joint.{told_by}
use Rattle.mirror_image.specs.Leaving.{OfPaired, UsedLeave}
use Rattle.mirror_image.specs.Mirror.{told_of, faults_of, halves_of, is_closed, IsPairedAs, OfCall}
use Rattle.mirror_image.specs.Stops.{PairingShows, StopsShow, KeepsLeader}
use Rattle.mirror_image.specs.Using.{AsksFirst, CallsBoth, UsesBoth, UsesHalves}

module _ {A B : Type 0} {g : Ghosts A} {h : Ghosts B} where
  -- what it tells, as an image
  abbrev pub mirror_told : Mirror A B g h → Told
  mirror_told m = told_of (λ halves. told_by (g.told halves.a) (h.told halves.b) halves.left halves.less halves.extra) m.failures m.state

  -- how often it has failed
  abbrev pub mirror_faults : Mirror A B g h → ℕ
  mirror_faults m = faults_of (λ halves. halves.faults) m.failures m.state

  -- its halves
  abbrev pub mirror_halves : Mirror A B g h → A × B
  mirror_halves m = halves_of (λ halves. (halves.a, halves.b)) m.state

  abbrev pub IsClosed : Mirror A B g h → Type 0
  IsClosed m = is_closed m.state

  -- it is paired, and a stop within pairing left of these halves what shows what led
  abbrev pub KeepsWhatLed : A → B → Mirror A B g h → Type 0
  KeepsWhatLed a b m = IsPairedAs (λ halves. KeepsLeader ((g.told a).size - 1) (g.told a).trace (h.told b).trace (g.told halves.a).trace (h.told halves.b).trace) m.state

  -- where it is paired, pairing what a stop between calls leaves of its halves shows what such a stop may leave of it
  abbrev pub MirrorShows : Mirror A B g h → Type 0
  MirrorShows m = OfPaired (λ halves. PairingShows ((g.told halves.a).size - 1) (g.told halves.a).trace (h.told halves.b).trace
      (told_by (g.told halves.a) (h.told halves.b) halves.left halves.less halves.extra).trace) m.state

  -- where it is paired, of a half that is used nothing is left that isn't left of it
  abbrev pub UsedHalvesShow : Mirror A B g h → Type 0
  UsedHalvesShow m = OfPaired (λ halves. UsedLeave (g.told halves.a) (h.told halves.b) halves.left halves.alive halves.less halves.extra) m.state

  -- it stays paired, or closed; where it is paired, pairing what a stop within the call leaves of its halves shows what such a stop may leave of it
  abbrev pub MirrorStops : Mirror A B g h → Mirror A B g h → Type 0
  MirrorStops m n = OfCall (λ old new. StopsShow ((g.told old.a).size - 1) (g.told old.a).trace (h.told old.b).trace (g.told new.a).trace (h.told new.b).trace
      (told_by (g.told old.a) (h.told old.b) old.left old.less old.extra) (told_by (g.told new.a) (h.told new.b) new.left new.less new.extra)) m.state n.state

  -- it is paired, and both halves are used
  abbrev pub UsesItsHalves : Mirror A B g h → Type 0
  UsesItsHalves m = IsPairedAs (λ halves. UsesBoth halves.left halves.alive) m.state

  -- where it is paired, a call that comes to this uses its halves so; closed, they are the same as before
  abbrev pub MirrorUses : {T E : Type 0} → Result T E → Mirror A B g h → Mirror A B g h → Type 0
  MirrorUses result m n = OfCall (λ old new. UsesHalves old.left new.left old.alive new.alive (g.told old.a) (h.told old.b)
      (g.told new.a) (h.told new.b) (g.faults old.a) (h.faults old.b) (g.faults new.a) (h.faults new.b) result) m.state n.state

  -- where it is paired, a read that leaves the first half used asks that alone
  abbrev pub AsksFirstAlone : Mirror A B g h → Mirror A B g h → Type 0
  AsksFirstAlone m n = OfCall (λ old new. AsksFirst new.left new.alive (h.told old.b) (h.told new.b) (h.faults old.b) (h.faults new.b))
      m.state n.state

  -- where it is paired, a write or a fence that leaves both halves used calls each once
  abbrev pub CallsUsed : Mirror A B g h → Mirror A B g h → Type 0
  CallsUsed m n = OfCall (λ old new. CallsBoth new.left new.alive (g.told old.a) (h.told old.b) (g.told new.a) (h.told new.b))
      m.state n.state
