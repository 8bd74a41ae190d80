-- What a link fault of frames names: an entry of a class's pool, or a class alone.
use Rattle.std.specs.Prelude.{◌≡◌, ◌⊎◌, ℕ, List, ◌∷◌, Option, Some, None}
use Rattle.run_types.specs.declared.resolved.At.{At}
use Rattle.run_types.specs.declared.fault.LinkKind.{LinkKind}
use Rattle.run_types.specs.declared.fault.LinkKind.TheVariants.{InitFailed, NoCode}
use Rattle.run_types.specs.declared.fault.StepFault.{StepFault}
use Rattle.run_types.specs.declared.fault.StepFault.TheVariants as fault
use Rattle.natives.specs.declared.requests.Request.{Request}
use Rattle.natives.specs.declared.requests.Request.TheVariants as ask
use Rattle.natives.specs.declared.requests.Reply.{Reply}
use Rattle.run_history.specs.Worlds.{World}
use Rattle.plain_model.specs.Facts.{SetFacts}
use Rattle.plain_model.specs.Requests.{PlainRequest}
use Rattle.plain_model.specs.Steps.{IsOver, step}
use Rattle.frames.specs.declared.op.Op.TheVariants as op
use Rattle.frames.specs.declared.op.Link.{Link}
use Rattle.frames.specs.declared.program.Body.TheVariants as body
use Rattle.frames.specs.declared.program.Program.{Program}
use Rattle.frames.specs.declared.program.Target.{Target}
use Rattle.frames.specs.declared.program.Target.TheVariants as target
use Rattle.frames.specs.Tables.{Fails, placed_at, method_at, selector_at, dispatched, caught_by}
use Rattle.frames.specs.Settings.{Frame, Running, Native, Initialiser, Doing, Breaks, Frames, Setting}
use Rattle.frames.specs.Turns.{turn, answer}

module _ {M : Type 0} (p : Program M) where
  abbrev pub IsEmpty : Target → Type 0
  IsEmpty (target.Method m) = (method_at p m).body ≡ body.Empty
  IsEmpty (target.Fails kind) = ⊥

  -- the class has no method for a signature, or not so; or one without code, which gives nothing
  abbrev pub Lacks : (class signature : ℕ) → LinkKind → Type 0
  Lacks class signature kind =
      (dispatched p class signature ≡ target.Fails kind)
      ⊎ ((kind ≡ NoCode) × IsEmpty (dispatched p class signature))

  -- a class alone, whose objects lack `run` or `toString`: frames call these two without an entry
  pub record NamesCalled (kind : LinkKind) (class index : ℕ) : Type 0 where
    pub signature : ℕ
    pub is_called : (signature ≡ p.run) ⊎ (signature ≡ p.to_string)
    pub lacks : Lacks class signature kind
    pub no_index : index ≡ 0

-- The last of these frames is where the fault was met.
module _ {M : Type 0} (p : Program M) {R N : Type 0} where
  -- It is of this method, and its instruction, or an exception entry that was tried for it, names what can't be used.
  abbrev pub IsLinkOf : List (Frame R N) → (method : ℕ) → Link → Type 0
  IsLinkOf (Running m at own held ∷ below) method link =
      (method ≡ m)
      × (((placed_at p at).op ≡ op.Unlinked link)
      ⊎ ((thrown : ℕ) × (caught_by p (method_at p m).handlers at thrown ≡ Fails link)))
  IsLinkOf frames method link = ⊥

  -- an entry that the method's class names and that can't be resolved or used so
  pub record NamesLink (frames : List (Frame R N)) (kind : LinkKind) (class index : ℕ) : Type 0 where
    pub method : ℕ
    pub link : Link
    pub of_method : IsLinkOf frames method link
    pub kind_is : kind ≡ link.kind
    pub class_is : class ≡ (method_at p method).class
    pub index_is : index ≡ link.index

  -- its instruction is the virtual call by this entry
  abbrev pub IsCallBy : List (Frame R N) → (selector : ℕ) → Type 0
  IsCallBy (Running m at own held ∷ below) selector = (placed_at p at).op ≡ op.InvokeVirtual selector
  IsCallBy frames selector = ⊥

  -- the entry of a virtual call, for whose signature the receiver's class has no method, or not so
  pub record NamesSelector (frames : List (Frame R N)) (kind : LinkKind) (class index : ℕ) : Type 0 where
    pub selector : ℕ
    pub receiver : ℕ
    pub of_call : IsCallBy frames selector
    pub fails : dispatched p receiver (selector_at p selector).signature ≡ target.Fails kind
    pub class_is : class ≡ (selector_at p selector).class
    pub index_is : index ≡ (selector_at p selector).index

  -- a class alone: the last frame is its initialiser's, which a throwable left
  abbrev pub NamesInitialised : List (Frame R N) → LinkKind → (class index : ℕ) → Type 0
  NamesInitialised (Initialiser initialised from ∷ below) kind class index =
      (kind ≡ InitFailed) × (class ≡ initialised) × (index ≡ 0)
  NamesInitialised frames kind class index = ⊥

  abbrev pub IsNamed : List (Frame R N) → LinkKind → (class index : ℕ) → Type 0
  IsNamed frames kind class index =
      NamesLink frames kind class index ⊎ NamesSelector frames kind class index ⊎ NamesCalled p kind class index
      ⊎ NamesInitialised frames kind class index

  abbrev pub IsNamedFault : List (Frame R N) → StepFault → Type 0
  IsNamedFault frames (fault.LinkFault kind class index) = IsNamed frames kind class index
  IsNamedFault frames other = Unit {0}

module _ {M R N V : Type 0} (x : Setting M R N V) where
  abbrev pub AsksNamed : List (Frame R N) → Option (Request R V) → Type 0
  AsksNamed frames None = Unit {0}
  AsksNamed frames (Some (ask.Broken f)) = IsNamedFault x.program frames f
  AsksNamed frames (Some request) = Unit {0}

  abbrev pub BreaksNamed : Doing R → List (Frame R N) → Type 0
  BreaksNamed (Breaks f) frames = IsNamedFault x.program frames f
  BreaksNamed doing frames = Unit {0}

-- Where native methods ask for no other fault, each link fault that a turn asks, or to which an answer leads,
-- names an entry that can't be used, of the last frame's instruction or of an exception entry for it, or a class
-- alone: one that lacks `run` or `toString`, or whose initialiser, the last frame, a throwable left.
abbrev pub LinkFaultsAreNamed : (M R N V : Type 0) → Type 0
LinkFaultsAreNamed M R N V = (x : Setting M R N V)
    → ((from : At) (state : N) (below : List (Frame R N)) → AsksNamed x (Native from state ∷ below) (Some (x.asks state)))
    → (fs : Frames R N) → BreaksNamed x fs.doing fs.frames
    → AsksNamed x (turn x fs).frames.frames (turn x fs).asks
    × BreaksNamed x (turn x fs).frames.doing (turn x fs).frames.frames
    × ((r : Reply R V) → BreaksNamed x (answer x fs r).doing (answer x fs r).frames)

-- A plain step tells no link fault but the one that its turn asks.
abbrev pub StepsTellWhatIsAsked : Type 0
StepsTellWhatIsAsked = (set : SetFacts) (world : World) (t taken : ℕ) (request : PlainRequest)
    (kind : LinkKind) (class index : ℕ)
    → step set world t taken request ≡ IsOver (fault.LinkFault kind class index)
    → request ≡ ask.Broken (fault.LinkFault kind class index)
