-- An answer to a reply that names what is there leaves frames that are in the world.
use Rattle.std.proofs.Common.{◌≡◌, ◌≢◌, ℕ, Bool, true, false, List, [], ◌∷◌, length, drop, Option, Some, None, refl, sym, subst}
use Rattle.std.proofs.Common.{if◌then◌else◌}
use Rattle.std.specs.Prelude.{All, IfSome}
use Rattle.std.proofs.lemmas.List.Elements.{All-nil, All-cons, All-head}
use Rattle.std.proofs.lemmas.List.Kept.{AllPairs-cons}
use Rattle.run_types.specs.declared.resolved.At.{At}
use Rattle.run_types.specs.declared.key.Key.{Key}
use Rattle.graph_model.specs.declared.types.Graph.{Graph}
use Rattle.graph_model.specs.declared.types.Value.{Value}
use Rattle.graph_model.specs.declared.types.Value.TheVariants as value
use Rattle.graph_model.specs.Heaps.{IsBelow}
use Rattle.natives.specs.declared.requests.Request.TheVariants as ask
use Rattle.natives.specs.declared.requests.Reply.TheVariants as reply
use Rattle.run_history.specs.Worlds.{World}
use Rattle.plain_model.specs.Facts.{SetFacts}
use Rattle.plain_model.specs.Requests.{PlainRequest, PlainReply}
use Rattle.plain_model.specs.Replies.{NamesBelow, IsReplyTo}
use Rattle.plain_model.specs.Duties.{IsClass, IsThrowable, IsReferenceIn}
use Rattle.frame_cells.specs.declared.cell.Cell.{Cell}
use Rattle.frame_cells.specs.declared.cell.Cell.TheVariants.{Int, Reference}
use Rattle.frame_cells.specs.declared.cell.Did.TheVariants.{Next, Jump}
use Rattle.frame_cells.specs.Own.{Own, After, reference_at}
use Rattle.frame_cells.specs.Families.{to}
use Rattle.frames.specs.declared.given.Given.{Given}
use Rattle.frames.specs.declared.given.Given.TheVariants as given
use Rattle.frames.specs.declared.op.Op.{Op}
use Rattle.frames.specs.declared.op.Op.TheVariants as op
use Rattle.frames.specs.declared.program.Class.{Class}
use Rattle.frames.specs.declared.program.Program.{Program}
use Rattle.frames.specs.declared.program.Selector.{Selector}
use Rattle.frames.specs.declared.program.Target.{Target}
use Rattle.frames.specs.declared.program.Target.TheVariants as target
use Rattle.frames.specs.Tables.{Caught, Passed, Goes, Fails, no_class, placed_at, method_at, class_at, selector_at, from_of}
use Rattle.frames.specs.Tables.{dispatched, program_class, first_initialised, caught_by}
use Rattle.frames.specs.Settings.{Frame, Running, Native, Initialiser, Main, Doing, Runs, BeginsMain, BeginsThread, Enters}
use Rattle.frames.specs.Settings.{Unwinds, Initialises, Initialised, Ends, Frames, Setting}
use Rattle.frames.specs.Calls.{Stepped, goes_on, asks_so, after, returns_to, calls, runs_method, initialises_first}
use Rattle.frames.specs.Calls.{begins_initialiser, initialises, resumes, leaves_method, caught, throws, result_of}
use Rattle.frames.specs.Requests.{taken_by}
use Rattle.frames.specs.Turns.{at_of, class_of, is_yes, is_so, gives_back, throws_top, calls_selected, replied}
use Rattle.frames.specs.Turns.{instruction_answered, native_answered, frame_answered, answered, settled, answer_of, answer_if}
use Rattle.frames.specs.Turns.{answer}
use Rattle.plain_frames.specs.Codes.{PlainNatives, plain_cells, plain_setting}
use Rattle.plain_frames.specs.Tables.{NamesWhatIsThere}
use Rattle.plain_frames.specs.Sound.{IsCellIn, IsOwnIn, IsGivenIn, IsNativeIn, IsHeldIn, IsBegun, IsFrameIn, IsInitialiser}
use Rattle.plain_frames.specs.Sound.{IsDoingIn, AreIn, KeepIn, initialised_by}
use Rattle.plain_frames.specs.DutyLaws.{IsFitIfAsked, IsTurnIn, IsAnswerIn}
use Rattle.plain_frames.proofs.Cells.{reference-in, put-in, one-in, long-in, nothing-put}
use Rattle.plain_frames.proofs.Frames as frames
use Rattle.plain_frames.proofs.Frames.{entry-in, IsResultIn, result-in}

module _ (set : SetFacts) (opening : Graph) {M N : Type 0} (p : Program M) (natives : PlainNatives M N)
    (method : ℕ) (is_in : ℕ → N → Bool)
    (tables : NamesWhatIsThere set p) (keeps : KeepIn set natives is_in) (world : World) (t : ℕ) where
  abbrev x : Setting M Value N Value
  x = plain_setting set opening p natives method

  abbrev InTurn : Stepped Value N Value → Type 0
  InTurn = IsTurnIn set is_in world t

  abbrev FramesIn : List (Frame Value N) → Type 0
  FramesIn = frames.FramesIn set opening p natives method is_in tables keeps world t

  running-in : (m at : ℕ) (own : Own Value) (held : Option (Key Value)) (below : List (Frame Value N)) →
      IsOwnIn world own → IsHeldIn set is_in world held → FramesIn below →
      FramesIn (Running m at own held ∷ below)
  running-in = frames.running-in set opening p natives method is_in tables keeps world t

  after-in : (m at : ℕ) (held : Option (Key Value)) (below : List (Frame Value N)) (a : After Value) →
      IsOwnIn world a.own → IsHeldIn set is_in world held → FramesIn below →
      InTurn (after x m at held below a)
  after-in = frames.after-in set opening p natives method is_in tables keeps world t

  calls-in : (n m at : ℕ) (own : Own Value) (held : Option (Key Value)) (below : List (Frame Value N)) →
      IsOwnIn world own → IsHeldIn set is_in world held → FramesIn below →
      InTurn (calls x n m at own held below)
  calls-in = frames.calls-in set opening p natives method is_in tables keeps world t

  returns_to-in : (value : Given Value) (fs : List (Frame Value N)) → IsGivenIn world value → FramesIn fs →
      InTurn (returns_to x value fs)
  returns_to-in = frames.returns_to-in set opening p natives method is_in tables keeps world t

  goes_on-in : (doing : Doing Value) (fs : List (Frame Value N)) → IsDoingIn set is_in world t doing fs →
      FramesIn fs → InTurn (goes_on doing fs)
  goes_on-in = frames.goes_on-in set opening p natives method is_in tables keeps world t

  asks_so-in : (request : PlainRequest) (fs : List (Frame Value N)) →
      IsFitIfAsked set world t (Some request) → FramesIn fs → InTurn (asks_so request fs)
  asks_so-in = frames.asks_so-in set opening p natives method is_in tables keeps world t

  tail-in : (frame : Frame Value N) (below : List (Frame Value N)) → FramesIn (frame ∷ below) →
      FramesIn below
  tail-in = frames.tail-in set opening p natives method is_in tables keeps world t

  none-in : FramesIn []
  none-in = frames.none-in set opening p natives method is_in tables keeps world t

  head-in : (frame : Frame Value N) (below : List (Frame Value N)) → FramesIn (frame ∷ below) →
      IsFrameIn set is_in world t frame
  head-in frame below in_frames = All-head (IsFrameIn set is_in world t) frame below in_frames.all

  -- ---- throwables

  leaves-in : (held : Option (Key Value)) (r : Value) (class m at : ℕ) (own : Own Value)
      (below : List (Frame Value N)) (further : Stepped Value N Value) →
      IsReferenceIn world r → IsThrowable set class → IsOwnIn world own → IsHeldIn set is_in world held →
      FramesIn below → InTurn further → InTurn (leaves_method x held r class m at own below further)
  leaves-in None r class m at own below further r_in throwable own_in held_in in_frames is = is
  leaves-in (Some monitor) r class m at own below further r_in throwable own_in held_in in_frames is =
      goes_on-in (Unwinds r class) _ (r_in, throwable)
      (running-in m at own (Some monitor) below own_in held_in in_frames)

  caught-in : (c : Caught) (r : Value) (class m at : ℕ) (own : Own Value) (held : Option (Key Value))
      (below : List (Frame Value N)) (further : Stepped Value N Value) →
      IsReferenceIn world r → IsThrowable set class → IsOwnIn world own → IsHeldIn set is_in world held →
      FramesIn below → InTurn further → InTurn (caught x c r class m at own held below further)
  caught-in Passed r class m at own held below further r_in throwable own_in held_in in_frames is =
      leaves-in held r class m at own below further r_in throwable own_in held_in in_frames is
  caught-in (Goes target) r class m at own held below further r_in throwable own_in held_in in_frames is =
      after-in m at held below _ (put-in world (length own.stack) (Reference r ∷
      []) (Jump target) own (one-in world (Reference r) r_in) own_in) held_in in_frames
  caught-in (Fails link) r class m at own held below further r_in throwable own_in held_in in_frames is =
      asks_so-in _ _ tt (running-in m at own held below own_in held_in in_frames)

  throws-in : (r : Value) (class : ℕ) (fs : List (Frame Value N)) → IsReferenceIn world r →
      IsThrowable set class → FramesIn fs → InTurn (throws x r class fs)
  throws-in r class [] r_in throwable in_frames = goes_on-in (Ends (Some class)) [] throwable none-in
  throws-in r class (Running m at own held ∷ below) r_in throwable in_frames =
      let head = head-in (Running m at own held) below in_frames in
      let rest = tail-in (Running m at own held) below in_frames in
      caught-in (caught_by p (method_at p m).handlers at class) r class m at own held below _ r_in throwable
      head.0 head.1 rest (throws-in r class below r_in throwable rest)
  throws-in r class (Native from state ∷ below) r_in throwable in_frames =
      throws-in r class below r_in throwable (tail-in (Native from state) below in_frames)
  throws-in r class (Initialiser c from ∷ below) r_in throwable in_frames = asks_so-in _ _ tt in_frames
  throws-in r class (Main m arguments ∷ below) r_in throwable in_frames =
      goes_on-in (Ends (Some class)) [] throwable none-in

  -- ---- initialisers

  runs_method-in : (c : Option ℕ) (fs : List (Frame Value N)) → IsInitialiser set is_in world t fs →
      FramesIn fs → InTurn (runs_method x c fs)
  runs_method-in None fs is in_frames = goes_on-in Initialised fs is in_frames
  runs_method-in (Some m) fs is in_frames =
      frames.begins-in set opening p natives method is_in tables keeps world t m [] [] fs fs _
      (All-nil (IsCellIn world)) (All-nil (IsGivenIn world)) in_frames in_frames
      (returns_to-in given.Nothing fs tt in_frames)

  abbrev IsClassIf : Option ℕ → Type 0
  IsClassIf None = Unit {0}
  IsClassIf (Some class) = IsClass set class

  program-if : (of_program : Bool) (super : ℕ) → IsClass set super →
      IsClassIf (if of_program then Some super else None)
  program-if true super is = is
  program-if false super is = tt

  program-in : (c : Option ℕ) → IfSome c (IsClass set) → IsClassIf (program_class p c)
  program-in None is = tt
  program-in (Some super) is = program-if (class_at p super).of_program super is

  first-in : (class : ℕ) → IsClassIf (first_initialised p class)
  first-in class = program-in (class_at p class).superclass
      (entry-in (λ (c : Class). IfSome c.superclass (IsClass set)) p.classes class no_class
      tables.superclasses tt)

  initialises_first-in : (c : Option ℕ) (class : ℕ) (fs : List (Frame Value N)) → IsClassIf c →
      IsInitialiser set is_in world t fs → FramesIn fs → InTurn (initialises_first x c class fs)
  initialises_first-in None class fs is_class is in_frames =
      runs_method-in (class_at p class).initialiser fs is in_frames
  initialises_first-in (Some super) class fs is_class is in_frames =
      goes_on-in (Initialises super) fs (is_class, is) in_frames

  begins_initialiser-in : (class : ℕ) (fs : List (Frame Value N)) → IsInitialiser set is_in world t fs →
      FramesIn fs → InTurn (begins_initialiser x class fs)
  begins_initialiser-in class fs is in_frames =
      initialises_first-in (first_initialised p class) class fs (first-in class) is in_frames

  initialises-in : (class : ℕ) (from : At) (fs : List (Frame Value N)) → IsBegun set is_in world t class →
      All (λ n. class ≢ n) (initialised_by fs) → FramesIn fs → InTurn (initialises x class from fs)
  initialises-in class from fs begun fresh in_frames =
      frames.if_room-in set opening p natives method is_in tables keeps world t 16 fs _ in_frames
      (begins_initialiser-in class (Initialiser class from ∷ fs) tt
      (record {
        all = All-cons (IsFrameIn set is_in world t) (Initialiser class from) fs begun
            in_frames.all;
        once = AllPairs-cons (λ m n. m ≢ n) class (initialised_by fs) fresh
            in_frames.once;
      }))

  resumes-in : (fs : List (Frame Value N)) → FramesIn fs → InTurn (resumes x fs)
  resumes-in [] in_frames = goes_on-in Runs [] tt in_frames
  resumes-in (Running m at own held ∷ below) in_frames = goes_on-in Runs _ tt in_frames
  resumes-in (Native from state ∷ below) in_frames = goes_on-in Runs _ tt in_frames
  resumes-in (Initialiser class from ∷ below) in_frames =
      begins_initialiser-in class (Initialiser class from ∷ below) tt in_frames
  resumes-in (Main m arguments ∷ below) in_frames =
      frames.begins_with-in set opening p natives method is_in tables keeps world t m arguments _ [] _
      (head-in (Main m arguments) below in_frames) in_frames none-in
      (returns_to-in given.Nothing [] tt none-in)

  -- ---- replies

  cells-in : (v : Value) → IsBelow (length world.heap.objects) v → All (IsCellIn world) (plain_cells v)
  cells-in (value.Int i) is = one-in world (Int i) tt
  cells-in (value.Long i) is = long-in world i
  cells-in value.Null is = one-in world (Reference value.Null) tt
  cells-in (value.Obj n) is = one-in world (Reference (value.Obj n)) is

  gives_back-in : (result : Option (Given Value)) (m at : ℕ) (own : Own Value) (held : Option (Key Value))
      (below : List (Frame Value N)) → IsResultIn world result → IsOwnIn world own →
      IsHeldIn set is_in world held → FramesIn below →
      InTurn (gives_back x result m at own held below)
  gives_back-in None m at own held below is own_in held_in in_frames =
      asks_so-in _ _ tt (running-in m at own held below own_in held_in in_frames)
  gives_back-in (Some value) m at own held below is own_in held_in in_frames =
      returns_to-in value below is in_frames

  throws_top-in : (r : Option Value) (class m at : ℕ) (own : Own Value) (held : Option (Key Value))
      (below : List (Frame Value N)) → ((s : Value) → r ≡ Some s → IsReferenceIn world s) →
      IsThrowable set class →
      IsOwnIn world own → IsHeldIn set is_in world held → FramesIn below →
      InTurn (throws_top x r class m at own held below)
  throws_top-in None class m at own held below r_in throwable own_in held_in in_frames =
      asks_so-in _ _ tt (running-in m at own held below own_in held_in in_frames)
  throws_top-in (Some r) class m at own held below r_in throwable own_in held_in in_frames =
      throws-in r class (Running m at own held ∷
      below) (r_in r refl) throwable (running-in m at own held below own_in held_in in_frames)

  selected-in : (found : Target) (s : Selector) (m at : ℕ) (own : Own Value) (held : Option (Key Value))
      (below : List (Frame Value N)) → IsOwnIn world own → IsHeldIn set is_in world held → FramesIn below →
      InTurn (calls_selected x found s m at own held below)
  selected-in (target.Method n) s m at own held below own_in held_in in_frames =
      calls-in n m at own held below own_in held_in in_frames
  selected-in (target.Fails kind) s m at own held below own_in held_in in_frames =
      asks_so-in _ _ tt (running-in m at own held below own_in held_in in_frames)

  replied-in : (o : Op) (m at : ℕ) (own : Own Value) (held : Option (Key Value))
      (below : List (Frame Value N)) (cells : List (Cell Value)) → All (IsCellIn world) cells →
      IsOwnIn world own → IsHeldIn set is_in world held → FramesIn below →
      InTurn (replied x o m at own held below cells)
  replied-in o m at own held below cells all own_in held_in in_frames =
      after-in m at held below _ (put-in world (taken_by x o) cells Next own all own_in) held_in in_frames

  -- what is known of a reply to an instruction, above these initialisers
  record Replies (o : Op) (begun : List ℕ) (r : PlainReply) : Type 0 where
    item : (v : Value) → r ≡ reply.Item v → IsBelow (length world.heap.objects) v
    made : (object : Value) → r ≡ reply.Made object → IsReferenceIn world object
    thrown : (object : Value) (class : ℕ) → r ≡ reply.Thrown object class →
        IsReferenceIn world object × IsThrowable set class
    begins : (class : ℕ) → r ≡ reply.Init class →
        IsBegun set is_in world t class × All (λ n. class ≢ n) begun
    athrow : o ≡ op.Throw → (class : ℕ) → r ≡ reply.Shape class → IsThrowable set class

  instruction-in : (o : Op) (m at : ℕ) (own : Own Value) (held : Option (Key Value))
      (below : List (Frame Value N)) (r : PlainReply) → IsOwnIn world own → IsHeldIn set is_in world held →
      FramesIn below →
      Replies o (initialised_by below) r → InTurn (instruction_answered x o m at own held below r)
  instruction-in o m at own held below (reply.Thrown r class) own_in held_in in_frames known =
      let (r_in, throwable) = known.thrown r class refl in
      throws-in r class _ r_in throwable (running-in m at own held below own_in held_in in_frames)
  instruction-in o m at own held below (reply.Init class) own_in held_in in_frames known =
      let (begun, fresh) = known.begins class refl in
      initialises-in class (from_of p m at) _ begun fresh
      (running-in m at own held below own_in held_in in_frames)
  instruction-in (op.InvokeStatic n) m at own held below r own_in held_in in_frames known =
      calls-in n m at own held below own_in held_in in_frames
  instruction-in (op.InvokeVirtual s) m at own held below (reply.Shape class) own_in held_in in_frames known
      =
      selected-in (dispatched p class (selector_at p s).signature) (selector_at p s) m at own held below
      own_in held_in in_frames
  instruction-in op.Throw m at own held below (reply.Shape class) own_in held_in in_frames known =
      throws_top-in (reference_at 0 own) class m at own held below
      (λ r e. reference-in world own.stack 0 r own_in.stack e) (known.athrow refl class refl) own_in
      held_in in_frames
  instruction-in op.Return m at own held below r own_in held_in in_frames known =
      gives_back-in (result_of None own) m at own held below (result-in world None own own_in) own_in
      held_in in_frames
  instruction-in (op.ReturnValue sort) m at own held below r own_in held_in in_frames known =
      gives_back-in (result_of (Some sort) own) m at own held below (result-in world (Some sort) own own_in)
      own_in held_in in_frames
  instruction-in (op.IfSame equality target) m at own held below (reply.Item v) own_in held_in in_frames
      known =
      after-in m at held below _ (nothing-put world 2 (to (is_so equality (is_yes (plain_cells v))) target)
      own own_in) held_in in_frames
  instruction-in o m at own held below (reply.Item v) own_in held_in in_frames known =
      replied-in o m at own held below (plain_cells v) (cells-in v (known.item v refl)) own_in held_in
      in_frames
  instruction-in o m at own held below (reply.Made r) own_in held_in in_frames known =
      replied-in o m at own held below (Reference r ∷
      []) (one-in world (Reference r) (known.made r refl)) own_in held_in in_frames
  instruction-in o m at own held below r own_in held_in in_frames known =
      replied-in o m at own held below [] (All-nil (IsCellIn world)) own_in held_in in_frames

  native-in : (from : At) (state : N) (below : List (Frame Value N)) (r : PlainReply) →
      IsNativeIn set is_in world state → FramesIn below →
      IsReplyTo set (natives.asks state) r → NamesBelow (length world.heap.objects) r →
      ((object : Value) (class : ℕ) → r ≡ reply.Thrown object class →
      IsReferenceIn world object × IsThrowable set class) → InTurn (native_answered x from state below r)
  native-in from state below (reply.Thrown r class) is in_frames replied there thrown =
      let (r_in, throwable) = thrown r class refl in throws-in r class below r_in throwable in_frames
  native-in from state below r is in_frames replied there thrown =
      frames.native_does-in set opening p natives method is_in tables keeps world t (natives.next state r)
      from below _ (keeps.answered world state r is replied there) in_frames
      (λ v v_in. returns_to-in v below v_in in_frames)

  drop-in : (fs : List (Frame Value N)) → FramesIn fs → FramesIn (drop 1 fs)
  drop-in [] in_frames = in_frames
  drop-in (frame ∷ below) in_frames = tail-in frame below in_frames

  module _ (fs : Frames Value N) (r : PlainReply) (is : AreIn set is_in world t fs)
      (known : IsAnswerIn set p natives world t fs r) (runs : fs.doing ≡ Runs)
      (goes : fs.paused ≡ false) where
    frame_answered-in : (list : List (Frame Value N)) → fs.frames ≡ list → FramesIn list →
        InTurn (frame_answered x list r)
    frame_answered-in [] e in_frames = goes_on-in Runs [] tt in_frames
    frame_answered-in (Running m at own held ∷ below) e in_frames =
        let head = head-in (Running m at own held) below in_frames in
        instruction-in (placed_at p at).op m at own held below r head.0 head.1
        (tail-in (Running m at own held) below in_frames)
        (record {
          item = known.item;
          made = known.made;
          thrown = known.thrown;
          begins = λ class q. subst (λ all. IsBegun set is_in world t class × All (λ n. class ≢ n)
              (initialised_by all)) e (known.begins class q);
          athrow = known.athrow runs goes m at own held below e;
        })
    frame_answered-in (Native from state ∷ below) e in_frames =
        let (replied, there) = known.native runs goes from state below e in
        native-in from state below r (head-in (Native from state) below in_frames)
        (tail-in (Native from state) below in_frames) replied there known.thrown
    frame_answered-in (Initialiser class from ∷ below) e in_frames = goes_on-in Runs _ tt in_frames
    frame_answered-in (Main m arguments ∷ below) e in_frames = goes_on-in Runs _ tt in_frames

  answered-in : (doing : Doing Value) (list : List (Frame Value N)) (r : PlainReply) →
      IsDoingIn set is_in world t doing list → FramesIn list →
      (doing ≡ Runs → InTurn (frame_answered x list r)) →
      ((object : Value) (class : ℕ) → r ≡ reply.Thrown object class →
      IsReferenceIn world object × IsThrowable set class) →
      ((class : ℕ) → r ≡ reply.Init class →
      IsBegun set is_in world t class × All (λ n. class ≢ n) (initialised_by list)) →
      InTurn (answered x doing list r)
  answered-in Runs list r is in_frames answered_is thrown begins = answered_is refl
  answered-in (BeginsMain class) list (reply.Init c) is in_frames answered_is thrown begins =
      let (begun, fresh) = begins c refl in initialises-in c x.main list begun fresh in_frames
  answered-in (BeginsMain class) list r is in_frames answered_is thrown begins = resumes-in list in_frames
  answered-in (BeginsThread thread) list (reply.Shape class) is in_frames answered_is thrown begins =
      frames.begins_found-in set opening p natives method is_in tables keeps world t
      (dispatched p class p.run) class thread list [] _ is in_frames none-in
      (goes_on-in (Ends None) [] tt none-in)
  answered-in (BeginsThread thread) list (reply.Thrown r class) is in_frames answered_is thrown begins =
      goes_on-in (Ends (Some class)) [] (thrown r class refl).1 none-in
  answered-in Enters list (reply.Thrown r class) is in_frames answered_is thrown begins =
      let (r_in, throwable) = thrown r class refl in throws-in r class (drop 1 list) r_in throwable
      (drop-in list in_frames)
  answered-in Enters list r is in_frames answered_is thrown begins = goes_on-in Runs list tt in_frames
  answered-in (Unwinds r class) list (reply.Thrown s other) is in_frames answered_is thrown begins =
      let (s_in, throwable) = thrown s other refl in throws-in s other (drop 1 list) s_in throwable
      (drop-in list in_frames)
  answered-in (Unwinds r class) list reply is in_frames answered_is thrown begins =
      throws-in r class (drop 1 list) is.0 is.1 (drop-in list in_frames)
  answered-in (Initialises super) list (reply.Init c) is in_frames answered_is thrown begins =
      let (begun, fresh) = begins c refl in initialises-in c (at_of x list) list begun fresh in_frames
  answered-in (Initialises super) list r is in_frames answered_is thrown begins =
      runs_method-in (class_at p (class_of x list)).initialiser list is.1 in_frames
  answered-in Initialised list r is in_frames answered_is thrown begins =
      resumes-in (drop 1 list) (drop-in list in_frames)
  answered-in doing list r is in_frames answered_is thrown begins = goes_on-in doing list is in_frames

  settled-in : (q : Option PlainRequest) (fs : Frames Value N) → IsFitIfAsked set world t q →
      AreIn set is_in world t fs → AreIn set is_in world t (settled x q fs)
  settled-in None fs fit is = is
  settled-in (Some (ask.Broken f)) fs fit is = record { doing = fit; frames = is.frames; once = is.once }
  settled-in (Some request) fs fit is = is

  answer_if-in : (paused : Bool) (fs : Frames Value N) (r : PlainReply) → fs.paused ≡ paused →
      AreIn set is_in world t fs → IsAnswerIn set p natives world t fs r →
      AreIn set is_in world t (answer_if x paused fs r)
  answer_if-in true fs r e is known = record { doing = is.doing; frames = is.frames; once = is.once }
  answer_if-in false fs r e is known =
      let list_in : FramesIn fs.frames = record { all = is.frames; once = is.once } in
      let stepped = answered-in fs.doing fs.frames r is.doing list_in
      (λ runs. frame_answered-in fs r is known runs e fs.frames refl list_in) known.thrown known.begins in
      settled-in (answered x fs.doing fs.frames r).asks (answered x fs.doing fs.frames r).frames stepped.fit
      stepped.frames

  pub answer-in : (fs : Frames Value N) (r : PlainReply) → AreIn set is_in world t fs →
      IsAnswerIn set p natives world t fs r → AreIn set is_in world t (answer x fs r)
  unfolding answer
  answer-in fs r is known = answer_if-in fs.paused fs r refl is known

  done-in : (list : List (Frame Value N)) (r : PlainReply) → FramesIn (drop 1 list) →
      AreIn set is_in world t (answer_of x (answered x Initialised list r))
  done-in list r in_frames =
      let stepped = resumes-in (drop 1 list) in_frames in
      settled-in (resumes x (drop 1 list)).asks (resumes x (drop 1 list)).frames stepped.fit stepped.frames

  pub initialised-in : (fs : Frames Value N) (r : PlainReply) → fs.doing ≡ Initialised → fs.paused ≡ false →
      AreIn set is_in world t (record fs { doing = Runs; frames = drop 1 fs.frames }) →
      AreIn set is_in world t (answer x fs r)
  unfolding answer
  initialised-in fs r initialised goes_on is =
      subst (λ paused. AreIn set is_in world t (answer_if x paused fs r)) (sym goes_on)
      (subst (λ doing. AreIn set is_in world t (answer_of x (answered x doing fs.frames r)))
      (sym initialised)
      (done-in fs.frames r (record { all = is.frames; once = is.once })))
