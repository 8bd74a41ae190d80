-- What is recovered of what a stop of a run left.
use Rattle.std.proofs.Common.{◌≡◌, ◌⊎◌, inl, inr, ⊎_elim, ℕ, ◌+◌, ◌-◌, ◌^◌, ◌<◌, ◌≤◌, List, [], ◌∷◌, ◌++◌, Option, Some, Result, Ok, Err}
use Rattle.std.proofs.Common.{refl, sym, ap, ◌∙◌, subst, arith, length, take, slice_index, get_or}
use Rattle.std.specs.Prelude.{◌≢◌, IfOk, IfErr}
use Rattle.std.proofs.lemmas.List.{append-nil}
use Rattle.ap_base.specs.Sinks.{TakesBehind, with_bytes}
use Rattle.ap_base.specs.declared.source.NamedBytes.{NamedBytes}
use Rattle.graph_model.specs.declared.types.Graph.{Graph}
use Rattle.line_image.specs.Crash.{first_word}
use Rattle.line_image.specs.Memory.{told_of, trace_of}
use Rattle.line_image.specs.Told.{Told}
use Rattle.line_image.specs.declared.effect.Effect.{Effect}
use Rattle.line_image.specs.declared.memory.MemoryImage.{MemoryImage}
use Rattle.line_image.specs.Trace.{IsAllFenced, LeavesNow, LeftWithin, Outcome, newest, versions_from}
use Rattle.line_memory.specs.Memory.{IsTelling, Memory, shown}
use Rattle.image_meaning.specs.Appending.{with_all_too}
use Rattle.image_meaning.specs.Checks.{Words}
use Rattle.image_meaning.specs.Meaning.{StandsFor, meaning}
use Rattle.image_opening.specs.Attached.{IsAttached}
use Rattle.image_opening.specs.Unopened.{IsBadThere}
use Rattle.image_opening.specs.declared.not_opened.NotOpened.{NotOpened}
use Rattle.image_opening.specs.declared.not_opened.NotOpened.TheVariants.{BadImage, ImageFailed, OutOfMemory}
use Rattle.run_history.specs.Kept.{IsAllowedFrom, acts_before}
use Rattle.run_history.specs.Recorded.{Recorded}
use Rattle.plain_model.specs.First.{first_known}
use Rattle.plain_model.specs.Runs.{output_of}
use Rattle.command_words.specs.declared.command.Command.{Command}
use Rattle.command_words.specs.declared.command.Run.{Run as RunWords}
use Rattle.autopersist.specs.Asked.{of_top}
use Rattle.autopersist.specs.Meets.{Does, IsIdle, Meets}
use Rattle.autopersist.specs.Outside.{Outside}
use Rattle.autopersist.specs.Passed as top
use Rattle.autopersist.specs.Passed.{AreRead, Choice, ComesTo, IsFencedFor, OfChoice, RunsAs, StandsAllowed, StandsAsBefore, StandsRightly, StandsStill}
use Rattle.autopersist.specs.Passed.{EndsOver, IsCauseOf, StandsWithNew, Status, StoppedRunsOpenAgain, facts_of, lacking, over}
use Rattle.autopersist.specs.Runs.{RunsClass}
use Rattle.autopersist.proofs.Passed.{come_so, fenced_as_read, not_both, one_read, same_graph, shape_keeps, stands_alike}
use Rattle.reopened_runs.specs.Left.{AreAsked, AsksRun, IsNoBadImage, IsSomeLeft, KeepsRefused, RecoversAllowed, RecoversAsBefore, Recovers}

-- ---- words that reads give

module _ (start : Told) (telling : IsTelling start.trace) where
  -- what a stop leaves of an image with nothing unfenced is what reads give
  pub fenced_stands : IsAllFenced start.trace → (prior : Graph) → IsSomeLeft start prior → (c : Outcome) → LeavesNow start.trace c
      → StandsFor start.size c prior
  fenced_stands fenced prior (words, read, stands) c left =
      stands_alike start.size words c prior stands (λ l w below.
      fenced_as_read start.trace telling fenced c left l w (words l w) (read l w below))

  -- reads give one graph
  pub read_stands : (prior : Graph) → IsSomeLeft start prior → (words : Words) → AreRead start words → StandsFor start.size words prior
  read_stands prior (seen, read, stands) words other =
      stands_alike start.size seen words prior stands (λ l w below.
      one_read start.trace telling l w (seen l w) (words l w) (read l w below) (other l w below))

-- ---- an image that a stop left

-- it gives the words that it was made of
pub fresh_reads : (image : MemoryImage) → (trace_of image).done ≡ [] → AreRead (told_of image) (first_word (trace_of image))
fresh_reads image none l w below =
    ap (λ (done : List Effect). slice_index (newest (versions_from (get_or (trace_of image).first l []) done l)) w) (sym none)

-- once it was attached, what its memory stands for is what these words do
pub left_stands : (start : Told) → IsTelling start.trace → (words : Words) → AreRead start words → (before : Memory)
    → IsAttached start before → (graph : Graph) → StandsFor before.size (shown before) graph → StandsFor start.size words graph
left_stands start telling words read before at graph stands = stands_alike start.size (shown before) words graph
    (subst (λ n. StandsFor n (shown before) graph) at.size stands) (λ l w below.
    one_read start.trace telling l w (shown before l w) (words l w) (at.shows l w below) (read l w below))

module _ (start : Told) (telling : IsTelling start.trace) (words : Words) (read : AreRead start words) (graph : Graph)
    (stands : StandsFor start.size words graph) where
  pub attached_stands : (before : Memory) → IsAttached start before → StandsFor before.size (shown before) graph
  attached_stands before at =
      subst (λ n. StandsFor n (shown before) graph) (sym at.size)
      (stands_alike start.size words (shown before) graph stands (λ l w below.
      one_read start.trace telling l w (words l w) (shown before l w) (read l w below) (at.shows l w below)))

  pub not_bad : (why : NotOpened) → IsBadThere start why → IsNoBadImage why
  not_bad (BadImage line reason) bad =
      not_both (meaning start.size bad.words) graph (line, reason)
      (stands_alike start.size words bad.words graph stands (λ l w below.
      one_read start.trace telling l w (words l w) (bad.words l w) (read l w below) (bad.read l w below)))
      bad.fails
  not_bad ImageFailed bad = tt
  not_bad OutOfMemory bad = tt

-- what is found has what that graph has
if_found : (r : Result Graph NotOpened) (graph : Graph) (P : Graph → Type 0) → IfOk r (λ found. found ≡ graph) → P graph → IfOk r P
if_found (Ok found) graph P is has = subst P (sym is) has
if_found (Err why) graph P is has = tt

pub none_or_some : (acts : List Recorded) → (acts ≡ []) ⊎ (acts ≢ [])
none_or_some [] = inl refl
none_or_some (a ∷ acts) = inr (λ none. cc)

abbrev some_bytes : List ℕ → Option (List ℕ)
some_bytes bytes = Some bytes

pub same_bytes : (a b : List ℕ) → some_bytes a ≡ some_bytes b → a ≡ b
same_bytes a b is = cc

-- there was no memory for what the stop left
pub recovers_nothing : (words : List (List ℕ)) (files : List NamedBytes) (start : Told) (opening : Graph) (all acts : List Recorded)
    → Recovers words files start opening all acts (Err OutOfMemory)
recovers_nothing words files start opening all acts = record {
  allowed = λ run asked some. tt;
  as_before = λ run asked empty prior stood. tt;
  opens = λ run asked stood. tt;
}

-- ---- a run that the words ask for

module _ (words : List (List ℕ)) (before after : Outside) (SameSource SameImage : Type 0) (how : Status) (opening : Graph)
    (all : List Recorded) (meets : Meets words before after SameSource SameImage how opening all) where
  abbrev Idle : Type 0
  Idle = (how ≡ top.OutOfMemory) × IsIdle before after SameSource SameImage all

  module _ (run : RunWords) (asked : AsksRun words run) where
    pub done : RunsClass run before after SameImage how opening all ⊎ Idle
    done = subst (λ (o : Option Command). Does (of_top o) before after SameSource SameImage how opening all ⊎ Idle) asked meets.does

    abbrev pub Ran : Type 0
    Ran = OfChoice (ComesTo run.main before.left) (RunsAs run.limits (over before.image before.takes opening all after.image) how)

    -- it ran over the image, or the image is as it was and there are no acts
    pub ran_or_same : Ran ⊎ (SameImage × (all ≡ []))
    ran_or_same = ⊎_elim
        (λ runs. ⊎_elim (λ same. inr same) (λ of. inl of) runs.runs.theorem)
        (λ idle. inr (idle.1.unopened, idle.1.unrun))
        done

    pub ran : all ≢ [] → Ran
    ran some = ⊎_elim (λ of. of) (λ same. absurd (some same.1)) ran_or_same

    -- the sink took the output of the acts behind what it had
    pub printed_so : (taken taken' : List ℕ) → before.taken ≡ Some taken → after.taken ≡ Some taken' → taken' ≡ taken ++ output_of all
    printed_so taken taken' was is = ⊎_elim
        (λ runs. same_bytes taken' (taken ++ output_of all)
        (sym is ∙ runs.runs.printed ∙ ap (λ (bytes : Option (List ℕ)). with_bytes bytes (output_of all)) was))
        (λ idle.
        same_bytes taken' taken (sym is ∙ idle.1.nothing ∙ was)
        ∙ sym (append-nil taken)
        ∙ ap (λ (made : List Recorded). taken ++ output_of made) (sym idle.1.unrun))
        done

    -- the sink takes behind the output what it would have taken before
    pub leaves_so : TakesBehind before.takes after.takes (length (output_of all))
    leaves_so = ⊎_elim
        (λ runs. runs.runs.leaves)
        (λ idle.
        subst (λ (acts : List Recorded). TakesBehind before.takes after.takes (length (output_of acts))) (sym idle.1.unrun)
        (λ more size. let same : more ≡ 0 + more = omega arith in
        ap (λ (takes : ℕ → ℕ → Option ℕ). takes more size) idle.1.takes ∙ ap (λ (n : ℕ). before.takes n size) same))
        done

    pub given : (files : List NamedBytes) → before.left ≡ Some files → (choice : Choice) → ComesTo run.main before.left (Ok choice)
        → AreAsked run files (Ok choice)
    given files told choice comes = come_so run.main before.left files told (Ok choice) comes

  -- ---- behind these of its acts

  module _ (files : List NamedBytes) (told : before.left ≡ Some files) (acts : List Recorded) (none : all ≡ [] → acts ≡ []) (c : Outcome)
    where
      abbrev Rightly : Choice → Type 0
      Rightly choice = (seen : Words) × AreRead before.image seen × StandsRightly choice.set before.image opening all acts seen c

      module _ (run : RunWords) (asked : AsksRun words run) where
        -- what a stop left stands for a graph that the acts allow
        pub allowed_graph : (of : Ran run asked) → StandsAllowed of.choice.set before.image opening all acts c → (graph : Graph)
            → StandsFor before.image.size c graph → RecoversAllowed (AreAsked run files) before.image opening all acts graph
        allowed_graph of allowed graph stands = record {
          choice = of.choice;
          given = given run asked files told of.choice of.given;
          holds = record {
            first = allowed.graph;
            of = allowed.of;
            from = allowed.from;
            allowed = subst (λ (g : Graph). IsAllowedFrom (first_known (facts_of allowed.of.numbered) allowed.graph) acts g)
                (same_graph (meaning before.image.size c) allowed.allowed.graph graph allowed.allowed.stands stands)
                allowed.allowed.allowed;
          };
        }

        -- behind an act
        module _ (some : acts ≢ []) (rightly : (of : Ran run asked) → Rightly of.choice) where
          behind : Ran run asked
          behind = ran run asked (λ empty. some (none empty))

          allowed_there : StandsAllowed behind.choice.set before.image opening all acts c
          allowed_there = ⊎_elim
              (λ (so : StandsAllowed behind.choice.set before.image opening all acts c). so)
              (λ early. absurd (some early.0))
              (rightly behind).2

          pub allowed_stands : (graph : Graph) × StandsFor before.image.size c graph
          allowed_stands = (allowed_there.allowed.graph, allowed_there.allowed.stands)

          pub allowed : (graph : Graph) → StandsFor before.image.size c graph
              → RecoversAllowed (AreAsked run files) before.image opening all acts graph
          allowed graph stands = allowed_graph behind allowed_there graph stands

        -- before any
        module _ (telling : IsTelling before.image.trace) (rightly : (of : Ran run asked) → Rightly of.choice) (prior : Graph)
            (stood : IsSomeLeft before.image prior) (unchanged : SameImage → all ≡ [] → StandsFor before.image.size c prior) where
          abbrev New : Graph → Type 0
          New graph = RecoversAsBefore (AreAsked run files) before.image prior graph

          of_new : (of : Ran run asked) (seen : Words) → AreRead before.image seen
              → StandsAsBefore of.choice.set before.image.size seen c → (graph : Graph) → StandsFor before.image.size c graph → New graph
          of_new of seen read as_before graph stands = ⊎_elim
              (λ (still : StandsStill before.image.size seen prior c).
              inl (same_graph (meaning before.image.size c) graph prior stands still.stands))
              (λ (new : StandsWithNew of.choice.set before.image.size seen prior c). inr (record {
                choice = of.choice;
                given = given run asked files told of.choice of.given;
                holds = record {
                  words = seen;
                  read = read;
                  found = new.found;
                  found_is = new.found_is;
                  entries = new.entries;
                  are_its = new.are_its;
                  count = new.first.count;
                  few = new.first.few;
                  is = same_graph (meaning before.image.size c) graph
                      (with_all_too prior (take new.first.count (lacking new.found new.entries))) stands new.first.stands;
                };
              }))
              (as_before prior (read_stands before.image telling prior stood seen read))

          pub as_before : acts ≡ [] → (graph : Graph) → StandsFor before.image.size c graph
              → New graph ⊎ RecoversAllowed (AreAsked run files) before.image opening all [] graph
          as_before empty graph stands = ⊎_elim
              (λ (of : Ran run asked).
              let is = rightly of in
              ⊎_elim
              (λ (so : StandsAllowed of.choice.set before.image opening all acts c). inr
              (subst (λ (made : List Recorded). RecoversAllowed (AreAsked run files) before.image opening all made graph) empty
              (allowed_graph of so graph stands)))
              (λ early. inl (of_new of is.0 is.1 early.1 graph stands))
              is.2)
              (λ unrun. inl (inl (same_graph (meaning before.image.size c) graph prior stands (unchanged unrun.0 unrun.1))))
              (ran_or_same run asked)

          pub stands_still : (graph : Graph) × StandsFor before.image.size c graph
          stands_still = ⊎_elim
              (λ (of : Ran run asked).
              let is = rightly of in
              ⊎_elim
              (λ (so : StandsAllowed of.choice.set before.image opening all acts c). (so.allowed.graph, so.allowed.stands))
              (λ early. ⊎_elim
              (λ (still : StandsStill before.image.size is.0 prior c). (prior, still.stands))
              (λ (new : StandsWithNew of.choice.set before.image.size is.0 prior c). (_, new.first.stands))
              (early.1 prior (read_stands before.image telling prior stood is.0 is.1)))
              is.2)
              (λ unrun. (prior, unchanged unrun.0 unrun.1))
              (ran_or_same run asked)

      -- what is found of it
      module _ (telling : IsTelling before.image.trace) (found : Result Graph NotOpened)
          (gives : (graph : Graph) → StandsFor before.image.size c graph → IfOk found (λ it. it ≡ graph))
          (refused : (graph : Graph) → StandsFor before.image.size c graph → IfErr found IsNoBadImage)
          (rightly : (run : RunWords) (asked : AsksRun words run) → (of : Ran run asked) → Rightly of.choice)
          (unchanged : SameImage → all ≡ [] → (prior : Graph) → IsSomeLeft before.image prior → StandsFor before.image.size c prior) where
        still : (run : RunWords) → AsksRun words run → (prior : Graph) → IsSomeLeft before.image prior
            → (graph : Graph) × StandsFor before.image.size c graph
        still run asked prior stood =
            stands_still run asked telling (rightly run asked) prior stood (λ it made. unchanged it made prior stood)

        pub recovers : Recovers words files before.image opening all acts found
        recovers = record {
          allowed = λ run asked some.
              let is = allowed_stands run asked some (rightly run asked) in
              if_found found is.0 (RecoversAllowed (AreAsked run files) before.image opening all acts) (gives is.0 is.1)
              (allowed run asked some (rightly run asked) is.0 is.1);
          as_before = λ run asked empty prior stood.
              let is = still run asked prior stood in
              if_found found is.0
              (λ (graph : Graph). RecoversAsBefore (AreAsked run files) before.image prior graph
              ⊎ RecoversAllowed (AreAsked run files) before.image opening all [] graph)
              (gives is.0 is.1)
              (as_before run asked telling (rightly run asked) prior stood (λ it made. unchanged it made prior stood) empty is.0 is.1);
          opens = λ run asked stood. ⊎_elim
              (λ (empty : acts ≡ []).
              let was = stood empty in
              let is = still run asked was.0 was.1 in
              refused is.0 is.1)
              (λ (some : acts ≢ []).
              let is = allowed_stands run asked some (rightly run asked) in
              refused is.0 is.1)
              (none_or_some acts);
        }

  -- ---- behind the last call, and within any

  module _ (files : List NamedBytes) (told : before.left ≡ Some files) (telling : IsTelling before.image.trace)
      (same : SameImage → after.image ≡ before.image) (c : Outcome) (found : Result Graph NotOpened)
      (gives : (graph : Graph) → StandsFor before.image.size c graph → IfOk found (λ it. it ≡ graph))
      (refused : (graph : Graph) → StandsFor before.image.size c graph → IfErr found IsNoBadImage) where
    pub recovers_now : LeavesNow after.image.trace c
        → ((all ≡ []) × (after.image.trace ≡ before.image.trace) → IsAllFenced before.image.trace)
        → Recovers words files before.image opening all all found
    recovers_now left fenced =
        recovers files told all (λ empty. empty) c telling found gives refused
        (λ run asked of.
        let stops = of.holds.stops telling in (stops.words, stops.read, stops.now fenced c left))
        (λ it made prior stood.
        fenced_stands before.image telling (fenced (made, ap (λ (t : Told). t.trace) (same it))) prior stood c
        (subst (λ (t : Told). LeavesNow t.trace c) (same it) left))

    none_of : (n : ℕ) → all ≡ [] → acts_before n all ≡ []
    none_of n empty = subst (λ (made : List Recorded). acts_before n made ≡ []) (sym empty) refl

    pub recovers_within : (n : ℕ) → 0 < n → before.image.calls + n ≤ after.image.calls → before.image.calls + n < 2 ^ 64 - 1
        → LeftWithin after.image.trace (before.image.calls + n) c → IsFencedFor before.image after.image all n
        → Recovers words files before.image opening all (acts_before n all) found
    recovers_within n some made counted left fenced =
        recovers files told (acts_before n all) (none_of n) c telling found gives refused
        (λ run asked of.
        let stops = of.holds.stops telling in
        (stops.words, stops.read, stops.within n some made counted fenced c left))
        (λ it none prior stood.
        absurd (let calls = ap (λ (t : Told). t.calls) (same it) in omega (arith, calls, some, made)))

    -- a shape was refused
    pub keeps_refused : StoppedRunsOpenAgain → LeavesNow after.image.trace c → KeepsRefused words before.image how found
    keeps_refused law left run asked shape is prior stood = ⊎_elim
        (λ (ran_so : RunsClass run before after SameImage how opening all).
        let at : OfChoice (ComesTo run.main before.left) (EndsOver run.limits (over before.image before.takes opening all after.image)
        (top.ShapeChanged shape)) =
        subst (λ (s : Status). IsCauseOf (ComesTo run.main before.left) run.limits
        (over before.image before.takes opening all after.image) s) is ran_so.runs.cause in
        let its = shape_keeps at.choice.set before.image after.image shape
        (law.refusals at.choice.set at.choice.main run.limits before.image before.takes opening all after.image (top.ShapeChanged shape)
        at.holds refl) telling in
        let same_as : its.graph ≡ prior = same_graph (meaning before.image.size its.words) its.graph prior its.stood
        (read_stands before.image telling prior stood its.words its.read) in
        subst (λ (graph : Graph). IfOk found (λ (it : Graph). it ≡ graph)) same_as (gives its.graph (its.now c left)))
        (λ (idle : Idle). let no : top.OutOfMemory ≡ top.ShapeChanged shape = sym idle.0 ∙ is in absurd cc)
        (done run asked)
