-- An event that waits leaves the waits of all other threads as they are.
use Rattle.std.proofs.Common.{◌≡◌, ◌≢◌, inl, inr, ℕ, ◌+◌, ◌<◌, Bool, true, List, refl, sym, ◌∙◌, ap, subst, arith}
use Rattle.std.proofs.Common.{if◌then◌else◌}
use Rattle.std.specs.Prelude.{Option, Some, None}
use Rattle.std.proofs.lemmas.Bool.Decides.{eqb_tells}
use Rattle.std.proofs.lemmas.List.{get_or-set_other}
use Rattle.run_types.specs.declared.wait.On.{On}
use Rattle.twin_forms.specs.Table.{Entry, entry, Names, refers, kept_at, word_of, IsClaimed}
use Rattle.twin_forms.specs.Sights.{Twin, view_of}
use Rattle.convert_queue.specs.declared.phase.Phase.{Phase}
use Rattle.convert_queue.specs.declared.phase.Phase.TheVariants.{Copy, Repair, Flush}
use Rattle.convert_queue.specs.Marks.{Mark, IsClean, IsStored}
use Rattle.convert_queue.specs.Queues.{Queues, IsSettled, phase_of, place_of}
use Rattle.convert_queue.specs.Threads.{InGroup, needs_of}
use Rattle.convert_queue.specs.Threads.InGroup.{itself, needed}
use Rattle.convert_words.specs.Agreeing.{Is, Far}
use Rattle.convert_words.specs.Scenes.{Scene, AgreesAt}
use Rattle.convert_words.specs.Converting.{GoesOn, RefersTo, Lacks, Waits, WaitsFor}
use Rattle.converter.specs.Beginning.{settled_at}
use Rattle.converter.specs.Laws.{AreUnwritten}
use Rattle.converter.proofs.Exact.{flush_stays}
use Rattle.converter.proofs.Sealed.{rests}
use Rattle.converter.proofs.Waiting.{is_still}
use Rattle.convert_waits.proofs.Waiting.{needs-below, waits_come_settled}
use Rattle.convert_waits.specs.Rows.{Why, HasSome, HoldsStill, InRow, with_wait, BeginsToNeed, RowsBegin}
use Rattle.convert_waits.specs.Rows.{PlainWaitsKeep}
use Rattle.convert_waits.specs.Rows.{LackingWaitsKeep, MemberWaitsKeep, NeedingWaitsKeep, SettledWaitsKeep}
use Rattle.convert_waits.specs.Rows.{NeedsWaitSettled, BeginningsNeed, ConvertingWaitsKeep}
use Rattle.convert_waits.specs.Rows.Why.{Plain, Lacking, Member}

-- ---- what changes

-- Thread t's own place, phase and needs alone may change; where it has claimed something, it doesn't leave its flush.
pub record ChangesOwn (t : ℕ) (s s' : Scene) (es : List Entry) : Type 0 where
  pub heap : s'.heap ≡ s.heap
  pub queues : s'.queue.queues ≡ s.queue.queues
  pub marks : s'.queue.marks ≡ s.queue.marks
  pub other_phases : (u : ℕ) → u ≢ t → phase_of s'.queue u ≡ phase_of s.queue u
  pub other_places : (u : ℕ) → u ≢ t → place_of s'.queue u ≡ place_of s.queue u
  pub kept : (a b : ℕ) → needs_of s.queue.needs a b ≡ true → needs_of s'.queue.needs a b ≡ true
  pub own : HasSome es t → phase_of s.queue t ≡ Flush → phase_of s'.queue t ≡ Flush
  pub agrees : AgreesAt s' es

pub by-going : (t : ℕ) (s s' : Scene) (es : List Entry) → GoesOn t s s' es → ChangesOwn t s s' es
by-going t s s' es goes = record {
  heap = goes.heap;
  queues = goes.queues;
  marks = goes.marks;
  other_phases = goes.other_phases;
  other_places = goes.other_places;
  kept = goes.kept;
  own = λ some flush. flush_stays (phase_of s.queue t) (phase_of s'.queue t) (place_of s.queue t) (place_of s'.queue t) flush goes.on;
  agrees = goes.agrees;
}

pub by-need : (t : ℕ) (s at s' : Scene) (es : List Entry) → BeginsToNeed t s at es → GoesOn t at s' es → ChangesOwn t s s' es
by-need t s at s' es begins goes = record {
  heap = goes.heap ∙ begins.heap;
  queues = goes.queues ∙ begins.queues;
  marks = goes.marks ∙ begins.marks;
  other_phases = λ u other. goes.other_phases u other ∙ begins.other_phases u other;
  other_places = λ u other. goes.other_places u other ∙ begins.other_places u other;
  kept = λ a b needs. goes.kept a b (begins.kept a b needs);
  own = λ some flush. absurd (begins.nothing some.0 some.1);
  agrees = goes.agrees;
}

pub by-nothing : (t : ℕ) (s : Scene) (es : List Entry) → AgreesAt s es → ChangesOwn t s s es
by-nothing t s es agrees = record {
  heap = refl;
  queues = refl;
  marks = refl;
  other_phases = λ u other. refl;
  other_places = λ u other. refl;
  kept = λ a b needs. needs;
  own = λ some flush. flush;
  agrees = agrees;
}

-- ---- what that leaves

pub in-group-still : (needs needs' : ℕ → ℕ → Bool) → ((a b : ℕ) → needs a b ≡ true → needs' a b ≡ true) → (t u : ℕ)
    → InGroup needs t u → InGroup needs' t u
in-group-still needs needs' kept t u itself = itself
in-group-still needs needs' kept t u (needed w v group need) = needed w v (in-group-still needs needs' kept t w group) (kept w v need)

module _ (t : ℕ) (s s' : Scene) (es : List Entry) (change : ChangesOwn t s s' es) where
  clean-still : (u : ℕ) → IsClean s.queue.marks u → IsClean s'.queue.marks u
  clean-still u clean = subst (λ (ms : List Mark). IsClean ms u) (sym change.marks) clean

  clean-back : (u : ℕ) → IsClean s'.queue.marks u → IsClean s.queue.marks u
  clean-back u clean = subst (λ (ms : List Mark). IsClean ms u) change.marks clean

  settled-still : (u : ℕ) → u ≢ t → IsSettled s.queue u → IsSettled s'.queue u
  settled-still u other settled =
      record { phase = change.other_phases u other ∙ settled.phase; clean = clean-still u settled.clean }

  settled-back : (u : ℕ) → u ≢ t → IsSettled s'.queue u → IsSettled s.queue u
  settled-back u other settled =
      record { phase = sym (change.other_phases u other) ∙ settled.phase; clean = clean-back u settled.clean }

  unwritten-still : AreUnwritten s.queue es → AreUnwritten s'.queue es
  unwritten-still old u n c claimed early within copied =
      subst (λ (ms : List Mark). IsStored ms u ((entry es n).line + c)) (sym change.marks)
      (old u n c claimed (λ flush. early (elim (eqb_tells u t) [
        | inl same ↦ subst (λ x. phase_of s'.queue x ≡ Flush) (sym same.1)
            (change.own (n, subst (λ x. IsClaimed es x n) same.1 claimed) (subst (λ x. phase_of s.queue x ≡ Flush) same.1 flush))
        | inr other ↦ change.other_phases u other.1 ∙ flush
      ])) within copied)

  refers-still : (u n k m : ℕ) → RefersTo s es u n k m → RefersTo s' es u n k m
  refers-still u n k m r = record {
    claimed = r.claimed;
    slot = r.slot;
    reference = subst (λ (h : Twin). refers (view_of h) (entry es n) k ≡ true) (sym change.heap) r.reference;
    kept = subst (λ (h : Twin). kept_at (view_of h) (entry es n) k ≡ true) (sym change.heap) r.kept;
    copied = r.copied;
    there = r.there;
    leads = subst (λ (h : Twin). Names (entry es m) (word_of (view_of h) (entry es n) k)) (sym change.heap) r.leads;
  }

  lacks-still : (u v : ℕ) → u ≢ t → Lacks s es u v → Lacks s' es u v
  lacks-still u v other l =
      let same = change.other_places u other in record {
        phase = change.other_phases u other ∙ l.phase;
        n = l.n;
        k = l.k;
        m = l.m;
        is = subst (λ (p : ℕ × ℕ). Is s'.queue es u p.0 l.n) (sym same)
            (is_still s.queue s'.queue es u (place_of s.queue u).0 l.n change.queues l.is);
        refers_to = refers-still u l.n l.k l.m l.refers_to;
        here = l.here ∙ ap (λ (p : ℕ × ℕ). p.1) (sym same);
        claimed = l.claimed;
        behind = l.behind;
      }

  -- The wait of another thread holds still, unless it waits for t as a member.
  holds-still : (plain : ℕ → Option On) (u : ℕ) (why : Why) → u ≢ t
      → (HasSome es t → (IsSettled s.queue t → ⊥) → IsSettled s'.queue t → ⊥)
      → HoldsStill plain s es u why → HoldsStill plain s' es u why
  holds-still plain u (Plain on) other unsettled holds = holds
  holds-still plain u (Lacking v) other unsettled holds = lacks-still u v other holds
  holds-still plain u (Member v) other unsettled holds =
      let (below, waits, some) = holds in (
        below,
        record {
          settled = settled-still u other waits.settled;
          member = in-group-still (needs_of s.queue.needs) (needs_of s'.queue.needs) change.kept u v waits.member;
          unsettled = λ now. elim (eqb_tells v t) [
            | inl same ↦ unsettled (subst (HasSome es) same.1 some) (λ was. waits.unsettled (subst (IsSettled s.queue) (sym same.1) was))
                (subst (IsSettled s'.queue) same.1 now)
            | inr apart ↦ waits.unsettled (settled-back v apart.1 now)
          ];
        },
        some,
      )

  -- the row with thread t's own wait
  row-still : (plain : ℕ → Option On) (waited : ℕ → Option Why) (why : Why) → InRow plain s es waited
      → (HasSome es t → (IsSettled s.queue t → ⊥) → IsSettled s'.queue t → ⊥)
      → ((n : ℕ) → IsClaimed es t n → (entry es n).stage ≡ 2) → HoldsStill plain s' es t why
      → InRow plain s' es (with_wait waited t why)
  row-still plain waited why row unsettled forwarded own = record {
    agrees = change.agrees;
    unwritten = unwritten-still row.unwritten;
    forwarded = λ u w is. elim (eqb_tells u t) [
      | inl same ↦ subst (λ x. (n : ℕ) → IsClaimed es x n → (entry es n).stage ≡ 2) (sym same.1) forwarded
      | inr other ↦ row.forwarded u w (subst (λ b. (if b then Some why else waited u) ≡ Some w) other.0 is)
    ];
    holds = λ u w is. elim (eqb_tells u t) [
      | inl same ↦
          (let it : ◌≡◌ {A = Option Why} (Some why) (Some w) = subst (λ b. (if b then Some why else waited u) ≡ Some w) same.0 is in
          let one : why ≡ w = cc in
          subst (λ x. HoldsStill plain s' es x w) (sym same.1) (subst (HoldsStill plain s' es t) one own))
      | inr other ↦ holds-still plain u w other.1 unsettled
          (row.holds u w (subst (λ b. (if b then Some why else waited u) ≡ Some w) other.0 is))
    ];
  }

-- ---- each kind of event

pub rows_begin : RowsBegin
rows_begin plain s es agrees unwritten = record {
  agrees = agrees;
  unwritten = unwritten;
  forwarded = λ t why is. absurd (let no : ◌≡◌ {A = Option Why} None (Some why) = is in cc);
  holds = λ t why is. absurd (let no : ◌≡◌ {A = Option Why} None (Some why) = is in cc);
}

pub plain_waits_keep : PlainWaitsKeep
plain_waits_keep plain s es waited t on row is nothing =
    row-still t s s es (by-nothing t s es row.agrees) plain waited (Plain on) row (λ some was now. nothing some.0 some.1)
    (λ n claimed. absurd (nothing n claimed)) (is, nothing)

-- in its repair it isn't settled
pub lacking_waits_keep : LackingWaitsKeep
lacking_waits_keep plain s s' es waited t u row goes waits lacks =
    row-still t s s' es (by-going t s s' es goes) plain waited (Lacking u) row
    (λ some was now. let no : Repair ≡ Flush = sym lacks.phase ∙ now.phase in cc) waits.forwarded lacks

-- a member of a group that isn't settled has claimed something
member-claims : (s : Scene) (es : List Entry) (t u : ℕ) → AgreesAt s es → u < 64 → IsSettled s.queue t
    → (IsSettled s.queue u → ⊥)
    → InGroup (needs_of s.queue.needs) t u → HasSome es u
member-claims s es t u agrees below settled unsettled itself = absurd (unsettled settled)
member-claims s es t u agrees below settled unsettled (needed w v group needs) =
    agrees.real w u (needs-below s es agrees w u needs) below needs

member-holds : (plain : ℕ → Option On) (s : Scene) (es : List Entry) (t u : ℕ) → AgreesAt s es → u < 64 → WaitsFor s t u
    → HoldsStill plain s es t (Member u)
member-holds plain s es t u agrees below for =
    let member = for.unsettled.group.least u for.unsettled.member in (
      below,
      record { settled = for.settled; member = member; unsettled = for.unsettled.unsettled },
      member-claims s es t u agrees below for.settled for.unsettled.unsettled member,
    )

-- it was settled before
pub member_waits_keep : MemberWaitsKeep
member_waits_keep plain s s' es waited t u below row goes waits for =
    row-still t s s' es (by-going t s s' es goes) plain waited (Member u) row
    (λ some was now. elim (waits_come_settled s s' es t u some.0 row.unwritten goes waits some.1) [
      | inl settled ↦ was settled
      | inr lacks ↦ (let no : Repair ≡ Flush = sym lacks.phase ∙ now.phase in cc)
    ]) waits.forwarded (member-holds plain s' es t u goes.agrees below for)

pub needing_waits_keep : NeedingWaitsKeep
needing_waits_keep plain s at s' es waited t u below row begins goes waits =
    row-still t s s' es (by-need t s at s' es begins goes) plain waited (Member u) row
    (λ some was now. begins.nothing some.0 some.1) waits.forwarded (elim waits.why [
      | inl for ↦ member-holds plain s' es t u goes.agrees below for
      | inr lacks ↦ absurd (begins.nothing lacks.n lacks.is.claimed)
    ])

-- all that a settled thread has claimed is forwarded
settled-forwarded : (s : Scene) (es : List Entry) (t n : ℕ) → AgreesAt s es → phase_of s.queue t ≡ Flush → IsClaimed es t n
    → (entry es n).stage ≡ 2
settled-forwarded s es t n agrees flush claimed =
    let i = agrees.queued.all t n claimed in
    let far = (agrees.on_way t i.0 n i.1).reaches.far in
    subst (λ (p : Phase). Far p (place_of s.queue t).0 (place_of s.queue t).1 i.0 (entry es n)) flush far

pub settled_waits_keep : SettledWaitsKeep
settled_waits_keep plain s es waited t u below row for =
    let agrees = row.agrees in
    member_waits_keep plain s s es waited t u below row (rests t s es agrees)
    (record { why = inl for; forwarded = λ n claimed. settled-forwarded s es t n agrees for.settled.phase claimed }) for

pub needs_wait_settled : NeedsWaitSettled
needs_wait_settled plain s s' es waited t u below row begins agrees for =
    needing_waits_keep plain s s' s' es waited t u below row begins (rests t s' es agrees)
    (record { why = inl for; forwarded = λ n claimed. absurd (begins.nothing n claimed) })

pub converting_waits_keep : ConvertingWaitsKeep
converting_waits_keep plain s s' es ms ms' waited t u below row e =
    let says = e.converts.says in
    let goes : GoesOn t s s' es = subst (λ (x : Scene). GoesOn t s x es) (sym says.1) e.goes_on in
    let waits : Waits s' es t u = subst (λ (x : Scene). Waits x es t u) (sym says.1) says.0 in
    elim waits.why [
      | inl for ↦ (Member u, refl, member_waits_keep plain s s' es waited t u below row goes waits for)
      | inr lacks ↦ (Lacking u, refl, lacking_waits_keep plain s s' es waited t u row goes waits lacks)
    ]

pub beginnings_need : BeginningsNeed
beginnings_need s s' es t m u nothing begins =
    let needs = s'.queue.needs in
    let now : Queues = record (settled_at s.queue t) { needs = needs } in
    let is : s'.queue ≡ now = begins.queue in record {
      nothing = nothing;
      heap = begins.heap;
      queues = ap (λ (q : Queues). q.queues) is;
      marks = ap (λ (q : Queues). q.marks) is;
      other_phases = λ v other. ap (λ (q : Queues). phase_of q v) is ∙ get_or-set_other s.queue.phases t v Flush Copy other;
      other_places = λ v other. ap (λ (q : Queues). place_of q v) is ∙ get_or-set_other s.queue.places t v (0, 0) (0, 0) other;
      kept = λ a b old. elim (eqb_tells a t) [
        | inl same ↦ elim (eqb_tells b u) [
          | inl there ↦ subst (λ x. needs_of needs x b ≡ true) (sym same.1) (subst (λ x. needs_of needs t x ≡ true) (sym there.1) begins.here)
          | inr apart ↦ begins.others a b (λ own. apart.1) ∙ old
        ]
        | inr apart ↦ begins.others a b (λ own. absurd (apart.1 own)) ∙ old
      ];
    }
