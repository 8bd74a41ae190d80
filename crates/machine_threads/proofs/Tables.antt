-- What an event of a thread makes of the table of objects: a copied line stays copied, and what others have claimed lies
-- where
-- it lay.
use Rattle.std.proofs.Common.{◌≡◌, ◌≢◌, ◌⊎◌, inl, inr, ℕ, ◌+◌, ◌-◌, ◌<◌, true, List, length, refl, sym, ◌∙◌}
use Rattle.std.proofs.Common.{ap}
use Rattle.std.proofs.Common.{subst, arith}
use Rattle.std.proofs.lemmas.Bool.{cases_Bool, false≢true}
use Rattle.std.proofs.lemmas.Bool.Decides.{eqb_tells}
use Rattle.std.proofs.Math.ListN.{get_or-eq_default}
use Rattle.twin_forms.specs.Table.{Entry, entry, no_entry, HasCopied, IsClaimed}
use Rattle.twin_forms.specs.Moves.{forwarded, one_more, sealed}
use Rattle.twin_forms.specs.Sights.{view_of}
use Rattle.twin_forms.proofs.Led.{below_or_not, same_or_not}
use Rattle.twin_forms.proofs.Tables.{alike}
use Rattle.convert_queue.specs.Threads.{has}
use Rattle.convert_words.specs.declared.step.ConvertStep.{ConvertStep}
use Rattle.convert_words.specs.declared.step.ConvertStep.TheVariants as step
use Rattle.convert_words.specs.Steps.{OneBecomes, claimed_at}
use Rattle.convert_words.specs.Scenes.{Scene, AgreesAt}
use Rattle.convert_words.specs.Sealing.{AreSealed, OfSet}
use Rattle.convert_words.specs.Converting.{Converts}
use Rattle.converter.specs.declared.begin.Begun.{Begun}
use Rattle.converter.specs.declared.begin.Begun.TheVariants as begun
use Rattle.converter.specs.Beginning.{Begins}
use Rattle.machine_ends.proofs.Passed.{OnlyAdds, claimed-was}

pub record Goes (t : ℕ) (es es' : List Entry) : Type 0 where
  pub copied : (n c : ℕ) → HasCopied (entry es n) c → HasCopied (entry es' n) c
  pub others : (u n : ℕ) → u ≢ t → IsClaimed es' u n → IsClaimed es u n × ((entry es' n).stage ≡ (entry es n).stage)

pub same-goes : (t : ℕ) (es es' : List Entry) → es' ≡ es → Goes t es es'
same-goes t es es' same = subst (Goes t es) (sym same) (record {
  copied = λ n c has. has;
  others = λ u n other claimed. (claimed, refl);
})

-- ---- which objects have lines that are copied

not-young : (e : Entry) (c : ℕ) → e.stage ≡ 0 → HasCopied e c → ⊥
not-young e c young (inl two) = omega (arith, young, two)
not-young e c young (inr one) = let st = one.0 in omega (arith, young, st)

pub copied-there : (es : List Entry) (n c : ℕ) → HasCopied (entry es n) c → n < length es
copied-there es n c has = elim (below_or_not n (length es)) [
  | inl below ↦ below
  | inr past ↦ absurd (not-young no_entry c refl
      (subst (λ (e : Entry). HasCopied e c) (get_or-eq_default es no_entry past) has))
]

-- ---- one object lies otherwise

-- thread t has claimed it
one-goes : (t m : ℕ) (e' : Entry) (es es' : List Entry) → OneBecomes m e' es es' → e'.owner ≡ t + 1
    → ((c : ℕ) → HasCopied (entry es m) c → HasCopied e' c) → Goes t es es'
one-goes t m e' es es' becomes owner more = record {
  copied = λ n c has. elim (eqb_tells n m) [
    | inl same ↦ subst (λ k. HasCopied (entry es' k) c) (sym same.1)
        (subst (λ (e : Entry). HasCopied e c) (sym becomes.here)
        (more c (subst (λ k. HasCopied (entry es k) c) same.1 has)))
    | inr apart ↦ subst (λ (e : Entry). HasCopied e c) (sym (becomes.others n apart.1)) has
  ];
  others = λ u n other claimed. elim (eqb_tells n m) [
    | inl same ↦ absurd
        (let now : (entry es' n).owner ≡ u + 1 = claimed.1 in
        let own : (entry es' n).owner ≡ t + 1
        = ap (λ k. (entry es' k).owner) same.1 ∙ ap (λ (e : Entry). e.owner) becomes.here ∙ owner in
        other (omega (arith, now, own)))
    | inr apart ↦
        (let here : entry es' n ≡ entry es n = becomes.others n apart.1 in
        let there = claimed.0 in (
          (omega (arith, there, becomes.long), sym (ap (λ (e : Entry). e.owner) here) ∙ claimed.1),
          ap (λ (e : Entry). e.stage) here,
        ))
  ];
}

-- ---- the same words

-- Another table of the same heap says the same of it.
alike-goes : (t : ℕ) (s : Scene) (es es' : List Entry) → AgreesAt s es → AgreesAt s es' → Goes t es es'
alike-goes t s es es' agrees agrees' = record {
  copied = λ n c has. still n c (copied-there es n c has) has;
  others = λ u n other claimed. (
      let there : n < length es = (let lt = claimed.0 in omega (arith, lt, agrees.lies.long, agrees'.lies.long)) in
      let same = alike (view_of s.heap) es es' n agrees.lies agrees'.lies there in
      ((there, sym same.owner ∙ claimed.1), same.stage));
}
  where
    still : (n c : ℕ) → n < length es → HasCopied (entry es n) c → HasCopied (entry es' n) c
    still n c there (inl two) =
        let same = alike (view_of s.heap) es es' n agrees.lies agrees'.lies there in
        inl (omega (arith, two, same.stage))
    still n c there (inr one) =
        let same = alike (view_of s.heap) es es' n agrees.lies agrees'.lies there in
        let st : (entry es n).stage ≡ 1 = one.0 in
        let st' : (entry es' n).stage ≡ 1 = same.stage ∙ st in
        let there' : n < length es' = omega (arith, there, agrees.lies.long, agrees'.lies.long) in
        let count = (agrees.lies.sits n there).count st in
        let count' = (agrees'.lies.sits n there').count st' in
        let line : (entry es' n).line ≡ (entry es n).line = same.line (omega (arith, st)) in
        let more : (entry es' n).copied ≡ (entry es n).copied
        = sym count' ∙ ap (view_of s.heap).copied line ∙ count in
        let below = one.1 in
        inr (st', omega (arith, below, more))

-- ---- a seal

sealed-or : (es es' : List Entry) (set n : ℕ) → AreSealed (OfSet es set) es es' → n < length es
    → (entry es' n ≡ sealed (entry es n)) ⊎ (entry es' n ≡ entry es n)
sealed-or es es' set n are there = elim (same_or_not (entry es n).owner 0) [
  | inl none ↦ inr (are.others n there (λ of. let own = of.2.1 in omega (arith, none, own)))
  | inr some ↦ owned ((entry es n).owner - 1) (omega (arith, some))
]
  where
    owned : (u : ℕ) → (entry es n).owner ≡ u + 1
        → (entry es' n ≡ sealed (entry es n)) ⊎ (entry es' n ≡ entry es n)
    owned u is = elim (cases_Bool (has set u)) [
      | inl in_set ↦ inl (are.here n there (u, in_set, (there, is)))
      | inr out ↦ inr (are.others n there (λ of.
          let own = of.2.1 in
          let one : of.0 ≡ u = omega (arith, is, own) in
          false≢true (sym out ∙ subst (λ k. has set k ≡ true) one of.1)))
    ]

sealed-goes : (t set : ℕ) (es es' : List Entry) → AreSealed (OfSet es set) es es' → Goes t es es'
sealed-goes t set es es' are = record {
  copied = λ n c has. elim (sealed-or es es' set n are (copied-there es n c has)) [
    | inl is ↦ subst (λ (e : Entry). HasCopied e c) (sym is) has
    | inr is ↦ subst (λ (e : Entry). HasCopied e c) (sym is) has
  ];
  others = λ u n other claimed. (
      let there : n < length es = (let lt = claimed.0 in omega (arith, lt, are.long)) in
      elim (sealed-or es es' set n are there) [
        | inl is ↦ absurd
            (let now = claimed.1 in let none : (entry es' n).owner ≡ 0 = ap (λ (e : Entry). e.owner) is in
            omega (arith, now, none))
        | inr is ↦ ((there, sym (ap (λ (e : Entry). e.owner) is) ∙ claimed.1), ap (λ (e : Entry). e.stage) is)
      ]);
}

-- ---- steps of a conversion

one-line-more : (e : Entry) (c : ℕ) → HasCopied e c → HasCopied (one_more e) c
one-line-more e c (inl two) = inl two
one-line-more e c (inr one) = let below = one.1 in inr (one.0, omega (arith, below))

pub converts-goes : (t : ℕ) (answer : ConvertStep) (s s' : Scene) (es es' : List Entry) → AgreesAt s es
    → Converts t answer s s' es es' → Goes t es es'
converts-goes t step.Claimed s s' es es' agrees c =
    let took = c.says.0 in
    one-goes t took.m (claimed_at t s.free (entry es took.m)) es es' took.becomes refl
    (λ k has. absurd (not-young (entry es took.m) k took.asked.ordinary has))
converts-goes t step.CopiedLine s s' es es' agrees c =
    let copies = c.says.0 in
    one-goes t copies.n (one_more (entry es copies.n)) es es' copies.becomes copies.is.claimed.1
    (one-line-more (entry es copies.n))
converts-goes t step.Forwarded s s' es es' agrees c =
    let forwards = c.says.0 in
    one-goes t forwards.n (forwarded (entry es forwards.n)) es es' forwards.becomes forwards.is.claimed.1
    (λ k has. inl (omega arith))
converts-goes t step.Repaired s s' es es' agrees c = same-goes t es es' c.says.0.table
converts-goes t step.WroteBack s s' es es' agrees c = same-goes t es es' c.says.0.table
converts-goes t step.Fenced s s' es es' agrees c = same-goes t es es' c.says.0.table
converts-goes t step.Touched s s' es es' agrees c = same-goes t es es' c.says.0.table
converts-goes t (step.Sealed set) s s' es es' agrees c = sealed-goes t set es es' c.says.sealed
converts-goes t (step.Wait u) s s' es es' agrees c =
    alike-goes t s es es' agrees (subst (λ (x : Scene). AgreesAt x es') c.says.1 c.agrees)
converts-goes t (step.Full need left) s s' es es' agrees c =
    alike-goes t s es es' agrees (subst (λ (x : Scene). AgreesAt x es') c.says.1 c.agrees)

pub begins-goes : (t n : ℕ) (answer : Begun) (s s' : Scene) (es es' : List Entry) → Begins t n answer s s' es es'
    → Goes t es es'
begins-goes t n begun.Claimed s s' es es' b =
    one-goes t n (claimed_at t s.free (entry es n)) es es' b.says.becomes refl
    (λ k has. absurd (not-young (entry es n) k b.says.ordinary has))
begins-goes t n (begun.Needs u) s s' es es' b = same-goes t es es' b.says.table
begins-goes t n (begun.Full need left) s s' es es' b = same-goes t es es' b.says.table

-- ---- new objects

pub adds-goes : (t : ℕ) (es es' : List Entry) → OnlyAdds es es' → Goes t es es'
adds-goes t es es' adds = record {
  copied = λ n c has. subst (λ (e : Entry). HasCopied e c) (sym (adds.same n (copied-there es n c has))) has;
  others = λ u n other claimed. (
      let before = claimed-was es es' adds u n claimed in
      (before, ap (λ (e : Entry). e.stage) (adds.same n before.0)));
}
