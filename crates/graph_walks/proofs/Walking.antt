-- What a walk has reached while it goes on, and which vertices it has still to come to, in order.
use Rattle.std.proofs.Common.{◌≡◌, ◌↔◌, ℕ, ◌+◌, ◌*◌, ◌-◌, ◌<◌, ◌≤◌, true, false, List, [], ◌∷◌, ◌++◌, refl, ap, sym, ◌∙◌, subst}
use Rattle.std.proofs.Common.{arith, length, if◌then◌else◌, inl, inr}
use Rattle.std.specs.Prelude.{Contains, All, reverse}
use Rattle.std.specs.List.{flat_map, sum_by}
use Rattle.std.proofs.lemmas.List.{append-nil, append_assoc, length-append, reverse-append}
use Rattle.std.proofs.lemmas.List.Concat.{flat_map-append}
use Rattle.std.proofs.lemmas.List.Elements.{All-contains, All-get_or, Contains-append_left, Contains-append_right}
use Rattle.std.proofs.lemmas.List.Elements.{Contains-append_cases, Contains-push_cases}
use Rattle.std.proofs.lemmas.List.Sums.{get_or-le-sum_by}
use Rattle.graph_walks.specs.Paths.{next_of, Leads, Directly, IsReached}
use Rattle.graph_walks.specs.Order.{walk, visits_from}
use Rattle.graph_walks.specs.Reached.{has_vertex}
use Rattle.graph_walks.proofs.Firsts.{firsts_of}
use Rattle.graph_walks.proofs.Lists.{Contains-head, Contains-tail, Contains-cons_cases, Contains-nil, cons_head, cons_tail}
use Rattle.graph_walks.proofs.Paths.{Leads-more, IsReached-more, IsReached-covered}
use Rattle.graph_walks.proofs.Vertices.{Contains-from_has_vertex, has_vertex-from_Contains, with_vertices, with_vertices-append}
use Rattle.graph_walks.proofs.Vertices.{with_vertices-none}
use Rattle.graph_walks.proofs.Walks.{IsAcyclic, walk_step}

module _ (edges : List (List ℕ)) (starts : List ℕ) where
  -- What is reached or pending is reached by paths, the vertices where the walk starts are among it, and so is where edges lead.
  pub record IsWalk (reached pending : List ℕ) : Type 0 where
    pub sound : (n : ℕ) → Contains (reached ++ pending) n → IsReached edges starts n
    pub begun : (n : ℕ) → Contains starts n → Contains (reached ++ pending) n
    pub closed : (m n : ℕ) → Contains reached m → Contains (next_of edges m) n → Contains (reached ++ pending) n

  pub IsWalk-begin : IsWalk [] starts
  IsWalk-begin = record { sound = λ n c. inl c; begun = λ n c. c; closed = λ m n c. absurd (Contains-nil m c) }

  -- a vertex that is reached already is passed over
  pub IsWalk-past : (reached : List ℕ) (v : ℕ) (rest : List ℕ) → has_vertex reached v ≡ true → IsWalk reached (v ∷ rest)
      → IsWalk reached rest
  IsWalk-past reached v rest old w =
      let known = Contains-from_has_vertex reached v old in
      let kept : (n : ℕ) → Contains (reached ++ v ∷ rest) n → Contains (reached ++ rest) n = λ n c.
      elim (Contains-append_cases reached (v ∷ rest) n c) [
        | inl a ↦ Contains-append_left reached rest n a
        | inr a ↦ elim (Contains-cons_cases v rest n a) [
          | inl e ↦ Contains-append_left reached rest n (subst (λ m. Contains reached m) e known)
          | inr b ↦ Contains-append_right reached rest n b
        ]
      ] in
      record {
        sound = λ n c. w.sound n (elim (Contains-append_cases reached rest n c) [
          | inl a ↦ Contains-append_left reached (v ∷ rest) n a
          | inr a ↦ Contains-append_right reached (v ∷ rest) n (Contains-tail v rest n a)
        ]);
        begun = λ n c. kept n (w.begun n c);
        closed = λ m n c d. kept n (w.closed m n c d);
      }

  -- one that isn't is reached, and where its edges lead comes next
  pub IsWalk-on : (reached : List ℕ) (v : ℕ) (rest : List ℕ) → IsWalk reached (v ∷ rest)
      → IsWalk (reached ++ v ∷ []) (next_of edges v ++ rest)
  IsWalk-on reached v rest w =
      let next = next_of edges v in
      let after = reached ++ v ∷ [] in
      let here : IsReached edges starts v = w.sound v (Contains-append_right reached (v ∷ rest) v (Contains-head v rest)) in
      let kept : (n : ℕ) → Contains (reached ++ v ∷ rest) n → Contains (after ++ (next ++ rest)) n = λ n c.
      elim (Contains-append_cases reached (v ∷ rest) n c) [
        | inl a ↦ Contains-append_left after (next ++ rest) n (Contains-append_left reached (v ∷ []) n a)
        | inr a ↦ elim (Contains-cons_cases v rest n a) [
          | inl e ↦ Contains-append_left after (next ++ rest) n
              (Contains-append_right reached (v ∷ []) n (subst (λ m. Contains (v ∷ []) m) e (Contains-head v [])))
          | inr b ↦ Contains-append_right after (next ++ rest) n (Contains-append_right next rest n b)
        ]
      ] in
      record {
        sound = λ n c. elim (Contains-append_cases after (next ++ rest) n c) [
          | inl a ↦ elim (Contains-push_cases reached v n a) [
            | inl b ↦ w.sound n (Contains-append_left reached (v ∷ rest) n b)
            | inr e ↦ subst (λ m. IsReached edges starts m) e here
          ]
          | inr a ↦ elim (Contains-append_cases next rest n a) [
            | inl b ↦ IsReached-more edges starts v n here b
            | inr b ↦ w.sound n (Contains-append_right reached (v ∷ rest) n (Contains-tail v rest n b))
          ]
        ];
        begun = λ n c. kept n (w.begun n c);
        closed = λ m n c d. elim (Contains-push_cases reached v m c) [
          | inl a ↦ kept n (w.closed m n a d)
          | inr e ↦ Contains-append_right after (next ++ rest) n
              (Contains-append_left next rest n (subst (λ k. Contains (next_of edges k) n) (sym e) d))
        ];
      }

  -- once nothing is pending, what is reached is what paths lead to
  pub IsWalk-end : (reached : List ℕ) → IsWalk reached [] → (n : ℕ) → (has_vertex reached n ≡ true) ↔ IsReached edges starts n
  IsWalk-end reached w n =
      let all : (m : ℕ) → Contains (reached ++ []) m → Contains reached m = λ m c.
      subst (λ ns. Contains ns m) (append-nil reached) c in (
        λ h. w.sound n (Contains-append_left reached [] n (Contains-from_has_vertex reached n h)),
        λ r. has_vertex-from_Contains reached n (IsReached-covered edges (λ m. Contains reached m) starts
            (λ m k c d. all k (w.closed m k c d)) (λ m c. all m (w.begun m c)) n r),
      )

  -- what paths lead to is there
  reached_there : All (λ next. All (λ (v : ℕ). v < length edges) next) edges → All (λ (v : ℕ). v < length edges) starts → (n : ℕ)
      → IsReached edges starts n → n < length edges
  reached_there there within n r =
      IsReached-covered edges (λ m. m < length edges) starts
      (λ m k l c. All-contains (λ v. v < length edges) (next_of edges m) k
      (All-get_or (λ next. All (λ (v : ℕ). v < length edges) next) edges m [] l there) c)
      (λ m c. All-contains (λ v. v < length edges) starts m within c) n r

  -- ---- the order in a graph without circles

  -- All of the walk from a reached vertex is reached or comes with the first pending ones, to each of which a path leads from it.
  pub record IsMet (reached pending : List ℕ) (n : ℕ) : Type 0 where
    pub front : List ℕ
    pub back : List ℕ
    pub split : pending ≡ front ++ back
    pub leads : (m : ℕ) → Contains front m → Leads edges n m
    pub walked : (m : ℕ) → Contains (walk edges n) m → Contains (reached ++ flat_map (walk edges) front) m

  -- The walks from what is pending add what is left of those from the vertices where the walk starts.
  pub record IsInOrder (reached pending : List ℕ) : Type 0 where
    pub left : with_vertices reached (flat_map (walk edges) pending) ≡ with_vertices [] (flat_map (walk edges) starts)
    pub met : (n : ℕ) → Contains reached n → IsMet reached pending n

  pub IsInOrder-begin : IsInOrder [] starts
  IsInOrder-begin = record { left = refl; met = λ n c. absurd (Contains-nil n c) }

  pub IsInOrder-end : (reached : List ℕ) → IsInOrder reached [] → reached ≡ visits_from edges starts
  unfolding visits_from
  IsInOrder-end reached o = o.left ∙ firsts_of (flat_map (walk edges) starts)

  -- all of the walk from a vertex that is reached already, and pending, is reached: no path leads from it to itself
  finished_by : IsAcyclic edges → (reached : List ℕ) (v : ℕ) (rest front back : List ℕ) → v ∷ rest ≡ front ++ back
      → ((m : ℕ) → Contains front m → Leads edges v m)
      → ((m : ℕ) → Contains (walk edges v) m → Contains (reached ++ flat_map (walk edges) front) m) → (m : ℕ)
      → Contains (walk edges v) m → Contains reached m
  finished_by graph reached v rest [] back split leads walked m c = subst (λ ns. Contains ns m) (append-nil reached) (walked m c)
  finished_by graph reached v rest (f ∷ fs) back split leads walked m c =
      let first : v ≡ f = cons_head v f rest (fs ++ back) split in
      absurd (graph.no_circle v (subst (λ k. Leads edges v k) (sym first) (leads f (Contains-head f fs))))

  finished : IsAcyclic edges → (reached : List ℕ) (v : ℕ) (rest : List ℕ) → IsMet reached (v ∷ rest) v → (m : ℕ)
      → Contains (walk edges v) m → Contains reached m
  finished graph reached v rest met = finished_by graph reached v rest met.front met.back met.split met.leads met.walked

  past_by : (reached : List ℕ) (v : ℕ) (rest : List ℕ) → ((m : ℕ) → Contains (walk edges v) m → Contains reached m) → (n : ℕ)
      (front back : List ℕ) → v ∷ rest ≡ front ++ back → ((m : ℕ) → Contains front m → Leads edges n m)
      → ((m : ℕ) → Contains (walk edges n) m → Contains (reached ++ flat_map (walk edges) front) m) → IsMet reached rest n
  past_by reached v rest all n [] back split leads walked =
      record { front = []; back = rest; split = refl; leads = λ m c. absurd (Contains-nil m c); walked = walked }
  past_by reached v rest all n (f ∷ fs) back split leads walked =
      let first : v ≡ f = cons_head v f rest (fs ++ back) split in
      let walks = flat_map (walk edges) in
      record {
        front = fs;
        back = back;
        split = cons_tail v f rest (fs ++ back) split;
        leads = λ m c. leads m (Contains-tail f fs m c);
        walked = λ m c. elim (Contains-append_cases reached (walk edges f ++ walks fs) m (walked m c)) [
          | inl a ↦ Contains-append_left reached (walks fs) m a
          | inr a ↦ elim (Contains-append_cases (walk edges f) (walks fs) m a) [
            | inl b ↦ Contains-append_left reached (walks fs) m (all m (subst (λ k. Contains (walk edges k) m) (sym first) b))
            | inr b ↦ Contains-append_right reached (walks fs) m b
          ]
        ];
      }

  pub IsInOrder-past : IsAcyclic edges → (reached : List ℕ) (v : ℕ) (rest : List ℕ) → has_vertex reached v ≡ true
      → IsInOrder reached (v ∷ rest) → IsInOrder reached rest
  IsInOrder-past graph reached v rest old o =
      let all = finished graph reached v rest (o.met v (Contains-from_has_vertex reached v old)) in
      record {
        left = ap (λ ns. with_vertices ns (flat_map (walk edges) rest)) (sym (with_vertices-none reached (walk edges v) all))
            ∙ sym (with_vertices-append reached (walk edges v) (flat_map (walk edges) rest)) ∙ o.left;
        met = λ n c. let met = o.met n c in past_by reached v rest all n met.front met.back met.split met.leads met.walked;
      }

  -- what was reached before, and now that the edges from one more vertex come next
  on_by : IsAcyclic edges → (reached : List ℕ) (v : ℕ) (rest : List ℕ) → v < length edges → (n : ℕ) (front back : List ℕ)
      → v ∷ rest ≡ front ++ back → ((m : ℕ) → Contains front m → Leads edges n m)
      → ((m : ℕ) → Contains (walk edges n) m → Contains (reached ++ flat_map (walk edges) front) m)
      → IsMet (reached ++ v ∷ []) (next_of edges v ++ rest) n
  on_by graph reached v rest there n [] back split leads walked =
      let kept : (m : ℕ) → Contains (reached ++ []) m → Contains ((reached ++ v ∷ []) ++ []) m = λ m c.
      let d : Contains reached m = subst (λ ns. Contains ns m) (append-nil reached) c in
      Contains-append_left (reached ++ v ∷ []) [] m (Contains-append_left reached (v ∷ []) m d) in
      record {
        front = [];
        back = next_of edges v ++ rest;
        split = refl;
        leads = λ m c. absurd (Contains-nil m c);
        walked = λ m c. kept m (walked m c);
      }
  on_by graph reached v rest there n (f ∷ fs) back split leads walked =
      let next = next_of edges v in
      let after = reached ++ v ∷ [] in
      let walks = flat_map (walk edges) in
      let first : v ≡ f = cons_head v f rest (fs ++ back) split in
      let path : Leads edges n v = subst (λ k. Leads edges n k) (sym first) (leads f (Contains-head f fs)) in
      let both : walks (next ++ fs) ≡ walks next ++ walks fs = flat_map-append (walk edges) next fs in
      let ahead : (m : ℕ) → Contains (walks next ++ walks fs) m → Contains (after ++ walks (next ++ fs)) m = λ m c.
      Contains-append_right after (walks (next ++ fs)) m (subst (λ ns. Contains ns m) (sym both) c) in
      let step : (m : ℕ) → Contains (walk edges f) m → Contains (v ∷ walks next) m = λ m c.
      subst (λ ns. Contains ns m) (walk_step edges v graph there) (subst (λ k. Contains (walk edges k) m) (sym first) c) in
      record {
        front = next ++ fs;
        back = back;
        split = ap (λ ns. next ++ ns) (cons_tail v f rest (fs ++ back) split) ∙ sym (append_assoc next fs back);
        leads = λ m c. elim (Contains-append_cases next fs m c)
            [ inl a ↦ Leads-more edges n v m path a | inr a ↦ leads m (Contains-tail f fs m a) ];
        walked = λ m c. elim (Contains-append_cases reached (walk edges f ++ walks fs) m (walked m c)) [
          | inl a ↦ Contains-append_left after (walks (next ++ fs)) m (Contains-append_left reached (v ∷ []) m a)
          | inr a ↦ elim (Contains-append_cases (walk edges f) (walks fs) m a) [
            | inl b ↦ elim (Contains-cons_cases v (walks next) m (step m b)) [
              | inl e ↦ Contains-append_left after (walks (next ++ fs)) m
                  (Contains-append_right reached (v ∷ []) m (subst (λ k. Contains (v ∷ []) k) e (Contains-head v [])))
              | inr d ↦ ahead m (Contains-append_left (walks next) (walks fs) m d)
            ]
            | inr b ↦ ahead m (Contains-append_right (walks next) (walks fs) m b)
          ]
        ];
      }

  here_met : IsAcyclic edges → (reached : List ℕ) (v : ℕ) (rest : List ℕ) → v < length edges
      → IsMet (reached ++ v ∷ []) (next_of edges v ++ rest) v
  here_met graph reached v rest there =
      let next = next_of edges v in
      let walks = flat_map (walk edges) in
      record {
        front = next;
        back = rest;
        split = refl;
        leads = λ m c. Directly v m c;
        walked = λ m c. subst (λ ns. Contains ns m) (sym (append_assoc reached (v ∷ []) (walks next)))
            (Contains-append_right reached (v ∷ walks next) m (subst (λ ns. Contains ns m) (walk_step edges v graph there) c));
      }

  pub IsInOrder-on : IsAcyclic edges → (reached : List ℕ) (v : ℕ) (rest : List ℕ) → v < length edges → has_vertex reached v ≡ false
      → IsInOrder reached (v ∷ rest) → IsInOrder (reached ++ v ∷ []) (next_of edges v ++ rest)
  IsInOrder-on graph reached v rest there new o =
      let next = next_of edges v in
      let walks = flat_map (walk edges) in
      let added : (if has_vertex reached v then reached else reached ++ v ∷ []) ≡ reached ++ v ∷ [] =
      ap (λ b. if b then reached else reached ++ v ∷ []) new in
      record {
        left = ap (with_vertices (reached ++ v ∷ [])) (flat_map-append (walk edges) next rest)
            ∙ ap (λ ns. with_vertices ns (walks next ++ walks rest)) (sym added)
            ∙ ap (λ ns. with_vertices reached (ns ++ walks rest)) (sym (walk_step edges v graph there)) ∙ o.left;
        met = λ n c. elim (Contains-push_cases reached v n c) [
          | inl a ↦ (let met = o.met n a in
              on_by graph reached v rest there n met.front met.back met.split met.leads met.walked)
          | inr e ↦ subst (λ k. IsMet (reached ++ v ∷ []) (next ++ rest) k) e (here_met graph reached v rest there)
        ];
      }

-- ---- the pending vertices, as they are kept: the next one is the last

pub popped : (old new : List ℕ) (v : ℕ) → old ≡ new ++ v ∷ [] → reverse old ≡ v ∷ reverse new
popped old new v e = ap reverse e ∙ reverse-append new (v ∷ [])

pub pending_there : (edges : List (List ℕ)) (starts : List ℕ) → All (λ next. All (λ (v : ℕ). v < length edges) next) edges
    → All (λ (v : ℕ). v < length edges) starts → (reached old new : List ℕ) (v : ℕ) → IsWalk edges starts reached (reverse old)
    → old ≡ new ++ v ∷ [] → v < length edges
pending_there edges starts there within reached old new v w e =
    let at : Contains (reverse old) v = subst (λ ns. Contains ns v) (sym (popped old new v e)) (Contains-head v (reverse new)) in
    reached_there edges starts there within v (w.sound v (Contains-append_right reached (reverse old) v at))

-- ---- the walk ends: each vertex is reached once, and each edge is followed once

-- what is left to do: the pending vertices, and for each one that isn't reached as many as there are edges, and one
abbrev pub work_left : List (List ℕ) → (reached pending : List ℕ) → ℕ
work_left edges reached pending = length pending + (sum_by (λ (next : List ℕ). length next) edges + 1) * (length edges - length reached)

pub work_left-on : (edges : List (List ℕ)) (reached : List ℕ) (v : ℕ) (rest : List ℕ) → v < length edges → length reached < length edges
    → work_left edges (reached ++ v ∷ []) (next_of edges v ++ rest) < work_left edges reached (v ∷ rest)
work_left-on edges reached v rest there room =
    let next = next_of edges v in
    let all = sum_by (λ (ns : List ℕ). length ns) edges in
    let few : length next ≤ all = get_or-le-sum_by (λ (ns : List ℕ). length ns) edges v [] there in
    let after = length edges - length (reached ++ v ∷ []) in
    let one : length edges - length reached ≡ after + 1 = omega (arith, room, length-append reached (v ∷ [])) in
    rw one (omega (arith, few, length-append next rest))
