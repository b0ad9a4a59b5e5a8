-- The traversal is right: its invariant, and what it means at the end.
use Prim.Native.Nat.{ℕ, ◌+◌, ◌-◌, suc, zero, ◌≤◌}
use mathlib.Core.Path.{◌≡◌, refl, sym, ◌∙◌, ap, subst}
use mathlib.Core.Logic.{◌↔◌}
use mathlib.Core.List.{List, [], ◌∷◌}
use mathlib.Core.Bool.{Bool, true, false, not, ◌&&◌, ◌||◌}
use mathlib.Core.Option.{Option, some, none}
use lib.ListN.{length}
use lib.Dec.{eqb, ltb}
use borrow.Author.Tests.{eqb-true, eqb-false, ltb-true, ltb-false, not-false}
use native.Mathlib.Omega.{arith}
use Rattle.definition.specs.Limits.{astray, bad_height}
use Rattle.definition.specs.Opcode.{shift}
use Rattle.definition.specs.Check.{OneOf, here, later}
use Rattle.field.proofs.Tests.{or-false, or_left, or_right}
use Rattle.field.proofs.Results.{never, some_is}
use Rattle.image_check.specs.Graph.{Node, Table, marked, and_then, wrong, behind, meet_at, meet, meet_all, expand, traverse, nothing, verdict, traversed, Nowhere, Walked, Reached, Strays, Faults, above, empty, unempty, twice, one, blank}
use Rattle.image_check.proofs.Marks.{marked_other, marked-same, blank-marked}

-- what is right with a height, and what is wrong
pub record Right (depth : ℕ) (nd : Node) (g : ℕ) : Type 0 where
  pub low : g ≤ depth
  pub enough : nd.needs ≤ g
  pub over : nd.stops ≡ true → g ≡ 0

and_right : (a : Bool) (g : ℕ) → (a && ltb 0 g) ≡ false → a ≡ true → g ≡ 0
and_right true g e q = let k = ltb-false 0 g e in omega arith
and_right false g e q = never (cc)

wrong-false : (depth : ℕ) (nd : Node) (g : ℕ) → wrong depth nd g ≡ false → Right depth nd g
unfolding wrong
wrong-false depth nd g e =
    let a = or-false (ltb depth g) _ e in
    let b = or-false (ltb g nd.needs) _ a.1 in
    record { low = ltb-false depth g a.0; enough = ltb-false g nd.needs b.0; over = λ s. and_right nd.stops g b.1 s }

wrong-true : (node : ℕ → Option Node) (depth p : ℕ) (nd : Node) (g : ℕ) → Reached node p g → node p ≡ some nd → wrong depth nd g ≡ true → Faults node depth
unfolding wrong
wrong-true node depth p nd g r n e = by (ltb depth g) refl (ltb g nd.needs) refl nd.stops refl (ltb 0 g) refl e
  where
    by : (a : Bool) → ltb depth g ≡ a → (b : Bool) → ltb g nd.needs ≡ b → (c : Bool) → nd.stops ≡ c → (d : Bool) → ltb 0 g ≡ d → (a || (b || (c && d))) ≡ true → Faults node depth
    by true x b y c z d w k = above r n (ltb-true depth g x)
    by false x true y c z d w k = empty r n (ltb-true g nd.needs y)
    by false x false y true z true w k = unempty r n z (ltb-true 0 g w)
    by false x false y true z false w k = never (cc)
    by false x false y false z d w k = never (cc)

behind-right : (depth : ℕ) (nd : Node) (g : ℕ) → wrong depth nd g ≡ false → behind depth nd g ≡ shift nd.effect g
unfolding behind
behind-right depth nd g e = ap (λ b. elim b as (λ c. ℕ) [ true ↦ 0 | false ↦ shift nd.effect g ]) e

module _ (node : ℕ → Option Node) (depth L : ℕ) (bounded : (p : ℕ) (nd : Node) → node p ≡ some nd → p ≤ L) where
  -- an exit was met; as long as nothing is at fault, at this height
  pub record Met (t : Table) (h : ℕ) (q : Option ℕ) : Type 0 where
    pub place : ℕ
    pub is : q ≡ some place
    pub mark : ℕ
    pub has : t.marks place ≡ suc mark
    pub same : t.bad ≡ false → mark ≡ h

  -- a node's exits were looked at
  pub record Closed (t : Table) (g : ℕ) (nd : Node) : Type 0 where
    pub met : (q : Option ℕ) → OneOf q nd.exits → Met t (shift nd.effect g) q
    pub fine : t.bad ≡ false → Right depth nd g

  pub data Status (current : ℕ → Type 0) (t : Table) (p g : ℕ) (nd : Node) : Type 0 where
    looking : current p → Status current t p g nd
    waiting : OneOf p t.work → Status current t p g nd
    closed : Closed t g nd → Status current t p g nd

  -- a fault has its witness, or each mark is the height of some run
  pub data Real (t : Table) : Type 0 where
    faulted : t.bad ≡ true → Faults node depth → Real t
    reached : t.bad ≡ false → ((p g : ℕ) → t.marks p ≡ suc g → Reached node p g) → Real t

  pub record Inv (current : ℕ → Type 0) (t : Table) : Type 0 where
    pub walked : (p g : ℕ) → t.marks p ≡ suc g → Walked node (some p)
    pub noded : (p g : ℕ) → t.marks p ≡ suc g → (nd : Node) × (node p ≡ some nd)
    pub worked : (p : ℕ) → OneOf p t.work → (g : ℕ) × (t.marks p ≡ suc g)
    pub real : Real t
    pub status : (p g : ℕ) (nd : Node) → t.marks p ≡ suc g → node p ≡ some nd → Status current t p g nd

  pub record Grows (t u : Table) : Type 0 where
    pub kept : (p g : ℕ) → t.marks p ≡ suc g → u.marks p ≡ suc g
    pub sound : u.bad ≡ false → t.bad ≡ false
    pub works : (p : ℕ) → OneOf p t.work → OneOf p u.work

  pub left_over : Table → ℕ
  left_over t = length t.work + blank t.marks (suc L)

  pub data Went (current : ℕ → Type 0) (h : ℕ) (t : Table) (qs : List (Option ℕ)) : Option Table → Type 0 where
    off : Strays node → Went current h t qs none
    on : {u : Table} → Inv current u → Grows t u → ((q : Option ℕ) → OneOf q qs → Met u h q) → left_over u ≡ left_over t → Went current h t qs (some u)

  grows_then : {t u v : Table} → Grows t u → Grows u v → Grows t v
  grows_then a b = record { kept = λ p g e. b.kept p g (a.kept p g e); sound = λ e. a.sound (b.sound e); works = λ p i. b.works p (a.works p i) }

  met-grows : {t u : Table} {h : ℕ} {q : Option ℕ} → Grows t u → Met t h q → Met u h q
  met-grows w m = record { place = m.place; is = m.is; mark = m.mark; has = w.kept _ _ m.has; same = λ b. m.same (w.sound b) }

  status-grows : {current : ℕ → Type 0} {t u : Table} {p g : ℕ} {nd : Node} → Grows t u → Status current t p g nd → Status current u p g nd
  status-grows w (looking c) = looking c
  status-grows w (waiting i) = waiting (w.works _ i)
  status-grows w (closed c) = closed (record { met = λ q i. met-grows w (c.met q i); fine = λ b. c.fine (w.sound b) })

  -- ---- a place is met for the first time
  module _ (current : ℕ → Type 0) (h : ℕ) (t : Table) (inv : Inv current t) (q : ℕ) (walk : Walked node (some q)) (reach : t.bad ≡ false → Reached node q h) where
    first-went : (nd : Node) → node q ≡ some nd → t.marks q ≡ 0 → Went current h t (some q ∷ []) (some (record { marks = marked t.marks q h; work = q ∷ t.work; bad = t.bad }))
    unfolding left_over
    first-went nd n z = on inv' grows met (let k = blank-marked t.marks q h (suc L) z (let b = bounded q nd n in omega arith) in omega arith)
      where
        u : Table
        u = record { marks = marked t.marks q h; work = q ∷ t.work; bad = t.bad }

        grows : Grows t u
        grows = record { kept = λ p g e. marked_other t.marks q h p (λ k. let a : t.marks p ≡ 0 = ap t.marks k ∙ z in omega arith) ∙ e; sound = λ b. b; works = λ p i. later i }

        met : (x : Option ℕ) → OneOf x (some q ∷ []) → Met u h x
        met x (here e) = record { place = q; is = e; mark = h; has = marked-same t.marks q h q refl; same = λ b. refl }
        met x (later i) = elim i [ ]

        -- a mark is the new one or an old one
        by : (P : ℕ → ℕ → Type 0) → P q h → ((p g : ℕ) → t.marks p ≡ suc g → P p g) → (p g : ℕ) → marked t.marks q h p ≡ suc g → P p g
        by P a f p g e = go (eqb p q) refl
          where
            go : (b : Bool) → eqb p q ≡ b → P p g
            go true k =
                let pq : p ≡ q = eqb-true p q k in
                let gh : g ≡ h = let m = marked-same t.marks q h p pq in omega arith in
                subst (λ x. P x g) (sym pq) (subst (λ x. P q x) (sym gh) a)
            go false k = f p g (sym (marked_other t.marks q h p (eqb-false p q k)) ∙ e)

        worked : (p : ℕ) → OneOf p (q ∷ t.work) → (g : ℕ) × (marked t.marks q h p ≡ suc g)
        worked p (here e) = (h, marked-same t.marks q h p e)
        worked p (later i) = let w = inv.worked p i in (w.0, grows.kept p w.0 w.1)

        real : Real t → Real u
        real (faulted b f) = faulted b f
        real (reached b f) = reached b (by (λ p g. Reached node p g) (reach b) f)

        inv' : Inv current u
        inv' = record {
          walked = by (λ p g. Walked node (some p)) walk inv.walked;
          noded = by (λ p g. (x : Node) × (node p ≡ some x)) (nd, n) inv.noded;
          worked = worked;
          real = real inv.real;
          status = λ p g x e k. by (λ p g. (x : Node) → node p ≡ some x → Status current u p g x) (λ x k. waiting (here refl)) (λ p g e x k. status-grows grows (inv.status p g x e k)) p g e x k;
        }

    -- ---- or once more
    again-went : (g : ℕ) (nd : Node) → node q ≡ some nd → t.marks q ≡ suc g → Went current h t (some q ∷ []) (some (record { marks = t.marks; work = t.work; bad = t.bad || not (eqb g h) }))
    unfolding left_over
    again-went g nd n z = on inv' grows met refl
      where
        u : Table
        u = record { marks = t.marks; work = t.work; bad = t.bad || not (eqb g h) }

        grows : Grows t u
        grows = record { kept = λ p g e. e; sound = λ b. (or-false t.bad _ b).0; works = λ p i. i }

        met : (x : Option ℕ) → OneOf x (some q ∷ []) → Met u h x
        met x (here e) = record { place = q; is = e; mark = g; has = z; same = λ b. eqb-true g h (not-false (eqb g h) (or-false t.bad _ b).1) }
        met x (later i) = elim i [ ]

        real : Real t → Real u
        real (faulted b f) = faulted (or_left t.bad _ b) f
        real (reached b f) = go (eqb g h) refl
          where
            go : (x : Bool) → eqb g h ≡ x → Real u
            go true k = reached (ap (λ y. y || not (eqb g h)) b ∙ ap not k) f
            go false k = faulted (or_right t.bad _ (ap not k)) (twice (f q g z) (reach b) n (eqb-false g h k))

        inv' : Inv current u
        inv' = record { walked = inv.walked; noded = inv.noded; worked = inv.worked; real = real inv.real; status = λ p g x e k. status-grows grows (inv.status p g x e k) }

  -- ---- one exit, and all exits of a node
  meet-went : (current : ℕ → Type 0) (h : ℕ) (t : Table) → Inv current t → (q : Option ℕ) → Walked node q → ((p : ℕ) → q ≡ some p → t.bad ≡ false → Reached node p h) → Went current h t (q ∷ []) (meet node h t q)
  unfolding meet meet_at Nowhere
  meet-went current h t inv none walk reach = off (record { place = none; walk = walk; off = tt })
  meet-went current h t inv (some q) walk reach = by (node q) refl (t.marks q) refl
    where
      by : (x : Option Node) → node q ≡ x → (m : ℕ) → t.marks q ≡ m → Went current h t (some q ∷ []) (meet_at h t q x m)
      by none n m e = off (record { place = some q; walk = walk; off = n })
      by (some nd) n zero e = first-went current h t inv q walk (reach q refl) nd n e
      by (some nd) n (suc g) e = again-went current h t inv q walk (reach q refl) g nd n e

  all-went : (current : ℕ → Type 0) (h : ℕ) (qs : List (Option ℕ)) (t : Table) → Inv current t → ((q : Option ℕ) → OneOf q qs → Walked node q) → ((p : ℕ) → OneOf (some p) qs → t.bad ≡ false → Reached node p h) → Went current h t qs (meet_all node h qs t)
  unfolding meet_all and_then
  all-went current h [] t inv walks reach = on inv (record { kept = λ p g e. e; sound = λ b. b; works = λ p i. i }) (λ q i. elim i [ ]) refl
  all-went current h (q ∷ qs) t inv walks reach = by (meet node h t q) (meet-went current h t inv q (walks q (here refl)) (λ p e. reach p (here (sym e)))) (λ u i r. all-went current h qs u i (λ x j. walks x (later j)) r)
    where
      by : (x : Option Table) → Went current h t (q ∷ []) x → ((u : Table) → Inv current u → ((p : ℕ) → OneOf (some p) qs → u.bad ≡ false → Reached node p h) → Went current h u qs (meet_all node h qs u))
          → Went current h t (q ∷ qs) (and_then x (λ u. meet_all node h qs u))
      by none (off s) more = off s
      by (some u) (on i w m l) more = then (meet_all node h qs u) (more u i (λ p j b. reach p (later j) (w.sound b)))
        where
          met : (v : Table) → Grows u v → ((x : Option ℕ) → OneOf x qs → Met v h x) → (x : Option ℕ) → OneOf x (q ∷ qs) → Met v h x
          met v w' m' x (here e) = met-grows w' (m x (here e))
          met v w' m' x (later j) = m' x j

          then : (y : Option Table) → Went current h u qs y → Went current h t (q ∷ qs) y
          then none (off s) = off s
          then (some v) (on i' w' m' l') = on i' (grows_then w w') (met v w' m') (l' ∙ l)

  -- ---- a place is taken from the worklist
  abbrev nobody : ℕ → Type 0
  nobody p = ⊥

  abbrev taken : (ℕ → ℕ) → List ℕ → Bool → Table
  taken m w b = record { marks = m; work = w; bad = b }

  module _ (m : ℕ → ℕ) (p : ℕ) (ps : List ℕ) (b : Bool) (inv : Inv nobody (taken m (p ∷ ps) b)) (g : ℕ) (e : m p ≡ suc g) (nd : Node) (n : node p ≡ some nd) where
    now : Table
    now = record { marks = m; work = ps; bad = b || wrong depth nd g }

    take-real : Real (taken m (p ∷ ps) b) → Real now
    unfolding now
    take-real (faulted x f) = faulted (or_left b _ x) f
    take-real (reached x f) = go (wrong depth nd g) refl
      where
        go : (y : Bool) → wrong depth nd g ≡ y → Real now
        go true k = faulted (or_right b _ k) (wrong-true node depth p nd g (f p g e) n k)
        go false k = reached (ap (λ z. z || wrong depth nd g) x ∙ k) f

    take-status : (q h : ℕ) (x : Node) → Status nobody (taken m (p ∷ ps) b) q h x → Status (λ y. y ≡ p) now q h x
    unfolding now
    take-status q h x (looking c) = absurd c
    take-status q h x (waiting (here c)) = looking c
    take-status q h x (waiting (later i)) = waiting i
    take-status q h x (closed c) = closed (record {
      met = λ y i. let a = c.met y i in record { place = a.place; is = a.is; mark = a.mark; has = a.has; same = λ f. a.same (or-false b _ f).0 };
      fine = λ f. c.fine (or-false b _ f).0;
    })

    take-inv : Inv (λ y. y ≡ p) now
    unfolding now
    take-inv = record {
      walked = inv.walked;
      noded = inv.noded;
      worked = λ q i. inv.worked q (later i);
      real = take-real inv.real;
      status = λ q h x f k. take-status q h x (inv.status q h x f k);
    }

    -- its exits are all met
    done-inv : (u : Table) → Inv (λ y. y ≡ p) u → Grows now u → ((q : Option ℕ) → OneOf q nd.exits → Met u (behind depth nd g) q) → Inv nobody u
    unfolding now
    done-inv u i w met = record { walked = i.walked; noded = i.noded; worked = i.worked; real = i.real; status = λ q h x f k. by q h x f k (i.status q h x f k) }
      where
        mine : Closed u g nd
        mine = record { met = λ q i. let a = met q i in record { place = a.place; is = a.is; mark = a.mark; has = a.has; same = λ f. a.same f ∙ behind-right depth nd g (or-false b _ (w.sound f)).1 }; fine = λ f. wrong-false depth nd g (or-false b _ (w.sound f)).1 }

        by : (q h : ℕ) (x : Node) → u.marks q ≡ suc h → node q ≡ some x → Status (λ y. y ≡ p) u q h x → Status nobody u q h x
        by q h x f k (looking c) =
            let a : g ≡ h = let y = w.kept p g e in let z = ap u.marks c in omega arith in
            let d : nd ≡ x = some_is (sym n ∙ (ap node (sym c) ∙ k)) in
            closed (subst (λ y. Closed u y x) a (subst (λ y. Closed u g y) d mine))
        by q h x f k (waiting j) = waiting j
        by q h x f k (closed c) = closed c

    take-went : Went (λ y. y ≡ p) (behind depth nd g) now nd.exits (meet_all node (behind depth nd g) nd.exits now)
    unfolding now
    take-went = all-went (λ y. y ≡ p) (behind depth nd g) nd.exits now take-inv
        (λ q i. Walked.leads (inv.walked p g e) n i)
        (λ q i f. by q i inv.real (or-false b _ f))
      where
        by : (q : ℕ) → OneOf (some q) nd.exits → Real (taken m (p ∷ ps) b) → (b ≡ false) × (wrong depth nd g ≡ false) → Reached node q (behind depth nd g)
        by q i (faulted x f) z = never (cc)
        by q i (reached x f) z = Reached.leads (f p g e) n (wrong-false depth nd g z.1).enough i (behind-right depth nd g z.1)

  -- ---- to the end
  pub data End : Option Table → Type 0 where
    off : Strays node → End none
    over : {t : Table} → Inv nobody t → Met t 0 (some 0) → t.work ≡ [] → End (some t)

  traverse-end : (n : ℕ) (m : ℕ → ℕ) (w : List ℕ) (b : Bool) → Inv nobody (taken m w b) → Met (taken m w b) 0 (some 0) → left_over (taken m w b) ≤ n → End (traverse node depth n m w b)
  unfolding traverse and_then expand left_over now
  traverse-end zero m [] b inv z le = over inv z refl
  traverse-end zero m (p ∷ ps) b inv z le = absurd (omega arith)
  traverse-end (suc n) m [] b inv z le = over inv z refl
  traverse-end (suc n) m (p ∷ ps) b inv z le =
      let a = inv.worked p (here refl) in
      let g : ℕ = a.0 in
      let e : m p ≡ suc g = a.1 in
      let d = inv.noded p g e in
      let nd : Node = d.0 in
      let k : node p ≡ some nd = d.1 in
      let s : m p - 1 ≡ g = omega arith in
      subst (λ x. End (and_then x (λ u. traverse node depth n u.marks u.work u.bad)))
      (sym (ap (λ x. expand node depth x (m p - 1) (taken m ps b)) k ∙ ap (λ x. expand node depth (some nd) x (taken m ps b)) s))
      (by g e nd k (meet_all node (behind depth nd g) nd.exits (now m p ps b inv g e nd k)) (take-went m p ps b inv g e nd k) (λ u i y l. traverse-end n u.marks u.work u.bad i y l))
    where
      by : (g : ℕ) (e : m p ≡ suc g) (nd : Node) (k : node p ≡ some nd) (x : Option Table) → Went (λ y. y ≡ p) (behind depth nd g) (now m p ps b inv g e nd k) nd.exits x
          → ((u : Table) → Inv nobody u → Met u 0 (some 0) → left_over u ≤ n → End (traverse node depth n u.marks u.work u.bad))
          → End (and_then x (λ u. traverse node depth n u.marks u.work u.bad))
      by g e nd k none (off s) more = off s
      by g e nd k (some u) (on i w met l) more = more u (done-inv m p ps b inv g e nd k u i w met)
          (record { place = z.place; is = z.is; mark = z.mark; has = w.kept _ _ z.has; same = λ f. z.same (or-false b _ (w.sound f)).0 })
          (omega arith)

  blank_none : (n : ℕ) → blank (λ x. 0) n ≡ n
  unfolding blank one
  blank_none zero = refl
  blank_none (suc n) = let a = blank_none n in omega arith

  nothing-inv : Inv nobody nothing
  unfolding nothing
  nothing-inv = record {
    walked = λ p g e. absurd (omega arith);
    noded = λ p g e. absurd (omega arith);
    worked = λ p i. elim i [ ];
    real = reached refl (λ p g e. absurd (omega arith));
    status = λ p g nd e k. absurd (omega arith);
  }

  traversed-end : End (traversed node depth L)
  unfolding traversed and_then nothing left_over
  traversed-end = by (meet node 0 nothing (some 0)) (meet-went nobody 0 nothing nothing-inv (some 0) Walked.begins (λ p e b. subst (λ x. Reached node x 0) (some_is e) Reached.begins))
    where
      by : (x : Option Table) → Went nobody 0 nothing (some 0 ∷ []) x → End (and_then x (λ t. traverse node depth (suc L) t.marks t.work t.bad))
      by none (off s) = off s
      by (some t) (on i w m l) = traverse-end (suc L) t.marks t.work t.bad i (m (some 0) (here refl)) (let k = blank_none (suc L) in omega arith)

  -- ---- what the end says
  module _ (t : Table) (inv : Inv nobody t) (first : Met t 0 (some 0)) (over : t.work ≡ []) where
    all_closed : (p g : ℕ) (nd : Node) → t.marks p ≡ suc g → node p ≡ some nd → Closed t g nd
    all_closed p g nd e k = by (inv.status p g nd e k)
      where
        by : Status nobody t p g nd → Closed t g nd
        by (looking c) = absurd c
        by (waiting i) = elim (subst (λ w. OneOf p w) over i) [ ]
        by (closed c) = c

    walk-marked : {q : Option ℕ} → Walked node q → (p : ℕ) × (q ≡ some p) × (g : ℕ) × (t.marks p ≡ suc g)
    walk-marked Walked.begins = (first.place, first.is, first.mark, first.has)
    walk-marked (Walked.leads {p = p} {nd = nd} {q = q} w k i) =
        let a = walk-marked w in
        let pa : p ≡ a.0 = some_is a.1 in
        let m = (all_closed a.0 a.2 nd a.3 (ap node (sym pa) ∙ k)).met q i in
        (m.place, m.is, m.mark, m.has)

    not-astray : Strays node → ⊥
    unfolding Nowhere
    not-astray s = by s.place (walk-marked s.walk) s.off
      where
        by : (q : Option ℕ) → (p : ℕ) × (q ≡ some p) × (g : ℕ) × (t.marks p ≡ suc g) → Nowhere node q → ⊥
        by none a o = never (cc)
        by (some p) a o =
            let pa : p ≡ a.0 = some_is a.1 in
            let d = inv.noded a.0 a.2 a.3 in
            let k : none ≡ some d.0 = sym o ∙ (ap node pa ∙ d.1) in
            never (cc)

    module _ (good : t.bad ≡ false) where
      reach-marked : {p h : ℕ} → Reached node p h → t.marks p ≡ suc h
      reach-marked Reached.begins = let z : 0 ≡ first.place = some_is first.is in ap t.marks z ∙ (first.has ∙ ap suc (first.same good))
      reach-marked (Reached.leads {p = p} {g = g} {nd = nd} {q = q} {h = h} r k le i e) =
          let m = (all_closed p g nd (reach-marked r) k).met (some q) i in
          let z : q ≡ m.place = some_is m.is in
          ap t.marks z ∙ (m.has ∙ ap suc (m.same good ∙ sym e))

      no-fault : Faults node depth → ⊥
      no-fault (above {p = p} {g = g} {nd = nd} r k lt) = let c = ((all_closed p g nd (reach-marked r) k).fine good).low in omega arith
      no-fault (empty {p = p} {g = g} {nd = nd} r k lt) = let c = ((all_closed p g nd (reach-marked r) k).fine good).enough in omega arith
      no-fault (unempty {p = p} {g = g} {nd = nd} r k s lt) = let c = ((all_closed p g nd (reach-marked r) k).fine good).over s in omega arith
      no-fault (twice {p = p} {g = g} {h = h} r q k n) = n (let a = reach-marked r in let b = reach-marked q in omega arith)

  pub record Decided (answer : ℕ) : Type 0 where
    pub strays : (answer ≡ astray) ↔ Strays node
    pub faults : (answer ≡ bad_height) ↔ ((Strays node → ⊥) × Faults node depth)
    pub neither : (answer ≡ 0) ↔ ((Strays node → ⊥) × (Faults node depth → ⊥))

  end-decided : (x : Option Table) → End x → Decided (verdict x)
  unfolding verdict
  end-decided none (off s) = record { strays = (λ e. s, λ y. refl); faults = (λ e. absurd (omega arith), λ y. absurd (y.0 s)); neither = (λ e. absurd (omega arith), λ y. absurd (y.0 s)) }
  end-decided (some t) (over inv first w) = by t.bad refl inv.real
    where
      sound : Strays node → ⊥
      sound = not-astray t inv first w

      by : (b : Bool) → t.bad ≡ b → Real t → Decided (elim b [ true ↦ bad_height | false ↦ 0 ])
      by true e (faulted x f) = record { strays = (λ y. absurd (omega arith), λ y. absurd (sound y)); faults = (λ y. (sound, f), λ y. refl); neither = (λ y. absurd (omega arith), λ y. absurd (y.1 f)) }
      by true e (reached x f) = never (cc)
      by false e r = record {
        strays = (λ y. absurd (omega arith), λ y. absurd (sound y));
        faults = (λ y. absurd (omega arith), λ y. absurd (no-fault t inv first w e y.1));
        neither = (λ y. (sound, no-fault t inv first w e), λ y. refl);
      }

  -- 20 exactly if a walk goes astray; 21 exactly if none does and a height is at fault; 0 exactly if neither
  pub decided : Decided (verdict (traversed node depth L))
  decided = end-decided (traversed node depth L) traversed-end
