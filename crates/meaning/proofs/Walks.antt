-- Where a run of a walk's calls ends, wherever the calls stand in a program's; and how the parts of a walk join.
use Prim.Native.Nat.{ℕ, suc}
use mathlib.Core.Path.{◌≡◌, refl, sym, ◌∙◌, ap, subst}
use mathlib.Core.List.{List, [], ◌∷◌, ◌++◌, append_assoc}
use mathlib.Core.Bool.{true}
use Rattle.definition.specs.Tree.{Fault}
use Rattle.definition.specs.Emit.{Call, create_label, bind_label, refused}
use Rattle.definition.specs.Walk.{next, after, Walk, Calls, ◌>>=◌, ◌>>◌, say, nothing, new_label}
use Rattle.definition.specs.Iec.{Values}
use Rattle.definition.specs.Claims.{Either, left, right}
use Rattle.counting.proofs.Once.{after-append}
use Rattle.meaning.proofs.Calls.{State, finishes, stops, here, at, behind, called, step_at, step, is_branch, branch_at, Reach, still, onward, Jump, Halt, Finish, Lasts, reach-then, jump-reach, reach-lasts, jump-lasts}

-- where a run of some calls comes to
pub data End : Type 0 where
  -- behind them
  through : List ℕ → Values → End
  -- behind a label, by a branch
  to : ℕ → List ℕ → Values → End
  -- one of these two
  leads : ℕ → List ℕ → Values → End
  finished : Values → End
  stopped : Values → End
  -- nowhere so soon: it comes over so many branches
  on : ℕ → End
  impossible : End

-- an end that is not behind the calls
unfoldable pub Away : End → Type 0
Away (through st σ) = ⊥
Away (to l st σ) = Unit {0}
Away (leads l st σ) = ⊥
Away (finished σ) = Unit {0}
Away (stopped σ) = Unit {0}
Away (on f) = Unit {0}
Away impossible = Unit {0}

unfoldable pub Ends : List Call → ℕ → State → List Call → End → Type 0
Ends code w x post (through st σ) = Reach code w x (here post st σ)
Ends code w x post (to l st σ) = Jump code w x (here (behind l code) st σ)
Ends code w x post (leads l st σ) = Either (Reach code w x (here post st σ)) (Jump code w x (here (behind l code) st σ))
Ends code w x post (finished σ) = Finish code w x σ
Ends code w x post (stopped σ) = Halt code w stops x σ
Ends code w x post (on f) = Lasts code w f x
Ends code w x post impossible = ⊥

-- what is asked of a program's calls: a label is bound once, and none is refused
pub record Good (code : List Call) : Type 0 where
  pub once : (l : ℕ) (pre post : List Call) → code ≡ pre ++ (bind_label l ∷ post) → behind l code ≡ post
  pub accepted : (f : Fault) (pre post : List Call) → code ≡ pre ++ (refused f ∷ post) → ⊥

module _ (code : List Call) (w : ℕ) where
  jump-before : {x y z : State} → Reach code w x y → Jump code w y z → Jump code w x z
  jump-before p j = record { from = j.from; there = reach-then code w p j.there; branch = j.branch; goes = j.goes }

  pub before : (z : End) (post : List Call) {x y : State} → Reach code w x y → Ends code w y post z → Ends code w x post z
  unfolding Ends
  before (through st σ) post p q = reach-then code w p q
  before (to l st σ) post p q = jump-before p q
  before (leads l st σ) post p q = elim q [ left r ↦ left (reach-then code w p r) | right j ↦ right (jump-before p j) ]
  before (finished σ) post p q = record { last = q.last; there = reach-then code w p q.there; values = q.values; empty = q.empty; is = q.is }
  before (stopped σ) post p q = record { last = q.last; there = reach-then code w p q.there; values = q.values; is = q.is }
  before (on f) post p q = reach-lasts code w p q
  before impossible post p q = q

  elsewhere : (z : End) (x : State) (post post' : List Call) → Away z → Ends code w x post z → Ends code w x post' z
  unfolding Ends Away
  elsewhere (through st σ) x post post' a q = absurd a
  elsewhere (to l st σ) x post post' a q = q
  elsewhere (leads l st σ) x post post' a q = absurd a
  elsewhere (finished σ) x post post' a q = q
  elsewhere (stopped σ) x post post' a q = q
  elsewhere (on f) x post post' a q = q
  elsewhere impossible x post post' a q = q

  -- a run of a walk's calls, wherever they stand; and one that enters them at a label that they bind
  pub record Does {A : Type 0} (m : Walk A) (st : List ℕ) (σ : Values) (z : End) : Type 0 where
    pub run : (n : ℕ) (post pre : List Call) → code ≡ pre ++ ((m n).1 ++ post) → Ends code w (here ((m n).1 ++ post) st σ) post z

  pub record From {A : Type 0} (l : ℕ) (m : Walk A) (st : List ℕ) (σ : Values) (z : End) : Type 0 where
    pub run : (n : ℕ) (post pre : List Call) → code ≡ pre ++ ((m n).1 ++ post) → Ends code w (here (behind l code) st σ) post z

  inner : (pre a b post : List Call) → code ≡ pre ++ ((a ++ b) ++ post) → code ≡ pre ++ (a ++ (b ++ post))
  inner pre a b post e = e ∙ ap (λ x. pre ++ x) (append_assoc a b post)

  later : (pre a b post : List Call) → code ≡ pre ++ ((a ++ b) ++ post) → code ≡ (pre ++ a) ++ (b ++ post)
  later pre a b post e = inner pre a b post e ∙ sym (append_assoc pre a (b ++ post))

module _ {code : List Call} {w : ℕ} where
  -- ---- one part behind the other

  infixr 10 ◌⨾◌
  pub ◌⨾◌ : {B : Type 0} {m : Calls} {k : Walk B} {st st' : List ℕ} {σ σ' : Values} {z : End} → Does code w m st σ (through st' σ') → Does code w k st' σ' z → Does code w (m >> k) st σ z
  unfolding ◌>>◌ Ends
  ◌⨾◌ {m = m} {k = k} {st = st} {σ = σ} {z = z} p q = record {
    run = λ n post pre e.
        let a = (m n).1 in
        let b = (k (after n a)).1 in
        subst (λ r. Ends code w (here r st σ) post z) (sym (append_assoc a b post))
        (before code w z post (p.run n (b ++ post) pre (inner code w pre a b post e)) (q.run (after n a) post (pre ++ a) (later code w pre a b post e)));
  }

  pub cut : {B : Type 0} {m : Calls} (k : Walk B) {st : List ℕ} {σ : Values} {z : End} → Away z → Does code w m st σ z → Does code w (m >> k) st σ z
  unfolding ◌>>◌
  cut {m = m} k {st = st} {σ = σ} {z = z} out p = record {
    run = λ n post pre e.
        let a = (m n).1 in
        let b = (k (after n a)).1 in
        subst (λ r. Ends code w (here r st σ) post z) (sym (append_assoc a b post)) (elsewhere code w z _ (b ++ post) post out (p.run n (b ++ post) pre (inner code w pre a b post e)));
  }

  -- parts, however they are put together
  together : {B : Type 0} (m k : Calls) (j : Walk B) {st : List ℕ} {σ : Values} {z : End} → Does code w ((m >> k) >> j) st σ z → Does code w (m >> (k >> j)) st σ z
  unfolding ◌>>◌
  together m k j {st = st} {σ = σ} {z = z} p = record {
    run = λ n post pre e.
        let a = (m n).1 in
        let b = (k (after n a)).1 in
        let same : (a ++ b) ++ (j (after n (a ++ b))).1 ≡ a ++ (b ++ (j (after (after n a) b)).1) = append_assoc a b _ ∙ ap (λ x. a ++ (b ++ (j x).1)) (after-append n a b) in
        subst (λ r. Ends code w (here (r ++ post) st σ) post z) same (p.run n post pre (e ∙ ap (λ r. pre ++ (r ++ post)) (sym same)));
  }

  pub opens : {B : Type 0} (h : ℕ) {f : ℕ → Walk B} {st : List ℕ} {σ : Values} {z : End} → ((l : ℕ) → Does code w (f l) st σ z) → Does code w (new_label h >>= f) st σ z
  unfolding ◌>>=◌ new_label after next step step_at called at here
  opens h {f = f} {z = z} p = record {
    run = λ n post pre e. before code w z post (onward refl still) ((p n).run (suc n) post (pre ++ (create_label h ∷ [])) (e ∙ sym (append_assoc pre (create_label h ∷ []) _)));
  }

  pub silent : {st : List ℕ} {σ : Values} → Does code w nothing st σ (through st σ)
  unfolding nothing Ends
  silent = record { run = λ n post pre e. still }

  -- ---- entering at a label

  pub from-later : {B : Type 0} {l : ℕ} (m : Calls) {k : Walk B} {st : List ℕ} {σ : Values} {z : End} → From code w l k st σ z → From code w l (m >> k) st σ z
  unfolding ◌>>◌
  from-later m {k = k} p = record { run = λ n post pre e. let a = (m n).1 in p.run (after n a) post (pre ++ a) (later code w pre a (k (after n a)).1 post e) }

  pub from-inside : {B : Type 0} {l : ℕ} (h : ℕ) {f : ℕ → Walk B} {st : List ℕ} {σ : Values} {z : End} → ((x : ℕ) → From code w l (f x) st σ z) → From code w l (new_label h >>= f) st σ z
  unfolding ◌>>=◌ new_label after next
  from-inside h p = record { run = λ n post pre e. (p n).run (suc n) post (pre ++ (create_label h ∷ [])) (e ∙ sym (append_assoc pre (create_label h ∷ []) _)) }

  -- ---- a jump within a walk

  pub chain : {B : Type 0} {l : ℕ} {m : Walk B} {st st' : List ℕ} {σ σ' : Values} {z : End} → Does code w m st σ (to l st' σ') → From code w l m st' σ' z → Does code w m st σ z
  unfolding Ends
  chain {z = z} p q = record { run = λ n post pre e. before code w z post (jump-reach code w (p.run n post pre e)) (q.run n post pre e) }

  pub from-chain : {B : Type 0} {k l : ℕ} {m : Walk B} {st st' : List ℕ} {σ σ' : Values} {z : End} → From code w k m st σ (to l st' σ') → From code w l m st' σ' z → From code w k m st σ z
  unfolding Ends
  from-chain {z = z} p q = record { run = λ n post pre e. before code w z post (jump-reach code w (p.run n post pre e)) (q.run n post pre e) }

  -- the jump is a branch more
  pub from_back : {B : Type 0} {k l f : ℕ} {m : Walk B} {st st' : List ℕ} {σ σ' : Values} → From code w k m st σ (to l st' σ') → From code w l m st' σ' (on f) → From code w k m st σ (on (suc f))
  unfolding Ends
  from_back p q = record { run = λ n post pre e. jump-lasts code w (p.run n post pre e) (q.run n post pre e) }

  -- ---- one call

  pub says : {st st' : List ℕ} {σ σ' : Values} (c : Call) → ((r : List Call) → called code w c r st σ ≡ at r st' σ') → Does code w (say c) st σ (through st' σ')
  unfolding say Ends step step_at here at
  says c p = record { run = λ n post pre e. onward (p post) still }

  pub jumping : {st st' : List ℕ} {σ σ' : Values} {l : ℕ} (c : Call) → is_branch c ≡ true → ((r : List Call) → called code w c r st σ ≡ at (behind l code) st' σ') → Does code w (say c) st σ (to l st' σ')
  unfolding say Ends step step_at here at branch_at
  jumping {st = st} {σ = σ} c b p = record { run = λ n post pre e. record { from = here (c ∷ post) st σ; there = still; branch = b; goes = p post } }

  pub stopping : {st : List ℕ} {σ : Values} (c : Call) → ((r : List Call) → called code w c r st σ ≡ stops) → Does code w (say c) st σ (stopped σ)
  unfolding say Ends step step_at here at
  stopping {st = st} {σ = σ} c p = record { run = λ n post pre e. record { last = here (c ∷ post) st σ; there = still; values = refl; is = p post } }

  pub finishing : {σ : Values} (c : Call) → ((r : List Call) → called code w c r [] σ ≡ finishes) → Does code w (say c) [] σ (finished σ)
  unfolding say Ends step step_at here at
  finishing {σ = σ} c p = record { run = λ n post pre e. record { last = here (c ∷ post) [] σ; there = still; values = refl; empty = refl; is = p post } }

  pub weaker : {B : Type 0} {m : Walk B} {st st' : List ℕ} {σ σ' : Values} {l : ℕ} → Does code w m st σ (through st' σ') → Does code w m st σ (leads l st' σ')
  unfolding Ends
  weaker p = record { run = λ n post pre e. left (p.run n post pre e) }

  pub weaker' : {B : Type 0} {m : Walk B} {st st' : List ℕ} {σ σ' : Values} {l : ℕ} → Does code w m st σ (to l st' σ') → Does code w m st σ (leads l st' σ')
  unfolding Ends
  weaker' p = record { run = λ n post pre e. right (p.run n post pre e) }

  -- ---- labels that are bound once

  module _ (good : Good code) where
    pub from-here : {B : Type 0} {l : ℕ} {k : Walk B} {st : List ℕ} {σ : Values} {z : End} → Does code w k st σ z → From code w l (say (bind_label l) >> k) st σ z
    unfolding ◌>>◌ say after next
    from-here {l = l} {k = k} {st = st} {σ = σ} {z = z} p = record {
      run = λ n post pre e.
          subst (λ r. Ends code w (here r st σ) post z) (sym (good.once l pre ((k n).1 ++ post) e)) (p.run n post (pre ++ (bind_label l ∷ [])) (e ∙ sym (append_assoc pre (bind_label l ∷ []) _)));
    }

    pub from_last : {l : ℕ} {st : List ℕ} {σ : Values} → From code w l (say (bind_label l)) st σ (through st σ)
    unfolding say Ends
    from_last {l = l} {st = st} {σ = σ} = record {
      run = λ n post pre e. subst (λ r. Reach code w (here r st σ) (here post st σ)) (sym (good.once l pre post e)) still;
    }

    -- coming to a label from above is entering there
    pub entering : {B : Type 0} {l : ℕ} (k : Walk B) {st : List ℕ} {σ : Values} {z : End} → From code w l (say (bind_label l) >> k) st σ z → Does code w (say (bind_label l) >> k) st σ z
    unfolding ◌>>◌ say after next step step_at called at here
    entering {l = l} k {st = st} {σ = σ} {z = z} p = record {
      run = λ n post pre e. before code w z post (onward refl still) (subst (λ r. Ends code w (here r st σ) post z) (good.once l pre ((k n).1 ++ post) e) (p.run n post pre e));
    }

    -- a label behind a walk that leads to it, by falling or by a jump
    pub closing : {m : Calls} {l : ℕ} {st st' : List ℕ} {σ σ' : Values} → Does code w m st σ (leads l st' σ') → Does code w (m >> say (bind_label l)) st σ (through st' σ')
    unfolding ◌>>◌ say Ends step step_at called at here
    closing {m = m} {l = l} {st = st} {st' = st'} {σ = σ} {σ' = σ'} p = record {
      run = λ n post pre e.
          let a = (m n).1 in
          subst (λ r. Reach code w (here r st σ) (here post st' σ')) (sym (append_assoc a (bind_label l ∷ []) post))
          (elim (p.run n (bind_label l ∷ post) pre (inner code w pre a (bind_label l ∷ []) post e)) [
            | left r ↦ reach-then code w r (onward refl still)
            | right j ↦ subst (λ r. Reach code w (here (a ++ (bind_label l ∷ post)) st σ) (here r st' σ')) (good.once l (pre ++ a) post (later code w pre a (bind_label l ∷ []) post e)) (jump-reach code w j)
          ]);
    }

    -- and more behind it
    pub landed : {B : Type 0} {m : Calls} {l : ℕ} {k : Walk B} {st st' : List ℕ} {σ σ' : Values} {z : End} → Does code w m st σ (leads l st' σ') → Does code w k st' σ' z → Does code w (m >> (say (bind_label l) >> k)) st σ z
    landed {m = m} {l = l} {k = k} p q = together m (say (bind_label l)) k (closing p ⨾ q)

    -- emission refuses nothing
    pub refuses : {st : List ℕ} {σ : Values} {z : End} (f : Fault) → Does code w (say (refused f)) st σ z
    unfolding say
    refuses f = record { run = λ n post pre e. absurd (good.accepted f pre post e) }
