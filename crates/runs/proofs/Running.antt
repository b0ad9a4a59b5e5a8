-- A run of code that is linked rows never breaks off, never passes the depth, and finishes at height 0; and its branches by place.
use Prim.Native.Nat.{ℕ, ◌+◌, ◌-◌, suc, zero, ◌≤◌, ◌<◌, zero-le, suc-le-suc}
use mathlib.Core.Path.{◌≡◌, refl, sym, ◌∙◌, ap, subst}
use mathlib.Core.List.{List, [], ◌∷◌, ◌++◌, map, map-append}
use mathlib.Core.Bool.{Bool, true, false}
use mathlib.Core.Option.{Option, some}
use lib.ListN.{length, get_or, length-append}
use lib.Seq.{get_or-append-add}
use lib.Dec.{eqb, ltb}
use borrow.Author.Tests.{ne_eqb, eqb-true, le-ltb}
use native.Mathlib.Decide.{dec_lt}
use native.Mathlib.Omega.{arith}
use native.Mathlib.Nat.{le_of_suc-le-suc, not-suc-le-zero}
use Rattle.definition.specs.Field.{has}
use Rattle.definition.specs.Opcode.{Role, Sheet, opcode, role_of, size, needs, effect, shift, Flow, onward, away, either, stop, flow}
use Rattle.definition.specs.Emit.{PendingPatch}
use Rattle.definition.specs.Rewrite.{opcode_of, decode, starts_from}
use Rattle.definition.specs.Runs.{State, Break, empty_stack, Step, goes, finishes, waits, breaks, target, jump, branch, follow, out_of_outcomes, execute, step, Stand, stand, run_over, run}
use Rattle.field.proofs.Results.{never}
use Rattle.runs.proofs.Heights.{falls, Stops}
use Rattle.runs.proofs.Steps.{over-end, over-start}
use Rattle.runs.proofs.Rows.{Row, next-height, bytes_of, place_at, aim_at, height-at, height-first, height-end, place-first, place_end, patch_here, patches_by, patches-same, Leads, nowhere, to, leads-to, RowOk, Linked, finished, follows}
use Rattle.runs.proofs.Emitted.{Stands}
use Rattle.runs.proofs.Passes.{ins_of, Reads, decode-rows}
use Rattle.definition.specs.Claims.{Either, left, right, branches, Fine, is_branch, branches_from, branch_places, LeadsTo}
use Rattle.field.proofs.Lists.{has_first, has-later}

-- ---- what the bytes of rows say at row i

pub record RowAt (Λ : ℕ → ℕ) (D : ℕ) (s : Sheet) (at : ℕ) (rs : List Row) (e i : ℕ) (r : Row) : Type 0 where
  pub ok : RowOk Λ D r
  pub aim : aim_at rs i ≡ r.aim
  pub here : height-at rs e i ≡ r.height
  pub next : falls (flow r.role) ≡ true → height-at rs e (suc i) ≡ next-height r
  pub after : place_at rs (suc i) ≡ place_at rs i + size r.role
  pub inside : place_at rs i < length (bytes_of s rs)
  pub byte : get_or (bytes_of s rs) (place_at rs i) 0 ≡ opcode s r.role
  pub start : has (starts_from at (map (ins_of s) rs)) (at + place_at rs i) ≡ true

pub row-at : {Λ : ℕ → ℕ} {D e : ℕ} (s : Sheet) (at : ℕ) {rs : List Row} → Linked Λ D rs e → (i : ℕ) → i < length rs → (r : Row) × RowAt Λ D s at rs e i r
unfolding aim_at height-at place_at bytes_of starts_from ins_of
row-at s at finished i lt = absurd (not-suc-le-zero lt)
row-at {e = e} s at (follows {r = r} {rs = rs} k f l) zero lt = (
  r,
  record {
    ok = k;
    aim = refl;
    here = refl;
    next = λ t. height-first rs e ∙ f t;
    after = let p = place-first rs in let z = k.sized in omega arith;
    inside = suc-le-suc zero-le;
    byte = refl;
    start = has_first at _ (at + 0) (let n : at + 0 ≡ at = omega arith in n);
  },
)
row-at {Λ = Λ} {D = D} {e = e} s at (follows {r = q} {rs = rs} k f l) (suc i) lt =
    let w : ℕ = suc (length q.operand) in
    let x = row-at s (at + w) l i (le_of_suc-le-suc lt) in
    let r : Row = x.0 in
    let a : RowAt Λ D s (at + w) rs e i r = x.1 in (
      r,
      record {
        ok = a.ok;
        aim = a.aim;
        here = a.here;
        next = a.next;
        after = let p = a.after in omega arith;
        inside = let p = a.inside in omega (arith, length-append q.operand (bytes_of s rs));
        byte = get_or-append-add (opcode s q.role ∷ q.operand) (bytes_of s rs) (place_at rs i) 0 ∙ a.byte;
        start = has-later at _ (at + (w + place_at rs i)) (subst (λ y. has (starts_from (at + w) (map (ins_of s) rs)) y ≡ true) (let n : at + w + place_at rs i ≡ at + (w + place_at rs i) = omega arith in n) a.start);
      },
    )

aimed-branch : {Λ : ℕ → ℕ} {g l : ℕ} {b : Bool} {a : Option ℕ} → Leads Λ g b a → a ≡ some l → b ≡ true
aimed-branch nowhere e = never (cc)
aimed-branch (to p) e = refl

-- ---- steps

-- a step from a state of height h, over rows of depth D
pub data Good (rs : List Row) (D h : ℕ) : Step → Type 0 where
  on : {y : State} → Stands rs 0 y.place y.height → y.height ≤ D → Good rs D h (goes y)
  over : h ≡ 0 → Good rs D h finishes
  wait : Good rs D h waits

-- a step, by what it asks of its place
step_end : (s : Sheet) (code : List ℕ) (x : State) → x.place ≡ length code → step s code x ≡ finishes
unfolding step
step_end s code x e = over-end (starts_from 0 (decode s code)) s code x e

step_row : (s : Sheet) (code : List ℕ) (x : State) (r : Role) → (x.place ≡ length code → ⊥) → has (starts_from 0 (decode s code)) x.place ≡ true → role_of s (get_or code x.place 0) ≡ some r
    → step s code x ≡ execute r code x
unfolding step
step_row s code x r n h e = over-start (starts_from 0 (decode s code)) s code x n r h e

module _ {Λ : ℕ → ℕ} {D : ℕ} (s : Sheet) (rs : List Row) (linked : Linked Λ D rs 0) (T : ℕ → ℕ)
    (leads : (i l : ℕ) → aim_at rs i ≡ some l → (target (bytes_of s rs) (place_at rs (suc i)) ≡ some (T l)) × Stands rs 0 (T l) (Λ l)) where
  -- from row i, to the next row or to the label's
  module _ (i : ℕ) (r : Row) (a : RowAt Λ D s 0 rs 0 i r) (lt : i < length rs) (p h : ℕ) (pp : p ≡ place_at rs i) (hh : h ≡ r.height) where
    new-height : shift (effect r.role) h ≡ next-height r
    unfolding next-height
    new-height = ap (λ y. shift (effect r.role) y) hh

    falls-good : (os : List Bool) → falls (flow r.role) ≡ true → Good rs D h (goes (record { place = p + size r.role; height = shift (effect r.role) h; outcomes = os }))
    falls-good os f = on (record { index = suc i; within = lt; place = ap (λ y. y + size r.role) pp ∙ sym a.after; height = a.next f ∙ sym new-height })
        (subst (λ y. y ≤ D) (sym new-height) a.ok.low)

    jumps-good : (os : List Bool) → branches (flow r.role) ≡ true → Good rs D h (jump (shift (effect r.role) h) os (target (bytes_of s rs) (p + size r.role)))
    unfolding jump
    jumps-good os b =
        let l = leads-to a.ok.leads b in
        let t = leads i l.0 (a.aim ∙ l.1) in
        let next : p + size r.role ≡ place_at rs (suc i) = ap (λ y. y + size r.role) pp ∙ sym a.after in
        subst (λ y. Good rs D h (jump (shift (effect r.role) h) os y)) (sym (ap (λ y. target (bytes_of s rs) y) next ∙ t.0))
        (on (subst (λ y. Stands rs 0 (T l.0) y) (l.2 ∙ sym new-height) t.1) (subst (λ y. y ≤ D) (sym new-height) a.ok.low))

    branch-good : (os : List Bool) → falls (flow r.role) ≡ true → branches (flow r.role) ≡ true → Good rs D h (branch (bytes_of s rs) (p + size r.role) (shift (effect r.role) h) os)
    unfolding branch
    branch-good [] f b = wait
    branch-good (true ∷ os) f b = jumps-good os b
    branch-good (false ∷ os) f b = falls-good os f

    follow-good : (f : Flow) (os : List Bool) → flow r.role ≡ f → Good rs D h (follow f (bytes_of s rs) (p + size r.role) (shift (effect r.role) h) os)
    unfolding follow falls branches Stops
    follow-good onward os e = falls-good os (ap falls e)
    follow-good away os e = jumps-good os (ap branches e)
    follow-good either os e = branch-good os (ap falls e) (ap branches e)
    follow-good stop os e = over (hh ∙ a.ok.stops (subst (λ y. Stops y) (sym e) tt))

  execute-good : (i : ℕ) (r : Row) → RowAt Λ D s 0 rs 0 i r → i < length rs → (x : State) → x.place ≡ place_at rs i → x.height ≡ r.height → Good rs D x.height (execute r.role (bytes_of s rs) x)
  unfolding execute
  execute-good i r a lt x pp hh = by (out_of_outcomes (flow r.role) x.outcomes)
    where
      next : Step
      next = follow (flow r.role) (bytes_of s rs) (x.place + size r.role) (shift (effect r.role) x.height) x.outcomes

      enough : ltb x.height (needs r.role) ≡ false
      enough = le-ltb x.height (needs r.role) (subst (λ y. needs r.role ≤ y) (sym hh) a.ok.enough)

      by : (b : Bool) → Good rs D x.height (elim b [ true ↦ waits | false ↦ elim (ltb x.height (needs r.role)) [ true ↦ breaks empty_stack | false ↦ next ] ])
      by true = wait
      by false = rw enough (follow-good i r a lt x.place x.height pp hh (flow r.role) x.outcomes refl)

  module _ (back : Reads s) where
    starts : starts_from 0 (decode s (bytes_of s rs)) ≡ starts_from 0 (map (ins_of s) rs)
    starts = ap (λ is. starts_from 0 is) (decode-rows s back linked)

    row-start : (i : ℕ) (r : Row) → RowAt Λ D s 0 rs 0 i r → has (starts_from 0 (decode s (bytes_of s rs))) (place_at rs i) ≡ true
    row-start i r a = ap (λ ys. has ys (place_at rs i)) starts ∙ subst (λ y. has (starts_from 0 (map (ins_of s) rs)) y ≡ true) (let n : 0 + place_at rs i ≡ place_at rs i = omega arith in n) a.start

    at-end : (i : ℕ) → i ≤ length rs → (i < length rs → ⊥) → i ≡ length rs
    at-end i le n = omega (arith, n)

    step-good : (x : State) → Stands rs 0 x.place x.height → Good rs D x.height (step s (bytes_of s rs) x)
    step-good x st = by (dec_lt st.index (length rs))
      where
        by : Dec (st.index < length rs) → Good rs D x.height (step s (bytes_of s rs) x)
        by (yes lt) =
            let ra = row-at s 0 linked st.index lt in
            let r : Row = ra.0 in
            let a : RowAt Λ D s 0 rs 0 st.index r = ra.1 in
            let inside : x.place ≡ length (bytes_of s rs) → ⊥ = λ e. let q = a.inside in let w = st.place in omega arith in
            let h : has (starts_from 0 (decode s (bytes_of s rs))) x.place ≡ true = subst (λ y. has (starts_from 0 (decode s (bytes_of s rs))) y ≡ true) (sym st.place) (row-start st.index r a) in
            let e : role_of s (get_or (bytes_of s rs) x.place 0) ≡ some r.role = ap (λ y. role_of s (get_or (bytes_of s rs) y 0)) st.place ∙ (ap (λ y. role_of s y) a.byte ∙ back r.role) in
            subst (λ y. Good rs D x.height y) (sym (step_row s (bytes_of s rs) x r.role inside h e)) (execute-good st.index r a lt x st.place (sym st.height ∙ a.here))
        by (no ge) =
            let n : st.index ≡ length rs = at-end st.index st.within ge in
            subst (λ y. Good rs D x.height y) (sym (step_end s (bytes_of s rs) x (st.place ∙ (ap (λ y. place_at rs y) n ∙ sym (place_end s rs)))))
            (over (sym st.height ∙ (ap (λ y. height-at rs 0 y) n ∙ height-end rs 0)))

    -- where a run stands is a start or the end
    stands-place : (p g : ℕ) → Stands rs 0 p g → Either (has (starts_from 0 (decode s (bytes_of s rs))) p ≡ true) (p ≡ length (bytes_of s rs))
    stands-place p g st = by (dec_lt st.index (length rs))
      where
        by : Dec (st.index < length rs) → Either (has (starts_from 0 (decode s (bytes_of s rs))) p ≡ true) (p ≡ length (bytes_of s rs))
        by (yes lt) = let ra = row-at s 0 linked st.index lt in left (subst (λ y. has (starts_from 0 (decode s (bytes_of s rs))) y ≡ true) (sym st.place) (row-start st.index ra.0 ra.1))
        by (no ge) = right (st.place ∙ (ap (λ y. place_at rs y) (at-end st.index st.within ge) ∙ sym (place_end s rs)))

    -- how a run may stand
    pub record FineRow (y : Stand) : Type 0 where
      pub stands : Stands rs 0 y.state.place y.state.height
      pub whole : (b : Break) → y.how ≡ breaks b → ⊥
      pub low : y.state.height ≤ D
      pub empty : y.how ≡ finishes → y.state.height ≡ 0

    stand-fine : (x : State) (t : Step) (more : State → Stand) → Stands rs 0 x.place x.height → x.height ≤ D → Good rs D x.height t
        → ((y : State) → Stands rs 0 y.place y.height → y.height ≤ D → FineRow (more y)) → FineRow (stand x t more)
    unfolding stand
    stand-fine x (goes y) more st le (on u v) f = f y u v
    stand-fine x finishes more st le (over z) f = record { stands = st; whole = λ b e. never (cc); low = le; empty = λ e. z }
    stand-fine x waits more st le wait f = record { stands = st; whole = λ b e. never (cc); low = le; empty = λ e. never (cc) }
    stand-fine x (breaks b) more st le g f = elim g [ ]

    -- after any number of steps, over any outcomes
    pub run-fine : (n : ℕ) (x : State) → Stands rs 0 x.place x.height → x.height ≤ D → FineRow (run s (bytes_of s rs) n x)
    unfolding run run_over step
    run-fine zero x st le = record { stands = st; whole = λ b e. never (cc); low = le; empty = λ e. never (cc) }
    run-fine (suc n) x st le = stand-fine x (step s (bytes_of s rs) x) (λ y. run s (bytes_of s rs) n y) st le (step-good x st) (λ y t l. run-fine n y t l)

    pub row_fine : {y : Stand} → FineRow y → Fine s (bytes_of s rs) D y
    row_fine f = record { place = stands-place _ _ f.stands; whole = f.whole; low = f.low; empty = f.empty }

    -- each branch, by its patch
    pub row-leads : (i l : ℕ) → i < length rs → aim_at rs i ≡ some l → LeadsTo s (bytes_of s rs) (place_at rs i) (T l)
    row-leads i l lt e =
        let ra = row-at s 0 linked i lt in
        let r : Row = ra.0 in
        let a : RowAt Λ D s 0 rs 0 i r = ra.1 in
        record {
          start = row-start i r a;
          role = r.role;
          here = ap (λ y. role_of s y) a.byte ∙ back r.role;
          branch = aimed-branch a.ok.leads (sym a.aim ∙ e);
          there = ap (λ y. target (bytes_of s rs) y) (sym a.after) ∙ (leads i l e).0;
        }

-- ---- branches by place

one-branch : {Λ : ℕ → ℕ} {g : ℕ} {b : Bool} {a : Option ℕ} (at : ℕ) (o : List ℕ) (more : List ℕ) → Leads Λ g b a → elim b [ true ↦ at ∷ more | false ↦ more ] ≡ map (λ (p : PendingPatch). p.instruction_offset) (patch_here a at o) ++ more
unfolding patch_here
one-branch at o more nowhere = refl
one-branch at o more (to p) = refl

rows-branches : {Λ : ℕ → ℕ} {D e : ℕ} (s : Sheet) → Reads s → (at : ℕ) {rs : List Row} → Linked Λ D rs e → branches_from s at (map (ins_of s) rs) ≡ map (λ (p : PendingPatch). p.instruction_offset) (patches_by (λ i. at + place_at rs i) rs)
unfolding branches_from patches_by place_at ins_of opcode_of is_branch
rows-branches s back at finished = refl
rows-branches s back at (follows {r = r} {rs = rs} k f l) =
    let w : ℕ = suc (length r.operand) in
    let more : List ℕ = branches_from s (at + w) (map (ins_of s) rs) in
    let O : PendingPatch → ℕ = λ p. p.instruction_offset in
    let by : Option Role → List ℕ = λ x. elim (is_branch x) [ true ↦ at ∷ more | false ↦ more ] in
    ap by (back r.role) ∙ (one-branch at r.operand more k.leads ∙ (ap (λ x. map O (patch_here r.aim x r.operand) ++ more) (let n : at ≡ at + 0 = omega arith in n)
    ∙ (ap (λ x. map O (patch_here r.aim (at + 0) r.operand) ++ x) (rows-branches s back (at + w) l
    ∙ ap (λ x. map O x) (patches-same (λ i. at + w + place_at rs i) (λ i. at + (w + place_at rs i)) rs (λ i le. let n : at + w + place_at rs i ≡ at + (w + place_at rs i) = omega arith in n)))
    ∙ sym (map-append O (patch_here r.aim (at + 0) r.operand) (patches_by (λ i. at + (w + place_at rs i)) rs)))))

pub branch-places : {Λ : ℕ → ℕ} {D e : ℕ} (s : Sheet) → Reads s → {rs : List Row} → Linked Λ D rs e → branch_places s (bytes_of s rs) ≡ map (λ (p : PendingPatch). p.instruction_offset) (patches_by (λ i. place_at rs i) rs)
unfolding branch_places
branch-places s back {rs = rs} l = ap (λ is. branches_from s 0 is) (decode-rows s back l) ∙ (rows-branches s back 0 l
    ∙ ap (λ x. map (λ (p : PendingPatch). p.instruction_offset) x) (patches-same (λ i. 0 + place_at rs i) (λ i. place_at rs i) rs (λ i le. let n : 0 + place_at rs i ≡ place_at rs i = omega arith in n)))

-- ---- heights by place

-- of the row that stands at a place, and of the end
unfoldable pub height-of : List Row → ℕ → ℕ → ℕ
height-of [] e p = e
height-of (r ∷ rs) e p = elim (eqb p 0) [ true ↦ r.height | false ↦ height-of rs e (p - suc (length r.operand)) ]

pub height-place : (rs : List Row) (e i : ℕ) → height-of rs e (place_at rs i) ≡ height-at rs e i
unfolding height-of height-at place_at
height-place [] e i = refl
height-place (r ∷ rs) e zero = refl
height-place (r ∷ rs) e (suc i) =
    let w : ℕ = suc (length r.operand) in
    let n : w + place_at rs i - w ≡ place_at rs i = omega arith in
    ap (λ b. elim b as (λ c. ℕ) [ true ↦ r.height | false ↦ height-of rs e (w + place_at rs i - w) ]) (ne_eqb (w + place_at rs i) 0 (λ q. omega arith)) ∙ (ap (λ p. height-of rs e p) n ∙ height-place rs e i)

-- a start is some row's place
pub start-row : (s : Sheet) (rs : List Row) (at p : ℕ) → has (starts_from at (map (ins_of s) rs)) p ≡ true → (i : ℕ) × (i < length rs) × (p ≡ at + place_at rs i)
unfolding starts_from has ins_of place_at
start-row s [] at p h = never (cc)
start-row s (r ∷ rs) at p h = by (eqb p at) refl h (start-row s rs (at + suc (length r.operand)) p)
  where
    w : ℕ
    w = suc (length r.operand)

    by : (b : Bool) → eqb p at ≡ b → elim b [ true ↦ true | false ↦ has (starts_from (at + w) (map (ins_of s) rs)) p ] ≡ true
        → (has (starts_from (at + w) (map (ins_of s) rs)) p ≡ true → (i : ℕ) × (i < length rs) × (p ≡ at + w + place_at rs i)) → (i : ℕ) × (i < length (r ∷ rs)) × (p ≡ at + place_at (r ∷ rs) i)
    by true q t f = (0, suc-le-suc zero-le, let n = eqb-true p at q in omega arith)
    by false q t f = let x = f t in (suc x.0, suc-le-suc x.1, let n = x.2 in omega arith)
