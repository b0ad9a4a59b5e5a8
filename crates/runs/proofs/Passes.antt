-- From bytes to rows and back: decoding gives the rows' own bytes, a pass's actions fit them, and its bytes and its map are those of the
-- rows that it leaves; then three passes.
use Prim.Native.Nat.{ℕ, ◌+◌, suc, zero, ◌≤◌}
use mathlib.Core.Path.{◌≡◌, refl, sym, ◌∙◌, ap, subst}
use mathlib.Core.List.{List, [], ◌∷◌, ◌++◌, map}
use mathlib.Core.Bool.{Bool, true, false, ◌||◌}
use mathlib.Core.Option.{Option, some, none}
use lib.ListN.{length, length-append}
use lib.Dec.{eqb}
use borrow.Author.Tests.{eq-eqb, ne_eqb, eqb-true}
use native.Mathlib.Omega.{arith}
use native.Mathlib.Nat.{add_assoc, le_trans, le_of_suc-le-suc}
use Rattle.definition.specs.Field.{has}
use Rattle.definition.specs.Opcode.{Role, Sheet, opcode, role_of, size}
use Rattle.definition.specs.Rules.{Action, keep, remove, rewrite_operand, Rule, read_rules, matches, allowed}
use Rattle.definition.specs.Res.{ok}
use Rattle.definition.specs.Emit.{le16}
use Rattle.definition.specs.Rewrite.{Bytes, opcode_of, decode, boundaries_from, instruction, Matcher, actions, applied, output, OffsetMap, offsets, moved_to, apply_peephole}
use Rattle.definition.specs.Optimize.{Pipeline, map_through, run, identity, optimize}
use Rattle.rules.proofs.Pairs.{Pair, rewritten, read-accepted, matched, variable-size}
use Rattle.field.proofs.Results.{never, some_is}
use Rattle.definition.specs.Claims.{unmoved, pass_map, in_turn, Each}
use Rattle.field.proofs.Tests.{or-false}
use Rattle.runs.proofs.Decoding.{joined, Wholes, decode-joined}
use Rattle.runs.proofs.Rows.{Row, bytes_of, place_at, place-first, row_of, height-at, first-height, patches_by, Compared, Linked, finished, follows}
use Rattle.runs.proofs.Rewritten.{kept, apply, past, move, Fits, over, alone, pair, Outer, rewrite-linked, height-moved, move-within, patches-moved, branch_kept, apply-compared}

unfoldable pub ins_of : Sheet → Row → Bytes
ins_of s r = opcode s r.role ∷ r.operand

-- a sheet on which every role is found again at its opcode
abbrev pub Reads : Sheet → Type 0
Reads s = (r : Role) → role_of s (opcode s r) ≡ some r

-- ---- decoding

-- the bytes of rows are those of their instructions, each of which is whole
bytes-joined : (s : Sheet) (rs : List Row) → bytes_of s rs ≡ joined (map (ins_of s) rs)
unfolding bytes_of joined ins_of
bytes-joined s [] = refl
bytes-joined s (r ∷ rs) = ap (λ x. (opcode s r.role ∷ r.operand) ++ x) (bytes-joined s rs)

rows_whole : {Λ : ℕ → ℕ} {D e : ℕ} {rs : List Row} (s : Sheet) → Reads s → Linked Λ D rs e → Wholes s (map (ins_of s) rs)
unfolding Wholes ins_of
rows_whole s back finished = tt
rows_whole s back (follows {r = r} k f l) =
    (record { role = r.role; first = opcode s r.role; rest = r.operand; is = refl; known = back r.role; sized = k.sized }, rows_whole s back l)

pub decode-rows : {Λ : ℕ → ℕ} {D e : ℕ} {rs : List Row} (s : Sheet) → Reads s → Linked Λ D rs e → decode s (bytes_of s rs) ≡ map (ins_of s) rs
decode-rows {rs = rs} s back l = ap (λ c. decode s c) (bytes-joined s rs) ∙ decode-joined s (map (ins_of s) rs) (rows_whole s back l)

-- ---- the actions of a pass

-- what a matcher answers for rows is a pair that may be rewritten
abbrev pub Fine : Sheet → Matcher → Type 0
Fine s m = (a b : Row) (two : Action × Action) → m (instruction s (ins_of s a)) (instruction s (ins_of s b)) ≡ some two → Pair two.0 two.1 a.role b.role

-- the lookup in an accepted file's rules is such a matcher
pub rules-fine : (s : Sheet) → Reads s → (text : List ℕ) {rs : List Rule} → read_rules text ≡ ok rs → (pass : ℕ) → Fine s (λ a b. matches pass rs a b)
unfolding instruction ins_of opcode_of
rules-fine s back text {rs = rs} read pass a b two e =
    let m = matched pass rs _ _ two (read-accepted text read) e in
    let p : m.r ≡ a.role = some_is (sym m.first ∙ back a.role) in
    let q : m.q ≡ b.role = some_is (sym m.second ∙ back b.role) in
    subst (λ x. Pair two.0 two.1 x b.role) p (subst (λ x. Pair two.0 two.1 m.r x) q m.pair)

-- the actions fit the rows, and no protected place is the second of a matched pair
pub record Fitted (protected : List ℕ) (xs : List Action) (at : ℕ) (rs : List Row) : Type 0 where
  pub fits : Fits xs rs
  pub outer : (i : ℕ) → has protected (at + place_at rs i) ≡ true → Outer fits i

module _ (s : Sheet) (m : Matcher) (protected : List ℕ) (fine : Fine s m) where
  skipped : {xs : List Action} {at : ℕ} (r : Row) {rs : List Row} → Fitted protected xs (at + suc (length r.operand)) rs → Fitted protected (keep ∷ xs) at (r ∷ rs)
  unfolding Outer place_at
  skipped {xs = xs} {at = at} r {rs = rs} f = record { fits = alone {r = r} f.fits; outer = outside }
    where
      outside : (i : ℕ) → has protected (at + place_at (r ∷ rs) i) ≡ true → Outer (alone {r = r} f.fits) i
      outside zero h = tt
      outside (suc i) h = f.outer i (subst (λ x. has protected x ≡ true) (sym (add_assoc at (suc (length r.operand)) (place_at rs i))) h)

  leapt : {xs : List Action} {at : ℕ} (r q : Row) {rs : List Row} (two : Action × Action) → has protected (at + suc (length r.operand)) ≡ false → m (instruction s (ins_of s r)) (instruction s (ins_of s q)) ≡ some two
      → Fitted protected xs (at + suc (length r.operand) + suc (length q.operand)) rs → Fitted protected (two.0 ∷ two.1 ∷ xs) at (r ∷ q ∷ rs)
  unfolding Outer place_at
  leapt {at = at} r q {rs = rs} two nk e f = record { fits = pair {a = two.0} {b = two.1} {r = r} {q = q} (fine r q two e) f.fits; outer = outside }
    where
      outside : (i : ℕ) → has protected (at + place_at (r ∷ q ∷ rs) i) ≡ true → Outer (pair {a = two.0} {b = two.1} {r = r} {q = q} (fine r q two e) f.fits) i
      outside zero h = tt
      outside (suc zero) h =
          let n : at + (suc (length r.operand) + 0) ≡ at + suc (length r.operand) = omega arith in
          let h' : has protected (at + suc (length r.operand)) ≡ true = subst (λ x. has protected x ≡ true) n h in
          never (cc)
      outside (suc (suc i)) h =
          let n : at + (suc (length r.operand) + (suc (length q.operand) + place_at rs i)) ≡ at + suc (length r.operand) + suc (length q.operand) + place_at rs i = omega arith in
          f.outer i (subst (λ x. has protected x ≡ true) n h)

  pub fitted : (at : ℕ) (rs : List Row) → Fitted protected (actions s m protected at (map (ins_of s) rs)) at rs
  unfolding actions Outer ins_of
  fitted at [] = record { fits = over; outer = λ i h. tt }
  fitted at (r ∷ []) = skipped r (record { fits = over; outer = λ i h. tt })
  fitted at (r ∷ q ∷ rs) = by_place_lem (has protected at || has protected a₁) refl (fitted a₁ (q ∷ rs)) (fitted a₂ rs)
    where
      a₁ : ℕ
      a₁ = at + suc (length r.operand)

      a₂ : ℕ
      a₂ = a₁ + suc (length q.operand)

      Skip : Type 0
      Skip = Fitted protected (actions s m protected a₁ (map (ins_of s) (q ∷ rs))) a₁ (q ∷ rs)

      Leap : Type 0
      Leap = Fitted protected (actions s m protected a₂ (map (ins_of s) rs)) a₂ rs

      by-rule : (x : Option (Action × Action)) → m (instruction s (ins_of s r)) (instruction s (ins_of s q)) ≡ x → (has protected at || has protected a₁) ≡ false → Skip → Leap
          → Fitted protected (elim x [ some two ↦ two.0 ∷ two.1 ∷ actions s m protected a₂ (map (ins_of s) rs) | none ↦ keep ∷ actions s m protected a₁ (map (ins_of s) (q ∷ rs)) ]) at (r ∷ q ∷ rs)
      by-rule (some two) e nk f g = leapt r q two (or-false (has protected at) (has protected a₁) nk).1 e g
      by-rule none e nk f g = skipped r f

      by_place_lem : (b : Bool) → (has protected at || has protected a₁) ≡ b → Skip → Leap
          → Fitted protected (elim b [ true ↦ keep ∷ actions s m protected a₁ (map (ins_of s) (q ∷ rs)) | false ↦ elim (m (instruction s (ins_of s r)) (instruction s (ins_of s q))) [ some two ↦ two.0 ∷ two.1 ∷ actions s m protected a₂ (map (ins_of s) rs) | none ↦ keep ∷ actions s m protected a₁ (map (ins_of s) (q ∷ rs)) ] ]) at (r ∷ q ∷ rs)
      by_place_lem true e f g = skipped r f
      by_place_lem false e f g = by-rule (m (instruction s (ins_of s r)) (instruction s (ins_of s q))) refl e f g

-- ---- its bytes

applied-kept : (s : Sheet) (a : Action) (r : Row) (ys : List Row) → applied a (ins_of s r) ++ bytes_of s ys ≡ bytes_of s (kept a r ++ ys)
unfolding applied kept bytes_of ins_of opcode_of
applied-kept s keep r ys = refl
applied-kept s remove r ys = refl
applied-kept s (rewrite_operand n) r ys = refl

output-rows : (s : Sheet) {xs : List Action} {rs : List Row} → Fits xs rs → output xs (map (ins_of s) rs) ≡ bytes_of s (apply xs rs)
unfolding output apply bytes_of
output-rows s over = refl
output-rows s (alone {xs = xs} {r = r} {rs = rs} t) = ap (λ x. applied keep (ins_of s r) ++ x) (output-rows s t) ∙ applied-kept s keep r (apply xs rs)
output-rows s (pair {a = a} {b = b} {xs = xs} {r = r} {q = q} {rs = rs} k t) =
    ap (λ x. applied a (ins_of s r) ++ x) (ap (λ x. applied b (ins_of s q) ++ x) (output-rows s t) ∙ applied-kept s b q (apply xs rs)) ∙ applied-kept s a r (kept b q ++ apply xs rs)

-- no pass makes code longer
kept-short : (s : Sheet) (a : Action) (r : Row) (ys zs : List Row) → allowed a r.role ≡ true → suc (length r.operand) ≡ size r.role → length (bytes_of s ys) ≤ length (bytes_of s zs)
    → length (bytes_of s (kept a r ++ ys)) ≤ length (bytes_of s (r ∷ zs))
unfolding bytes_of kept allowed le16
kept-short s keep r ys zs w z le = omega (arith, length-append r.operand (bytes_of s ys), length-append r.operand (bytes_of s zs))
kept-short s remove r ys zs w z le = omega (arith, length-append r.operand (bytes_of s zs))
kept-short s (rewrite_operand n) r ys zs w z le =
    let v = variable-size r.role (rewritten n r.role w).0 in omega (arith, length-append (le16 n) (bytes_of s ys), length-append r.operand (bytes_of s zs))

apply-short : {Λ : ℕ → ℕ} {D e : ℕ} (s : Sheet) {xs : List Action} {rs : List Row} → Fits xs rs → Linked Λ D rs e → length (bytes_of s (apply xs rs)) ≤ length (bytes_of s rs)
unfolding apply allowed
apply-short s over l = omega arith
apply-short s (alone {xs = xs} {r = r} {rs = rs} t) (follows k f l) = kept-short s keep r (apply xs rs) rs refl k.sized (apply-short s t l)
apply-short s (pair {a = a} {b = b} {xs = xs} {r = r} {q = q} {rs = rs} x t) (follows k f (follows j g l)) =
    kept-short s a r (kept b q ++ apply xs rs) (q ∷ rs) x.one k.sized (kept-short s b q (apply xs rs) rs x.two j.sized (apply-short s t l))

-- ---- its map

-- what a map has for an offset
unfoldable pub looked : OffsetMap → ℕ → Option ℕ
looked [] x = none
looked (p ∷ ps) x = elim (eqb p.0 x) [ true ↦ some p.1 | false ↦ looked ps x ]

found : (ps : OffsetMap) (p : ℕ × ℕ) (x : ℕ) → p.0 ≡ x → looked (p ∷ ps) x ≡ some p.1
unfolding looked
found ps p x e = ap (λ b. elim b as (λ c. Option ℕ) [ true ↦ some p.1 | false ↦ looked ps x ]) (eq-eqb p.0 x e)

passed : (ps : OffsetMap) (p : ℕ × ℕ) (x : ℕ) → (p.0 ≡ x → ⊥) → looked (p ∷ ps) x ≡ looked ps x
unfolding looked
passed ps p x f = ap (λ b. elim b as (λ c. Option ℕ) [ true ↦ some p.1 | false ↦ looked ps x ]) (ne_eqb p.0 x f)

pub looked-moved : (ps : OffsetMap) (x y : ℕ) → looked ps x ≡ some y → moved_to ps x ≡ y
unfolding looked moved_to
looked-moved [] x y e = never (cc)
looked-moved (p ∷ ps) x y e = by (eqb p.0 x) e (looked-moved ps x y)
  where
    by : (b : Bool) → elim b [ true ↦ some p.1 | false ↦ looked ps x ] ≡ some y → (looked ps x ≡ some y → moved_to ps x ≡ y) → elim b [ true ↦ p.1 | false ↦ moved_to ps x ] ≡ y
    by true e f = cc
    by false e f = f e

looked-through : (m ps : OffsetMap) (x y : ℕ) → looked ps x ≡ some y → looked (map_through m ps) x ≡ some (moved_to m y)
unfolding looked map_through
looked-through m [] x y e = never (cc)
looked-through m (p ∷ ps) x y e = by (eqb p.0 x) e (looked-through m ps x y)
  where
    by : (b : Bool) → elim b [ true ↦ some p.1 | false ↦ looked ps x ] ≡ some y → (looked ps x ≡ some y → looked (map_through m ps) x ≡ some (moved_to m y))
        → elim b [ true ↦ some (moved_to m p.1) | false ↦ looked (map_through m ps) x ] ≡ some (moved_to m y)
    by true e f = ap (λ z. some (moved_to m z)) (cc)
    by false e f = f e

place-past : (s : Sheet) (a : Action) (r : Row) (ys : List Row) (i new : ℕ) → new + length (applied a (ins_of s r)) + place_at ys i ≡ new + place_at (kept a r ++ ys) (past a i)
unfolding applied kept past place_at ins_of le16
place-past s keep r ys i new = omega arith
place-past s remove r ys i new = omega arith
place-past s (rewrite_operand n) r ys i new = omega arith

-- the map takes the place of row i to the place where it goes
abbrev Maps : Sheet → List Action → List Row → Type 0
Maps s xs rs = (i old new : ℕ) → i ≤ length rs → looked (offsets xs (map (ins_of s) rs) old new) (old + place_at rs i) ≡ some (new + place_at (apply xs rs) (move xs i))

maps-step : (s : Sheet) (a : Action) (xs : List Action) (r : Row) (rs : List Row) → Maps s xs rs → Maps s (a ∷ xs) (r ∷ rs)
unfolding offsets apply move place_at ins_of
maps-step s a xs r rs f zero old new le = found _ (old, new) (old + 0) (let n : old ≡ old + 0 = omega arith in n)
    ∙ ap (λ x. some x) (let q = place-first (kept a r ++ apply xs rs) in let n : new ≡ new + place_at (kept a r ++ apply xs rs) 0 = omega arith in n)
maps-step s a xs r rs f (suc i) old new le =
    passed _ (old, new) (old + (suc (length r.operand) + place_at rs i)) (λ e. omega arith)
    ∙ (ap (λ x. looked (offsets xs (map (ins_of s) rs) (old + suc (length r.operand)) (new + length (applied a (ins_of s r)))) x)
    (let n : old + (suc (length r.operand) + place_at rs i) ≡ old + suc (length r.operand) + place_at rs i = omega arith in n)
    ∙ (f i (old + suc (length r.operand)) (new + length (applied a (ins_of s r))) (le_of_suc-le-suc le) ∙ ap (λ x. some x) (place-past s a r (apply xs rs) (move xs i) new)))

maps-rows : (s : Sheet) {xs : List Action} {rs : List Row} → Fits xs rs → Maps s xs rs
unfolding offsets apply move place_at
maps-rows s over = λ i old new le. found [] (old, new) (old + 0) (let n : old ≡ old + 0 = omega arith in n) ∙ ap (λ x. some x) (let n : new ≡ new + 0 = omega arith in n)
maps-rows s (alone {xs = xs} {r = r} {rs = rs} t) = maps-step s keep xs r rs (maps-rows s t)
maps-rows s (pair {a = a} {b = b} {xs = xs} {r = r} {q = q} {rs = rs} k t) = maps-step s a (b ∷ xs) r (q ∷ rs) (maps-step s b xs q rs (maps-rows s t))

-- the map before the first pass
same_rows : (s : Sheet) (rs : List Row) (i at : ℕ) → i ≤ length rs → looked (map (λ x. (x, x)) (boundaries_from at (map (ins_of s) rs))) (at + place_at rs i) ≡ some (at + place_at rs i)
unfolding boundaries_from place_at ins_of
same_rows s [] i at le = found [] (at, at) (at + 0) (let n : at ≡ at + 0 = omega arith in n) ∙ ap (λ x. some x) (let n : at ≡ at + 0 = omega arith in n)
same_rows s (r ∷ rs) zero at le = found _ (at, at) (at + 0) (let n : at ≡ at + 0 = omega arith in n) ∙ ap (λ x. some x) (let n : at ≡ at + 0 = omega arith in n)
same_rows s (r ∷ rs) (suc i) at le =
    let n : at + (suc (length r.operand) + place_at rs i) ≡ at + suc (length r.operand) + place_at rs i = omega arith in
    passed _ (at, at) (at + (suc (length r.operand) + place_at rs i)) (λ e. omega arith)
    ∙ (ap (λ x. looked (map (λ x. (x, x)) (boundaries_from (at + suc (length r.operand)) (map (ins_of s) rs))) x) n
    ∙ (same_rows s rs i (at + suc (length r.operand)) (le_of_suc-le-suc le) ∙ ap (λ x. some x) (sym n)))

has-map : (f : ℕ → ℕ) (xs : List ℕ) (x : ℕ) → has xs x ≡ true → has (map f xs) (f x) ≡ true
unfolding has
has-map f [] x e = e
has-map f (y ∷ ys) x e = by (eqb x y) refl e (has-map f ys x)
  where
    or-rest : (b : Bool) → has (map f ys) (f x) ≡ true → elim b [ true ↦ true | false ↦ has (map f ys) (f x) ] ≡ true
    or-rest true q = refl
    or-rest false q = q

    by : (b : Bool) → eqb x y ≡ b → elim b [ true ↦ true | false ↦ has ys x ] ≡ true → (has ys x ≡ true → has (map f ys) (f x) ≡ true) → has (map f (y ∷ ys)) (f x) ≡ true
    by true p q r = ap (λ b. elim b as (λ c. Bool) [ true ↦ true | false ↦ has (map f ys) (f x) ]) (eq-eqb (f x) (f y) (ap f (eqb-true x y p)))
    by false p q r = or-rest (eqb (f x) (f y)) (r q)

-- ---- the passes

-- the code between passes is the linked rows that are left of rows₀; a row whose place is protected kept its height
pub record Piped (Λ : ℕ → ℕ) (D : ℕ) (s : Sheet) (rows₀ : List Row) (protected₀ : List ℕ) (p : Pipeline) : Type 0 where
  pub rows : List Row
  pub bytes : p.bytecode ≡ bytes_of s rows
  pub linked : Linked Λ D rows 0
  pub short : length p.bytecode ≤ length (bytes_of s rows₀)
  pub first : first-height rows 0 ≡ first-height rows₀ 0
  pub go : ℕ → ℕ
  pub within : (i : ℕ) → i ≤ length rows₀ → go i ≤ length rows
  pub maps : (i : ℕ) → i ≤ length rows₀ → looked p.map (place_at rows₀ i) ≡ some (place_at rows (go i))
  pub protects : (i : ℕ) → i ≤ length rows₀ → has protected₀ (place_at rows₀ i) ≡ true → has p.protected (place_at rows (go i)) ≡ true
  pub heights : (i : ℕ) → i ≤ length rows₀ → has protected₀ (place_at rows₀ i) ≡ true → height-at rows 0 (go i) ≡ height-at rows₀ 0 i
  pub branches : (f : ℕ → ℕ) → patches_by f rows ≡ patches_by (λ i. f (go i)) rows₀
  pub keeps : (i l : ℕ) (r : Row) → row_of rows₀ i ≡ some r → r.aim ≡ some l → row_of rows (go i) ≡ some r
  pub known : Each (λ r. Compared s r) rows₀ → Each (λ r. Compared s r) rows

abbrev result : Sheet → Matcher → List ℕ → List Bytes → List ℕ × OffsetMap
result s m protected is = (output (actions s m protected 0 is) is, offsets (actions s m protected 0 is) is 0 0)

-- a pass's own bytes and map
unfoldable pub after : Pipeline → List ℕ × OffsetMap → Pipeline
after p r = record { bytecode = r.0; protected = map (moved_to r.1) p.protected; map = map_through r.1 p.map }

module _ {Λ : ℕ → ℕ} {D : ℕ} (s : Sheet) (back : Reads s) {rows₀ : List Row} (protected₀ : List ℕ) where
  pass-piped : (m : Matcher) → Fine s m → (p : Pipeline) → Piped Λ D s rows₀ protected₀ p → Piped Λ D s rows₀ protected₀ (after p (apply_peephole s m p.protected p.bytecode))
  unfolding apply_peephole after
  pass-piped m fine p x =
      subst (λ is. Piped Λ D s rows₀ protected₀ (after p (result s m p.protected is))) (sym (ap (λ c. decode s c) x.bytes ∙ decode-rows s back x.linked)) (record {
        rows = apply acts x.rows;
        bytes = output-rows s f.fits;
        linked = (rewrite-linked 0 f.fits x.linked).0;
        short = le_trans (subst (λ b. length b ≤ length (bytes_of s x.rows)) (sym (output-rows s f.fits)) (apply-short s f.fits x.linked)) (subst (λ b. length b ≤ length (bytes_of s rows₀)) x.bytes x.short);
        first = (rewrite-linked 0 f.fits x.linked).1 ∙ x.first;
        go = λ i. move acts (x.go i);
        within = λ i le. move-within f.fits (x.go i) (x.within i le);
        maps = λ i le. looked-through m' p.map _ _ (x.maps i le) ∙ ap (λ y. some y) (moved (x.go i) (x.within i le));
        protects = λ i le h. subst (λ y. has (map (moved_to m') p.protected) y ≡ true) (moved (x.go i) (x.within i le)) (has-map (moved_to m') p.protected _ (x.protects i le h));
        heights = λ i le h. height-moved 0 f.fits (x.go i) (f.outer (x.go i) (at-0 _ (x.protects i le h))) x.linked ∙ x.heights i le h;
        branches = λ g. patches-moved g f.fits x.linked ∙ x.branches (λ i. g (move acts i));
        keeps = λ i l r p a. branch_kept f.fits x.linked (x.go i) l r (x.keeps i l r p a) a;
        known = λ e. apply-compared s f.fits (x.known e);
      })
    where
      is : List Bytes
      is = map (ins_of s) x.rows

      acts : List Action
      acts = actions s m p.protected 0 is

      m' : OffsetMap
      m' = offsets acts is 0 0

      f : Fitted p.protected acts 0 x.rows
      f = fitted s m p.protected fine 0 x.rows

      at-0 : (y : ℕ) → has p.protected y ≡ true → has p.protected (0 + y) ≡ true
      at-0 y h = subst (λ z. has p.protected z ≡ true) (let n : y ≡ 0 + y = omega arith in n) h

      moved : (i : ℕ) → i ≤ length x.rows → moved_to m' (place_at x.rows i) ≡ place_at (apply acts x.rows) (move acts i)
      moved i le = looked-moved m' _ _ (ap (λ y. looked m' y) (let n : place_at x.rows i ≡ 0 + place_at x.rows i = omega arith in n) ∙ (maps-rows s f.fits i 0 0 le
          ∙ ap (λ y. some y) (let n : 0 + place_at (apply acts x.rows) (move acts i) ≡ place_at (apply acts x.rows) (move acts i) = omega arith in n)))

  identity-piped : (code : List ℕ) → code ≡ bytes_of s rows₀ → Linked Λ D rows₀ 0 → Piped Λ D s rows₀ protected₀ (record { bytecode = code; protected = protected₀; map = identity s code })
  unfolding identity
  identity-piped code c l = record {
    rows = rows₀;
    bytes = c;
    linked = l;
    short = subst (λ b. length b ≤ length (bytes_of s rows₀)) (sym c) (omega arith);
    first = refl;
    go = λ i. i;
    within = λ i le. le;
    maps = λ i le. ap (λ is. looked (map (λ x. (x, x)) (boundaries_from 0 is)) (place_at rows₀ i)) (ap (λ b. decode s b) c ∙ decode-rows s back l)
        ∙ subst (λ x. looked (map (λ x. (x, x)) (boundaries_from 0 (map (ins_of s) rows₀))) x ≡ some x) (let n : 0 + place_at rows₀ i ≡ place_at rows₀ i = omega arith in n) (same_rows s rows₀ i 0 le);
    protects = λ i le h. h;
    heights = λ i le h. refl;
    branches = λ f. refl;
    keeps = λ i l r p a. p;
    known = λ e. e;
  }

  -- a pass's own map moves a place further
  through : (p : Pipeline) → Piped Λ D s rows₀ protected₀ p → (m : OffsetMap) (i : ℕ) → i ≤ length rows₀ → moved_to (map_through m p.map) (place_at rows₀ i) ≡ moved_to m (moved_to p.map (place_at rows₀ i))
  through p x m i le = looked-moved _ _ _ (looked-through m p.map _ _ (x.maps i le)) ∙ ap (λ y. moved_to m y) (sym (looked-moved p.map _ _ (x.maps i le)))

  module _ (rules : List Rule) (fine : (pass : ℕ) → Fine s (λ a b. matches pass rules a b)) (code : List ℕ) (c : code ≡ bytes_of s rows₀) (l : Linked Λ D rows₀ 0) where
    abbrev p₀ : Pipeline
    p₀ = unmoved s code protected₀

    run-piped : (pass : ℕ) (p : Pipeline) → Piped Λ D s rows₀ protected₀ p → Piped Λ D s rows₀ protected₀ (run s rules pass p)
    unfolding run after
    run-piped pass p x = pass-piped (λ a b. matches pass rules a b) (fine pass) p x

    one : Piped Λ D s rows₀ protected₀ (run s rules 1 p₀)
    unfolding unmoved
    one = run-piped 1 p₀ (identity-piped code c l)

    two : Piped Λ D s rows₀ protected₀ (run s rules 2 (run s rules 1 p₀))
    two = run-piped 2 _ one

    pub optimize-piped : Piped Λ D s rows₀ protected₀ (optimize s rules code protected₀)
    unfolding optimize unmoved
    optimize-piped = run-piped 3 _ two

    pub moved-in-turn : (i : ℕ) → i ≤ length rows₀ → moved_to (optimize s rules code protected₀).map (place_at rows₀ i) ≡ in_turn s rules code protected₀ (place_at rows₀ i)
    unfolding optimize run in_turn pass_map unmoved identity-piped
    moved-in-turn i le = through _ two _ i le ∙ ap (λ y. moved_to (pass_map s rules 3 (run s rules 2 (run s rules 1 p₀))) y)
        (through _ one _ i le ∙ ap (λ y. moved_to (pass_map s rules 2 (run s rules 1 p₀)) y) (through p₀ (identity-piped code c l) _ i le
        ∙ ap (λ y. moved_to (pass_map s rules 1 p₀) y) (looked-moved _ _ _ ((identity-piped code c l).maps i le))))
