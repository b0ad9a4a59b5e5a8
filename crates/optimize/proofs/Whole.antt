-- The whole of rewriting called alone: the maps of the passes, and what the lent outputs then hold.
use mathlib.Core.Path.{◌≡◌, refl, ap, sym, ◌∙◌}
use mathlib.Core.Bool.{Bool, true, false, ◌||◌}
use mathlib.Core.Option.{Option, some, none}
use mathlib.Core.List.{List, [], ◌∷◌}
use Prim.Native.Nat.{ℕ, ◌/◌, ◌≤◌}
use native.Mathlib.Omega.{arith}
use borrow.Author.Tests.{eqb-true, eqb-false, leb-true}
use lib.Dec.{eqb, leb}
use lib.ListN.{length, get_or}
use Rattle.definition.specs.Opcode.{Sheet}
use Rattle.definition.specs.Rules.{Action, Rule, matches}
use Rattle.definition.specs.Emit as def
use Rattle.definition.specs.Rewrite.{Bytes, Matcher, OffsetMap, offsets, moved_to, apply_peephole}
use Rattle.definition.specs.Optimize.{map_through, run, identity, optimize, remap_line_map, is_last}
use Rattle.rewrite.proofs.Pass.{moved_here, moved-past}
use Rattle.definition.specs.Limits.{max_code, max_protected, max_lines, entry_size, bad_code, code_full, labels_full, lines_full}
use Rattle.definition.specs.Res.{Res, ok, refuse, ◌>>◌, demand}
use Rattle.definition.specs.Lent.{entries_of}
use Rattle.definition.specs.Alone as def-alone
use Rattle.definition.specs.Alone.{Given, Room, checked, rewritten, answer}
use Rattle.std.specs.Prelude.{Result, Ok, Err}
use Rattle.optimize.specs.View.{pipeline, passes, map_in, given, room, limited, answer_view, Gives, Passed, Rewrote, Remaps, Roomy, Within, after_limits, after_rules}
use Rattle.optimize.specs.declared.alone.Rewritten as code
use Rattle.definition.specs.declared.Refused.{Refused}
use Rattle.definition.specs.View.{refusal_number}
use Rattle.line_map.proofs.Entries.{count_entries}
use Rattle.optimize.proofs.Tables.{moved_in}
use Rattle.optimize.proofs.Lines.{remap-test}
use Rattle.optimize.proofs.Filling.{as_many}

-- ---- maps composed

-- a map that leaves 0 where it is leads on from every offset, known or not
through : (m ps : OffsetMap) (x : ℕ) → moved_to m 0 ≡ 0 → moved_to (map_through m ps) x ≡ moved_to m (moved_to ps x)
unfolding map_through moved_to
through m [] x z = sym z
through m (p ∷ ps) x z = by_test (through m ps x z) (eqb p.0 x) refl
  where
    by_test : moved_to (map_through m ps) x ≡ moved_to m (moved_to ps x) → (t : Bool) → eqb p.0 x ≡ t → moved_to (map_through m (p ∷ ps)) x ≡ moved_to m (moved_to (p ∷ ps) x)
    by_test more true e = rw (← (eqb-true p.0 x e)) (moved_here p.0 (moved_to m p.1) (map_through m ps) ∙ sym (ap (moved_to m) (moved_here p.0 p.1 ps)))
    by_test more false e =
        let other = eqb-false p.0 x e in
        moved-past p.0 (moved_to m p.1) x (map_through m ps) other ∙ more ∙ sym (ap (moved_to m) (moved-past p.0 p.1 x ps other))

zero-first : (acts : List Action) (is : List Bytes) → moved_to (offsets acts is 0 0) 0 ≡ 0
unfolding offsets
zero-first [] is = moved_here 0 0 []
zero-first (a ∷ acts) [] = moved_here 0 0 []
zero-first (a ∷ acts) (i ∷ is) = moved_here 0 0 _

pub pass-zero : (s : Sheet) (m : Matcher) (protected code : List ℕ) → moved_to (apply_peephole s m protected code).1 0 ≡ 0
unfolding apply_peephole
pass-zero s m protected code = zero-first _ _

-- what a pass does to offsets does not hang on how the map so far is written
same-run : (s : Sheet) (rules : List Rule) (pass : ℕ) (code protected : List ℕ) (ps qs : OffsetMap) → ((x : ℕ) → moved_to ps x ≡ moved_to qs x) → (x : ℕ)
    → moved_to (run s rules pass (record { bytecode = code; protected = protected; map = ps })).map x ≡ moved_to (run s rules pass (record { bytecode = code; protected = protected; map = qs })).map x
unfolding run
same-run s rules pass code protected ps qs h x =
    let m = (apply_peephole s (λ a b. matches pass rules a b) protected code).1 in
    let z = pass-zero s (λ a b. matches pass rules a b) protected code in
    through m ps x z ∙ rw (h x) (sym (through m qs x z))

pub same-optimize : (s : Sheet) (rules : List Rule) (code protected total : List ℕ) → ((x : ℕ) → get_or total x 0 ≡ moved_to (identity s code) x) → (x : ℕ)
    → moved_to (passes s rules (pipeline code protected total)).map x ≡ moved_to (optimize s rules code protected).map x
unfolding passes optimize run
same-optimize s rules code protected total h x =
    same-run s rules 3 _ _ _ _ (λ y. same-run s rules 2 _ _ _ _ (λ z. same-run s rules 1 code protected (map_in total) (identity s code) (λ w. moved_in total w ∙ h w) z) y) x

-- ---- lines

pub same-remap : (m n : OffsetMap) (end : ℕ) (last : Option ℕ) (xs : List def.LineEntry) → ((x : ℕ) → moved_to m x ≡ moved_to n x) → remap_line_map m end last xs ≡ remap_line_map n end last xs
unfolding remap_line_map
same-remap m n end last [] h = refl
same-remap m n end last (x ∷ xs) h =
    by_test (same-remap m n end last xs h) (same-remap m n end (some (moved_to n x.offset)) xs h) (leb end (moved_to n x.offset) || is_last last (moved_to n x.offset)) refl
  where
    by_test : remap_line_map m end last xs ≡ remap_line_map n end last xs → remap_line_map m end (some (moved_to n x.offset)) xs ≡ remap_line_map n end (some (moved_to n x.offset)) xs
        → (t : Bool) → (leb end (moved_to n x.offset) || is_last last (moved_to n x.offset)) ≡ t → remap_line_map m end last (x ∷ xs) ≡ remap_line_map n end last (x ∷ xs)
    by_test gone kept true e = remap-test m end last x xs true (rw (h x.offset) e) ∙ gone ∙ sym (remap-test n end last x xs true e)
    by_test gone kept false e = remap-test m end last x xs false (rw (h x.offset) e) ∙ rw (h x.offset, kept) (sym (remap-test n end last x xs false e))

-- ---- what is answered

-- 8
pub refused-8 : (s : Sheet) (rs : List Rule) (g : Given) {table : List ℕ} {x p : ℕ} → Passed s g table (Err x) → p ≡ x → after_limits s rs g ≡ refuse bad_code p
unfolding after_limits ◌>>◌
refused-8 s rs g {x = x} {p = p} pass e =
    let c : refuse bad_code x ≡ checked s g = pass.is in
    rw (e, ← c)

pub finished : (s : Sheet) (rs : List Rule) (code protected lines total bytes offsets entries : List ℕ) {t b o e : List ℕ} {n k : ℕ}
    → Passed s (given code protected lines) total (Ok tt)
    → Rewrote (passes s rs (pipeline code protected total)) bytes offsets b o t n
    → Remaps (remap_line_map (map_in t) n none (entries_of lines)) entries e k
    → answer_view (Ok (record { bytes = n; protected = length protected; entries = k })) b o e
    ≡ answer (room bytes offsets entries) (after_limits s rs (given code protected lines))
unfolding after_limits ◌>>◌ answer rewritten passes optimize run
finished s rs code protected lines total bytes offsets entries {t = t} {n = n} {k = k} pass w m =
    let c : ok tt ≡ checked s (given code protected lines) = pass.is in
    let q₃ = passes s rs (pipeline code protected total) in
    let same : remap_line_map (map_in t) n none (entries_of lines) ≡ remap_line_map (optimize s rs code protected).map (length q₃.bytecode) none (entries_of lines)
    = rw (w.map, w.end) (same-remap q₃.map (optimize s rs code protected).map (length q₃.bytecode) none (entries_of lines)
    (same-optimize s rs code protected total pass.bounds.moved)) in
    let many = as_many s rs (pipeline code protected total) in
    let lines-held = rw same at m.is in
    let kept = rw same at m.count in
    rw (← c, w.code, w.protected, lines-held, kept, w.end, ← many)

-- ---- the limits, in their order

-- what follows the limits' tests, t, u and v
by-limits : {A : Type 0} (t u v : Bool) (x : Res A) → (demand t code_full 0 >> (demand u labels_full 0 >> (demand v lines_full 0 >> x)))
    ≡ ((demand t code_full 0 >> (demand u labels_full 0 >> demand v lines_full 0)) >> x)
unfolding ◌>>◌ demand
by-limits true true true x = refl
by-limits true true false x = refl
by-limits true false v x = refl
by-limits false u v x = refl

module _ (s : Sheet) (rs : List Rule) (g : Given) where
  limits : after_rules s rs g ≡ (limited (length g.code) (length g.protected) (length g.lines / entry_size) >> after_limits s rs g)
  unfolding after_rules limited
  limits = rw (count_entries g.lines) (by-limits _ _ _ (after_limits s rs g))

  pub over-limits : (e : Refused) → refuse (refusal_number e.refusal) e.place ≡ limited (length g.code) (length g.protected) (length g.lines / entry_size) → after_rules s rs g ≡ refuse (refusal_number e.refusal) e.place
  unfolding ◌>>◌
  over-limits e h = rw (limits, ← h)

  pub within-limits : ok tt ≡ limited (length g.code) (length g.protected) (length g.lines / entry_size) → after_rules s rs g ≡ after_limits s rs g
  unfolding ◌>>◌
  within-limits h = rw (limits, ← h)

limit-kept : (code protected entries : ℕ) → ok tt ≡ limited code protected entries → (code ≤ max_code) × (protected ≤ max_protected) × (entries ≤ max_lines)
unfolding limited ◌>>◌ demand
limit-kept code protected entries = go (leb code max_code) refl (leb protected max_protected) refl (leb entries max_lines) refl
  where
    go : (t : Bool) → leb code max_code ≡ t → (u : Bool) → leb protected max_protected ≡ u → (v : Bool) → leb entries max_lines ≡ v
        → ok tt ≡ (demand t code_full 0 >> (demand u labels_full 0 >> demand v lines_full 0)) → (code ≤ max_code) × (protected ≤ max_protected) × (entries ≤ max_lines)
    go true a true b true d e = (leb-true code max_code a, leb-true protected max_protected b, leb-true entries max_lines d)
    go true a true b false d e = absurd (let z : ◌≡◌ {A = ℕ} 0 1 = cc in omega arith)
    go true a false b v d e = absurd (let z : ◌≡◌ {A = ℕ} 0 1 = cc in omega arith)
    go false a u b v d e = absurd (let z : ◌≡◌ {A = ℕ} 0 1 = cc in omega arith)

pub holds : {g : Given} {r : Room} → ok tt ≡ limited (length g.code) (length g.protected) (length g.lines / entry_size) → Roomy r → Within g r
holds e m =
    let k = limit-kept _ _ _ e in
    record { few = k.0; code = omega (arith, m.code, k.0); protected = omega (arith, m.protected, k.1); lines = omega (arith, m.lines, k.2) }

-- the answer to one thing is that to another which comes to the same
pub given-as : (r : Room) {x y : Res def-alone.Rewritten} (a : Result code.Rewritten Refused) (b o e : List ℕ) → y ≡ x → Gives r x a b o e → Gives r y a b o e
given-as r (Ok a) b o e q g = g ∙ ap (answer r) (sym q)
given-as r (Err a) b o e q g = q ∙ g
