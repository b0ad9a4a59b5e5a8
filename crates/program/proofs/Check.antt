-- The laws behind the check: each answer is the definition's.
use mathlib.Core.Path.{◌≡◌, refl, ap, sym, ◌∙◌}
use mathlib.Core.Bool.{Bool, true, false, ◌&&◌}
use mathlib.Core.Option.{Option, some, none}
use mathlib.Core.List.{List, [], ◌∷◌}
use Prim.Native.Nat.{ℕ, suc, ◌+◌, ◌-◌, ◌≤◌, ◌<◌}
use native.Mathlib.Omega.{arith}
use borrow.Author.Tests.{le-leb, lt-leb, leb-true, ne_eqb, eq-eqb, eqb-true, eqb-false}
use lib.Dec.{eqb, leb}
use lib.ListN.{length, drop}
use lib.Pointwise.{pointwise}
use Rattle.definition.specs.Limits.{max_program, max_nesting, bad_text, wrong_lines}
use Rattle.definition.specs.Res.{Res, ok, refuse, ◌>>=◌, ◌>>◌, demand}
use Rattle.definition.specs.Field.{lf, first_line}
use Rattle.definition.specs.Tree.{Fault, Program, Block}
use Rattle.definition.specs.Program as def
use Rattle.definition.specs.Program.{is, not, Header, line_at, header_forms, next_line, stmt_at, block_of, fault_of_block, ends_in_lf, header_of, no_fault, top_stmts, read_program}
use Rattle.field.proofs.Parts.{line-ends}
use Rattle.field.proofs.Results.{ok-is, ok-demand, ok-bind}
use Rattle.field.proofs.Tests.{and_left, and_right}
use Rattle.std.specs.Prelude.{Result, Ok, Err}
use Rattle.std.specs.List.{ends_with}
use Rattle.definition.specs.View.{refusal_number, res_of}
use Rattle.program.specs.declared.Stop.{Stop}
use Rattle.program.specs.declared.Cursor.{Cursor}
use Rattle.program.specs.Walk.{cursor_of, Skipped, Walked, walk_view, outcome, many, over_stmt}
use Rattle.program.specs.Check.{checked, Headed, program_of, Accepts}
use Rattle.program.proofs.Laws.{block-many, line-there}

-- ---- 1

pub ends-lf : (text : List ℕ) → ends_with eqb text (lf ∷ []) ≡ ends_in_lf text
unfolding ends_in_lf
ends-lf [] = refl
ends-lf (b ∷ []) = go (eqb b lf) refl
  where
    go : (t : Bool) → eqb b lf ≡ t → eqb lf b && true ≡ eqb b lf
    go true h = let e : lf ≡ b = sym (eqb-true _ _ h) in rw (eq-eqb _ _ e, h)
    go false h = rw (ne_eqb lf b (λ e. eqb-false _ _ h (sym e)), h)
ends-lf (b ∷ c ∷ bs) =
    let n = length bs in
    let one : suc (suc n) - 1 ≡ suc n = omega arith in
    let none : n ≡ suc n - 1 = omega arith in
    ap (λ (k : ℕ). pointwise eqb (lf ∷ []) (drop k (b ∷ c ∷ bs))) one ∙ ap (λ (k : ℕ). pointwise eqb (lf ∷ []) (drop k (c ∷ bs))) none ∙ ends-lf (c ∷ bs)

-- what 1 asks of a text
module _ (text : List ℕ) where
  pub check-bad : leb (length text) max_program && ends_in_lf text ≡ false → refuse bad_text 0 ≡ checked text
  unfolding checked read_program demand ◌>>◌ ◌>>=◌
  check-bad e = rw (checked, read_program, e)

  module _ (fine : leb (length text) max_program && ends_in_lf text ≡ true) where
    pub headed : {h : Header} → line_at header_forms max_nesting text 0 ≡ is h → Headed text h
    headed e = record { there = (line-there header_forms max_nesting text 0 _ e).0; short = leb-true _ _ (and_left _ _ fine); ended = and_right _ _ fine; header = e }

    pub check-header : (n : ℕ) → line_at header_forms max_nesting text 0 ≡ not n → refuse n 1 ≡ checked text
    unfolding checked read_program demand ◌>>◌ ◌>>=◌ header_of
    check-header n e = rw (checked, read_program, fine, e)

-- ---- the lines behind the header

-- what is answered of a body with this first fault and this place after it
unfoldable behind : List ℕ → Program → Option Fault → def.Cursor → Res Program
behind text p f c = no_fault f >> (demand (leb (length text) c.at) wrong_lines c.row >> ok p)

-- where a walk that heeds faults stands, it is answered
behind-refused : (text : List ℕ) (p : Program) (f : Option Fault) (c : def.Cursor) (n r : ℕ) → refuse n r ≡ outcome true f c → behind text p f c ≡ refuse n r
unfolding outcome behind no_fault ◌>>◌
behind-refused text p none c n r e = absurd (cc)
behind-refused text p (some f) c n r e =
    let a : f.number ≡ n = cc in
    let b : f.place ≡ r = cc in
    rw (a, b)

behind-on : (text : List ℕ) (p : Program) (f : Option Fault) (c d : def.Cursor) → ok d ≡ outcome true f c → behind text p f c ≡ demand (leb (length text) d.at) wrong_lines d.row >> ok p
unfolding outcome behind no_fault ◌>>◌
behind-on text p none c d e = let q : c ≡ d = cc in rw q
behind-on text p (some f) c d e = absurd (cc)

module _ {text : List ℕ} {h : Header} (headed : Headed text h) {top : Cursor} (passed : Skipped text (next_line text (record { at = 0; row = 1 })) top) {n : ℕ} (all : n ≡ h.statements) where
  abbrev body : Block × def.Cursor
  body = block_of (λ c. stmt_at max_nesting h.variables text c) h.statements (next_line text (record { at = 0; row = 1 }))

  read_is : read_program text ≡ behind text (record { pos = h.pos; body = body.0 }) (fault_of_block body.0) body.1
  unfolding read_program demand ◌>>◌ ◌>>=◌ header_of behind top_stmts
  read_is = rw (read_program, le-leb _ _ headed.short, headed.ended, headed.header)

  stands : {r : Result Cursor Stop} → Walked (many n (over_stmt true max_nesting h.variables text)) text top r → walk_view r ≡ outcome true (fault_of_block body.0) body.1
  stands walked = walked.did ∙ rw (all, passed.is) (sym (block-many true (λ c. stmt_at max_nesting h.variables text c) h.statements _))

  checked-is : (x : Res Program) → read_program text ≡ x → checked text ≡ x >>= (λ p. ok (h, top.at))
  unfolding checked header_of ◌>>=◌
  checked-is x e = rw (checked, e, headed.header, ← passed.is)

  pub check-faulty : {e : Stop} → Walked (many n (over_stmt true max_nesting h.variables text)) text top (Err e) → refuse (refusal_number e.refusal) e.at.row ≡ checked text
  unfolding ◌>>=◌
  check-faulty w = sym (checked-is _ (read_is ∙ behind-refused _ _ _ _ _ _ (stands w)))

  module _ {d : Cursor} (w : Walked (many n (over_stmt true max_nesting h.variables text)) text top (Ok d)) where
    pub check-left-over : d.at < length text → refuse wrong_lines d.row ≡ checked text
    unfolding ◌>>=◌ demand ◌>>◌
    check-left-over less = sym (checked-is (refuse wrong_lines d.row) (read_is ∙ behind-on _ _ _ _ _ (stands w) ∙ rw (lt-leb _ _ less)))

    pub check-fine : length text ≤ d.at → ok (h, top.at) ≡ checked text
    unfolding ◌>>=◌ demand ◌>>◌
    check-fine more = sym (checked-is (ok (record { pos = h.pos; body = body.0 })) (read_is ∙ behind-on _ _ _ _ _ (stands w) ∙ rw (le-leb _ _ more)))

-- ---- what the answer says of the text

no-fault : {A : Type 0} (f : Option Fault) (m : Res A) (x : A) → (no_fault f >> m) ≡ ok x → m ≡ ok x
unfolding no_fault ◌>>◌
no-fault none m x e = e
no-fault (some f) m x e = absurd (cc)

-- the header of a text that is read, and its tree
read_as_lem : (text : List ℕ) (p : Program) → read_program text ≡ ok p
    → (h : Header) × (header_of (line_at header_forms max_nesting text 0) ≡ ok h) × (p ≡ program_of text h) × (length text ≤ max_program)
unfolding read_program
read_as_lem text p e =
    let a = ok-demand _ _ _ _ _ e in
    let b = ok-bind (header_of (line_at header_forms max_nesting text 0)) _ _ a.1 in
    let c = ok-demand _ _ _ _ _ (no-fault _ _ _ b.2) in
    (b.0, b.1, ok-is c.1, leb-true _ _ (and_left _ _ a.0))

module _ (text : List ℕ) where
  pub refused : {n p : ℕ} → checked text ≡ refuse n p → read_program text ≡ refuse n p
  unfolding checked ◌>>=◌
  refused {n} {p} e = go (read_program text) refl e
    where
      go : (r : Res Program) → read_program text ≡ r
          → ◌>>=◌ {B = Header × ℕ} r (λ q. ◌>>=◌ {B = Header × ℕ} (header_of (line_at header_forms max_nesting text 0)) (λ h. ok (h, (next_line text (record { at = 0; row = 1 })).at))) ≡ refuse n p → r ≡ refuse n p
      go (ok q) k e = let e' = rw (read_as_lem text q k).1 at e in absurd (cc)
      go (refuse m q) k e =
          let a : m ≡ n = cc in
          let b : q ≡ p = cc in
          rw (a, b)

  pub accepted : {h : Header} {next : ℕ} → checked text ≡ ok (h, next) → Accepts text h next
  unfolding checked next_line
  accepted {h} {next} e =
      let a = ok-bind (read_program text) _ _ e in
      let b = ok-bind (header_of (line_at header_forms max_nesting text 0)) _ _ a.2 in
      let c = read_as_lem text a.0 a.1 in
      let same = ok-is b.2 in
      let at : next ≡ 0 + length (first_line (drop 0 text)) + 1 = ap (λ (x : Header × ℕ). x.1) same in
      let q : h ≡ c.0 = ap (λ (x : Header × ℕ). x.0) same ∙ ok-is (sym c.1 ∙ b.1) in
      record {
        read = a.1 ∙ ap ok (c.2 ∙ ap (program_of text) (sym q));
        top = rw at;
        near = record { short = c.3; within = omega (arith, at, (line-ends text 0).high); rows = omega (arith, at) };
      }
