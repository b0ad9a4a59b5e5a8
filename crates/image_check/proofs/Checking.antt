-- The answer.
use Prim.Native.Nat.{ℕ, ◌+◌, suc, zero, ◌≤◌, ◌<◌, zero-le}
use mathlib.Core.Path.{◌≡◌, refl, sym, ◌∙◌, ap, subst, fun_ext}
use mathlib.Core.List.{List, []}
use mathlib.Core.Bool.{true, false}
use mathlib.Core.Option.{Option, some, none}
use lib.ListN.{length, get_or, replicate, length-replicate}
use native.Mathlib.Omega.{arith}
use Rattle.definition.specs.Limits.{max_code, code_full, astray, bad_height}
use Rattle.definition.specs.Check.{Answers, Checks, refuses_sheet, refuses_length, answers as answers_it}
use Rattle.store.proofs.Fills.{replicate-none}
use Rattle.rewrite.specs.View.{Clear}
use Rattle.opcode.specs.Reading.{Accepts, Refuses}
use Rattle.opcode.specs.Table.{sheet_in}
use Rattle.image_check.specs.Graph.{Node, Table, and_then, meet, one, blank, traverse, nothing, verdict, traversed}
use Rattle.image_check.specs.View.{stack_of, table_of, view, blanks, Ready, Image, Meets, node_in, on_from, Traverses, Admitted}
use Rattle.std.specs.Prelude as std
use Rattle.std.specs.Prelude.{Some, None}
use Rattle.image_check.specs.declared.Trip.{Trip}
use Rattle.image_check.proofs.Expanding.{met-node}
use Rattle.image_check.proofs.Nodes.{answers}

one-most : (n : ℕ) → one n ≤ 1
unfolding one
one-most zero = omega arith
one-most (suc n) = omega arith

blank-most : (m : ℕ → ℕ) (n : ℕ) → blank m n ≤ n
unfolding blank
blank-most m zero = zero-le
blank-most m (suc n) = let a = one-most (m n) in let b = blank-most m n in omega arith

module _ (sheet code flags marks work : List ℕ) (image : Image sheet code flags) (clear : Clear (length code) marks) (room : length code < length work) where
  abbrev none_yet : Trip
  none_yet = record { count = 0; bad = false }

  pub ready-first : Ready (length code) flags marks work 0
  ready-first =
      let b = blank-most (λ x. get_or marks x 0) (suc (length code)) in
      record { small = image.small; starts = image.room; slots = clear.slots; room = room; fits = omega arith; low = λ q. let z = clear.none q in omega arith }

  pub first-low : 0 + blanks marks (length code) ≤ length code + 2
  first-low = let b = blank-most (λ x. get_or marks x 0) (suc (length code)) in omega arith

  module _ (depth : ℕ) where
    abbrev node : ℕ → Option Node
    node = node_in sheet code

    answer : (x : Option Table) {n : ℕ} → x ≡ traversed node depth (length code) → verdict x ≡ n → Answers (sheet_in sheet) code depth n
    answer x k e = subst (λ n. Answers (sheet_in sheet) code depth n) (sym (ap verdict k) ∙ e) (answers (sheet_in sheet) code depth)

    module _ (marks₁ work₁ : List ℕ) where
      begun : {a : std.Option Trip} → Meets (length code) flags marks work none_yet 0 0 marks₁ work₁ a → view a marks₁ work₁ ≡ meet node 0 nothing (some 0)
      unfolding table_of stack_of nothing
      begun m = m.is ∙ (met-node sheet code flags image 0 0 (table_of none_yet marks work) ∙ ap (λ f. meet node 0 (record { marks = f; work = []; bad = false }) (some 0)) (fun_ext clear.none))

      -- place 0 is no place
      pub answers-off : Meets (length code) flags marks work none_yet 0 0 marks₁ work₁ None → Answers (sheet_in sheet) code depth astray
      unfolding verdict traversed view and_then
      answers-off m = answer none (ap (λ x. and_then x (λ t. traverse node depth (suc (length code)) t.marks t.work t.bad)) (begun m)) refl

      module _ {a : Trip} (m : Meets (length code) flags marks work none_yet 0 0 marks₁ work₁ (Some a)) (marks₂ work₂ : List ℕ) where
        ended : (b : std.Option Trip) → Traverses sheet code marks₁ work₁ a depth marks₂ work₂ b → view b marks₂ work₂ ≡ traversed node depth (length code)
        unfolding traversed on_from Traverses view and_then
        ended b t = t ∙ ap (λ x. and_then x (λ y. on_from sheet code depth (suc (length code)) y)) (begun m)

        pub answers-lost : Traverses sheet code marks₁ work₁ a depth marks₂ work₂ None → Answers (sheet_in sheet) code depth astray
        unfolding verdict view
        answers-lost t = answer none (ended None t) refl

        module _ (b : Trip) (t : Traverses sheet code marks₁ work₁ a depth marks₂ work₂ (Some b)) where
          pub answers-bad : b.bad ≡ true → Answers (sheet_in sheet) code depth bad_height
          unfolding verdict table_of view
          answers-bad k = answer (some (table_of b marks₂ work₂)) (ended (Some b) t) (ap (λ x. elim x as (λ c. ℕ) [ true ↦ bad_height | false ↦ 0 ]) k)

          pub answers-fine : b.bad ≡ false → Answers (sheet_in sheet) code depth 0
          unfolding verdict table_of view
          answers-fine k = answer (some (table_of b marks₂ work₂)) (ended (Some b) t) (ap (λ x. elim x as (λ c. ℕ) [ true ↦ bad_height | false ↦ 0 ]) k)

-- ---- tables that are made

pub cleared : (n : ℕ) {end : ℕ} → end < n → Clear end (replicate {A = ℕ} n 0)
cleared n {end = end} l = record { slots = subst (λ k. end < k) (sym (length-replicate {A = ℕ} n 0)) l; none = replicate-none n }

-- ---- the call

module _ (sheet table code : List ℕ) where
  pub admits-sheet : {n p : ℕ} → Refuses sheet table n p → (depth : ℕ) → Checks sheet code depth n p
  admits-sheet {p = p} d depth = subst (λ n. Checks sheet code depth n p) (sym d.number) (refuses_sheet d.is d.fault)

  pub admits-length : Accepts sheet table → max_code < length code → (depth : ℕ) → Checks sheet code depth code_full 0
  admits-length d l depth = refuses_length d.is l

  pub admits-code : Accepts sheet table → length code ≤ max_code → Admitted sheet code table
  admits-code d l = record { ready = d.ready; read = d.is; small = l }

pub checks-code : {sheet code table : List ℕ} {depth n : ℕ} → Admitted sheet code table → Answers (sheet_in table) code depth n → Checks sheet code depth n 0
checks-code a x = answers_it a.read a.small x
