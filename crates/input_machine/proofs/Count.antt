-- The count line: rules follow, as many as it says, or the input is refused there.
use mathlib.Core.Path.{◌≡◌, refl, ap, sym, ◌∙◌}
use mathlib.Core.Logic.{◌⊎◌, inl, inr}
use mathlib.Core.Bool.{Bool, true, false}
use mathlib.Core.Option.{Option, some, none}
use mathlib.Core.List.{List, [], ◌∷◌, ◌++◌}
use Prim.Native.Nat.{ℕ, ◌≤◌}
use native.Mathlib.Omega.{arith}
use borrow.Author.Tests.{leb-true}
use lib.Dec.{eqb, leb}
use Rattle.definition.specs.Limits.{max_rules}
use Rattle.definition.specs.Field.{lf}
use Rattle.definition.specs.Listing.{cut_line, without_lf, count_line}
use Rattle.input_machine.specs.Machine as machine
use Rattle.input_machine.specs.Machine.{Phase, Head, blank, line_in, line_after, with_number, number_after, digit_byte, stop, rules_at, counted, next_in, next, put_in, stored, Stores, State, step, steps, countless, ending_in, ending}
use Rattle.input_machine.proofs.Text.{state, in_line, has_lf, no-lf, cut, cut-ended, cut-open, without-ended, without-open}
use Rattle.input_machine.proofs.Scan.{number_in, up_to_of, scanned}

abbrev counting : ℕ → ℕ → Head
counting n x = in_line machine.count_line n 0 x

module _ (q : Phase) where
  count-byte : (n x b : ℕ) (s : Stores) → eqb b lf ≡ false → step q (state (counting n x) s) b ≡ state (counting n (number_after x b)) s
  unfolding step next next_in put_in stored digit_byte with_number
  count-byte n x b s e = rw (e, next_in)

  count-bytes : (n x : ℕ) (s : Stores) (l : List ℕ) → has_lf l ≡ false → steps q (state (counting n x) s) l ≡ state (counting n (number_in x l)) s
  unfolding steps number_in
  count-bytes n x s [] e = refl
  count-bytes n x s (b ∷ l) e = let p = no-lf b l e in ap (λ (t : State). steps q t l) (count-byte n x b s p.0) ∙ count-bytes n (number_after x b) s l p.1

  count-ended : (n x : ℕ) (s : Stores) (l m : List ℕ) → has_lf l ≡ false
      → steps q (state (counting n x) s) (l ++ (lf ∷ m)) ≡ steps q (state (counted q (counting n (number_in x l))) s) m
  unfolding steps number_in step next next_in put_in stored
  count-ended n x s [] m e = refl
  count-ended n x s (b ∷ l) m e =
      let p = no-lf b l e in
      ap (λ (t : State). steps q t (l ++ (lf ∷ m))) (count-byte n x b s p.0) ∙ count-ended n (number_after x b) s l m p.1

-- what is concluded after the count: without one, by the stores alone
unfoldable pub on_count : {A : Type 0} → Phase → (State → A) → (Stores → A) → Stores → List ℕ → Option ℕ → A
on_count q conclude nothing s rest none = nothing s
on_count q conclude nothing s rest (some k) = conclude (steps q (state (rules_at q 3 k) s) rest)

module _ {A : Type 0} (q : Phase) (conclude : State → A) (nothing : Stores → A) (none-at : (h : Head) (s : Stores) → ending h ≡ countless → conclude (state h s) ≡ nothing s) where
  uncounted-stays : (n : ℕ) (s : Stores) (bs : List ℕ) → conclude (steps q (state (line_in machine.uncounted n 0) s) bs) ≡ nothing s
  unfolding steps step next next_in put_in stored ending ending_in line_in
  uncounted-stays n s [] = none-at (line_in machine.uncounted n 0) s refl
  uncounted-stays n s (b ∷ bs) = uncounted-stays n s bs

  count-within : (s : Stores) (x : ℕ) (m : List ℕ) → conclude (steps q (state (counted q (counting 2 x)) s) m) ≡ on_count q conclude nothing s m (up_to_of max_rules x)
  unfolding counted on_count up_to_of stop line_after
  count-within s x m =
      elim (leb x max_rules)
      as (λ t. conclude (steps q (state (elim t [ true ↦ rules_at q 3 x | false ↦ line_in machine.uncounted 2 0 ]) s) m) ≡ on_count q conclude nothing s m (elim t [ true ↦ some x | false ↦ none ]))
      [ true ↦ refl | false ↦ uncounted-stays 2 s m ]

  pub count-on : (s : Stores) (bs : List ℕ)
      → conclude (steps q (state (line_in machine.count_line 2 0) s) bs) ≡ on_count q conclude nothing s (cut_line bs).1 (count_line (without_lf (cut_line bs).0))
  unfolding line_in count_line on_count ending ending_in
  count-on s bs = go (cut bs)
    where
      go : ((l m : List ℕ) × (has_lf l ≡ false) × (bs ≡ l ++ (lf ∷ m))) ⊎ (has_lf bs ≡ false)
          → conclude (steps q (state (counting 2 blank) s) bs) ≡ on_count q conclude nothing s (cut_line bs).1 (count_line (without_lf (cut_line bs).0))
      go (inl p) =
          let e = p.2 in
          rw (p.3, cut-ended p.0 p.1 e, without-ended p.0)
          (ap conclude (count-ended q 2 blank s p.0 p.1 e)
          ∙ count-within s (number_in blank p.0) p.1
          ∙ ap (on_count q conclude nothing s p.1) (sym (scanned max_rules (omega arith) p.0)))
      go (inr e) = rw (cut-open bs e, without-open bs e) (ap conclude (count-bytes q 2 blank s bs e) ∙ none-at (counting 2 (number_in blank bs)) s refl)

pub count_small : (o : Option (List ℕ)) (k : ℕ) → count_line o ≡ some k → k ≤ max_rules
unfolding count_line up_to_of
count_small none k e = absurd (let z : ◌≡◌ {A = ℕ} 0 1 = cc in omega arith)
count_small (some l) k e = go (number_in blank l) (leb (number_in blank l) max_rules) refl (sym (scanned max_rules (omega arith) l) ∙ e)
  where
    go : (x : ℕ) (t : Bool) → leb x max_rules ≡ t → ◌≡◌ {A = Option ℕ} (elim t [ true ↦ some x | false ↦ none ]) (some k) → k ≤ max_rules
    go x true q e = let z : x ≡ k = cc in omega (arith, leb-true x max_rules q)
    go x false q e = absurd (let z : ◌≡◌ {A = ℕ} 0 1 = cc in omega arith)
