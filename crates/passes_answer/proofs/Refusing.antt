-- No refusal of the call has number 0 or that of a malformed line.
use mathlib.Core.Bool.{Bool, true, false}
use mathlib.Core.List.{List, [], ◌∷◌, map}
use mathlib.Core.Option.{Option, some, none}
use Prim.Native.Nat.{ℕ, ◌+◌, ◌<◌}
use native.Mathlib.Omega.{arith}
use lib.Dec.{eqb, leb}
use lib.ListN.{length}
use Rattle.definition.specs.Limits.{max_rules, max_code, max_protected, max_lines, bad_sheet, bad_rule, bad_code, code_full, labels_full, lines_full}
use Rattle.definition.specs.Res.{Res, ok, refuse, ◌>>=◌, ◌>>◌, demand, given}
use Rattle.definition.specs.Field.{lf, split, has}
use Rattle.definition.specs.Opcode.{Sheet}
use Rattle.definition.specs.Sheet.{read_sheet}
use Rattle.definition.specs.Emit.{LineEntry}
use Rattle.definition.specs.Rules.{is_empty, read_rule, rules_from, read_rules}
use Rattle.definition.specs.Rewrite.{decode, end_from, boundaries_from}
use Rattle.definition.specs.Lent.{entries_of}
use Rattle.definition.specs.Alone.{Given, Rewritten, boundaries, checked, rewritten, rewrite_files}
use Rattle.definition.specs.Passes.{malformed_line}

-- a refusal's number lies between 0 and that of a malformed line
pub record Proper (n : ℕ) : Type 0 where
  pub positive : 0 < n
  pub small : n < malformed_line

unfoldable pub Properly : {A : Type 0} → Res A → Type 0
Properly (ok a) = Unit {0}
Properly (refuse n p) = Proper n

module _ {A B : Type 0} where
  pub bind-proper : (m : Res A) (f : A → Res B) → Properly m → ((a : A) → Properly (f a)) → Properly (m >>= f)
  unfolding Properly ◌>>=◌
  bind-proper (ok a) f h k = k a
  bind-proper (refuse n p) f h k = h

  pub then-proper : (m : Res A) (t : Res B) → Properly m → Properly t → Properly (m >> t)
  unfolding Properly ◌>>◌
  then-proper (ok a) t h k = k
  then-proper (refuse n p) t h k = h

pub given-proper : {A : Type 0} (o : Option A) (n p : ℕ) → Proper n → Properly (given o n p)
unfolding Properly given
given-proper none n p h = h
given-proper (some a) n p h = tt

pub ok-proper : {A : Type 0} (a : A) → Properly (ok a)
unfolding Properly
ok-proper a = tt

pub demand-proper : (b : Bool) (n p : ℕ) → Proper n → Properly (demand b n p)
unfolding Properly demand
demand-proper true n p h = tt
demand-proper false n p h = h

rules-proper : (n : ℕ) (ls : List (List ℕ)) → Properly (rules_from n ls)
unfolding rules_from
rules-proper n [] = ok-proper []
rules-proper n (l ∷ []) = then-proper (demand (is_empty l) bad_rule n) (ok []) (demand-proper (is_empty l) bad_rule n (record { positive = omega arith; small = omega arith })) (ok-proper [])
rules-proper n (l ∷ m ∷ ls) =
    let nine : Proper bad_rule = record { positive = omega arith; small = omega arith } in
    then-proper (demand (leb n max_rules) bad_rule n) _ (demand-proper (leb n max_rules) bad_rule n nine)
    (bind-proper (given (read_rule l) bad_rule n) _ (given-proper (read_rule l) bad_rule n nine)
    (λ r. bind-proper (rules_from (n + 1) (m ∷ ls)) _ (rules-proper (n + 1) (m ∷ ls)) (λ rs. ok-proper (r ∷ rs))))

pub read_rules-proper : (t : List ℕ) → Properly (read_rules t)
unfolding read_rules
read_rules-proper t = rules-proper 1 (split lf t)

boundaries-proper : (places xs : List ℕ) → Properly (boundaries places xs)
unfolding boundaries
boundaries-proper places [] = ok-proper tt
boundaries-proper places (x ∷ xs) =
    then-proper (demand (has places x) bad_code x) (boundaries places xs) (demand-proper (has places x) bad_code x (record { positive = omega arith; small = omega arith })) (boundaries-proper places xs)

checked-proper : (s : Sheet) (g : Given) → Properly (checked s g)
unfolding checked
checked-proper s g =
    let is = decode s g.code in
    let places = boundaries_from 0 is in
    let b = eqb (end_from 0 is) (length g.code) in
    then-proper (demand b bad_code (end_from 0 is)) _ (demand-proper b bad_code (end_from 0 is) (record { positive = omega arith; small = omega arith }))
    (then-proper (boundaries places g.protected) _ (boundaries-proper places g.protected)
    (boundaries-proper places (map (λ (x : LineEntry). x.offset) (entries_of g.lines))))

pub files-proper : (place : ℕ) (sheet rules : List ℕ) (g : Given) → Properly (rewrite_files place sheet rules g)
unfolding rewrite_files
files-proper place sheet rules g =
    bind-proper (given (read_sheet sheet) bad_sheet place) _ (given-proper (read_sheet sheet) bad_sheet place (record { positive = omega arith; small = omega arith }))
    (λ s. bind-proper (read_rules rules) _ (read_rules-proper rules)
    (λ rs. limit _ (leb (length g.code) max_code) code_full (record { positive = omega arith; small = omega arith })
    (limit _ (leb (length g.protected) max_protected) labels_full (record { positive = omega arith; small = omega arith })
    (limit _ (leb (length (entries_of g.lines)) max_lines) lines_full (record { positive = omega arith; small = omega arith })
    (then-proper (checked s g) (ok (rewritten s rs g)) (checked-proper s g) (ok-proper (rewritten s rs g)))))))
  where
    limit : (t : Res Rewritten) (b : Bool) (n : ℕ) → Proper n → Properly t → Properly (demand b n 0 >> t)
    limit t b n h k = then-proper (demand b n 0) t (demand-proper b n 0 h) k
