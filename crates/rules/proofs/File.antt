-- A rule file, read line by line.
use mathlib.Core.Path.{◌≡◌, refl, ap, ap₂, sym, ◌∙◌}
use mathlib.Core.Bool.{false}
use mathlib.Core.Option.{Option, some, none}
use mathlib.Core.List.{List, [], ◌∷◌, ◌++◌, append_assoc, append-nil}
use Prim.Native.Nat.{ℕ, ◌+◌, ◌-◌, ◌*◌, ◌≤◌, ◌<◌}
use native.Mathlib.Omega.{arith}
use borrow.Author.Tests.{le-leb, lt-leb}
use lib.ListN.{length, take, drop, length-append, drop_of_length-le}
use Rattle.definition.specs.Limits.{max_rules, bad_rule, output_short}
use Rattle.definition.specs.Res.{Res, ok, refuse, ◌>>=◌, ◌>>◌, demand, given}
use Rattle.definition.specs.Field.{lf, split, first_line}
use Rattle.definition.specs.Lent.{zeros, filled}
use Rattle.definition.specs.Rules.{Rule, read_rule, is_empty, rules_from, read_rules}
use Rattle.field.specs.View.{line_end}
use Rattle.field.proofs.Parts.{Some, some-part, split-some, line-part, line-is, line-ends, parts_last, parts_more}
use Rattle.rules.specs.declared.Line.{Line}
use Rattle.std.specs.Prelude as code
use Rattle.std.specs.Prelude.{Result, Ok, Err}
use Rattle.definition.specs.declared.Refused.{Refused}
use Rattle.definition.specs.View.{res_of}
use Rattle.std.specs.Result.{result_unwrap_or}
use Rattle.rules.specs.View.{row_size, table_size, row_of, rows_of, read_into, answer_of, table_for, Answered, Rows, line_of, line_at}
use Rattle.store.specs.Fill.{zeroed_from}
use Rattle.store.proofs.Fills.{zero-all, zeroed-is}
use Rattle.rules.proofs.Lines.{by_end, whole-rule, rule-ended}
use Rattle.rules.proofs.Table.{rows_long, rows_more}

-- ---- the definition, one line at a time

-- rules with those of earlier lines before them
unfoldable pub prepended : List Rule → Res (List Rule) → Res (List Rule)
prepended rs (ok qs) = ok (rs ++ qs)
prepended rs (refuse n p) = refuse n p

prepended-nil : (x : Res (List Rule)) → x ≡ prepended [] x
unfolding prepended
prepended-nil (ok qs) = refl
prepended-nil (refuse n p) = refl

prepended-more : (rs : List Rule) (r : Rule) (x : Res (List Rule)) → prepended rs (x >>= (λ qs. ok (r ∷ qs))) ≡ prepended (rs ++ (r ∷ [])) x
unfolding prepended ◌>>=◌
prepended-more rs r (ok qs) = ap ok (sym (append_assoc rs (r ∷ []) qs))
prepended-more rs r (refuse n p) = refl

not-empty : (l : List ℕ) → 0 < length l → is_empty l ≡ false
unfolding is_empty
not-empty [] h = absurd (omega arith)
not-empty (b ∷ l) h = refl

rules-unended : (n : ℕ) (l : List ℕ) → 0 < length l → rules_from n (l ∷ []) ≡ refuse bad_rule n
unfolding rules_from ◌>>◌ demand
rules-unended n l h = rw (not-empty l h)

module _ (n : ℕ) (l : List ℕ) where
  rules-full : {xs : List (List ℕ)} → Some xs → max_rules < n → rules_from n (l ∷ xs) ≡ refuse bad_rule n
  unfolding rules_from ◌>>◌ demand
  rules-full some-part h = rw (lt-leb n max_rules h)

  rules-bad : {xs : List (List ℕ)} → Some xs → n ≤ max_rules → read_rule l ≡ none → rules_from n (l ∷ xs) ≡ refuse bad_rule n
  unfolding rules_from ◌>>=◌ ◌>>◌ demand given
  rules-bad some-part h e = rw (le-leb n max_rules h, e)

  rules-good : {xs : List (List ℕ)} → Some xs → n ≤ max_rules → {r : Rule} → read_rule l ≡ some r → rules_from n (l ∷ xs) ≡ rules_from (n + 1) xs >>= (λ qs. ok (r ∷ qs))
  unfolding rules_from ◌>>=◌ ◌>>◌ demand given
  rules-good some-part h e = rw (le-leb n max_rules h, e)

-- an empty file has no rules
pub no-rules : read_rules [] ≡ ok []
unfolding read_rules rules_from split is_empty demand ◌>>◌
no-rules = refl

-- ---- what a line's answer says

module _ (next : ℕ) where
  line-none : (o : Option Rule) → code.None ≡ line_of next o → o ≡ none
  unfolding line_of
  line-none none e = refl
  line-none (some r) e = absurd (cc)

  line-some : (o : Option Rule) {l : Line} → code.Some l ≡ line_of next o → (r : Rule) × (o ≡ some r) × (l.numbers ≡ row_of r) × (l.next ≡ next)
  unfolding line_of
  line-some none e = absurd (cc)
  line-some (some r) {l} e = let same : l ≡ record { numbers = row_of r; next = next } = cc in (r, refl, ap (λ (x : Line). x.numbers) same, ap (λ (x : Line). x.next) same)

-- ---- the walk over the lines

-- `count` lines are read, and their rules' rows are at the table's front; the next line starts at `at`
pub record FileRead (text table : List ℕ) (at count : ℕ) : Type 0 where
  pub rules : List Rule
  pub front : take (count * row_size) table ≡ rows_of rules
  pub many : count ≡ length rules
  pub few : count ≤ max_rules
  pub near : at ≤ length text
  pub long : table_size ≤ length table
  pub more : read_rules text ≡ prepended rules (rules_from (count + 1) (split lf (drop at text)))

pub file-starts : (text table : List ℕ) → table_size ≤ length table → FileRead text table 0 0
unfolding read_rules rows_of
file-starts text table h = record { rules = []; front = refl; many = refl; few = omega arith; near = omega arith; long = h; more = prepended-nil _ }

module _ {text table : List ℕ} {at count : ℕ} (f : FileRead text table at count) where
  next : line_end text at < length text → split lf (drop at text) ≡ first_line (drop at text) ∷ split lf (drop (line_end text at + 1) text)
  next inside = parts_more lf (line-part (line-ends text at)) inside ∙ ap (λ (l : List ℕ). l ∷ split lf (drop (line_end text at + 1) text)) (line-is (line-ends text at))

  module _ (here : at < length text) where
    file-unended : length text ≤ line_end text at → read_rules text ≡ refuse bad_rule (count + 1)
    unfolding prepended
    file-unended last = f.more ∙ rw (parts_last lf (line-part (line-ends text at)) last, line-is (line-ends text at), rules-unended (count + 1) (first_line (drop at text)) (omega arith))

    pub file-full : max_rules ≤ count → read_rules text ≡ refuse bad_rule (count + 1)
    unfolding prepended
    file-full h =
        by_end text at
        (λ inside. f.more ∙ rw (next inside, rules-full (count + 1) (first_line (drop at text)) (split-some lf (drop (line_end text at + 1) text)) (omega arith)))
        file-unended

    pub file-bad : count < max_rules → code.None ≡ line_at text at → read_rules text ≡ refuse bad_rule (count + 1)
    unfolding prepended
    file-bad room e =
        by_end text at
        (λ inside. f.more
        ∙ rw (next inside, rules-bad (count + 1) (first_line (drop at text)) (split-some lf (drop (line_end text at + 1) text)) (omega arith) (sym (whole-rule text at inside) ∙ line-none _ _ e)))
        file-unended

  module _ {l : Line} (is : code.Some l ≡ line_at text at) where
    pub file-next : count < max_rules → {table' : List ℕ} → take ((count + 1) * row_size) table' ≡ take (count * row_size) table ++ l.numbers → length table' ≡ length table → FileRead text table' l.next (count + 1)
    file-next room {table'} put same =
        let (q, o, n, at') = line-some _ _ is in
        let inside = rule-ended text at o in
        let counted : count + 1 ≡ length (f.rules ++ (q ∷ [])) = omega (arith, f.many, length-append f.rules (q ∷ [])) in
        rw at' (record {
          rules = f.rules ++ (q ∷ []);
          front = put ∙ ap₂ (λ (a b : List ℕ). a ++ b) f.front n ∙ sym (rows_more f.rules q);
          many = counted;
          few = omega arith;
          near = omega (arith, inside);
          long = omega (arith, f.long);
          more = f.more
              ∙ rw (next inside, rules-good (count + 1) (first_line (drop at text)) (split-some lf (drop (line_end text at + 1) text)) (omega arith) (sym (whole-rule text at inside) ∙ o))
              (prepended-more f.rules q _);
        })

    -- the next line lies behind this one
    pub file-less : at < length text → length text - l.next < length text - at
    file-less here = let (q, o, n, at') = line-some _ _ is in omega (arith, at')

  pub file-done : (old : List ℕ) → length table ≡ length old → length text ≤ at → Rows text old table (ok count)
  unfolding prepended rules_from split is_empty ◌>>◌ demand
  file-done old same h =
      let is : read_rules text ≡ ok f.rules = f.more ∙ rw (drop_of_length-le text h) (ap ok (append-nil f.rules)) in
      (omega (arith, f.long), f.few, (f.rules, is, f.many, f.front))

-- ---- what is lent

module _ (text : List ℕ) {room : ℕ} where
  pub read-fit : table_size ≤ room → read_into room text ≡ read_rules text
  unfolding read_into ◌>>◌ demand
  read-fit h = rw (le-leb table_size room h)

  pub read-unfit : room < table_size → read_into room text ≡ refuse output_short 0
  unfolding read_into ◌>>◌ demand
  read-unfit h = rw (lt-leb table_size room h)

  -- what was read into a table that is no longer
  pub file-fit : {table : List ℕ} {a : Res ℕ} → room ≡ table_size → Answered room (read_into room text) a table → Answered table_size (read_rules text) a table
  file-fit e d = rw (← read-fit (omega arith), ← e) d

-- the rules' rows, and 0 behind them; or 0 alone
pub file-lent : (text old mid : List ℕ) {new : List ℕ} {n : ℕ} (r : Result ℕ Refused) → length mid ≡ length old → Rows text old mid (res_of (λ k. k) r) → n ≡ result_unwrap_or r 0 * row_size → new ≡ zeroed_from n mid
    → Answered (length old) (read_into (length old) text) (res_of (λ k. k) r) new
unfolding answer_of table_for filled
file-lent text old mid {new} {n} (Ok k) same t e z =
    let rs = t.2.0 in
    let rows : take n mid ≡ rows_of rs = rw e t.2.3 in
    let long : n ≡ length (rows_of rs) = omega (arith, e, t.2.2, rows_long rs) in
    rw (read-fit text t.0, t.2.1) (record { is = ap ok t.2.2; holds = z ∙ zeroed-is n mid ∙ rw (same, rows, long) })
file-lent text old mid {new} {n} (Err x) same t e z =
    rw t (record { is = refl; holds = zero-all mid (rw e at z) ∙ ap zeros same })
