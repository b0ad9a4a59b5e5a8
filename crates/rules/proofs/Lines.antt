-- A line's numbers, read field by field.
use mathlib.Core.Path.{◌≡◌, refl, ap, sym, ◌∙◌}
use mathlib.Core.Bool.{Bool, true, false}
use mathlib.Core.Option.{some, none}
use mathlib.Core.List.{List, [], ◌∷◌, ◌++◌, map, append-nil}
use Prim.Native.Nat.{ℕ, zero, suc, ◌+◌, ◌-◌, ◌^◌, ◌≤◌, ◌<◌}
use native.Mathlib.Numerals.{add-one}
use native.Mathlib.Omega.{arith}
use native.Mathlib.Decide.{dec_lt}
use borrow.Author.Tests.{lt-ltb, le-ltb}
use lib.Dec.{lit≤}
use lib.ListN.{length, get_or, take, drop, set, length-set, drop_of_length-le}
use lib.Seq.{drop-cons, take-suc-set, take_all, append_snoc}
use Rattle.definition.specs.Limits.{max_field, pass_count}
use Rattle.definition.specs.Field as def
use Rattle.definition.specs.Field.{first_line, Field, up_to, field, malformed, outside, is, Numbers, wrong, far, are, and_these, numbers}
use Rattle.definition.specs.Rules.{Rule, nameable, last_test, last_action, rule_fields, rule_from, good_only, good_rule, rule_of, read_rule}
use Rattle.field.specs.View.{read_of, line_end, line_fields}
use Rattle.field.proofs.Numbers.{up-to-bound, below-up-to}
use Rattle.field.proofs.Fields.{Whole}
use Rattle.std.specs.Prelude.{Some, None, Result, Ok, Err}
use Rattle.std.specs.Result.{result_ok}
use Rattle.field.specs.declared.Fault.{Fault}
use Rattle.field.specs.declared.Fault.TheVariants.{Malformed, Outside}
use Rattle.rules.specs.View.{row_size, first_at, second_at, test_at, one_at, two_at, line_numbers, Numbered, Bounded, row_of, line_of, line_at}

-- the largest role that a rule may name
abbrev last_role : ℕ
last_role = nameable - 1

-- the largest number of each field
abbrev pub maxima : List ℕ
maxima = pass_count ∷ last_role ∷ last_role ∷ last_test ∷ max_field ∷ last_action ∷ max_field ∷ last_action ∷ max_field ∷ []

-- `below nameable` is `up_to lastRole`
numbers-same : (f g : Field) (fs gs : List Field) → ((bs : List ℕ) → field f bs ≡ field g bs) → ((xs : List (List ℕ)) → numbers fs xs ≡ numbers gs xs)
    → (xs : List (List ℕ)) → numbers (f ∷ fs) xs ≡ numbers (g ∷ gs) xs
unfolding numbers
numbers-same f g fs gs a b [] = refl
numbers-same f g fs gs a b (x ∷ xs) = rw (a x, b xs)

fields-are : (xs : List (List ℕ)) → numbers rule_fields xs ≡ numbers (map up_to maxima) xs
unfolding rule_fields
fields-are = numbers-same _ _ _ _ (λ bs. refl) (numbers-same _ _ _ _ (below-up-to last_role) (numbers-same _ _ _ _ (below-up-to last_role) (λ xs. refl)))

-- numbers with those of earlier fields before them
unfoldable pub prepend : List ℕ → Numbers → Numbers
prepend p wrong = wrong
prepend p far = far
prepend p (are ns) = are (p ++ ns)

prepend-nil : (x : Numbers) → prepend [] x ≡ x
unfolding prepend
prepend-nil wrong = refl
prepend-nil far = refl
prepend-nil (are ns) = refl

prepend-is : (p : List ℕ) (n : ℕ) (x : Numbers) → prepend p (and_these (is n) x) ≡ prepend (p ++ (n ∷ [])) x
unfolding prepend and_these
prepend-is p n wrong = refl
prepend-is p n far = refl
prepend-is p n (are ns) = ap are (sym (append_snoc p n ns))

-- what is no number
unfoldable pub Bad : def.Read → Type 0
Bad malformed = Unit {0}
Bad outside = Unit {0}
Bad (is n) = ⊥

pub bad-read : (r : Result ℕ Fault) → result_ok r ≡ None → Bad (read_of r)
unfolding Bad
bad-read (Ok n) e = absurd (cc)
bad-read (Err Malformed) e = tt
bad-read (Err Outside) e = tt

prepend-bad : (p : List ℕ) (y : def.Read) (x : Numbers) → Bad y → rule_from (prepend p (and_these y x)) ≡ none
unfolding prepend and_these rule_from Bad
prepend-bad p malformed x b = refl
prepend-bad p outside wrong b = refl
prepend-bad p outside far b = refl
prepend-bad p outside (are ns) b = refl
prepend-bad p (is n) x b = absurd b

-- of the fields of a line, k are read into ns
pub record Reading (fs : List (List ℕ)) (ns : List ℕ) (k : ℕ) : Type 0 where
  pub long : length ns ≡ row_size
  pub more : numbers rule_fields fs ≡ prepend (take k ns) (numbers (map up_to (drop k maxima)) (drop k fs))

pub reading-starts : (fs : List (List ℕ)) (ns : List ℕ) → length ns ≡ row_size → Reading fs ns 0
reading-starts fs ns h = record { long = h; more = fields-are fs ∙ sym (prepend-nil _) }

module _ {fs : List (List ℕ)} {ns : List ℕ} {k : ℕ} (now : Reading fs ns k) where
  module _ (left : k < row_size) (inside : k < length fs) {x : def.Read} (reads : x ≡ field (up_to (get_or maxima k 0)) (get_or fs k [])) where
    -- the next field and those after it
    one_more : numbers rule_fields fs ≡ prepend (take k ns) (and_these x (numbers (map up_to (drop (suc k) maxima)) (drop (suc k) fs)))
    unfolding numbers
    one_more =
        let this : drop k maxima ≡ get_or maxima k 0 ∷ drop (suc k) maxima = drop-cons maxima k 0 left in
        now.more ∙ rw (this, drop-cons fs k [] inside, numbers, ← reads)

    pub reading-next : {n : ℕ} → x ≡ is n → Reading fs (set ns k n) (k + 1)
    reading-next {n} e = record {
      long = length-set ns k n ∙ now.long;
      more = rw (add-one k, take-suc-set ns k n (omega (arith, now.long))) (rw e at one_more ∙ prepend-is (take k ns) n _);
    }

    pub reading-bad : Bad x → rule_from (numbers rule_fields fs) ≡ none
    reading-bad b = rw one_more (prepend-bad _ _ _ b)

  pub reading-done : k ≡ row_size → length fs ≡ row_size → numbers rule_fields fs ≡ are ns
  unfolding numbers prepend
  reading-done e h =
      let none_left : drop row_size fs ≡ [] = drop_of_length-le fs {i = row_size} (omega arith) in
      now.more ∙ rw (e, take_all row_size ns (omega (arith, now.long)), none_left) (ap are (append-nil ns))

-- ---- the line that starts at a place

and-wrong : (x : def.Read) → and_these x wrong ≡ wrong
unfolding and_these
and-wrong malformed = refl
and-wrong outside = refl
and-wrong (is n) = refl

count-wrong : (fs : List Field) (xs : List (List ℕ)) → (length xs ≡ length fs → ⊥) → numbers fs xs ≡ wrong
unfolding numbers
count-wrong [] [] n = absurd (n refl)
count-wrong [] (x ∷ xs) n = refl
count-wrong (f ∷ fs) [] n = refl
count-wrong (f ∷ fs) (x ∷ xs) n = ap (and_these (field f x)) (count-wrong fs xs (λ e. n (ap suc e))) ∙ and-wrong (field f x)

module _ (text : List ℕ) (at : ℕ) where
  whole_numbers : line_end text at < length text → line_numbers text at ≡ numbers rule_fields (line_fields text at)
  unfolding line_numbers
  whole_numbers h = rw (line_numbers, lt-ltb (line_end text at) (length text) h)

  unended-numbers : length text ≤ line_end text at → line_numbers text at ≡ wrong
  unfolding line_numbers
  unended-numbers h = rw (line_numbers, le-ltb (line_end text at) (length text) h)

  -- by whether the line has its LF
  pub by_end : {A : Type 0} → (line_end text at < length text → A) → (length text ≤ line_end text at → A) → A
  by_end {A} ended unended = go (dec_lt (line_end text at) (length text))
    where
      go : Dec (line_end text at < length text) → A
      go (yes h) = ended h
      go (no h) = unended (omega arith)

  pub whole-rule : line_end text at < length text → rule_from (line_numbers text at) ≡ read_rule (first_line (drop at text))
  unfolding read_rule
  whole-rule h = ap rule_from (whole_numbers h)

  unended-rule : length text ≤ line_end text at → rule_from (line_numbers text at) ≡ none
  unfolding rule_from
  unended-rule h = ap rule_from (unended-numbers h)

  -- a line that makes a rule has its LF
  pub rule-ended : {q : Rule} → rule_from (line_numbers text at) ≡ some q → line_end text at < length text
  rule-ended e = by_end (λ h. h) (λ h. absurd (let z : none ≡ some _ = sym (unended-rule h) ∙ e in cc))

  pub fields-bad : rule_from (numbers rule_fields (line_fields text at)) ≡ none → rule_from (line_numbers text at) ≡ none
  fields-bad e = by_end (λ h. ap rule_from (whole_numbers h) ∙ e) unended-rule

  pub not-whole : (Whole text at row_size → ⊥) → rule_from (line_numbers text at) ≡ none
  unfolding rule_from rule_fields
  not-whole n =
      by_end
      (λ h. rw (whole_numbers h, count-wrong rule_fields (line_fields text at) (λ e. n (record { many = e; ended = h }))))
      unended-rule

  -- what a line that gives numbers has: its LF, and numbers in its fields
  pub line-are : {ns : List ℕ} → line_numbers text at ≡ are ns → (line_end text at < length text) × (numbers rule_fields (line_fields text at) ≡ are ns)
  line-are e =
      by_end (λ h. (h, sym (whole_numbers h) ∙ e)) (λ h. absurd (let z : wrong ≡ are _ = sym (unended-numbers h) ∙ e in cc))

  pub good-numbered : {ns : List ℕ} {next : ℕ} → Whole text at row_size → numbers rule_fields (line_fields text at) ≡ are ns → next ≡ line_end text at + 1 → Numbered text at (Some (record { numbers = ns; next = next }))
  good-numbered w e n = (whole_numbers w.ended ∙ e, n)

-- ---- the numbers' ranges

and-are : (y : def.Read) (x : Numbers) (ns : List ℕ) → and_these y x ≡ are ns → (n : ℕ) × (qs : List ℕ) × (y ≡ is n) × (x ≡ are qs) × (ns ≡ n ∷ qs)
unfolding and_these
and-are malformed x ns e = absurd (cc)
and-are outside wrong ns e = absurd (cc)
and-are outside far ns e = absurd (cc)
and-are outside (are qs) ns e = absurd (cc)
and-are (is n) wrong ns e = absurd (cc)
and-are (is n) far ns e = absurd (cc)
and-are (is n) (are qs) ns e = (n, qs, refl, refl, (cc))

number_bound : (ms : List ℕ) (xs : List (List ℕ)) (ns : List ℕ) → numbers (map up_to ms) xs ≡ are ns → (k : ℕ) → get_or ns k 0 ≤ get_or ms k 0
unfolding numbers
number_bound [] [] ns e k = rw (let z : ns ≡ [] = cc in z) (omega arith)
number_bound [] (x ∷ xs) ns e k = absurd (cc)
number_bound (m ∷ ms) [] ns e k = absurd (cc)
number_bound (m ∷ ms) (x ∷ xs) ns e k = let (n, qs, a, b, s) = and-are (field (up_to m) x) (numbers (map up_to ms) xs) ns e in rw s (go n qs a (number_bound ms xs qs b) k)
  where
    go : (n : ℕ) (qs : List ℕ) → field (up_to m) x ≡ is n → ((k : ℕ) → get_or qs k 0 ≤ get_or ms k 0) → (k : ℕ) → get_or (n ∷ qs) k 0 ≤ get_or (m ∷ ms) k 0
    go n qs a b zero = up-to-bound x m a
    go n qs a b (suc k) = b k

pub bounded : (xs : List (List ℕ)) {ns : List ℕ} → numbers rule_fields xs ≡ are ns → Bounded ns
bounded xs {ns} e =
    let b = number_bound maxima xs ns (sym (fields-are xs) ∙ e) in
    record { first = omega (arith, b first_at); second = omega (arith, b second_at); test = omega (arith, b test_at); one = omega (arith, b one_at); two = omega (arith, b two_at) }

maxima-small : (k : ℕ) → get_or maxima k 0 ≤ max_field
maxima-small zero = lit≤ tt
maxima-small (suc zero) = lit≤ tt
maxima-small (suc (suc zero)) = lit≤ tt
maxima-small (suc (suc (suc zero))) = lit≤ tt
maxima-small (suc (suc (suc (suc zero)))) = lit≤ tt
maxima-small (suc (suc (suc (suc (suc zero))))) = lit≤ tt
maxima-small (suc (suc (suc (suc (suc (suc zero)))))) = lit≤ tt
maxima-small (suc (suc (suc (suc (suc (suc (suc zero))))))) = lit≤ tt
maxima-small (suc (suc (suc (suc (suc (suc (suc (suc zero)))))))) = lit≤ tt
maxima-small (suc (suc (suc (suc (suc (suc (suc (suc (suc k))))))))) = lit≤ tt

-- a number that was read is one of a table
pub number_fits : {x : def.Read} (bs : List ℕ) (k : ℕ) {n : ℕ} → x ≡ field (up_to (get_or maxima k 0)) bs → x ≡ is n → n < 2 ^ 16
number_fits bs k a b = let h = up-to-bound bs (get_or maxima k 0) (sym a ∙ b) in omega (arith, maxima-small k)

-- ---- the line's answer, from its numbers and their test
module _ (text : List ℕ) (at : ℕ) where
  pub none-line : rule_from (line_numbers text at) ≡ none → None ≡ line_at text at
  unfolding line_of
  none-line n = rw n

  module _ {ns : List ℕ} (n : line_numbers text at ≡ are ns) where
    pub line-bounded : Bounded ns
    line-bounded = bounded (line_fields text at) (line-are text at n).1

    rule-is : {t : Bool} → t ≡ good_rule (rule_of ns) → rule_from (line_numbers text at) ≡ elim t [ true ↦ some (rule_of ns) | false ↦ none ]
    unfolding rule_from good_only
    rule-is e = rw (n, e, good_only)

    pub line-not-good : false ≡ good_rule (rule_of ns) → None ≡ line_at text at
    line-not-good g = none-line (rule-is g)

    pub line-good : true ≡ good_rule (rule_of ns) → {row : List ℕ} {next : ℕ} → row ≡ row_of (rule_of ns) → next ≡ line_end text at + 1 → Some (record { numbers = row; next = next }) ≡ line_at text at
    unfolding line_of
    line-good g e q = rw (rule-is g, e, q)
