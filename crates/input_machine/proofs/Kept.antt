-- The machine over lines of the sheet and of the rules: what it keeps is the text clipped.
use mathlib.Core.Path.{◌≡◌, refl, ap, sym, ◌∙◌}
use mathlib.Core.Logic.{◌⊎◌, inl, inr}
use mathlib.Core.Bool.{Bool, true, false, ◌&&◌}
use mathlib.Core.List.{List, [], ◌∷◌, ◌++◌, append_assoc}
use Prim.Native.Nat.{ℕ, zero, suc, ◌+◌, ◌-◌, ◌≤◌, ◌<◌}
use native.Mathlib.Omega.{arith}
use lib.Dec.{eqb, ltb, eqb-suc-zero}
use lib.ListN.{length, length-append}
use Rattle.definition.specs.Field.{lf, comma}
use Rattle.definition.specs.Listing.{cut_lines}
use Rattle.store.specs.Store.{push_all}
use Rattle.store.proofs.Stores.{push_all-append}
use Rattle.input_machine.specs.Machine.{Phase, sheet_line, count_line, rule_line, Head, field_room, field_width, last_line, line_after, line_in, start, with_kept, keeps, text_byte, rules_at, next_in, next, Put, into_sheet, into_rules, put_if, is_kept, put_in, Stores, stored, State, step, steps}
use Rattle.input_machine.proofs.Text.{state, stored_all, all_append, line_after_lem, has_lf, lfs, no-lf, cut, lfs-ended, lfs-open, steps-append}
use Rattle.input_machine.proofs.Clip.{keeps_byte, index_after, kept_after, put_on, line_from, text_from, clipped_line, clipped, text-ended, text-open, cuts-none, cuts-ended, cuts-open}

-- ---- what is put into the sheet, or into the rules

unfoldable pub on_sheet : Stores → List ℕ → Stores
on_sheet s xs = record { sheet = push_all s.sheet xs; rules = s.rules; code = s.code; offsets = s.offsets; entries = s.entries }

unfoldable pub on_rules : Stores → List ℕ → Stores
on_rules s xs = record { sheet = s.sheet; rules = push_all s.rules xs; code = s.code; offsets = s.offsets; entries = s.entries }

all-sheet : (s : Stores) (xs : List ℕ) → stored_all into_sheet s xs ≡ on_sheet s xs
unfolding stored_all stored on_sheet push_all
all-sheet s [] = refl
all-sheet s (x ∷ xs) = all-sheet (stored s (into_sheet x)) xs

all-rules : (s : Stores) (xs : List ℕ) → stored_all into_rules s xs ≡ on_rules s xs
unfolding stored_all stored on_rules push_all
all-rules s [] = refl
all-rules s (x ∷ xs) = all-rules (stored s (into_rules x)) xs

-- ---- a phase of text: into which store its bytes go, and what comes after its LF

record Texts (q p : Phase) (into : ℕ → Put) (after : ℕ → ℕ → Head) : Type 0 where
  goes : (h : Head) (b : ℕ) → eqb b lf ≡ false → next_in q p h b ≡ text_byte h b
  ends : (h : Head) → next_in q p h lf ≡ after h.line h.left
  puts : (h : Head) (b : ℕ) → put_in p h b ≡ put_if (is_kept h b) (into b)

sheet-texts : (q : Phase) → Texts q sheet_line into_sheet (λ line left. line_in count_line (line_after line) 0)
unfolding next_in put_in
sheet-texts q = record { goes = λ h b e. rw (e, next_in); ends = λ h. refl; puts = λ h b. refl }

rule-texts : (q : Phase) → Texts q rule_line into_rules (λ line left. rules_at q (line_after line) (left - 1))
unfolding next_in put_in
rule-texts q = record { goes = λ h b e. rw (e, next_in); ends = λ h. refl; puts = λ h b. refl }

-- ---- a byte of a line

text_head : (i k b : ℕ) (h : Head) → text_byte (with_kept i k h) b ≡ with_kept (index_after i b) (kept_after i k b) h
unfolding text_byte with_kept keeps index_after kept_after
text_head i k b h = go (eqb b comma) refl (ltb i field_room && ltb k field_width) refl
  where
    go : (c : Bool) → eqb b comma ≡ c → (d : Bool) → (ltb i field_room && ltb k field_width) ≡ d → text_byte (with_kept i k h) b ≡ with_kept (index_after i b) (kept_after i k b) h
    go true e d q = rw (e, text_byte, index_after, kept_after)
    go false e true q = rw (e, text_byte, index_after, kept_after) (rw (q, keeps))
    go false e false q = rw (e, text_byte, index_after, kept_after) (rw (q, keeps))

text-kept : (i k b : ℕ) (h : Head) → eqb b lf ≡ false → is_kept (with_kept i k h) b ≡ keeps_byte i k b
unfolding is_kept with_kept keeps keeps_byte
text-kept i k b h e = rw (e, is_kept)

module _ {q p : Phase} {into : ℕ → Put} {after : ℕ → ℕ → Head} (t : Texts q p into after) (line left : ℕ) where
  on_line : ℕ → ℕ → Head
  on_line i k = with_kept i k (line_in p line left)

  byte_step : (i k b : ℕ) (s : Stores) → eqb b lf ≡ false
      → step q (state (on_line i k) s) b ≡ state (on_line (index_after i b) (kept_after i k b)) (stored s (put_if (keeps_byte i k b) (into b)))
  unfolding step next on_line with_kept line_in
  byte_step i k b s e =
      rw (t.goes (on_line i k) b e, t.puts (on_line i k) b, text-kept i k b (line_in p line left) e, text_head i k b (line_in p line left))

  bytes-stored : (c : Bool) (b : ℕ) (s : Stores) (xs : List ℕ) → stored_all into (stored s (put_if c (into b))) xs ≡ stored_all into s (put_on c b xs)
  unfolding stored_all stored put_if put_on
  bytes-stored true b s xs = refl
  bytes-stored false b s xs = refl

  -- the bytes of a line
  line-steps : (l : List ℕ) (i k : ℕ) (s : Stores) → has_lf l ≡ false
      → (j : ℕ) × (m : ℕ) × (steps q (state (on_line i k) s) l ≡ state (on_line j m) (stored_all into s (line_from i k l)))
  unfolding steps stored_all line_from
  line-steps [] i k s n = (i, k, refl)
  line-steps (b ∷ l) i k s n =
      let w = no-lf b l n in
      let r = line-steps l (index_after i b) (kept_after i k b) (stored s (put_if (keeps_byte i k b) (into b))) w.1 in
      (r.0, r.1, ap (λ (x : State). steps q x l) (byte_step i k b s w.0) ∙ r.2 ∙ ap (state (on_line r.0 r.1)) (bytes-stored (keeps_byte i k b) b s (line_from (index_after i b) (kept_after i k b) l)))

  lf-step : (i k : ℕ) (s : Stores) → step q (state (on_line i k) s) lf ≡ state (after line left) (stored s (into lf))
  unfolding step next on_line with_kept line_in is_kept put_if
  lf-step i k s = rw (t.ends (on_line i k), t.puts (on_line i k) lf)

  -- a line and its LF
  ended-steps : (s : Stores) (l m : List ℕ) → has_lf l ≡ false
      → steps q (state (line_in p line left) s) (l ++ (lf ∷ m)) ≡ steps q (state (after line left) (stored_all into s (clipped_line l ++ (lf ∷ [])))) m
  unfolding steps stored_all on_line with_kept line_in
  ended-steps s l m n =
      let r = line-steps l 0 0 s n in
      steps-append q (state (on_line 0 0) s) l (lf ∷ m)
      ∙ ap (λ (x : State). steps q x (lf ∷ m)) r.2
      ∙ ap (λ (x : State). steps q x m) (lf-step r.0 r.1 (stored_all into s (clipped_line l)))
      ∙ ap (λ (x : Stores). steps q (state (after line left) x) m) (sym (all_append into s (clipped_line l) (lf ∷ [])))

  -- a line that does not end
  open-steps : (s : Stores) (l : List ℕ) → has_lf l ≡ false
      → (h : Head) × (h.phase ≡ p) × (h.line ≡ line) × (steps q (state (line_in p line left) s) l ≡ state h (stored_all into s (clipped_line l)))
  unfolding on_line with_kept line_in
  open-steps s l n = let r = line-steps l 0 0 s n in (on_line r.0 r.1, refl, refl, r.2)

-- ---- the sheet

pub sheet-ended : (q : Phase) (s : Stores) (l m : List ℕ) → has_lf l ≡ false
    → steps q (state start s) (l ++ (lf ∷ m)) ≡ steps q (state (line_in count_line 2 0) (on_sheet s (clipped (l ++ (lf ∷ []))))) m
unfolding start line_after text_from
sheet-ended q s l m n =
    ended-steps (sheet-texts q) 1 0 s l m n
    ∙ ap (λ (x : Stores). steps q (state (line_in count_line 2 0) x) m) (all-sheet s (clipped_line l ++ (lf ∷ [])) ∙ ap (on_sheet s) (sym (text-ended 0 0 l [] n)))

pub sheet-open : (q : Phase) (s : Stores) (l : List ℕ) → has_lf l ≡ false → (h : Head) × (h.phase ≡ sheet_line) × (steps q (state start s) l ≡ state h (on_sheet s (clipped l)))
unfolding start
sheet-open q s l n =
    let r = open-steps (sheet-texts q) 1 0 s l n in
    (r.0, r.1, r.3 ∙ ap (state r.0) (all-sheet s (clipped_line l) ∙ ap (on_sheet s) (sym (text-open 0 0 l n))))

-- ---- the rules

on_rules-none : (s : Stores) → on_rules s [] ≡ s
unfolding on_rules push_all
on_rules-none s = refl

on_rules-append : (s : Stores) (xs ys : List ℕ) → on_rules (on_rules s xs) ys ≡ on_rules s (xs ++ ys)
unfolding on_rules
on_rules-append s xs ys = rw (push_all-append s.rules xs ys)

rule-line : (q : Phase) (line left : ℕ) → rules_at q line (suc left) ≡ line_in rule_line line (suc left)
unfolding rules_at
rule-line q line left = rw (eqb-suc-zero left, rules_at)

rule-ended : (q : Phase) (left line : ℕ) (s : Stores) (l m : List ℕ) → has_lf l ≡ false → line < last_line
    → steps q (state (rules_at q line (suc left)) s) (l ++ (lf ∷ m)) ≡ steps q (state (rules_at q (suc line) left) (on_rules s (clipped_line l ++ (lf ∷ [])))) m
rule-ended q left line s l m n h =
    let one : suc left - 1 ≡ left = omega arith in
    ap (λ (x : Head). steps q (state x s) (l ++ (lf ∷ m))) (rule-line q line left)
    ∙ ended-steps (rule-texts q) line (suc left) s l m n
    ∙ ap (λ (x : Stores). steps q (state (rules_at q (line_after line) (suc left - 1)) x) m) (all-rules s (clipped_line l ++ (lf ∷ [])))
    ∙ ap (λ (x : ℕ). steps q (state (rules_at q x (suc left - 1)) (on_rules s (clipped_line l ++ (lf ∷ [])))) m) (line_after_lem line h)
    ∙ ap (λ (x : ℕ). steps q (state (rules_at q (suc line) x) (on_rules s (clipped_line l ++ (lf ∷ [])))) m) one

-- so many lines are there: they are the rules
pub record RulesDone (q : Phase) (k line : ℕ) (s : Stores) (bs : List ℕ) : Type 0 where
  pub count : lfs (cut_lines k bs).0 ≡ k
  pub near : line + k + length (cut_lines k bs).1 ≤ last_line
  pub goes : steps q (state (rules_at q line k) s) bs ≡ steps q (state (rules_at q (line + k) 0) (on_rules s (clipped (cut_lines k bs).0))) (cut_lines k bs).1

-- fewer are: the input ends within them
pub record RulesShort (q : Phase) (k line : ℕ) (s : Stores) (bs : List ℕ) : Type 0 where
  pub head : Head
  pub phase : head.phase ≡ rule_line
  pub at : head.line ≡ line + lfs bs
  pub all : cut_lines k bs ≡ (bs, [])
  pub goes : steps q (state (rules_at q line k) s) bs ≡ state head (on_rules s (clipped bs))

rules-none : (q : Phase) (line : ℕ) (s : Stores) (bs : List ℕ) → line + length bs ≤ last_line → RulesDone q 0 line s bs
unfolding lfs text_from
rules-none q line s bs h = record {
  count = rw (cuts-none bs);
  near = rw (cuts-none bs) (omega arith);
  goes = rw (cuts-none bs, on_rules-none s, (let z : line + 0 ≡ line = omega arith in z));
}

module _ (q : Phase) (k line : ℕ) (s : Stores) (l m : List ℕ) (n : has_lf l ≡ false) (h : line < last_line) where
  -- what is kept of a line and of those after it
  kept_more : (t : List ℕ) → on_rules (on_rules s (clipped_line l ++ (lf ∷ []))) (clipped t) ≡ on_rules s (clipped (l ++ (lf ∷ t)))
  kept_more t =
      on_rules-append s (clipped_line l ++ (lf ∷ [])) (clipped t) ∙ ap (on_rules s) (append_assoc (clipped_line l) (lf ∷ []) (clipped t) ∙ sym (text-ended 0 0 l t n))

  done_more : RulesDone q k (suc line) (on_rules s (clipped_line l ++ (lf ∷ []))) m → RulesDone q (suc k) line s (l ++ (lf ∷ m))
  done_more d = record {
    count = rw (cuts-ended k l m n) (lfs-ended l (cut_lines k m).0 n ∙ ap suc d.count);
    near = rw (cuts-ended k l m n) (omega (arith, d.near));
    goes = rw (cuts-ended k l m n) (rule-ended q k line s l m n h ∙ d.goes
        ∙ ap (λ (x : Stores). steps q (state (rules_at q (suc line + k) 0) x) (cut_lines k m).1) (kept_more (cut_lines k m).0)
        ∙ ap (λ (x : ℕ). steps q (state (rules_at q x 0) (on_rules s (clipped (l ++ (lf ∷ (cut_lines k m).0))))) (cut_lines k m).1) (let z : suc line + k ≡ line + suc k = omega arith in z));
  }

  short-more : RulesShort q k (suc line) (on_rules s (clipped_line l ++ (lf ∷ []))) m → RulesShort q (suc k) line s (l ++ (lf ∷ m))
  short-more d = record {
    head = d.head;
    phase = d.phase;
    at = d.at ∙ rw (lfs-ended l m n) (omega arith);
    all = rw (cuts-ended k l m n, d.all);
    goes = rule-ended q k line s l m n h ∙ d.goes ∙ ap (state d.head) (kept_more m);
  }

rules-open : (q : Phase) (k line : ℕ) (s : Stores) (l : List ℕ) → has_lf l ≡ false → RulesShort q (suc k) line s l
rules-open q k line s l n =
    let r = open-steps (rule-texts q) line (suc k) s l n in
    record {
      head = r.0;
      phase = r.1;
      at = r.2 ∙ rw (lfs-open l n) (omega arith);
      all = cuts-open k l n;
      goes = rw (rule-line q line k) (r.3 ∙ ap (state r.0) (all-rules s (clipped_line l) ∙ ap (on_rules s) (sym (text-open 0 0 l n))));
    }

rules-steps : (q : Phase) (k line : ℕ) (s : Stores) (bs : List ℕ) → line + length bs ≤ last_line → RulesDone q k line s bs ⊎ RulesShort q k line s bs
rules-steps q zero line s bs h = inl (rules-none q line s bs h)
rules-steps q (suc k) line s bs h = go (cut bs) (rules-steps q k (suc line))
  where
    go : ((l m : List ℕ) × (has_lf l ≡ false) × (bs ≡ l ++ (lf ∷ m))) ⊎ (has_lf bs ≡ false)
        → ((v : Stores) (m : List ℕ) → suc line + length m ≤ last_line → RulesDone q k (suc line) v m ⊎ RulesShort q k (suc line) v m)
        → RulesDone q (suc k) line s bs ⊎ RulesShort q (suc k) line s bs
    go (inr n) more = inr (rules-open q k line s bs n)
    go (inl p) more =
        let long : length bs ≡ length p.0 + suc (length p.1) = ap length p.3 ∙ length-append p.0 (lf ∷ p.1) in
        rw p.3 (by p (omega arith) (more (on_rules s (clipped_line p.0 ++ (lf ∷ []))) p.1 (omega arith)))
      where
        by : (p : (l m : List ℕ) × (has_lf l ≡ false) × (bs ≡ l ++ (lf ∷ m))) → line < last_line
            → RulesDone q k (suc line) (on_rules s (clipped_line p.0 ++ (lf ∷ []))) p.1 ⊎ RulesShort q k (suc line) (on_rules s (clipped_line p.0 ++ (lf ∷ []))) p.1
            → RulesDone q (suc k) line s (p.0 ++ (lf ∷ p.1)) ⊎ RulesShort q (suc k) line s (p.0 ++ (lf ∷ p.1))
        by p g (inl d) = inl (done_more q k line s p.0 p.1 p.2 g d)
        by p g (inr d) = inr (short-more q k line s p.0 p.1 p.2 g d)

pub by-rules : {P : Type 0} (q : Phase) (k line : ℕ) (s : Stores) (bs : List ℕ) → line + length bs ≤ last_line → (RulesDone q k line s bs → P) → (RulesShort q k line s bs → P) → P
by-rules {P = P} q k line s bs h done short = go (rules-steps q k line s bs h)
  where
    go : RulesDone q k line s bs ⊎ RulesShort q k line s bs → P
    go (inl d) = done d
    go (inr d) = short d
