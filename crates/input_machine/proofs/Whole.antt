-- The whole input of the passes program: the machine answers what the definition does.
use mathlib.Core.Path.{◌≡◌, refl, ap, sym, ◌∙◌}
use mathlib.Core.Option.{Option, some, none}
use mathlib.Core.List.{List, []}
use Prim.Native.Nat.{ℕ, ◌+◌, ◌≤◌, ◌<◌}
use lib.ListN.{length}
use Rattle.definition.specs.Limits.{max_rules, bad_sheet, bad_rule}
use Rattle.definition.specs.Res.{Res, ok, refuse, ◌>>=◌, given}
use Rattle.definition.specs.Field.{lf, split}
use Rattle.definition.specs.Opcode.{Sheet}
use Rattle.definition.specs.Sheet.{read_sheet}
use Rattle.definition.specs.Rules.{Rule, read_rules}
use Rattle.definition.specs.Alone.{Given, Rewritten, rewrite_files}
use Rattle.definition.specs.Listing.{cut_line, cut_lines, without_lf, count_line}
use Rattle.definition.specs.Passes.{malformed_line, given_from, passed}
use Rattle.store.specs.Store.{contents}
use Rattle.input_machine.specs.Machine as machine
use Rattle.input_machine.specs.Machine.{Head, code_line, start, rules_at, Stores, steps, last_line, sheet_room, rule_room, Ending, ending_in, ending, concluded_as, concluded}
use Rattle.input_machine.proofs.Text.{state, rules-count}
use Rattle.input_machine.proofs.Clip.{clipped}
use Rattle.input_machine.proofs.Kept.{on_sheet, on_rules, RulesDone, RulesShort, by-rules}
use Rattle.input_machine.proofs.Begin.{Empty, Holds, rules-kept, sheet-kept, start-on}
use Rattle.input_machine.proofs.Lists.{outcome}
use Rattle.input_machine.proofs.Given.{Lent, answered, code-on}

-- ---- empty stores with room

pub record Roomy (s : Stores) : Type 0 where
  pub sheet : Empty sheet_room s.sheet
  pub rules : Empty rule_room s.rules
  pub rest : Lent s

-- ---- what is answered

bind-same : {A B : Type 0} (o : Res A) (f g : A → Res B) → ((x : A) → o ≡ ok x → f x ≡ g x) → (o >>= f) ≡ (o >>= g)
unfolding ◌>>=◌
bind-same (ok x) f g h = h x refl
bind-same (refuse n p) f g h = refl

-- it goes by what the texts read as
answered-same : (place : ℕ) (a b c d : List ℕ) (f g : List Rule → Res Given) → read_sheet a ≡ read_sheet c → read_rules b ≡ read_rules d
    → ((rs : List Rule) → read_rules d ≡ ok rs → f rs ≡ g rs) → answered place a b f ≡ answered place c d g
unfolding answered rewrite_files
answered-same place a b c d f g p q h =
    rw (p, q)
    (bind-same (given (read_sheet c) bad_sheet place) (λ s. read_rules d >>= (λ rs. f rs >>= ending s)) (λ s. read_rules d >>= (λ rs. g rs >>= ending s))
    (λ s e. bind-same (read_rules d) (λ rs. f rs >>= ending s) (λ rs. g rs >>= ending s) (λ rs e. ap (λ (o : Res Given). o >>= ending s) (h rs e))))
  where
    ending : Sheet → Given → Res (Sheet × Rewritten)
    ending s x = rewrite_files place c d x >>= (λ r. ok (s, r))

-- ---- after the sheet and the rules

lent-sheet : (s : Stores) (xs : List ℕ) → Lent s → Lent (on_sheet s xs)
unfolding on_sheet
lent-sheet s xs r = record { code = r.code; offsets = r.offsets; entries = r.entries }

lent-rules : (s : Stores) (xs : List ℕ) → Lent s → Lent (on_rules s xs)
unfolding on_rules
lent-rules s xs r = record { code = r.code; offsets = r.offsets; entries = r.entries }

-- the input ended within the rules
cut-answered : (place : ℕ) (h : Head) (s : Stores) → h.phase ≡ machine.rule_line
    → concluded place (state h s) ≡ answered place (contents s.sheet) (contents s.rules) (λ rs. refuse malformed_line h.line)
unfolding concluded concluded_as ending ending_in answered ◌>>=◌
cut-answered place h s e = rw e

unfoldable pub from_rules : ℕ → List ℕ → ℕ → List ℕ → Res (Sheet × Rewritten)
from_rules place sheet k bs = answered place sheet (cut_lines k bs).0 (λ rs. given_from (3 + length rs) (split lf (cut_lines k bs).1))

module _ (place k : ℕ) (s : Stores) (sheet bs : List ℕ) (holds : Holds s sheet) (empty : Empty rule_room s.rules) (lent : Lent s) (small : k ≤ max_rules) where
  done_on : RulesDone code_line k 3 s bs → outcome place (rules_at code_line 3 k) s bs ≡ from_rules place sheet k bs
  unfolding from_rules rules_at
  done_on d =
      let s₂ = on_rules s (clipped (cut_lines k bs).0) in
      ap (concluded place) d.goes
      ∙ code-on place (3 + k) s₂ (cut_lines k bs).1 (lent-rules s (clipped (cut_lines k bs).0) lent) d.near
      ∙ answered-same place (contents s₂.sheet) (contents s₂.rules) sheet (cut_lines k bs).0 (λ rs. given_from (3 + k) (split lf (cut_lines k bs).1))
      (λ rs. given_from (3 + length rs) (split lf (cut_lines k bs).1)) (sheet-kept k s sheet bs holds empty small (clipped (cut_lines k bs).0)) (rules-kept k s sheet bs holds empty small)
      (λ rs e. ap (λ (n : ℕ). given_from (3 + n) (split lf (cut_lines k bs).1)) (sym (rules-count (cut_lines k bs).0 rs e ∙ d.count)))

  short_on : RulesShort code_line k 3 s bs → outcome place (rules_at code_line 3 k) s bs ≡ from_rules place sheet k bs
  unfolding from_rules split given_from
  short_on d =
      let s₂ = on_rules s (clipped bs) in
      let all : (cut_lines k bs).0 ≡ bs = ap (λ (x : List ℕ × List ℕ). x.0) d.all in
      let kept₂ : read_rules (contents s₂.rules) ≡ read_rules bs = rw all at (rules-kept k s sheet bs holds empty small) in
      ap (concluded place) d.goes
      ∙ cut-answered place d.head s₂ d.phase
      ∙ answered-same place (contents s₂.sheet) (contents s₂.rules) sheet bs (λ rs. refuse malformed_line d.head.line)
      (λ rs. given_from (3 + length rs) (split lf [])) (sheet-kept k s sheet bs holds empty small (clipped bs)) kept₂
      (λ rs e. ap (refuse malformed_line) (d.at ∙ ap (λ (n : ℕ). 3 + n) (sym (rules-count bs rs e))))
      ∙ rw d.all

  rules-on : 3 + length bs ≤ last_line → outcome place (rules_at code_line 3 k) s bs ≡ from_rules place sheet k bs
  rules-on h = by-rules code_line k 3 s bs h done_on short_on

-- ---- after the count, and from the start

unfoldable from_count : ℕ → List ℕ → List ℕ → Option ℕ → Res (Sheet × Rewritten)
from_count place sheet bs o = do
  s ← given (read_sheet sheet) bad_sheet place
  k ← given o bad_rule 0
  rs ← read_rules (cut_lines k bs).0
  g ← given_from (3 + length rs) (split lf (cut_lines k bs).1)
  r ← rewrite_files place sheet (cut_lines k bs).0 g
  ok (s, r)

passed-count : (place : ℕ) (input : List ℕ) → passed place input ≡ from_count place (cut_line input).0 (cut_line (cut_line input).1).1 (count_line (without_lf (cut_line (cut_line input).1).0))
unfolding passed from_count
passed-count place input = refl

countless-on : (place : ℕ) (s : Stores) (sheet bs : List ℕ) → Holds s sheet → concluded_as machine.countless place s ≡ from_count place sheet bs none
unfolding Holds concluded_as from_count ◌>>=◌ given
countless-on place s sheet bs h = rw h

countless-at : (place : ℕ) (h : Head) (s : Stores) → ending h ≡ machine.countless → concluded place (state h s) ≡ concluded_as machine.countless place s
unfolding concluded
countless-at place h s e = ap (λ (x : Ending). concluded_as x place s) e

counted-on : (place k : ℕ) (s : Stores) (sheet bs : List ℕ) → Holds s sheet → Empty rule_room s.rules → Lent s → k ≤ max_rules → 3 + length bs ≤ last_line
    → outcome place (rules_at code_line 3 k) s bs ≡ from_count place sheet bs (some k)
unfolding from_count from_rules answered ◌>>=◌ given
counted-on place k s sheet bs holds empty lent small h = rules-on place k s sheet bs holds empty lent small h

sheet-rules : (s : Stores) (xs : List ℕ) → Empty rule_room s.rules → Empty rule_room (on_sheet s xs).rules
unfolding on_sheet
sheet-rules s xs e = e

-- for every input that is shorter than the last line's number, in stores with room
pub reads : (place : ℕ) (s : Stores) (input : List ℕ) → Roomy s → length input < last_line → concluded place (steps code_line (state start s) input) ≡ passed place input
reads place s input r h =
    start-on code_line (concluded place) (concluded_as machine.countless place) (countless-at place) (from_count place) s r.sheet
    (λ xs sheet bs holds. countless-on place (on_sheet s xs) sheet bs holds)
    (λ xs sheet bs k holds small near. counted-on place k (on_sheet s xs) sheet bs holds (sheet-rules s xs r.rules) (lent-sheet s xs r.rest) small near)
    input h
    ∙ sym (passed-count place input)
