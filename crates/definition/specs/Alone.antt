-- Rewriting and line mapping called alone (document 01, part 4): code, protected offsets and line entries in, and out again.
use Rattle.std.specs.Prelude.{ℕ, ◌*◌, ◌≡◌, List, [], ◌∷◌, map, Bool, ◌&&◌, eqb, leb, length}
use Rattle.std.proofs.Math.Option.{none}
use Rattle.definition.specs.Limits.{max_code, max_protected, max_lines, entry_size, bad_sheet, bad_code, code_full, labels_full, lines_full, output_short}
use Rattle.definition.specs.Res.{Res, ok, refuse, ◌>>=◌, ◌>>◌, demand, given}
use Rattle.definition.specs.Field.{has}
use Rattle.definition.specs.Opcode.{Sheet}
use Rattle.definition.specs.Sheet.{read_sheet}
use Rattle.definition.specs.Rules.{Rule, read_rules}
use Rattle.definition.specs.Emit.{LineEntry}
use Rattle.definition.specs.Rewrite.{decode, end_from, boundaries_from}
use Rattle.definition.specs.Optimize.{optimize, remap_line_map}
use Rattle.definition.specs.Lent.{filled, zeros, entry_numbers, entries_of}
use Rattle.definition.specs.Compile.{Free}

-- what is handed over: the line entries as numbers
pub record Given : Type 0 where
  pub code : List ℕ
  pub protected : List ℕ
  pub lines : List ℕ

-- what comes back
pub record Rewritten : Type 0 where
  pub code : List ℕ
  pub protected : List ℕ
  pub line_map : List LineEntry

-- refused at the first offset that is neither a start nor the end
unfoldable pub boundaries : List ℕ → List ℕ → Res (Unit {0})
boundaries places [] = ok tt
boundaries places (x ∷ xs) = do
  demand (has places x) bad_code x
  boundaries places xs

-- 8: an unlisted opcode or a cut instruction, then protected offsets, then line offsets
unfoldable pub checked : Sheet → Given → Res (Unit {0})
checked s g =
    let is = decode s g.code in
    let places = boundaries_from 0 is in do
      demand (eqb (end_from 0 is) (length g.code)) bad_code (end_from 0 is)
      boundaries places g.protected
      boundaries places (map (λ (x : LineEntry). x.offset) (entries_of g.lines))

unfoldable pub rewritten : Sheet → List Rule → Given → Rewritten
rewritten s rules g =
    let p = optimize s rules g.code g.protected in
    record { code = p.bytecode; protected = p.protected; line_map = remap_line_map p.map (length p.bytecode) none (entries_of g.lines) }

-- in the order of refusals, after 14; `place` is what 7 names
unfoldable pub rewrite_files : ℕ → List ℕ → List ℕ → Given → Res Rewritten
rewrite_files place sheet rules g = do
  s ← given (read_sheet sheet) bad_sheet place
  rs ← read_rules rules
  demand (leb (length g.code) max_code) code_full 0
  demand (leb (length g.protected) max_protected) labels_full 0
  demand (leb (length (entries_of g.lines)) max_lines) lines_full 0
  checked s g
  ok (rewritten s rs g)

-- how many elements the lent outputs have
pub record Room : Type 0 where
  pub code : ℕ
  pub protected : ℕ
  pub lines : ℕ

unfoldable pub roomy : Room → Bool
roomy r = leb max_code r.code && (leb max_protected r.protected && leb (max_lines * entry_size) r.lines)

unfoldable pub rewrite_into : ℕ → Room → List ℕ → List ℕ → Given → Res Rewritten
rewrite_into place room sheet rules g = do
  demand (roomy room) output_short 0
  rewrite_files place sheet rules g

-- a refusal's number and place, or 0, 0 and the lengths; and all that the lent outputs then hold
pub record Answer : Type 0 where
  pub number : ℕ
  pub place : ℕ
  pub code_length : ℕ
  pub protected_count : ℕ
  pub entry_count : ℕ
  pub code : List ℕ
  pub protected : List ℕ
  pub lines : List ℕ

unfoldable pub answer : Room → Res Rewritten → Answer
answer r (refuse n p) = record {
  number = n;
  place = p;
  code_length = 0;
  protected_count = 0;
  entry_count = 0;
  code = zeros r.code;
  protected = zeros r.protected;
  lines = zeros r.lines;
}
answer r (ok x) = record {
  number = 0;
  place = 0;
  code_length = length x.code;
  protected_count = length x.protected;
  entry_count = length x.line_map;
  code = filled r.code x.code;
  protected = filled r.protected x.protected;
  lines = filled r.lines (entry_numbers x.line_map);
}

-- what the call answers: all of it is fixed but 7's place, which is one at fault
pub record Rewrites (room : Room) (sheet rules : List ℕ) (g : Given) (a : Answer) : Type 0 where
  pub place : ℕ
  pub free : Free sheet place
  pub is : a ≡ answer room (rewrite_into place room sheet rules g)

-- `unfolding open-Alone` names all of this module's definitions at once
unfoldable pub open-Alone : Unit {0}
unfolding boundaries checked rewritten rewrite_files roomy rewrite_into answer
open-Alone = tt
