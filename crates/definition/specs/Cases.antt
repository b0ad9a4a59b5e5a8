-- Document 01's cases a to k, from the text of the three files on, as entries of one list that is computed; what the listing prints for its example;
-- what small programs mean, from their text on; where small images start and stand; and how long their runs are.
use Rattle.std.specs.Prelude.{ℕ, ◌-◌, ◌^◌, suc, zero, max, ◌≡◌, refl, List, [], ◌∷◌, ◌++◌, Bool, true, false, ◌&&◌, eqb, length}
use Prim.Native.String.{String}
use Prim.Native.String.{[] as []ˢ, ◌∷◌ as ◌∷ˢ◌}
use Prim.Native.Char.{code}
use Rattle.std.proofs.Math.Option.{Option, some, none}
use Rattle.definition.specs.Limits.{width}
use Rattle.definition.specs.Res.{Res, ok, refuse, open-Res}
use Rattle.definition.specs.Field.{open-Field}
use Rattle.definition.specs.Opcode.{Sheet, open-Opcode}
use Rattle.definition.specs.Iec.{Values, open-Iec}
use Rattle.definition.specs.Sheet.{read_sheet, open-Sheet}
use Rattle.definition.specs.Tree.{Program, open-Tree}
use Rattle.definition.specs.Meaning.{Answer, ends, exits, continues, returns, stops, spent, run_block, open-Meaning}
use Rattle.definition.specs.Rules.{open-Rules}
use Rattle.definition.specs.Program.{read_program, open-Program}
use Rattle.definition.specs.Emit.{open-Emit}
use Rattle.definition.specs.Walk.{open-Walk}
use Rattle.definition.specs.CompileExpr.{open-Compile_expr}
use Rattle.definition.specs.Expr.{open-Expr}
use Rattle.definition.specs.Stmt.{open-Stmt}
use Rattle.definition.specs.Rewrite.{open-Rewrite}
use Rattle.definition.specs.Optimize.{open-Optimize}
use Rattle.definition.specs.Lent.{entry_numbers, open-Lent}
use Rattle.definition.specs.Compile.{FinalizedFunction, compile_files, open-Compile}
use Rattle.definition.specs.Alone.{open-Alone}
use Rattle.definition.specs.Runs.{off_code, empty_stack, Step, goes, finishes, waits, breaks, Stand, start, open-Runs}
use Rattle.definition.specs.Machine.{open-Machine}
use Rattle.definition.specs.For.{open-For}
use Rattle.definition.specs.Claims.{open-Claims}
use Rattle.definition.specs.Check as check
use Rattle.definition.specs.Check.{open-Check}
use Rattle.definition.specs.Slowest.{is_back, executed, outcome_bytes, open-Slowest}
use Rattle.definition.specs.Count.{open-Count}
use Rattle.definition.specs.Listing.{text, listed, open-Listing}
use Rattle.definition.specs.Passes.{open-Passes}

-- `unfolding open-Definition` names every definition of the crate
unfoldable pub open-Definition : Unit {0}
unfolding open-Res open-Field open-Opcode open-Iec open-Sheet open-Rules open-Tree open-Meaning open-Program open-Emit open-Walk open-Compile_expr open-Expr open-Stmt open-Rewrite open-Optimize open-Lent open-Compile open-Alone open-Runs open-Machine open-For open-Claims open-Check open-Slowest open-Count open-Listing open-Passes
open-Definition = tt

unfoldable pub bytes : String → List ℕ
bytes []ˢ = []
bytes (c ∷ˢ s) = code c ∷ bytes s

-- the sheet of the cases: opcode is role + 1, comparisons 1 to 6
unfoldable pub plain_sheet : List ℕ
plain_sheet = bytes "1,2,3,4,5,6,7,8,9,10,11,12,13,14,15,16,17,18,19,20,21,22,23,24,25,26,27,1,2,3,4,5,6\n"

-- rule file, program; code, constants, offset, line and column of each line entry, depth
pub record Case : Type 0 where
  pub rules : String
  pub program : String
  pub code : List ℕ
  pub constants : List ℕ
  pub lines : List ℕ
  pub depth : ℕ

unfoldable pub cases : List Case
cases =
    -- a
    record { rules = ""; program = "P,0,0,1,1\n"; code = []; constants = []; lines = []; depth = 0 }
    -- b
    ∷ record {
      rules = "";
      program = "P,1,1,1,1\nA,1,1,0\nK,7\n";
      code = 0x05 ∷ 0x00 ∷ 0x00 ∷ 0x04 ∷ 0x00 ∷ 0x00 ∷ [];
      constants = 7 ∷ [];
      lines = 0 ∷ 1 ∷ 1 ∷ [];
      depth = 1;
    }
    -- c
    ∷ record {
      rules = "";
      program = "P,2,1,1,1\nA,1,1,0\nO,0\nD,1\nD,1\n";
      code = 0x03 ∷ 0x01 ∷ 0x00 ∷ 0x01 ∷ 0x08 ∷ 0x04 ∷ 0x00 ∷ 0x00 ∷ [];
      constants = [];
      lines = 0 ∷ 1 ∷ 1 ∷ [];
      depth = 2;
    }
    -- d
    ∷ record {
      rules = "";
      program = "P,2,2,1,1\nA,1,1,0\nK,7\nA,2,1,1\nD,0\n";
      code = 0x05 ∷ 0x00 ∷ 0x00 ∷ 0x01 ∷ 0x04 ∷ 0x00 ∷ 0x00 ∷ 0x04 ∷ 0x01 ∷ 0x00 ∷ [];
      constants = 7 ∷ [];
      lines = 0 ∷ 1 ∷ 1 ∷ [];
      depth = 2;
    }
    -- e: the then block's statement stands at its own position
    ∷ record {
      rules = "";
      program = "P,2,1,1,1\nI,1,1,1,0\nC,4\nD,0\nK,3\nA,2,1,1\nK,1\n";
      code = 0x1A ∷ 0x04 ∷ 0x00 ∷ 0x00 ∷ 0x00 ∷ 0x00 ∷ 0x06 ∷ 0x00 ∷ 0x05 ∷ 0x01 ∷ 0x00 ∷ 0x04 ∷ 0x01 ∷ 0x00 ∷ [];
      constants = 3 ∷ 1 ∷ [];
      lines = 0 ∷ 1 ∷ 1 ∷ 8 ∷ 2 ∷ 1 ∷ [];
      depth = 1;
    }
    -- f: the constant on the left
    ∷ record {
      rules = "";
      program = "P,2,1,1,1\nI,1,1,1,0\nC,2\nK,3\nD,0\nA,2,1,1\nK,1\n";
      code = 0x1A ∷ 0x04 ∷ 0x00 ∷ 0x00 ∷ 0x00 ∷ 0x00 ∷ 0x06 ∷ 0x00 ∷ 0x05 ∷ 0x01 ∷ 0x00 ∷ 0x04 ∷ 0x01 ∷ 0x00 ∷ [];
      constants = 3 ∷ 1 ∷ [];
      lines = 0 ∷ 1 ∷ 1 ∷ 8 ∷ 2 ∷ 1 ∷ [];
      depth = 1;
    }
    -- g: WHILE
    ∷ record {
      rules = "";
      program = "P,1,1,1,1\nL,1,1,0,2,0\nI,1,1,0,1\nC,2\nD,0\nK,5\nX,1,1,0\nA,2,1,0\nO,0\nD,0\nK,1\n";
      code = 0x1A ∷ 0x06 ∷ 0x00 ∷ 0x00 ∷ 0x00 ∷ 0x00 ∷ 0x12 ∷ 0x00 ∷ 0x03 ∷ 0x00 ∷ 0x00 ∷ 0x05 ∷ 0x01 ∷ 0x00 ∷ 0x08 ∷ 0x04 ∷ 0x00 ∷ 0x00
          ∷ 0x1A ∷ 0x03 ∷ 0x00 ∷ 0x00 ∷ 0x00 ∷ 0x00 ∷ 0xEE ∷ 0xFF ∷ [];
      constants = 5 ∷ 1 ∷ [];
      lines = 0 ∷ 1 ∷ 1 ∷ 8 ∷ 2 ∷ 1 ∷ [];
      depth = 2;
    }
    -- h: CASE with an arm without labels
    ∷ record {
      rules = "";
      program = "P,1,1,1,1\nS,1,1,1,0\nD,0\nM,0,0\n";
      code = 0x03 ∷ 0x00 ∷ 0x00 ∷ 0x02 ∷ [];
      constants = [];
      lines = 0 ∷ 1 ∷ 1 ∷ [];
      depth = 1;
    }
    -- i: an empty loop
    ∷ record { rules = ""; program = "P,0,1,1,1\nL,1,1,0,0,0\n"; code = 0x18 ∷ 0xFD ∷ 0xFF ∷ []; constants = []; lines = 0 ∷ 1 ∷ 1 ∷ []; depth = 0 }
    -- j: REPEAT
    ∷ record {
      rules = "";
      program = "P,1,1,1,1\nL,1,1,0,0,1\nI,1,1,1,0\nC,5\nD,0\nK,5\nX,1,1,0\n";
      code = 0x1A ∷ 0x03 ∷ 0x00 ∷ 0x00 ∷ 0x00 ∷ 0x00 ∷ 0xF8 ∷ 0xFF ∷ [];
      constants = 5 ∷ [];
      lines = 0 ∷ 1 ∷ 1 ∷ [];
      depth = 0;
    }
    -- k: a pair removed, with its line entry; and kept where the load is a target
    ∷ record { rules = "1,2,3,1,0,1,0,1,0\n"; program = "P,1,1,1,1\nA,1,1,0\nD,0\n"; code = []; constants = []; lines = []; depth = 1 }
    ∷ record {
      rules = "1,2,3,1,0,1,0,1,0\n";
      program = "P,1,1,1,1\nL,1,1,0,1,0\nA,2,1,0\nD,0\n";
      code = 0x03 ∷ 0x00 ∷ 0x00 ∷ 0x04 ∷ 0x00 ∷ 0x00 ∷ 0x18 ∷ 0xF7 ∷ 0xFF ∷ [];
      constants = [];
      lines = 0 ∷ 2 ∷ 1 ∷ [];
      depth = 1;
    }
    ∷ []

unfoldable pub same : List ℕ → List ℕ → Bool
same [] [] = true
same [] (y ∷ ys) = false
same (x ∷ xs) [] = false
same (x ∷ xs) (y ∷ ys) = eqb x y && same xs ys

unfoldable pub agrees : Case → Res FinalizedFunction → Bool
agrees c (refuse n p) = false
agrees c (ok f) = same f.bytecode c.code && (same f.constants c.constants && (same (entry_numbers f.line_map) c.lines && eqb f.depth c.depth))

unfoldable pub all_agree : List Case → Bool
all_agree [] = true
all_agree (c ∷ cs) = agrees c (compile_files 0 plain_sheet (bytes c.rules) (bytes c.program)) && all_agree cs

pub cases-right : all_agree cases ≡ true
unfolding open-Definition bytes plain_sheet cases same agrees all_agree
cases-right = refl

pub listing-right : text (listed 0 (plain_sheet ++ bytes "0\nP,1,1,1,1\nA,1,1,0\nK,7\n")) ≡ bytes "0,6,1,1,1\nk,7\nl,0,1,1\nb,0,5,0,0\nb,3,4,0,0\n"
unfolding open-Definition bytes plain_sheet
listing-right = refl

-- ---- what statements mean (document 02, L13)

-- a program, its fuel, v0 and v1 at first (others hold 0), and what it comes to: see `shown`
pub record Meant : Type 0 where
  pub program : String
  pub fuel : ℕ
  pub v0 : ℕ
  pub v1 : ℕ
  pub comes : List ℕ

-- how statements come out: 0 they end, 1 they return, 2 a zero divisor stops them, 3 they are out of fuel; and v0 and v1 then
unfoldable pub shown : Answer → List ℕ
shown (ends σ) = 0 ∷ σ 0 ∷ σ 1 ∷ []
shown (returns σ) = 1 ∷ σ 0 ∷ σ 1 ∷ []
shown (stops σ) = 2 ∷ σ 0 ∷ σ 1 ∷ []
shown spent = 3 ∷ []
shown (exits i σ) = 4 ∷ []
shown (continues i σ) = 5 ∷ []

unfoldable pub minus : ℕ → ℕ
minus n = 2 ^ width - n

unfoldable pub meanings : List Meant
meanings =
    -- H: the right side's own value, unless the left side decides; then the right side is not worked out
    record { program = "P,1,1,0,0\nA,0,0,0\nH,0\nK,1\nK,5\n"; fuel = 0; v0 = 9; v1 = 9; comes = 0 ∷ 5 ∷ 9 ∷ [] }
    ∷ record { program = "P,1,1,0,0\nA,0,0,0\nH,1\nK,0\nK,5\n"; fuel = 0; v0 = 9; v1 = 9; comes = 0 ∷ 5 ∷ 9 ∷ [] }
    ∷ record { program = "P,1,1,0,0\nA,0,0,0\nH,1\nK,5\nK,7\n"; fuel = 0; v0 = 9; v1 = 9; comes = 0 ∷ 1 ∷ 9 ∷ [] }
    ∷ record { program = "P,2,1,0,0\nA,0,0,0\nH,0\nK,0\nO,3\nK,1\nD,1\n"; fuel = 0; v0 = 9; v1 = 0; comes = 0 ∷ 0 ∷ 0 ∷ [] }
    -- division drops the fraction, modulo has the dividend's sign; the minimum by -1; a zero divisor
    ∷ record { program = "P,1,1,0,0\nA,0,0,0\nO,3\nK,-7\nK,2\n"; fuel = 0; v0 = 9; v1 = 9; comes = 0 ∷ minus 3 ∷ 9 ∷ [] }
    ∷ record { program = "P,1,1,0,0\nA,0,0,0\nO,4\nK,-7\nK,2\n"; fuel = 0; v0 = 9; v1 = 9; comes = 0 ∷ minus 1 ∷ 9 ∷ [] }
    ∷ record { program = "P,1,1,0,0\nA,0,0,0\nO,4\nK,7\nK,-2\n"; fuel = 0; v0 = 9; v1 = 9; comes = 0 ∷ 1 ∷ 9 ∷ [] }
    ∷ record { program = "P,1,1,0,0\nA,0,0,0\nO,3\nK,-2147483648\nK,-1\n"; fuel = 0; v0 = 9; v1 = 9; comes = 0 ∷ 2 ^ (width - 1) ∷ 9 ∷ [] }
    ∷ record { program = "P,1,1,0,0\nA,0,0,0\nO,4\nK,-2147483648\nK,-1\n"; fuel = 0; v0 = 9; v1 = 9; comes = 0 ∷ 0 ∷ 9 ∷ [] }
    ∷ record { program = "P,2,1,0,0\nA,0,0,0\nO,4\nK,1\nD,1\n"; fuel = 0; v0 = 9; v1 = 0; comes = 2 ∷ 9 ∷ 0 ∷ [] }
    -- a bool operation gives 0 or 1
    ∷ record { program = "P,1,1,0,0\nA,0,0,0\nO,5\nK,2\nK,4\n"; fuel = 0; v0 = 9; v1 = 9; comes = 0 ∷ 1 ∷ 9 ∷ [] }
    -- FOR v0 := 1 TO v1 DO v1 := v1 - 1: two passes, since the end is worked out afresh; with fuel for one way back it is out of fuel
    ∷ record { program = "P,2,1,0,0\nF,0,0,0,0,1,1\nK,1\nD,1\nA,0,0,1\nO,1\nD,1\nK,1\n"; fuel = 2; v0 = 9; v1 = 4; comes = 0 ∷ 3 ∷ 2 ∷ [] }
    ∷ record { program = "P,2,1,0,0\nF,0,0,0,0,1,1\nK,1\nD,1\nA,0,0,1\nO,1\nD,1\nK,1\n"; fuel = 1; v0 = 9; v1 = 4; comes = 3 ∷ [] }
    -- FOR v0 := 5 TO 1 / v1: stops behind the first store
    ∷ record { program = "P,2,1,0,0\nF,0,0,0,0,1,0\nK,5\nO,3\nK,1\nD,1\n"; fuel = 0; v0 = 9; v1 = 0; comes = 2 ∷ 5 ∷ 0 ∷ [] }
    -- step 0 counts up: FOR v0 := 1 TO 0 BY 0 makes no pass. A negative step counts down
    ∷ record { program = "P,1,1,0,0\nF,0,0,0,0,0,0\nK,1\nK,0\n"; fuel = 9; v0 = 9; v1 = 9; comes = 0 ∷ 1 ∷ 9 ∷ [] }
    ∷ record { program = "P,1,1,0,0\nF,0,0,0,0,-1,0\nK,2\nK,1\n"; fuel = 2; v0 = 9; v1 = 9; comes = 0 ∷ 0 ∷ 9 ∷ [] }
    -- the X in `continuing` leaves the loop around; the one of a REPEAT its own loop
    ∷ record { program = "P,2,1,0,0\nL,0,0,1,3,0\nL,0,0,1,0,1\nX,0,0,1\nA,0,0,1\nK,1\nR,0,0\n"; fuel = 3; v0 = 9; v1 = 7; comes = 0 ∷ 9 ∷ 7 ∷ [] }
    ∷ record { program = "P,2,1,0,0\nL,0,0,1,3,0\nL,0,0,1,0,1\nI,0,0,1,0\nB,1\nX,0,0,1\nA,0,0,1\nK,1\nR,0,0\n"; fuel = 3; v0 = 9; v1 = 7; comes = 1 ∷ 9 ∷ 1 ∷ [] }
    -- WHILE v0 > 0 DO v0 := v0 - 1
    ∷ record { program = "P,1,1,0,0\nL,0,0,0,2,0\nI,0,0,0,1\nC,4\nD,0\nK,0\nX,0,0,0\nA,0,0,0\nO,1\nD,0\nK,1\n"; fuel = 3; v0 = 3; v1 = 7; comes = 0 ∷ 0 ∷ 7 ∷ [] }
    ∷ record { program = "P,1,1,0,0\nL,0,0,0,2,0\nI,0,0,0,1\nC,4\nD,0\nK,0\nX,0,0,0\nA,0,0,0\nO,1\nD,0\nK,1\n"; fuel = 2; v0 = 3; v1 = 7; comes = 3 ∷ [] }
    -- CONTINUE leads to a REPEAT's test: REPEAT v0 := v0 - 1; CONTINUE; v1 := 1 UNTIL v0 = 0
    ∷ record { program = "P,2,1,0,0\nL,0,0,0,3,1\nA,0,0,0\nO,1\nD,0\nK,1\nN,0,0,0\nA,0,0,1\nK,1\nI,0,0,1,0\nC,0\nD,0\nK,0\nX,0,0,0\n"; fuel = 9; v0 = 3; v1 = 7; comes = 0 ∷ 0 ∷ 7 ∷ [] }
    -- CASE v0 OF (no label): v1 := 1; 5..1: v1 := 2; 1, 2..4: v1 := 3; 3: v1 := 4 ELSE v1 := 5
    ∷ record { program = "P,2,1,0,0\nS,0,0,4,1\nD,0\nM,0,1\nA,0,0,1\nK,1\nM,1,1\nG,5,1\nA,0,0,1\nK,2\nM,2,1\nQ,1\nG,2,4\nA,0,0,1\nK,3\nM,1,1\nQ,3\nA,0,0,1\nK,4\nA,0,0,1\nK,5\n"; fuel = 0; v0 = 3; v1 = 7; comes = 0 ∷ 3 ∷ 3 ∷ [] }
    -- an empty loop
    ∷ record { program = "P,0,1,0,0\nL,0,0,0,0,0\n"; fuel = 20; v0 = 3; v1 = 7; comes = 3 ∷ [] }
    ∷ []

unfoldable pub firstly : ℕ → ℕ → Values
firstly a b = λ v. elim (eqb v 0) [ true ↦ a | false ↦ elim (eqb v 1) [ true ↦ b | false ↦ 0 ] ]

unfoldable pub is_meant : Meant → Res Program → Bool
is_meant m (refuse n p) = false
is_meant m (ok p) = same (shown (run_block width p.body m.fuel (firstly m.v0 m.v1))) m.comes

unfoldable pub all_meant : List Meant → Bool
all_meant [] = true
all_meant (m ∷ ms) = is_meant m (read_program (bytes m.program)) && all_meant ms

pub meanings-right : all_meant meanings ≡ true
unfolding open-Definition bytes same minus shown meanings firstly is_meant all_meant
meanings-right = refl

-- ---- where images start and stand (document 02, L11)

-- code; its starts; outcomes and steps; and how the run then stands (0 goes on, 1 finishes, 2 waits, 3 off the code, 4 at an empty stack), its place and height
pub record Stood : Type 0 where
  pub code : List ℕ
  pub starts : List ℕ
  pub outcomes : List Bool
  pub steps : ℕ
  pub stands : List ℕ

unfoldable pub how_number : Step → ℕ
how_number (goes y) = 0
how_number finishes = 1
how_number waits = 2
how_number (breaks off_code) = 3
how_number (breaks empty_stack) = 4

unfoldable pub images : List Stood
images =
    record { code = []; starts = []; outcomes = []; steps = 1; stands = 1 ∷ 0 ∷ 0 ∷ [] }
    -- an unlisted byte behind RET, and one that a JMP passes over
    ∷ record { code = 0x1B ∷ 0xFF ∷ []; starts = 0 ∷ []; outcomes = []; steps = 1; stands = 1 ∷ 0 ∷ 0 ∷ [] }
    ∷ record { code = 0x18 ∷ 0x01 ∷ 0x00 ∷ 0xFF ∷ []; starts = 0 ∷ []; outcomes = []; steps = 2; stands = 1 ∷ 4 ∷ 0 ∷ [] }
    -- a POP with nothing to pop
    ∷ record { code = 0x02 ∷ 0xFF ∷ []; starts = 0 ∷ []; outcomes = []; steps = 1; stands = 4 ∷ 0 ∷ 0 ∷ [] }
    -- RET at height 1
    ∷ record { code = 0x03 ∷ 0x00 ∷ 0x00 ∷ 0x1B ∷ []; starts = 0 ∷ 3 ∷ []; outcomes = []; steps = 2; stands = 1 ∷ 3 ∷ 1 ∷ [] }
    -- an unlisted comparison byte, and the last listed one
    ∷ record { code = 0x1A ∷ 0x07 ∷ 0x00 ∷ 0x00 ∷ 0x00 ∷ 0x00 ∷ 0x00 ∷ 0x00 ∷ []; starts = []; outcomes = []; steps = 1; stands = 3 ∷ 0 ∷ 0 ∷ [] }
    ∷ record { code = 0x1A ∷ 0x06 ∷ 0x00 ∷ 0x00 ∷ 0x00 ∷ 0x00 ∷ 0x00 ∷ 0x00 ∷ []; starts = 0 ∷ []; outcomes = []; steps = 1; stands = 2 ∷ 0 ∷ 0 ∷ [] }
    ∷ record { code = 0x1A ∷ 0x06 ∷ 0x00 ∷ 0x00 ∷ 0x00 ∷ 0x00 ∷ 0x00 ∷ 0x00 ∷ []; starts = 0 ∷ []; outcomes = true ∷ []; steps = 2; stands = 1 ∷ 8 ∷ 0 ∷ [] }
    -- a height of 1, and then 0 at the end
    ∷ record { code = 0x06 ∷ 0x02 ∷ []; starts = 0 ∷ 1 ∷ []; outcomes = []; steps = 1; stands = 0 ∷ 1 ∷ 1 ∷ [] }
    ∷ record { code = 0x06 ∷ 0x02 ∷ []; starts = 0 ∷ 1 ∷ []; outcomes = []; steps = 3; stands = 1 ∷ 2 ∷ 0 ∷ [] }
    -- a loop that comes back higher
    ∷ record { code = 0x06 ∷ 0x18 ∷ 0xFC ∷ 0xFF ∷ []; starts = 0 ∷ 1 ∷ []; outcomes = []; steps = 2; stands = 0 ∷ 0 ∷ 1 ∷ [] }
    -- a target inside an instruction, and one below 0
    ∷ record { code = 0x18 ∷ 0xFF ∷ 0xFF ∷ []; starts = 0 ∷ []; outcomes = []; steps = 2; stands = 3 ∷ 2 ∷ 0 ∷ [] }
    ∷ record { code = 0x18 ∷ 0xFC ∷ 0xFF ∷ []; starts = 0 ∷ []; outcomes = []; steps = 2; stands = 3 ∷ 0 ∷ 0 ∷ [] }
    -- a fault that nobody reaches, and a loop for ever
    ∷ record { code = 0x1B ∷ 0x02 ∷ []; starts = 0 ∷ 1 ∷ []; outcomes = []; steps = 2; stands = 1 ∷ 0 ∷ 0 ∷ [] }
    ∷ record { code = 0x18 ∷ 0xFD ∷ 0xFF ∷ []; starts = 0 ∷ []; outcomes = []; steps = 5; stands = 0 ∷ 0 ∷ 0 ∷ [] }
    ∷ []

unfoldable pub standing : Stand → List ℕ
standing y = how_number y.how ∷ y.state.place ∷ y.state.height ∷ []

unfoldable pub is_stood : Stood → Option Sheet → Bool
is_stood x none = false
is_stood x (some s) = same (check.starts s x.code) x.starts && same (standing (check.stands s x.code x.outcomes x.steps)) x.stands

unfoldable pub all_stood : List Stood → Bool
all_stood [] = true
all_stood (x ∷ xs) = is_stood x (read_sheet plain_sheet) && all_stood xs

pub images-right : all_stood images ≡ true
unfolding open-Definition bytes plain_sheet same how_number images standing is_stood all_stood
images-right = refl

-- ---- how long runs are (document 02, L12)

-- code; how many branches of it wait for an outcome; the greatest number of instructions, and the outcomes that give it
pub record Long : Type 0 where
  pub code : List ℕ
  pub asking : ℕ
  pub count : ℕ
  pub outcomes : List Bool

unfoldable pub long_runs : List Long
long_runs =
    record { code = []; asking = 0; count = 0; outcomes = [] }
    -- a RET counts, and what lies behind it is not run, wherever it leads
    ∷ record { code = 0x1B ∷ []; asking = 0; count = 1; outcomes = [] }
    ∷ record { code = 0x1B ∷ 0x18 ∷ 0x50 ∷ 0x00 ∷ []; asking = 0; count = 1; outcomes = [] }
    -- a branch to the byte behind it: at a tie it falls through
    ∷ record { code = 0x06 ∷ 0x19 ∷ 0x00 ∷ 0x00 ∷ []; asking = 1; count = 2; outcomes = false ∷ [] }
    -- the jump is longer
    ∷ record { code = 0x06 ∷ 0x19 ∷ 0x01 ∷ 0x00 ∷ 0x1B ∷ 0x06 ∷ 0x02 ∷ 0x1B ∷ []; asking = 1; count = 5; outcomes = true ∷ [] }
    -- equal runs that end at two RETs
    ∷ record { code = 0x06 ∷ 0x19 ∷ 0x04 ∷ 0x00 ∷ 0x1B ∷ 0x18 ∷ 0x01 ∷ 0x00 ∷ 0x1B ∷ []; asking = 1; count = 3; outcomes = false ∷ [] }
    -- case e
    ∷ record { code = 0x1A ∷ 0x04 ∷ 0x00 ∷ 0x00 ∷ 0x00 ∷ 0x00 ∷ 0x06 ∷ 0x00 ∷ 0x05 ∷ 0x01 ∷ 0x00 ∷ 0x04 ∷ 0x01 ∷ 0x00 ∷ []; asking = 1; count = 3; outcomes = false ∷ [] }
    ∷ []

-- the most instructions over lists of n outcomes more
unfoldable pub most_over : Sheet → List ℕ → ℕ → List Bool → ℕ
most_over s code zero os = executed s code (suc (length code)) (start os)
most_over s code (suc n) os = max (most_over s code n (false ∷ os)) (most_over s code n (true ∷ os))

-- the outcomes are followed to a finish with none left, in so many instructions, and no list of outcomes gives more
unfoldable pub is_long : Long → Option Sheet → Bool
is_long x none = false
is_long x (some s) =
    let y = check.stands s x.code x.outcomes (suc x.count) in
    same (how_number y.how ∷ outcome_bytes y.state.outcomes) (1 ∷ []) && (eqb (executed s x.code (suc x.count) (start x.outcomes)) x.count && eqb (most_over s x.code x.asking []) x.count)

unfoldable pub all_long : List Long → Bool
all_long [] = true
all_long (x ∷ xs) = is_long x (read_sheet plain_sheet) && all_long xs

pub long_runs-right : all_long long_runs ≡ true
unfolding open-Definition bytes plain_sheet same how_number long_runs most_over is_long all_long
long_runs-right = refl

-- code, and at which of its starts a branch stands that leads to its own start or before it
unfoldable pub backs : List (List ℕ × List ℕ)
backs =
    -- one that nobody reaches
    (0x1B ∷ 0x18 ∷ 0xFD ∷ 0xFF ∷ [], 1 ∷ [])
    -- to the byte before it, to itself, into itself; below 0; forward, past the end
    ∷ (0x06 ∷ 0x19 ∷ 0xFC ∷ 0xFF ∷ [], 1 ∷ [])
    ∷ (0x1A ∷ 0x01 ∷ 0x00 ∷ 0x00 ∷ 0x00 ∷ 0x00 ∷ 0xF8 ∷ 0xFF ∷ [], 0 ∷ [])
    ∷ (0x18 ∷ 0xFE ∷ 0xFF ∷ [], [])
    ∷ (0x1B ∷ 0x18 ∷ 0x00 ∷ 0x80 ∷ [], 1 ∷ [])
    ∷ (0x1B ∷ 0x18 ∷ 0x50 ∷ 0x00 ∷ [], [])
    -- behind a stop of decoding
    ∷ (0x1B ∷ 0xFF ∷ 0x18 ∷ 0xFD ∷ 0xFF ∷ [], [])
    ∷ []

unfoldable pub backs_of : Sheet → List ℕ → List ℕ → List ℕ
backs_of s code [] = []
backs_of s code (p ∷ ps) = elim (is_back s code p) [ true ↦ p ∷ backs_of s code ps | false ↦ backs_of s code ps ]

unfoldable pub is_back_at : List ℕ × List ℕ → Option Sheet → Bool
is_back_at x none = false
is_back_at x (some s) = same (backs_of s x.0 (check.starts s x.0)) x.1

unfoldable pub all_back_at : List (List ℕ × List ℕ) → Bool
all_back_at [] = true
all_back_at (x ∷ xs) = is_back_at x (read_sheet plain_sheet) && all_back_at xs

pub backs-right : all_back_at backs ≡ true
unfolding open-Definition bytes plain_sheet same backs backs_of is_back_at all_back_at
backs-right = refl
