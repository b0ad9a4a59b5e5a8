-- The limits, field ranges and refusal numbers of documents 01 and 02. Each stands here and nowhere else.
use Rattle.std.specs.Prelude.{ℕ, ◌/◌}

-- ---- limits of emission, and of what is lent for its results

-- bytes of code, emitted and finished (document 02, L1)
abbrev pub max_code : ℕ
max_code = 65535

-- how far back and how far forward a branch of finished code leads: a signed number of sixteen bits (document 02, L1)
abbrev pub max_back : ℕ
max_back = 32768

abbrev pub max_forward : ℕ
max_forward = 32767

-- branches in the code: the smallest has three bytes
abbrev pub max_branches : ℕ
max_branches = max_code / 3

-- labels created, used or not
abbrev pub max_labels : ℕ
max_labels = 4096

-- protected offsets of rewriting called alone
abbrev pub max_protected : ℕ
max_protected = 4096

-- line entries
abbrev pub max_lines : ℕ
max_lines = 4096

-- constants in the pool
abbrev pub max_constants : ℕ
max_constants = 1024

-- branch outcomes of a slowest run (document 02, L12)
abbrev pub max_outcomes : ℕ
max_outcomes = 21845

-- numbers that a line entry takes in a lent list: offset, line, column
abbrev pub entry_size : ℕ
entry_size = 3

-- ---- limits of the three files

-- bytes of a program
abbrev pub max_program : ℕ
max_program = 65536

-- nesting levels of a program
abbrev pub max_nesting : ℕ
max_nesting = 64

-- variables of a program
abbrev pub max_variables : ℕ
max_variables = 1024

-- the largest number of a field that is no value: counts, positions, loop numbers, operands
abbrev pub max_field : ℕ
max_field = 65535

-- lines of a rule file
abbrev pub max_rules : ℕ
max_rules = 64

-- passes of the rewriter
abbrev pub pass_count : ℕ
pass_count = 3

-- bits of a value
abbrev pub width : ℕ
width = 32

-- ---- refusal numbers ('What is answered')

-- 1: program empty, too long, or not ended by LF
abbrev pub bad_text : ℕ
bad_text = 1

-- 2: wrong letter, wrong field count or malformed number
abbrev pub bad_form : ℕ
bad_form = 2

-- 3: number outside its range
abbrev pub bad_range : ℕ
bad_range = 3

-- 4: no open loop of that number
abbrev pub no_loop : ℕ
no_loop = 4

-- 5: nesting too deep
abbrev pub too_deep : ℕ
too_deep = 5

-- 6: line missing or left over
abbrev pub wrong_lines : ℕ
wrong_lines = 6

-- 7: bad sheet
abbrev pub bad_sheet : ℕ
bad_sheet = 7

-- 8: code, protected offset or line offset that rewriting called alone cannot take
abbrev pub bad_code : ℕ
bad_code = 8

-- 9: bad rule
abbrev pub bad_rule : ℕ
bad_rule = 9

-- 10: code over its limit
abbrev pub code_full : ℕ
code_full = 10

-- 11: labels or protected offsets over their limit
abbrev pub labels_full : ℕ
labels_full = 11

-- 12: line entries over their limit
abbrev pub lines_full : ℕ
lines_full = 12

-- 13: constants over their limit
abbrev pub constants_full : ℕ
constants_full = 13

-- 14: a lent output shorter than its limit
abbrev pub output_short : ℕ
output_short = 14

-- 15: a branch of finished code that is too far from its target (document 02, L1)
abbrev pub far_branch : ℕ
far_branch = 15

-- 20: an image with a run that reaches a place neither start nor end (document 02, L11)
abbrev pub astray : ℕ
astray = 20

-- 21: an image with a height fault (document 02, L11)
abbrev pub bad_height : ℕ
bad_height = 21
