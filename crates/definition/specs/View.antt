-- What the refusals of code stand for: a number, and a number with a place; and which of them have a name.
use Rattle.std.specs.Prelude.{ℕ, ◌≡◌, Result, Ok, Err}
use Rattle.definition.specs.Limits.{bad_text, bad_form, bad_range, no_loop, too_deep, wrong_lines, bad_sheet, bad_code, bad_rule, code_full, labels_full, lines_full, constants_full, output_short, far_branch, astray, bad_height}
use Rattle.definition.specs.Res.{Res, ok, refuse}
use Rattle.definition.specs.declared.Refusal.{Refusal}
use Rattle.definition.specs.declared.Refusal.TheVariants.{BadText, BadForm, BadRange, NoLoop, TooDeep, WrongLines, BadSheet, BadCode, BadRule, CodeFull, LabelsFull, LinesFull, ConstantsFull, OutputShort, FarBranch, Astray, BadHeight, Other}
use Rattle.definition.specs.declared.Refused.{Refused}
use Rattle.definition.specs.declared.Unnamed.{Unnamed}

abbrev pub refusal_number : Refusal → ℕ
refusal_number BadText = bad_text
refusal_number BadForm = bad_form
refusal_number BadRange = bad_range
refusal_number NoLoop = no_loop
refusal_number TooDeep = too_deep
refusal_number WrongLines = wrong_lines
refusal_number BadSheet = bad_sheet
refusal_number BadCode = bad_code
refusal_number BadRule = bad_rule
refusal_number CodeFull = code_full
refusal_number LabelsFull = labels_full
refusal_number LinesFull = lines_full
refusal_number ConstantsFull = constants_full
refusal_number OutputShort = output_short
refusal_number FarBranch = far_branch
refusal_number Astray = astray
refusal_number BadHeight = bad_height
refusal_number (Other u) = u.number

-- what a function of code answers, as the definition's answer
abbrev pub res_of : {T A : Type 0} → (T → A) → Result T Refused → Res A
res_of f (Ok x) = ok (f x)
res_of f (Err e) = refuse (refusal_number e.refusal) e.place

-- a refusal that has a name in Limits
abbrev pub Named : Refusal → Type 0
Named r = (u : Unnamed) → r ≡ Other u → ⊥
