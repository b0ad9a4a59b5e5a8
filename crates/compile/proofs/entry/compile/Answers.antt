-- That the answer is what the outcome settles to is found from the goal, so that no answer names the call's last step.
use Rattle.std.proofs.Common.{rules}
use Rattle.compile.proofs.Answers.{settled_as}
use Rattle.compile.proofs.Entries.{call-answers, answered-safe, answered-faithful}
use Rattle.compile.proofs.entry.compile.Goals as goal

pub returns-clause-compiles : goal.returns-clause-compiles
returns-clause-compiles c = call-answers c.args.sheet.now c.args.rules.now c.args.program.now c.compile_into-outcome.ensures (search (rules, settled_as)) c.compile_into-outcome.auto.code c.compile_into-outcome.auto.constants c.compile_into-outcome.auto.lines

pub returns-clause-safe : goal.returns-clause-safe
returns-clause-safe c = answered-safe _ _ _ _ (returns-clause-compiles c)

pub returns-clause-faithful : goal.returns-clause-faithful
returns-clause-faithful c = answered-faithful _ _ _ _ (returns-clause-compiles c)
