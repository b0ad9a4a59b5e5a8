use native.Mathlib.Omega.{arith}
use mathlib.Core.Path.{ap}
use lib.ListN.{length}
use Rattle.definition.specs.Claims.{branches}
use Rattle.opcode.specs.View.{flow_view}
use Rattle.slowest.specs.View.{count_in}
use Rattle.slowest.proofs.Reading.{onward-is, stop_is, away-back, away-on, either-back, either-falls, either-jumps}
use Rattle.slowest.proofs.way_by.Goals as goal

pub target_of-requires-clause-le_next : goal.target_of-requires-clause-le_next
unfolding branches
target_of-requires-clause-le_next c = c.requires.le_next (ap (λ f. branches (flow_view f)) c.in-Away.is)

pub returns-then-q-p : goal.returns-then-q-p
returns-then-q-p c = away-back _ _ _ _ c.args.flow _ _ c.target_of.ensures c.unwrap_or-q.ensures c.in-Away.is c.if-q-p.true

pub target_of-requires-in-Either-clause-le_next : goal.target_of-requires-in-Either-clause-le_next
unfolding branches
target_of-requires-in-Either-clause-le_next c = c.requires.le_next (ap (λ f. branches (flow_view f)) c.in-Either.is)

pub returns-then-q-p-2 : goal.returns-then-q-p-2
returns-then-q-p-2 c = either-back _ _ _ _ c.args.flow _ _ c.target_of-in-Either.ensures c.unwrap_or-q-in-Either.ensures c.in-Either.is c.if-q-p-2.true

pub returns-then-count_at : goal.returns-then-count_at
returns-then-count_at c = either-falls _ _ _ (count_in c.args.counts.now (length c.args.code.now)) c.args.flow _ _ c.target_of-in-Either.ensures c.unwrap_or-q-in-Either.ensures c.in-Either.is c.if-q-p-2.false (omega (arith, c.count_at.ensures, c.count_at-in-Either.ensures, c.if-count_at.true))

pub returns-in-Onward : goal.returns-in-Onward
returns-in-Onward c = onward-is _ _ _ _ c.args.flow c.in-Onward.is

pub returns-else-q-p : goal.returns-else-q-p
returns-else-q-p c = away-on _ _ _ _ c.args.flow _ _ c.target_of.ensures c.unwrap_or-q.ensures c.in-Away.is c.if-q-p.false

pub returns-else-count_at : goal.returns-else-count_at
returns-else-count_at c = either-jumps _ _ _ (count_in c.args.counts.now (length c.args.code.now)) c.args.flow _ _ c.target_of-in-Either.ensures c.unwrap_or-q-in-Either.ensures c.in-Either.is c.if-q-p-2.false (omega (arith, c.count_at.ensures, c.count_at-in-Either.ensures, c.if-count_at.false))

pub returns-in-Stop : goal.returns-in-Stop
returns-in-Stop c = stop_is _ _ _ _ c.args.flow c.in-Stop.is
