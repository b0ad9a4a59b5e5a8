use Rattle.std.proofs.Common.{OnErr, Result, Ok, Err, ◌≡◌, ℕ, length, take, arith, sym, ◌∙◌}
use lib.ListN.{length-replicate}
use Rattle.std.proofs.lemmas.Result.{IfOk-weaker}
use Rattle.replay.specs.Case.{input_room}
use Rattle.answer_replay.proofs.replay_input.Goals as goal

on_err : {T E : Type 0} (r : Result T E) {P : Type 0} → P → OnErr r P
on_err (Ok x) p = tt
on_err (Err e) p = p

pub slice_bounds-read_full-end : goal.slice_bounds-read_full-end
slice_bounds-read_full-end g c = sym (length-replicate {A = ℕ} input_room 0)

pub slice_bounds-input-end : goal.slice_bounds-input-end
slice_bounds-input-end g c = c.in_ok-n.ensures.within.0

pub slice_bounds-replay_all-end : goal.slice_bounds-replay_all-end
slice_bounds-replay_all-end g c = c.in_ok-n.ensures.within.1

pub returns-clause-ok : goal.returns-clause-ok
returns-clause-ok g c =
    let room : length c.read_full.new.buf ≡ input_room = c.read_full.auto.buf ∙ length-replicate {A = ℕ} input_room 0 in
    let near = c.in_ok-n.ensures.within in
    IfOk-weaker c.replay_all.result _ _
    (λ n e. record {
      text = take c.in_ok-n.n c.read_full.new.buf;
      within = omega (arith, near.0, near.1, room);
      count = e;
      given = c.in_ok-n.ensures.bytes;
      all = λ l. c.in_ok-n.ensures.end (omega (arith, near.1, room, l));
    })
    c.replay_all.ensures

pub returns-clause-err : goal.returns-clause-err
returns-clause-err g c = on_err c.replay_all.result (_, c.in_ok-n.ensures.bytes)

pub returns-in_err-n-clause-err : goal.returns-in_err-n-clause-err
returns-in_err-n-clause-err g c = on_err c.from_residual.result (_, c.in_err-n.ensures.err.2)
