-- Turn by turn: what was read so far, that each turn gave a byte at least, and that those bytes are the input's first.
use Rattle.std.proofs.Common.{◌≡◌, ℕ, ◌+◌, ◌≤◌, refl, List, [], Bool, true, false, Result, Ok, length, take, nat_lt, arith, length-append}
use Rattle.std.specs.declared.option.Option.{Option}
use Rattle.std.specs.Result.{IsErr}
use Rattle.std.proofs.lemmas.Result.{IfOk-from_err}
use borrow.Author.Tests.{ltb-true, ltb-false}
use Rattle.std.specs.Io.KnownBytes.{Consumes, Keeps, IsAtEnd}
use Rattle.std.proofs.KnownBytes.{Consumes-nil, Consumes-kept, Consumes-trans}
use Rattle.input_machine.specs.Machine.{Phase, State, steps}
use Rattle.input_reader.specs.View.{Reading}
use Rattle.input_reader.proofs.Feeds.{reading-none, reading-then}
use Rattle.standard_input.specs.Turns.{Turned}

-- ---- one read

-- a read that failed
pub none : {E : Type 0} {known left : Option (List ℕ)} {q : Phase} {s : State} {turns : ℕ} (r : Result Bool E) → IsErr r → Keeps known left → Turned known left q s s turns r
unfolding reading-none
none {known = known} {left = left} {q = q} {s = s} r e k = record {
  reading = reading-none q s;
  many = IfOk-from_err r _ e;
  given = Consumes-kept known known left [] (Consumes-nil known) k;
  all = IfOk-from_err r _ e;
}

-- a read that gave n bytes
pub some : {E : Type 0} {known left : Option (List ℕ)} {q : Phase} {s t : State} (n : ℕ) (bytes : List ℕ) → t ≡ steps q s (take n bytes) → n ≡ length (take n bytes) → Consumes known left (take n bytes) → (n ≡ 0 → IsAtEnd left)
    → Turned {E = E} known left q s t 1 (Ok (nat_lt 0 n))
some n bytes is long given end = record {
  reading = record { bytes = take n bytes; is = is };
  many = λ m. let p = ltb-true 0 n m in omega (arith, long);
  given = given;
  all = λ m. end (let p = ltb-false 0 n m in omega arith);
}

-- ---- turn by turn

pub record Going (known left : Option (List ℕ)) (q : Phase) (s t : State) (turns : ℕ) : Type 0 where
  pub reading : Reading q s t
  pub many : turns ≤ length reading.bytes
  pub given : Consumes known left reading.bytes

pub goes-from : (known : Option (List ℕ)) (q : Phase) (s : State) → Going known known q s s 0
unfolding reading-none
goes-from known q s = record { reading = reading-none q s; many = omega arith; given = Consumes-nil known }

module _ {E : Type 0} {a b c : Option (List ℕ)} {q : Phase} {s t u : State} {turns : ℕ} (x : Going a b q s t turns) where
  -- a turn more
  pub goes_on : Turned {E = E} b c q t u 1 (Ok true) → Going a c q s u (turns + 1)
  unfolding reading-then
  goes_on y = record {
    reading = reading-then x.reading y.reading;
    many = let p = x.many in let r = y.many refl in let z = length-append x.reading.bytes y.reading.bytes in omega arith;
    given = Consumes-trans a b c x.reading.bytes y.reading.bytes x.given y.given;
  }

  -- the last turn: the input's end
  pub ends : (all : ℕ) → Turned {E = E} b c q t u 1 (Ok false) → Turned {E = E} a c q s u all (Ok false)
  unfolding reading-then
  ends all y = record {
    reading = reading-then x.reading y.reading;
    many = λ m. absurd (let e : false ≡ true = m in cc);
    given = Consumes-trans a b c x.reading.bytes y.reading.bytes x.given y.given;
    all = y.all;
  }

  -- the last turn: an error
  pub fails : {r : Result Bool E} (all : ℕ) (f : Result Bool E) → IsErr f → Turned b c q t u 1 r → Turned a c q s u all f
  unfolding reading-then
  fails all f e y = record {
    reading = reading-then x.reading y.reading;
    many = IfOk-from_err f _ e;
    given = Consumes-trans a b c x.reading.bytes y.reading.bytes x.given y.given;
    all = IfOk-from_err f _ e;
  }

-- so many turns were taken
pub spent : {E : Type 0} {known left : Option (List ℕ)} {q : Phase} {s t : State} {turns : ℕ} (all : ℕ) → all ≤ turns → Going known left q s t turns → Turned {E = E} known left q s t all (Ok true)
spent all h x = record {
  reading = x.reading;
  many = λ m. let p = x.many in omega (arith, h);
  given = x.given;
  all = λ m. absurd (let e : true ≡ false = m in cc);
}
