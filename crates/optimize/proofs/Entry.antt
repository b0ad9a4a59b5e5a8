-- The entry that is called alone: 14, 7 and 9 before the rest.
use mathlib.Core.Path.{◌≡◌, refl}
use mathlib.Core.Bool.{true, false}
use mathlib.Core.Option.{Option, some, none}
use mathlib.Core.List.{List}
use Prim.Native.Nat.{ℕ, ◌*◌}
use native.Mathlib.Omega.{arith}
use lib.ListN.{length}
use Rattle.definition.specs.Limits.{max_code, max_protected, max_lines, entry_size, bad_sheet, output_short}
use Rattle.definition.specs.Res.{Res, ok, refuse, ◌>>=◌, ◌>>◌, demand, given}
use Rattle.definition.specs.Opcode.{Sheet}
use Rattle.definition.specs.Sheet.{read_sheet}
use Rattle.definition.specs.Rules.{Rule, read_rules}
use Rattle.definition.specs.Compile.{Free}
use Rattle.definition.specs.Alone.{Given, Room, roomy, rewrite_files, rewrite_into, answer, Rewrites}
use Rattle.store.proofs.Rooms.{have-room}
use Rattle.std.specs.Prelude.{Result, Ok, Err, is_err}
use Rattle.definition.specs.View.{refusal_number}
use Rattle.definition.specs.declared.Refusal.TheVariants.{OutputShort}
use Rattle.definition.specs.declared.Refused.{Refused}
use Rattle.store.specs.Fill.{zeroed_from}
use Rattle.store.proofs.Fills.{zero-all}
use Rattle.optimize.specs.declared.alone.Rewritten as code
use Rattle.optimize.proofs.Whole.{given-as}
use Rattle.opcode.specs.Table.{sheet_in}
use Rattle.opcode.specs.Reading.{Accepts, Refuses}
use Rattle.opcode.proofs.Faults.{some-fault}
use Rattle.rules.specs.View as rules
use Rattle.rules.specs.View.{rules_in, IsRules, table_of, table_for, Answered}
use Rattle.rules.proofs.Table.{rules-back}
use Rattle.rules.proofs.Pairs.{read_table}
use Rattle.optimize.specs.View.{answer_view, Gives, Finds, Roomy, after_limits, after_rules, after_sheet}

-- ---- 9

pub record Read (text table : List ℕ) (count : ℕ) : Type 0 where
  pub rs : List Rule
  pub is : read_rules text ≡ ok rs
  pub held : IsRules table count
  pub same : rules_in table count ≡ rs

read-from : (text table : List ℕ) (count : ℕ) (x : Res (List Rule)) → read_rules text ≡ x → ok count ≡ rules.answer_of x → table ≡ table_for rules.table_size x → Read text table count
unfolding rules.answer_of table_for table_of
read-from text table count (ok rs) e q h =
    let n : count ≡ length rs = cc in
    record { rs = rs; is = e; held = rw (h, n) (read_table text e); same = rw (h, n) (rules-back rs) }
read-from text table count (refuse m p) e q h = absurd (let z : ◌≡◌ {A = ℕ} 0 1 = cc in omega arith)

pub rules-read : {text table : List ℕ} {count : ℕ} → Answered rules.table_size (read_rules text) (ok count) table → Read text table count
rules-read {text} {table} {count = count} a = read-from text table count (read_rules text) refl a.is a.holds

pub rules-bad : (x : Res (List Rule)) (m p : ℕ) → refuse m p ≡ rules.answer_of x → x ≡ refuse m p
unfolding rules.answer_of
rules-bad (ok rs) m p e = absurd (let z : ◌≡◌ {A = ℕ} 0 1 = cc in omega arith)
rules-bad (refuse n q) m p e =
    let en : n ≡ m = cc in
    let eq : q ≡ p = cc in
    rw (en, eq)

module _ (s : Sheet) (text : List ℕ) (g : Given) where
  pub refused-9 : {table : List ℕ} {m p : ℕ} → Answered rules.table_size (read_rules text) (refuse m p) table → after_sheet s text g ≡ refuse m p
  unfolding after_sheet ◌>>=◌
  refused-9 {m = m} {p = p} h = rw (rules-bad (read_rules text) m p h.is)

  pub ruled : {table : List ℕ} {count : ℕ} → Answered rules.table_size (read_rules text) (ok count) table → after_sheet s text g ≡ after_rules s (rules_in table count) g
  unfolding after_sheet ◌>>=◌
  ruled h =
      let d = rules-read h in
      rw (d.is, d.same)

-- ---- 14

pub roomy-is : {r : Room} → roomy r ≡ true → Roomy r
unfolding roomy
roomy-is {r} e =
    let h = have-room r.code r.protected r.lines max_code max_protected (max_lines * entry_size) e in
    record { code = h.first; protected = h.second; lines = h.third }

-- a place at fault, if the sheet is bad
pub place-by : (sheet : List ℕ) (o : Option Sheet) → read_sheet sheet ≡ o → (n : ℕ) × Free sheet n
unfolding Free
place-by sheet none e = let f = some-fault sheet e in (f.0, λ _. f.1)
place-by sheet (some s) e = (0, λ q. absurd (let z : ◌≡◌ {A = ℕ} 0 1 = cc in omega arith))

order : (sheet rules : List ℕ) (g : Given) (r : Room) (place : ℕ) → rewrite_into place r sheet rules g ≡ (demand (roomy r) output_short 0 >> (given (read_sheet sheet) bad_sheet place >>= λ s. after_sheet s rules g))
unfolding rewrite_into rewrite_files after_sheet after_rules after_limits
order sheet rules g r place = refl

module _ (sheet rules : List ℕ) (g : Given) (r : Room) where
  pub short : {b o e : List ℕ} → roomy r ≡ false → Finds r sheet rules g (Err (record { refusal = OutputShort; place = 0 })) b o e
  unfolding ◌>>◌ demand
  short off =
      let f = place-by sheet (read_sheet sheet) refl in
      record { place = f.0; free = f.1; is = rw (order sheet rules g r f.0, off) }

  -- ---- 7, and the rest
  module _ (table : List ℕ) (room : roomy r ≡ true) where
    pub refused-7 : (x : Refused) {b o e : List ℕ} → Refuses sheet table (refusal_number x.refusal) x.place → Finds r sheet rules g (Err x) b o e
    unfolding ◌>>◌ ◌>>=◌ demand given Free
    refused-7 x d = record { place = x.place; free = λ _. d.fault; is = rw (order sheet rules g r x.place, room, d.is, d.number) }

    sheeted : Accepts sheet table → rewrite_into 0 r sheet rules g ≡ after_sheet (sheet_in table) rules g
    unfolding ◌>>◌ ◌>>=◌ demand given
    sheeted d = rw (order sheet rules g r 0, room, d.is)

    pub after-sheet : (a : Result code.Rewritten Refused) {b o e : List ℕ} → Accepts sheet table → Gives r (after_sheet (sheet_in table) rules g) a b o e → Finds r sheet rules g a b o e
    unfolding Free
    after-sheet a {b} {o} {e} d h =
        let good = d.is in
        record { place = 0; free = λ q. absurd (let z : ◌≡◌ {A = ℕ} 0 1 = cc in omega arith); is = given-as r a b o e (sheeted d) h }

  -- ---- what is answered, the outputs zeroed after a refusal
  pub told-refused : (a : Result code.Rewritten Refused) {b o e b' o' e' : List ℕ} → Finds r sheet rules g a b o e → is_err a ≡ true → length b ≡ r.code → length o ≡ r.protected → length e ≡ r.lines
      → b' ≡ zeroed_from 0 b → o' ≡ zeroed_from 0 o → e' ≡ zeroed_from 0 e → Rewrites r sheet rules g (answer_view a b' o' e')
  unfolding answer
  told-refused (Ok a) f h lb lo le zb zo ze = absurd (let z : ◌≡◌ {A = ℕ} 0 1 = cc in omega arith)
  told-refused (Err a) {b} {o} {e} f h lb lo le zb zo ze = record { place = f.place; free = f.free; is = rw (f.is, zero-all b zb, zero-all o zo, zero-all e ze, lb, lo, le) }

  pub told-kept : (a : Result code.Rewritten Refused) {b o e : List ℕ} → Finds r sheet rules g a b o e → is_err a ≡ false → Rewrites r sheet rules g (answer_view a b o e)
  told-kept (Ok a) f h = record { place = f.place; free = f.free; is = f.is }
  told-kept (Err a) f h = absurd (let z : ◌≡◌ {A = ℕ} 0 1 = cc in omega arith)
