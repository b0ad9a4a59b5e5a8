-- The longest run, followed, and the answer that comes of it.
use Prim.Native.Nat.{ℕ, ◌+◌, ◌-◌, ◌≤◌, ◌<◌}
use mathlib.Core.Path.{◌≡◌, refl, sym, ◌∙◌, ap, subst}
use mathlib.Core.List.{List, [], ◌++◌, append_assoc, append-nil}
use mathlib.Core.Bool.{Bool, true, false}
use lib.ListN.{length, get_or, take, length-append}
use native.Mathlib.Omega.{arith}
use Rattle.definition.specs.Limits.{max_code, max_outcomes}
use Rattle.definition.specs.Field.{has}
use Rattle.definition.specs.Opcode.{Sheet}
use Rattle.definition.specs.Lent.{zeros, filled}
use Rattle.definition.specs.Check.{starts, Answers}
use Rattle.definition.specs.Slowest.{Loops, Slowest, outcome_bytes, Answer, refused, looping, measured, Measures}
use Rattle.definition.specs.Slowest as def
use Rattle.store.specs.Store.{Store, at, contents, push_all}
use Rattle.store.specs.Fill.{zeroed_from}
use Rattle.store.proofs.Stores.{length-push_all, contents-room, used-room}
use Rattle.store.proofs.Fills.{zero-all, zeroed-is}
use Rattle.opcode.specs.Table.{sheet_in}
use Rattle.field.proofs.Results.{never}
use Rattle.image_check.specs.View.{Admitted, Rejects}
use Rattle.image_check.proofs.Starts.{start-holds}
use Rattle.image_check.proofs.Checking.{checks-code}
use Rattle.slowest.specs.Longest.{Best, longest}
use Rattle.slowest.specs.View.{way_at, is_last_way, way_place, way_next, way_outcomes, way_bytes, Counted, Fronted, Following, Follows, Works, refuses, loops, measures, used, answer_view, Fronts}
use Rattle.slowest.specs.declared.Way.{Way}
use Rattle.slowest.specs.declared.Way.TheVariants.{Back, Ends, Onwards, Falls, Jumps}
use Rattle.slowest.specs.declared.Measured.{Measured}
use Rattle.slowest.specs.declared.Measured.TheVariants as code_measured
use Rattle.std.specs.Prelude.{Some, None, Result, Ok, Err}
use Rattle.definition.specs.View.{refusal_number}
use Rattle.definition.specs.declared.Refusal.{Refusal}
use Rattle.definition.specs.declared.Refusal.TheVariants.{BadText, BadForm, BadRange, NoLoop, TooDeep, WrongLines, BadSheet, BadCode, BadRule, CodeFull, LabelsFull, LinesFull, ConstantsFull, OutputShort, FarBranch, Astray, BadHeight, Other}
use Rattle.definition.specs.declared.Refused.{Refused}
use Rattle.slowest.proofs.Longest.{slowest}
use Rattle.slowest.proofs.Few.{few}
use Rattle.slowest.proofs.Bits.{length-bytes, append-bytes}
use Rattle.slowest.proofs.Ways.{best_way, ends-way, goes-way, Leads, leads-on}
use Rattle.slowest.proofs.Reading.{way-off}
use Rattle.slowest.proofs.Swept.{leads-at, longest-at, right-from}

-- ---- the walk

module _ (sheet code counts : List ℕ) (known : Counted sheet code counts) (small : length code ≤ max_code) where
  abbrev s : Sheet
  s = sheet_in sheet

  abbrev F : ℕ → Best
  F q = longest s code q

  goes_at : (p : ℕ) → F p ≡ best_way F (way_at s code counts p)
  goes_at p = longest-at s code counts p known.straight (λ x l. right-from sheet code known.straight counts 0 (λ q a b. known.exact q b) x (omega arith))

  pub follow-begins : (outcomes : List ℕ) → max_outcomes ≤ length outcomes → Following sheet code outcomes 0 0
  unfolding outcome_bytes
  follow-begins outcomes r = record { room = r; done = []; fronted = record { front = refl; many = refl }; is = refl }

  module _ (outcomes : List ℕ) (n p : ℕ) (f : Following sheet code outcomes n p) (w : Way) (is : w ≡ way_at s code counts p) where
    here : F p ≡ best_way F w
    here = goes_at p ∙ ap (λ x. best_way F x) (sym is)

    pub follow-ends : is_last_way w ≡ true → Follows sheet code outcomes n
    follow-ends e = subst (λ os. Fronted outcomes n os) (sym (f.is ∙ (ap (λ os. f.done ++ os) (ap (λ (b : Best). b.outcomes) here ∙ ends-way F w e) ∙ append-nil f.done))) f.fronted

    module _ (e : is_last_way w ≡ false) where
      whole : (F 0).outcomes ≡ (f.done ++ way_outcomes w) ++ (F (way_place w p)).outcomes
      whole = f.is ∙ (ap (λ os. f.done ++ os) (ap (λ (b : Best). b.outcomes) here ∙ goes-way F p w e) ∙ sym (append_assoc f.done (way_outcomes w) (F (way_place w p)).outcomes))

      fits : n + length (way_bytes w) ≤ length outcomes
      fits =
          let a = few s code known.straight 0 small in
          let b = ap (λ (os : List Bool). length os) whole ∙ (length-append (f.done ++ way_outcomes w) (F (way_place w p)).outcomes ∙ ap (λ x. x + length (F (way_place w p)).outcomes) (length-append f.done (way_outcomes w))) in
          let c = f.fronted.many in
          let d = length-bytes (way_outcomes w) in
          let r = f.room in
          omega arith

      pub follow-goes : {outcomes' : List ℕ} {n' p' : ℕ} → at outcomes' n' ≡ push_all (at outcomes n) (way_bytes w) → p' ≡ way_place w p → Following sheet code outcomes' n' p'
      unfolding contents
      follow-goes {outcomes' = outcomes'} {n' = n'} {p' = p'} k z =
          let m : n' ≡ n + length (way_bytes w) = ap (λ (x : Store). x.used) k ∙ used-room (at outcomes n) (way_bytes w) fits in
          record {
            room = subst (λ l. max_outcomes ≤ l) (sym (ap (λ (x : Store). length x.cells) k ∙ length-push_all (at outcomes n) (way_bytes w))) f.room;
            done = f.done ++ way_outcomes w;
            fronted = record {
              front = ap contents k ∙ (contents-room (at outcomes n) (way_bytes w) fits ∙ (ap (λ xs. xs ++ way_bytes w) f.fronted.front ∙ sym (append-bytes f.done (way_outcomes w))));
              many = m ∙ (let a = length-append f.done (way_outcomes w) in let b = length-bytes (way_outcomes w) in let c = f.fronted.many in omega arith);
            };
            is = whole ∙ ap (λ q. (f.done ++ way_outcomes w) ++ (F q).outcomes) (sym z);
          }

      -- an instruction stands there, and the run goes on behind it
      pub follow-less : {p' : ℕ} → p' ≡ way_place w p → length code - p' < length code - p
      follow-less {p' = p'} z = by (has (starts s code) p) refl
        where
          by : (b : Bool) → has (starts s code) p ≡ b → length code - p' < length code - p
          by true h = let a = (start-holds s code p h).0 in let l = leads-on p w (subst (λ x. Leads p x) (sym is) (leads-at s code counts p)) e in omega arith
          by false h = let y : true ≡ false = ap is_last_way (way-off s code counts p h ∙ sym is) ∙ e in never (cc)

-- what `place_behind` tells
pub next-none : (w : Way) → way_next w ≡ None → is_last_way w ≡ true
next-none Back e = refl
next-none (Ends n) e = refl
next-none (Onwards q) e = never (cc)
next-none (Falls q) e = never (cc)
next-none (Jumps q) e = never (cc)

pub next_some : (w : Way) (q p : ℕ) → way_next w ≡ Some q → (is_last_way w ≡ false) × (q ≡ way_place w p)
next_some Back q p e = never (cc)
next_some (Ends n) q p e = never (cc)
next_some (Onwards x) q p e = (refl, cc)
next_some (Falls x) q p e = (refl, cc)
next_some (Jumps x) q p e = (refl, cc)

-- ---- the answer

pub works-measured : (sheet code : List ℕ) (depth : ℕ) (outcomes : List ℕ) {n count : ℕ} (counts : List ℕ) → length code ≤ max_code → Answers (sheet_in sheet) code depth 0 → Counted sheet code counts → count ≡ get_or counts 0 0 → Follows sheet code outcomes n
    → Works sheet code depth outcomes (Ok (code_measured.Run count n))
works-measured sheet code depth outcomes counts small passed known c f =
    let run = slowest (sheet_in sheet) code known.straight depth (passed.passes.0 refl) in
    measures passed known.straight (subst (λ n. Slowest (sheet_in sheet) code n (longest (sheet_in sheet) code 0).outcomes) (sym (c ∙ known.exact 0 (omega arith))) run) (few (sheet_in sheet) code known.straight 0 small) f

pub refused-number : (r : Refusal) → refusal_number r ≡ 0 → ⊥
refused-number BadText e = absurd (omega arith)
refused-number BadForm e = absurd (omega arith)
refused-number BadRange e = absurd (omega arith)
refused-number NoLoop e = absurd (omega arith)
refused-number TooDeep e = absurd (omega arith)
refused-number WrongLines e = absurd (omega arith)
refused-number BadSheet e = absurd (omega arith)
refused-number BadCode e = absurd (omega arith)
refused-number BadRule e = absurd (omega arith)
refused-number CodeFull e = absurd (omega arith)
refused-number LabelsFull e = absurd (omega arith)
refused-number LinesFull e = absurd (omega arith)
refused-number ConstantsFull e = absurd (omega arith)
refused-number OutputShort e = absurd (omega arith)
refused-number FarBranch e = absurd (omega arith)
refused-number Astray e = absurd (omega arith)
refused-number BadHeight e = absurd (omega arith)
refused-number (Other u) e = absurd (omega (arith, u.unnamed.past_far_branch))

-- a refusal behind the sheet has no place
abbrev pub placed : Result Measured Refusal → Result Measured Refused
placed (Ok m) = Ok m
placed (Err r) = Err (record { refusal = r; place = 0 })

module _ (sheet code : List ℕ) (depth : ℕ) (outcomes : List ℕ) where
  abbrev room : ℕ
  room = length outcomes

  abbrev M : Answer → Type 0
  M a = Measures room sheet code depth a

  -- nothing is given back: the output is zeroed from its start on
  none-given : zeros room ≡ zeroed_from 0 outcomes
  none-given = sym (zero-all outcomes refl)

  fronts-refused : (e : Refused) → M (refused room (refusal_number e.refusal) e.place) → Fronts sheet code depth outcomes (Err e)
  unfolding refused
  fronts-refused e m = subst (λ out. M (record { number = refusal_number e.refusal; place = e.place; loops = 0; instruction_count = 0; outcome_count = 0; outcomes = out })) none-given m

  pub fronts-short : room < max_outcomes → Fronts sheet code depth outcomes (Err (record { refusal = OutputShort; place = 0 }))
  fronts-short l = fronts-refused (record { refusal = OutputShort; place = 0 }) (def.refuses_room l)

  module _ (enough : max_outcomes ≤ room) where
    pub fronts-unfit : (e : Refused) → Rejects sheet code e → Fronts sheet code depth outcomes (Err e)
    fronts-unfit e a = fronts-refused e (def.refuses enough (a depth) (refused-number e.refusal))

    pub fronts-worked : {table : List ℕ} {r : Result Measured Refusal} → Admitted sheet code table → Works table code depth outcomes r → Fronts sheet code depth outcomes (placed r)
    unfolding looping measured filled
    fronts-worked a (refuses {r = r} x) = fronts-refused (record { refusal = r; place = 0 }) (def.refuses enough (checks-code a x) (refused-number r))
    fronts-worked a (loops x l) = subst (λ out. M (record { number = 0; place = 0; loops = 1; instruction_count = 0; outcome_count = 0; outcomes = out })) none-given (def.loops enough a.read (checks-code a x) l)
    fronts-worked a (measures {count = count} {n = n} {os = os} x straight run least f) =
        let e = ap (λ k. outcome_bytes os ++ zeros (room - k)) (length-bytes os ∙ sym f.many) ∙ ap (λ xs. xs ++ zeros (room - n)) (sym f.front) in
        subst (λ out. M (record { number = 0; place = 0; loops = 0; instruction_count = count; outcome_count = n; outcomes = out })) (sym (zeroed-is n outcomes))
        (subst (λ k. M (record { number = 0; place = 0; loops = 0; instruction_count = count; outcome_count = k; outcomes = take n outcomes ++ zeros (room - n) })) (sym f.many)
        (subst (λ out. M (record { number = 0; place = 0; loops = 0; instruction_count = count; outcome_count = length os; outcomes = out })) e (def.measures enough a.read (checks-code a x) straight run least)))

-- what is zeroed behind the outcomes is all of it
pub measures-zeroed : (sheet code : List ℕ) (depth : ℕ) (outcomes : List ℕ) (r : Result Measured Refused) {out : List ℕ} {room : ℕ} → Fronts sheet code depth outcomes r → out ≡ zeroed_from (used r) outcomes → length outcomes ≡ room → Measures room sheet code depth (answer_view r out)
measures-zeroed sheet code depth outcomes r {out = out} f e k = subst (λ n. Measures n sheet code depth (answer_view r out)) k (subst (λ out. Measures (length outcomes) sheet code depth (answer_view r out)) (sym e) f)
