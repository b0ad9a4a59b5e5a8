-- The laws behind the reading of a line: its fields one by one, then what its letter makes of them.
use mathlib.Core.Path.{◌≡◌, refl, ap, sym, ◌∙◌}
use mathlib.Core.Bool.{Bool, true, false}
use mathlib.Core.Option.{Option, some, none}
use mathlib.Core.List.{List, [], ◌∷◌, ◌++◌}
use Prim.Native.Nat.{ℕ, ◌+◌, ◌≤◌, ◌<◌}
use native.Mathlib.Omega.{arith}
use borrow.Author.Tests.{lt-ltb, ltb-true, ltb-false, leb-true, eqb-true, eqb-false, ne_eqb}
use lib.Dec.{leb, ltb, eqb}
use lib.ListN.{length, get_or, drop}
use Rattle.std.specs.Prelude.{Result, Ok, Err}
use Rattle.std.proofs.Common.{Bor, inl, inr, ⊎_elim}
use Rattle.definition.specs.Limits.{max_field, bad_form}
use Rattle.definition.specs.Field as def
use Rattle.definition.specs.Field.{comma, first_line, Field, up_to, below, value, Read, malformed, outside, field, natural, natural_within, within, Numbers, wrong, far, are, and_these, numbers}
use Rattle.definition.specs.Tree.{pos_numbers}
use Rattle.definition.specs.Program.{Form, Line, not, made, by_letter, line_of, line_at, pos_fields}
use Rattle.definition.specs.declared.Refusal.{Refusal}
use Rattle.definition.specs.declared.Refusal.TheVariants.{BadForm, TooDeep, WrongLines}
use Rattle.std.specs.Result.{result_unwrap_or}
use Rattle.field.specs.declared.Fault.{Fault}
use Rattle.field.specs.declared.Fault.TheVariants.{Malformed, Outside}
use Rattle.field.specs.View.{read_of, separates, first_field, line_fields, line_end, Stops, Reads}
use Rattle.field.proofs.Lists.{first-left}
use Rattle.field.proofs.Parts.{until-first, Some, some-part, split-some}
use Rattle.field.proofs.Fields.{read-stops, comma-fields, comma-line, last-field, last_line}
use Rattle.line_map.specs.declared.Pos.{Pos}
use Rattle.line_map.specs.View.{pos_view}
use Rattle.program_line.specs.declared.Next.{Next}
use Rattle.program_line.specs.declared.Verdict.{Verdict}
use Rattle.program_line.specs.declared.Verdict.TheVariants.{Good, Far, Wrong}
use Rattle.program_line.specs.declared.Place.{Place}
use Rattle.program_line.specs.declared.Place.TheVariants as place
use Rattle.program_line.specs.declared.Scan.{Scan}
use Rattle.program_line.specs.Scan.{rest_from, rest, end_from, ending, behind_if, behind, farther, worse, number_in, held, push, push_all, left, Bounded, Took, TookPos, Fresh, finished_by, finished, Found, Opened, Letterless, Fetched}

-- ---- one field

-- the fields from a place on: the one that ends here, and those behind it
module _ {text : List ℕ} {at end stop : ℕ} (e : Stops text at end stop) where
  field-and-rest : line_fields text at ≡ first_field (drop at text) ∷ rest_from text (behind end stop)
  unfolding behind_if
  field-and-rest = go (eqb stop comma) refl
    where
      go : (b : Bool) → eqb stop comma ≡ b → line_fields text at ≡ first_field (drop at text) ∷ rest_from text (behind_if b end)
      go true h = comma-fields e (eqb-true _ _ h)
      go false h = last-field e (eqb-false _ _ h)

  line-behind : line_end text at ≡ end_from text (behind end stop)
  unfolding behind_if
  line-behind = go (eqb stop comma) refl
    where
      go : (b : Bool) → eqb stop comma ≡ b → line_end text at ≡ end_from text (behind_if b end)
      go true h = comma-line e (eqb-true _ _ h)
      go false h = last_line e (eqb-false _ _ h)

pub unwrapped : (r : Result ℕ Fault) → result_unwrap_or r 0 ≡ number_in (read_of r)
unfolding number_in
unwrapped (Ok n) = refl
unwrapped (Err Malformed) = refl
unwrapped (Err Outside) = refl

-- what one number does to those behind it
held-these : (v : Verdict) (r : Read) (x : Numbers) → held v (and_these r x) ≡ push (number_in r) (held (worse v r) x)
unfolding held and_these push number_in worse farther
held-these Good malformed x = refl
held-these Far malformed x = refl
held-these Wrong malformed x = refl
held-these Good outside wrong = refl
held-these Good outside far = refl
held-these Good outside (are ns) = refl
held-these Far outside wrong = refl
held-these Far outside far = refl
held-these Far outside (are ns) = refl
held-these Wrong outside x = refl
held-these Good (def.is n) wrong = refl
held-these Good (def.is n) far = refl
held-these Good (def.is n) (are ns) = refl
held-these Far (def.is n) wrong = refl
held-these Far (def.is n) far = refl
held-these Far (def.is n) (are ns) = refl
held-these Wrong (def.is n) x = refl

held-wrong : (v : Verdict) → held v wrong ≡ wrong
unfolding held
held-wrong Good = refl
held-wrong Far = refl
held-wrong Wrong = refl

within-bound : (m : ℕ) (p : ℕ → Bool) → ((n : ℕ) → p n ≡ true → n ≤ m) → (o : Option ℕ) → number_in (natural_within p o) ≤ m
unfolding natural_within within number_in
within-bound m p h none = omega arith
within-bound m p h (some n) = go (p n) refl
  where
    go : (b : Bool) → p n ≡ b → number_in (within b n) ≤ m
    go true e = h n e
    go false e = omega arith

bounded : (f : Field) (bs : List ℕ) → Bounded f (number_in (field f bs))
unfolding field
bounded (up_to m) bs = within-bound m (λ n. leb n m) (λ n e. leb-true _ _ e) (natural bs)
bounded (below m) bs = within-bound m (λ n. ltb n m) (λ n e. omega (arith, ltb-true n m e)) (natural bs)
bounded (value w) bs = tt

zero-bounded : (f : Field) → Bounded f 0
zero-bounded (up_to m) = omega arith
zero-bounded (below m) = omega arith
zero-bounded (value w) = tt

module _ {s : Scan} (f : Field) where
  pub took : {at end stop : ℕ} (r : Read) → s.place ≡ place.Field at → Reads f s.text.now at r end stop → Took f s (number_in r) (record { text = s.text; place = behind end stop; verdict = worse s.verdict r })
  unfolding numbers
  took r here e = record {
    is = λ fs. rw (here, field-and-rest (read-stops e), ← e.holds, held-these);
    bound = rw e.holds (bounded f _);
    line = rw here (line-behind (read-stops e));
  }

  pub took-none : {at : ℕ} → s.place ≡ place.End at → Took f s 0 (record { text = s.text; place = s.place; verdict = Wrong })
  unfolding numbers held push
  took-none here = record { is = λ fs. rw (here, held-wrong); bound = zero-bounded f; line = refl }

pub took-position : {s t u : Scan} {p : Pos} → Took (up_to max_field) s p.line t → Took (up_to max_field) t p.column u → TookPos s p u
unfolding pos_fields pos_numbers push_all
took-position {p = p} a b = record { is = λ fs. a.is _ ∙ ap (push p.line) (b.is fs); line = a.line ∙ b.line }

-- ---- a line

-- the numbers of fields that were read one after the other, and the place behind them
pub record Ran (fs : List Field) (s : Scan) (ns : List ℕ) (t : Scan) : Type 0 where
  pub is : left fs s ≡ push_all ns (left [] t)
  pub line : ending s ≡ ending t

pub ran-none : {s : Scan} → Ran [] s [] s
unfolding push_all
ran-none = record { is = refl; line = refl }

module _ {s t u : Scan} {fs : List Field} {ns : List ℕ} where
  pub ran-number : {f : Field} {n : ℕ} → Took f s n t → Ran fs t ns u → Ran (f ∷ fs) s (n ∷ ns) u
  unfolding push_all
  ran-number {n = n} a r = record { is = a.is fs ∙ ap (push n) r.is; line = a.line ∙ r.line }

  pub ran-position : {p : Pos} → TookPos s p t → Ran fs t ns u → Ran (pos_fields ++ fs) s (pos_numbers (pos_view p) ++ ns) u
  unfolding push_all pos_numbers
  ran-position {p = p} a r = record { is = a.is fs ∙ ap (push_all (pos_numbers (pos_view p))) r.is; line = a.line ∙ r.line }

numbers-over : {xs : List (List ℕ)} → Some xs → numbers [] xs ≡ wrong
unfolding numbers
numbers-over some-part = refl

push-wrong : (ns : List ℕ) → push_all ns wrong ≡ wrong
unfolding push_all push
push-wrong [] = refl
push-wrong (n ∷ ns) = rw (push-wrong ns)

push-far : (ns : List ℕ) → push_all ns far ≡ far
unfolding push_all push
push-far [] = refl
push-far (n ∷ ns) = rw (push-far ns)

push-all : (ns : List ℕ) → push_all ns (are []) ≡ are ns
unfolding push_all push
push-all [] = refl
push-all (n ∷ ns) = rw (push-all ns)

-- what a letter makes of the numbers of its fields
pub record Fits {L : Type 0} (forms : List (Form L)) (letter : ℕ) (fields : List Field) (make : List ℕ → L) : Type 0 where
  pub is : (fs : List (List ℕ)) → by_letter forms letter fs ≡ made make (numbers fields fs)

module _ {T L : Type 0} (of : T → L) where
  finished_at : (make : List ℕ → L) (ns : List ℕ) (text : List ℕ) (p : Place) (v : Verdict) (l : T) → of l ≡ make ns → Found of (finished_by p v l) (made make (push_all ns (held v (numbers [] (rest_from text p))))) (end_from text p)
  unfolding finished_by made held numbers
  finished_at make ns text (place.Field at) v l e = record { is = rw (numbers-over (split-some comma (first_line (drop at text))), held-wrong v, push-wrong ns); ends = tt }
  finished_at make ns text (place.End at) Good l e = record { is = rw (push-all ns, e); ends = refl }
  finished_at make ns text (place.End at) Far l e = record { is = rw (push-far ns); ends = tt }
  finished_at make ns text (place.End at) Wrong l e = record { is = rw (push-wrong ns); ends = tt }

  found-at : {r : Result (Next T) Refusal} {x y : Line L} {n m : ℕ} → x ≡ y → n ≡ m → Found of r x n → Found of r y m
  found-at e h f = rw (← e, ← h) f

  pub line-found : (forms : List (Form L)) (letter : ℕ) {fields : List Field} {make : List ℕ → L} {s t : Scan} {ns : List ℕ} → Fresh s → Ran fields s ns t → Fits forms letter fields make → (l : T) → of l ≡ make ns → Found of (finished t l) (by_letter forms letter (rest s)) (ending s)
  unfolding held
  line-found forms letter {fields} {make} {s} {t} {ns} fresh ran fit l e = found-at (ap (made make) (sym ran.is) ∙ rw fresh (sym (fit.is _))) (sym ran.line) (finished_at make ns t.text.now t.place t.verdict l e)

-- ---- the text at a place

letter-one : (bs : List ℕ) → length bs ≡ 1 → bs ≡ get_or bs 0 0 ∷ []
letter-one [] h = absurd (omega arith)
letter-one (b ∷ []) h = refl
letter-one (b ∷ c ∷ bs) h = absurd (omega arith)

letter-none : (bs : List ℕ) (fs : List (List ℕ)) → (length bs ≡ 1 → ⊥) → Letterless (bs ∷ fs)
letter-none [] fs h = tt
letter-none (b ∷ []) fs h = h refl
letter-none (b ∷ c ∷ bs) fs h = tt

module _ {text : List ℕ} {at end stop : ℕ} (e : Stops text at end stop) where
  pub opened : end ≡ at + 1 → (p : Bor (List ℕ)) → p.now ≡ text → Opened text at (get_or text at 0) (record { text = p; place = behind end stop; verdict = Good })
  opened h p same =
      let one : length (first_field (drop at text)) ≡ 1 = omega (arith, e.ends.is) in
      let first : get_or (first_field (drop at text)) 0 0 ≡ get_or text at 0 = until-first separates (drop at text) (omega arith) ∙ first-left at text 0 in
      record {
        is = rw (same, field-and-rest e) (ap (λ x. x ∷ rest_from text (behind end stop)) (rw (← first) (letter-one _ one)));
        fresh = refl;
        line = rw same (line-behind e);
      }

  pub letterless : (end ≡ at + 1 → ⊥) → Letterless (line_fields text at)
  letterless h = rw (field-and-rest e) (letter-none _ _ (λ one. h (omega (arith, e.ends.is))))

module _ {T : Type 0} {by : ℕ → Scan → Result (Next T) Refusal → Type 0} {depth at : ℕ} {text : List ℕ} where
  pub fetched-missing : length text ≤ at → Fetched by depth text at (Err WrongLines)
  fetched-missing h = record { missing = λ _. refl; deep = λ low _. absurd (omega arith); there = λ low _. absurd (omega arith) }

  pub fetched-deep : at < length text → depth ≡ 0 → Fetched by depth text at (Err TooDeep)
  fetched-deep h z = record { missing = λ high. absurd (omega arith); deep = λ _ _. refl; there = λ _ d. absurd (d z) }

  pub fetched-none : at < length text → (depth ≡ 0 → ⊥) → Letterless (line_fields text at) → Fetched by depth text at (Err BadForm)
  fetched-none h d n = record { missing = λ high. absurd (omega arith); deep = λ _ z. absurd (d z); there = λ _ _. inl (n, refl) }

  pub fetched-by : at < length text → (depth ≡ 0 → ⊥) → {r : Result (Next T) Refusal} (b : ℕ) (s : Scan) → Opened text at b s → by b s r → Fetched by depth text at r
  fetched-by h d b s o p = record { missing = λ high. absurd (omega arith); deep = λ _ z. absurd (d z); there = λ _ _. inr (b, s, o, p) }

line-none : {L : Type 0} (forms : List (Form L)) (fs : List (List ℕ)) → Letterless fs → line_of forms fs ≡ not bad_form
unfolding line_of
line-none forms [] h = refl
line-none forms ([] ∷ fs) h = refl
line-none forms ((b ∷ []) ∷ fs) h = absurd h
line-none forms ((b ∷ c ∷ bs) ∷ fs) h = refl

module _ {T L : Type 0} (of : T → L) (forms : List (Form L)) {at : ℕ} {r : Result (Next T) Refusal} where
  there-found : (depth : ℕ) (text : List ℕ) → at < length text → (depth ≡ 0 → ⊥) → Found of r (line_of forms (line_fields text at)) (line_end text at) → Found of r (line_at forms depth text at) (line_end text at)
  unfolding line_at
  there-found depth text h d f = record { is = f.is ∙ rw (line_at, lt-ltb _ _ h, ne_eqb _ _ d); ends = f.ends }

  opened-found : {text : List ℕ} {b : ℕ} {s : Scan} → Opened text at b s → Found of r (by_letter forms b (rest s)) (ending s) → Found of r (line_of forms (line_fields text at)) (line_end text at)
  unfolding line_of
  opened-found o f = rw (o.is, o.line) f

module _ {T L : Type 0} (of : T → L) (forms : List (Form L)) {by : ℕ → Scan → Result (Next T) Refusal → Type 0} {depth at : ℕ} {text : List ℕ} {r : Result (Next T) Refusal} where
  -- a line that `by` reads by its letter is the one at this place
  pub line-fetched : Fetched by depth text at r → ((b : ℕ) (s : Scan) → Fresh s → by b s r → Found of r (by_letter forms b (rest s)) (ending s)) → Found of r (line_at forms depth text at) (line_end text at)
  unfolding line_at
  line-fetched f read = go (ltb at (length text)) (eqb depth 0) refl refl
    where
      some-level : at < length text → (depth ≡ 0 → ⊥) → Found of r (line_at forms depth text at) (line_end text at)
      some-level h d = there-found of forms depth text h d (⊎_elim (λ n. rw n.1 (record { is = sym (line-none forms _ n.0); ends = tt })) (λ o. opened-found of forms o.2 (read o.0 o.1 o.2.fresh o.3)) (f.there h d))

      go : (x y : Bool) → ltb at (length text) ≡ x → eqb depth 0 ≡ y → Found of r (line_at forms depth text at) (line_end text at)
      go false y h z = let high : length text ≤ at = ltb-false _ _ h in rw (f.missing high) (record { is = rw (line_at, h); ends = tt })
      go true true h z = let low : at < length text = ltb-true _ _ h in rw (f.deep low (eqb-true _ _ z)) (record { is = rw (line_at, h, z); ends = tt })
      go true false h z = some-level (ltb-true _ _ h) (eqb-false _ _ z)
