-- What `look` and `is_listed` read.
use Prim.Native.Nat.{ℕ, ◌+◌}
use mathlib.Core.Path.{◌≡◌, refl, sym, ◌∙◌, ap, subst}
use mathlib.Core.List.{List}
use mathlib.Core.Bool.{Bool, true, false}
use mathlib.Core.Option.{Option, some, none}
use lib.ListN.{length, get_or}
use borrow.Author.Tests.{eq-eqb, ne_eqb}
use native.Mathlib.Omega.{arith}
use Rattle.definition.specs.Field.{has}
use Rattle.definition.specs.Rules.{role_numbered, has_role}
use Rattle.definition.specs.Opcode.{cmp_br, Sheet, role_of, number, flow, size, needs, effect, traits}
use Rattle.definition.specs.Opcode as def
use Rattle.definition.specs.Rewrite.{opcode_of}
use Rattle.definition.specs.Check.{listed, starts, exits}
use Rattle.definition.specs.Claims.{Either, left, right, branches}
use Rattle.opcode.specs.View.{role_view, flow_view, AreTraits}
use Rattle.opcode.specs.declared.Role.{Role}
use Rattle.opcode.specs.declared.Effect.TheVariants.{Same}
use Rattle.opcode.specs.declared.Flow.TheVariants.{Stop}
use Rattle.opcode.specs.declared.Traits.{Traits}
use Rattle.opcode.specs.Table.{sheet_in, number_or}
use Rattle.opcode.proofs.Sheets.{role-number, number-below}
use Rattle.field.proofs.Results.{never}
use Rattle.runs.proofs.Roles.{branch-size}
use Rattle.image_check.specs.Place.{halts, end_node, role_node}
use Rattle.image_check.specs.View.{TraitsAt, Looks}
use Rattle.image_check.proofs.Starts.{start-holds}
use Rattle.image_check.proofs.Nodes.{node_end, node-role}

pub looks-end : (sheet code : List ℕ) (p : ℕ) → p ≡ length code → Looks sheet code p (record { size = 0; needs = 0; effect = Same; flow = Stop })
unfolding end_node exits branches
looks-end sheet code p e = record { nd = end_node; is = node_end (sheet_in sheet) code p e; needed = refl; shifts = refl; leads = refl; stopped = refl; offset = λ b. never (cc) }

-- what stands at a start has a role
pub traits-is : (sheet code : List ℕ) (p n : ℕ) (role : Role) (tr : Traits) → has (starts (sheet_in sheet) code) p ≡ true → n ≡ number_or (role_of (sheet_in sheet) (get_or code p 0)) → role_view role ≡ role_numbered n → AreTraits (traits (role_view role)) tr → TraitsAt sheet code p tr
unfolding number_or
traits-is sheet code p n role tr start listed numbered are =
    let h = start-holds (sheet_in sheet) code p start in
    record { role = h.1; known = h.2; are = subst (λ r. AreTraits (traits r) tr) (numbered ∙ (ap role_numbered (listed ∙ ap number_or h.2) ∙ role-number h.1)) are }

pub at-start : (sheet code : List ℕ) (p : ℕ) → Either (has (starts (sheet_in sheet) code) p ≡ true) (p ≡ length code) → (p ≡ length code → ⊥) → has (starts (sheet_in sheet) code) p ≡ true
at-start sheet code p at inside = elim at [ left h ↦ h | right e ↦ absurd (inside e) ]

module _ (sheet code : List ℕ) (p : ℕ) (tr : Traits) (start : has (starts (sheet_in sheet) code) p ≡ true) (is : TraitsAt sheet code p tr) where
  abbrev r : def.Role
  r = is.role

  pub looks-role : Looks sheet code p tr
  unfolding role_node size needs effect flow
  looks-role =
      let z : tr.size ≡ size r = is.are.size in
      let f : flow_view tr.flow ≡ flow r = is.are.flow in
      record {
        nd = role_node code p r;
        is = node-role (sheet_in sheet) code p r start is.known;
        needed = is.are.needs;
        shifts = is.are.effect;
        leads = sym (ap (λ x. exits (flow_view tr.flow) code (p + x)) z ∙ ap (λ x. exits x code (p + size r)) f);
        stopped = ap halts f;
        offset = λ b. let l = branch-size r (ap branches (sym f) ∙ b) in omega arith;
      }

-- ---- comparison bytes

module _ (s : Sheet) (i : List ℕ) (n : ℕ) (is : n ≡ number_or (role_of s (get_or i 0 0))) where
  listed_by : Bool → Bool
  listed_by b = elim b [ true ↦ has s.comparisons (get_or i 1 0) | false ↦ true ]

  -- what the table gives for the opcode tells whether it is a CMP_BR's
  asked : (b : Bool) → ((q : Option def.Role) → n ≡ number_or q → has_role cmp_br q ≡ b) → listed s i ≡ listed_by b
  unfolding listed listed_by opcode_of
  asked b f = ap listed_by (f (role_of s (get_or i 0 0)) is)

  pub listed-other : (n ≡ number cmp_br → ⊥) → true ≡ listed s i
  unfolding listed_by has_role number_or
  listed-other ne = sym (asked false by)
    where
      by : (q : Option def.Role) → n ≡ number_or q → has_role cmp_br q ≡ false
      by none e = refl
      by (some q) e = ne_eqb (number cmp_br) (number q) (λ k. ne (e ∙ sym k))

  pub listed_same : n ≡ number cmp_br → has s.comparisons (get_or i 1 0) ≡ listed s i
  unfolding listed_by has_role number_or
  listed_same eq = sym (asked true by)
    where
      by : (q : Option def.Role) → n ≡ number_or q → has_role cmp_br q ≡ true
      by none e = let l = number-below cmp_br in absurd (omega (arith, l))
      by (some q) e = eq-eqb (number cmp_br) (number q) (sym eq ∙ e)
