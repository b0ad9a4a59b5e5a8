-- What each function reads off tables and ways.
use Prim.Native.Nat.{ℕ, ◌+◌, ◌≤◌, ◌<◌}
use mathlib.Core.Path.{◌≡◌, refl, sym, ◌∙◌, ap}
use mathlib.Core.List.{List}
use mathlib.Core.Bool.{Bool, true, false, not}
use mathlib.Core.Option.{some}
use lib.Dec.{eqb}
use Rattle.std.specs.Prelude as std
use Rattle.std.specs.Prelude.{Some, None, unwrap_or}
use lib.ListN.{length, get_or}
use borrow.Author.Tests.{eq-eqb, ne_eqb, le-leb, lt-leb, lt-ltb, le-ltb}
use native.Mathlib.Omega.{arith}
use Rattle.definition.specs.Field.{has}
use Rattle.definition.specs.Opcode.{Sheet, role_of, size, flow}
use Rattle.definition.specs.Opcode as def
use Rattle.definition.specs.Runs.{target}
use Rattle.definition.specs.Claims.{branches}
use Rattle.definition.specs.Check.{starts}
use Rattle.opcode.specs.View.{flow_view}
use Rattle.opcode.specs.Table.{sheet_in}
use Rattle.opcode.specs.declared.Flow.{Flow}
use Rattle.opcode.specs.declared.Flow.TheVariants.{Onward, Away, Either, Stop}
use Rattle.opcode.specs.declared.Traits.{Traits}
use Rattle.runs.proofs.Roles.{branch-size}
use Rattle.field.specs.View.{option_of}
use Rattle.image_check.specs.View.{Image, TraitsAt}
use Rattle.slowest.specs.View.{place_or, count_in, ahead, longer, way_by, way_role, way_at}
use Rattle.slowest.specs.declared.Way.{Way}
use Rattle.slowest.specs.declared.Way.TheVariants.{Back, Ends, Onwards, Falls, Jumps}

-- ---- counts

module _ (counts : List ℕ) (end q : ℕ) where
  count_by : Bool → ℕ
  count_by b = elim b [ true ↦ 0 | false ↦ get_or counts q 0 ]

  pub count_past : end < q → 0 ≡ count_in counts end q
  unfolding count_by
  count_past l = sym (ap count_by (lt-ltb end q l))

  pub count-within : q ≤ end → get_or counts q 0 ≡ count_in counts end q
  unfolding count_by
  count-within l = sym (ap count_by (le-ltb end q l))

-- ---- ways

module _ (code : List ℕ) (p next : ℕ) (f : ℕ → ℕ) (fl : Flow) where
  pub onward-is : fl ≡ Onward → Onwards next ≡ way_by (flow_view fl) code p next f
  unfolding way_by
  onward-is e = sym (ap (λ x. way_by (flow_view x) code p next f) e)

  pub stop_is : fl ≡ Stop → Ends 1 ≡ way_by (flow_view fl) code p next f
  unfolding way_by
  stop_is e = sym (ap (λ x. way_by (flow_view x) code p next f) e)

  module _ (q : ℕ) (o : std.Option ℕ) (is : option_of o ≡ target code next) (or : q ≡ unwrap_or o 0) where
    k : q ≡ place_or 0 (target code next)
    unfolding place_or
    k = or ∙ (by o ∙ ap (λ x. place_or 0 x) is)
      where
        by : (o : std.Option ℕ) → unwrap_or o 0 ≡ place_or 0 (option_of o)
        by None = refl
        by (Some x) = refl

    back : (w : Way) → q ≤ p → ahead p q w ≡ Back
    unfolding ahead
    back w l = ap (λ b. elim b as (λ c. Way) [ true ↦ Back | false ↦ w ]) (le-leb q p l)

    on : (w : Way) → p < q → ahead p q w ≡ w
    unfolding ahead
    on w l = ap (λ b. elim b as (λ c. Way) [ true ↦ Back | false ↦ w ]) (lt-leb q p l)

    away-by : fl ≡ Away → ahead p q (Onwards q) ≡ way_by (flow_view fl) code p next f
    unfolding way_by
    away-by e = ap (λ x. ahead p x (Onwards x)) k ∙ sym (ap (λ x. way_by (flow_view x) code p next f) e)

    either-by : fl ≡ Either → ahead p q (longer f next q) ≡ way_by (flow_view fl) code p next f
    unfolding way_by
    either-by e = ap (λ x. ahead p x (longer f next x)) k ∙ sym (ap (λ x. way_by (flow_view x) code p next f) e)

    pub away-back : fl ≡ Away → q ≤ p → Back ≡ way_by (flow_view fl) code p next f
    away-back e l = sym (back (Onwards q) l) ∙ away-by e

    pub away-on : fl ≡ Away → p < q → Onwards q ≡ way_by (flow_view fl) code p next f
    away-on e l = sym (on (Onwards q) l) ∙ away-by e

    pub either-back : fl ≡ Either → q ≤ p → Back ≡ way_by (flow_view fl) code p next f
    either-back e l = sym (back (longer f next q) l) ∙ either-by e

    pub either-falls : fl ≡ Either → p < q → f q ≤ f next → Falls next ≡ way_by (flow_view fl) code p next f
    unfolding longer
    either-falls e l m = sym (on (longer f next q) l ∙ ap (λ b. elim b as (λ c. Way) [ true ↦ Falls next | false ↦ Jumps q ]) (le-leb (f q) (f next) m)) ∙ either-by e

    pub either-jumps : fl ≡ Either → p < q → f next < f q → Jumps q ≡ way_by (flow_view fl) code p next f
    unfolding longer
    either-jumps e l m = sym (on (longer f next q) l ∙ ap (λ b. elim b as (λ c. Way) [ true ↦ Falls next | false ↦ Jumps q ]) (lt-leb (f q) (f next) m)) ∙ either-by e

-- ---- places

module _ (sheet code flags : List ℕ) (image : Image sheet code flags) (p : ℕ) (lt : p < length code) where
  pub no_start : get_or flags p 0 ≡ 0 → has (starts (sheet_in sheet) code) p ≡ false
  no_start e = sym (image.known p lt) ∙ (ap (λ x. not (eqb x 0)) e ∙ ap not (eq-eqb 0 0 refl))

  pub a-start : (get_or flags p 0 ≡ 0 → ⊥) → has (starts (sheet_in sheet) code) p ≡ true
  a-start n = sym (image.known p lt) ∙ ap not (ne_eqb (get_or flags p 0) 0 n)

module _ (s : Sheet) (code counts : List ℕ) (p : ℕ) where
  way_from : Bool → Way
  way_from b = elim b [ true ↦ way_role (role_of s (get_or code p 0)) code p (count_in counts (length code)) | false ↦ Ends 0 ]

  pub way-off : has (starts s code) p ≡ false → Ends 0 ≡ way_at s code counts p
  unfolding way_at way_from
  way-off h = sym (ap way_from h)

  pub way-role : (r : def.Role) → has (starts s code) p ≡ true → role_of s (get_or code p 0) ≡ some r → way_at s code counts p ≡ way_by (flow r) code p (p + size r) (count_in counts (length code))
  unfolding way_at way_from way_role
  way-role r h e = ap way_from h ∙ ap (λ x. way_role x code p (count_in counts (length code))) e

module _ (sheet code : List ℕ) (p : ℕ) (tr : Traits) (is : TraitsAt sheet code p tr) where
  pub way-start : (counts : List ℕ) → has (starts (sheet_in sheet) code) p ≡ true → way_by (flow_view tr.flow) code p (p + tr.size) (count_in counts (length code)) ≡ way_at (sheet_in sheet) code counts p
  unfolding size flow
  way-start counts h =
      ap (λ x. way_by x code p (p + tr.size) (count_in counts (length code))) is.are.flow
      ∙ (ap (λ x. way_by (flow is.role) code p (p + x) (count_in counts (length code))) is.are.size ∙ sym (way-role (sheet_in sheet) code counts p is.role h is.known))

  pub offset-bytes : branches (flow_view tr.flow) ≡ true → 2 ≤ p + tr.size
  unfolding size flow
  offset-bytes b =
      let l = branch-size is.role (ap branches (sym is.are.flow) ∙ b) in
      let z : tr.size ≡ size is.role = is.are.size in
      omega arith
