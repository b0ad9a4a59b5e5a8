-- The bodies of loops that walks noted, two for each nesting level.
use Rattle.std.specs.Prelude.{◌≡◌, ◌⊎◌, Bool, false, List, ℕ, ◌<◌, get_or, replicate}
use Rattle.definition.specs.Limits.{max_nesting}
use Rattle.definition.specs.Program as def
use Rattle.definition.specs.Program.{block_of, stmt_at}
use Rattle.program.specs.declared.Cursor.{Cursor}
use Rattle.program.specs.declared.Body.{Body}
use Rattle.program.specs.declared.Ends.{Ends}
use Rattle.program.specs.Walk.{Skipped}

-- where a body starts and where it ends
abbrev pub start_of : Body → def.Cursor
start_of x = record { at = x.at; row = x.row }

abbrev pub end_of : Body → Cursor
end_of x = record { at = x.end; row = x.last }

-- what stands where none is noted: a body of no statement
abbrev pub no_body : Body
no_body = record { at = 0; row = 0; count = 0; end = 0; last = 0 }

abbrev pub no_ends : Ends
no_ends = record { first = replicate max_nesting no_body; second = replicate max_nesting no_body; from = 0 }

-- a body is one of those of a level
abbrev pub Noted : Ends → ℕ → Body → Type 0
Noted ends left x = (x ≡ get_or ends.first left no_body) ⊎ (x ≡ get_or ends.second left no_body)

-- what is noted of a level is so: that many statements from there on end there
pub record Sound (text : List ℕ) (v : ℕ) (ends : Ends) : Type 0 where
  pub told : (left : ℕ) → left < max_nesting → (x : Body) → Noted ends left x → Skipped text (block_of (λ d. stmt_at left v text d) x.count (start_of x)).1 (end_of x)

-- nothing is noted that was not: bodies stay, go, or change their place in their level
pub record NoneNew (ends ends' : Ends) : Type 0 where
  pub told : (k : ℕ) → k < max_nesting → (x : Body) → Noted ends' k x → Noted ends k x

-- n statements that a walk went over from b to c
abbrev pub body_of : ℕ → Cursor → Cursor → Body
body_of n b c = record { at = b.at; row = b.row; count = n; end = c.at; last = c.row }

-- what is noted was noted before, or is this body, which a walk that heeds no fault went over
pub record Noting (heed : Bool) (left n : ℕ) (b c : Cursor) (ends ends' : Ends) : Type 0 where
  pub told : (k : ℕ) → k < max_nesting → (x : Body) → Noted ends' k x → Noted ends k x ⊎ ((heed ≡ false) × (k ≡ left) × (x ≡ body_of n b c))
