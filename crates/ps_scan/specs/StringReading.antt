-- The body of a string, read a byte at a time. Own rule: the function that Strings is proved
-- against.
use Rattle.std.specs.Prelude.{ℕ, ◌+◌, ◌-◌, ◌*◌, ◌%◌, ◌==◌, ◌<◌, ◌≤◌, Bool, true, false, List, [], ◌∷◌, if◌then◌else◌}
use Rattle.std.specs.Prelude.{Option, Some, None}
use Rattle.ps_scan.specs.Strings.{is_octal, escaped}
use Rattle.ps_scan.specs.declared.strings.Inside.{Inside}
use Rattle.ps_scan.specs.declared.strings.Inside.TheVariants.{Normal, Return, Escape, One, Two}
use Rattle.ps_scan.specs.declared.strings.Does.{Does}
use Rattle.ps_scan.specs.declared.strings.Does.TheVariants.{Ends, Goes, Waits}

-- the bytes meant, and how long the body is with its last parenthesis; one that doesn't end is read
-- to its end
pub record StringWalk : Type 0 where
  pub closed : Bool
  pub used : ℕ
  pub bytes : List ℕ

-- a walk with one byte more read
abbrev pub one_more : StringWalk → StringWalk
one_more w = record { closed = w.closed; used = 1 + w.used; bytes = w.bytes }

-- a walk with one byte more meant, in front
abbrev pub gives : ℕ → StringWalk → StringWalk
gives b w = record { closed = w.closed; used = w.used; bytes = b ∷ w.bytes }

-- the walk at the end of the body, or of the text
abbrev pub stop : Bool → ℕ → StringWalk
stop closed used = record { closed = closed; used = used; bytes = [] }

-- what a byte in its normal meaning does
abbrev pub normal : ℕ → ℕ → Does
normal inner c =
    if c == 40 then Goes Normal (inner + 1) 40
    else if c == 41 then (if inner == 0 then Ends else Goes Normal (inner - 1) 41)
    else if c == 92 then Waits Escape inner
    else if c == 13 then Goes Return inner 10
    else Goes Normal inner c

-- the walk from what a byte does on
abbrev pub resume : Does → (Inside → ℕ → StringWalk) → StringWalk
resume Ends next = stop true 1
resume (Goes inside inner b) next = gives b (one_more (next inside inner))
resume (Waits inside inner) next = one_more (next inside inner)

-- an octal escape that the byte ends, and what the byte does
pub record StringStep : Type 0 where
  pub first : Option ℕ
  pub does : Does

-- what a byte does where it ends no octal escape
abbrev pub plain_step : Does → StringStep
plain_step does = record { first = None; does = does }

-- what a byte does anywhere in a body, where so many parentheses are open inside
abbrev pub step : Inside → ℕ → ℕ → StringStep
step Normal inner c = plain_step (normal inner c)
step Return inner c = if c == 10 then plain_step (Waits Normal inner) else plain_step (normal inner c)
step Escape inner c =
    if is_octal c then plain_step (Waits (One (c - 48)) inner)
    else if c == 10 then plain_step (Waits Normal inner)
    else if c == 13 then plain_step (Waits Return inner)
    else plain_step (Goes Normal inner (escaped c))
step (One v) inner c =
    if is_octal c then plain_step (Waits (Two (8 * v + (c - 48))) inner)
    else record { first = Some v; does = normal inner c }
step (Two v) inner c =
    if is_octal c then plain_step (Goes Normal inner ((8 * v + (c - 48)) % 256))
    else record { first = Some v; does = normal inner c }

-- a walk with the byte of an octal escape in front, if there is one
abbrev pub put_first : Option ℕ → StringWalk → StringWalk
put_first None w = w
put_first (Some b) w = gives b w

-- the walk through a body from its first byte
unfoldable pub walk : Inside → ℕ → List ℕ → StringWalk
walk inside inner [] = stop false 0
walk inside inner (c ∷ cs) =
    put_first (step inside inner c).first (resume (step inside inner c).does (λ s i. walk s i cs))

-- the value of a first octal digit is below 8
abbrev pub is_small : Inside → Type 0
is_small Normal = Unit {0}
is_small Return = Unit {0}
is_small Escape = Unit {0}
is_small (One v) = v < 8
is_small (Two v) = Unit {0}

-- where a step leads to: a first octal digit below 8, and at most one parenthesis more open
abbrev pub IsNearFront : ℕ → Does → Type 0
IsNearFront inner Ends = Unit {0}
IsNearFront inner (Goes inside next b) = is_small inside × (next ≤ inner + 1)
IsNearFront inner (Waits inside next) = is_small inside × (next ≤ inner + 1)
