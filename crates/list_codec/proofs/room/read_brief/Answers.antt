use Rattle.std.proofs.Common.{◌≡◌, ℕ, List, Option, Some, ap, sym, subst, ◌∙◌, arith}
use Rattle.std.specs.Prelude.{option_and_then, Result}
use Rattle.list_codec.specs.declared.misread.Misread.{Misread}
use Rattle.list_codec.specs.Code.Reading.{Gives, byte_at, cmd_at, cmd_of, inked_at, clipped_at, pictured_at, masked_at}
use Rattle.list_codec.proofs.room.read_brief.Goals as goal

-- the tag tells which command is read
told : (bytes rest : List ℕ) (tag which : ℕ) → byte_at bytes ≡ Some (tag, rest) → tag ≡ which
    → cmd_at bytes ≡ cmd_of which rest
unfolding cmd_at
told bytes rest tag which first same =
    ap (λ (read : Option (ℕ × List ℕ)). option_and_then (λ t. cmd_of t.0 t.1) read) first
    ∙ ap (λ (k : ℕ). cmd_of k rest) same

-- an answer to what is read is one to what is the same
gives_same : {X Y : Type 0} (view : X → Y) (result : Result X Misread) (a b : Option Y) → a ≡ b → Gives view result b
    → Gives view result a
gives_same view result a b same gives = subst (Gives view result) (sym same) gives

pub returns-in-1-clause-value : goal.returns-in-1-clause-value
returns-in-1-clause-value c =
    gives_same _ c.flat_at.result (cmd_at c.args.bytes.now) (inked_at c.in-Some.rest.now)
    (told c.args.bytes.now c.in-Some.rest.now c.in-Some.tag 1 c.in-Some.ensures.value (omega arith))
    (c.flat_at.ensures.value _)

pub returns-in-2-clause-value : goal.returns-in-2-clause-value
returns-in-2-clause-value c =
    gives_same _ c.clip_at.result (cmd_at c.args.bytes.now) (clipped_at c.in-Some.rest.now)
    (told c.args.bytes.now c.in-Some.rest.now c.in-Some.tag 2 c.in-Some.ensures.value (omega arith))
    (c.clip_at.ensures _)

pub returns-in-4-clause-value : goal.returns-in-4-clause-value
returns-in-4-clause-value c =
    gives_same _ c.image_at.result (cmd_at c.args.bytes.now) (pictured_at c.in-Some.rest.now)
    (told c.args.bytes.now c.in-Some.rest.now c.in-Some.tag 4 c.in-Some.ensures.value (omega arith))
    (c.image_at.ensures.value _)

pub returns-in-5-clause-value : goal.returns-in-5-clause-value
returns-in-5-clause-value c =
    gives_same _ c.mask_at.result (cmd_at c.args.bytes.now) (masked_at c.in-Some.rest.now)
    (told c.args.bytes.now c.in-Some.rest.now c.in-Some.tag 5 c.in-Some.ensures.value (omega arith))
    (c.mask_at.ensures.value _)
