-- Commands: one that is read is the one that was put, and none is read where none was put.
use Rattle.std.proofs.Common.{◌≡◌, ℕ, ◌+◌, ◌-◌, true, cond, eqb, List, [], ◌∷◌, ◌++◌, length, take, drop}
use Rattle.std.proofs.Common.{Some, None, refl, sym, ap, subst, ◌∙◌, arith, inl, inr, ◌⊎◌}
use Rattle.std.proofs.lemmas.Bool.{eqb-true}
use Rattle.std.proofs.lemmas.List.{take-append-drop, length-append, length-take, take_at}
use Rattle.std.proofs.lemmas.Option.{some_pair_parts, none-some}
use Rattle.list_codec.specs.Command.{CmdValue, Inked, Clipped, Drawn, Pictured, Masked, IsCmd}
use Rattle.list_codec.specs.Spelling.{cmd_bytes, ink_bytes, regions_bytes, rule_byte, shapes_bytes, number_bytes}
use Rattle.list_codec.specs.Lists.{IsFront, HasNoFront, TellsParts}
use Rattle.list_codec.specs.Code.Reading.{◌>>=◌, byte_at, ink_at, rule_at, counted_at, region_at, shape_at, index_at}
use Rattle.list_codec.specs.Code.Reading.{inked_at, clipped_at, drawn_at, pictured_at, masked_at, cmd_of, cmd_at}
use Rattle.list_codec.proofs.Fronts.{IsBytes, Takes, Takes-then, bind_some, chosen, ended, byte_takes, Reader}
use Rattle.list_codec.proofs.Inks.{rule_takes, rule_again, ink_reader, index_reader}
use Rattle.list_codec.proofs.Shapes.{shapes_reader, regions_reader}

-- a command was taken from the front of bytes
record TakesCmd (bytes : List ℕ) (read : CmdValue × List ℕ) : Type 0 where
  taken : Takes bytes (cmd_bytes read.0) read.1
  command : IsCmd read.0

-- the bytes begin with a tag
record HasTag (bytes : List ℕ) (tag : ℕ) (after : List ℕ) : Type 0 where
  taken : Takes bytes (tag ∷ []) after

-- a change of the ink
inked_takes : (bytes after : List ℕ) (read : CmdValue × List ℕ) → HasTag bytes 1 after → inked_at after ≡ Some read
    → TakesCmd bytes read
unfolding inked_at cmd_bytes
inked_takes bytes after read first e =
    let a = bind_some (ink_at after) (λ ink. Some (Inked ink.0, ink.1)) read e in
    let others = ink_reader.takes after a.0.0 a.0.1 first.taken.rest_fits a.1 in
    ended (TakesCmd bytes) (Inked a.0.0, a.0.1) read a.2 (record {
      taken = Takes-then bytes (1 ∷ []) after (ink_bytes a.0.0) a.0.1 first.taken others.0;
      command = others.1;
    })

-- a change of the clip
clipped_takes : (bytes after : List ℕ) (read : CmdValue × List ℕ) → HasTag bytes 2 after → clipped_at after ≡ Some read
    → TakesCmd bytes read
unfolding clipped_at cmd_bytes
clipped_takes bytes after read first e =
    let a = bind_some (counted_at region_at after) (λ regions. Some (Clipped regions.0, regions.1)) read e in
    let others = regions_reader.takes after a.0.0 a.0.1 first.taken.rest_fits a.1 in
    ended (TakesCmd bytes) (Clipped a.0.0, a.0.1) read a.2 (record {
      taken = Takes-then bytes (2 ∷ []) after (regions_bytes a.0.0) a.0.1 first.taken others.0;
      command = others.1;
    })

-- shapes
drawn_takes : (bytes after : List ℕ) (read : CmdValue × List ℕ) → HasTag bytes 3 after → drawn_at after ≡ Some read
    → TakesCmd bytes read
unfolding drawn_at cmd_bytes
drawn_takes bytes after read first e =
    let a = bind_some (rule_at after)
    (λ rule. counted_at shape_at rule.1 >>= λ shapes. Some (Drawn rule.0 shapes.0, shapes.1)) read e in
    let b = bind_some (counted_at shape_at a.0.1) (λ shapes. Some (Drawn a.0.0 shapes.0, shapes.1)) read a.2 in
    let rule = rule_takes after a.0.0 a.0.1 first.taken.rest_fits a.1 in
    let shapes = shapes_reader.takes a.0.1 b.0.0 b.0.1 rule.rest_fits b.1 in
    let two = Takes-then after (rule_byte a.0.0 ∷ []) a.0.1 (shapes_bytes b.0.0) b.0.1 rule shapes.0 in
    ended (TakesCmd bytes) (Drawn a.0.0 b.0.0, b.0.1) read b.2 (record {
      taken = Takes-then bytes (3 ∷ []) after (rule_byte a.0.0 ∷ shapes_bytes b.0.0) b.0.1 first.taken two;
      command = shapes.1;
    })

-- an image
pictured_takes : (bytes after : List ℕ) (read : CmdValue × List ℕ) → HasTag bytes 4 after
    → pictured_at after ≡ Some read
    → TakesCmd bytes read
unfolding pictured_at cmd_bytes
pictured_takes bytes after read first e =
    let a = bind_some (index_at after) (λ index. Some (Pictured index.0, index.1)) read e in
    let others = index_reader.takes after a.0.0 a.0.1 first.taken.rest_fits a.1 in
    ended (TakesCmd bytes) (Pictured a.0.0, a.0.1) read a.2 (record {
      taken = Takes-then bytes (4 ∷ []) after (number_bytes a.0.0) a.0.1 first.taken others.0;
      command = others.1;
    })

-- a mask
masked_takes : (bytes after : List ℕ) (read : CmdValue × List ℕ) → HasTag bytes 5 after → masked_at after ≡ Some read
    → TakesCmd bytes read
unfolding masked_at cmd_bytes
masked_takes bytes after read first e =
    let a = bind_some (index_at after) (λ index. Some (Masked index.0, index.1)) read e in
    let others = index_reader.takes after a.0.0 a.0.1 first.taken.rest_fits a.1 in
    ended (TakesCmd bytes) (Masked a.0.0, a.0.1) read a.2 (record {
      taken = Takes-then bytes (5 ∷ []) after (number_bytes a.0.0) a.0.1 first.taken others.0;
      command = others.1;
    })

-- the tag of which it is
known : (bytes after : List ℕ) (tag which : ℕ) → Takes bytes (tag ∷ []) after → eqb tag which ≡ true
    → HasTag bytes which after
known bytes after tag which first test =
    record { taken = subst (λ (k : ℕ). Takes bytes (k ∷ []) after) (eqb-true tag which test) first }

-- nothing is not something
nothing : (x : CmdValue × List ℕ) → None ≡ Some x → ⊥
nothing x e = absurd cc

-- a command by its tag
of_takes : (bytes after : List ℕ) (tag : ℕ) (read : CmdValue × List ℕ) → Takes bytes (tag ∷ []) after
    → cmd_of tag after ≡ Some read → TakesCmd bytes read
of_takes bytes after tag read first e =
    let five = cond (eqb tag 5) (masked_at after) None in
    let four = cond (eqb tag 4) (pictured_at after) five in
    let three = cond (eqb tag 3) (drawn_at after) four in
    let two = cond (eqb tag 2) (clipped_at after) three in
    elim (chosen (eqb tag 1) (inked_at after) two (Some read) e) [
      | inl here ↦ inked_takes bytes after read (known bytes after tag 1 first here.0) here.1
      | inr past1 ↦
          elim (chosen (eqb tag 2) (clipped_at after) three (Some read) past1.1) [
            | inl here ↦ clipped_takes bytes after read (known bytes after tag 2 first here.0) here.1
            | inr past2 ↦
                elim (chosen (eqb tag 3) (drawn_at after) four (Some read) past2.1) [
                  | inl here ↦ drawn_takes bytes after read (known bytes after tag 3 first here.0) here.1
                  | inr past3 ↦
                      elim (chosen (eqb tag 4) (pictured_at after) five (Some read) past3.1) [
                        | inl here ↦ pictured_takes bytes after read (known bytes after tag 4 first here.0) here.1
                        | inr past4 ↦
                            elim (chosen (eqb tag 5) (masked_at after) None (Some read) past4.1) [
                              | inl here ↦ masked_takes bytes after read (known bytes after tag 5 first here.0) here.1
                              | inr none ↦ absurd (nothing read none.1)
                            ]
                      ]
                ]
          ]
    ]

-- a command that is read is spelled so
cmd_takes : (bytes : List ℕ) (cmd : CmdValue) (rest : List ℕ) → IsBytes bytes → cmd_at bytes ≡ Some (cmd, rest)
    → Takes bytes (cmd_bytes cmd) rest × IsCmd cmd
unfolding cmd_at
cmd_takes bytes cmd rest fits e =
    let a = bind_some (byte_at bytes) (λ tag. cmd_of tag.0 tag.1) (cmd, rest) e in
    let first = byte_takes bytes a.0.0 a.0.1 fits a.1 in
    let t = of_takes bytes a.0.1 a.0.0 (cmd, rest) first.0 a.2 in
    (t.taken, t.command)

-- a command is read again
cmd_again : (cmd : CmdValue) (rest : List ℕ) → IsCmd cmd → cmd_at (cmd_bytes cmd ++ rest) ≡ Some (cmd, rest)
unfolding cmd_at cmd_bytes inked_at clipped_at drawn_at pictured_at masked_at
cmd_again (Inked ink) rest fits = rw (ink_reader.again ink rest fits) refl
cmd_again (Clipped regions) rest fits = rw (regions_reader.again regions rest fits) refl
cmd_again (Drawn rule shapes) rest fits =
    rw (rule_again rule (shapes_bytes shapes ++ rest), shapes_reader.again shapes rest fits) refl
cmd_again (Pictured index) rest fits = rw (index_reader.again index rest fits) refl
cmd_again (Masked index) rest fits = rw (index_reader.again index rest fits) refl

-- a command
pub cmd_reader : Reader cmd_at cmd_bytes IsCmd
cmd_reader = record { takes = cmd_takes; again = cmd_again }

-- a tag of a clip or of shapes is the first byte
pub tells_parts : (bytes rest : List ℕ) (tag : ℕ) → byte_at bytes ≡ Some (tag, rest) → (tag ≡ 2) ⊎ (tag ≡ 3)
    → TellsParts bytes
tells_parts [] rest tag e which = absurd cc
tells_parts (b ∷ bytes) rest tag e which =
    let same = some_pair_parts b tag bytes rest e in
    elim which [ inl two ↦ inl (same.0 ∙ two) | inr three ↦ inr (same.0 ∙ three) ]

-- a command that is read is the front of the bytes
pub is_front : (bytes rest : List ℕ) (cmd : CmdValue) → IsBytes bytes → cmd_at bytes ≡ Some (cmd, rest)
    → IsFront bytes cmd (length bytes - length rest)
is_front bytes rest cmd fits e =
    let t = cmd_takes bytes cmd rest fits e in
    let long : length bytes ≡ length (cmd_bytes cmd) + length rest =
    ap length t.0.parts ∙ length-append (cmd_bytes cmd) rest in
    let count : length bytes - length rest ≡ length (cmd_bytes cmd) = omega arith in
    record {
      inside = omega arith;
      spelled = rw (count, t.0.parts) (take_at (cmd_bytes cmd) rest (length (cmd_bytes cmd)) refl);
      command = t.1;
    }

-- where nothing is read no spelling is a front
pub has_no_front : (bytes : List ℕ) → cmd_at bytes ≡ None → HasNoFront bytes
has_no_front bytes e = λ cmd rest fits spelled.
    none-some (cmd, rest) (sym e ∙ ap cmd_at spelled ∙ cmd_again cmd rest fits)

-- no spelling is the front of another's
pub one_front : (a b : CmdValue) (after_a after_b : List ℕ) → IsCmd a → IsCmd b
    → cmd_bytes a ++ after_a ≡ cmd_bytes b ++ after_b → (a ≡ b) × (after_a ≡ after_b)
one_front a b after_a after_b fits_a fits_b same =
    some_pair_parts a b after_a after_b
    (sym (cmd_again a after_a fits_a) ∙ ap cmd_at same ∙ cmd_again b after_b fits_b)

-- what is found at the front of a spelling is its command
pub put_is_read : (put read : CmdValue) (after : List ℕ) (count : ℕ) → IsCmd put
    → IsFront (cmd_bytes put ++ after) read count
    → (read ≡ put) × (count ≡ length (cmd_bytes put))
put_is_read put read after count fits front =
    let whole = cmd_bytes put ++ after in
    let parts : cmd_bytes read ++ drop count whole ≡ whole =
    ap (λ (t : List ℕ). t ++ drop count whole) (sym front.spelled) ∙ take-append-drop count whole in
    let same = one_front read put (drop count whole) after front.command fits parts in
    let long : length (take count whole) ≡ length (cmd_bytes put) = ap length front.spelled
    ∙ ap (λ c. length (cmd_bytes c)) same.0 in
    (same.0, omega (arith, length-take count whole, front.inside, long))
