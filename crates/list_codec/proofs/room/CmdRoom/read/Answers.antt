use Rattle.std.proofs.Common.{◌≡◌, ◌≤◌, List, ℕ, length, Some, ap, ◌∙◌, arith}
use Rattle.std.proofs.lemmas.List.{length-append}
use Rattle.list_codec.specs.Command.{CmdValue}
use Rattle.list_codec.specs.Spelling.{cmd_bytes}
use Rattle.list_codec.specs.Code.Reading.{cmd_at}
use Rattle.list_codec.proofs.Fronts.{IsBytes}
use Rattle.list_codec.proofs.Commands.{cmd_reader, is_front, has_no_front}
use Rattle.list_codec.proofs.room.CmdRoom.read.Goals as goal
use Rattle.list_codec.proofs.room.CmdRoom.read.Goals.{in-Ok, in-Err-NoCommand, in-Err-NoMemory}

-- what is left behind a command is no longer than the bytes
rest_inside : (bytes rest : List ℕ) (cmd : CmdValue) → IsBytes bytes → cmd_at bytes ≡ Some (cmd, rest)
    → length rest ≤ length bytes
rest_inside bytes rest cmd fits e =
    let t = cmd_reader.takes bytes cmd rest fits e in
    omega (arith, ap length t.0.parts ∙ length-append (cmd_bytes cmd) rest)

pub overflow_sub-result : goal.overflow_sub-result
overflow_sub-result c =
    rest_inside c.args.bytes.now c.in-Ok.rest.now _ (λ i. (c.type_inv.bytes i).fits) c.in-Ok.ensures.value

pub returns-clause-found : goal.returns-clause-found
returns-clause-found c =
    elim c.match-read_brief.branch [
      | in-Ok w ↦
          rw w.result-is
          (is_front c.args.bytes.now w.in-Ok.rest.now _ (λ i. (c.type_inv.bytes i).fits) w.in-Ok.ensures.value)
      | in-Err-NoCommand w ↦ rw w.result-is tt
      | in-Err-NoMemory w ↦ rw w.result-is tt
    ]

pub returns-clause-none : goal.returns-clause-none
returns-clause-none c =
    elim c.match-read_brief.branch [
      | in-Ok w ↦ rw w.result-is tt
      | in-Err-NoCommand w ↦
          rw w.result-is
          (has_no_front c.args.bytes.now (rw w.in-Err-NoCommand.field-0-is at w.in-Err-NoCommand.ensures.value))
      | in-Err-NoMemory w ↦ rw w.result-is tt
    ]
