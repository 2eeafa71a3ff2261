use Rattle.std.proofs.Common.{◌≡◌, ◌<◌, ◌^◌, take}
use Rattle.press_words.specs.Text.{decimal_value}
use Rattle.press_words.proofs.lexing.value_of.Given as goal

-- the value of the digits so far
abbrev pub invariant-loop-digit : goal.invariant-loop-digit
invariant-loop-digit l = record {
  so_far : l.value ≡ decimal_value (take l.digit-index l.digits);
  bound : l.value < 10 ^ l.digit-index;
}
