use Rattle.std.proofs.Common.{◌∙◌, sym}
use Rattle.std.specs.Str.{bytes_eq}
use Rattle.press_words.specs.Values.{NamedFileValue}
use Rattle.press_words.specs.Code.Seen.{seen_file}
use Rattle.press_words.proofs.Walks.{any_mapped}
use Rattle.press_words.proofs.options.is_taken.Goals as goal

pub returns : goal.returns
returns c = c.any_has.ensures
    ∙ sym (any_mapped (λ (other : NamedFileValue). bytes_eq other.name c.args.name.now) seen_file c.args.named.now)
