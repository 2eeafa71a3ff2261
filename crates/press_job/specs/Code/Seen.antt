-- How the code keeps what the words ask for. Own rule: words of the code alone.
use Rattle.press_job.specs.declared.asking.Asked.{Asked as Kept}
use Rattle.press_job.specs.declared.asking.Source.{Source as Place}
use Rattle.press_job.specs.declared.asking.Source.TheVariants as At
use Rattle.press_job.specs.Asked.{AskedValue, SourceValue, File, Sample}

-- where the program comes from, with the text that it refers to
abbrev pub seen_source : Place → SourceValue
seen_source (At.File name) = File name.now
seen_source (At.Sample n) = Sample n

-- what is asked for, with the text that it refers to
abbrev pub seen : Kept → AskedValue
seen a = record { page = a.page; depth = a.depth; source = seen_source a.source; report = a.report }
