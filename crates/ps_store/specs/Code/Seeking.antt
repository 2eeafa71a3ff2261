-- What a dictionary is asked by. Own rule: words of the code alone.
use Rattle.ps_store.specs.declared.key.Key.{Key}
use Rattle.ps_store.specs.declared.key.Key.TheVariants.{Named}
use Rattle.ps_store.specs.declared.sought.By.{By}
use Rattle.ps_store.specs.declared.sought.By.TheVariants.{Key as Whole, Name}

-- the key that is asked for: itself, or that of a name
abbrev pub key_by : By → Key
key_by (Whole key) = key
key_by (Name name) = Named name
