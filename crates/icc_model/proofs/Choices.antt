-- What holds of each transform of a profile holds of the one that is chosen.
use Rattle.std.specs.Prelude.{ℕ, Bool, List, Option, Some, None}
use Rattle.icc_model.specs.Profile.{IsSuitedTransform, nth, or_else, chosen, number_of}
use Rattle.icc_model.specs.declared.profile.Transform.{Transform}
use Rattle.icc_model.specs.declared.profile.Intent.{Intent}

of_two : (way lab : Bool) (channels : ℕ) (a b : Option Transform) → IsSuitedTransform way lab channels a →
    IsSuitedTransform way lab channels b → IsSuitedTransform way lab channels (or_else a b)
of_two way lab channels (Some a) b h f = h
of_two way lab channels None b h f = f

-- where each transform of a profile is suited, so is the one chosen for an intent
pub suited : (way lab : Bool) (channels : ℕ) (transforms : List (Option Transform)) (intent : Intent) →
    ((number : ℕ) → IsSuitedTransform way lab channels (nth transforms number)) →
    IsSuitedTransform way lab channels (chosen transforms intent)
unfolding chosen
suited way lab channels transforms intent h =
    of_two way lab channels (nth transforms (number_of intent)) (nth transforms 0) (h (number_of intent)) (h 0)
