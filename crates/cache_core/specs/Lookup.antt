-- What a state says of a seat, a residency and a key.
use Rattle.std.specs.Prelude.{ℕ, List, Bool, true, false, ◌&&◌, ◌||◌, not, Option, Some, None, ◌==◌, find}
use Rattle.std.specs.Prelude.{slice_index_or, option_map}
use Rattle.std.specs.List.{list_any}
use Rattle.cache_core.specs.declared.step.Entry.{Entry}
use Rattle.cache_core.specs.declared.step.Phase.{Phase}
use Rattle.cache_core.specs.declared.step.Phase.TheVariants.{Idle, Building, Holding}

-- the phase of a seat; what is no seat is idle
abbrev pub phase_of : List Phase → ℕ → Phase
phase_of phases seat = slice_index_or phases seat Idle

-- whether a phase is to build the entry of a residency
abbrev pub is_building : ℕ → Phase → Bool
is_building res (Building r) = r == res
is_building res _ = false

-- whether a phase is to hold the entry of a residency
abbrev pub is_holding : ℕ → Phase → Bool
is_holding res (Holding r) = r == res
is_holding res _ = false

-- whether a phase is to build or to hold it
abbrev pub is_using : ℕ → Phase → Bool
is_using res phase = is_building res phase || is_holding res phase

-- whether a phase is neither to build nor to hold
abbrev pub is_free : Phase → Bool
is_free (Building r) = false
is_free (Holding r) = false
is_free _ = true

-- whether an entry is the one of a residency
abbrev pub has_res : ℕ → Entry → Bool
has_res res entry = entry.res == res

-- whether an entry is of a key
abbrev pub has_key : ℕ → Entry → Bool
has_key key entry = entry.key == key

-- the entry of a residency, if there is one
abbrev pub entry_of : List Entry → ℕ → Option Entry
entry_of entries res = find (has_res res) entries

-- whether the entry of a residency is ready, if there is one
abbrev pub ready_of : List Entry → ℕ → Option Bool
ready_of entries res = option_map (λ (e : Entry). e.ready) (entry_of entries res)

-- whether an entry is there and passes a test
abbrev pub passes : (Entry → Bool) → Option Entry → Bool
passes test None = false
passes test (Some entry) = test entry

-- whether a key has no entry
abbrev pub lacks_key : ℕ → List Entry → Bool
lacks_key key entries = not (list_any (has_key key) entries)

-- whether an entry may go: it is ready, and no seat holds it
abbrev pub may_go : List Phase → Entry → Bool
may_go phases entry = entry.ready && not (list_any (is_holding entry.res) phases)

-- whether a seat builds or holds an entry
abbrev pub is_used : List Phase → Entry → Bool
is_used phases entry = list_any (is_using entry.res) phases

-- what others may rely on of a phase: what it builds or holds
abbrev pub busy : Phase → Phase
busy (Building r) = Building r
busy (Holding r) = Holding r
busy _ = Idle
