-- The machine's eight steps: where each is legal, and what it does (own rules).
--
-- A seat is free where it neither builds nor holds. The cache is full once it has as many entries as places. An
-- entry may go where it is ready and held by no seat. Entries stand in the order of their last use.
--
--   step      legal where                              entries then                phases then
--   --------  ---------------------------------------  --------------------------  ------------------------------
--   Hit       the seat is free;                        as before                   the seat holds res
--             the entry of res is of key and ready
--   Evict     the seat is free; key has no entry;      that of res is gone         as before
--             the cache is full; the first entry
--             that may go is that of res
--   Reserve   the seat is free; key has no entry;      a new one of key and res    the seat builds res
--             the cache isn't full;                    at the end, not ready
--             res is the next residency
--   Publish   the seat builds res                      that of res is ready        the seat holds res; who waits
--                                                                                  for res is called
--   Withdraw  the seat builds res                      that of res is gone         the seat is idle; who waits for
--                                                                                  res or for room is called
--   Release   the seat holds res                       that of res is at the end   the seat is idle; where no seat
--                                                                                  holds res any more, who waits
--                                                                                  for room is called
--   WaitKey   the seat is free;                        as before                   the seat waits for res
--             the entry of res is of key;
--             a seat builds it
--   WaitRoom  the seat is free; key has no entry;      as before                   the seat waits for room
--             the cache is full; each entry is built
--             or held by a seat
--
-- Reserve alone changes the next residency: it is one more then.
use Rattle.std.specs.Prelude.{◌≡◌, ℕ, ◌+◌, Option, Some, None, List, [], ◌∷◌, ◌++◌, Bool, false, ◌&&◌, ◌||◌, not, ◌==◌}
use Rattle.std.specs.Prelude.{nat_lt, nat_le, length, find, filter, map, replicate, slice_set, if◌then◌else◌}
use Rattle.std.specs.Prelude.{option_to_list}
use Rattle.std.specs.List.{list_any, list_all}
use Rattle.cache_core.specs.CoreState.{CoreStateValue}
use Rattle.cache_core.specs.Lookup.{phase_of, is_building, is_holding, is_free, has_res, has_key, entry_of, passes}
use Rattle.cache_core.specs.Lookup.{lacks_key, may_go, is_used}
use Rattle.cache_core.specs.declared.step.Entry.{Entry}
use Rattle.cache_core.specs.declared.step.Phase.{Phase}
use Rattle.cache_core.specs.declared.step.Phase.TheVariants.{Idle, Building, Holding, WaitKey as WaitsKey}
use Rattle.cache_core.specs.declared.step.Phase.TheVariants.{WaitRoom as WaitsRoom, Called}
use Rattle.cache_core.specs.declared.step.Step.{Step}
use Rattle.cache_core.specs.declared.step.Step.TheVariants.{Hit, Evict, Reserve, Publish, Withdraw, Release, WaitKey}
use Rattle.cache_core.specs.declared.step.Step.TheVariants.{WaitRoom}

-- whether there is such a seat, and it neither builds nor holds
abbrev pub is_free_seat : List Phase → ℕ → Bool
is_free_seat phases seat = nat_lt seat (length phases) && is_free (phase_of phases seat)

-- whether all places are used
abbrev pub is_full : CoreStateValue → Bool
is_full core = nat_le core.capacity (length core.entries)

-- whether the entry of a residency is of a key and ready
abbrev pub has_ready : List Entry → ℕ → ℕ → Bool
has_ready entries key res = passes (λ e. e.key == key && e.ready) (entry_of entries res)

-- whether the first entry that may go is that of a residency
abbrev pub goes_first : CoreStateValue → ℕ → Bool
goes_first core res = passes (has_res res) (find (may_go core.phases) core.entries)

-- whether the entry of a residency is of a key, and a seat builds it
abbrev pub is_being_built : CoreStateValue → ℕ → ℕ → Bool
is_being_built core key res = passes (has_key key) (entry_of core.entries res) && list_any (is_building res) core.phases

-- whether each entry is built or held by a seat
abbrev pub are_all_used : CoreStateValue → Bool
are_all_used core = list_all (is_used core.phases) core.entries

-- the second column of the table: whether a step is legal
unfoldable pub is_legal : CoreStateValue → Step → Bool
is_legal core (Hit seat key res) = is_free_seat core.phases seat && has_ready core.entries key res
is_legal core (Evict seat key res) =
    is_free_seat core.phases seat && (lacks_key key core.entries && (is_full core && goes_first core res))
is_legal core (Reserve seat key res) =
    is_free_seat core.phases seat && (lacks_key key core.entries && (not (is_full core) && res == core.next_res))
is_legal core (Publish seat res) = is_building res (phase_of core.phases seat)
is_legal core (Withdraw seat res) = is_building res (phase_of core.phases seat)
is_legal core (Release seat res) = is_holding res (phase_of core.phases seat)
is_legal core (WaitKey seat key res) = is_free_seat core.phases seat && is_being_built core key res
is_legal core (WaitRoom seat key) =
    is_free_seat core.phases seat && (lacks_key key core.entries && (is_full core && are_all_used core))

-- the entries but that of a residency
abbrev pub without : ℕ → List Entry → List Entry
without res entries = filter (λ e. not (has_res res e)) entries

-- the entries with that of a residency at the end
abbrev pub used_last : ℕ → List Entry → List Entry
used_last res entries = without res entries ++ option_to_list (entry_of entries res)

-- an entry, ready where it is that of a residency
abbrev pub built : ℕ → Entry → Entry
built res entry = record { key = entry.key; res = entry.res; ready = entry.ready || has_res res entry }

-- a phase once the entry of a residency is ready or gone: who waits for it is called
abbrev pub called_by_key : ℕ → Phase → Phase
called_by_key res (WaitsKey r) = if r == res then Called else WaitsKey r
called_by_key res phase = phase

-- a phase once there is room: who waits for it is called
abbrev pub called_by_room : Phase → Phase
called_by_room WaitsRoom = Called
called_by_room phase = phase

-- a phase once both have come
abbrev pub called_by_both : ℕ → Phase → Phase
called_by_both res phase = called_by_room (called_by_key res phase)

-- the third column: the entries after a step
unfoldable pub entries_after : List Entry → Step → List Entry
entries_after entries (Evict seat key res) = without res entries
entries_after entries (Reserve seat key res) = entries ++ record { key = key; res = res; ready = false } ∷ []
entries_after entries (Publish seat res) = map (built res) entries
entries_after entries (Withdraw seat res) = without res entries
entries_after entries (Release seat res) = used_last res entries
entries_after entries _ = entries

-- the phases once a seat has given a lease back: those waiting for room are called if it was the last one
abbrev pub given_back : ℕ → List Phase → List Phase
given_back res phases = if list_any (is_holding res) phases then phases else map called_by_room phases

-- the fourth column: the phases after a step
unfoldable pub phases_after : List Phase → Step → List Phase
phases_after phases (Hit seat key res) = slice_set phases seat (Holding res)
phases_after phases (Evict seat key res) = phases
phases_after phases (Reserve seat key res) = slice_set phases seat (Building res)
phases_after phases (Publish seat res) = slice_set (map (called_by_key res) phases) seat (Holding res)
phases_after phases (Withdraw seat res) = slice_set (map (called_by_both res) phases) seat Idle
phases_after phases (Release seat res) = given_back res (slice_set phases seat Idle)
phases_after phases (WaitKey seat key res) = slice_set phases seat (WaitsKey res)
phases_after phases (WaitRoom seat key) = slice_set phases seat WaitsRoom

-- the next residency after a step
abbrev pub next_after : ℕ → Step → ℕ
next_after next (Reserve seat key res) = next + 1
next_after next _ = next

-- the state after a step
abbrev pub after : CoreStateValue → Step → CoreStateValue
after core step =
    record {
      capacity = core.capacity;
      entries = entries_after core.entries step;
      phases = phases_after core.phases step;
      next_res = next_after core.next_res step;
    }

-- the step of a free seat that asks for a key without an entry in a full cache: the first entry that may go makes
-- room, else the seat waits
abbrev pub asked_when_full : ℕ → ℕ → Option Entry → Step
asked_when_full seat key (Some entry) = Evict seat key entry.res
asked_when_full seat key None = WaitRoom seat key

-- the same by the entry of the key, if there is one
abbrev pub asked_of : CoreStateValue → ℕ → ℕ → Option Entry → Step
asked_of core seat key (Some entry) = if entry.ready then Hit seat key entry.res else WaitKey seat key entry.res
asked_of core seat key None =
    if is_full core then asked_when_full seat key (find (may_go core.phases) core.entries)
    else Reserve seat key core.next_res

-- the step of a free seat that asks for a key: of Hit, Evict, Reserve, WaitKey and WaitRoom the one that is legal
unfoldable pub asked : CoreStateValue → ℕ → ℕ → Step
asked core seat key = asked_of core seat key (find (has_key key) core.entries)

-- whether no seat builds or holds
abbrev pub is_quiet : CoreStateValue → Bool
is_quiet core = list_all is_free core.phases

-- every phase becomes idle
abbrev pub idle : Phase → Phase
idle phase = Idle

-- the state with every seat idle
abbrev pub settled : CoreStateValue → CoreStateValue
settled core =
    record { capacity = core.capacity; entries = core.entries; phases = map idle core.phases; next_res = core.next_res }

-- a step by which a seat asks for a key
abbrev pub IsAsking : ℕ → ℕ → Step → Type 0
IsAsking seat key (Hit s k res) = (s ≡ seat) × (k ≡ key)
IsAsking seat key (Evict s k res) = (s ≡ seat) × (k ≡ key)
IsAsking seat key (Reserve s k res) = (s ≡ seat) × (k ≡ key)
IsAsking seat key (WaitKey s k res) = (s ≡ seat) × (k ≡ key)
IsAsking seat key (WaitRoom s k) = (s ≡ seat) × (k ≡ key)
IsAsking seat key _ = ⊥

-- by how many entries a step makes the cache longer
abbrev pub grows_by : Step → ℕ
grows_by (Reserve seat key res) = 1
grows_by _ = 0

-- a state without entries, with every seat idle
abbrev pub empty_core : ℕ → ℕ → CoreStateValue
empty_core capacity seats = record { capacity = capacity; entries = []; phases = replicate seats Idle; next_res = 0 }

-- the seat of a step
abbrev pub seat_of : Step → ℕ
seat_of (Hit seat key res) = seat
seat_of (Evict seat key res) = seat
seat_of (Reserve seat key res) = seat
seat_of (Publish seat res) = seat
seat_of (Withdraw seat res) = seat
seat_of (Release seat res) = seat
seat_of (WaitKey seat key res) = seat
seat_of (WaitRoom seat key) = seat
