-- What a publication asks of its order.
use Rattle.std.specs.Prelude.{◌≡◌, Some, true, slice_get}
use Rattle.cache_core.specs.Lookup.{phase_of, is_building, entry_of}
use Rattle.cache_core.specs.declared.step.Entry.{Entry}
use Rattle.link_cache.specs.CacheState.{CacheStateValue}
use Rattle.link_cache.specs.Ticket.{Ticket}

-- where the order's seat builds its entry, the key of the entry's number is the order's
abbrev pub IsInOrder : CacheStateValue → Ticket → Type 0
IsInOrder state order =
    is_building order.res (phase_of state.core.phases order.seat) ≡ true
    → (entry : Entry) → entry_of state.core.entries order.res ≡ Some entry
    → slice_get state.named entry.key ≡ Some order.mark
