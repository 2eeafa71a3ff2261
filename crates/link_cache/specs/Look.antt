-- What a look tells, without the value.
use Rattle.link_cache.specs.Ticket.{Ticket}
use Rattle.link_cache.specs.declared.leases.Look.{Look}
use Rattle.link_cache.specs.declared.leases.Look.TheVariants.{Have, Build, Wait}

-- what a look tells: a lease, an order, or to wait
pub data LookValue : Type 0 where
  Has : Ticket → LookValue
  Builds : Ticket → LookValue
  Waits : LookValue

-- what a look is seen as
abbrev pub look_value : {V K : Type 0} → Look V K → LookValue
look_value (Have lease) = Has lease
look_value (Build order) = Builds order
look_value Wait = Waits
