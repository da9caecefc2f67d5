use denote.Param.Send.{IsSync, struct_sync}
use denote.Struct.Owning.{shape}
use Rattle.arena_region.proofs.Sharing.{store-common}
use Rattle.arena_region.specs.contracts.store.Store as C

pub sync : IsSync C.the_row
sync = record { shared = λ s b o κ. ((struct_sync (shape C.the_type) tt).shared tt b o κ, store-common s.at s.room s.ready κ) }
