use denote.Param.Send.{IsSend, owning_send}
use Rattle.arena_region.proofs.Sharing.{store-keyless}
use Rattle.arena_region.specs.contracts.store.Store as C

pub send : IsSend C.the_row
send = owning_send C.the_type tt (λ s. store-keyless s.at s.room s.ready) (λ k x w. tt)
