-- A `&` to a block's memory reaches its bytes. Assumes `Logic`.
use denote.Struct.Lending.{of_Lends}
use Rattle.arena_region.specs.contracts.store.Store as C
use Rattle.arena_region.proofs.store.Store.TheLaw.Statement.{statement}
use Rattle.arena_region.proofs.Sharing.{store_lends_laws, Lends-store}

pub shares : statement
shares =
    of_Lends C.struct C.the_codes C.the_heap C.the_lent (λ d p. store_lends_laws d.at d.room d.ready) tt
    (λ M 𝓤 𝓛 d p. Lends-store 𝓛 C.the_row.lives d.at d.room d.ready)
