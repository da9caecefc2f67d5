mod KindLemmas
mod StackLemmas
mod PoolLemmas
mod KeptLemmas
mod ClaimLemmas
mod OwnerLemmas
pub mod Layers
