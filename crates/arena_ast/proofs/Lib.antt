mod CountLemmas
mod MoveLemmas
mod RangeLemmas
mod AstLemmas
pub mod Layers
