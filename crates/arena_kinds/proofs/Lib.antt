mod ApartLemmas
mod AsksLemmas
mod MadeLemmas
mod BoxLemmas
pub mod Layers
