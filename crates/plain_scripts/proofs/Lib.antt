mod LoopLemmas
mod TreeLemmas
