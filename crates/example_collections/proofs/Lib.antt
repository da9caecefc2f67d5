mod SortingLemmas
mod TakingLemmas
mod PushingLemmas
mod BranchLemmas
mod BesideLemmas
mod ByteLemmas
mod FillingLemmas
mod RowLemmas
