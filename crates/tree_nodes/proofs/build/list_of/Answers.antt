use Rattle.tree_nodes.proofs.RowLemmas.{row_of}
use Rattle.tree_nodes.proofs.build.list_of.Goals as goal

pub returns-clause-row : goal.returns-clause-row
returns-clause-row g c = λ ts old gathered.
    let grows = c.in-Ok.ensures in
    row_of ts gathered c.in_ok-list.ensures.row grows.held grows.list_is grows.frame
