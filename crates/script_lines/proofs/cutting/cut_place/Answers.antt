use Rattle.std.proofs.Common.{Some}
use Rattle.script_lines.specs.Cutting.{script_mark}
use Rattle.script_lines.proofs.CutLemmas.{found}
use Rattle.script_lines.proofs.cutting.cut_place.Goals as goal

pub returns : goal.returns
returns c = found c.args.bytes.now script_mark c.args.from c.requires (Some c.in_ok-at.at) (rw c.in_ok-at.was at c.find.ensures)
