use Rattle.script_lines.proofs.CutLemmas as lemma
use Rattle.script_lines.proofs.laws.parts.Goals as goal

pub returns : goal.returns
returns c = λ bytes at first rest cut. lemma.read_together bytes at cut first rest
