use Rattle.arena_script.proofs.TextActs.{byte_acts}
use Rattle.arena_script.proofs.texts.byte.Goals as goal

pub returns : goal.returns
returns g c = byte_acts c.args.name c.args.byte c.args.things.now c.args.a.now c.append.new.a c.append.result c.append.ensures
