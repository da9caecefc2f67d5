use Rattle.example_parser.proofs.calls.name.Goals as goal

pub returns : goal.returns
returns g c =
    c.part_law.ensures.first c.args.a.now.memory c.name.new.a.memory c.args.calls.now.first c.name.new.self c.args.calls.now.second
    c.requires c.name.ensures.moves
