use Rattle.example_parser.proofs.calls.add.Goals as goal

pub returns : goal.returns
returns g c =
    c.part_law.ensures.first c.args.a.now.memory c.add.new.a.memory c.args.calls.now.first c.add.new.self c.args.calls.now.second
    c.requires c.add.ensures.moves
